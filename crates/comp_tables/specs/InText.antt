-- What is built of an expanded scope, with the marks of its definitions in the numbers of the text.
use Rattle.std.specs.Prelude.{List, [], ◌∷◌, ◌++◌, ⊤}
use Rattle.comp_model.specs.Model.{Leaf, present, node, nodes, scope, Leaves, no_leaf, ◌▸◌, row, Nodes, no_node, one_node, define, Defs, no_def, one_def, Scope, scope_of, defs_of}
use Rattle.comp_model.specs.Spaces.{declares_row}
use Rattle.comp_model.specs.Origins.{Held, holds_none, holds}
use Rattle.comp_expanded.specs.ListMarks.{ListMarks, no_marks, mark_then, Inside, nothing_inside, inside_are}
use Rattle.comp_scopes.specs.Encoding.{Encoding}
use Rattle.comp_model.specs.ItemNames.{has_names}
use Rattle.comp_scopes.specs.Form.{Made, coded_node, origins_of, held_first}
use Rattle.comp_expanded.specs.Expansion.{Entry}
use Rattle.comp_expanded.specs.TextNumbers.{definition_of, mark_in_text, list_of_mark, held_in_text}
use Rattle.comp_tables.specs.Tables.{Counters, no_counts, advanced, Opened, past, needs, found_indices}
use Rattle.comp_tables.specs.Built.{table_for, open_scope, made_names, renumbered}

-- ---- a mark for each definition, and marks inside where a scope stands

abbrev mutual
  pub Marked : Defs → ListMarks → Type 0
  Marked no_def ms = ⊤
  Marked (one_def (define names (row t ls)) ds) no_marks = ⊥
  Marked (one_def (define names (row t ls)) ds) (mark_then o ps h ms) = LeavesMarked ls h × Marked ds ms

  pub LeavesMarked : Leaves → Inside → Type 0
  LeavesMarked no_leaf h = ⊤
  LeavesMarked (l ▸ ls) h = LeafMarked l h × LeavesMarked ls h

  pub LeafMarked : Leaf → Inside → Type 0
  LeafMarked (scope (scope_of kd id label ds)) nothing_inside = ⊥
  LeafMarked (scope (scope_of kd id label ds)) (inside_are ms) = Marked ds ms
  LeafMarked (present l) h = LeafMarked l h
  LeafMarked (node (row t ls)) h = LeavesMarked ls h
  LeafMarked (nodes ns) h = NodesMarked ns h
  LeafMarked _ h = ⊤

  pub NodesMarked : Nodes → Inside → Type 0
  NodesMarked no_node h = ⊤
  NodesMarked (one_node (row t ls) ns) h = LeavesMarked ls h × NodesMarked ns h

-- a planned definition of the list with its mark, and the marks in it, in the numbers of the text
abbrev pub in_text : List Entry → Made → Made
in_text L m = record { origin = mark_in_text L m.origin; held = held_in_text (list_of_mark L m.origin) m.held; made = m.made }

-- ---- the definitions of a scope, and the marks inside them

module _ (e : Encoding) where
  abbrev mutual
    pub text_defs : List Opened → Counters → Defs → ListMarks → List Made
    text_defs os c no_def ms = []
    text_defs os c (one_def (define names (row t ls)) ds) no_marks = []
    text_defs os c (one_def (define names (row t ls)) ds) (mark_then o ps h ms) =
        (needs os (definition_of o) ps ls c ++ record { origin = o; held = text_held os ls h; made = coded_node e t ls (renumbered e os (found_indices os ls c) 0 ls) } ∷ [])
        ++ text_defs os (advanced (declares_row t ls) (past os ls c)) ds ms

    pub text_held : List Opened → Leaves → Inside → Held
    text_held os no_leaf h = holds_none
    text_held os (l ▸ ls) h = held_first (text_held_leaf os l h) (text_held os ls h)

    pub text_held_leaf : List Opened → Leaf → Inside → Held
    text_held_leaf os (scope (scope_of kd id label ds)) nothing_inside = holds_none
    text_held_leaf os (scope (scope_of kd id label ds)) (inside_are ms) = holds (origins_of (text_defs (open_scope os (scope_of kd id label ds) ∷ os) no_counts ds ms
        ++ made_names e (table_for os (scope_of kd id label ds)) (scope_of kd id label ds) (has_names (scope_of kd id label ds))))
    text_held_leaf os (present l) h = text_held_leaf os l h
    text_held_leaf os (node (row t ls)) h = text_held os ls h
    text_held_leaf os (nodes ns) h = text_held_nodes os ns h
    text_held_leaf os _ h = holds_none

    pub text_held_nodes : List Opened → Nodes → Inside → Held
    text_held_nodes os no_node h = holds_none
    text_held_nodes os (one_node (row t ls) ns) h = held_first (text_held os ls h) (text_held_nodes os ns h)

  -- of an expanded scope with marks `ms`
  abbrev pub text_scope : List Opened → Scope → ListMarks → List Made
  text_scope os s ms = text_defs (open_scope os s ∷ os) no_counts (defs_of s) ms ++ made_names e (table_for os s) s (has_names s)
