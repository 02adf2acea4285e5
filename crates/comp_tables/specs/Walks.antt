-- The passes over a scope as a program makes them: one walk that counts and one that reads, each with a state that grows leaf by leaf.
use Rattle.std.specs.Prelude.{ℕ, ◌+◌, List, [], ◌∷◌, ◌++◌, drop, set, slice_index, Option, None}
use Rattle.comp_model.specs.declared.Space.{Space}
use Rattle.comp_model.specs.declared.row.Row.{Row}
use Rattle.comp_model.specs.Core.{Id}
use Rattle.comp_model.specs.Model.{Leaf, present, node, nodes, Leaves, no_leaf, ◌▸◌, row, Nodes, no_node, one_node, define, Defs, no_def, one_def, Scope, id_of, defs_of}
use Rattle.comp_model.specs.Spaces.{code_of_space, declares_row, declarations}
use Rattle.comp_model.specs.Origins.{Origin}
use Rattle.comp_expanded.specs.ListMarks.{ListMarks, no_marks, mark_then, Inside}
use Rattle.comp_scopes.specs.Encoding.{Encoding}
use Rattle.comp_scopes.specs.Names.{first_of_two}
use Rattle.comp_scopes.specs.References.{references_leaf}
use Rattle.comp_scopes.specs.Rule.{case_ids}
use Rattle.comp_scopes.specs.Unmet.{Unmet, unmet_cases}
use Rattle.comp_model.specs.ItemNames.{has_names}
use Rattle.comp_scopes.specs.Form.{Made, coded_node}
use Rattle.comp_expanded.specs.TextNumbers.{definition_of}
use Rattle.comp_tables.specs.Tables.{Counters, no_counts, advanced, nothing_registered, first_taken, Opened, opened, past_leaf, first_index, unmet_kinds_leaf, found_indices_leaf, needs_leaf}
use Rattle.comp_tables.specs.Built.{registry_of, half_open, missing_roots, Outcome, done, outcome, and_then, missing_leaf, made_names, renumbered}
use Rattle.comp_tables.specs.InText.{text_held}

-- ---- counters in a list, one for each space by its number

abbrev pub counters_in : List ℕ → Space → ℕ
counters_in xs s = slice_index xs (code_of_space s)

abbrev pub one_more : List ℕ → Space → List ℕ
one_more xs s = set xs (code_of_space s) (slice_index xs (code_of_space s) + 1)

abbrev pub all_more : List ℕ → List Space → List ℕ
all_more xs [] = xs
all_more xs (s ∷ ss) = all_more (one_more xs s) ss

-- ---- counting

-- along the references of one definition: the counters, and the first refusal
pub record CountState : Type 0 where
  pub counters : Counters
  pub refused : Option Unmet

-- past a leaf
abbrev pub count_one : List Opened → Leaf → CountState → CountState
count_one os l q = record { counters = past_leaf os l q.counters; refused = first_of_two q.refused (unmet_kinds_leaf os l) }

abbrev mutual
  pub count : List Opened → Leaves → CountState → CountState
  count os no_leaf q = q
  count os (l ▸ ls) q = count os ls (count_leaf os l q)

  pub count_leaf : List Opened → Leaf → CountState → CountState
  count_leaf os (present l) q = count_leaf os l q
  count_leaf os (node (row t ls)) q = count os ls q
  count_leaf os (nodes ns) q = count_nodes_of os ns q
  count_leaf os l q = count_one os l q

  pub count_nodes_of : List Opened → Nodes → CountState → CountState
  count_nodes_of os no_node q = q
  count_nodes_of os (one_node (row t ls) ns) q = count_nodes_of os ns (count os ls q)

-- along the definitions of a scope: the counters, the table so far, and the first refusal
pub record TableState : Type 0 where
  pub counters : Counters
  pub table : List ℕ
  pub refused : Option Unmet

-- at the head of a scope
abbrev pub table_start : TableState
table_start = record { counters = no_counts; table = []; refused = None }

-- past a definition, whose references were counted
abbrev pub table_one : List Space → CountState → TableState → TableState
table_one ss q w = record { counters = advanced ss q.counters; table = w.table ++ first_index ss q.counters ∷ []; refused = q.refused }

abbrev pub table_defs : List Opened → Defs → TableState → TableState
table_defs os no_def w = w
table_defs os (one_def (define names (row t ls)) ds) w = table_defs os ds (table_one (declares_row t ls) (count os ls (record { counters = w.counters; refused = w.refused })) w)

-- ---- reading

-- along the references of one definition: the counters, the numbers in the text of the references that are left, the indices so far, what
-- stands before the definition so far, with marks of the text, and the first refusal
pub record ReadState : Type 0 where
  pub counters : Counters
  pub places : List ℕ
  pub indices : List ℕ
  pub needs : List Made
  pub refused : Option Unmet

-- at the first reference of a definition
abbrev pub reading_from : Counters → List ℕ → ReadState
reading_from c vs = record { counters = c; places = vs; indices = []; needs = []; refused = None }

-- a refusal, unless there is one
abbrev pub refusing : Option Unmet → ReadState → ReadState
refusing x r = record { counters = r.counters; places = r.places; indices = r.indices; needs = r.needs; refused = first_of_two r.refused x }

-- past a part: the counters behind it, its references of the text, its indices, what it needs, its refusal
abbrev pub read_past : ReadState → Counters → ℕ → List ℕ → List Made → Option Unmet → ReadState
read_past r c m is ds x = record { counters = c; places = drop m r.places; indices = r.indices ++ is; needs = r.needs ++ ds; refused = first_of_two r.refused x }

module _ (e : Encoding) (os : List Opened) (j : ℕ) where
  -- past a leaf of a definition that is part of definition j of the text; an inner scope's refusal is one here
  abbrev pub read_one : Leaf → ReadState → ReadState
  read_one l r = read_past r (past_leaf os l r.counters) (references_leaf l) (found_indices_leaf os l r.counters) (needs_leaf os j r.places l r.counters) (missing_leaf e os l)

  abbrev mutual
    pub read : Leaves → ReadState → ReadState
    read no_leaf r = r
    read (l ▸ ls) r = read ls (read_leaf l r)

    pub read_leaf : Leaf → ReadState → ReadState
    read_leaf (present l) r = read_leaf l r
    read_leaf (node (row t ls)) r = read ls r
    read_leaf (nodes ns) r = read_nodes [] ns r
    read_leaf l r = read_one l r

    -- `earlier` are the case ids of the nodes before
    pub read_nodes : List Id → Nodes → ReadState → ReadState
    read_nodes earlier no_node r = r
    read_nodes earlier (one_node (row t ls) ns) r = read_nodes (case_ids ls ++ earlier) ns (read ls (refusing (unmet_cases earlier (case_ids ls)) r))

-- ---- the whole

module _ (e : Encoding) where
  -- definition by definition: the roots of its paths, its leaves, then what stands before it and itself, or the refusal
  abbrev pub run_one : List Opened → Origin → Inside → Row → Leaves → ReadState → Outcome
  run_one os o h t ls r = outcome (first_of_two (missing_roots os ls) r.refused) (r.needs ++ record { origin = o; held = text_held e os ls h; made = coded_node e t ls (renumbered e os r.indices 0 ls) } ∷ [])

  abbrev pub run_defs : List Opened → Counters → Defs → ListMarks → Outcome
  run_defs os c no_def ms = done []
  run_defs os c (one_def (define names (row t ls)) ds) no_marks = done []
  run_defs os c (one_def (define names (row t ls)) ds) (mark_then o ps h ms) =
      and_then (run_one os o h t ls (read e os (definition_of o) ls (reading_from c ps)))
      (run_defs os (advanced (declares_row t ls) (read e os (definition_of o) ls (reading_from c ps)).counters) ds ms)

  -- behind the counting of a scope
  abbrev pub run_counted : List Opened → Scope → ListMarks → TableState → Outcome
  run_counted os s ms w =
      and_then (outcome w.refused []) (and_then (run_defs (opened (id_of s) (registry_of s) w.table ∷ os) no_counts (defs_of s) ms) (done (made_names e w.table s (has_names s))))

  -- a scope with its marks: registered, counted, built, named
  abbrev pub run : List Opened → Scope → ListMarks → Outcome
  run os s ms = and_then (outcome (first_taken nothing_registered (declarations s)) []) (run_counted os s ms (table_defs (half_open s ∷ os) (defs_of s) table_start))
