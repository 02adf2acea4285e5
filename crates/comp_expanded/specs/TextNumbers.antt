-- The marks of the plan of an expanded list as marks of the text: by the numbers in the text that stand with its definitions.
use Rattle.std.specs.Prelude.{ℕ, zero, suc, List, [], ◌∷◌, slice_index, Option, Some, None}
use Rattle.comp_model.specs.Model.{Leaf, present, node, nodes, scope, Leaves, no_leaf, ◌▸◌, row, Nodes, no_node, one_node, define, Defs, no_def, one_def, Scope, defs_of}
use Rattle.comp_model.specs.Origins.{Origin, written, inline_type, bundle_of, inline_export, export_step, outer_alias_of, name_section, Origins, no_origins, origin_then, Held, holds_none, holds}
use Rattle.comp_scopes.specs.Names.{first_of_two}
use Rattle.comp_expanded.specs.ListMarks.{ListMarks, no_marks, mark_then, Inside, nothing_inside, inside_are}
use Rattle.comp_expanded.specs.Expansion.{Entry}

-- each definition of an expanded list beside its mark
abbrev pub entries : Defs → ListMarks → List Entry
entries no_def ms = []
entries (one_def (define ns (row t ls)) ds) no_marks = []
entries (one_def (define ns (row t ls)) ds) (mark_then o ps h ms) = record { origin = o; places = ps; held = h; names = ns; head = t; leaves = ls } ∷ entries ds ms

-- the mark of definition j of a list, and the numbers of its references
abbrev pub origin_at : List Entry → ℕ → Origin
origin_at [] j = name_section
origin_at (d ∷ ds) zero = d.origin
origin_at (d ∷ ds) (suc j) = origin_at ds j

abbrev pub places_at : List Entry → ℕ → List ℕ
places_at [] j = []
places_at (d ∷ ds) zero = d.places
places_at (d ∷ ds) (suc j) = places_at ds j

-- the definition of the text to which a mark belongs
abbrev pub definition_of : Origin → ℕ
definition_of (written k) = k
definition_of (inline_type k u) = k
definition_of (bundle_of k u) = k
definition_of (inline_export k j) = k
definition_of (export_step k u i) = k
definition_of (outer_alias_of k u) = k
definition_of name_section = 0

-- the number in the text of reference u of definition j
abbrev pub text_number_at : List Entry → ℕ → ℕ → ℕ
text_number_at ds j u = slice_index (places_at ds j) u

-- a mark of the expanded scope as a mark of the text
abbrev pub mark_in_text : List Entry → Origin → Origin
mark_in_text ds (written j) = origin_at ds j
mark_in_text ds (export_step j u i) = export_step (definition_of (origin_at ds j)) (text_number_at ds j u) i
mark_in_text ds (outer_alias_of j u) = outer_alias_of (definition_of (origin_at ds j)) (text_number_at ds j u)
mark_in_text ds o = o

-- the scope in leaves, if one stands there
abbrev mutual
  pub scope_in : Leaves → Option Scope
  scope_in no_leaf = None
  scope_in (l ▸ ls) = first_of_two (scope_in_leaf l) (scope_in ls)

  pub scope_in_leaf : Leaf → Option Scope
  scope_in_leaf (present l) = scope_in_leaf l
  scope_in_leaf (node (row t ls)) = scope_in ls
  scope_in_leaf (nodes ns) = scope_in_nodes ns
  scope_in_leaf (scope s) = Some s
  scope_in_leaf _ = None

  pub scope_in_nodes : Nodes → Option Scope
  scope_in_nodes no_node = None
  scope_in_nodes (one_node (row t ls) ns) = first_of_two (scope_in ls) (scope_in_nodes ns)

-- the list inside a definition: its scope with the marks that it holds
abbrev pub list_inside : Option Scope → Inside → List Entry
list_inside None h = []
list_inside (Some s) nothing_inside = []
list_inside (Some s) (inside_are ms) = entries (defs_of s) ms

-- the list inside definition j
abbrev pub list_at : List Entry → ℕ → List Entry
list_at [] j = []
list_at (d ∷ ds) zero = list_inside (scope_in d.leaves) d.held
list_at (d ∷ ds) (suc j) = list_at ds j

-- the list inside the definition of a mark
abbrev pub list_of_mark : List Entry → Origin → List Entry
list_of_mark ds (written j) = list_at ds j
list_of_mark ds o = []

-- the marks of the expanded scope, with those of the scopes in it, in the numbers of the text
abbrev mutual
  pub marks_in_text : List Entry → Origins → Origins
  marks_in_text ds no_origins = no_origins
  marks_in_text ds (origin_then o h os) = origin_then (mark_in_text ds o) (held_in_text (list_of_mark ds o) h) (marks_in_text ds os)

  pub held_in_text : List Entry → Held → Held
  held_in_text ds holds_none = holds_none
  held_in_text ds (holds os) = holds (marks_in_text ds os)
