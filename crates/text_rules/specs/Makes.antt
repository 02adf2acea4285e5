-- What a value that is read by a rule leaves.
use Rattle.std.specs.Prelude.{ℕ, List, [], ◌∷◌, ◌++◌, Bool, true, false, cond, nat_eq, slice_index, Some, None}
use Rattle.comp_model.specs.declared.Space.{Space}
use Rattle.comp_model.specs.Core as core
use Rattle.comp_model.specs.Model as m
use Rattle.comp_model.specs.Model.{no_leaf, ◌▸◌}
use Rattle.comp_model.specs.declared.row.Row.TheVariants as rows
use Rattle.comp_model.specs.RowNumbers.{same_row}
use Rattle.wast_grammar.specs.Grammar as g
use Rattle.wast_grammar.specs.Grammar.{Value, none, num, numeral_at, name_at, text, both, left, right, part_at, numbered}
use Rattle.text_rules.specs.Made.{Made, empty, join, nodes_from, defs_from, node_made, def_made, first_leaf, first_place, first_row, path_of, heap_of, turned, joined_text, numbered_lists}
use Rattle.text_rules.specs.Rule.{Rule, nothing, before, after, placed, keeps, reference, told, pair, either, by_test, many, many_by, case, no_case, row, checked, also, wraps, outside, Adds, a_row, a_number, a_kind, no_part, no_case_id, no_id, no_label, Keeps, a_text, a_count, an_id, a_case, a_label, an_export, Wraps, inline, bundle, a_node, an_entry, a_list, a_part, a_def, a_scope, swapped, outer, Outside, an_extern_name, a_plain_name, core_fields, some_core_fields, a_string, a_core_value, dropped, path, heap, results, last_first, joined, by_number, alone, marks, silent, skipping}
use Rattle.text_rules.specs.CoreMade.{core_module_of}
use Rattle.text_rules.specs.Table.{table}

-- one loose part
abbrev pub a_leaf : m.Leaf → Made
a_leaf x = record { rows = []; leaves = x ∷ []; nodes = []; ids = []; labels = []; exports = []; places = []; defs = [] }

abbrev pub adds : Adds → Made
adds (a_row t) = record { rows = t ∷ []; leaves = []; nodes = []; ids = []; labels = []; exports = []; places = []; defs = [] }
adds (a_number n) = a_leaf (m.number n)
adds (a_kind s) = a_leaf (m.kind s)
adds (a_core_value v) = a_leaf (m.core_value v)
adds no_part = a_leaf m.absent
adds no_case_id = a_leaf (m.case_id None)
adds no_id = record { rows = []; leaves = []; nodes = []; ids = None ∷ []; labels = []; exports = []; places = []; defs = [] }
adds no_label = record { rows = []; leaves = []; nodes = []; ids = []; labels = None ∷ []; exports = []; places = []; defs = [] }

abbrev pub an_id_made : core.Id → Made
an_id_made x = record { rows = []; leaves = []; nodes = []; ids = Some x ∷ []; labels = []; exports = []; places = []; defs = [] }

abbrev pub a_label_made : core.Text → Made
a_label_made t = record { rows = []; leaves = []; nodes = []; ids = []; labels = Some t ∷ []; exports = []; places = []; defs = [] }

abbrev pub an_export_made : core.Text → Made
an_export_made t = record { rows = []; leaves = []; nodes = []; ids = []; labels = []; exports = t ∷ []; places = []; defs = [] }

abbrev pub a_place_made : Bool → ℕ → Made
a_place_made false n = empty
a_place_made true n = record { rows = []; leaves = []; nodes = []; ids = []; labels = []; exports = []; places = n ∷ []; defs = [] }

-- a token that is kept
abbrev pub kept_made : Keeps → Value → Made
kept_made a_text (text t) = a_leaf (m.text t)
kept_made a_string (text t) = a_leaf (m.text t)
kept_made a_count (num n) = a_leaf (m.number n)
kept_made an_id (name_at name k o) = an_id_made (record { name = name; number = k; offset = o })
kept_made a_case (name_at name k o) = a_leaf (m.case_id (Some (record { name = name; number = k; offset = o })))
kept_made a_label (text t) = a_label_made t
kept_made an_export (text t) = an_export_made t
kept_made k v = empty

abbrev pub place_made : Bool → Value → Made
place_made b (part_at o v) = a_place_made b o
place_made b v = empty

-- an index
abbrev pub target : core.Reach → Value → m.Target
target reach (left (name_at name k o)) = m.name reach (record { name = name; number = k; offset = o })
target reach (right (numeral_at n o)) = m.numeral o n
target reach v = m.numeral 0 0

abbrev pub reference_made : Space → core.Reach → Value → Made
reference_made u r v = a_leaf (m.ref u (target r v))

abbrev pub told_made : List ℕ → Value → Made
told_made ns (num n) = a_leaf (m.number (slice_index ns n))
told_made ns v = empty

-- ---- names of imports and exports

abbrev pub attribute : Value → m.Leaf
attribute (left (text t)) = m.present (m.text t)
attribute v = m.absent

-- a text, or one with attributes as a node
abbrev pub extern_name : core.Text → Value → Value → Value → m.Leaf
extern_name name (right a) (right b) (right c) = m.text name
extern_name name a b c = m.node (m.row rows.AttributedName (m.text name ▸ attribute a ▸ attribute b ▸ attribute c ▸ no_leaf))

abbrev pub outside_made : Outside → Value → Made
outside_made an_extern_name (both (text name) (both a (both b (both c v)))) = a_leaf (extern_name name a b c)
outside_made a_plain_name (text name) = a_leaf (m.text name)
outside_made core_fields v = a_leaf (m.core_source (core_module_of v))
outside_made some_core_fields v = a_leaf (m.core_source (core_module_of v))
outside_made o v = empty

-- ---- what is made of all that a part leaves

abbrev pub place_of : ℕ → m.Target → core.Place
place_of offset (m.name r x) = core.named offset x
place_of offset (m.numeral o n) = core.counted offset n
place_of offset t = core.counted offset 0

abbrev pub at_place : core.Place → m.Target → m.Target
at_place p (m.name r x) = m.name (core.at_place p) x
at_place p t = t

-- the leaves of an alias whose word stands at the offset
abbrev pub alias_leaves : ℕ → List m.Leaf → List m.Leaf
alias_leaves offset (m.ref u s ∷ m.ref v t ∷ m.kind k ∷ []) = m.place (place_of offset s) ∷ m.ref k (at_place (place_of offset s) t) ∷ m.kind k ∷ []
alias_leaves offset ls = ls

abbrev pub swap : List m.Leaf → List m.Leaf
swap (a ∷ b ∷ c ∷ []) = a ∷ c ∷ b ∷ []
swap ls = ls

abbrev pub wrapped : Wraps → Made → Made
wrapped (inline u) a = record a { rows = []; leaves = m.ref u (m.inline (node_made a)) ∷ [] }
wrapped (bundle u) a = record a { rows = []; leaves = m.ref u (m.bundle (node_made a)) ∷ [] }
wrapped a_node a = record a { rows = []; leaves = m.node (node_made a) ∷ [] }
wrapped an_entry a = record a { rows = []; leaves = []; nodes = a.nodes ++ node_made a ∷ [] }
wrapped a_list a = record a { nodes = []; leaves = a.leaves ++ m.nodes (nodes_from a.nodes) ∷ [] }
wrapped a_part a = record a { leaves = m.present (first_leaf a.leaves) ∷ [] }
wrapped a_def a = record { rows = []; leaves = []; nodes = a.nodes; ids = []; labels = []; exports = []; places = []; defs = a.defs ++ def_made a ∷ [] }
wrapped (a_scope k) a = record a { defs = []; leaves = a.leaves ++ m.scope (m.scope_of k None None (defs_from a.defs)) ∷ [] }
wrapped swapped a = record a { leaves = swap a.leaves }
wrapped outer a = record a { leaves = alias_leaves (first_place a.places) a.leaves }
wrapped dropped a = empty
wrapped path a = record a { leaves = path_of a.leaves }
wrapped (heap b) a = record a { leaves = heap_of b a.leaves }
wrapped results a = record a { leaves = a.leaves ++ m.result_ids a.ids ∷ [] }
wrapped last_first a = record a { leaves = turned a.leaves }
wrapped joined a = record a { leaves = m.text (joined_text a.leaves) ∷ [] }
wrapped (by_number n) a = record a { nodes = []; leaves = a.leaves ++ numbered_lists 0 n a.nodes }
wrapped (alone t) a = cond (same_row (first_row a.rows) t) (record empty { rows = a.rows }) a

-- ---- the whole

abbrev pub of_both : Value → Made → Made
of_both (both x y) a = a
of_both v a = empty

abbrev pub of_side : Value → Made → Made → Made
of_side (left x) a b = a
of_side (right x) a b = b
of_side v a b = empty

abbrev pub of_case : ℕ → Value → Made → Made → Made
of_case n (numbered k x) a b = cond (nat_eq n k) a b
of_case n v a b = empty

-- of a part with its offset
abbrev pub of_part : Value → Made → Made
of_part (part_at o v) a = join (a_place_made true o) a
of_part v a = empty

-- by what rows leave, and what the one or the other part of the value does
abbrev pub made_by : (g.Row → Made) → (Rule → Made) → (Rule → Made) → Value → Rule → Made
made_by k f h v nothing = empty
made_by k f h v (before c r) = made_by k f h v r
made_by k f h v (after r c) = made_by k f h v r
made_by k f h v (placed b c) = place_made b v
made_by k f h v (keeps x) = kept_made x v
made_by k f h v (reference u r) = reference_made u r v
made_by k f h v (told ws ns) = told_made ns v
made_by k f h v (pair a b) = of_both v (join (f a) (h b))
made_by k f h v (either t a b) = of_side v (f a) (f b)
made_by k f h v (by_test t a b) = of_side v (f a) (f b)
made_by k f h v (many t a) = of_both v (join (f a) (h (many t a)))
made_by k f h v (many_by t a) = of_both v (join (f a) (h (many_by t a)))
made_by k f h v (case n t a b) = of_case n v (f a) (made_by k f h v b)
made_by k f h v no_case = empty
made_by k f h v (row r) = k r
made_by k f h v (checked a) = made_by k f h v a
made_by k f h v (also r x) = join (made_by k f h v r) (adds x)
made_by k f h v (wraps w r) = wrapped w (made_by k f h v r)
made_by k f h v (outside o) = outside_made o v
made_by k f h v (marks r) = of_part v (f r)
made_by k f h v (silent s) = empty
made_by k f h v (skipping r) = made_by k f h v r

abbrev pub leaves_nothing : Rule → Made
leaves_nothing r = empty

-- no row stands at the head of a row, so one look into the table is enough
abbrev pub made_at : (Rule → Made) → (Rule → Made) → Value → Rule → Made
made_at f h v r = made_by (λ n. made_by (λ q. empty) f h v (table n)) f h v r

unfoldable pub makes : Value → Rule → Made
makes none r = made_at leaves_nothing leaves_nothing none r
makes (num n) r = made_at leaves_nothing leaves_nothing (num n) r
makes (numeral_at n o) r = made_at leaves_nothing leaves_nothing (numeral_at n o) r
makes (name_at x k o) r = made_at leaves_nothing leaves_nothing (name_at x k o) r
makes (text t) r = made_at leaves_nothing leaves_nothing (text t) r
makes (both u v) r = made_at (makes u) (makes v) (both u v) r
makes (left u) r = made_at (makes u) (makes u) (left u) r
makes (right u) r = made_at (makes u) (makes u) (right u) r
makes (part_at o u) r = made_at (makes u) (makes u) (part_at o u) r
makes (numbered n u) r = made_at (makes u) (makes u) (numbered n u) r
