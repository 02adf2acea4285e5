-- The walks with states that grow give what the tables and readings are.
use Rattle.std.proofs.Common.{◌≡◌, ℕ, ◌+◌, List, [], ◌∷◌, ◌++◌, Option, Some, None, drop, refl, sym, ◌∙◌, ap, subst}
use Rattle.std.proofs.lemmas.List.{append_assoc, append-nil, drop-drop}
use Rattle.comp_model.specs.declared.Space.{Space}
use Rattle.comp_model.specs.Core.{Id}
use Rattle.comp_model.specs.Model.{Leaf, present, node, nodes, Leaves, no_leaf, ◌▸◌, row, Nodes, no_node, one_node, define, Defs, no_def, one_def, Scope, id_of, defs_of}
use Rattle.comp_model.specs.Spaces.{declares_row, declarations}
use Rattle.comp_scopes.specs.Encoding.{Encoding}
use Rattle.comp_scopes.specs.Names.{first_of_two}
use Rattle.comp_scopes.specs.References.{references, references_leaf, references_nodes}
use Rattle.comp_scopes.specs.Rule.{case_ids}
use Rattle.comp_scopes.specs.Unmet.{Unmet, unmet_cases}
use Rattle.comp_model.specs.ItemNames.{has_names}
use Rattle.comp_scopes.specs.Form.{Made, coded_node}
use Rattle.comp_expanded.specs.TextNumbers.{definition_of}
use Rattle.comp_expanded.specs.ListMarks.{ListMarks, no_marks, mark_then}
use Rattle.comp_tables.specs.Tables.{Counters, no_counts, advanced, nothing_registered, first_taken, Opened, opened, past, past_leaf, past_nodes, first_index, counted_table, unmet_kinds, unmet_kinds_leaf, unmet_kinds_nodes, unmet_kinds_defs, found_indices, found_indices_leaf, found_indices_nodes, needs, needs_leaf, needs_nodes}
use Rattle.comp_tables.specs.Built.{registry_of, half_open, table_for, open_scope, missing_roots, Outcome, done, outcome, and_then, missing, missing_leaf, missing_nodes, missing_defs, missing_scope, made_names, renumbered}
use Rattle.comp_tables.specs.InText.{Marked, text_defs, text_held, text_scope}
use Rattle.comp_tables.specs.Walks.{CountState, count, count_leaf, count_nodes_of, TableState, table_start, table_one, table_defs, ReadState, reading_from, refusing, read_past, read_one, read, read_leaf, read_nodes, run_one, run_defs, run}
use Rattle.comp_expanded.proofs.Firsts.{first-assoc, first-none}

-- ---- counting

abbrev pub counting : CountState → Counters → Option Unmet → CountState
counting q c x = record { counters = c; refused = first_of_two q.refused x }

counting-both : (q : CountState) (c d : Counters) (x y : Option Unmet) → counting (counting q c x) d y ≡ counting q d (first_of_two x y)
counting-both q c d x y = rw (first-assoc q.refused x y) refl

pub counting-none : (q : CountState) → q ≡ counting q q.counters None
counting-none q = rw (first-none q.refused) refl

mutual
  pub count-all : (os : List Opened) (ls : Leaves) (q : CountState) → count os ls q ≡ counting q (past os ls q.counters) (unmet_kinds os ls)
  count-all os no_leaf q = counting-none q
  count-all os (l ▸ ls) q =
      ap (count os ls) (count-leaf os l q) ∙ count-all os ls (counting q (past_leaf os l q.counters) (unmet_kinds_leaf os l))
      ∙ counting-both q (past_leaf os l q.counters) (past os ls (past_leaf os l q.counters)) (unmet_kinds_leaf os l) (unmet_kinds os ls)

  count-leaf : (os : List Opened) (l : Leaf) (q : CountState) → count_leaf os l q ≡ counting q (past_leaf os l q.counters) (unmet_kinds_leaf os l)
  count-leaf os (present l) q = count-leaf os l q
  count-leaf os (node (row t ls)) q = count-all os ls q
  count-leaf os (nodes ns) q = count-nodes os ns q
  count-leaf os l q = refl

  count-nodes : (os : List Opened) (ns : Nodes) (q : CountState) → count_nodes_of os ns q ≡ counting q (past_nodes os ns q.counters) (unmet_kinds_nodes os ns)
  count-nodes os no_node q = counting-none q
  count-nodes os (one_node (row t ls) ns) q =
      ap (count_nodes_of os ns) (count-all os ls q) ∙ count-nodes os ns (counting q (past os ls q.counters) (unmet_kinds os ls))
      ∙ counting-both q (past os ls q.counters) (past_nodes os ns (past os ls q.counters)) (unmet_kinds os ls) (unmet_kinds_nodes os ns)

-- what is known behind definitions
abbrev Tables : List Opened → Defs → TableState → TableState → Type 0
Tables os ds w v = (v.table ≡ w.table ++ counted_table os w.counters ds) × (v.refused ≡ first_of_two w.refused (unmet_kinds_defs os ds))

pub table-all : (os : List Opened) (ds : Defs) (w : TableState) → Tables os ds w (table_defs os ds w)
table-all os no_def w = (sym (append-nil w.table), sym (first-none w.refused))
table-all os (one_def (define names (row t ls)) ds) w =
    let q : CountState = record { counters = w.counters; refused = w.refused } in
    let f : CountState = counting q (past os ls w.counters) (unmet_kinds os ls) in
    let s : List Space = declares_row t ls in
    let b : Tables os ds (table_one s f w) (table_defs os ds (table_one s f w)) = table-all os ds (table_one s f w) in
    let all : Tables os (one_def (define names (row t ls)) ds) w (table_defs os ds (table_one s f w)) = (
      b.0 ∙ append_assoc w.table (first_index s (past os ls w.counters) ∷ []) (counted_table os (advanced s (past os ls w.counters)) ds),
      b.1 ∙ first-assoc w.refused (unmet_kinds os ls) (unmet_kinds_defs os ds),
    ) in
    subst (λ g. Tables os (one_def (define names (row t ls)) ds) w (table_defs os ds (table_one s g w))) (sym (count-all os ls q)) all

-- ---- reading

pub read_past-none : (r : ReadState) → r ≡ read_past r r.counters 0 [] [] None
read_past-none r = rw (append-nil r.indices, append-nil r.needs, first-none r.refused) refl

read_past-both : (r : ReadState) (c d : Counters) (p q : ℕ) (is js : List ℕ) (ds es : List Made) (x y : Option Unmet)
    → read_past (read_past r c p is ds x) d q js es y ≡ read_past r d (p + q) (is ++ js) (ds ++ es) (first_of_two x y)
read_past-both r c d p q is js ds es x y = rw (drop-drop q p r.places, append_assoc r.indices is js, append_assoc r.needs ds es, first-assoc r.refused x y) refl

refusing-first : (r : ReadState) (z : Option Unmet) (c : Counters) (p : ℕ) (is : List ℕ) (ds : List Made) (x : Option Unmet) → read_past (refusing z r) c p is ds x ≡ read_past r c p is ds (first_of_two z x)
refusing-first r z c p is ds x = rw (first-assoc r.refused z x) refl

module _ (e : Encoding) (os : List Opened) (j : ℕ) where
  mutual
    pub read-all : (ls : Leaves) (r : ReadState) → read e os j ls r ≡ read_past r (past os ls r.counters) (references ls) (found_indices os ls r.counters) (needs os j r.places ls r.counters) (missing e os ls)
    read-all no_leaf r = read_past-none r
    read-all (l ▸ ls) r =
        ap (read e os j ls) (read-leaf l r) ∙ read-all ls (read_one e os j l r)
        ∙ read_past-both r (past_leaf os l r.counters) (past os ls (past_leaf os l r.counters)) (references_leaf l) (references ls)
        (found_indices_leaf os l r.counters) (found_indices os ls (past_leaf os l r.counters)) (needs_leaf os j r.places l r.counters) (needs os j (drop (references_leaf l) r.places) ls (past_leaf os l r.counters))
        (missing_leaf e os l) (missing e os ls)

    read-leaf : (l : Leaf) (r : ReadState) → read_leaf e os j l r ≡ read_one e os j l r
    read-leaf (present l) r = read-leaf l r
    read-leaf (node (row t ls)) r = read-all ls r
    read-leaf (nodes ns) r = read-nodes [] ns r
    read-leaf l r = refl

    read-nodes : (earlier : List Id) (ns : Nodes) (r : ReadState)
        → read_nodes e os j earlier ns r ≡ read_past r (past_nodes os ns r.counters) (references_nodes ns) (found_indices_nodes os ns r.counters) (needs_nodes os j r.places ns r.counters) (missing_nodes e os earlier ns)
    read-nodes earlier no_node r = read_past-none r
    read-nodes earlier (one_node (row t ls) ns) r =
        let z : Option Unmet = unmet_cases earlier (case_ids ls) in
        let f : ReadState = read_past r (past os ls r.counters) (references ls) (found_indices os ls r.counters) (needs os j r.places ls r.counters) (first_of_two (unmet_cases earlier (case_ids ls)) (missing e os ls)) in
        ap (read_nodes e os j (case_ids ls ++ earlier) ns) (read-all ls (refusing (unmet_cases earlier (case_ids ls)) r)
        ∙ refusing-first r (unmet_cases earlier (case_ids ls)) (past os ls r.counters) (references ls) (found_indices os ls r.counters) (needs os j r.places ls r.counters) (missing e os ls))
        ∙ read-nodes (case_ids ls ++ earlier) ns f
        ∙ read_past-both r (past os ls r.counters) (past_nodes os ns (past os ls r.counters)) (references ls) (references_nodes ns)
        (found_indices os ls r.counters) (found_indices_nodes os ns (past os ls r.counters)) (needs os j r.places ls r.counters) (needs_nodes os j (drop (references ls) r.places) ns (past os ls r.counters))
        (first_of_two z (missing e os ls)) (missing_nodes e os (case_ids ls ++ earlier) ns)
        ∙ ap (read_past r (past_nodes os ns (past os ls r.counters)) (references ls + references_nodes ns) (found_indices os ls r.counters ++ found_indices_nodes os ns (past os ls r.counters))
        (needs os j r.places ls r.counters ++ needs_nodes os j (drop (references ls) r.places) ns (past os ls r.counters)))
        (first-assoc z (missing e os ls) (missing_nodes e os (case_ids ls ++ earlier) ns))

-- ---- the whole

then-outcome : (a b : Option Unmet) (xs ys : List Made) → and_then (outcome a xs) (outcome b ys) ≡ outcome (first_of_two a b) (xs ++ ys)
then-outcome None None xs ys = refl
then-outcome None (Some v) xs ys = refl
then-outcome (Some u) None xs ys = refl
then-outcome (Some u) (Some v) xs ys = refl

done-last : (a : Option Unmet) (xs ys : List Made) → and_then (outcome a xs) (done ys) ≡ outcome a (xs ++ ys)
done-last None xs ys = refl
done-last (Some u) xs ys = refl

module _ (e : Encoding) where
  run-defs : (os : List Opened) (c : Counters) (ds : Defs) (ms : ListMarks) → Marked ds ms → run_defs e os c ds ms ≡ outcome (missing_defs e os ds) (text_defs e os c ds ms)
  run-defs os c no_def ms m = refl
  run-defs os c (one_def (define names (row t ls)) ds) no_marks m = absurd m
  run-defs os c (one_def (define names (row t ls)) ds) (mark_then o ps h ms) m =
      let d : Counters = advanced (declares_row t ls) (past os ls c) in
      let one : List Made = needs os (definition_of o) ps ls c ++ record { origin = o; held = text_held e os ls h; made = coded_node e t ls (renumbered e os (found_indices os ls c) 0 ls) } ∷ [] in
      ap (λ r. and_then (run_one e os o h t ls r) (run_defs e os (advanced (declares_row t ls) r.counters) ds ms)) (read-all e os (definition_of o) ls (reading_from c ps))
      ∙ ap (and_then (run_one e os o h t ls (read_past (reading_from c ps) (past os ls c) (references ls) (found_indices os ls c) (needs os (definition_of o) ps ls c) (missing e os ls)))) (run-defs os d ds ms m.1)
      ∙ then-outcome (first_of_two (missing_roots os ls) (missing e os ls)) (missing_defs e os ds) one (text_defs e os d ds ms)

  pub run-outcome : (os : List Opened) (s : Scope) (ms : ListMarks) → Marked (defs_of s) ms → run e os s ms ≡ outcome (missing_scope e os s) (text_scope e os s ms)
  run-outcome os s ms m =
      let w : TableState = table_defs (half_open s ∷ os) (defs_of s) table_start in
      let all : Tables (half_open s ∷ os) (defs_of s) table_start (table_defs (half_open s ∷ os) (defs_of s) table_start) = table-all (half_open s ∷ os) (defs_of s) table_start in
      let a : Option Unmet = first_taken nothing_registered (declarations s) in
      let b : Option Unmet = unmet_kinds_defs (half_open s ∷ os) (defs_of s) in
      let d : Option Unmet = missing_defs e (open_scope os s ∷ os) (defs_of s) in
      let xs : List Made = text_defs e (open_scope os s ∷ os) no_counts (defs_of s) ms in
      let ns : List Made = made_names e (table_for os s) s (has_names s) in
      let last : List ℕ → Option Unmet → Outcome = λ T r. and_then (outcome r []) (and_then (run_defs e (opened (id_of s) (registry_of s) T ∷ os) no_counts (defs_of s) ms) (done (made_names e T s (has_names s)))) in
      ap (and_then (outcome a []))
      (ap (λ T. last T w.refused) all.0 ∙ ap (last (table_for os s)) all.1
      ∙ ap (λ q. and_then (outcome b []) (and_then q (done ns))) (run-defs (open_scope os s ∷ os) no_counts (defs_of s) ms m)
      ∙ ap (and_then (outcome b [])) (done-last d xs ns)
      ∙ then-outcome b d [] (xs ++ ns))
      ∙ then-outcome a (first_of_two b d) [] (xs ++ ns)
