-- What is built with tables is the form, with its marks.
use Rattle.std.proofs.Common.{◌≡◌, ℕ, ◌+◌, Bool, true, false, List, [], ◌∷◌, ◌++◌, Option, Some, None, refl, sym, ◌∙◌, ap, subst}
use Rattle.std.specs.Prelude.{slice_index, codes}
use Rattle.std.proofs.lemmas.List.{append-nil}
use Rattle.comp_model.specs.declared.Space.{Space}
use Rattle.comp_model.specs.declared.Space.TheVariants.{CoreType}
use Rattle.comp_model.specs.declared.row.Row.{Row}
use Rattle.comp_model.specs.Core.{Id, Text, Place, counted, named, CoreValue, ref_numeral, ref_name}
use Rattle.comp_model.specs.Model.{Leaf, core_value, ref, place, present, node, nodes, scope, numeral, name, path, inline, bundle, Leaves, no_leaf, ◌▸◌, row, Nodes, no_node, one_node, define, Defs, no_def, one_def, Scope, scope_of}
use Rattle.comp_model.specs.declared.row.ScopeKind.{ScopeKind}
use Rattle.comp_model.specs.Spaces.{declares_row, same_space, all_spaces, Declaration, parts, declarations_from, declarations}
use Rattle.comp_model.specs.NameMaps.{ItemName, NameMap}
use Rattle.comp_model.specs.Origins.{Origin, written, name_section, holds_none, holds}
use Rattle.comp_model.proofs.Tests.{same_space-true}
use Rattle.comp_model.specs.Payloads.{name_payload}
use Rattle.comp_scopes.specs.Encoding.{Encoding}
use Rattle.comp_scopes.specs.Names.{Denoted, denotes}
use Rattle.comp_scopes.specs.References.{references, references_leaf}
use Rattle.comp_model.specs.ItemNames.{PartName, rest_of, part_names, names_from, own_name, has_names, name_in_front, map_in_front}
use Rattle.comp_scopes.specs.Outward.{Outward, plan_own, leads_out, outward_leaves, outward_defs, served}
use Rattle.comp_scopes.specs.Plan.{Mark, mark, plan_one, plan_leaves, plan_defs, export_marks, name_marks, marks, before}
use Rattle.comp_scopes.specs.Form.{make, custom_node, coded_node, names_in, maps_in, names_of, binary_defs, origins_of, held_first, form_place, form_depth, form_one, form_alias, form_name, form_value, form_leaves, form_leaf, form_nodes, form_defs, form_exports, form_names, built}
use Rattle.comp_scopes.specs.Filled.{filled, filled_leaf, filled_nodes}
use Rattle.comp_scopes.specs.Rowed.{DefsRowed, LeavesRowed, LeafRowed, NodesRowed, Rowed}
use Rattle.comp_expanded.specs.IsExpanded.{LeavesExpanded, LeafExpanded, NodesExpanded, DefsExpanded, IsExpanded}
use Rattle.comp_tables.specs.Tables.{Counters, no_counts, advanced, Opened, past, found_indices, place_depth}
use Rattle.comp_tables.specs.Built.{half_open, table_for, open_scope, names_at, maps_at, names_by, made_names, made_defs, renumbered, renumbered_leaf, renumbered_nodes, held_in, held_leaf, held_nodes, made_scope}
use Rattle.comp_tables.specs.Stand.{RegistriesHold, EachItem, HoldsFirst, TablesHold, ComesNext}
use Rattle.comp_scopes.proofs.Filled.{definition-filled}
use Rattle.comp_expanded.proofs.Alone.{form-alone}
use Rattle.comp_tables.proofs.Names.{registered-declared, named-found}
use Rattle.comp_tables.proofs.Counts.{one-alone, names-alone, definition-moved, head-held, scope-first}
use Rattle.comp_tables.proofs.Read.{placed-left, placed-right, found_indices-read, needs-of}

-- ---- an opened scope stands for its scope

pub half-stands : (os : List Opened) (st : List Scope) (s : Scope) → RegistriesHold os st → RegistriesHold (half_open s ∷ os) (s ∷ st)
half-stands os st s h = (refl, registered-declared s, h)

pub open-stands : (os : List Opened) (st : List Scope) (s : Scope) → RegistriesHold os st → RegistriesHold (open_scope os s ∷ os) (s ∷ st)
open-stands os st s h = (refl, registered-declared s, h)

pub table-stands : (os : List Opened) (st : List Scope) (s : Scope) → RegistriesHold os st → Rowed s → IsExpanded s → EachItem (HoldsFirst (table_for os s) (marks (s ∷ st))) (declarations s)
table-stands os st s h r x = scope-first os (half_open s) st s (half-stands os st s h) r x

pub open-tabled : (os : List Opened) (st : List Scope) (s : Scope) → RegistriesHold os st → TablesHold os st → Rowed s → IsExpanded s → TablesHold (open_scope os s ∷ os) (s ∷ st)
open-tabled os st s h t r x = (table-stands os st s h r x, t)

-- ---- the names of items

abbrev EachName : (PartName → Type 0) → List PartName → Type 0
EachName P [] = Unit {0}
EachName P (n ∷ ns) = P n × EachName P ns

each_name-app : (P : PartName → Type 0) (xs ys : List PartName) → EachName P xs → EachName P ys → EachName P (xs ++ ys)
each_name-app P [] ys h i = i
each_name-app P (x ∷ xs) ys h i = (h.0, each_name-app P xs ys h.1 i)

abbrev NameFirst : List ℕ → List Mark → PartName → Type 0
NameFirst T ms n = slice_index T n.definition ≡ before n.space (written n.definition) ms

item-left : (P : Declaration → Type 0) (xs ys : List Declaration) → EachItem P (xs ++ ys) → EachItem P xs
item-left P [] ys h = tt
item-left P (x ∷ xs) ys h = (h.0, item-left P xs ys h.1)

item-right : (P : Declaration → Type 0) (xs ys : List Declaration) → EachItem P (xs ++ ys) → EachItem P ys
item-right P [] ys h = h
item-right P (x ∷ xs) ys h = item-right P xs ys h.1

part-names : (T : List ℕ) (ms : List Mark) (k p : ℕ) (ids js : List (Option Id)) (labels : List (Option Text)) (ss : List Space) → EachItem (HoldsFirst T ms) (parts k p ids ss) → EachName (NameFirst T ms) (part_names k p js labels ss)
part-names T ms k p ids js labels [] h = tt
part-names T ms k p [] js labels (s ∷ ss) h = (h.0, part-names T ms k (p + 1) [] (rest_of js) (rest_of labels) ss h.1)
part-names T ms k p (y ∷ ids) js labels (s ∷ ss) h = (h.0, part-names T ms k (p + 1) ids (rest_of js) (rest_of labels) ss h.1)

names-first : (T : List ℕ) (ms : List Mark) (k : ℕ) (ds : Defs) → EachItem (HoldsFirst T ms) (declarations_from k ds) → EachName (NameFirst T ms) (names_from k ds)
names-first T ms k no_def h = tt
names-first T ms k (one_def (define names (row t ls)) ds) h =
    each_name-app (NameFirst T ms) (part_names k 0 names.ids names.labels (declares_row t ls)) (names_from (k + 1) ds)
    (part-names T ms k 0 names.ids names.ids names.labels (declares_row t ls) (item-left (HoldsFirst T ms) (parts k 0 names.ids (declares_row t ls)) (declarations_from (k + 1) ds) h))
    (names-first T ms (k + 1) ds (item-right (HoldsFirst T ms) (parts k 0 names.ids (declares_row t ls)) (declarations_from (k + 1) ds) h))

one-name : (b : Bool) (x : Option Text) (i j : ℕ) (ns : List ItemName) → (b ≡ true → i ≡ j) → name_in_front b x i ns ≡ name_in_front b x j ns
one-name true x i j ns h = ap (λ n. name_in_front true x n ns) (h refl)
one-name false x i j ns h = refl

names-at : (T : List ℕ) (ms : List Mark) (s : Space) (ns : List PartName) → EachName (NameFirst T ms) ns → names_at T s ns ≡ names_in ms s ns
names-at T ms s [] h = refl
names-at T ms s (n ∷ ns) h =
    ap (name_in_front (same_space s n.space) n.name (slice_index T n.definition + n.part)) (names-at T ms s ns h.1)
    ∙ one-name (same_space s n.space) n.name (slice_index T n.definition + n.part) (before s (written n.definition) ms + n.part) (names_in ms s ns)
    (λ q. ap (λ i. i + n.part) (h.0 ∙ ap (λ w. before w (written n.definition) ms) (sym (same_space-true s n.space q))))

maps-at : (T : List ℕ) (ms : List Mark) (ns : List PartName) (ss : List Space) → EachName (NameFirst T ms) ns → maps_at T ns ss ≡ maps_in ms ns ss
maps-at T ms ns [] h = refl
maps-at T ms ns (s ∷ ss) h = ap (λ q. map_in_front s q (maps_at T ns ss)) (names-at T ms s ns h) ∙ ap (map_in_front s (names_in ms s ns)) (maps-at T ms ns ss h)

names-by : (T : List ℕ) (st : List Scope) (s : Scope) → EachItem (HoldsFirst T (marks (s ∷ st))) (declarations s) → names_by T s ≡ names_of st s
names-by T st (scope_of kd id label ds) h =
    ap (λ (ms : List NameMap). record { component = own_name (scope_of kd id label ds); maps = ms })
    (maps-at T (marks (scope_of kd id label ds ∷ st)) (names_from 0 ds) all_spaces (names-first T (marks (scope_of kd id label ds ∷ st)) 0 ds h))

exports-none : (st : List Scope) (k : ℕ) (ds : Defs) → DefsExpanded ds → form_exports st k ds ≡ []
exports-none st k no_def x = refl
exports-none st k (one_def (define names (row t ls)) ds) x = rw (x.0, exports-none st (k + 1) ds x.2) refl

place-read : (os : List Opened) (st : List Scope) (p : Place) → RegistriesHold os st → place_depth os p ≡ form_place st p
place-read os st (counted o d) h = refl
place-read os st (named o x) h = ap form_depth (named-found 0 os st x h)

module _ (e : Encoding) where
  names-made : (T : List ℕ) (st : List Scope) (s : Scope) (b : Bool) → EachItem (HoldsFirst T (marks (s ∷ st))) (declarations s) → made_names e T s b ≡ form_names st s b
  names-made T st s true h = ap (λ n. make name_section (custom_node (codes "component-name") (name_payload n)) ∷ []) (names-by T st s h)
  names-made T st s false h = refl

  form-one : (st : List Scope) (k : ℕ) (ls : Leaves) (t : Row) → LeavesExpanded ls
      → (form_leaves e st k 0 ls).needed ++ record { origin = written k; held = (form_leaves e st k 0 ls).held; made = coded_node e t ls (form_leaves e st k 0 ls).here } ∷ [] ≡ form_one (written k) (coded_node e t ls) (form_leaves e st k 0 ls)
  form-one st k ls t x = let a : ((form_leaves e st k 0 ls).inlined ≡ []) × ((form_leaves e st k 0 ls).bundles ≡ []) = form-alone e st k 0 ls x in rw (a.0, a.1) refl

  name-held : (st : List Scope) (k u : ℕ) (s : Space) (b : Bool) (o : Option Denoted) → (form_name st k u s b o).held ≡ holds_none
  name-held st k u s true None = refl
  name-held st k u s false None = refl
  name-held st k u s false (Some d) = refl
  name-held st k u s true (Some d) = alias-held (served st k u s d)
    where
      alias-held : (o : Option Origin) → (form_alias st k u s d o).held ≡ holds_none
      alias-held (Some q) = refl
      alias-held None = refl

  value-held : (st : List Scope) (k u : ℕ) (v : CoreValue) → (form_value st k u v).held ≡ holds_none
  value-held st k u (ref_name b r x) = name-held st k u CoreType (leads_out r (denotes st CoreType r x)) (denotes st CoreType r x)
  value-held st k u v = refl

  -- the marks at the head of a scope
  at-head : (st : List Scope) (kd : ScopeKind) (id : Option Id) (label : Option Text) (ds : Defs) → ComesNext (scope_of kd id label ds ∷ st) no_counts (plan_defs (scope_of kd id label ds ∷ st) 0 ds) (outward_defs (scope_of kd id label ds ∷ st) 0 ds)
  at-head st kd id label ds =
      let c : Scope = scope_of kd id label ds in
      record { front = []; rest = export_marks 0 ds ++ name_marks (has_names c); named = []; later = []; held = head-held (c ∷ st); marked = refl; led = sym (append-nil (outward_defs (c ∷ st) 0 ds)) }

  -- a scope that stands in `st`, whose definitions are built
  made-inner : (os : List Opened) (st : List Scope) (kd : ScopeKind) (id : Option Id) (label : Option Text) (ds : Defs) → RegistriesHold os st → TablesHold os st → DefsRowed ds → DefsExpanded ds
      → made_defs e (open_scope os (scope_of kd id label ds) ∷ os) 0 no_counts ds ≡ form_defs e (scope_of kd id label ds ∷ st) 0 ds
      → made_defs e (open_scope os (scope_of kd id label ds) ∷ os) 0 no_counts ds ++ made_names e (table_for os (scope_of kd id label ds)) (scope_of kd id label ds) (has_names (scope_of kd id label ds)) ≡ built e st (scope_of kd id label ds)
  made-inner os st kd id label ds h t r x q =
      ap (λ y. y ++ made_names e (table_for os (scope_of kd id label ds)) (scope_of kd id label ds) (has_names (scope_of kd id label ds))) q
      ∙ ap (λ y. form_defs e (scope_of kd id label ds ∷ st) 0 ds ++ y) (names-made (table_for os (scope_of kd id label ds)) st (scope_of kd id label ds) (has_names (scope_of kd id label ds)) (table-stands os st (scope_of kd id label ds) h r x))
      ∙ ap (λ y. form_defs e (scope_of kd id label ds ∷ st) 0 ds ++ (y ++ form_names st (scope_of kd id label ds) (has_names (scope_of kd id label ds)))) (sym (exports-none (scope_of kd id label ds ∷ st) 0 ds x))

  mutual
    -- the definitions of a scope, which is the innermost of both stacks
    made-defs : (os : List Opened) (st : List Scope) (k : ℕ) (c : Counters) (ds : Defs) → RegistriesHold os st → TablesHold os st → DefsRowed ds → DefsExpanded ds → ComesNext st c (plan_defs st k ds) (outward_defs st k ds) → made_defs e os k c ds ≡ form_defs e st k ds
    made-defs os st k c no_def h t r x p = refl
    made-defs os st k c (one_def (define names (row w ls)) ds) h t r x p =
        let m : Mark = mark (written k) (declares_row w ls) in
        let ns : List Mark = (plan_leaves st k 0 ls).needed in
        let one : List Mark = plan_one (plan_leaves st k 0 ls) m in
        let own : List Outward = plan_own (outward_leaves st k 0 ls) [] in
        let q : ComesNext st c one own = placed-left st c one (plan_defs st (k + 1) ds) own (outward_defs st (k + 1) ds) p in
        let q1 : ComesNext st c (ns ++ m ∷ []) (outward_leaves st k 0 ls).needed = subst (λ y. ComesNext st c y (outward_leaves st k 0 ls).needed) (one-alone st k ls m x.1) (subst (λ y. ComesNext st c one y) (names-alone st k ls x.1) q) in
        let o : ComesNext st c ns (outward_leaves st k 0 ls).needed = placed-left st c ns (m ∷ []) (outward_leaves st k 0 ls).needed [] (subst (λ y. ComesNext st c (ns ++ m ∷ []) y) (sym (append-nil (outward_leaves st k 0 ls).needed)) q1) in
        let l : ComesNext st (advanced (declares_row w ls) (past os ls c)) (plan_defs st (k + 1) ds) (outward_defs st (k + 1) ds) =
        placed-right st c (advanced (declares_row w ls) (past os ls c)) one (plan_defs st (k + 1) ds) own (outward_defs st (k + 1) ds) (definition-moved os st k w ls c h x.1) p in
        let here : renumbered e os (found_indices os ls c) 0 ls ≡ (form_leaves e st k 0 ls).here =
        renumbered-filled os st (found_indices os ls c) 0 ls h t r.3 x.1 ∙ ap (λ y. filled e st y 0 ls) (found_indices-read os st k 0 ls c h t x.1 o) ∙ definition-filled e st k ls in
        ap (λ y. (y ++ record { origin = written k; held = held_in e os ls; made = coded_node e w ls (renumbered e os (found_indices os ls c) 0 ls) } ∷ []) ++ made_defs e os (k + 1) (advanced (declares_row w ls) (past os ls c)) ds) (needs-of e os st k ls c h t x.1 o)
        ∙ ap (λ y. ((form_leaves e st k 0 ls).needed ++ record { origin = written k; held = held_in e os ls; made = coded_node e w ls y } ∷ []) ++ made_defs e os (k + 1) (advanced (declares_row w ls) (past os ls c)) ds) here
        ∙ ap (λ y. ((form_leaves e st k 0 ls).needed ++ record { origin = written k; held = y; made = coded_node e w ls (form_leaves e st k 0 ls).here } ∷ []) ++ made_defs e os (k + 1) (advanced (declares_row w ls) (past os ls c)) ds) (held-form os st k 0 ls h t r.3 x.1)
        ∙ ap (λ y. y ++ made_defs e os (k + 1) (advanced (declares_row w ls) (past os ls c)) ds) (form-one st k ls w x.1)
        ∙ ap (λ y. form_one (written k) (coded_node e w ls) (form_leaves e st k 0 ls) ++ y) (made-defs os st (k + 1) (advanced (declares_row w ls) (past os ls c)) ds h t r.4 x.2 l)

    pub renumbered-filled : (os : List Opened) (st : List Scope) (T : List ℕ) (u : ℕ) (ls : Leaves) → RegistriesHold os st → TablesHold os st → LeavesRowed ls → LeavesExpanded ls → renumbered e os T u ls ≡ filled e st T u ls
    renumbered-filled os st T u no_leaf h t r x = refl
    renumbered-filled os st T u (l ▸ ls) h t r x =
        ap (λ y. y ▸ renumbered e os T (u + references_leaf l) ls) (renumbered_leaf-filled os st T u l h t r.1 x.0) ∙ ap (λ y. filled_leaf e st T u l ▸ y) (renumbered-filled os st T (u + references_leaf l) ls h t r.2 x.1)

    renumbered_leaf-filled : (os : List Opened) (st : List Scope) (T : List ℕ) (u : ℕ) (l : Leaf) → RegistriesHold os st → TablesHold os st → LeafRowed l → LeafExpanded l → renumbered_leaf e os T u l ≡ filled_leaf e st T u l
    renumbered_leaf-filled os st T u (core_value (ref_numeral b o n)) h t r x = refl
    renumbered_leaf-filled os st T u (core_value (ref_name b q y)) h t r x = refl
    renumbered_leaf-filled os st T u (ref s (numeral o n)) h t r x = refl
    renumbered_leaf-filled os st T u (ref s (name q y)) h t r x = refl
    renumbered_leaf-filled os st T u (ref s (path p)) h t r x = refl
    renumbered_leaf-filled os st T u (ref s (inline n)) h t r x = absurd x
    renumbered_leaf-filled os st T u (ref s (bundle n)) h t r x = absurd x
    renumbered_leaf-filled os st T u (place p) h t r x = ap place (place-read os st p h)
    renumbered_leaf-filled os st T u (present l) h t r x = ap present (renumbered_leaf-filled os st T u l h t r x)
    renumbered_leaf-filled os st T u (node (row w ls)) h t r x = ap (λ y. node (row w y)) (renumbered-filled os st T u ls h t r x)
    renumbered_leaf-filled os st T u (nodes ns) h t r x = ap nodes (renumbered_nodes-filled os st T u ns h t r x)
    renumbered_leaf-filled os st T u (scope (scope_of kd id label ds)) h t r x = ap (λ ms. scope (scope_of kd None None (binary_defs ms))) (made-inner os st kd id label ds h t r x
        (made-defs (open_scope os (scope_of kd id label ds) ∷ os) (scope_of kd id label ds ∷ st) 0 no_counts ds (open-stands os st (scope_of kd id label ds) h) (open-tabled os st (scope_of kd id label ds) h t r x) r x (at-head st kd id label ds)))
    renumbered_leaf-filled os st T u l h t r x = refl

    renumbered_nodes-filled : (os : List Opened) (st : List Scope) (T : List ℕ) (u : ℕ) (ns : Nodes) → RegistriesHold os st → TablesHold os st → NodesRowed ns → NodesExpanded ns → renumbered_nodes e os T u ns ≡ filled_nodes e st T u ns
    renumbered_nodes-filled os st T u no_node h t r x = refl
    renumbered_nodes-filled os st T u (one_node (row w ls) ns) h t r x =
        ap (λ y. one_node (row w y) (renumbered_nodes e os T (u + references ls) ns)) (renumbered-filled os st T u ls h t r.1 x.0) ∙ ap (λ y. one_node (row w (filled e st T u ls)) y) (renumbered_nodes-filled os st T (u + references ls) ns h t r.2 x.1)

    held-form : (os : List Opened) (st : List Scope) (k u : ℕ) (ls : Leaves) → RegistriesHold os st → TablesHold os st → LeavesRowed ls → LeavesExpanded ls → held_in e os ls ≡ (form_leaves e st k u ls).held
    held-form os st k u no_leaf h t r x = refl
    held-form os st k u (l ▸ ls) h t r x =
        ap (λ y. held_first y (held_in e os ls)) (held_leaf-form os st k u l h t r.1 x.0) ∙ ap (held_first (form_leaf e st k u l).held) (held-form os st k (u + references_leaf l) ls h t r.2 x.1)

    held_leaf-form : (os : List Opened) (st : List Scope) (k u : ℕ) (l : Leaf) → RegistriesHold os st → TablesHold os st → LeafRowed l → LeafExpanded l → held_leaf e os l ≡ (form_leaf e st k u l).held
    held_leaf-form os st k u (core_value v) h t r x = sym (value-held st k u v)
    held_leaf-form os st k u (ref s (name q y)) h t r x = sym (name-held st k u s (leads_out q (denotes st s q y)) (denotes st s q y))
    held_leaf-form os st k u (ref s (inline n)) h t r x = absurd x
    held_leaf-form os st k u (ref s (bundle n)) h t r x = absurd x
    held_leaf-form os st k u (present l) h t r x = held_leaf-form os st k u l h t r x
    held_leaf-form os st k u (node (row w ls)) h t r x = held-form os st k u ls h t r x
    held_leaf-form os st k u (nodes ns) h t r x = held_nodes-form os st k u ns h t r x
    held_leaf-form os st k u (scope (scope_of kd id label ds)) h t r x = ap (λ ms. holds (origins_of ms)) (made-inner os st kd id label ds h t r x
        (made-defs (open_scope os (scope_of kd id label ds) ∷ os) (scope_of kd id label ds ∷ st) 0 no_counts ds (open-stands os st (scope_of kd id label ds) h) (open-tabled os st (scope_of kd id label ds) h t r x) r x (at-head st kd id label ds)))
    held_leaf-form os st k u l h t r x = refl

    held_nodes-form : (os : List Opened) (st : List Scope) (k u : ℕ) (ns : Nodes) → RegistriesHold os st → TablesHold os st → NodesRowed ns → NodesExpanded ns → held_nodes e os ns ≡ (form_nodes e st k u ns).held
    held_nodes-form os st k u no_node h t r x = refl
    held_nodes-form os st k u (one_node (row w ls) ns) h t r x =
        ap (λ y. held_first y (held_nodes e os ns)) (held-form os st k u ls h t r.1 x.0) ∙ ap (held_first (form_leaves e st k u ls).held) (held_nodes-form os st k (u + references ls) ns h t r.2 x.1)

  -- what is built with tables
  pub made-built : (os : List Opened) (st : List Scope) (s : Scope) → RegistriesHold os st → TablesHold os st → Rowed s → IsExpanded s → made_scope e os s ≡ built e st s
  made-built os st (scope_of kd id label ds) h t r x = made-inner os st kd id label ds h t r x
      (made-defs (open_scope os (scope_of kd id label ds) ∷ os) (scope_of kd id label ds ∷ st) 0 no_counts ds (open-stands os st (scope_of kd id label ds) h) (open-tabled os st (scope_of kd id label ds) h t r x) r x (at-head st kd id label ds))
