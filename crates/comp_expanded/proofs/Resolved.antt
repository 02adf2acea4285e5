-- What is resolved has itself as its form, and its definitions alone as its plan.
use Rattle.std.proofs.Common.{◌≡◌, ℕ, zero, suc, ◌+◌, Bool, true, false, List, [], ◌∷◌, ◌++◌, Option, None, refl, sym, ◌∙◌, ap, subst, arith}
use Rattle.std.specs.Prelude.{codes}
use Rattle.comp_model.specs.declared.Space.{Space}
use Rattle.comp_model.specs.Core.{Id, Text, Place, counted, named, CoreValue, ref_name}
use Rattle.comp_model.specs.Model.{Leaf, core_value, ref, place, present, node, nodes, scope, name, path, inline, bundle, Leaves, no_leaf, ◌▸◌, row, Nodes, no_node, one_node, define, Defs, no_def, one_def, no_names, Scope, scope_of}
use Rattle.comp_model.specs.declared.row.ScopeKind.{ScopeKind}
use Rattle.comp_model.specs.Spaces.{declares_row, count_in, same_space, all_spaces}
use Rattle.comp_model.specs.NameMaps.{NameMap}
use Rattle.comp_model.specs.Origins.{written, Origins, origin_then, Held, holds_none, holds}
use Rattle.comp_model.proofs.Tests.{same_origin-refl, same_origin-false}
use Rattle.comp_model.specs.Payloads.{name_payload}
use Rattle.comp_scopes.specs.Encoding.{Encoding}
use Rattle.comp_scopes.specs.References.{references, references_leaf}
use Rattle.comp_model.specs.ItemNames.{PartName, names_from, own_name, has_names, name_in_front, map_in_front}
use Rattle.comp_scopes.specs.Outward.{plan_nothing}
use Rattle.comp_scopes.specs.Plan.{plan_leaves, plan_leaf, plan_nodes, plan_defs, export_marks, name_marks, marks, before}
use Rattle.comp_scopes.specs.Form.{Made, Formed, form_both, formed_as, custom_node, coded_node, names_in, maps_in, names_of, binary_defs, origins_of, form_exports, form_names, form_value, form_leaves, form_leaf, form_nodes, form_defs, plan, form}
use Rattle.comp_expanded.specs.WrittenMarks.{section_where, section_behind, written_from, written_in, written_in_leaf, written_in_nodes, written_marks}
use Rattle.comp_expanded.specs.IsExpanded.{LeavesExpanded, LeafExpanded, NodesExpanded, DefsExpanded, IsExpanded}
use Rattle.comp_expanded.specs.IsResolved.{LeavesResolved, LeafResolved, NodesResolved, DefsResolved, IsResolved}
use Rattle.comp_scopes.specs.Resolved.{declared_before, names_along, maps_along, list_names, section_of, binary_of_defs, binary_of_leaves, binary_of_leaf, binary_of_nodes, binary_of}

-- ---- it is expanded

value-expanded : (v : CoreValue) → LeafExpanded (core_value v)
value-expanded v = tt

mutual
  leaves-expanded : (ls : Leaves) → LeavesResolved ls → LeavesExpanded ls
  leaves-expanded no_leaf r = tt
  leaves-expanded (l ▸ ls) r = (leaf-expanded l r.0, leaves-expanded ls r.1)

  leaf-expanded : (l : Leaf) → LeafResolved l → LeafExpanded l
  leaf-expanded (ref s (inline n)) r = absurd r
  leaf-expanded (ref s (bundle n)) r = absurd r
  leaf-expanded (present l) r = leaf-expanded l r
  leaf-expanded (node (row t ls)) r = leaves-expanded ls r
  leaf-expanded (nodes ns) r = nodes-expanded ns r
  leaf-expanded (scope (scope_of kd id label ds)) r = defs-expanded ds r
  leaf-expanded l r = tt

  nodes-expanded : (ns : Nodes) → NodesResolved ns → NodesExpanded ns
  nodes-expanded no_node r = tt
  nodes-expanded (one_node (row t ls) ns) r = (leaves-expanded ls r.0, nodes-expanded ns r.1)

  defs-expanded : (ds : Defs) → DefsResolved ds → DefsExpanded ds
  defs-expanded no_def r = tt
  defs-expanded (one_def (define ns (row t ls)) ds) r = (r.0, leaves-expanded ls r.1, defs-expanded ds r.2)

pub resolved-expanded : (s : Scope) → IsResolved s → IsExpanded s
resolved-expanded (scope_of kd id label ds) r = defs-expanded ds r

-- ---- its marks

mutual
  plan-none : (st : List Scope) (k u : ℕ) (ls : Leaves) → LeavesResolved ls → plan_leaves st k u ls ≡ plan_nothing
  plan-none st k u no_leaf r = refl
  plan-none st k u (l ▸ ls) r = rw (plan_leaf-none st k u l r.0, plan-none st k (u + references_leaf l) ls r.1) refl

  plan_leaf-none : (st : List Scope) (k u : ℕ) (l : Leaf) → LeafResolved l → plan_leaf st k u l ≡ plan_nothing
  plan_leaf-none st k u (core_value (ref_name b y x)) r = absurd r
  plan_leaf-none st k u (ref s (name y x)) r = absurd r
  plan_leaf-none st k u (ref s (path p)) r = absurd r
  plan_leaf-none st k u (ref s (inline n)) r = absurd r
  plan_leaf-none st k u (ref s (bundle n)) r = absurd r
  plan_leaf-none st k u (present l) r = plan_leaf-none st k u l r
  plan_leaf-none st k u (node (row t ls)) r = plan-none st k u ls r
  plan_leaf-none st k u (nodes ns) r = plan_nodes-none st k u ns r
  plan_leaf-none st k u (scope s) r = refl
  plan_leaf-none st k u l r = refl

  plan_nodes-none : (st : List Scope) (k u : ℕ) (ns : Nodes) → NodesResolved ns → plan_nodes st k u ns ≡ plan_nothing
  plan_nodes-none st k u no_node r = refl
  plan_nodes-none st k u (one_node (row t ls) ns) r = rw (plan-none st k u ls r.0, plan_nodes-none st k (u + references ls) ns r.1) refl

exports-none : (k : ℕ) (ds : Defs) → DefsResolved ds → export_marks k ds ≡ []
exports-none k no_def r = refl
exports-none k (one_def (define ns (row t ls)) ds) r = rw (r.0, exports-none (k + 1) ds r.2) refl

section-none : (s : Space) (j : ℕ) (b : Bool) → before s (written j) (name_marks b) ≡ 0
section-none s j true = refl
section-none s j false = refl

-- the index of a definition is what the definitions in front of it declare
before-counts : (s : Space) (st : List Scope) (k j : ℕ) (ds : Defs) (b : Bool) → DefsResolved ds → before s (written (k + j)) (plan_defs st k ds ++ name_marks b) ≡ declared_before s ds j
before-counts s st k j no_def b r = section-none s (k + j) b
before-counts s st k zero (one_def (define ns (row t ls)) ds) b r =
    let z : k + 0 ≡ k = omega arith in
    rw (plan-none st k 0 ls r.1) (subst (λ n. before s (written n) (Rattle.comp_scopes.specs.Plan.mark (written k) (declares_row t ls) ∷ (plan_defs st (k + 1) ds ++ name_marks b)) ≡ 0) (sym z) (rw (same_origin-refl (written k)) refl))
before-counts s st k (suc j) (one_def (define ns (row t ls)) ds) b r =
    let w : (k + 1) + j ≡ k + suc j = omega arith in
    let i : before s (written (k + suc j)) (plan_defs st (k + 1) ds ++ name_marks b) ≡ declared_before s ds j = subst (λ n. before s (written n) (plan_defs st (k + 1) ds ++ name_marks b) ≡ declared_before s ds j) w (before-counts s st (k + 1) j ds b r.2) in
    rw (plan-none st k 0 ls r.1, same_origin-false (written (k + suc j)) (written k) (λ q. later k j q)) (ap (λ n. count_in s (declares_row t ls) + n) i)
  where
    definition : Rattle.comp_model.specs.Origins.Origin → ℕ
    definition (written n) = n
    definition _ = 0

    later : (k j : ℕ) → written (k + suc j) ≡ written k → ⊥
    later k j q = let e : k + suc j ≡ k = ap definition q in absurd (omega (arith, e))

before-along : (s : Space) (st : List Scope) (kd : ScopeKind) (id : Option Id) (label : Option Text) (ds : Defs) (j : ℕ) → DefsResolved ds → before s (written j) (marks (scope_of kd id label ds ∷ st)) ≡ declared_before s ds j
before-along s st kd id label ds j r =
    let z : 0 + j ≡ j = omega arith in
    let c : Scope = scope_of kd id label ds in
    rw (exports-none 0 ds r) (subst (λ n. before s (written n) (plan_defs (c ∷ st) 0 ds ++ name_marks (has_names c)) ≡ declared_before s ds j) z (before-counts s (c ∷ st) 0 j ds (has_names c) r))

-- ---- its names

module _ (st : List Scope) (kd : ScopeKind) (id : Option Id) (label : Option Text) (ds : Defs) (r : DefsResolved ds) where
  names-same : (s : Space) (ns : List PartName) → names_in (marks (scope_of kd id label ds ∷ st)) s ns ≡ names_along ds s ns
  names-same s [] = refl
  names-same s (n ∷ ns) =
      ap (λ i. name_in_front (same_space s n.space) n.name (i + n.part) (names_in (marks (scope_of kd id label ds ∷ st)) s ns)) (before-along s st kd id label ds n.definition r)
      ∙ ap (name_in_front (same_space s n.space) n.name (declared_before s ds n.definition + n.part)) (names-same s ns)

  maps-same : (ns : List PartName) (ss : List Space) → maps_in (marks (scope_of kd id label ds ∷ st)) ns ss ≡ maps_along ds ns ss
  maps-same ns [] = refl
  maps-same ns (s ∷ ss) = ap (λ q. map_in_front s q (maps_in (marks (scope_of kd id label ds ∷ st)) ns ss)) (names-same s ns) ∙ ap (map_in_front s (names_along ds s ns)) (maps-same ns ss)

  list-names : names_of st (scope_of kd id label ds) ≡ list_names (scope_of kd id label ds)
  list-names = ap (λ (ms : List NameMap). record { component = own_name (scope_of kd id label ds); maps = ms }) (maps-same (names_from 0 ds) all_spaces)

-- ---- its form, and the marks in it

abbrev only : {H : Type 0} → Held → H → Formed H
only h x = record { inlined = []; bundles = []; needed = []; held = h; here = x }

exports-nothing : (st : List Scope) (k : ℕ) (ds : Defs) → DefsResolved ds → form_exports st k ds ≡ []
exports-nothing st k no_def r = refl
exports-nothing st k (one_def (define ns (row t ls)) ds) r = rw (r.0, exports-nothing st (k + 1) ds r.2) refl

module _ (e : Encoding) where
  value-resolved : (st : List Scope) (k u : ℕ) (v : CoreValue) → LeafResolved (core_value v) → form_value st k u v ≡ only holds_none (binary_of_leaf e (core_value v))
  value-resolved st k u (ref_name b y x) r = absurd r
  value-resolved st k u v r = refl

  place-resolved : (st : List Scope) (k u : ℕ) (p : Place) → LeafResolved (place p) → form_leaf e st k u (place p) ≡ only holds_none (binary_of_leaf e (place p))
  place-resolved st k u (counted o d) r = refl
  place-resolved st k u (named o x) r = absurd r

  -- what stands behind the definitions of a scope
  section-form : (st : List Scope) (kd : ScopeKind) (id : Option Id) (label : Option Text) (ds : Defs) (b : Bool) → DefsResolved ds → binary_defs (form_names st (scope_of kd id label ds) b) ≡ section_of e (scope_of kd id label ds) b
  section-form st kd id label ds true r = ap (λ n. one_def (define no_names (custom_node (codes "component-name") (name_payload n))) no_def) (list-names st kd id label ds r)
  section-form st kd id label ds false r = refl

  section-marks : (st : List Scope) (s : Scope) (b : Bool) → origins_of (form_names st s b) ≡ section_where b
  section-marks st s true = refl
  section-marks st s false = refl

  abbrev behind-of : List Scope → Scope → Defs → List Made
  behind-of st s ds = form_exports (s ∷ st) 0 ds ++ form_names st s (has_names s)

  behind-form : (st : List Scope) (kd : ScopeKind) (id : Option Id) (label : Option Text) (ds : Defs) → DefsResolved ds → binary_defs (behind-of st (scope_of kd id label ds) ds) ≡ section_of e (scope_of kd id label ds) (has_names (scope_of kd id label ds))
  behind-form st kd id label ds r = rw (exports-nothing (scope_of kd id label ds ∷ st) 0 ds r) (section-form st kd id label ds (has_names (scope_of kd id label ds)) r)

  behind-marks : (st : List Scope) (kd : ScopeKind) (id : Option Id) (label : Option Text) (ds : Defs) → DefsResolved ds → origins_of (behind-of st (scope_of kd id label ds) ds) ≡ section_behind (scope_of kd id label ds)
  behind-marks st kd id label ds r = rw (exports-nothing (scope_of kd id label ds ∷ st) 0 ds r) (section-marks st (scope_of kd id label ds) (has_names (scope_of kd id label ds)))

  inner-same : (kd : ScopeKind) (ds bs : Defs) (os ps : Origins) → ds ≡ bs → os ≡ ps → only (holds os) (scope (scope_of kd None None ds)) ≡ only (holds ps) (scope (scope_of kd None None bs))
  inner-same kd ds bs os ps p q = rw (p, q) refl

  mutual
    defs-form : (st : List Scope) (k : ℕ) (ds : Defs) (more : List Made) → DefsResolved ds → binary_defs (form_defs e st k ds ++ more) ≡ binary_of_defs e ds (binary_defs more)
    defs-form st k no_def more r = refl
    defs-form st k (one_def (define ns (row t ls)) ds) more r = rw (leaves-form st k 0 ls r.1) (ap (one_def (define no_names (coded_node e t ls (binary_of_leaves e ls)))) (defs-form st (k + 1) ds more r.2))

    defs-marks : (st : List Scope) (k : ℕ) (ds : Defs) (more : List Made) → DefsResolved ds → origins_of (form_defs e st k ds ++ more) ≡ written_from k ds (origins_of more)
    defs-marks st k no_def more r = refl
    defs-marks st k (one_def (define ns (row t ls)) ds) more r = rw (leaves-form st k 0 ls r.1) (ap (origin_then (written k) (written_in ls)) (defs-marks st (k + 1) ds more r.2))

    leaves-form : (st : List Scope) (k u : ℕ) (ls : Leaves) → LeavesResolved ls → form_leaves e st k u ls ≡ only (written_in ls) (binary_of_leaves e ls)
    leaves-form st k u no_leaf r = refl
    leaves-form st k u (l ▸ ls) r =
        ap (λ a. form_both (λ b bs. b ▸ bs) a (form_leaves e st k (u + references_leaf l) ls)) (leaf-form st k u l r.0)
        ∙ ap (form_both (λ b bs. b ▸ bs) (only (written_in_leaf l) (binary_of_leaf e l))) (leaves-form st k (u + references_leaf l) ls r.1)

    leaf-form : (st : List Scope) (k u : ℕ) (l : Leaf) → LeafResolved l → form_leaf e st k u l ≡ only (written_in_leaf l) (binary_of_leaf e l)
    leaf-form st k u (core_value v) r = value-resolved st k u v r
    leaf-form st k u (ref s (name y x)) r = absurd r
    leaf-form st k u (ref s (path p)) r = absurd r
    leaf-form st k u (ref s (inline n)) r = absurd r
    leaf-form st k u (ref s (bundle n)) r = absurd r
    leaf-form st k u (place p) r = place-resolved st k u p r
    leaf-form st k u (present l) r = ap (formed_as present) (leaf-form st k u l r)
    leaf-form st k u (node (row t ls)) r = ap (formed_as (λ bs. node (row t bs))) (leaves-form st k u ls r)
    leaf-form st k u (nodes ns) r = ap (formed_as nodes) (nodes-form st k u ns r)
    leaf-form st k u (scope (scope_of kd id label ds)) r =
        let c : Scope = scope_of kd id label ds in
        inner-same kd (binary_defs (form_defs e (c ∷ st) 0 ds ++ behind-of st c ds)) (binary_of_defs e ds (section_of e c (has_names c))) (origins_of (form_defs e (c ∷ st) 0 ds ++ behind-of st c ds)) (written_from 0 ds (section_behind c))
        (defs-form (c ∷ st) 0 ds (behind-of st c ds) r ∙ ap (binary_of_defs e ds) (behind-form st kd id label ds r))
        (defs-marks (c ∷ st) 0 ds (behind-of st c ds) r ∙ ap (written_from 0 ds) (behind-marks st kd id label ds r))
    leaf-form st k u l r = refl

    nodes-form : (st : List Scope) (k u : ℕ) (ns : Nodes) → NodesResolved ns → form_nodes e st k u ns ≡ only (written_in_nodes ns) (binary_of_nodes e ns)
    nodes-form st k u no_node r = refl
    nodes-form st k u (one_node (row t ls) ns) r =
        ap (λ a. form_both (λ bs cs. one_node (row t bs) cs) a (form_nodes e st k (u + references ls) ns)) (leaves-form st k u ls r.0)
        ∙ ap (form_both (λ bs cs. one_node (row t bs) cs) (only (written_in ls) (binary_of_leaves e ls))) (nodes-form st k (u + references ls) ns r.1)

  pub resolved-form : (st : List Scope) (s : Scope) → IsResolved s → form e st s ≡ binary_of e s
  resolved-form st (scope_of kd id label ds) r =
      let c : Scope = scope_of kd id label ds in
      ap (scope_of kd None None) (defs-form (c ∷ st) 0 ds (behind-of st c ds) r ∙ ap (binary_of_defs e ds) (behind-form st kd id label ds r))

  pub resolved-plan : (st : List Scope) (s : Scope) → IsResolved s → plan e st s ≡ written_marks s
  resolved-plan st (scope_of kd id label ds) r =
      let c : Scope = scope_of kd id label ds in
      defs-marks (c ∷ st) 0 ds (behind-of st c ds) r ∙ ap (written_from 0 ds) (behind-marks st kd id label ds r)
