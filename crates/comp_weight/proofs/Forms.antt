-- What a form costs is at most eight times the weight of its source.
use Rattle.std.proofs.Common.{◌≡◌, ℕ, ◌+◌, ◌*◌, ◌<◌, ◌≤◌, ◌^◌, List, [], ◌∷◌, ◌++◌, length, refl, sym, ap, subst, arith, Bool, true, false, IsTrue, Option, Some, None}
use Rattle.comp_model.specs.declared.Space.{Space}
use Rattle.comp_model.specs.declared.Space.TheVariants.{CoreType}
use Rattle.comp_model.specs.declared.row.Row.TheVariants as rows
use Rattle.comp_model.specs.declared.row.Row.{Row}
use Rattle.comp_model.specs.RowNumbers.{same_row}
use Rattle.comp_model.specs.Core.{Text, Id, CoreValue, ref_index, ref_numeral, ref_name, own}
use Rattle.comp_model.specs.Model.{Leaf, text, number, core_value, ref, place, present, node, nodes, result_ids, result_count, core_source, module_bytes, scope, index, numeral, name, Path, root_number, root_name, export_of, path, inline, bundle, Leaves, no_leaf, ◌▸◌, Node, row, Nodes, no_node, one_node, count_nodes, define, Defs, no_def, one_def, Scope, scope_of, kind_of, id_of, label_of, defs_of}
use Rattle.comp_model.specs.declared.row.ScopeKind.{ScopeKind}
use Rattle.comp_model.specs.declared.row.ScopeKind.TheVariants as kinds
use Rattle.comp_model.specs.declared.declares.Declares.{Declares}
use Rattle.comp_model.specs.declared.declares.Declares.TheVariants.{Nothing}
use Rattle.comp_model.specs.Spaces.{declares_by, leaves_spaces, declares_row}
use Rattle.comp_model.specs.Origins.{Origin, written, inline_type, bundle_of, export_step, outer_alias_of}
use Rattle.comp_model.specs.Weight.{weight_of_all, weight_of_id, weight_of_label, weight_of_path, weight_of_leaf, weight_of_leaves, weight_of_nodes, weight_of_defs, weight_of_scope, weight}
use Rattle.comp_model.proofs.Tests.{same_row-true}
use Rattle.comp_scopes.specs.Encoding.{Encoding}
use Rattle.comp_scopes.specs.Names.{Denoted, denotes}
use Rattle.comp_scopes.specs.References.{references, references_leaf, steps, instance_space}
use Rattle.comp_scopes.specs.Reused.{reused}
use Rattle.comp_model.specs.ItemNames.{part_names, names_from, has_names}
use Rattle.comp_scopes.specs.Outward.{leads_out, served}
use Rattle.comp_scopes.specs.Plan.{marks, before, item_index}
use Rattle.comp_scopes.specs.Form.{Made, make, Formed, form_both, own_made, form_one, form_inline, form_bundle, form_alias, form_name, path_index, step_node, form_path, form_value, form_exports_of, form_exports, binary_defs, coded_node, form_names, form_defs, form_leaves, form_leaf, form_nodes, form}
use Rattle.comp_scopes.specs.Rowed.{Textual, TextualLeaf, TextualNodes}
use Rattle.comp_model.specs.Payloads.{producers_payload}
use Rattle.core_model.specs.Weight.{module_weight}
use Rattle.core_model.proofs.Shortness.{bytes-within-words}
use Rattle.comp_weight.specs.Formats.{ByFormats}
use Rattle.comp_weight.specs.Cost.{width, cost_leaf, cost_leaves, cost_node, cost_nodes, cost_defs, cost_scope}
use Rattle.comp_weight.proofs.Producers.{payload-bytes}
use Rattle.comp_weight.proofs.Fair.{HasLeaf, own_length, held_names, held_names_of, held_names_in, FairValue, FairLeaf, FairLeaves, FairNodes, FairDefs}
use Rattle.comp_weight.proofs.Plans.{parts_of, leaf-spaces, row-parts}
use Rattle.comp_weight.proofs.Indices.{width-short, Light, before-light, Near, denotes-near, item-light, root-light, place-short}
use Rattle.comp_weight.proofs.NameSections.{names_cost, names_cost-append, payload-length, part-names-cost}
use Rattle.comp_weight.specs.Numerals.{NumeralPath}

-- ---- what planned definitions cost

abbrev pub made_cost : List Made → ℕ
made_cost [] = 0
made_cost (m ∷ ms) = 11 + cost_node m.made + made_cost ms

made-append : (ms ns : List Made) → made_cost (ms ++ ns) ≡ made_cost ms + made_cost ns
made-append [] ns = omega arith
made-append (m ∷ ms) ns = omega (arith, made-append ms ns)

binary-cost : (ms : List Made) → cost_defs (binary_defs ms) ≡ made_cost ms
binary-cost [] = refl
binary-cost (m ∷ ms) = omega (arith, binary-cost ms)

abbrev pub planned_cost : {H : Type 0} → Formed H → ℕ
planned_cost a = made_cost a.inlined + (made_cost a.bundles + made_cost a.needed)

both-cost : {F G H : Type 0} (f : F → G → H) (a : Formed F) (b : Formed G) → planned_cost (form_both f a b) ≡ planned_cost a + planned_cost b
both-cost f a b = omega (arith, made-append a.inlined b.inlined, made-append a.bundles b.bundles, made-append a.needed b.needed)

one-cost : (o : Origin) (n : Leaves → Node) (a : Formed Leaves) → made_cost (form_one o n a) ≡ planned_cost a + (11 + cost_node (n a.here))
one-cost o n a = omega (arith, made-append a.inlined (a.bundles ++ (a.needed ++ own_made o n a ∷ [])), made-append a.bundles (a.needed ++ own_made o n a ∷ []), made-append a.needed (own_made o n a ∷ []))

module _ (limit : ℕ) (small : 8 * limit < 2 ^ 32) where
  index-width : (st : List Scope) (s : Space) (o : Origin) → Light module_weight limit st → width (before s o (marks st)) ≤ 5
  index-width st s o l = width-short (before s o (marks st)) (omega (arith, before-light module_weight limit st s o l, small))

  alias-form : (st : List Scope) (k u : ℕ) (s : Space) (d : Denoted) (o : Option Origin) → Light module_weight limit st → width d.depth ≤ 5 → width (item_index st s d) ≤ 5
      → (planned_cost (form_alias st k u s d o) ≤ 28) × (width (form_alias st k u s d o).here ≤ 5)
  alias-form st k u s d (Some o) l i j = (omega arith, index-width st s o l)
  alias-form st k u s d None l i j = (omega (arith, i, j), index-width st s (outer_alias_of k u) l)

  name-form : (st : List Scope) (k u : ℕ) (s : Space) (b : Bool) (o : Option Denoted) → Light module_weight limit st → length st ≤ limit → Near module_weight limit (length st) o
      → (planned_cost (form_name st k u s b o) ≤ 28) × (width (form_name st k u s b o).here ≤ 5)
  name-form st k u s true None l n h = (omega arith, width-short 0 (omega arith))
  name-form st k u s false None l n h = (omega arith, width-short 0 (omega arith))
  name-form st k u s false (Some d) l n h = (omega arith, width-short (item_index st s d) (omega (arith, item-light module_weight limit st s d l h.1, small)))
  name-form st k u s true (Some d) l n h =
      let i : width (item_index st s d) ≤ 5 = width-short (item_index st s d) (omega (arith, item-light module_weight limit st s d l h.1, small)) in
      let j : width d.depth ≤ 5 = width-short d.depth (omega (arith, h.0, n, small)) in
      alias-form st k u s d (served st k u s d) l j i

  path-width : (st : List Scope) (k u : ℕ) (s : Space) (p : Path) → Light module_weight limit st → NumeralPath p → width (path_index st k u s p) ≤ 5
  path-width st k u s (root_number o n) l f = width-short n f
  path-width st k u s (root_name x) l f = width-short (path_index st k u s (root_name x)) (omega (arith, root-light module_weight limit st s (denotes st s own x) l (denotes-near module_weight limit st s own x l), small))
  path-width st k u s (export_of p t) l f = index-width st s (export_step k u (steps p)) l

  path-form : (st : List Scope) (k u : ℕ) (s : Space) (p : Path) → Light module_weight limit st → NumeralPath p → made_cost (form_path st k u s p) ≤ 8 * weight_of_path p
  path-form st k u s (root_number o n) l f = omega arith
  path-form st k u s (root_name x) l f = omega arith
  path-form st k u s (export_of p t) l f =
      omega (
        arith,
        made-append (form_path st k u (instance_space s) p) (make (export_step k u (steps p)) (step_node (path_index st k u (instance_space s) p) t s) ∷ []),
        path-width st k u (instance_space s) p l f,
        path-form st k u (instance_space s) p l f,
      )

  value-form : (st : List Scope) (k u : ℕ) (v : CoreValue) → Light module_weight limit st → length st ≤ limit → FairValue v → planned_cost (form_value st k u v) + cost_leaf (form_value st k u v).here ≤ 35
  value-form st k u (ref_index b i) l n f = absurd f
  value-form st k u (ref_numeral b o i) l n f = omega (arith, width-short i f)
  value-form st k u (ref_name b r x) l n f =
      let a = name-form st k u CoreType (leads_out r (denotes st CoreType r x)) (denotes st CoreType r x) l n (denotes-near module_weight limit st CoreType r x l) in omega (arith, a.0, a.1)
  value-form st k u v l n f = omega arith

  inline-form : (st : List Scope) (k u : ℕ) (s : Space) (t : Row) (j : Option Origin) (a : Formed Leaves) → Light module_weight limit st
      → planned_cost (form_inline st k u s t j a) + cost_leaf (form_inline st k u s t j a).here ≤ 21 + (planned_cost a + cost_leaves a.here)
  inline-form st k u s t (Some o) a l = omega (arith, index-width st s o l)
  inline-form st k u s t None a l = omega (arith, one-cost (inline_type k u) (row t) a, index-width st s (inline_type k u) l)

  bundle-form : (st : List Scope) (k u : ℕ) (s : Space) (t : Row) (a : Formed Leaves) → Light module_weight limit st
      → planned_cost (form_bundle st k u s t a) + cost_leaf (form_bundle st k u s t a).here ≤ 21 + (planned_cost a + cost_leaves a.here)
  bundle-form st k u s t a l =
      omega (arith, made-append a.bundles (a.needed ++ own_made (bundle_of k u) (row t) a ∷ []), made-append a.needed (own_made (bundle_of k u) (row t) a ∷ []), index-width st s (bundle_of k u) l)

  exports_of-form : (st : List Scope) (k j : ℕ) (xs : List Text) (ss : List Space) → Light module_weight limit st → made_cost (form_exports_of st k j xs ss) ≤ weight_of_all (λ t. 32 + length t) xs
  exports_of-form st k j [] ss l = omega arith
  exports_of-form st k j (x ∷ xs) [] l = omega arith
  exports_of-form st k j (x ∷ xs) (s ∷ ss) l = omega (arith, index-width st s (written k) l, exports_of-form st k (j + 1) xs (s ∷ ss) l)

  module _ (e : Encoding) (formats : ByFormats e) where
    -- ---- the name section

    section-form : (st : List Scope) (k : ScopeKind) (id : Option Id) (label : Option Text) (ds : Defs) (b : Bool) → Light module_weight limit (scope_of k id label ds ∷ st)
        → weight_of_id id + weight_of_label label ≤ limit → 169 + names_cost (names_from 0 ds) ≤ 8 * limit
        → made_cost (form_names st (scope_of k id label ds) b) ≤ 220 + (weight_of_id id + weight_of_label label) + names_cost (names_from 0 ds)
    section-form st k id label ds false l o c = omega arith
    section-form st k id label ds true l o c = omega (arith, payload-length module_weight limit small st k id label ds l o c)

    names-form : (st : List Scope) (k : ScopeKind) (id : Option Id) (label : Option Text) (ds : Defs) → Light module_weight limit (scope_of k id label ds ∷ st)
        → own_length k id label ≤ limit → 169 + names_cost (names_from 0 ds) ≤ 8 * limit
        → made_cost (form_names st (scope_of k id label ds) (has_names (scope_of k id label ds))) ≤ 220 + own_length k id label + names_cost (names_from 0 ds)
    names-form st kinds.Component id label ds l o c = section-form st kinds.Component id label ds (has_names (scope_of kinds.Component id label ds)) l o c
    names-form st kinds.ComponentType id label ds l o c = omega arith
    names-form st kinds.InstanceType id label ds l o c = omega arith
    names-form st kinds.ModuleType id label ds l o c = omega arith

    -- ---- producers

    mutual
      textual-leaves : (st : List Scope) (k u : ℕ) (ls : Leaves) → Textual ls → planned_cost (form_leaves e st k u ls) ≡ 0
      textual-leaves st k u no_leaf h = refl
      textual-leaves st k u (l ▸ ls) h = omega (arith, both-cost (λ b bs. b ▸ bs) (form_leaf e st k u l) (form_leaves e st k (u + references_leaf l) ls), textual-leaf st k u l h.0, textual-leaves st k (u + references_leaf l) ls h.1)

      textual-leaf : (st : List Scope) (k u : ℕ) (l : Leaf) → TextualLeaf l → planned_cost (form_leaf e st k u l) ≡ 0
      textual-leaf st k u (text t) h = refl
      textual-leaf st k u (nodes ns) h = textual-nodes st k u ns h
      textual-leaf st k u _ h = absurd h

      textual-nodes : (st : List Scope) (k u : ℕ) (ns : Nodes) → TextualNodes ns → planned_cost (form_nodes e st k u ns) ≡ 0
      textual-nodes st k u no_node h = refl
      textual-nodes st k u (one_node (row t ls) ns) h =
          omega (
            arith,
            both-cost (λ bs cs. one_node (row t bs) cs) (form_leaves e st k u ls) (form_nodes e st k (u + references ls) ns),
            textual-leaves st k u ls h.0,
            textual-nodes st k (u + references ls) ns h.1,
          )

    -- the node of a written definition, with ten for each item that it declares
    coded-form : (t : Row) (ls : Leaves) (a : Formed Leaves) (n : ℕ) → (IsTrue (same_row t rows.Producers) → HasLeaf ls × Textual ls) → weight_of_leaves module_weight ls ≤ limit → (Textual ls → planned_cost a ≡ 0)
        → planned_cost a + cost_leaves a.here + 10 * length (leaves_spaces ls (declares_by t)) ≤ 8 * weight_of_leaves module_weight ls + n
        → planned_cost a + cost_node (coded_node e t ls a.here) + 10 * length (declares_row t ls) ≤ 34 + (8 * weight_of_leaves module_weight ls + n)
    coded-form t ls a n p w q h = go (same_row t rows.Producers) refl
      where
        go : (b : Bool) → same_row t rows.Producers ≡ b → planned_cost a + cost_node (coded_node e t ls a.here) + 10 * length (declares_row t ls) ≤ 34 + (8 * weight_of_leaves module_weight ls + n)
        go true r =
            let x : HasLeaf ls × Textual ls = p r in
            let y : length (declares_row t ls) ≡ 0 = subst (λ v. length (declares_row v ls) ≡ 0) (sym (same_row-true t rows.Producers r)) refl in
            let z : cost_node (coded_node e t ls a.here) ≡ 24 + length (producers_payload ls) = rw r (omega arith) in
            omega (arith, q x.1, y, z, payload-bytes module_weight limit small ls x.0 x.1 w)
        go false r =
            let z : cost_node (coded_node e t ls a.here) ≡ 3 + cost_leaves a.here = rw r refl in
            omega (arith, h, z, row-parts t ls)

    -- ---- along the form

    mutual
      leaves-form : (st : List Scope) (k u : ℕ) (ls : Leaves) (d : Declares) → Light module_weight limit st → length st + weight_of_leaves module_weight ls ≤ limit → weight_of_leaves module_weight ls + held_names ls ≤ limit → FairLeaves ls
          → planned_cost (form_leaves e st k u ls) + cost_leaves (form_leaves e st k u ls).here + 10 * length (leaves_spaces ls d) ≤ 8 * weight_of_leaves module_weight ls + 7 * held_names ls
      leaves-form st k u no_leaf d l r h f = omega arith
      leaves-form st k u (x ▸ ls) d l r h f =
          omega (
            arith,
            both-cost (λ b bs. b ▸ bs) (form_leaf e st k u x) (form_leaves e st k (u + references_leaf x) ls),
            leaf-spaces x ls d,
            leaf-form st k u x l (omega (arith, r)) (omega (arith, h)) f.0,
            leaves-form st k (u + references_leaf x) ls d l (omega (arith, r)) (omega (arith, h)) f.1,
          )

      leaf-form : (st : List Scope) (k u : ℕ) (x : Leaf) → Light module_weight limit st → length st + weight_of_leaf module_weight x ≤ limit → weight_of_leaf module_weight x + held_names_of x ≤ limit → FairLeaf x
          → planned_cost (form_leaf e st k u x) + cost_leaf (form_leaf e st k u x).here + 10 * parts_of x ≤ 8 * weight_of_leaf module_weight x + 7 * held_names_of x
      leaf-form st k u (core_value v) l r h f = omega (arith, value-form st k u v l (omega (arith, r)) f)
      leaf-form st k u (number n) l r h f = omega (arith, width-short n f)
      leaf-form st k u (ref s (index i)) l r h f = absurd f
      leaf-form st k u (ref s (numeral o n)) l r h f = omega (arith, width-short n f)
      leaf-form st k u (ref s (name q x)) l r h f =
          let a = name-form st k u s (leads_out q (denotes st s q x)) (denotes st s q x) l (omega (arith, r)) (denotes-near module_weight limit st s q x l) in omega (arith, a.0, a.1)
      leaf-form st k u (ref s (path p)) l r h f = omega (arith, path-form st k u s p l f, path-width st k u s p l f)
      leaf-form st k u (ref s (inline (row t ls))) l r h f =
          omega (arith, inline-form st k u s t (reused st k u t ls) (form_leaves e st k (u + 1) ls) l, leaves-form st k (u + 1) ls Nothing l (omega (arith, r)) (omega (arith, h)) f)
      leaf-form st k u (ref s (bundle (row t ls))) l r h f = omega (arith, bundle-form st k u s t (form_leaves e st k (u + 1) ls) l, leaves-form st k (u + 1) ls Nothing l (omega (arith, r)) (omega (arith, h)) f)
      leaf-form st k u (place p) l r h f = omega (arith, place-short st p (omega (arith, r, small)) f)
      leaf-form st k u (present (node (row t ls))) l r h f = omega (arith, leaves-form st k u ls Nothing l (omega (arith, r)) (omega (arith, h)) f)
      leaf-form st k u (present x) l r h f = omega (arith, leaf-form st k u x l (omega (arith, r)) (omega (arith, h)) f)
      leaf-form st k u (node (row t ls)) l r h f = omega (arith, leaves-form st k u ls Nothing l (omega (arith, r)) (omega (arith, h)) f)
      leaf-form st k u (nodes ns) l r h f = omega (arith, nodes-form st k u ns l (omega (arith, r)) (omega (arith, h)) f)
      leaf-form st k u (result_ids ids) l r h f = omega (arith, width-short (length ids) (omega (arith, r, small)))
      leaf-form st k u (result_count n) l r h f = absurd f
      leaf-form st k u (core_source c) l r h f = omega (arith, ap length (formats.cores c), bytes-within-words c f (omega (arith, h, small)))
      leaf-form st k u (module_bytes bs) l r h f = absurd f
      leaf-form st k u (scope (scope_of c id label ds)) l r h f = omega (arith, inner-form st (scope_of c id label ds) (omega (arith, r), l) (omega (arith, r)) (omega (arith, h)) f)
      leaf-form st k u (text t) l r h f = omega arith
      leaf-form st k u _ l r h f = omega arith

      nodes-form : (st : List Scope) (k u : ℕ) (ns : Nodes) → Light module_weight limit st → length st + weight_of_nodes module_weight ns ≤ limit → weight_of_nodes module_weight ns + held_names_in ns ≤ limit → FairNodes ns
          → planned_cost (form_nodes e st k u ns) + cost_nodes (form_nodes e st k u ns).here + 10 * count_nodes ns ≤ 8 * weight_of_nodes module_weight ns + 7 * held_names_in ns
      nodes-form st k u no_node l r h f = omega arith
      nodes-form st k u (one_node (row t ls) ns) l r h f =
          omega (
            arith,
            both-cost (λ bs cs. one_node (row t bs) cs) (form_leaves e st k u ls) (form_nodes e st k (u + references ls) ns),
            leaves-form st k u ls Nothing l (omega (arith, r)) (omega (arith, h)) f.0,
            nodes-form st k (u + references ls) ns l (omega (arith, r)) (omega (arith, h)) f.1,
          )

      defs-form : (st : List Scope) (k : ℕ) (ds : Defs) → Light module_weight limit st → length st + weight_of_defs module_weight ds ≤ limit → FairDefs ds
          → made_cost (form_defs e st k ds) + (made_cost (form_exports st k ds) + names_cost (names_from k ds)) ≤ 8 * weight_of_defs module_weight ds
      defs-form st k no_def l r f = omega arith
      defs-form st k (one_def (define names (row t ls)) ds) l r f =
          omega (
            arith,
            f.0,
            made-append (form_one (written k) (coded_node e t ls) (form_leaves e st k 0 ls)) (form_defs e st (k + 1) ds),
            one-cost (written k) (coded_node e t ls) (form_leaves e st k 0 ls),
            coded-form t ls (form_leaves e st k 0 ls) (7 * held_names ls) f.1 (omega (arith, r)) (textual-leaves st k 0 ls) (leaves-form st k 0 ls (declares_by t) l (omega (arith, r)) (omega (arith, r, f.0)) f.2),
            made-append (form_exports_of st k 0 names.exports (declares_row t ls)) (form_exports st (k + 1) ds),
            exports_of-form st k 0 names.exports (declares_row t ls) l,
            names_cost-append (part_names k 0 names.ids names.labels (declares_row t ls)) (names_from (k + 1) ds),
            part-names-cost k 0 names.ids names.labels (declares_row t ls),
            defs-form st (k + 1) ds l (omega (arith, r)) f.3,
          )

      -- a scope and its name section, from the stack with it
      inner-form : (st : List Scope) (s : Scope) → Light module_weight limit (s ∷ st) → length st + weight_of_scope module_weight s ≤ limit → own_length (kind_of s) (id_of s) (label_of s) ≤ limit → FairDefs (defs_of s)
          → cost_scope (form e st s) ≤ 8 * weight_of_scope module_weight s + own_length (kind_of s) (id_of s) (label_of s)
      inner-form st (scope_of c id label ds) l r h f =
          let s : Scope = scope_of c id label ds in
          let a = form_defs e (s ∷ st) 0 ds in
          let b = form_exports (s ∷ st) 0 ds in
          let n = form_names st s (has_names s) in
          let d = defs-form (s ∷ st) 0 ds l (omega (arith, r)) f in
          omega (arith, binary-cost (a ++ (b ++ n)), made-append a (b ++ n), made-append b n, d, names-form st c id label ds l h (omega (arith, d, r)))

pub form-cost : (e : Encoding) → ByFormats e → (c : ScopeKind) (id : Option Id) (label : Option Text) (ds : Defs) → 8 * weight module_weight (scope_of c id label ds) < 2 ^ 32 → FairDefs ds
    → cost_scope (form e [] (scope_of c id label ds)) ≤ 8 * weight module_weight (scope_of c id label ds)
form-cost e formats c id label ds small f =
    let limit : ℕ = weight module_weight (scope_of c id label ds) in
    let i = inner-form limit small e formats [] (scope_of c id label ds) (omega arith, tt) (omega arith) (own-light c) f in
    omega (arith, i, own-length c)
  where
    own-length : (k : ScopeKind) → own_length k id label ≤ weight_of_id id + weight_of_label label
    own-length kinds.Component = omega arith
    own-length kinds.ComponentType = omega arith
    own-length kinds.InstanceType = omega arith
    own-length kinds.ModuleType = omega arith

    own-light : (k : ScopeKind) → own_length k id label ≤ weight module_weight (scope_of c id label ds)
    own-light kinds.Component = omega arith
    own-light kinds.ComponentType = omega arith
    own-light kinds.InstanceType = omega arith
    own-light kinds.ModuleType = omega arith
