-- The expansion of a component is at most four times as large as the component, which is at most a thirty-second part of its weight.
use Rattle.std.proofs.Common.{◌≡◌, ℕ, ◌+◌, ◌-◌, ◌*◌, ◌^◌, ◌≤◌, ◌<◌, List, [], ◌∷◌, ◌++◌, length, refl, sym, ap, subst, arith, Option, Some, None}
use Rattle.comp_model.specs.declared.Space.{Space}
use Rattle.comp_model.specs.declared.row.Row.{Row}
use Rattle.comp_model.specs.Core.{Text, Id}
use Rattle.comp_model.specs.CoreModules.{CoreModule}
use Rattle.comp_model.specs.Model.{Leaf, text, number, kind, core_value, ref, place, absent, present, node, nodes, case_id, result_ids, result_count, core_source, module_bytes, scope, index, numeral, name, Path, root_number, root_name, export_of, path, inline, bundle, Leaves, no_leaf, ◌▸◌, row, Nodes, no_node, one_node, define, Defs, no_def, one_def, Scope, Names, scope_of}
use Rattle.comp_model.specs.Origins.{Origin, written, inline_type, bundle_of}
use Rattle.comp_model.specs.Spaces.{declares_row}
use Rattle.comp_model.specs.Weight.{weight_of_all, weight_of_path, weight_of_names, weight_of_leaf, weight_of_leaves, weight_of_nodes, weight_of_defs, weight_of_scope, weight}
use Rattle.comp_scopes.specs.References.{references, references_leaf, steps}
use Rattle.comp_scopes.specs.Reused.{reused}
use Rattle.comp_scopes.specs.Rowed.{Rowed}
use Rattle.comp_expanded.specs.OfText.{OfText}
use Rattle.comp_expanded.specs.Expands.{Expands}
use Rattle.comp_expanded.specs.ListMarks.{ListMarks}
use Rattle.comp_expanded.proofs.HasNaming.{expands-expand}
use Rattle.comp_expanded.specs.Expansion as Expansion
use Rattle.comp_expanded.specs.Expansion.{Entry, entry_defs, Naming, inside, given, the_id, first_id, Expanded, expand_inline, expand_bundle, expand_exports_of, expand_exports, expand_leaves, expand_leaf, expand_nodes, expand_defs, expand_list, expand}
use Rattle.tree_names.specs.Size.{size_of_leaf, size_of_leaves, size_of_nodes, size_of_defs, size_of_scope}

-- ---- by the weight

steps-weigh : (p : Path) → 32 * steps p ≤ weight_of_path p
steps-weigh (root_number o n) = omega arith
steps-weigh (root_name x) = omega arith
steps-weigh (export_of p t) = omega (arith, steps-weigh p)

all-weigh : (ts : List Text) → 32 * length ts ≤ weight_of_all (λ t. 32 + length t) ts
all-weigh [] = omega arith
all-weigh (t ∷ ts) = omega (arith, all-weigh ts)

module _ (weigh : CoreModule → ℕ) where
  mutual
    pub leaf-weighs : (l : Leaf) → 32 * size_of_leaf l ≤ weight_of_leaf weigh l
    leaf-weighs (ref s (path p)) = omega (arith, steps-weigh p)
    leaf-weighs (ref s (inline (row t ls))) = omega (arith, leaves-weigh ls)
    leaf-weighs (ref s (bundle (row t ls))) = omega (arith, leaves-weigh ls)
    leaf-weighs (ref s (index n)) = omega arith
    leaf-weighs (ref s (numeral o n)) = omega arith
    leaf-weighs (ref s (name r x)) = omega arith
    leaf-weighs (present (node (row t ls))) = omega (arith, leaves-weigh ls)
    leaf-weighs (present l) = omega (arith, leaf-weighs l)
    leaf-weighs (node (row t ls)) = omega (arith, leaves-weigh ls)
    leaf-weighs (nodes ns) = omega (arith, nodes-weigh ns)
    leaf-weighs (result_ids ids) = omega arith
    leaf-weighs (result_count n) = omega arith
    leaf-weighs (scope s) = omega (arith, scope-weighs s)
    leaf-weighs (text t) = omega arith
    leaf-weighs (number n) = omega arith
    leaf-weighs (kind s) = omega arith
    leaf-weighs (core_value v) = omega arith
    leaf-weighs (place p) = omega arith
    leaf-weighs absent = omega arith
    leaf-weighs (case_id x) = omega arith
    leaf-weighs (core_source m) = omega arith
    leaf-weighs (module_bytes bs) = omega arith

    pub leaves-weigh : (ls : Leaves) → 32 * size_of_leaves ls ≤ weight_of_leaves weigh ls
    leaves-weigh no_leaf = omega arith
    leaves-weigh (l ▸ ls) = omega (arith, leaf-weighs l, leaves-weigh ls)

    pub nodes-weigh : (ns : Nodes) → 32 * size_of_nodes ns ≤ weight_of_nodes weigh ns
    nodes-weigh no_node = omega arith
    nodes-weigh (one_node (row t ls) ns) = omega (arith, leaves-weigh ls, nodes-weigh ns)

    pub defs-weigh : (ds : Defs) → 32 * size_of_defs ds ≤ weight_of_defs weigh ds
    defs-weigh no_def = omega arith
    defs-weigh (one_def (define names (row t ls)) ds) = omega (arith, all-weigh names.exports, leaves-weigh ls, defs-weigh ds)

    pub scope-weighs : (s : Scope) → 32 * size_of_scope s ≤ weight_of_scope weigh s
    scope-weighs (scope_of k id label ds) = omega (arith, defs-weigh ds)

-- ---- by the expansion

-- of the definitions of entries
abbrev entries : List Entry → ℕ
entries [] = 0
entries (x ∷ xs) = 1 + length x.names.exports + size_of_leaves x.leaves + entries xs

entries-are : (xs : List Entry) → size_of_defs (entry_defs xs) ≡ entries xs
entries-are [] = refl
entries-are (x ∷ xs) = ap (λ n. 1 + length x.names.exports + size_of_leaves x.leaves + n) (entries-are xs)

entries-append : (xs ys : List Entry) → entries (xs ++ ys) ≡ entries xs + entries ys
entries-append [] ys = omega arith
entries-append (x ∷ xs) ys = omega (arith, entries-append xs ys)

-- of a part with the definitions that stand for what is in it
abbrev whole : {H : Type 0} → (H → ℕ) → Expanded H → ℕ
whole f a = entries a.inlined + (entries a.bundles + f a.here)

-- exports for inline exports
exports-of-few : (x : Id) (k j : ℕ) (ns : List Text) (ss : List Space) → entries (expand_exports_of x k j ns ss) ≤ 4 * length ns
exports-of-few x k j [] ss = omega arith
exports-of-few x k j (n ∷ ns) [] = omega arith
exports-of-few x k j (n ∷ ns) (s ∷ ss) = omega (arith, exports-of-few x k (j + 1) ns (s ∷ ss))

-- inline export names of a list
abbrev names_in : Defs → ℕ
names_in no_def = 0
names_in (one_def (define ns (row t ls)) ds) = length ns.exports + names_in ds

exports-few : (g : Naming) (k : ℕ) (ds : Defs) → entries (expand_exports g k ds) ≤ 4 * names_in ds
exports-few g k no_def = omega arith
exports-few g k (one_def (define ns (row t ls)) ds) =
    omega (
      arith,
      entries-append (expand_exports_of (the_id (first_id ns.ids (given g (written k)))) k 0 ns.exports (declares_row t ls)) (expand_exports g (k + 1) ds),
      exports-of-few (the_id (first_id ns.ids (given g (written k)))) k 0 ns.exports (declares_row t ls),
      exports-few g (k + 1) ds,
    )

inline-few : (g : Naming) (c : Scope) (k u : ℕ) (s : Space) (t : Row) (o : Option Origin) (a : Expanded Leaves) → whole size_of_leaf (expand_inline g c k u s t o a) ≤ whole size_of_leaves a + 2
inline-few g c k u s t (Some o) a = omega arith
inline-few g c k u s t None a = omega (arith, entries-append a.inlined (a.bundles ++ Expansion.entry (inline_type k u) (Expansion.generated_names (given g (inline_type k u))) t a ∷ []), entries-append a.bundles (Expansion.entry (inline_type k u) (Expansion.generated_names (given g (inline_type k u))) t a ∷ []))

bundle-few : (g : Naming) (c : Scope) (k u : ℕ) (s : Space) (t : Row) (a : Expanded Leaves) → whole size_of_leaf (expand_bundle g c k u s t a) ≤ whole size_of_leaves a + 2
bundle-few g c k u s t a = omega (arith, entries-append a.bundles (Expansion.entry (bundle_of k u) (Expansion.generated_names (given g (bundle_of k u))) t a ∷ []))

nodes-both : (m : Leaves → Nodes → Nodes) → ((bs : Leaves) (ns : Nodes) → size_of_nodes (m bs ns) ≡ 1 + size_of_leaves bs + size_of_nodes ns) → (a : Expanded Leaves) (b : Expanded Nodes)
    → whole size_of_nodes (Expansion.expand_both m a b) ≡ 1 + whole size_of_leaves a + whole size_of_nodes b
nodes-both m h a b = omega (arith, h a.here b.here, entries-append a.inlined b.inlined, entries-append a.bundles b.bundles)

leaves-both : (a : Expanded Leaf) (b : Expanded Leaves) → whole size_of_leaves (Expansion.expand_both (λ l ls. l ▸ ls) a b) ≡ whole size_of_leaf a + whole size_of_leaves b
leaves-both a b = omega (arith, entries-append a.inlined b.inlined, entries-append a.bundles b.bundles)

-- the definitions that one becomes
one-few : (o : Origin) (ns : Names) (t : Row) (a : Expanded Leaves) → entries (Expansion.expand_one o ns t a) ≡ whole size_of_leaves a + 1 + length ns.exports
one-few o ns t a = omega (arith, entries-append a.inlined (a.bundles ++ Expansion.entry o ns t a ∷ []), entries-append a.bundles (Expansion.entry o ns t a ∷ []))

-- the definitions of a list with the exports behind them
list-few : (g : Naming) (c : Scope) (k : ℕ) (ds : Defs) → entries (expand_defs g c k ds) + 4 * names_in ds ≤ 4 * size_of_defs ds → entries (expand_defs g c k ds ++ expand_exports g k ds) ≤ 4 * size_of_defs ds
list-few g c k ds h = omega (arith, h, entries-append (expand_defs g c k ds) (expand_exports g k ds), exports-few g k ds)

mutual
  pub leaves-few : (g : Naming) (c : Scope) (o : Origin) (k u : ℕ) (ls : Leaves) → whole size_of_leaves (expand_leaves g c o k u ls) ≤ 4 * size_of_leaves ls
  leaves-few g c o k u no_leaf = omega arith
  leaves-few g c o k u (l ▸ ls) = omega (arith, leaves-both (expand_leaf g c o k u l) (expand_leaves g c o k (u + references_leaf l) ls), leaf-few g c o k u l, leaves-few g c o k (u + references_leaf l) ls)

  pub leaf-few : (g : Naming) (c : Scope) (o : Origin) (k u : ℕ) (l : Leaf) → whole size_of_leaf (expand_leaf g c o k u l) ≤ 4 * size_of_leaf l
  leaf-few g c o k u (ref s (inline (row t ls))) = omega (arith, inline-few g c k u s t (reused (c ∷ []) k u t ls) (expand_leaves g c (inline_type k u) k (u + 1) ls), leaves-few g c (inline_type k u) k (u + 1) ls)
  leaf-few g c o k u (ref s (bundle (row t ls))) = omega (arith, bundle-few g c k u s t (expand_leaves g c (bundle_of k u) k (u + 1) ls), leaves-few g c (bundle_of k u) k (u + 1) ls)
  leaf-few g c o k u (ref s (index n)) = omega arith
  leaf-few g c o k u (ref s (numeral p n)) = omega arith
  leaf-few g c o k u (ref s (name r x)) = omega arith
  leaf-few g c o k u (ref s (path p)) = omega arith
  leaf-few g c o k u (present l) = omega (arith, leaf-few g c o k u l)
  leaf-few g c o k u (node (row t ls)) = omega (arith, leaves-few g c o k u ls)
  leaf-few g c o k u (nodes ns) = omega (arith, nodes-few g c o k u ns)
  leaf-few g c o k u (scope (scope_of kd id label ds)) =
      omega (arith, entries-are (expand_defs (inside g o) (scope_of kd id label ds) 0 ds ++ expand_exports (inside g o) 0 ds), list-few (inside g o) (scope_of kd id label ds) 0 ds (defs-few (inside g o) (scope_of kd id label ds) 0 ds))
  leaf-few g c o k u (text t) = omega arith
  leaf-few g c o k u (number n) = omega arith
  leaf-few g c o k u (kind s) = omega arith
  leaf-few g c o k u (core_value v) = omega arith
  leaf-few g c o k u (place p) = omega arith
  leaf-few g c o k u absent = omega arith
  leaf-few g c o k u (case_id x) = omega arith
  leaf-few g c o k u (result_ids ids) = omega arith
  leaf-few g c o k u (result_count n) = omega arith
  leaf-few g c o k u (core_source m) = omega arith
  leaf-few g c o k u (module_bytes bs) = omega arith

  pub nodes-few : (g : Naming) (c : Scope) (o : Origin) (k u : ℕ) (ns : Nodes) → whole size_of_nodes (expand_nodes g c o k u ns) ≤ 4 * size_of_nodes ns
  nodes-few g c o k u no_node = omega arith
  nodes-few g c o k u (one_node (row t ls) ns) =
      omega (
        arith,
        nodes-both (λ bs ks. one_node (row t bs) ks) (λ bs ks. refl) (expand_leaves g c o k u ls) (expand_nodes g c o k (u + references ls) ns),
        leaves-few g c o k u ls,
        nodes-few g c o k (u + references ls) ns,
      )

  -- with the exports, of which there are as many as inline export names
  pub defs-few : (g : Naming) (c : Scope) (k : ℕ) (ds : Defs) → entries (expand_defs g c k ds) + 4 * names_in ds ≤ 4 * size_of_defs ds
  defs-few g c k no_def = omega arith
  defs-few g c k (one_def (define ns (row t ls)) ds) =
      omega (
        arith,
        entries-append (Expansion.expand_one (written k) (Expansion.given_names ns (given g (written k))) t (expand_leaves g c (written k) k 0 ls)) (expand_defs g c (k + 1) ds),
        one-few (written k) (Expansion.given_names ns (given g (written k))) t (expand_leaves g c (written k) k 0 ls),
        leaves-few g c (written k) k 0 ls,
        defs-few g c (k + 1) ds,
      )

-- the expansion under given ids
pub expand_is_small : (g : Naming) (s : Scope) → size_of_scope (expand g s) ≤ 4 * size_of_scope s
expand_is_small g (scope_of kd id label ds) = omega (arith, entries-are (expand_list g (scope_of kd id label ds)), list-few g (scope_of kd id label ds) 0 ds (defs-few g (scope_of kd id label ds) 0 ds))

-- the expansion of a component within the limit of weight is far below 2 ^ 32
pub expansion_has_room : (weigh : CoreModule → ℕ) (s x : Scope) (os : ListMarks) → Rowed s → OfText s → Expands s x os → weight weigh s ≤ 67_108_864 → 2 * size_of_scope x < 2 ^ 32 - 2
expansion_has_room weigh s x os rowed of_text expands light =
    let named = expands-expand s x os rowed of_text expands in
    subst (λ y. 2 * size_of_scope y < 2 ^ 32 - 2) (sym named.2) (omega (arith, expand_is_small named.0 s, scope-weighs weigh s, light))
