-- Where scopes stand alone in a component of the text, they do in its expansion.
use Rattle.std.proofs.Common.{◌≡◌, ℕ, ◌+◌, false, List, [], ◌∷◌, ◌++◌, Option, Some, None, refl, sym, ◌∙◌, subst, true≢false}
use Rattle.comp_model.specs.declared.Space.{Space}
use Rattle.comp_model.specs.declared.row.Row.{Row}
use Rattle.comp_model.specs.Core.{Id, Text}
use Rattle.comp_model.specs.Model.{Leaf, ref, present, node, nodes, scope, inline, bundle, Leaves, no_leaf, ◌▸◌, row, Nodes, no_node, one_node, define, Defs, no_def, one_def, Scope, scope_of}
use Rattle.comp_model.specs.Origins.{Origin, written, inline_type, bundle_of}
use Rattle.comp_model.specs.Spaces.{declares_row}
use Rattle.comp_scopes.specs.References.{references, references_leaf}
use Rattle.comp_scopes.specs.Rowed.{holds_scope, LeavesRowed, LeafRowed, NodesRowed, DefsRowed, Rowed}
use Rattle.comp_scopes.specs.Reused.{reused}
use Rattle.comp_expanded.specs.Expansion.{Naming, inside, given, the_id, first_id, given_names, generated_names, Entry, entry_defs, Expanded, entry, expand_inline, expand_exports_of, expand_exports, expand_leaves, expand_leaf, expand_nodes, expand_defs, expand}
use Rattle.comp_expanded.specs.Expands.{Expands}
use Rattle.comp_expanded.specs.ListMarks.{ListMarks}
use Rattle.comp_expanded.specs.OfText.{OfText}
use Rattle.comp_expanded.proofs.HasNaming.{expands-expand}
use Rattle.comp_expanded.proofs.Ids.{EachListed, each-app}
use Rattle.comp_tables.proofs.OfExpansion.{leaves-sound}
use Rattle.tree_resolve.specs.Alone.{Sole, LeavesAlone, LeafAlone, NodesAlone, DefsAlone, ScopesAlone}

pub sole-none : (ls : Leaves) → holds_scope ls ≡ false → Sole ls
sole-none no_leaf h = h
sole-none (scope s ▸ no_leaf) h = tt
sole-none (scope s ▸ l ▸ ls) h = h
sole-none (l ▸ ls) h = h

-- of an entry
abbrev Fine : Entry → Type 0
Fine x = Sole x.leaves × LeavesAlone x.leaves

entries-alone : (xs : List Entry) → EachListed Fine xs → DefsAlone (entry_defs xs)
entries-alone [] h = tt
entries-alone (x ∷ xs) h = (h.0, entries-alone xs h.1)

abbrev FineLeaves : Expanded Leaves → Type 0
FineLeaves a = EachListed Fine a.inlined × EachListed Fine a.bundles × LeavesAlone a.here

abbrev FineLeaf : Expanded Leaf → Type 0
FineLeaf a = EachListed Fine a.inlined × EachListed Fine a.bundles × LeafAlone a.here

abbrev FineNodes : Expanded Nodes → Type 0
FineNodes a = EachListed Fine a.inlined × EachListed Fine a.bundles × NodesAlone a.here

-- leaves that become others stay sole
sole-kept : (g : Naming) (c : Scope) (o : Origin) (k u : ℕ) (ls : Leaves) → LeavesRowed ls → Sole ls → Sole (expand_leaves g c o k u ls).here
sole-kept g c o k u no_leaf r h = refl
sole-kept g c o k u (scope (scope_of kd id label ds) ▸ no_leaf) r h = tt
sole-kept g c o k u (scope s ▸ l ▸ ls) r h = absurd (true≢false h)
sole-kept g c o k u (l ▸ ls) r h = sole-none (expand_leaves g c o k u (l ▸ ls)).here ((leaves-sound g c o k u (l ▸ ls) r).4 ∙ h)

inline-fine : (g : Naming) (c : Scope) (k u : ℕ) (s : Space) (t : Row) (r : Option Origin) (a : Expanded Leaves) → Sole a.here → FineLeaves a → FineLeaf (expand_inline g c k u s t r a)
inline-fine g c k u s t (Some j) a h f = (tt, tt, tt)
inline-fine g c k u s t None a h f = (
  each-app Fine a.inlined (a.bundles ++ entry (inline_type k u) (generated_names (given g (inline_type k u))) t a ∷ []) f.0
      (each-app Fine a.bundles (entry (inline_type k u) (generated_names (given g (inline_type k u))) t a ∷ []) f.1 ((h, f.2), tt)),
  tt,
  tt,
)

exports_of-fine : (x : Id) (k j : ℕ) (ns : List Text) (ss : List Space) → EachListed Fine (expand_exports_of x k j ns ss)
exports_of-fine x k j [] ss = tt
exports_of-fine x k j (n ∷ ns) [] = tt
exports_of-fine x k j (n ∷ ns) (s ∷ ss) = ((refl, (tt, (tt, (tt, tt)))), exports_of-fine x k (j + 1) ns (s ∷ ss))

exports-fine : (g : Naming) (k : ℕ) (ds : Defs) → EachListed Fine (expand_exports g k ds)
exports-fine g k no_def = tt
exports-fine g k (one_def (define ns (row t ls)) ds) = each-app Fine _ _ (exports_of-fine (the_id (first_id ns.ids (given g (written k)))) k 0 ns.exports (declares_row t ls)) (exports-fine g (k + 1) ds)

mutual
  leaves-fine : (g : Naming) (c : Scope) (o : Origin) (k u : ℕ) (ls : Leaves) → LeavesRowed ls → LeavesAlone ls → FineLeaves (expand_leaves g c o k u ls)
  leaves-fine g c o k u no_leaf r h = (tt, tt, tt)
  leaves-fine g c o k u (l ▸ ls) r h =
      let a : Expanded Leaf = expand_leaf g c o k u l in
      let b : Expanded Leaves = expand_leaves g c o k (u + references_leaf l) ls in
      let f = leaf-fine g c o k u l r.1 h.0 in
      let q = leaves-fine g c o k (u + references_leaf l) ls r.2 h.1 in
      (each-app Fine a.inlined b.inlined f.0 q.0, each-app Fine a.bundles b.bundles f.1 q.1, (f.2, q.2))

  leaf-fine : (g : Naming) (c : Scope) (o : Origin) (k u : ℕ) (l : Leaf) → LeafRowed l → LeafAlone l → FineLeaf (expand_leaf g c o k u l)
  leaf-fine g c o k u (ref s (inline (row t ls))) r h =
      inline-fine g c k u s t (reused (c ∷ []) k u t ls) (expand_leaves g c (inline_type k u) k (u + 1) ls) (sole-kept g c (inline_type k u) k (u + 1) ls r.1 h.0) (leaves-fine g c (inline_type k u) k (u + 1) ls r.1 h.1)
  leaf-fine g c o k u (ref s (bundle (row t ls))) r h =
      let a : Expanded Leaves = expand_leaves g c (bundle_of k u) k (u + 1) ls in
      let f = leaves-fine g c (bundle_of k u) k (u + 1) ls r.1 h.1 in
      (f.0, each-app Fine a.bundles (entry (bundle_of k u) (generated_names (given g (bundle_of k u))) t a ∷ []) f.1 ((sole-kept g c (bundle_of k u) k (u + 1) ls r.1 h.0, f.2), tt), tt)
  leaf-fine g c o k u (present l) r h = leaf-fine g c o k u l r h
  leaf-fine g c o k u (node (row t ls)) r h = leaves-fine g c o k u ls r h
  leaf-fine g c o k u (nodes ns) r h = nodes-fine g c o k u ns r h
  leaf-fine g c o k u (scope (scope_of kd id label ds)) r h =
      (tt, tt, entries-alone _ (each-app Fine (expand_defs (inside g o) (scope_of kd id label ds) 0 ds) (expand_exports (inside g o) 0 ds) (defs-fine (inside g o) (scope_of kd id label ds) 0 ds r h) (exports-fine (inside g o) 0 ds)))
  leaf-fine g c o k u l r h = (tt, tt, h)

  nodes-fine : (g : Naming) (c : Scope) (o : Origin) (k u : ℕ) (ns : Nodes) → NodesRowed ns → NodesAlone ns → FineNodes (expand_nodes g c o k u ns)
  nodes-fine g c o k u no_node r h = (tt, tt, tt)
  nodes-fine g c o k u (one_node (row t ls) ns) r h =
      let a : Expanded Leaves = expand_leaves g c o k u ls in
      let b : Expanded Nodes = expand_nodes g c o k (u + references ls) ns in
      let f = leaves-fine g c o k u ls r.1 h.0 in
      let q = nodes-fine g c o k (u + references ls) ns r.2 h.1 in
      (each-app Fine a.inlined b.inlined f.0 q.0, each-app Fine a.bundles b.bundles f.1 q.1, (f.2, q.2))

  defs-fine : (g : Naming) (c : Scope) (k : ℕ) (ds : Defs) → DefsRowed ds → DefsAlone ds → EachListed Fine (expand_defs g c k ds)
  defs-fine g c k no_def r h = tt
  defs-fine g c k (one_def (define ns (row t ls)) ds) r h =
      let a : Expanded Leaves = expand_leaves g c (written k) k 0 ls in
      let f = leaves-fine g c (written k) k 0 ls r.3 h.0.1 in
      let own : Entry = entry (written k) (given_names ns (given g (written k))) t a in
      each-app Fine (a.inlined ++ (a.bundles ++ own ∷ [])) (expand_defs g c (k + 1) ds)
      (each-app Fine a.inlined (a.bundles ++ own ∷ []) f.0 (each-app Fine a.bundles (own ∷ []) f.1 ((sole-kept g c (written k) k 0 ls r.3 h.0.0, f.2), tt)))
      (defs-fine g c (k + 1) ds r.4 h.1)

expand-alone : (g : Naming) (s : Scope) → Rowed s → ScopesAlone s → ScopesAlone (expand g s)
expand-alone g (scope_of kd id label ds) r h =
    entries-alone _ (each-app Fine (expand_defs g (scope_of kd id label ds) 0 ds) (expand_exports g 0 ds) (defs-fine g (scope_of kd id label ds) 0 ds r h) (exports-fine g 0 ds))

pub expands-alone : (s x : Scope) (os : ListMarks) → Rowed s → OfText s → ScopesAlone s → Expands s x os → ScopesAlone x
expands-alone s x os r t h e =
    let k = expands-expand s x os r t e in
    subst ScopesAlone (sym k.2) (expand-alone k.0 s r h)
