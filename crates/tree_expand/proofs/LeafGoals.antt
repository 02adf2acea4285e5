-- What a leaf becomes, as the goals of the walk put it.
use Rattle.std.specs.List.{range_with_len}
use Rattle.std.proofs.Common.{◌≡◌, ℕ, ◌+◌, List, [], ◌∷◌, ◌++◌, Bor, Option, Some, refl, sym, ap, ◌∙◌, subst}
use Rattle.comp_model.specs.declared.Space.{Space}
use Rattle.comp_model.specs.declared.row.Row.{Row}
use Rattle.comp_model.specs.Core.{Id, Text}
use Rattle.comp_model.specs.CoreModules.{CoreModule}
use Rattle.comp_model.specs.Model.{Leaf, ref, inline, bundle, row, Leaves, Scope}
use Rattle.comp_model.specs.Origins.{Origin, inline_type}
use Rattle.comp_model.specs.Spaces.{code_of_space}
use Rattle.comp_scopes.specs.References.{references, references_leaf}
use Rattle.comp_expanded.specs.ListMarks.{Inside}
use Rattle.comp_expanded.specs.Expansion.{Entry, generated_names}
use Rattle.wast_parser.specs.declared.index.Index.{Index}
use Rattle.wast_parser.specs.declared.index.Index.TheVariants.{Num, Id as Named}
use Rattle.comp_tree.specs.declared.tree.Leaf as l
use Rattle.comp_tree.specs.declared.tree.Def.{Def}
use Rattle.comp_tree.specs.declared.tree.Node.{Node}
use Rattle.comp_tree.specs.declared.tree.PathUse.{PathUse}
use Rattle.comp_tree.specs.declared.tree.Scope as trees
use Rattle.comp_tree.specs.Model.{leaf_of, path_of, scope_of}
use Rattle.comp_tree.specs.Marks.{places_of, inside_listed, nodes_inside, marks_of}
use Rattle.comp_tree.specs.Lists.{listed, nodes_listed}
use Rattle.comp_tree.specs.Entries.{entries_of}
use Rattle.comp_tree.proofs.Leaves.{leaf_inline, leaf_bundle}
use Rattle.type_keys.specs.Keys.{Part, part_other, part_end, part_space, part_type, stands_for}
use Rattle.type_keys.specs.declared.key.TypeKey.{TypeKey}
use Rattle.tree_expand.specs.KeyParts.{head_parts, leaf_parts, KeyShows}
use Rattle.tree_expand.specs.Passed.{Noted, types_in}
use Rattle.tree_expand.specs.Walked.{State, ScopeWalked, NamedBy}
use Rattle.tree_expand.specs.declared.known.Known.{Known}
use Rattle.tree_expand.specs.declared.parts.Own.{Own}
use Rattle.tree_expand.proofs.Walking.{with_key, PartIs, LeafIs, LeavesAre, NodesAre, TreeIs, present-is, node-is, nodes-is, scope-is, fronted}

-- a path is a reference, whatever its root
pub path-passed : (u : Space) (p : Bor PathUse) (s t : State) → t.inlined ≡ s.inlined → t.bundles ≡ s.bundles → t.places ≡ s.places ++ range_with_len s.reference 1 → t.reference ≡ s.reference + 1 → t.known ≡ s.known → t.made ≡ s.made
    → (t.inlined ≡ s.inlined) × (t.bundles ≡ s.bundles) × (t.places ≡ s.places ++ range_with_len s.reference (references_leaf (ref u (path_of p.now.root p.now.exports.now)))) × (t.reference ≡ s.reference + references_leaf (ref u (path_of p.now.root p.now.exports.now))) × (t.known ≡ s.known) × (t.made ≡ s.made)
path-passed u p s t i b q r n m = (i, b, q ∙ ap (λ x. s.places ++ range_with_len s.reference x) (one p.now.root p.now.exports.now), r ∙ ap (λ x. s.reference + x) (one p.now.root p.now.exports.now), n, m)
  where
    one : (i : Index) (ts : List (Bor Text)) → 1 ≡ references_leaf (ref u (path_of i ts))
    one (Num n o) [] = refl
    one (Named x) [] = refl
    one i (t ∷ ts) = refl

module _ (ids : List (Option Id)) (c : Scope) (k : ℕ) (cores : List CoreModule) where
  abbrev Headed : l.Leaf → State → Option TypeKey → Type 0
  Headed leaf s k1 = (ps : List Part) → KeyShows s.key ps → KeyShows k1 (ps ++ head_parts (leaf_of cores leaf))

  pub present-same : (leaf : l.Leaf) (x : Bor l.Leaf) (y : l.Leaf) (s t : State) (k1 : Option TypeKey) → leaf ≡ l.Present x → y ≡ x.now → Headed leaf s k1 → TreeIs ids c k cores x.now y (with_key s k1) t → TreeIs ids c k cores leaf leaf s t
  present-same leaf x y s t k1 e f h w =
      subst (λ q. TreeIs ids c k cores leaf q s t) (sym e) (present-is ids c k cores leaf x x s t k1 e h (subst (λ q. TreeIs ids c k cores x.now q (with_key s k1) t) f w))

  pub node-same : (leaf : l.Leaf) (n : Bor Node) (xs : List l.Leaf) (s t : State) (k1 : Option TypeKey) → leaf ≡ l.Node n → xs ≡ n.now.leaves.now → Headed leaf s k1
      → LeavesAre ids c k (listed cores n.now.leaves.now) (listed cores xs) (inside_listed cores xs) (with_key s k1) t → TreeIs ids c k cores leaf leaf s t
  node-same leaf n xs s t k1 e f h w = subst (λ q. TreeIs ids c k cores leaf q s t) (sym e) (node-is ids c k cores leaf n n xs s t k1 e refl (sym f) h w)

  pub nodes-same : (leaf : l.Leaf) (n p : Bor (List Node)) (s t : State) (k1 k2 : Option TypeKey) → leaf ≡ l.Nodes n → p.now ≡ n.now → Headed leaf s k1 → ((ps : List Part) → KeyShows t.key ps → KeyShows k2 (ps ++ part_end ∷ []))
      → NodesAre ids c k (nodes_listed cores n.now) (nodes_listed cores p.now) (nodes_inside cores p.now) (with_key s k1) t → TreeIs ids c k cores leaf leaf s (with_key t k2)
  nodes-same leaf n p s t k1 k2 e f h j w =
      subst (λ q. TreeIs ids c k cores leaf q s (with_key t k2)) (sym e)
      (nodes-is ids c k cores leaf n n s t k1 k2 e h j (subst (λ q. NodesAre ids c k (nodes_listed cores n.now) (nodes_listed cores q) (nodes_inside cores q) (with_key s k1) t) f w))

  pub inline-leaf : (leaf : l.Leaf) (u : Space) (n : Bor Node) (x : Leaf) (h : Inside) (s t : State) (k1 : Option TypeKey) → leaf ≡ l.Inline u n → Headed leaf s k1
      → PartIs ids c k (ref u (inline (row n.now.row (listed cores n.now.leaves.now)))) (λ X. part_type (stands_for X n.now.row (listed cores n.now.leaves.now)) ∷ []) x h (with_key s k1) t → LeafIs ids c k (leaf_of cores leaf) x h s t
  inline-leaf leaf u n x h s t k1 e i w =
      let is : leaf_of cores leaf ≡ ref u (inline (row n.now.row (listed cores n.now.leaves.now))) = ap (leaf_of cores) e ∙ leaf_inline cores u n in
      subst (λ q. LeafIs ids c k q x h s t) (sym is)
      (fronted ids c k (ref u (inline (row n.now.row (listed cores n.now.leaves.now)))) x h (part_space (code_of_space u) ∷ []) (λ X. part_type (stands_for X n.now.row (listed cores n.now.leaves.now)) ∷ []) (λ X. leaf_parts X (ref u (inline (row n.now.row (listed cores n.now.leaves.now))))) s t k1
      (subst (λ q. (ps : List Part) → KeyShows s.key ps → KeyShows k1 (ps ++ head_parts q)) is i) (λ X. refl) w)

  pub bundle-leaf : (leaf : l.Leaf) (u : Space) (n : Bor Node) (x : Leaf) (h : Inside) (s t : State) (k1 : Option TypeKey) → leaf ≡ l.Bundle u n → Headed leaf s k1
      → PartIs ids c k (ref u (bundle (row n.now.row (listed cores n.now.leaves.now)))) (λ X. []) x h (with_key s k1) t → LeafIs ids c k (leaf_of cores leaf) x h s t
  bundle-leaf leaf u n x h s t k1 e i w =
      let is : leaf_of cores leaf ≡ ref u (bundle (row n.now.row (listed cores n.now.leaves.now))) = ap (leaf_of cores) e ∙ leaf_bundle cores u n in
      subst (λ q. LeafIs ids c k q x h s t) (sym is)
      (fronted ids c k (ref u (bundle (row n.now.row (listed cores n.now.leaves.now)))) x h (part_space (code_of_space u) ∷ part_other ∷ []) (λ X. []) (λ X. leaf_parts X (ref u (bundle (row n.now.row (listed cores n.now.leaves.now))))) s t k1
      (subst (λ q. (ps : List Part) → KeyShows s.key ps → KeyShows k1 (ps ++ head_parts q)) is i) (λ X. refl) w)

  pub scope-leaf : (leaf : l.Leaf) (z p : Bor trees.Scope) (x : trees.Scope) (s t : State) → leaf ≡ l.Scope z → p.now ≡ x → ScopeWalked (scope_of cores z.now) (scope_of cores x) (marks_of cores x) s.made t.made
      → t.inlined ≡ s.inlined → t.bundles ≡ s.bundles → t.places ≡ s.places → t.reference ≡ s.reference → t.known ≡ s.known → ((ps : List Part) → KeyShows s.key ps → KeyShows t.key (ps ++ head_parts (leaf_of cores leaf)))
      → TreeIs ids c k cores leaf (l.Scope p) s t
  scope-leaf leaf z p x s t e f w i b q r n h =
      subst (λ y. TreeIs ids c k cores y (l.Scope p) s t) (sym e)
      (scope-is ids c k cores (scope_of cores z.now) (scope_of cores p.now) (marks_of cores p.now) s t (subst (λ y. ScopeWalked (scope_of cores z.now) (scope_of cores y) (marks_of cores y) s.made t.made) (sym f) w) i b q r n
      (subst (λ y. (ps : List Part) → KeyShows s.key ps → KeyShows t.key (ps ++ head_parts (leaf_of cores y))) e h))

-- what belongs to an inline node is what the walk over its leaves left
pub inner-named : (cores : List CoreModule) (xs : List Noted) (d u : ℕ) (t : Row) (ls x : Leaves) (h : Inside) (inlined : List Entry) (inner own : Own) (dest outer : Option TypeKey) (m : ℕ) (y : Id) (new : List Entry) (key : Option TypeKey) (known : Known) (made : ℕ) → inner ≡ own → dest ≡ outer
    → NamedBy xs d u t ls (λ y. record { origin = inline_type d u; places = places_of inner.places.list.items (references x); held = h; names = generated_names (Some y); head = t; leaves = x }) (inlined ++ entries_of cores inner.bundles.items) dest m (stands_for (types_in xs) t ls) y new key known made
    → NamedBy xs d u t ls (λ y. record { origin = inline_type d u; places = places_of own.places.list.items (references x); held = h; names = generated_names (Some y); head = t; leaves = x }) (inlined ++ entries_of cores own.bundles.items) outer m (stands_for (types_in xs) t ls) y new key known made
inner-named cores xs d u t ls x h inlined inner own dest outer m y new key known made e f w =
    subst (λ q. NamedBy xs d u t ls (λ y. record { origin = inline_type d u; places = places_of q.places.list.items (references x); held = h; names = generated_names (Some y); head = t; leaves = x }) (inlined ++ entries_of cores q.bundles.items) outer m (stands_for (types_in xs) t ls) y new key known made) e
    (subst (λ q. NamedBy xs d u t ls (λ y. record { origin = inline_type d u; places = places_of inner.places.list.items (references x); held = h; names = generated_names (Some y); head = t; leaves = x }) (inlined ++ entries_of cores inner.bundles.items) q m (stands_for (types_in xs) t ls) y new key known made) f w)

pub bundle-pushed : (cores : List CoreModule) (new old was : List Def) (inner own : Own) (o : Origin) (x : Leaves) (h : Inside) (y : Id) (t : Row) → old ≡ was → inner ≡ own
    → entries_of cores new ≡ (entries_of cores old ++ entries_of cores inner.bundles.items) ++ record { origin = o; places = places_of inner.places.list.items (references x); held = h; names = generated_names (Some y); head = t; leaves = x } ∷ []
    → entries_of cores new ≡ (entries_of cores was ++ entries_of cores own.bundles.items) ++ record { origin = o; places = places_of own.places.list.items (references x); held = h; names = generated_names (Some y); head = t; leaves = x } ∷ []
bundle-pushed cores new old was inner own o x h y t e f w =
    w ∙ ap (λ q. (entries_of cores q ++ entries_of cores inner.bundles.items) ++ record { origin = o; places = places_of inner.places.list.items (references x); held = h; names = generated_names (Some y); head = t; leaves = x } ∷ []) e
    ∙ ap (λ (q : Own). (entries_of cores was ++ entries_of cores q.bundles.items) ++ record { origin = o; places = places_of q.places.list.items (references x); held = h; names = generated_names (Some y); head = t; leaves = x } ∷ []) f
