-- In a type to which an earlier one is equal every inline type is reused: a walk over its leaves adds nothing.
use Rattle.std.proofs.Common.{◌≡◌, ℕ, ◌+◌, Bool, true, false, ◌&&◌, cond, List, [], ◌∷◌, ◌++◌, Option, Some, None, IsSome, option_map, refl, sym, ◌∙◌, ap, subst, arith}
use Rattle.comp_model.specs.declared.Space.{Space}
use Rattle.comp_model.specs.declared.row.Row.{Row}
use Rattle.comp_model.specs.RowNumbers.{same_row}
use Rattle.comp_model.specs.Core.{Id}
use Rattle.comp_model.specs.Model.{Leaf, ref, present, node, nodes, scope, index, numeral, name, path, inline, bundle, Leaves, no_leaf, ◌▸◌, row, Nodes, no_node, one_node, Scope, scope_of}
use Rattle.comp_model.proofs.Tests.{same_row-refl}
use Rattle.comp_scopes.specs.References.{references, references_leaf}
use Rattle.comp_scopes.specs.Signatures.{reused_signature}
use Rattle.comp_scopes.specs.Reused.{is_shared, same_leaves, Typed}
use Rattle.comp_scopes.proofs.SameNodes.{SameLeaves, same_more, SameLeaf, same_present, same_list, same_inline, SameNodes, same_one_node, leaves-same}
use Rattle.comp_scopes.proofs.Among.{and-both}
use Rattle.type_keys.specs.Keys.{first_equal, stands_for, LeavesPassed, LeafPassed, NodesPassed, AllPassed}
use Rattle.type_keys.proofs.Equal.{equal, equal-back, equal-passed, leaves-tested}
use Rattle.type_keys.proofs.First.{first-alike}
use Rattle.type_keys.proofs.Search.{passed-stays, nodes-passed, some-stays}
use Rattle.tree_expand.specs.Passed.{Noted, types_in, ids_in}
use Rattle.tree_expand.specs.Numbering.{Numbered, settled, number_reused, number_found, number_inline, number_leaf, number_leaves, number_nodes}
use Rattle.tree_expand.proofs.KeyLists.{types_app}
use Rattle.tree_expand.proofs.Passing.{some_none, shared_apart, shared_stands}

pub record Quiet {H : Type 0} (a : Numbered H) : Type 0 where
  pub noted : a.noted ≡ []
  pub made : a.made ≡ 0
  pub inlined : a.parts.inlined ≡ []
  pub bundles : a.parts.bundles ≡ []

-- ---- equal leaves, by the first of the two

more-is : (l : Leaf) (ls ks : Leaves) → SameLeaves (l ▸ ls) ks → (m : Leaf) × (ms : Leaves) × (ks ≡ m ▸ ms) × SameLeaf l m × SameLeaves ls ms
more-is _ _ _ (same_more l m ls ms a b) = (m, ms, refl, a, b)

present-is : (l k : Leaf) → SameLeaf (present l) k → (m : Leaf) × (k ≡ present m) × SameLeaf l m
present-is _ _ (same_present l m a) = (m, refl, a)

list-is : (ns : Nodes) (k : Leaf) → SameLeaf (nodes ns) k → (ms : Nodes) × (k ≡ nodes ms) × SameNodes ns ms
list-is _ _ (same_list ns ks a) = (ks, refl, a)

inline-is : (s : Space) (t : Row) (ls : Leaves) (k : Leaf) → SameLeaf (ref s (inline (row t ls))) k → (ms : Leaves) × (k ≡ ref s (inline (row t ms))) × (is_shared t ≡ true) × SameLeaves ls ms
inline-is _ _ _ _ (same_inline s t ls ms h a) = (ms, refl, h, a)

one-is : (t : Row) (ls : Leaves) (ns ks : Nodes) → SameNodes (one_node (row t ls) ns) ks → (ms : Leaves) × (qs : Nodes) × (ks ≡ one_node (row t ms) qs) × SameLeaves ls ms × SameNodes ns qs
one-is _ _ _ _ (same_one_node t ls ms ns ks a b) = (ms, ks, refl, a, b)

no-bundle : {A : Type 0} (s : Space) (n : Rattle.comp_model.specs.Model.Node) (k : Leaf) → SameLeaf (ref s (bundle n)) k → A
no-bundle s n k h = elim h [ ]

no-scope : {A : Type 0} (s : Scope) (k : Leaf) → SameLeaf (scope s) k → A
no-scope s k h = elim h [ ]

no-row : {A : Type 0} (n : Rattle.comp_model.specs.Model.Node) (k : Leaf) → SameLeaf (node n) k → A
no-row n k h = elim h [ ]

-- of leaves that are equal, the types are
same-equal : (t : Row) (ls ms : Leaves) → SameLeaves ls ms → equal t ls t ms ≡ true
same-equal t ls ms h = rw (same_row-refl t, leaves-tested ls ms h) refl

-- ---- one of the types that were passed

first-there : (xs ys : List Typed) (t : Row) (ls : Leaves) → AllPassed xs ys → IsSome (first_equal t ls ys) → (y : Typed) × LeavesPassed xs y.leaves × (equal t ls y.tag y.leaves ≡ true)
first-there xs [] t ls a h = absurd (cc)
first-there xs (y ∷ ys) t ls a h = go (equal t ls y.tag y.leaves) refl h (first-there xs ys t ls a.1)
  where
    some : (o : Option ℕ) → IsSome (option_map (λ n. n + 1) o) → IsSome o
    some None h = h
    some (Some n) h = refl

    go : (b : Bool) → equal t ls y.tag y.leaves ≡ b → IsSome (cond b (Some 0) (option_map (λ n. n + 1) (first_equal t ls ys))) → (IsSome (first_equal t ls ys) → (y : Typed) × LeavesPassed xs y.leaves × (equal t ls y.tag y.leaves ≡ true)) → (y : Typed) × LeavesPassed xs y.leaves × (equal t ls y.tag y.leaves ≡ true)
    go true e h f = (y, a.0, e)
    go false e h f = f (some (first_equal t ls ys) h)

-- which has equal leaves, so that what stands inline in it was passed
pub equal_there : (xs : List Typed) (t : Row) (ls : Leaves) → AllPassed xs xs → IsSome (first_equal t ls xs) → (ms : Leaves) × SameLeaves ls ms × LeavesPassed xs ms
equal_there xs t ls a h = let r = first-there xs xs t ls a h in let e = and-both (same_row t r.0.tag) (same_leaves ls r.0.leaves) r.2 in (r.0.leaves, leaves-same ls r.0.leaves e.1, r.1)

module _ (ids : List (Option Id)) (c : Scope) (k : ℕ) where
  quiet-settled : {H : Type 0} (x : Rattle.comp_expanded.specs.Expansion.Expanded H) → x.inlined ≡ [] → x.bundles ≡ [] → Quiet (settled x)
  quiet-settled x e f = record { noted = refl; made = refl; inlined = e; bundles = f }

  found-quiet : (E : List Noted) (u m : ℕ) (s : Space) (t : Row) (ls : Leaves) (a : Numbered Leaves) (q : Option ℕ) → q ≡ None → is_shared t ≡ true → IsSome (first_equal t ls (types_in (E ++ a.noted))) → Quiet a → Quiet (number_inline ids c k E u m s t ls a q)
  found-quiet E u m s t ls a (Some j) e f h w = some_none j e
  found-quiet E u m s t ls a None e f h w = go (stands_for (types_in (E ++ a.noted)) t ls) (shared_stands (types_in (E ++ a.noted)) t ls f)
    where
      both : (xs ys : List Rattle.comp_expanded.specs.Expansion.Entry) → xs ≡ [] → ys ≡ [] → xs ++ ys ≡ []
      both xs ys e f = ap (λ q. q ++ ys) e ∙ f

      none-is : {A : Type 0} (o : Option ℕ) → o ≡ None → IsSome o → A
      none-is None e h = absurd (cc)
      none-is (Some n) e h = some_none n e

      go : (o : Option ℕ) → o ≡ first_equal t ls (types_in (E ++ a.noted)) → Quiet (number_found c k u m s t ls (ids_in (E ++ a.noted)) a o)
      go (Some n) g = record { noted = w.noted; made = w.made; inlined = both a.parts.inlined a.parts.bundles w.inlined w.bundles; bundles = refl }
      go None g = none-is (first_equal t ls (types_in (E ++ a.noted))) (sym g) h

  two-quiet : {F G H : Type 0} (f : F → G → H) (a : Numbered F) (b : Numbered G) → Quiet a → Quiet b → Quiet (Rattle.tree_expand.specs.Numbering.number_both f a b)
  two-quiet f a b x y = record {
    noted = ap (λ q. q ++ b.noted) x.noted ∙ y.noted;
    made = omega (arith, x.made, y.made);
    inlined = ap (λ q. q ++ b.parts.inlined) x.inlined ∙ y.inlined;
    bundles = ap (λ q. q ++ b.parts.bundles) x.bundles ∙ y.bundles;
  }

  more-all : (E x : List Noted) → AllPassed (types_in E) (types_in E) → x ≡ [] → AllPassed (types_in (E ++ x)) (types_in (E ++ x))
  more-all E x h e = subst (λ v. AllPassed (types_in (E ++ v)) (types_in (E ++ v))) (sym e) (subst (λ v. AllPassed (types_in v) (types_in v)) (sym (Rattle.std.proofs.Common.append-nil E)) h)

  mutual
    pub leaves_quiet : (E : List Noted) (u m : ℕ) (ls ks : Leaves) → AllPassed (types_in E) (types_in E) → SameLeaves ls ks → LeavesPassed (types_in E) ks → Quiet (number_leaves ids c k E u m ls)
    leaves_quiet E u m no_leaf ks h e p = quiet-settled _ refl refl
    leaves_quiet E u m (l ▸ ls) ks h e p =
        let r = more-is l ls ks e in
        let q : LeavesPassed (types_in E) (r.0 ▸ r.1) = subst (λ v. LeavesPassed (types_in E) v) r.2 p in
        let a = number_leaf ids c k E u m l in
        let x : Quiet a = leaf_quiet E u m l r.0 h r.3 q.0 in
        let b = number_leaves ids c k (E ++ a.noted) (u + references_leaf l) (m + a.made) ls in
        let y : Quiet b = leaves_quiet (E ++ a.noted) (u + references_leaf l) (m + a.made) ls r.1 (more-all E a.noted h x.noted) r.4 (subst (λ v. LeavesPassed v r.1) (sym (types_app E a.noted)) (passed-stays (types_in E) (types_in a.noted) r.1 q.1)) in
        two-quiet (λ b bs. b ▸ bs) a b x y

    pub leaf_quiet : (E : List Noted) (u m : ℕ) (l g : Leaf) → AllPassed (types_in E) (types_in E) → SameLeaf l g → LeafPassed (types_in E) g → Quiet (number_leaf ids c k E u m l)
    leaf_quiet E u m (ref s (inline (row t ls))) g h e p =
        let r = inline-is s t ls g e in
        let ms = r.0 in
        let q : LeafPassed (types_in E) (ref s (inline (row t ms))) = subst (λ v. LeafPassed (types_in E) v) r.1 p in
        let i : equal t ls t ms ≡ true = same-equal t ls ms r.3 in
        let o : equal t ms t ms ≡ true = equal-passed t t t ms ls ms (equal-back t t ls ms i) i in
        let f : IsSome (first_equal t ls (types_in E)) = subst IsSome (sym (first-alike t t ls ms (types_in E) i)) (q r.2 o) in
        let there = equal_there (types_in E) t ls h f in
        let a = number_leaves ids c k E (u + 1) m ls in
        let w : Quiet a = leaves_quiet E (u + 1) m ls there.0 h there.1 there.2 in
        found-quiet E u m s t ls a (reused_signature (c ∷ []) k t ls) (shared_apart c k t ls r.2) r.2 (subst (λ v. IsSome (first_equal t ls v)) (sym (types_app E a.noted)) (some-stays t ls (types_in E) (types_in a.noted) f)) w
    leaf_quiet E u m (ref s (bundle (row t ls))) g h e p = no-bundle s (row t ls) g e
    leaf_quiet E u m (present l) g h e p =
        let r = present-is l g e in
        let w = leaf_quiet E u m l r.0 h r.2 (subst (λ v. LeafPassed (types_in E) v) r.1 p) in record { noted = w.noted; made = w.made; inlined = w.inlined; bundles = w.bundles }
    leaf_quiet E u m (nodes ns) g h e p =
        let r = list-is ns g e in
        let w = nodes_quiet E u m ns r.0 h r.2 (subst (λ v. LeafPassed (types_in E) v) r.1 p) in record { noted = w.noted; made = w.made; inlined = w.inlined; bundles = w.bundles }
    leaf_quiet E u m (node (row t ls)) g h e p = no-row (row t ls) g e
    leaf_quiet E u m (scope (scope_of kd id label ds)) g h e p = no-scope (scope_of kd id label ds) g e
    leaf_quiet E u m l g h e p = quiet-settled _ refl refl

    pub nodes_quiet : (E : List Noted) (u m : ℕ) (ns ks : Nodes) → AllPassed (types_in E) (types_in E) → SameNodes ns ks → NodesPassed (types_in E) ks → Quiet (number_nodes ids c k E u m ns)
    nodes_quiet E u m no_node ks h e p = quiet-settled _ refl refl
    nodes_quiet E u m (one_node (row t ls) ns) ks h e p =
        let r = one-is t ls ns ks e in
        let q : NodesPassed (types_in E) (one_node (row t r.0) r.1) = subst (λ v. NodesPassed (types_in E) v) r.2 p in
        let a = number_leaves ids c k E u m ls in
        let x : Quiet a = leaves_quiet E u m ls r.0 h r.3 q.0 in
        let b = number_nodes ids c k (E ++ a.noted) (u + references ls) (m + a.made) ns in
        let y : Quiet b = nodes_quiet (E ++ a.noted) (u + references ls) (m + a.made) ns r.1 (more-all E a.noted h x.noted) r.4 (subst (λ v. NodesPassed v r.1) (sym (types_app E a.noted)) (nodes-passed (types_in E) (types_in a.noted) r.1 q.1)) in
        two-quiet (λ bs qs. one_node (row t bs) qs) a b x y
