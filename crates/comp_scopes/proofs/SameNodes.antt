-- Leaves that are equal as written, case by case; and that this passes on.
use Rattle.std.proofs.Common.{◌≡◌, ℕ, true, false, ◌&&◌, bytes_eq, Option, Some, None, refl, sym, ◌∙◌, subst}
use Rattle.std.proofs.lemmas.Slice.Eq.{bytes_eq-Decides}
use Rattle.std.proofs.lemmas.Bool.{eqb-true, eq-eqb}
use Rattle.comp_model.specs.declared.Space.{Space}
use Rattle.comp_model.specs.declared.row.Row.{Row}
use Rattle.comp_model.specs.RowNumbers.{same_row}
use Rattle.comp_model.specs.Core.{Text, Id, same_id, Place, counted, named, Reach, outward, own, at_place}
use Rattle.comp_model.specs.Model.{Leaf, text, number, ref, absent, present, nodes, case_id, Target, numeral, name, path, inline, Path, root_number, root_name, export_of, Leaves, no_leaf, ◌▸◌, row, Nodes, no_node, one_node}
use Rattle.comp_model.specs.Spaces.{same_space}
use Rattle.comp_model.proofs.Tests.{same_space-true, same_row-true}
use Rattle.comp_scopes.specs.Signatures.{same_place, same_reach}
use Rattle.comp_scopes.specs.Reused.{same_path, same_case, is_shared, same_leaves, same_leaf, same_target, same_nodes}
use Rattle.comp_scopes.proofs.Same.{SameId, id-name}
use Rattle.comp_scopes.proofs.Among.{and-both}

mutual
  pub data SameLeaves : Leaves → Leaves → Type 0 where
    same_none : SameLeaves no_leaf no_leaf
    same_more : (l m : Leaf) (ls ms : Leaves) → SameLeaf l m → SameLeaves ls ms → SameLeaves (l ▸ ls) (m ▸ ms)

  pub data SameLeaf : Leaf → Leaf → Type 0 where
    same_text : (t : Text) → SameLeaf (text t) (text t)
    same_number : (n : ℕ) → SameLeaf (number n) (number n)
    same_absent : SameLeaf absent absent
    same_present : (l m : Leaf) → SameLeaf l m → SameLeaf (present l) (present m)
    same_list : (ns ks : Nodes) → SameNodes ns ks → SameLeaf (nodes ns) (nodes ks)
    same_id_of_case : (x y : Option Id) → same_case x y ≡ true → SameLeaf (case_id x) (case_id y)
    same_numeral : (s : Space) (o p n : ℕ) → SameLeaf (ref s (numeral o n)) (ref s (numeral p n))
    same_named : (s : Space) (r q : Reach) (x y : Id) → same_reach r q ≡ true → SameId x y → SameLeaf (ref s (name r x)) (ref s (name q y))
    same_steps : (s : Space) (p q : Path) → SamePath p q → SameLeaf (ref s (path p)) (ref s (path q))
    same_inline : (s : Space) (t : Row) (ls ms : Leaves) → is_shared t ≡ true → SameLeaves ls ms → SameLeaf (ref s (inline (row t ls))) (ref s (inline (row t ms)))

  pub data SameNodes : Nodes → Nodes → Type 0 where
    same_no_node : SameNodes no_node no_node
    same_one_node : (t : Row) (ls ms : Leaves) (ns ks : Nodes) → SameLeaves ls ms → SameNodes ns ks → SameNodes (one_node (row t ls) ns) (one_node (row t ms) ks)

  pub data SamePath : Path → Path → Type 0 where
    same_root_number : (o p n : ℕ) → SamePath (root_number o n) (root_number p n)
    same_root_name : (x y : Id) → SameId x y → SamePath (root_name x) (root_name y)
    same_export : (p q : Path) (t : Text) → SamePath p q → SamePath (export_of p t) (export_of q t)

not_true : {A : Type 0} → false ≡ true → A
not_true h = absurd (cc)

-- ---- by the tests

path-same : (p q : Path) → same_path p q ≡ true → SamePath p q
path-same (root_number o n) (root_number p m) h = let e : n ≡ m = eqb-true n m h in rw e (same_root_number o p m)
path-same (root_name x) (root_name y) h = same_root_name x y (id-name x y h)
path-same (export_of p t) (export_of q v) h =
    let a : (same_path p q ≡ true) × (bytes_eq t v ≡ true) = and-both _ _ h in
    let e : t ≡ v = (bytes_eq-Decides t v).0 a.1 in rw e (same_export p q v (path-same p q a.0))
path-same (root_number o n) (root_name y) h = not_true h
path-same (root_number o n) (export_of q v) h = not_true h
path-same (root_name x) (root_number p m) h = not_true h
path-same (root_name x) (export_of q v) h = not_true h
path-same (export_of p t) (root_number o m) h = not_true h
path-same (export_of p t) (root_name y) h = not_true h

mutual
  pub leaves-same : (ls ms : Leaves) → same_leaves ls ms ≡ true → SameLeaves ls ms
  leaves-same no_leaf no_leaf h = same_none
  leaves-same (l ▸ ls) (m ▸ ms) h = let a : (same_leaf l m ≡ true) × (same_leaves ls ms ≡ true) = and-both _ _ h in same_more l m ls ms (leaf-same l m a.0) (leaves-same ls ms a.1)
  leaves-same no_leaf (m ▸ ms) h = not_true h
  leaves-same (l ▸ ls) no_leaf h = not_true h

  leaf-same : (l m : Leaf) → same_leaf l m ≡ true → SameLeaf l m
  leaf-same (text t) (text v) h = let e : t ≡ v = (bytes_eq-Decides t v).0 h in rw e (same_text v)
  leaf-same (number n) (number m) h = let e : n ≡ m = eqb-true n m h in rw e (same_number m)
  leaf-same absent absent h = same_absent
  leaf-same (present l) (present m) h = same_present l m (leaf-same l m h)
  leaf-same (nodes ns) (nodes ks) h = same_list ns ks (nodes-same ns ks h)
  leaf-same (case_id x) (case_id y) h = same_id_of_case x y h
  leaf-same (ref s t) (ref r v) h =
      let a : (same_space s r ≡ true) × (same_target t v ≡ true) = and-both _ _ h in
      let e : s ≡ r = same_space-true s r a.0 in rw e (target-same r t v a.1)
  leaf-same _ _ h = not_true h

  target-same : (s : Space) (t v : Target) → same_target t v ≡ true → SameLeaf (ref s t) (ref s v)
  target-same s (numeral o n) (numeral p m) h = let e : n ≡ m = eqb-true n m h in rw e (same_numeral s o p m)
  target-same s (name r x) (name q y) h = let a : (same_reach r q ≡ true) × (same_id x y ≡ true) = and-both _ _ h in same_named s r q x y a.0 (id-name x y a.1)
  target-same s (path p) (path q) h = same_steps s p q (path-same p q h)
  target-same s (inline (row t ls)) (inline (row v ms)) h =
      let a : (is_shared t ≡ true) × ((same_row t v && same_leaves ls ms) ≡ true) = and-both _ _ h in
      let b : (same_row t v ≡ true) × (same_leaves ls ms ≡ true) = and-both _ _ a.1 in
      let e : t ≡ v = same_row-true t v b.0 in
      subst (λ z. SameLeaf (ref s (inline (row t ls))) (ref s (inline (row z ms)))) e (same_inline s t ls ms a.0 (leaves-same ls ms b.1))
  target-same s _ _ h = not_true h

  nodes-same : (ns ks : Nodes) → same_nodes ns ks ≡ true → SameNodes ns ks
  nodes-same no_node no_node h = same_no_node
  nodes-same (one_node (row t ls) ns) (one_node (row v ms) ks) h =
      let a : (same_row t v ≡ true) × ((same_leaves ls ms && same_nodes ns ks) ≡ true) = and-both _ _ h in
      let b : (same_leaves ls ms ≡ true) × (same_nodes ns ks ≡ true) = and-both _ _ a.1 in
      let e : t ≡ v = same_row-true t v a.0 in
      subst (λ z. SameNodes (one_node (row t ls) ns) (one_node (row z ms) ks)) e (same_one_node t ls ms ns ks (leaves-same ls ms b.0) (nodes-same ns ks b.1))
  nodes-same no_node (one_node n ks) h = not_true h
  nodes-same (one_node (row t ls) ns) no_node h = not_true h

-- ---- passed on

id-passed : (x y z : Id) → SameId x y → SameId y z → same_id x z ≡ true
id-passed x y z a b = rw ((bytes_eq-Decides x.name z.name).1 (a.0 ∙ b.0), eq-eqb x.number z.number (a.1 ∙ b.1)) refl

case-passed : (x y z : Option Id) → same_case x y ≡ true → same_case y z ≡ true → same_case x z ≡ true
case-passed None None None a b = refl
case-passed (Some x) (Some y) (Some z) a b = id-passed x y z (id-name x y a) (id-name y z b)
case-passed None None (Some z) a b = not_true b
case-passed None (Some y) z a b = not_true a
case-passed (Some x) None z a b = not_true a
case-passed (Some x) (Some y) None a b = not_true b

same_place-passed : (p q r : Place) → same_place p q ≡ true → same_place q r ≡ true → same_place p r ≡ true
same_place-passed (counted o n) (counted p m) (counted q i) a b = eq-eqb n i (eqb-true n m a ∙ eqb-true m i b)
same_place-passed (named o x) (named p y) (named q z) a b = id-passed x y z (id-name x y a) (id-name y z b)
same_place-passed (counted o n) (counted p m) (named q z) a b = not_true b
same_place-passed (counted o n) (named p y) r a b = not_true a
same_place-passed (named o x) (counted p m) r a b = not_true a
same_place-passed (named o x) (named p y) (counted q i) a b = not_true b

same_reach-passed : (p q r : Reach) → same_reach p q ≡ true → same_reach q r ≡ true → same_reach p r ≡ true
same_reach-passed outward outward outward a b = refl
same_reach-passed own own own a b = refl
same_reach-passed (at_place p) (at_place q) (at_place r) a b = same_place-passed p q r a b
same_reach-passed outward outward own a b = not_true b
same_reach-passed outward outward (at_place r) a b = not_true b
same_reach-passed own own outward a b = not_true b
same_reach-passed own own (at_place r) a b = not_true b
same_reach-passed (at_place p) (at_place q) outward a b = not_true b
same_reach-passed (at_place p) (at_place q) own a b = not_true b
same_reach-passed outward own r a b = not_true a
same_reach-passed outward (at_place q) r a b = not_true a
same_reach-passed own outward r a b = not_true a
same_reach-passed own (at_place q) r a b = not_true a
same_reach-passed (at_place p) outward r a b = not_true a
same_reach-passed (at_place p) own r a b = not_true a

path-passed : (p q r : Path) → SamePath p q → SamePath q r → SamePath p r
path-passed _ _ _ (same_root_number o p n) (same_root_number _ q _) = same_root_number o q n
path-passed _ _ _ (same_root_name x y a) (same_root_name _ z b) = same_root_name x z (a.0 ∙ b.0, a.1 ∙ b.1)
path-passed _ _ _ (same_export p q t a) (same_export _ r _ b) = same_export p r t (path-passed p q r a b)

mutual
  pub leaves-passed : (ls ms ks : Leaves) → SameLeaves ls ms → SameLeaves ms ks → SameLeaves ls ks
  leaves-passed _ _ _ same_none same_none = same_none
  leaves-passed _ _ _ (same_more l m ls ms a b) (same_more _ k _ ks c d) = same_more l k ls ks (leaf-passed l m k a c) (leaves-passed ls ms ks b d)

  leaf-passed : (l m k : Leaf) → SameLeaf l m → SameLeaf m k → SameLeaf l k
  leaf-passed _ _ _ (same_text t) (same_text _) = same_text t
  leaf-passed _ _ _ (same_number n) (same_number _) = same_number n
  leaf-passed _ _ _ same_absent same_absent = same_absent
  leaf-passed _ _ _ (same_present l m a) (same_present _ k b) = same_present l k (leaf-passed l m k a b)
  leaf-passed _ _ _ (same_list ns ms a) (same_list _ ks b) = same_list ns ks (nodes-passed ns ms ks a b)
  leaf-passed _ _ _ (same_id_of_case x y a) (same_id_of_case _ z b) = same_id_of_case x z (case-passed x y z a b)
  leaf-passed _ _ _ (same_numeral s o p n) (same_numeral _ _ q _) = same_numeral s o q n
  leaf-passed _ _ _ (same_named s r q x y a b) (same_named _ _ p _ z c d) = same_named s r p x z (same_reach-passed r q p a c) (b.0 ∙ d.0, b.1 ∙ d.1)
  leaf-passed _ _ _ (same_steps s p q a) (same_steps _ _ r b) = same_steps s p r (path-passed p q r a b)
  leaf-passed _ _ _ (same_inline s t ls ms h a) (same_inline _ _ _ ks g b) = same_inline s t ls ks h (leaves-passed ls ms ks a b)

  nodes-passed : (ns ms ks : Nodes) → SameNodes ns ms → SameNodes ms ks → SameNodes ns ks
  nodes-passed _ _ _ same_no_node same_no_node = same_no_node
  nodes-passed _ _ _ (same_one_node t ls ms ns ks a b) (same_one_node _ _ is _ js c d) = same_one_node t ls is ns js (leaves-passed ls ms is a c) (nodes-passed ns ks js b d)

-- ---- the other way, for ids and reaches

pub same-id : (x y : Id) → SameId x y → same_id x y ≡ true
same-id x y a = rw ((bytes_eq-Decides x.name y.name).1 a.0, eq-eqb x.number y.number a.1) refl

same_place-back : (p q : Place) → same_place p q ≡ true → same_place q p ≡ true
same_place-back (counted o n) (counted p m) a = eq-eqb m n (sym (eqb-true n m a))
same_place-back (named o x) (named p y) a = let i : SameId x y = id-name x y a in same-id y x (sym i.0, sym i.1)
same_place-back (counted o n) (named p y) a = not_true a
same_place-back (named o x) (counted p m) a = not_true a

pub same_reach-back : (p q : Reach) → same_reach p q ≡ true → same_reach q p ≡ true
same_reach-back outward outward a = refl
same_reach-back own own a = refl
same_reach-back (at_place p) (at_place q) a = same_place-back p q a
same_reach-back outward own a = not_true a
same_reach-back outward (at_place q) a = not_true a
same_reach-back own outward a = not_true a
same_reach-back own (at_place q) a = not_true a
same_reach-back (at_place p) outward a = not_true a
same_reach-back (at_place p) own a = not_true a
