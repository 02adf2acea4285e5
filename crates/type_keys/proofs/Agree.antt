-- Keys are equal where the types are equal as written.
use Rattle.std.proofs.Common.{◌≡◌, ℕ, Bool, true, false, ◌&&◌, bytes_eq, cond, List, [], ◌∷◌, Option, Some, None, IsSome, refl, sym, ◌∙◌, ap}
use Rattle.comp_model.specs.declared.row.Row.{Row}
use Rattle.comp_model.specs.RowNumbers.{same_row}
use Rattle.comp_model.specs.Model.{Leaf, text, number, kind, core_value, ref, place, absent, present, node, nodes, case_id, result_ids, result_count, core_source, module_bytes, scope, Target, index, numeral, name, path, inline, bundle, Path, root_number, root_name, export_of, Leaves, no_leaf, ◌▸◌, row, Nodes, no_node, one_node}
use Rattle.comp_model.specs.Spaces.{same_space}
use Rattle.comp_model.proofs.Tests.{same_row-true}
use Rattle.comp_model.specs.Core.{Id, counted, named, Reach, outward, own, at_place, same_id}
use Rattle.comp_scopes.specs.Signatures.{same_reach}
use Rattle.comp_scopes.specs.Reused.{same_path, same_case, is_shared, same_leaves, same_leaf, same_target, same_nodes, Typed}
use Rattle.type_keys.specs.Keys.{Part, part_end, same_key_reach, same_key_case, key_reach, key_case, same_parts, same_type, first_equal, stands_for, path_key, target_key, leaves_key, leaf_key, nodes_key, type_key, TargetPassed, LeavesPassed, LeafPassed, NodesPassed}
use Rattle.type_keys.proofs.First.{first-same, none-equal, none-first}
use Rattle.type_keys.proofs.Equal.{equal, equal-back}

assoc : (a b c : Bool) → (a && (b && c)) ≡ ((a && b) && c)
assoc true b c = refl
assoc false b c = refl

-- three of which the first comes last
turned : (a b c : Bool) → (a && (b && c)) ≡ ((b && a) && c)
turned true true c = refl
turned true false c = refl
turned false true c = refl
turned false false c = refl

path-agrees : (p q : Path) (r k : List Part) → same_parts (path_key p r) (path_key q k) ≡ (same_path p q && same_parts r k)
path-agrees (export_of p t) (export_of q v) r k = ap (λ b. bytes_eq t v && b) (path-agrees p q r k) ∙ turned (bytes_eq t v) (same_path p q) (same_parts r k)
path-agrees (export_of p t) (root_number o m) r k = refl
path-agrees (root_number o n) (root_number d m) r k = refl
path-agrees (root_name x) (root_name y) r k = refl
path-agrees _ _ r k = refl

reach-agrees : (r q : Reach) → same_key_reach (key_reach r) (key_reach q) ≡ same_reach r q
reach-agrees outward outward = refl
reach-agrees outward own = refl
reach-agrees outward (at_place (counted o n)) = refl
reach-agrees outward (at_place (named o x)) = refl
reach-agrees own outward = refl
reach-agrees own own = refl
reach-agrees own (at_place (counted o n)) = refl
reach-agrees own (at_place (named o x)) = refl
reach-agrees (at_place (counted o n)) outward = refl
reach-agrees (at_place (counted o n)) own = refl
reach-agrees (at_place (counted o n)) (at_place (counted p m)) = refl
reach-agrees (at_place (counted o n)) (at_place (named p y)) = refl
reach-agrees (at_place (named o x)) outward = refl
reach-agrees (at_place (named o x)) own = refl
reach-agrees (at_place (named o x)) (at_place (counted p m)) = refl
reach-agrees (at_place (named o x)) (at_place (named p y)) = refl

case-agrees : (x y : Option Id) → same_key_case (key_case x) (key_case y) ≡ same_case x y
case-agrees None None = refl
case-agrees None (Some y) = refl
case-agrees (Some x) None = refl
case-agrees (Some x) (Some y) = refl

module _ (xs : List Typed) where
  -- what stands for two inline nodes
  type-agrees : (t v : Row) (ls ms : Leaves) → (is_shared t ≡ true → equal t ls t ls ≡ true → IsSome (first_equal t ls xs)) → (is_shared v ≡ true → equal v ms v ms ≡ true → IsSome (first_equal v ms xs))
      → same_type (stands_for xs t ls) (stands_for xs v ms) ≡ (is_shared t && (same_row t v && same_leaves ls ms))
  type-agrees t v ls ms h i = go (is_shared t) (is_shared v) refl refl
    where
      apart : (b : Bool) → same_row t v ≡ b → is_shared t ≡ true → is_shared v ≡ false → (b && same_leaves ls ms) ≡ false
      apart false e p q = refl
      apart true e p q = let f : true ≡ false = sym p ∙ ap is_shared (same_row-true t v e) ∙ q in absurd (cc)

      none : (o : Option ℕ) → same_type o None ≡ false
      none None = refl
      none (Some n) = refl

      turned-none : equal v ms v ms ≡ false → equal t ls v ms ≡ false
      turned-none e = back (equal t ls v ms) refl
        where
          back : (b : Bool) → equal t ls v ms ≡ b → b ≡ false
          back false f = refl
          back true f = sym (equal-back t v ls ms f) ∙ none-equal v t ms ls e

      both : (a b : Bool) → equal t ls t ls ≡ a → equal v ms v ms ≡ b → (a ≡ true → IsSome (first_equal t ls xs)) → (b ≡ true → IsSome (first_equal v ms xs)) → same_type (first_equal t ls xs) (first_equal v ms xs) ≡ equal t ls v ms
      both true true e f j k = first-same t v ls ms xs (j refl) (k refl)
      both false b e f j k = rw (none-first t ls xs e, none-equal t v ls ms e) refl
      both true false e f j k = rw (none-first v ms xs f) (none (first_equal t ls xs)) ∙ sym (turned-none f)

      go : (a b : Bool) → is_shared t ≡ a → is_shared v ≡ b → same_type (cond a (first_equal t ls xs) None) (cond b (first_equal v ms xs) None) ≡ (a && (same_row t v && same_leaves ls ms))
      go true true p q = both (equal t ls t ls) (equal v ms v ms) refl refl (h p) (i q)
      go true false p q = none (first_equal t ls xs) ∙ sym (apart (same_row t v) refl p q)
      go false b p q = refl

  target-agrees : (t v : Target) (r k : List Part) → TargetPassed xs t → TargetPassed xs v → same_parts (target_key xs t r) (target_key xs v k) ≡ (same_target t v && same_parts r k)
  target-agrees (path p) (path q) r k h i = path-agrees p q r k
  target-agrees (name q x) (name p y) r k h i = ap (λ b. (b && same_id x y) && same_parts r k) (reach-agrees q p)
  target-agrees (inline (row t ls)) (inline (row v ms)) r k h i = ap (λ b. b && same_parts r k) (type-agrees t v ls ms h i)
  target-agrees (index n) (path (root_number d m)) r k h i = refl
  target-agrees (index n) (inline (row v ms)) r k h i = refl
  target-agrees (numeral o n) (path (root_number d m)) r k h i = refl
  target-agrees (numeral o n) (inline (row v ms)) r k h i = refl
  target-agrees (name q x) (path (root_number d m)) r k h i = refl
  target-agrees (name q x) (inline (row v ms)) r k h i = refl
  target-agrees (bundle n) (path (root_number d m)) r k h i = refl
  target-agrees (bundle n) (inline (row v ms)) r k h i = refl
  target-agrees (path (root_number o n)) (index m) r k h i = refl
  target-agrees (path (root_number o n)) (numeral d m) r k h i = refl
  target-agrees (path (root_number o n)) (name q x) r k h i = refl
  target-agrees (path (root_number o n)) (bundle m) r k h i = refl
  target-agrees (path (root_number o n)) (inline (row v ms)) r k h i = refl
  target-agrees (path (root_name x)) (inline (row v ms)) r k h i = refl
  target-agrees (path (export_of p t)) (inline (row v ms)) r k h i = refl
  target-agrees (inline (row t ls)) (path (root_number d m)) r k h i = refl
  target-agrees _ _ r k h i = refl

  ends-apart : (m : Leaf) (r k : List Part) → same_parts (part_end ∷ r) (leaf_key xs m k) ≡ false
  ends-apart (ref s t) r k = refl
  ends-apart _ r k = refl

  apart-ends : (m : Leaf) (r k : List Part) → same_parts (leaf_key xs m k) (part_end ∷ r) ≡ false
  apart-ends (ref s t) r k = refl
  apart-ends _ r k = refl

  mutual
    pub leaves-agree : (ls ms : Leaves) (r k : List Part) → LeavesPassed xs ls → LeavesPassed xs ms → same_parts (leaves_key xs ls r) (leaves_key xs ms k) ≡ (same_leaves ls ms && same_parts r k)
    leaves-agree no_leaf no_leaf r k h i = refl
    leaves-agree no_leaf (m ▸ ms) r k h i = ends-apart m r (leaves_key xs ms k)
    leaves-agree (l ▸ ls) no_leaf r k h i = apart-ends l k (leaves_key xs ls r)
    leaves-agree (l ▸ ls) (m ▸ ms) r k h i =
        leaf-agrees l m (leaves_key xs ls r) (leaves_key xs ms k) h.0 i.0
        ∙ ap (λ b. same_leaf l m && b) (leaves-agree ls ms r k h.1 i.1) ∙ assoc (same_leaf l m) (same_leaves ls ms) (same_parts r k)

    leaf-agrees : (l m : Leaf) (r k : List Part) → LeafPassed xs l → LeafPassed xs m → same_parts (leaf_key xs l r) (leaf_key xs m k) ≡ (same_leaf l m && same_parts r k)
    leaf-agrees (ref s t) (ref q v) r k h i = ap (λ b. same_space s q && b) (target-agrees t v r k h i) ∙ assoc (same_space s q) (same_target t v) (same_parts r k)
    leaf-agrees (present l) (present m) r k h i = leaf-agrees l m r k h i
    leaf-agrees (nodes ns) (nodes ks) r k h i = nodes-agree ns ks r k h i
    leaf-agrees (case_id x) (case_id y) r k h i = ap (λ b. b && same_parts r k) (case-agrees x y)
    leaf-agrees (text t) (text v) r k h i = refl
    leaf-agrees (number n) (text v) r k h i = refl
    leaf-agrees (kind d) (text v) r k h i = refl
    leaf-agrees (core_value d) (text v) r k h i = refl
    leaf-agrees (place p) (text v) r k h i = refl
    leaf-agrees (node n) (text v) r k h i = refl
    leaf-agrees (case_id x) (text v) r k h i = refl
    leaf-agrees (result_ids xs) (text v) r k h i = refl
    leaf-agrees (result_count n) (text v) r k h i = refl
    leaf-agrees (core_source d) (text v) r k h i = refl
    leaf-agrees (module_bytes d) (text v) r k h i = refl
    leaf-agrees (scope d) (text v) r k h i = refl
    leaf-agrees absent (text v) r k h i = refl
    leaf-agrees _ _ r k h i = refl

    nodes-agree : (ns ks : Nodes) (r k : List Part) → NodesPassed xs ns → NodesPassed xs ks → same_parts (nodes_key xs ns r) (nodes_key xs ks k) ≡ (same_nodes ns ks && same_parts r k)
    nodes-agree no_node no_node r k h i = refl
    nodes-agree no_node (one_node (row v ms) ks) r k h i = refl
    nodes-agree (one_node (row t ls) ns) no_node r k h i = refl
    nodes-agree (one_node (row t ls) ns) (one_node (row v ms) ks) r k h i =
        ap (λ b. same_row t v && b) (leaves-agree ls ms (nodes_key xs ns r) (nodes_key xs ks k) h.0 i.0 ∙ ap (λ b. same_leaves ls ms && b) (nodes-agree ns ks r k h.1 i.1) ∙ assoc (same_leaves ls ms) (same_nodes ns ks) (same_parts r k))
        ∙ assoc (same_row t v) (same_leaves ls ms && same_nodes ns ks) (same_parts r k)

  -- two types, in which no inline type stands that has not been passed
  pub keys-agree : (t v : Row) (ls ms : Leaves) → LeavesPassed xs ls → LeavesPassed xs ms → same_parts (type_key xs t ls) (type_key xs v ms) ≡ (same_row t v && same_leaves ls ms)
  keys-agree t v ls ms h i = ap (λ b. same_row t v && b) (leaves-agree ls ms [] [] h i ∙ and-true (same_leaves ls ms))
    where
      and-true : (b : Bool) → (b && true) ≡ b
      and-true true = refl
      and-true false = refl
