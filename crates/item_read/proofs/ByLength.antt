-- The leaves of a list, by how many they are.
use Rattle.std.proofs.Common.{◌≡◌, ℕ, zero, suc, ◌+◌, refl, ap, List, [], ◌∷◌, length, get_or, arith}
use Rattle.comp_model.specs.Model.{no_leaf, ◌▸◌}
use Rattle.wire_tree.specs.Model.{leaf_of}
use Rattle.wire_tree.specs.Lists.{listed}
use Rattle.wire_tree.specs.declared.tree.Leaf.{Leaf}
use Rattle.item_read.specs.Parts.{count, last}

pub counted_leaves : (xs : List Leaf) → count (listed xs) ≡ length xs
counted_leaves [] = refl
counted_leaves (x ∷ xs) = ap (λ n. suc n) (counted_leaves xs)

module _ (d : Leaf) where
  pub one_leaf : (xs : List Leaf) → count (listed xs) ≡ 1 → listed xs ≡ leaf_of (get_or xs 0 d) ▸ no_leaf
  one_leaf [] e = absurd (omega (arith, e))
  one_leaf (x ∷ []) e = refl
  one_leaf (x ∷ y ∷ xs) e = absurd (omega (arith, e))

  pub two_leaves : (xs : List Leaf) → count (listed xs) ≡ 2 → listed xs ≡ leaf_of (get_or xs 0 d) ▸ leaf_of (get_or xs 1 d) ▸ no_leaf
  two_leaves [] e = absurd (omega (arith, e))
  two_leaves (x ∷ []) e = absurd (omega (arith, e))
  two_leaves (x ∷ y ∷ []) e = refl
  two_leaves (x ∷ y ∷ z ∷ xs) e = absurd (omega (arith, e))

  pub three_leaves : (xs : List Leaf) → count (listed xs) ≡ 3 → listed xs ≡ leaf_of (get_or xs 0 d) ▸ leaf_of (get_or xs 1 d) ▸ leaf_of (get_or xs 2 d) ▸ no_leaf
  three_leaves [] e = absurd (omega (arith, e))
  three_leaves (x ∷ []) e = absurd (omega (arith, e))
  three_leaves (x ∷ y ∷ []) e = absurd (omega (arith, e))
  three_leaves (x ∷ y ∷ z ∷ []) e = refl
  three_leaves (x ∷ y ∷ z ∷ w ∷ xs) e = absurd (omega (arith, e))

  -- the last of them
  pub last_one : (xs : List Leaf) (i : ℕ) → i + 1 ≡ length xs → leaf_of (get_or xs i d) ≡ last (listed xs)
  last_one [] i e = absurd (omega (arith, e))
  last_one (x ∷ []) zero e = refl
  last_one (x ∷ []) (suc i) e = absurd (omega (arith, e))
  last_one (x ∷ y ∷ xs) zero e = absurd (omega (arith, e))
  last_one (x ∷ y ∷ xs) (suc i) e = last_one (y ∷ xs) i (omega (arith, e))
