-- A loop from the last part to the first: the bytes of each part stand in front of those behind it.
use Rattle.std.proofs.Common.{◌≡◌, ℕ, zero, suc, ◌+◌, ◌-◌, ◌<◌, ◌≤◌, List, [], ◌∷◌, ◌++◌, length, drop, drop_of_length-le, get_or, refl, sym, ◌∙◌, ap, arith, le_refl}
use Rattle.comp_wire.proofs.Lists.{dropped}
use Rattle.tree_write.specs.Kept.{Kept, put}
use Rattle.tree_write.proofs.Puts.{put_put, put_none}

pub same_item : {X : Type 0} (xs : List X) (i : ℕ) (d : X) → i < length xs → get_or xs i d ≡ get_or xs i (get_or xs i d)
same_item [] i d h = absurd (omega arith)
same_item (x ∷ xs) zero d h = refl
same_item (x ∷ xs) (suc i) d h = same_item xs i d (omega arith) ∙ other xs i _ _ (omega arith)
  where
    other : {X : Type 0} (xs : List X) (i : ℕ) (d e : X) → i < length xs → get_or xs i d ≡ get_or xs i e
    other [] i d e h = absurd (omega arith)
    other (x ∷ xs) zero d e h = refl
    other (x ∷ xs) (suc i) d e h = other xs i d e (omega arith)

-- the loop is over at the first
pub all_of : {X : Type 0} (xs : List X) (i : ℕ) → i ≤ 0 → drop i xs ≡ xs
all_of xs zero h = refl
all_of xs (suc i) h = absurd (omega arith)

module _ {X : Type 0} (all : List X → List ℕ) (one : X → List ℕ) (none : all [] ≡ []) (more : (x : X) (xs : List X) → all (x ∷ xs) ≡ one x ++ all xs) where
  pub starts : (xs : List X) (k : Kept) → k ≡ put (all (drop (length xs) xs)) k
  starts xs k = sym (ap (λ q. put q k) (ap all (drop_of_length-le xs (le_refl (length xs))) ∙ none) ∙ put_none k)

  pub in_front : (xs : List X) (i : ℕ) (x : X) → 0 < i → i ≤ length xs → x ≡ get_or xs (i - 1) x → all (drop (i - 1) xs) ≡ one x ++ all (drop i xs)
  in_front xs i x a b e =
      let next : i - 1 + 1 ≡ i = omega (arith, a) in
      ap all (dropped xs (i - 1) x (omega (arith, a, b)) e) ∙ more x (drop (i - 1 + 1) xs) ∙ ap (λ j. one x ++ all (drop j xs)) next

  pub turn : (xs : List X) (i : ℕ) (x : X) (start now new : Kept) → 0 < i → i ≤ length xs → x ≡ get_or xs (i - 1) x → now ≡ put (all (drop i xs)) start → new ≡ put (one x) now → new ≡ put (all (drop (i - 1) xs)) start
  turn xs i x start now new a b e n m = m ∙ ap (put (one x)) n ∙ put_put (one x) (all (drop i xs)) start ∙ ap (λ q. put q start) (sym (in_front xs i x a b e))

  pub turn_at : (xs : List X) (i : ℕ) (d : X) (start now new : Kept) → 0 < i → i ≤ length xs → now ≡ put (all (drop i xs)) start → new ≡ put (one (get_or xs (i - 1) d)) now → new ≡ put (all (drop (i - 1) xs)) start
  turn_at xs i d start now new a b n m = turn xs i (get_or xs (i - 1) d) start now new a b (same_item xs (i - 1) d (omega (arith, a, b))) n m
