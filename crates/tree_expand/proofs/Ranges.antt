-- Places that are 0 and those after it, or stand in a list.
use Rattle.std.specs.List.{range_with_len}
use Rattle.std.proofs.Common.{◌≡◌, ℕ, ◌+◌, ◌<◌, ◌≤◌, List, [], ◌∷◌, ◌++◌, length, refl, sym, ◌∙◌, ap, arith}
use Rattle.comp_tree.specs.Marks.{places_of}
use Rattle.comp_tree.proofs.Ranges.{range_one, range_length}

-- one more
pub list_more : (ps qs : List ℕ) (n p : ℕ) → 0 < length ps → qs ≡ ps ++ p ∷ [] → places_of qs n ≡ places_of ps n ++ p ∷ []
list_more [] qs n p h e = absurd (omega (arith, h))
list_more (x ∷ ps) qs n p h e = ap (λ w. places_of w n) e

pub count_more : (ps : List ℕ) (n p m : ℕ) → length ps ≤ 0 → p ≡ n → m ≡ p + 1 → places_of ps m ≡ places_of ps n ++ p ∷ []
count_more [] n p m h e f = ap (range_with_len 0) (f ∙ ap (λ q. q + 1) e) ∙ range_one n ∙ ap (λ q. range_with_len 0 n ++ q ∷ []) (sym e)
count_more (x ∷ ps) n p m h e f = absurd (omega (arith, h))

pub fill_more : (ps qs rs : List ℕ) (n p : ℕ) → length ps ≤ 0 → qs ≡ range_with_len 0 n → rs ≡ qs ++ p ∷ [] → places_of rs n ≡ places_of ps n ++ p ∷ []
fill_more [] qs rs n p h e f = ap (λ q. places_of q n) (f ∙ ap (λ q. q ++ p ∷ []) e) ∙ whole (range_with_len 0 n)
  where
    whole : (qs : List ℕ) → places_of (qs ++ p ∷ []) n ≡ qs ++ p ∷ []
    whole [] = refl
    whole (q ∷ qs) = refl
fill_more (x ∷ ps) qs rs n p h e f = absurd (omega (arith, h))

-- as many as there are references
pub places_right : (ps : List ℕ) (n r : ℕ) → length (places_of ps n) ≡ r → places_of ps r ≡ places_of ps n
places_right [] n r e = ap (range_with_len 0) (sym e ∙ range_length 0 n)
places_right (p ∷ ps) n r e = refl
