-- Numbers one after the other.
use Rattle.std.specs.List.{range_with_len}
use Rattle.std.proofs.Common.{◌≡◌, ℕ, zero, suc, ◌+◌, [], ◌∷◌, ◌++◌, length, refl, sym, ◌∙◌, ap, arith}

pub range_both : (u n m : ℕ) → range_with_len u n ++ range_with_len (u + n) m ≡ range_with_len u (n + m)
range_both u zero m = let z : u + 0 ≡ u = omega arith in let y : m ≡ 0 + m = omega arith in ap (λ v. range_with_len v m) z ∙ ap (range_with_len u) y
range_both u (suc n) m =
    let z : u + suc n ≡ u + 1 + n = omega arith in
    let y : suc (n + m) ≡ suc n + m = omega arith in
    ap (λ v. u ∷ (range_with_len (u + 1) n ++ range_with_len v m)) z ∙ ap (λ r. u ∷ r) (range_both (u + 1) n m) ∙ ap (range_with_len u) y

pub range_one : (n : ℕ) → range_with_len 0 (n + 1) ≡ range_with_len 0 n ++ n ∷ []
range_one n = sym (range_both 0 n 1) ∙ ap (λ v. range_with_len 0 n ++ v ∷ []) zero-and
  where
    zero-and : 0 + n ≡ n
    zero-and = omega arith

pub range_length : (u n : ℕ) → length (range_with_len u n) ≡ n
range_length u zero = refl
range_length u (suc n) = ap suc (range_length (u + 1) n)
