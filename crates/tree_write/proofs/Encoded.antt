-- What a sink that counted a component, or kept it, has at the end.
use Rattle.std.proofs.Common.{◌≡◌, ℕ, ◌+◌, ◌-◌, ◌<◌, ◌≤◌, List, [], ◌++◌, length, drop, drop_of_length-le, Bool, true, false, sym, ◌∙◌, ap, arith, append-nil, inl, inr}
use Rattle.std.proofs.lemmas.Bool.{cases_lt}
use Rattle.tree_write.specs.Kept.{counted, written, full, put, count_kept, buffer_kept}
use Rattle.tree_write.proofs.Puts.{room_counted, no_room_counted, room_written, count_is, buffer_is, buffer_outside}

-- a count that isn't the greatest is that of the bytes
pub count_of_bytes : (n : ℕ) (xs : List ℕ) → n < 18_446_744_073_709_551_615 → count_kept n ≡ put xs (count_kept 0) → n ≡ length xs
count_of_bytes n xs h e = elim (cases_lt 18_446_744_073_709_551_614 (length xs)) [
  | inl over ↦ let no : counted (18_446_744_073_709_551_614 - n) n ≡ full = sym (count_is n h) ∙ e ∙ no_room_counted 18_446_744_073_709_551_614 0 xs over in cc
  | inr fits ↦
      let same : counted (18_446_744_073_709_551_614 - n) n ≡ counted (18_446_744_073_709_551_614 - length xs) (length xs + 0) = sym (count_is n h) ∙ e ∙ room_counted 18_446_744_073_709_551_614 0 xs fits in
      let all : n ≡ length xs + 0 = cc in
      omega (arith, all)
]

-- a buffer that had room for the bytes alone holds them
kept_all : (items ys : List ℕ) (at : ℕ) (f : Bool) → buffer_kept items at f ≡ written 0 ys → items ≡ ys
kept_all items ys at true e = cc
kept_all items ys at false e = elim (cases_lt (length items) at) [
  | inl o ↦ let no : full ≡ written 0 ys = sym (buffer_outside items at o) ∙ e in cc
  | inr i ↦
      let same : written at (drop at items) ≡ written 0 ys = sym (buffer_is items at i) ∙ e in
      let start : at ≡ 0 = cc in
      let rest : drop at items ≡ ys = cc in
      sym (ap (λ k. drop k items) start) ∙ rest
]

pub buffer_filled : (items new xs : List ℕ) (at less : ℕ) (f : Bool) → length items ≡ length xs → at ≡ length items → buffer_kept new less f ≡ put xs (buffer_kept items at false) → new ≡ xs
buffer_filled items new xs at less f l a e =
    let none : drop at items ≡ [] = drop_of_length-le items (omega (arith, a)) in
    let empty : buffer_kept items at false ≡ written at [] = buffer_is items at (omega (arith, a)) ∙ ap (written at) none in
    let room : length xs ≤ at = omega (arith, a, l) in
    let left : at - length xs ≡ 0 = omega (arith, a, l) in
    kept_all new xs less f (e ∙ ap (put xs) empty ∙ room_written at xs [] room ∙ ap (λ n. written n (xs ++ [])) left ∙ ap (written 0) (append-nil xs))
