-- The sizes of items one behind the other, and of those that a loop has come to.
use Rattle.std.proofs.Common.{◌≡◌, ℕ, ◌+◌, ◌<◌, ◌≤◌, ◌^◌, Bool, true, ◌&&◌, List, [], ◌∷◌, ◌++◌, length, length-append, ap, sym, ◌∙◌, arith, inl, inr}
use Rattle.std.proofs.lemmas.Bool.{cases_lt}
use Rattle.std.proofs.Math.Bool.{and_assoc, and-true}
use Rattle.comp_model.specs.Leb.{uleb}
use Rattle.comp_model.specs.Payloads.{joined}
use Rattle.core_model.specs.Bytes.{counted}
use Rattle.core_syntax.specs.Measures.{capped}
use Rattle.core_write.proofs.Steps.{joined_append}
use Rattle.core_fits.specs.declared.size.Size.{Size}
use Rattle.core_fits.specs.Sizes.{IsSize}

pub size_none : (size : Size) → size.count ≡ 0 → size.bytes ≡ 0 → size.fits ≡ true → IsSize size [] true
size_none size n b f = record { count = n; bytes = b; fits = f }

-- a length that isn't capped
pub size_exact : (size : Size) (item : List ℕ) (fits : Bool) → size.count ≡ 1 → size.bytes ≡ length item → size.bytes < 2 ^ 64 → size.fits ≡ fits → IsSize size (item ∷ []) fits
size_exact size item fits n b w f = record { count = n; bytes = let e = length-append item [] in omega (arith, b, e, w); fits = f }

pub size_one : (size : Size) (item : List ℕ) (fits : Bool) → size.count ≡ 1 → size.bytes ≡ capped (length item) → size.fits ≡ fits → IsSize size (item ∷ []) fits
size_one size item fits n b f = record { count = n; bytes = let e = length-append item [] in omega (arith, b, e); fits = f }

pub size_both : (one two both : Size) (xs ys : List (List ℕ)) (p q : Bool) → IsSize one xs p → IsSize two ys q
    → both.count ≡ capped (one.count + two.count) → both.bytes ≡ capped (one.bytes + two.bytes) → both.fits ≡ (one.fits && two.fits) → IsSize both (xs ++ ys) (p && q)
size_both one two both xs ys p q a d n b f =
    let c = length-append xs ys in
    let j : length (joined (xs ++ ys)) ≡ length (joined xs) + length (joined ys) = ap length (joined_append xs ys) ∙ length-append (joined xs) (joined ys) in
    record {
      count = omega (arith, n, a.count, d.count, c);
      bytes = omega (arith, b, a.bytes, d.bytes, j);
      fits = f ∙ ap (λ x. x && two.fits) a.fits ∙ ap (λ y. p && y) d.fits;
    }

-- with what is left they are the whole
pub record SoFar (size : Size) (rest : List (List ℕ)) (left : Bool) (items : List (List ℕ)) (holds : Bool) : Type 0 where
  pub count : capped (size.count + length rest) ≡ capped (length items)
  pub bytes : capped (size.bytes + length (joined rest)) ≡ capped (length (joined items))
  pub fits : (size.fits && left) ≡ holds
  pub counted : size.count < 2 ^ 64
  pub within : size.bytes < 2 ^ 64

pub so_far_none : (size : Size) (items : List (List ℕ)) (fits : Bool) → size.count ≡ 0 → size.bytes ≡ 0 → size.fits ≡ true → SoFar size items fits items fits
so_far_none size items fits n b f = record {
  count = omega (arith, n);
  bytes = omega (arith, b);
  fits = ap (λ x. x && fits) f;
  counted = omega (arith, n);
  within = omega (arith, b);
}

pub so_far_more : (one two both : Size) (xs rest now items : List (List ℕ)) (p left before fits : Bool) → now ≡ xs ++ rest → before ≡ (p && left) → IsSize two xs p
    → both.count ≡ capped (one.count + two.count) → both.bytes ≡ capped (one.bytes + two.bytes) → both.fits ≡ (one.fits && two.fits)
    → SoFar one now before items fits → SoFar both rest left items fits
so_far_more one two both xs rest now items p left before fits s t d n b f h =
    let c : length now ≡ length xs + length rest = ap length s ∙ length-append xs rest in
    let j : length (joined now) ≡ length (joined xs) + length (joined rest) = ap (λ z. length (joined z)) s ∙ ap length (joined_append xs rest) ∙ length-append (joined xs) (joined rest) in
    record {
      count = omega (arith, n, d.count, c, h.count);
      bytes = omega (arith, b, d.bytes, j, h.bytes);
      fits = ap (λ x. x && left) (f ∙ ap (λ y. one.fits && y) d.fits) ∙ and_assoc one.fits p left ∙ ap (λ z. one.fits && z) (sym t) ∙ h.fits;
      counted = omega (arith, n);
      within = omega (arith, b);
    }

pub so_far_all : (size : Size) (rest items : List (List ℕ)) (left fits : Bool) → rest ≡ [] → left ≡ true → SoFar size rest left items fits → IsSize size items fits
so_far_all size rest items left fits r l h =
    let n : length rest ≡ 0 = ap length r in
    let j : length (joined rest) ≡ 0 = ap (λ z. length (joined z)) r in
    record {
      count = omega (arith, n, h.count, h.counted);
      bytes = omega (arith, j, h.bytes, h.within);
      fits = sym (and-true size.fits) ∙ ap (λ x. size.fits && x) (sym l) ∙ h.fits;
    }

-- the length of a count and so many items, none of which is empty
pub counted_size : (size : Size) (items : List (List ℕ)) (fits : Bool) → IsSize size items fits → length items ≤ length (joined items)
    → capped (length (uleb size.count) + size.bytes) ≡ capped (length (counted items))
counted_size size items fits h few = elim (cases_lt (length items) (2 ^ 64)) [
  | inl p ↦
      let e : size.count ≡ length items = let n = h.count in omega (arith, n, p) in
      let k = ap (λ n. length (uleb n)) e in
      let d = length-append (uleb (length items)) (joined items) in
      let b = h.bytes in
      omega (arith, k, d, b)
  | inr p ↦ let d = length-append (uleb (length items)) (joined items) in let b = h.bytes in omega (arith, d, b, few, p)
]
