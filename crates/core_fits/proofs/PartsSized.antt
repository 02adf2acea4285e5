-- Whether a section fits, by the size of its items.
use Rattle.std.proofs.Common.{◌≡◌, ℕ, ◌+◌, ◌^◌, Bool, ◌&&◌, List, length, length-append, ap, sym, ◌∙◌, arith, inl, inr}
use Rattle.std.proofs.lemmas.Bool.{cases_lt, le-ltb}
use Rattle.comp_model.specs.Leb.{uleb}
use Rattle.comp_model.specs.Payloads.{joined}
use Rattle.comp_wire.specs.Fits.{is_word}
use Rattle.leb_lengths.proofs.Lengths.{word-capped}
use Rattle.core_model.specs.Bytes.{counted}
use Rattle.core_syntax.specs.Measures.{capped}
use Rattle.core_fits.specs.declared.size.Size.{Size}
use Rattle.core_fits.specs.Sizes.{IsSize}
use Rattle.core_fits.specs.Tests.{fits_section}

-- the length of a section is tested where its count is a word
section_length : (size : Size) (items : List (List ℕ)) (holds : Bool) → IsSize size items holds
    → (is_word (length items) && is_word (capped (length (uleb size.count) + size.bytes))) ≡ (is_word (length items) && is_word (length (counted items)))
section_length size items holds h = elim (cases_lt (length items) (2 ^ 32)) [
  | inl p ↦
      let e : size.count ≡ length items = let n = h.count in omega (arith, n, p) in
      let k = ap (λ n. length (uleb n)) e in
      let d = length-append (uleb (length items)) (joined items) in
      let b = h.bytes in
      let same : capped (length (uleb size.count) + size.bytes) ≡ capped (length (counted items)) = omega (arith, k, d, b) in
      ap (λ w. is_word (length items) && w) (ap is_word same ∙ word-capped (length (counted items)))
  | inr p ↦ ap (λ w. w && is_word (capped (length (uleb size.count) + size.bytes))) (le-ltb (length items) (2 ^ 32) p) ∙ sym (ap (λ w. w && is_word (length (counted items))) (le-ltb (length items) (2 ^ 32) p))
]

pub section_sized : (size : Size) (items : List (List ℕ)) (holds answer : Bool) → IsSize size items holds
    → answer ≡ (size.fits && (is_word size.count && is_word (capped (length (uleb size.count) + size.bytes)))) → answer ≡ (holds && fits_section items)
section_sized size items holds answer h e =
    e ∙ ap (λ w. w && (is_word size.count && is_word (capped (length (uleb size.count) + size.bytes)))) h.fits
    ∙ ap (λ w. holds && w) (ap (λ w. w && is_word (capped (length (uleb size.count) + size.bytes))) (ap is_word h.count ∙ word-capped (length items)) ∙ section_length size items holds h)
