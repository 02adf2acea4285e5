-- Why digits have no bytes.
use Rattle.std.proofs.Common.{◌≡◌, ◌⊎◌, inl, inr, ℕ, List, Err, sym, ◌∙◌, subst}
use Rattle.hex.specs.Hex.{decode_of}
use Rattle.hex.specs.declared.error.FromHexError.{FromHexError}
use Rattle.hex.specs.declared.error.FromHexError.TheVariants.{InvalidHexCharacter, OddLength, InvalidStringLength, OutOfMemory}
use Rattle.hex.proofs.HexLemmas.{decode_of-err}

abbrev OfDigits : FromHexError → Type 0
OfDigits OddLength = Unit {0}
OfDigits (InvalidHexCharacter c i) = Unit {0}
OfDigits InvalidStringLength = ⊥
OfDigits OutOfMemory = ⊥

-- no length is given that they could miss
pub no_length : (digits : List ℕ) (e : FromHexError) → e ≡ InvalidStringLength → (e ≡ OutOfMemory) ⊎ (decode_of digits ≡ Err e) → ⊥
no_length digits e is (inl m) = let same : OutOfMemory ≡ InvalidStringLength = sym m ∙ is in absurd (cc)
no_length digits e is (inr d) = elim (decode_of-err digits e d) [
  | inl o ↦ subst OfDigits (sym o.1 ∙ is) tt
  | inr b ↦ subst OfDigits (sym b.1 ∙ is) tt
]
