-- Where digits aren't hexadecimal.
use Rattle.std.proofs.Common.{◌≡◌, ◌⊎◌, inl, inr, ℕ, List, length, Err, sym, ap, subst, ◌∙◌}
use Rattle.hex.specs.Hex.{decode_of}
use Rattle.hex.proofs.HexLemmas.{decode_of-err}
use Rattle.hex.specs.declared.error.FromHexError.{FromHexError}
use Rattle.hex.specs.declared.error.FromHexError.TheVariants.{InvalidHexCharacter, OddLength, InvalidStringLength, OutOfMemory}
use Rattle.binary_inputs.specs.declared.source.HexRefusal.{HexRefusal}
use Rattle.binary_inputs.specs.declared.source.HexRefusal.TheVariants.{At}
use Rattle.binary_inputs.specs.Input.{HexRefuses, IsHexRefusal}
use Rattle.binary_inputs.specs.Input.HexRefuses.{odd, bad_digit}

SaysDigits : FromHexError → Type 0
SaysDigits OddLength = Unit {0}
SaysDigits (InvalidHexCharacter c i) = Unit {0}
SaysDigits InvalidStringLength = ⊥
SaysDigits OutOfMemory = ⊥

pub odd_refuses : (digits : List ℕ) (e : FromHexError) → e ≡ OddLength → (e ≡ OutOfMemory) ⊎ (decode_of digits ≡ Err e) → HexRefuses digits (length digits)
unfolding SaysDigits
odd_refuses digits e is (inl m) = absurd (subst SaysDigits (sym is ∙ m) tt)
odd_refuses digits e is (inr d) = odd (d ∙ ap Err is)

pub bad_digit_refuses : (digits : List ℕ) (e : FromHexError) (c i : ℕ) → e ≡ InvalidHexCharacter c i → (e ≡ OutOfMemory) ⊎ (decode_of digits ≡ Err e) → HexRefuses digits i
unfolding SaysDigits
bad_digit_refuses digits e c i is (inl m) = absurd (subst SaysDigits (sym is ∙ m) tt)
bad_digit_refuses digits e c i is (inr d) = bad_digit c i (d ∙ ap Err is)

-- digits whose bytes have no length given are refused for no length
pub no_length : (digits : List ℕ) (e : FromHexError) → e ≡ InvalidStringLength → (e ≡ OutOfMemory) ⊎ (decode_of digits ≡ Err e) → ⊥
unfolding SaysDigits
no_length digits e is (inl m) = let same : OutOfMemory ≡ InvalidStringLength = sym m ∙ is in absurd (cc)
no_length digits e is (inr d) = elim (decode_of-err digits e d) [
  | inl o ↦ subst SaysDigits (sym o.1 ∙ is) tt
  | inr b ↦ subst SaysDigits (sym b.1 ∙ is) tt
]

pub refused_at : (digits others : List ℕ) (e : HexRefusal) (offset : ℕ) → others ≡ digits → e ≡ At offset → IsHexRefusal others e → HexRefuses digits offset
refused_at digits others e offset same is h = subst (λ ds. HexRefuses ds offset) same (subst (IsHexRefusal others) is h)
