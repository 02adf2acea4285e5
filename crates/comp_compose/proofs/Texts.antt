-- Texts of a plan are UTF-8.
use Rattle.std.proofs.Common.{◌≡◌, ℕ, ◌<◌, ◌&&◌, Bool, true, false, not, List, [], ◌∷◌, arith, refl, IsUtf8, IsAscii}
use Rattle.std.specs.List.{list_all}
use Rattle.std.proofs.lemmas.Bool.Decides.{nat_tests}
use Rattle.std.proofs.lemmas.Str.{IsUtf8-from_ascii}
use Rattle.std.proofs.lemmas.Str.Ascii.{IsAscii-nil, IsAscii-cons}
use Rattle.plan_lines.specs.Words.{Word}
use Rattle.plan_lines.specs.Lines.{is_empty, is_text_byte}
use Rattle.comp_compose.specs.Weights.{IsText}

low : (b : ℕ) → is_text_byte b ≡ true → b < 128
low b h = grind (arith, nat_tests)

ascii : (bs : List ℕ) → list_all is_text_byte bs ≡ true → IsAscii bs
ascii [] h = IsAscii-nil
ascii (b ∷ bs) h = go (is_text_byte b) (low b) h (ascii bs)
  where
    go : (t : Bool) → (t ≡ true → b < 128) → (t && list_all is_text_byte bs) ≡ true → (list_all is_text_byte bs ≡ true → IsAscii bs) → IsAscii (b ∷ bs)
    go true l k rest = IsAscii-cons b bs (l refl) (rest k)
    go false l k rest = absurd (cc)

pub text_utf8 : (w : Word) → IsText w → IsUtf8 w.bytes
text_utf8 w h = IsUtf8-from_ascii w.bytes (go (is_empty w.bytes) h)
  where
    go : (b : Bool) → (not b && list_all is_text_byte w.bytes) ≡ true → IsAscii w.bytes
    go false k = ascii w.bytes k
    go true k = absurd (cc)
