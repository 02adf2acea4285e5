-- Strings that are UTF-8, and others.
use Rattle.std.proofs.Common.{◌≡◌, ℕ, List, refl, ap, sym, subst, ◌∙◌, true, false, Bool}
use Rattle.std.specs.Str.{IsUtf8, is_utf8}
use Rattle.std.proofs.lemmas.Str.{IsUtf8-from_is_utf8, is_utf8-from_IsUtf8}
use Rattle.std.proofs.lemmas.Bool.{cases_Bool}
use Rattle.wast_grammar.specs.Tokens.{string_of}
use Rattle.wast_grammar.specs.Classes.{Class, same, string, utf8, binary}
use Rattle.wast_grammar.specs.Stand.{Stand, class_at, bytes_at, moved}
use Rattle.wast_grammar.specs.Grammar.{Value, text}

string_true : (b : Bool) → b ≡ true → (same (string b) utf8 ≡ true) × (same (string b) binary ≡ false)
string_true true h = (refl, refl)
string_true false h = absurd (cc)

string_false : (b : Bool) → (b ≡ true → ⊥) → (same (string b) utf8 ≡ false) × (same (string b) binary ≡ true)
string_false true h = absurd (h refl)
string_false false h = (refl, refl)

class_is : (s q : Stand) (b : Bool) → q ≡ s → class_at q ≡ string b → class_at s ≡ string b
class_is s q b e h = ap class_at (sym e) ∙ h

pub text_taken : (s q u : Stand) (b x : List ℕ) → q ≡ s → class_at q ≡ string (is_utf8 b) → b ≡ string_of (bytes_at q) → x ≡ b → IsUtf8 b → u ≡ moved s 1
    → (same (class_at s) utf8 ≡ true) × (u ≡ moved s 1) × (text (string_of (bytes_at s)) ≡ text x)
text_taken s q u b x e h v y i m =
    (ap (λ c. same c utf8) (class_is s q (is_utf8 b) e h) ∙ (string_true (is_utf8 b) (is_utf8-from_IsUtf8 b i)).0, m, ap (λ p. text (string_of (bytes_at p))) (sym e) ∙ ap text (sym v ∙ sym y))

pub no_text : (s q : Stand) (b : List ℕ) → q ≡ s → class_at q ≡ string (is_utf8 b) → (IsUtf8 b → ⊥) → (same (class_at s) utf8 ≡ false) × (s ≡ s)
no_text s q b e h i = (ap (λ c. same c utf8) (class_is s q (is_utf8 b) e h) ∙ (string_false (is_utf8 b) (λ z. i (IsUtf8-from_is_utf8 b z))).0, refl)

pub bytes_taken : (s q u : Stand) (b : List ℕ) → q ≡ s → class_at q ≡ string (is_utf8 b) → b ≡ string_of (bytes_at q) → (IsUtf8 b → ⊥) → u ≡ moved s 1
    → (same (class_at s) binary ≡ true) × (u ≡ moved s 1) × (text (string_of (bytes_at s)) ≡ text b)
bytes_taken s q u b e h v i m =
    (ap (λ c. same c binary) (class_is s q (is_utf8 b) e h) ∙ (string_false (is_utf8 b) (λ z. i (IsUtf8-from_is_utf8 b z))).1, m, ap (λ p. text (string_of (bytes_at p))) (sym e) ∙ ap text (sym v))

pub no_bytes : (s q : Stand) (b : List ℕ) → q ≡ s → class_at q ≡ string (is_utf8 b) → IsUtf8 b → (same (class_at s) binary ≡ false) × (s ≡ s)
no_bytes s q b e h i = (ap (λ c. same c binary) (class_is s q (is_utf8 b) e h) ∙ (string_true (is_utf8 b) (is_utf8-from_IsUtf8 b i)).1, refl)
