-- What strings and ids without an escape stand for.
use Rattle.std.proofs.Common.{◌≡◌, ℕ, ◌-◌, ◌≤◌, ◌==◌, Bool, true, false, cond, List, Some, None, length, take, drop, slice_index, refl, sym, ap, ◌∙◌, arith}
use Rattle.std.proofs.lemmas.Bool.{eq-eqb, eqb-true}
use Rattle.std.proofs.lemmas.List.{length-drop, drop-drop}
use Rattle.std.specs.List.{list_any}
use Rattle.std.specs.Str.{is_utf8}
use Rattle.wast_tokens.specs.Strings.{decoded}
use Rattle.wast_tokens.specs.Values.{between_quotes, string_of, escaped_string, name_of, escaped_name, is_in_quotes}
use Rattle.wast_tokens.specs.Spelled.{IsIdSpelling}
use Rattle.wast_tokens.proofs.Decoding.{decoded_plain}

plain_by : (b : Bool) (xs : List ℕ) → list_any (λ c. c == 92) xs ≡ b → cond b (Some (decoded xs)) None ≡ None → xs ≡ decoded xs
plain_by true xs h e = absurd (cc)
plain_by false xs h e = sym (decoded_plain xs h)

pub plain_string : (string : List ℕ) → escaped_string string ≡ None → between_quotes string ≡ string_of string
plain_string string e = plain_by (list_any (λ b. b == 92) (between_quotes string)) (between_quotes string) refl e

-- the bytes between the quotes of an id
behind_dollar : (id : List ℕ) → 2 ≤ length id → take (length id - 1 - 2) (drop 2 id) ≡ between_quotes (drop 1 id)
behind_dollar id some =
    let n : length id - 1 - 2 ≡ length (drop 1 id) - 1 - 1 = omega (arith, some, length-drop 1 id) in
    ap (λ k. take k (drop 2 id)) n ∙ ap (take (length (drop 1 id) - 1 - 1)) (sym (drop-drop 1 1 id))

pub plain_in_quotes : (id : List ℕ) → 2 ≤ length id → slice_index id 1 ≡ 34 → escaped_name id ≡ None → take (length id - 1 - 2) (drop 2 id) ≡ name_of id
plain_in_quotes id some quote e =
    let q : (slice_index id 1 == 34) ≡ true = eq-eqb (slice_index id 1) 34 quote in
    let none : escaped_string (drop 1 id) ≡ None = sym (ap (λ b. cond b (escaped_string (drop 1 id)) None) q) ∙ e in
    behind_dollar id some ∙ plain_string (drop 1 id) none ∙ sym (ap (λ b. cond b (string_of (drop 1 id)) (drop 1 id)) q)

escaped_by : (b : Bool) (xs v : List ℕ) → cond b (Some xs) None ≡ Some v → xs ≡ v
escaped_by true xs v e = ap (λ o. elim o [ Some x ↦ x | None ↦ xs ]) e
escaped_by false xs v e = absurd (cc)

-- what a string with an escape stands for
pub escaped_is : (string v : List ℕ) → escaped_string string ≡ Some v → string_of string ≡ v
escaped_is string v e = escaped_by (list_any (λ b. b == 92) (between_quotes string)) (string_of string) v e

utf8_by : (b : Bool) (id v : List ℕ) → is_in_quotes id ≡ b → (b ≡ true → is_utf8 (string_of (drop 1 id)) ≡ true) → cond b (escaped_string (drop 1 id)) None ≡ Some v → is_utf8 v ≡ true
utf8_by true id v q h e = ap is_utf8 (sym (escaped_is (drop 1 id) v e)) ∙ h refl
utf8_by false id v q h e = absurd (cc)

-- the name of an id is UTF-8
pub escaped_name_utf8 : (id v : List ℕ) → IsIdSpelling id → escaped_name id ≡ Some v → is_utf8 v ≡ true
escaped_name_utf8 id v s e = utf8_by (is_in_quotes id) id v refl (λ q. s.utf8 (eqb-true (slice_index id 1) 34 q)) e
