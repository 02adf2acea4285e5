-- An id has one name, bare or in quotes.
use Rattle.std.proofs.Common.{◌≡◌, ℕ, ◌-◌, Bool, true, false, ◌==◌, cond, List, [], ◌∷◌, ◌++◌, length, take, slice_index, sym, refl, ap, ◌∙◌, arith}
use Rattle.std.proofs.lemmas.Bool.{eq-eqb, eqb-true}
use Rattle.std.proofs.lemmas.List.{length-append}
use Rattle.std.proofs.lemmas.List.Folds.{list_any_none}
use Rattle.std.proofs.lemmas.List.Elements.{All-weaker}
use Rattle.std.proofs.Math.Seq.{take-append_seam}
use Rattle.std.specs.List.{All}
use Rattle.wast_tokens.specs.Chars.{is_id_char}
use Rattle.wast_tokens.specs.Strings.{decoded}
use Rattle.wast_tokens.specs.Values.{string_of, name_of, in_string}
use Rattle.wast_tokens.proofs.Classes.{quote_not_id}
use Rattle.wast_tokens.proofs.Decoding.{decoded_byte, decoded_backslash, decoded_plain}

-- what stands in a string for some bytes stands for them
decoded_in_string : (xs : List ℕ) → decoded (in_string xs) ≡ xs
decoded_in_string [] = refl
decoded_in_string (b ∷ bs) = go (b == 92) refl (decoded_in_string bs)
  where
    go : (q : Bool) → (b == 92) ≡ q → decoded (in_string bs) ≡ bs → decoded (cond q (92 ∷ 92 ∷ in_string bs) (b ∷ in_string bs)) ≡ b ∷ bs
    go true e h = decoded_backslash (in_string bs) ∙ ap (λ l. 92 ∷ l) h ∙ ap (λ c. c ∷ bs) (sym (eqb-true b 92 e))
    go false e h = decoded_byte b (in_string bs) e ∙ ap (λ l. b ∷ l) h

-- what stands between the quotes
string_between : (xs : List ℕ) → string_of (34 ∷ (xs ++ 34 ∷ [])) ≡ decoded xs
string_between xs =
    let n : length (34 ∷ (xs ++ 34 ∷ [])) - 1 - 1 ≡ length xs = omega (arith, length-append xs (34 ∷ [])) in
    ap (λ k. decoded (take k (xs ++ 34 ∷ []))) n ∙ ap decoded (take-append_seam xs (34 ∷ []))

-- no quote begins id characters
no_quote : (b : ℕ) → is_id_char b ≡ true → (b == 34) ≡ false
no_quote b h = go (b == 34) refl
  where
    go : (q : Bool) → (b == 34) ≡ q → q ≡ false
    go true e = sym h ∙ ap is_id_char (eqb-true b 34 e) ∙ quote_not_id
    go false e = refl

pub bare_name : (name : List ℕ) → All (λ b. is_id_char b ≡ true) name → name_of (36 ∷ name) ≡ name
bare_name [] h = refl
bare_name (b ∷ bs) h = ap (λ q. cond q (string_of (b ∷ bs)) (b ∷ bs)) (no_quote b (h 0 0 (omega arith)))

pub string_name : (string : List ℕ) → slice_index string 0 ≡ 34 → name_of (36 ∷ string) ≡ string_of string
string_name string h = ap (λ q. cond q (string_of string) string) (eq-eqb (slice_index string 0) 34 h)

pub doubled_name : (name : List ℕ) → name_of (36 ∷ 34 ∷ (in_string name ++ 34 ∷ [])) ≡ name
doubled_name name = string_between (in_string name) ∙ decoded_in_string name

no_backslash : (b : ℕ) → ¬ (b ≡ 92) → (b == 92) ≡ false
no_backslash b h = go (b == 92) refl
  where
    go : (q : Bool) → (b == 92) ≡ q → q ≡ false
    go true e = absurd (h (eqb-true b 92 e))
    go false e = refl

pub quoted_name : (name : List ℕ) → All (λ b. ¬ (b ≡ 92)) name → name_of (36 ∷ 34 ∷ (name ++ 34 ∷ [])) ≡ name
quoted_name name h = string_between name ∙ decoded_plain name (list_any_none (λ b. b == 92) name (All-weaker (λ b. ¬ (b ≡ 92)) (λ b. (b == 92) ≡ false) no_backslash name h))
