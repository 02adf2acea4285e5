-- The numbers of classes that aren't words.
use Rattle.std.proofs.Common.{◌≡◌, ℕ, refl, ap, sym, ◌∙◌, List, Bool, true, false, cond, Option, Some, None}
use Rattle.std.proofs.lemmas.Str.{IsUtf8-from_is_utf8, is_utf8-from_IsUtf8}
use Rattle.std.specs.Str.{IsUtf8, is_utf8}
use Rattle.wast_grammar.specs.Classes.{Class, finish, opening, closing, string, id, integer, reserved, same}
use Rattle.wast_parser.specs.Next.{keyword_in, string_in, integer_in, note_in}
use Rattle.token_codes.specs.Numbers.{number}

number_string : (b : Bool) → number (string b) ≡ cond b 3 4
unfolding number
number_string true = refl
number_string false = refl

number_integer : (b : Bool) → number (integer b) ≡ cond b 6 7
unfolding number
number_integer true = refl
number_integer false = refl

-- what is none of the others
pub number_rest : (c : Class) → keyword_in c ≡ None → same c opening ≡ false → same c closing ≡ false → string_in c ≡ false → same c id ≡ false → integer_in c ≡ false → note_in c ≡ None
    → (same c finish ≡ false → ◌≡◌ {A = ℕ} 149 (number c)) × (same c finish ≡ true → ◌≡◌ {A = ℕ} 0 (number c))
unfolding number
number_rest finish h1 h2 h3 h4 h5 h6 h7 = (λ e. absurd (cc), λ e. refl)
number_rest reserved h1 h2 h3 h4 h5 h6 h7 = (λ e. refl, λ e. absurd (cc))
number_rest _ h1 h2 h3 h4 h5 h6 h7 = absurd (cc)

pub string_err : (b : Bool) (bs : List ℕ) → is_utf8 bs ≡ b → (IsUtf8 bs → ⊥) → ◌≡◌ {A = ℕ} 4 (number (string (is_utf8 bs)))
string_err true bs e h = absurd (h (IsUtf8-from_is_utf8 bs e))
string_err false bs e h = sym (ap (λ b. number (string b)) e ∙ number_string false)

pub string_ok : (bs : List ℕ) → IsUtf8 bs → ◌≡◌ {A = ℕ} 3 (number (string (is_utf8 bs)))
string_ok bs h = sym (ap (λ b. number (string b)) (is_utf8-from_IsUtf8 bs h) ∙ number_string true)

pub integer_some : (b : Bool) (n k : ℕ) → Some n ≡ cond b (Some k) None → ◌≡◌ {A = ℕ} 6 (number (integer b))
integer_some true n k e = sym (number_integer true)
integer_some false n k e = absurd (cc)

pub integer_none : (b : Bool) (k : ℕ) → ◌≡◌ {A = Option ℕ} None (cond b (Some k) None) → ◌≡◌ {A = ℕ} 7 (number (integer b))
integer_none true k e = absurd (cc)
integer_none false k e = sym (number_integer false)

-- the number of a class that is next, as a cursor sees it
pub seen : (c d e : Class) (n : ℕ) → n ≡ number e → d ≡ e → d ≡ c → n ≡ number c
seen c d e n h p q = h ∙ ap number (sym p ∙ q)

opening_number : 2 ≡ number opening
unfolding number
opening_number = refl

closing_number : 1 ≡ number closing
unfolding number
closing_number = refl

id_number : 5 ≡ number id
unfolding number
id_number = refl

pub seen_opening : (c d : Class) → d ≡ opening → d ≡ c → ◌≡◌ {A = ℕ} 2 (number c)
seen_opening c d p q = seen c d opening 2 opening_number p q

pub seen_closing : (c d : Class) → d ≡ closing → d ≡ c → ◌≡◌ {A = ℕ} 1 (number c)
seen_closing c d p q = seen c d closing 1 closing_number p q

pub seen_id : (c d : Class) → d ≡ id → d ≡ c → ◌≡◌ {A = ℕ} 5 (number c)
seen_id c d p q = seen c d id 5 id_number p q

pub seen_rest : (c d : Class) → d ≡ c → keyword_in d ≡ None → same d opening ≡ false → same d closing ≡ false → string_in d ≡ false → same d id ≡ false → integer_in d ≡ false → note_in d ≡ None
    → same c finish ≡ false → ◌≡◌ {A = ℕ} 149 (number c)
seen_rest c d q h1 h2 h3 h4 h5 h6 h7 k = (number_rest d h1 h2 h3 h4 h5 h6 h7).0 (ap (λ x. same x finish) q ∙ k) ∙ ap number q

pub seen_end : (c d : Class) → d ≡ c → keyword_in d ≡ None → same d opening ≡ false → same d closing ≡ false → string_in d ≡ false → same d id ≡ false → integer_in d ≡ false → note_in d ≡ None
    → same c finish ≡ true → ◌≡◌ {A = ℕ} 0 (number c)
seen_end c d q h1 h2 h3 h4 h5 h6 h7 k = (number_rest d h1 h2 h3 h4 h5 h6 h7).1 (ap (λ x. same x finish) q ∙ k) ∙ ap number q
