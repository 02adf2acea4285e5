-- Strings with escapes stand for the bytes that were printed.
use Rattle.std.proofs.Common.{◌≡◌, ℕ, ◌+◌, ◌-◌, ◌*◌, ◌/◌, ◌%◌, ◌<◌, List, [], ◌∷◌, ◌++◌, length, slice_index, slice_range, refl, ap, ◌∙◌, subst, arith, Bool, true, false, cond, not, ◌&&◌, ◌||◌, ◌==◌, nat_lt, Option, Some, None, append_assoc, length-append}
use Rattle.std.proofs.lemmas.Bool.{eqb-true}
use Rattle.std.proofs.lemmas.Bool.Decides.{nat_tests}
use Rattle.std.specs.List.{list_all}
use Rattle.std.specs.Char.{is_digit, digit_value}
use Rattle.wast_tokens.specs.Along.{Along}
use Rattle.wast_tokens.specs.Along.Along.{done, more}
use Rattle.wast_tokens.specs.declared.strings.Character.{Character}
use Rattle.wast_tokens.specs.declared.strings.Value.TheVariants.{Byte}
use Rattle.wast_tokens.specs.Strings.{is_plain, short_escape, scalar_of, digits_at, escape_of, escape_at, character_at, bytes_of, first_of, decoded_behind, decoded, IsCharacter, IsString}
use Rattle.wast_tokens.proofs.Decoding.{decoded_byte}
use Rattle.wast_tokens.specs.Values.{string_of}
use Rattle.print_table.specs.Tokens.{hex_digit, is_literal, escaped_byte, escaped, quoted}
use Rattle.printed_text.proofs.Places.{At, byte_at, first_at, past_at, range_at, both_of}
use Rattle.printed_text.proofs.Digits.{each_below_tells, implied}

-- ---- facts of every byte

-- a byte that stands for itself is plain, and no `\`
abbrev literal_test : ℕ → Bool
literal_test b = not (is_literal b) || (is_plain b && not (b == 92))

literal_fact : (b : ℕ) → b < 256 → literal_test b ≡ true
unfolding is_plain
literal_fact b lt = each_below_tells literal_test 256 b refl lt

-- the digits of an escape are digits, with the number of the byte, and begin no other escape
abbrev has_none : Option ℕ → Bool
has_none None = true
has_none (Some x) = false

abbrev high : ℕ → ℕ
high b = hex_digit (b / 16)

abbrev low : ℕ → ℕ
low b = hex_digit (b % 16)

abbrev escape_test : ℕ → Bool
escape_test b = (has_none (short_escape (high b)) && not (high b == 117)) && ((is_digit (high b) 16 && is_digit (low b) 16) && (16 * digit_value (high b) + digit_value (low b) == b))

escape_fact : (b : ℕ) → b < 256 → escape_test b ≡ true
unfolding short_escape
escape_fact b lt = each_below_tells escape_test 256 b refl lt

none_of : (o : Option ℕ) → has_none o ≡ true → o ≡ None
none_of None e = refl
none_of (Some x) e = absurd (cc)

no_of : (b : Bool) → not b ≡ true → b ≡ false
no_of true e = absurd (cc)
no_of false e = refl

-- ---- the character of a byte

abbrev as_byte : ℕ → ℕ → Option Character
as_byte n b = Some (record { len = n; value = Byte b })

escape_is : (c d b : ℕ) (scalar : Option Character) → short_escape c ≡ None → (c == 117) ≡ false → (is_digit c 16 && is_digit d 16) ≡ true → 16 * digit_value c + digit_value d ≡ b → escape_of c d scalar ≡ as_byte 3 b
escape_is c d b scalar e1 e2 e3 e4 =
    ap (λ (o : Option ℕ). elim o [
      | Some x ↦ Some (record { len = 2; value = Byte x })
      | None ↦ cond ((c == 117) && (d == 123)) scalar (cond (is_digit c 16 && is_digit d 16) (Some (record { len = 3; value = Byte (16 * digit_value c + digit_value d) })) None)
    ]) e1
    ∙ ap (λ x. cond (x && (d == 123)) scalar (cond (is_digit c 16 && is_digit d 16) (as_byte 3 (16 * digit_value c + digit_value d)) None)) e2
    ∙ ap (λ x. cond {A = Option Character} x (as_byte 3 (16 * digit_value c + digit_value d)) None) e3
    ∙ ap (as_byte 3) e4

plain_character : (text : List ℕ) (a b : ℕ) → slice_index text a ≡ b → is_plain b ≡ true → character_at text a ≡ as_byte 1 b
plain_character text a b e p =
    ap (λ x. cond (is_plain x) (as_byte 1 x) (cond (x == 92) (escape_at text a) None)) e ∙ ap (λ x. cond x (as_byte 1 b) (cond (b == 92) (escape_at text a) None)) p

backslash_not_plain : is_plain 92 ≡ false
unfolding is_plain
backslash_not_plain = refl

escape_character : (text : List ℕ) (a b : ℕ) → b < 256 → slice_index text a ≡ 92 → slice_index text (a + 1) ≡ high b → slice_index text (a + 2) ≡ low b → character_at text a ≡ as_byte 3 b
unfolding escape_at
escape_character text a b lt e c d =
    let w = both_of _ _ (escape_fact b lt) in
    let u = both_of _ _ w.0 in
    let v = both_of _ _ w.1 in
    ap (λ x. cond (is_plain x) (as_byte 1 x) (cond (x == 92) (escape_at text a) None)) e
    ∙ ap (λ x. cond x (as_byte 1 92) (escape_at text a)) backslash_not_plain
    ∙ ap (λ x. escape_of x (slice_index text (a + 2)) (scalar_of (slice_range text (a + 3) (a + 3 + digits_at text (a + 3))) (slice_index text (a + 3 + digits_at text (a + 3))))) c
    ∙ ap (λ x. escape_of (high b) x (scalar_of (slice_range text (a + 3) (a + 3 + digits_at text (a + 3))) (slice_index text (a + 3 + digits_at text (a + 3))))) d
    ∙ escape_is (high b) (low b) b _ (none_of _ u.0) (no_of _ u.1) v.0 (eqb-true _ b v.1)

abbrev spelled_by : Bool → ℕ → List ℕ
spelled_by t b = cond t (b ∷ []) (92 ∷ high b ∷ low b ∷ [])

character_by : (t : Bool) (text : List ℕ) (a b : ℕ) (rest : List ℕ) → is_literal b ≡ t → b < 256 → At text a (spelled_by t b ++ rest) → character_at text a ≡ as_byte (length (spelled_by t b)) b
character_by true text a b rest e lt at =
    let p = both_of _ _ (implied (is_literal b) _ (literal_fact b lt) e) in
    plain_character text a b (first_at text a (b ∷ rest) at) p.0
character_by false text a b rest e lt at =
    let xs : List ℕ = 92 ∷ high b ∷ low b ∷ rest in
    escape_character text a b lt (first_at text a xs at) (byte_at text a 1 xs at) (byte_at text a 2 xs at)

pub byte_character : (text : List ℕ) (a b : ℕ) (rest : List ℕ) → b < 256 → At text a (escaped_byte b ++ rest) → character_at text a ≡ as_byte (length (escaped_byte b)) b
byte_character text a b rest lt at = character_by (is_literal b) text a b rest refl lt at

-- ---- the bytes that they stand for

ltb-lt : (a b : ℕ) → nat_lt a b ≡ true → a < b
ltb-lt a b h = grind (arith, nat_tests)

decoded_by : (t : Bool) (b : ℕ) (rest : List ℕ) → is_literal b ≡ t → b < 256 → decoded (spelled_by t b ++ rest) ≡ b ∷ decoded rest
decoded_by true b rest e lt =
    let p = both_of _ _ (implied (is_literal b) _ (literal_fact b lt) e) in decoded_byte b rest (no_of _ p.1)
decoded_by false b rest e lt =
    let xs : List ℕ = 92 ∷ high b ∷ low b ∷ rest in
    ap (λ (o : Option Character). bytes_of (first_of 92 o).value ++ decoded_behind ((first_of 92 o).len - 1) (high b ∷ low b ∷ rest)) (escape_character xs 0 b lt refl refl refl)

pub decoded_escaped : (bs : List ℕ) → list_all (λ b. nat_lt b 256) bs ≡ true → decoded (escaped bs) ≡ bs
decoded_escaped [] h = refl
decoded_escaped (b ∷ bs) h =
    let w = both_of (nat_lt b 256) _ h in
    decoded_by (is_literal b) b (escaped bs) refl (ltb-lt b 256 w.0) ∙ ap (λ l. b ∷ l) (decoded_escaped bs w.1)

-- ---- a string

characters : (text : List ℕ) (a : ℕ) (bs rest : List ℕ) → list_all (λ b. nat_lt b 256) bs ≡ true → At text a (escaped bs ++ rest) → Along (IsCharacter text) a (a + length (escaped bs))
characters text a [] rest h at = done a (a + 0) (omega arith)
characters text a (b ∷ bs) rest h at =
    let w = both_of (nat_lt b 256) _ h in
    let xs : List ℕ = escaped_byte b in
    let e : At text a (xs ++ (escaped bs ++ rest)) = at ∙ append_assoc xs (escaped bs) rest in
    let c : Character = record { len = length xs; value = Byte b } in
    let next : At text (a + length xs) (escaped bs ++ rest) = past_at text a xs (escaped bs ++ rest) e in
    let tail = characters text (a + length xs) bs rest w.1 next in
    let end : a + length xs + length (escaped bs) ≡ a + length (escaped (b ∷ bs)) = let l = length-append xs (escaped bs) in omega (arith, l) in
    more a (a + length xs) (a + length (escaped (b ∷ bs))) (c, byte_character text a b (escaped bs ++ rest) (ltb-lt b 256 w.0) e, refl)
    (subst (Along (IsCharacter text) (a + length xs)) end tail)

pub string_at : (text : List ℕ) (a : ℕ) (bs rest : List ℕ) → list_all (λ b. nat_lt b 256) bs ≡ true → At text a (quoted bs ++ rest) → IsString text a (a + length (quoted bs))
string_at text a bs rest h at =
    let inner : List ℕ = escaped bs ++ (34 ∷ rest) in
    let e : At text a (34 ∷ inner) = at ∙ ap (λ l. 34 ∷ l) (append_assoc (escaped bs) (34 ∷ []) rest) in
    let f : At text (a + 1) inner = past_at text a (34 ∷ []) inner e in
    let g : At text (a + 1 + length (escaped bs)) (34 ∷ rest) = past_at text (a + 1) (escaped bs) (34 ∷ rest) f in
    record {
      opened = first_at text a (34 ∷ inner) e;
      close = a + 1 + length (escaped bs);
      characters = characters text (a + 1) bs (34 ∷ rest) h f;
      closed = first_at text (a + 1 + length (escaped bs)) (34 ∷ rest) g;
      end = let l = length-append (escaped bs) (34 ∷ []) in omega (arith, l);
    }

-- what the printed string stands for
middle : (xs : List ℕ) → slice_range (34 ∷ (xs ++ 34 ∷ [])) 1 (length (34 ∷ (xs ++ 34 ∷ [])) - 1) ≡ xs
middle xs = let l = length-append xs (34 ∷ []) in let n : length (34 ∷ (xs ++ 34 ∷ [])) - 1 ≡ 1 + length xs = omega (arith, l) in ap (λ k. slice_range (34 ∷ (xs ++ 34 ∷ [])) 1 k) n ∙ range_at (34 ∷ (xs ++ 34 ∷ [])) 1 xs (34 ∷ []) refl

pub quoted_stands : (bs : List ℕ) → list_all (λ b. nat_lt b 256) bs ≡ true → string_of (quoted bs) ≡ bs
quoted_stands bs h = ap decoded (middle (escaped bs)) ∙ decoded_escaped bs h
