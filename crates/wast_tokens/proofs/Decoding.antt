-- What characters stand for, one by one.
use Rattle.std.proofs.Common.{◌≡◌, ℕ, Bool, true, false, zero, suc, ◌+◌, ◌-◌, ◌<◌, ◌≤◌, cond, ◌==◌, ◌||◌, Option, Some, None, List, [], ◌∷◌, ◌++◌, length, drop, take, slice_index, slice_range, sym, refl, ap, ◌∙◌, arith, append_assoc}
use Rattle.std.proofs.lemmas.List.{drop_more, drop-drop, get_or-drop}
use Rattle.std.specs.List.{prefix_len, list_any}
use Rattle.std.specs.Char.{is_digit}
use Rattle.wast_tokens.specs.declared.strings.Character.{Character}
use Rattle.wast_tokens.specs.declared.strings.Value.TheVariants.{Byte}
use Rattle.wast_tokens.specs.Strings.{is_plain, short_escape, scalar_of, digits_at, escape_of, escape_at, character_at, bytes_of, first_of, decoded_behind, decoded}
use Rattle.wast_tokens.proofs.Quotes.{character_within}

byte_behind : (xs : List ℕ) (a k : ℕ) → slice_index (drop a xs) k ≡ slice_index xs (a + k)
byte_behind xs a k = get_or-drop a xs k 0

digits_behind : (xs : List ℕ) (a : ℕ) → digits_at (drop a xs) 3 ≡ digits_at xs (a + 3)
digits_behind xs a = ap (prefix_len (λ b. is_digit b 16 || (b == 95))) (drop-drop 3 a xs)

range_behind : (xs : List ℕ) (a n : ℕ) → slice_range (drop a xs) 3 (3 + n) ≡ slice_range xs (a + 3) (a + 3 + n)
range_behind xs a n =
    let e : 3 + n - 3 ≡ a + 3 + n - (a + 3) = omega arith in
    ap (λ l. take (3 + n - 3) l) (drop-drop 3 a xs) ∙ ap (λ k. take k (drop (a + 3) xs)) e

escape_behind : (xs : List ℕ) (a : ℕ) → escape_at (drop a xs) 0 ≡ escape_at xs a
unfolding escape_at
escape_behind xs a =
    let n : ℕ = digits_at xs (a + 3) in
    let count : digits_at (drop a xs) 3 ≡ n = digits_behind xs a in
    let assoc : a + (3 + n) ≡ a + 3 + n = omega arith in
    let next : slice_index (drop a xs) (3 + digits_at (drop a xs) 3) ≡ slice_index xs (a + 3 + n) = ap (λ k. slice_index (drop a xs) (3 + k)) count ∙ byte_behind xs a (3 + n) ∙ ap (slice_index xs) assoc in
    let digits : slice_range (drop a xs) 3 (3 + digits_at (drop a xs) 3) ≡ slice_range xs (a + 3) (a + 3 + n) = ap (λ k. slice_range (drop a xs) 3 (3 + k)) count ∙ range_behind xs a n in
    λ i. escape_of (byte_behind xs a 1 i) (byte_behind xs a 2 i) (scalar_of (digits i) (next i))

character_behind : (xs : List ℕ) (a : ℕ) → character_at (drop a xs) 0 ≡ character_at xs a
character_behind xs a =
    let z : a + 0 ≡ a = omega arith in
    let first : slice_index (drop a xs) 0 ≡ slice_index xs a = byte_behind xs a 0 ∙ ap (slice_index xs) z in
    λ i. cond (is_plain (first i)) (Some (record { len = 1; value = Byte (first i) })) (cond (first i == 92) (escape_behind xs a i) None)

behind_drop : (n : ℕ) (xs : List ℕ) → decoded_behind n xs ≡ decoded (drop n xs)
behind_drop zero [] = refl
behind_drop (suc n) [] = refl
behind_drop zero (x ∷ xs) = refl
behind_drop (suc n) (x ∷ xs) = behind_drop n xs

-- the character at a place
abbrev pub first_at : List ℕ → ℕ → Character
first_at xs a = first_of (slice_index xs a) (character_at xs a)

first_by : (xs : List ℕ) (a : ℕ) (o : Option Character) → a < length xs → character_at xs a ≡ o → (0 < (first_of (slice_index xs a) o).len) × (a + (first_of (slice_index xs a) o).len ≤ length xs)
first_by xs a (Some ch) lt e = character_within xs a ch e
first_by xs a None lt e = (omega arith, omega arith)

pub first_within : (xs : List ℕ) (a : ℕ) → a < length xs → (0 < (first_at xs a).len) × (a + (first_at xs a).len ≤ length xs)
first_within xs a lt = first_by xs a (character_at xs a) lt refl

pub decoded_more : (xs : List ℕ) (a : ℕ) → a < length xs → decoded (drop a xs) ≡ bytes_of (first_at xs a).value ++ decoded (drop (a + (first_at xs a).len) xs)
decoded_more xs a lt =
    let shape : drop a xs ≡ slice_index xs a ∷ drop (a + 1) xs = drop_more xs a 0 lt in
    let here : character_at (slice_index xs a ∷ drop (a + 1) xs) 0 ≡ character_at xs a = ap (λ l. character_at l 0) (sym shape) ∙ character_behind xs a in
    let w = first_within xs a lt in
    let len : ℕ = (first_at xs a).len in
    let at : a + 1 + (len - 1) ≡ a + len = omega (arith, w.0) in
    ap decoded shape
    ∙ ap (λ o. bytes_of (first_of (slice_index xs a) o).value ++ decoded_behind ((first_of (slice_index xs a) o).len - 1) (drop (a + 1) xs)) here
    ∙ ap (λ t. bytes_of (first_at xs a).value ++ t) (behind_drop (len - 1) (drop (a + 1) xs) ∙ ap decoded (drop-drop (len - 1) (a + 1) xs ∙ ap (λ k. drop k xs) at))

pub decoded_front : (all xs out : List ℕ) (a : ℕ) → a < length xs → all ≡ out ++ decoded (drop a xs) → all ≡ (out ++ bytes_of (first_at xs a).value) ++ decoded (drop (a + (first_at xs a).len) xs)
decoded_front all xs out a lt e = e ∙ ap (λ t. out ++ t) (decoded_more xs a lt) ∙ sym (append_assoc out (bytes_of (first_at xs a).value) (decoded (drop (a + (first_at xs a).len) xs)))

-- bytes without a `\` stand for themselves

first_plain : (b : ℕ) (p q : Bool) (escape : Option Character) → q ≡ false → first_of b (cond p (Some (record { len = 1; value = Byte b })) (cond q escape None)) ≡ record { len = 1; value = Byte b }
first_plain b true q escape h = refl
first_plain b false true escape h = absurd (cc)
first_plain b false false escape h = refl

either_false : (a b : Bool) → (a || b) ≡ false → (a ≡ false) × (b ≡ false)
either_false true b h = absurd (cc)
either_false false b h = (refl, h)

-- a byte other than `\` stands for itself
pub decoded_byte : (b : ℕ) (bs : List ℕ) → (b == 92) ≡ false → decoded (b ∷ bs) ≡ b ∷ decoded bs
decoded_byte b bs h =
    ap (λ (c : Character). bytes_of c.value ++ decoded_behind (c.len - 1) bs) (first_plain b (is_plain b) (b == 92) (escape_at (b ∷ bs) 0) h) ∙ ap (λ l. b ∷ l) (behind_drop 0 bs)

pub decoded_plain : (xs : List ℕ) → list_any (λ b. b == 92) xs ≡ false → decoded xs ≡ xs
decoded_plain [] h = refl
decoded_plain (b ∷ bs) h =
    let none = either_false (b == 92) (list_any (λ c. c == 92) bs) h in
    decoded_byte b bs none.0 ∙ ap (λ l. b ∷ l) (decoded_plain bs none.1)

-- a `\` behind another is one
pub decoded_backslash : (bs : List ℕ) → decoded (92 ∷ 92 ∷ bs) ≡ 92 ∷ decoded bs
unfolding is_plain escape_at short_escape
decoded_backslash bs = refl
