-- What holds of the characters of strings, and of strings.
use Rattle.std.proofs.Common.{◌≡◌, ℕ, ◌+◌, ◌*◌, ◌<◌, ◌≤◌, Bool, true, false, ◌&&◌, ◌==◌, cond, Option, Some, None, List, length, slice_index, slice_range, ◌⊎◌, sym, refl, ap, ◌∙◌, subst, ⊎_elim, inl, inr, arith}
use Rattle.std.proofs.lemmas.Bool.{cases_Bool, cases_lt, cases_eq, both_ways, eqb-true, eq-eqb}
use Rattle.std.proofs.lemmas.Grind.{common_steps}
use Rattle.std.specs.Char.{is_digit, digit_value}
use Rattle.wast_tokens.specs.declared.strings.Character.{Character}
use Rattle.wast_tokens.specs.declared.strings.Value.TheVariants.{Byte, Scalar}
use Rattle.wast_tokens.specs.declared.error.LexFault.{LexFault}
use Rattle.wast_tokens.specs.declared.error.LexFault.TheVariants.{UnclosedString, BadStringChar, BadEscape}
use Rattle.wast_tokens.specs.Along.{Along}
use Rattle.wast_tokens.specs.Numbers.{are_digits, number}
use Rattle.wast_tokens.specs.Strings.{is_plain, short_escape, is_scalar, scalar_of, digits_at, escape_of, escape_at, character_at, IsCharacter, IsString, IsBroken, IsBrokenString}
use Rattle.wast_tokens.specs.Strings.IsBroken.{unclosed, bad_escape, bad_char}
use Rattle.wast_tokens.proofs.Classes.{some_within, and_first, and_second}
use Rattle.wast_tokens.proofs.Steps.{IsLast, GoesOn, IsOnly, along_same, along_more, along_le, along_within, along_end}

some_same : {X : Type 0} (x y : X) (d : X) → Some x ≡ Some y → x ≡ y
some_same x y d e = ap (λ o. elim o [ Some z ↦ z | None ↦ d ]) e

-- how many bytes an escape takes, and where its last byte stands

abbrev IsLong : ℕ → ℕ → Option Character → Character → Type 0
IsLong c d scalar ch = (((ch.len ≡ 2) × (0 < c)) ⊎ ((ch.len ≡ 3) × (0 < d))) ⊎ ((scalar ≡ Some ch) × (d ≡ 123))

no_escape_0 : short_escape 0 ≡ None
unfolding short_escape
no_escape_0 = refl

escape_some : (c b : ℕ) → short_escape c ≡ Some b → 0 < c
escape_some c b e = ⊎_elim (λ lt. lt) (λ z. let zero_c : c ≡ 0 = omega arith in let no_escape : None ≡ Some b = sym no_escape_0 ∙ ap short_escape (sym zero_c) ∙ e in absurd (cc)) (cases_lt 0 c)

digit_some : (d : ℕ) → is_digit d 16 ≡ true → 0 < d
digit_some d e = ⊎_elim (λ lt. lt) (λ z. let zero_d : d ≡ 0 = omega arith in absurd (both_ways _ refl (ap (λ n. is_digit n 16) (sym zero_d) ∙ e))) (cases_lt 0 d)

by_digits : (c d : ℕ) (scalar : Option Character) (b : Bool) (two : Character) (ch : Character) → (b ≡ true → 0 < d) → two.len ≡ 3 → cond b (Some two) None ≡ Some ch → IsLong c d scalar ch
by_digits c d scalar true two ch some len e = inl (inr (ap (λ (x : Character). x.len) (sym (some_same two ch two e)) ∙ len, some refl))
by_digits c d scalar false two ch some len e = absurd (cc)

by_scalar : (c d : ℕ) (scalar : Option Character) (s b : Bool) (two ch : Character) → (s ≡ true → d ≡ 123) → (b ≡ true → 0 < d) → two.len ≡ 3 → cond s scalar (cond b (Some two) None) ≡ Some ch → IsLong c d scalar ch
by_scalar c d scalar true b two ch brace some len e = inr (e, brace refl)
by_scalar c d scalar false b two ch brace some len e = by_digits c d scalar b two ch some len e

by_short : (c d : ℕ) (scalar short_rest : Option Character) (short : Option ℕ) (ch : Character) → (short_escape c ≡ short) → (short_rest ≡ Some ch → IsLong c d scalar ch)
    → (elim short [ Some b ↦ Some (record { len = 2; value = Byte b }) | None ↦ short_rest ]) ≡ Some ch → IsLong c d scalar ch
by_short c d scalar short_rest (Some b) ch is other e =
    let two : Character = record { len = 2; value = Byte b } in
    inl (inl (ap (λ (x : Character). x.len) (sym (some_same two ch two e)), escape_some c b is))
by_short c d scalar short_rest None ch is other e = other e

escape_long : (c d : ℕ) (scalar : Option Character) (ch : Character) → escape_of c d scalar ≡ Some ch → IsLong c d scalar ch
escape_long c d scalar ch e =
    let two : Character = record { len = 3; value = Byte (16 * digit_value c + digit_value d) } in
    by_short c d scalar (cond ((c == 117) && (d == 123)) scalar (cond (is_digit c 16 && is_digit d 16) (Some two) None)) (short_escape c) ch refl
    (by_scalar c d scalar ((c == 117) && (d == 123)) (is_digit c 16 && is_digit d 16) two ch (λ h. eqb-true d 123 (and_second (c == 117) _ h)) (λ h. digit_some d (and_second (is_digit c 16) _ h)) refl)
    e

scalar_long_by : (n : ℕ) (x : Bool) (code : ℕ) (ch : Character) → cond x (Some (record { len = n; value = Scalar code })) None ≡ Some ch → (ch.len ≡ n) × (x ≡ true)
scalar_long_by n true code ch e = let it : Character = record { len = n; value = Scalar code } in (ap (λ (x : Character). x.len) (sym (some_same it ch it e)), refl)
scalar_long_by n false code ch e = absurd (cc)

-- a scalar value takes its digits and four bytes, and `}` ends it
scalar_long : (digits : List ℕ) (next : ℕ) (ch : Character) → scalar_of digits next ≡ Some ch → (ch.len ≡ length digits + 4) × (next ≡ 125)
scalar_long digits next ch e =
    let h = scalar_long_by (length digits + 4) (are_digits 16 digits && (next == 125) && is_scalar (number 16 digits)) (number 16 digits) ch e in
    (h.0, eqb-true next 125 (and_second (are_digits 16 digits) _ (and_first _ _ h.1)))

length_range : (text : List ℕ) (a n : ℕ) → a + n ≤ length text → length (slice_range text a (a + n)) ≡ n
length_range text a n le = grind (arith, common_steps)

-- an escape takes some bytes, all in the text
pub escape_within : (text : List ℕ) (a : ℕ) (ch : Character) → escape_at text a ≡ Some ch → (0 < ch.len) × (a + ch.len ≤ length text)
unfolding escape_at
escape_within text a ch e =
    let n : ℕ = digits_at text (a + 3) in
    ⊎_elim
    (⊎_elim
    (λ h. let lt = some_within text (a + 1) (slice_index text (a + 1)) refl h.1 in (omega (arith, h.0), omega (arith, h.0, lt)))
    (λ h. let lt = some_within text (a + 2) (slice_index text (a + 2)) refl h.1 in (omega (arith, h.0), omega (arith, h.0, lt))))
    (λ h.
    let s = scalar_long (slice_range text (a + 3) (a + 3 + n)) (slice_index text (a + 3 + n)) ch h.0 in
    let lt = some_within text (a + 3 + n) 125 s.1 (omega arith) in
    let brace = some_within text (a + 2) 123 h.1 (omega arith) in
    let len : length (slice_range text (a + 3) (a + 3 + n)) ≡ n = length_range text (a + 3) n (omega (arith, lt)) in
    (omega (arith, s.0), omega (arith, s.0, len, lt)))
    (escape_long (slice_index text (a + 1)) (slice_index text (a + 2)) (scalar_of (slice_range text (a + 3) (a + 3 + n)) (slice_index text (a + 3 + n))) ch e)

-- a character that stands for itself

plain_some : (b : ℕ) → is_plain b ≡ true → 0 < b
unfolding is_plain
plain_some b h = ⊎_elim (λ lt. lt) (λ z. let zero_b : b ≡ 0 = omega arith in absurd (both_ways _ refl (ap is_plain (sym zero_b) ∙ h))) (cases_lt 0 b)

pub quote_not_plain : is_plain 34 ≡ false
unfolding is_plain
quote_not_plain = refl

pub backslash_not_plain : is_plain 92 ≡ false
unfolding is_plain
backslash_not_plain = refl

end_not_plain : is_plain 0 ≡ false
unfolding is_plain
end_not_plain = refl

pub plain_character : (text : List ℕ) (a : ℕ) → is_plain (slice_index text a) ≡ true → character_at text a ≡ Some (record { len = 1; value = Byte (slice_index text a) })
plain_character text a h = ap (λ p. cond p (Some (record { len = 1; value = Byte (slice_index text a) })) (cond (slice_index text a == 92) (escape_at text a) None)) h

pub escape_character : (text : List ℕ) (a : ℕ) → slice_index text a ≡ 92 → character_at text a ≡ escape_at text a
escape_character text a h =
    ap (λ p. cond p (Some (record { len = 1; value = Byte (slice_index text a) })) (cond (slice_index text a == 92) (escape_at text a) None)) (ap is_plain h ∙ backslash_not_plain)
    ∙ ap (λ p. cond p (escape_at text a) None) (eq-eqb (slice_index text a) 92 h)

not_eqb : (b n : ℕ) → (b ≡ n → ⊥) → (b == n) ≡ false
not_eqb b n ne = ⊎_elim (λ t. absurd (ne (eqb-true b n t))) (λ f. f) (cases_Bool (b == n))

no_character : (text : List ℕ) (a : ℕ) → is_plain (slice_index text a) ≡ false → (slice_index text a ≡ 92 → ⊥) → character_at text a ≡ None
no_character text a h ne =
    ap (λ p. cond p (Some (record { len = 1; value = Byte (slice_index text a) })) (cond (slice_index text a == 92) (escape_at text a) None)) h
    ∙ ap (λ p. cond p (escape_at text a) None) (not_eqb (slice_index text a) 92 ne)

-- a character takes some bytes, all in the text
pub character_within : (text : List ℕ) (a : ℕ) (ch : Character) → character_at text a ≡ Some ch → (0 < ch.len) × (a + ch.len ≤ length text)
character_within text a ch e =
    ⊎_elim
    (λ plain.
    let one : Character = record { len = 1; value = Byte (slice_index text a) } in
    let len : 1 ≡ ch.len = ap (λ (x : Character). x.len) (some_same one ch one (sym (plain_character text a plain) ∙ e)) in
    let lt = some_within text a (slice_index text a) refl (plain_some _ plain) in
    (omega (arith, len), omega (arith, len, lt)))
    (λ other. ⊎_elim
    (λ is. escape_within text a ch (sym (escape_character text a is) ∙ e))
    (λ ne. let none_is : None ≡ Some ch = sym (no_character text a other ne) ∙ e in absurd (cc))
    (cases_eq (slice_index text a) 92))
    (cases_Bool (is_plain (slice_index text a)))

pub characters_on : (text : List ℕ) → GoesOn (IsCharacter text) (length text)
characters_on text a b s = let w = character_within text a s.0 s.1 in let e : b ≡ a + s.0.len = s.2 in (omega (arith, w.0, e), omega (arith, w.1, e))

characters_only : (text : List ℕ) → IsOnly (IsCharacter text)
characters_only text a b c s t = s.2 ∙ ap (λ (x : Character). a + x.len) (some_same s.0 t.0 s.0 (sym s.1 ∙ t.1)) ∙ sym t.2

last_of_none : (text : List ℕ) (a : ℕ) → character_at text a ≡ None → IsLast (IsCharacter text) a
last_of_none text a e b s = let none_is : None ≡ Some s.0 = sym e ∙ s.1 in absurd (cc)

quote_last : (text : List ℕ) (a : ℕ) → slice_index text a ≡ 34 → IsLast (IsCharacter text) a
quote_last text a q = last_of_none text a (no_character text a (ap is_plain q ∙ quote_not_plain) (λ e. absurd (omega (arith, q, e))))

past_zero : (text : List ℕ) (a : ℕ) → length text ≤ a → slice_index text a ≡ 0
past_zero text a past = ⊎_elim (λ some. let lt = some_within text a (slice_index text a) refl some in absurd (omega (arith, lt))) (λ z. omega arith) (cases_lt 0 (slice_index text a))

broken_last : (text : List ℕ) (a m : ℕ) (f : LexFault) (p : ℕ) → IsBroken text a m f p → IsLast (IsCharacter text) m
broken_last text a m f p (unclosed _ e _) =
    let z = past_zero text m (omega (arith, e)) in last_of_none text m (no_character text m (ap is_plain z ∙ end_not_plain) (λ h. absurd (omega (arith, z, h))))
broken_last text a m f p (bad_escape _ is none_there _) = last_of_none text m (escape_character text m is ∙ none_there)
broken_last text a m f p (bad_char _ _ other ne _ _) = last_of_none text m (no_character text m other ne)

broken_no_quote : (text : List ℕ) (a m : ℕ) (f : LexFault) (p : ℕ) → IsBroken text a m f p → slice_index text m ≡ 34 → ⊥
broken_no_quote text a m f p (unclosed _ e _) q = let z = past_zero text m (omega (arith, e)) in absurd (omega (arith, z, q))
broken_no_quote text a m f p (bad_escape _ is _ _) q = absurd (omega (arith, is, q))
broken_no_quote text a m f p (bad_char _ _ _ _ ne _) q = absurd (ne q)

-- a string that begins at a place ends at one place, or has one fault

pub string_same : (text : List ℕ) (a b c : ℕ) → IsString text a b → IsString text a c → b ≡ c
string_same text a b c s t =
    s.end ∙ ap (λ n. n + 1) (along_same (IsCharacter text) (characters_only text) (a + 1) s.close t.close s.characters t.characters (quote_last text s.close s.closed) (quote_last text t.close t.closed)) ∙ sym t.end

pub string_not_broken : (text : List ℕ) (a b : ℕ) (f : LexFault) (p : ℕ) → IsString text a b → IsBrokenString text a f p → ⊥
string_not_broken text a b f p s t =
    let e = along_same (IsCharacter text) (characters_only text) (a + 1) s.close t.behind s.characters t.characters (quote_last text s.close s.closed) (broken_last text a t.behind f p t.broken) in
    broken_no_quote text a t.behind f p t.broken (subst (λ n. slice_index text n ≡ 34) e s.closed)

-- a fault and its place
pub record SameFault (f g : LexFault) (p q : ℕ) : Type 0 where
  pub fault : f ≡ g
  pub place : p ≡ q

broken_at_same : (text : List ℕ) (a m : ℕ) (f g : LexFault) (p q : ℕ) → IsBroken text a m f p → IsBroken text a m g q → SameFault f g p q
broken_at_same text a m f g p q (unclosed e _ h) (unclosed i _ j) = record { fault = e ∙ sym i; place = h ∙ sym j }
broken_at_same text a m f g p q (unclosed _ e _) (bad_escape _ is _ _) = let z = past_zero text m (omega (arith, e)) in absurd (omega (arith, z, is))
broken_at_same text a m f g p q (unclosed _ e _) (bad_char _ lt _ _ _ _) = absurd (omega (arith, e))
broken_at_same text a m f g p q (bad_escape _ is _ _) (unclosed _ e _) = let z = past_zero text m (omega (arith, e)) in absurd (omega (arith, z, is))
broken_at_same text a m f g p q (bad_escape e _ _ h) (bad_escape i _ _ j) = record { fault = e ∙ sym i; place = h ∙ sym j }
broken_at_same text a m f g p q (bad_escape _ is _ _) (bad_char _ _ _ ne _ _) = absurd (ne is)
broken_at_same text a m f g p q (bad_char _ lt _ _ _ _) (unclosed _ e _) = absurd (omega (arith, e))
broken_at_same text a m f g p q (bad_char _ _ _ ne _ _) (bad_escape _ is _ _) = absurd (ne is)
broken_at_same text a m f g p q (bad_char e _ _ _ _ h) (bad_char i _ _ _ _ j) = record { fault = e ∙ sym i; place = h ∙ sym j }

pub broken_string_same : (text : List ℕ) (a : ℕ) (f g : LexFault) (p q : ℕ) → IsBrokenString text a f p → IsBrokenString text a g q → SameFault f g p q
broken_string_same text a f g p q s t =
    let e = along_same (IsCharacter text) (characters_only text) (a + 1) s.behind t.behind s.characters t.characters (broken_last text a s.behind f p s.broken) (broken_last text a t.behind g q t.broken) in
    broken_at_same text a t.behind f g p q (subst (λ n. IsBroken text a n f p) e s.broken) t.broken

pub string_within : (text : List ℕ) (a b : ℕ) → IsString text a b → (a + 1 < b) × (b ≤ length text)
string_within text a b s =
    let le = along_le (IsCharacter text) (length text) (characters_on text) (a + 1) s.close s.characters in
    let lt = some_within text s.close 34 s.closed (omega arith) in
    let e : b ≡ s.close + 1 = s.end in
    (omega (arith, le, e), omega (arith, lt, e))

-- what stands where the characters of a string end

next_by : (text : List ℕ) (a : ℕ) (o : Option Character) → character_at text a ≡ o → ((b : ℕ) × IsCharacter text a b) ⊎ IsLast (IsCharacter text) a
next_by text a (Some ch) e = inl (a + ch.len, (ch, e, refl))
next_by text a None e = inr (last_of_none text a e)

next_character : (text : List ℕ) (a : ℕ) → ((b : ℕ) × IsCharacter text a b) ⊎ IsLast (IsCharacter text) a
next_character text a = next_by text a (character_at text a) refl

abbrev OrBroken : List ℕ → ℕ → Type 0
OrBroken text a = ((b : ℕ) × IsString text a b) ⊎ ((f : LexFault) × (p : ℕ) × IsBrokenString text a f p)

escape_none : (text : List ℕ) (m : ℕ) → slice_index text m ≡ 92 → IsLast (IsCharacter text) m → (o : Option Character) → escape_at text m ≡ o → escape_at text m ≡ None
escape_none text m is last (Some ch) e = absurd (last (m + ch.len) (ch, escape_character text m is ∙ e, refl))
escape_none text m is last None e = e

plain_false : (text : List ℕ) (m : ℕ) → IsLast (IsCharacter text) m → is_plain (slice_index text m) ≡ false
plain_false text m last =
    ⊎_elim
    (λ is. let one : Character = record { len = 1; value = Byte (slice_index text m) } in absurd (last (m + 1) (one, plain_character text m is, refl)))
    (λ is. is)
    (cases_Bool (is_plain (slice_index text m)))

broken_by : (text : List ℕ) (a m : ℕ) → slice_index text a ≡ 34 → Along (IsCharacter text) (a + 1) m → IsLast (IsCharacter text) m → m ≤ length text → (slice_index text m ≡ 34 → ⊥) → (f : LexFault) × (p : ℕ) × IsBrokenString text a f p
broken_by text a m q along last within ne =
    ⊎_elim
    (λ lt. ⊎_elim
    (λ is. (BadEscape, m, record { opened = q; behind = m; characters = along; broken = bad_escape refl is (escape_none text m is last (escape_at text m) refl) refl }))
    (λ other. (BadStringChar, m, record { opened = q; behind = m; characters = along; broken = bad_char refl lt (plain_false text m last) other ne refl }))
    (cases_eq (slice_index text m) 92))
    (λ past. (UnclosedString, a, record { opened = q; behind = m; characters = along; broken = unclosed refl (omega arith) refl }))
    (cases_lt m (length text))

pub string_or_broken : (text : List ℕ) (a : ℕ) → slice_index text a ≡ 34 → OrBroken text a
string_or_broken text a q =
    let r = along_end (IsCharacter text) (length text) (characters_on text) (next_character text) (length text) (a + 1) (omega arith) in
    let lt = some_within text a 34 q (omega arith) in
    let within = along_within (IsCharacter text) (length text) (characters_on text) (a + 1) r.0 (omega (arith, lt)) r.1 in
    ⊎_elim
    (λ closed. inl (r.0 + 1, record { opened = q; close = r.0; characters = r.1; closed = closed; end = refl }))
    (λ open_there. inr (broken_by text a r.0 q r.1 r.2 within open_there))
    (cases_eq (slice_index text r.0) 34)

-- one character more
pub plain_more : (text : List ℕ) (a k : ℕ) → Along (IsCharacter text) a k → is_plain (slice_index text k) ≡ true → Along (IsCharacter text) a (k + 1)
plain_more text a k along plain =
    let one : Character = record { len = 1; value = Byte (slice_index text k) } in
    along_more (IsCharacter text) a k (k + 1) along (one, plain_character text k plain, refl)
