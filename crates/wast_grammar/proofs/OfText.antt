-- What a text spells has names of the text alone, and numbers below 2^32.
use Rattle.std.proofs.Common.{◌≡◌, ℕ, zero, suc, ◌+◌, List, [], ◌∷◌, true, false, cond, Option, Some, None, refl, nat_eq}
use Rattle.std.proofs.Common.{◌<◌, ◌^◌, ◌-◌, ◌%◌, ◌||◌, arith, subst, sym, not, inl, inr, slice_get, Bool, ◌&&◌, nat_lt, nat_le}
use Rattle.std.proofs.lemmas.Bool.{ltb-true, eqb-true}
use Rattle.std.specs.Prelude.{⊤}
use Rattle.wast_tokens.specs.declared.token.TokenKind.{TokenKind}
use Rattle.wast_tokens.specs.declared.token.TokenKind.TheVariants as kinds
use Rattle.wast_tokens.specs.Values.{is_negative}
use Rattle.wast_grammar.specs.Tokens.{Tok, is_numeral, number_of, is_constant, constant_of}
use Rattle.wast_grammar.specs.Classes.{Class, keyword, numeral, same, among, integers, class_by, class_of}
use Rattle.std.specs.Option.{option_or}
use Rattle.wast_grammar.specs.Stand.{Stand, class_at, bytes_at, bytes_of}
use Rattle.wast_grammar.specs.Grammar.{Grammar, Row, nothing, before, after, leaf, special, words, placed, pair, either, many, by_test, many_by, case, no_case, row, checked, ends, skipping, made, folded, Value, none, num, both, left, right, part_at, numbered, Leaf, class_of_leaf, number_in, is_special, a_number, a_numeral, a_wide, an_id, a_text, a_binary, value_at, Special, constant, a_word, any_of, any_inner, special_value, Making, dropped, given_up, one_choice, any_choice, by_number, given_up_of, numbered_in, numbered_from, chosen_of, made_of}
use Rattle.wast_grammar.specs.Rows.{text_row}
use Rattle.wast_grammar.specs.Spells.{Spells}
use Rattle.wast_grammar.specs.Spells.Spells.{blank, token, behind, kept, found, meant, located, paired, one, other, no_more, one_more, one_by, other_by, none_by, more_by, this_case, next_case, by_row, check, ended, makes, skipped, folds_item, folds_into, folds_out, folds_other, folds_none}
use Rattle.wast_grammar.specs.OfText.{IsOfText, are_short, is_short, is_fresh}
use Rattle.wast_grammar.proofs.Moves.{and_true, chosen}
use Rattle.wast_grammar.proofs.Same.{same_is}
use Rattle.wast_grammar.proofs.NamedRows.{named_row}

abbrev AreOfText : List Value → Type 0
AreOfText [] = ⊤
AreOfText (v ∷ vs) = IsOfText v × AreOfText vs

-- the items of the lists that are begun in it have names of the text alone
abbrev Given : Grammar → Type 0
Given nothing = ⊤
Given (before c g) = Given g
Given (after g c) = Given g
Given (leaf k) = ⊤
Given (special k) = is_short k ≡ true
Given (words ws) = are_short ws ≡ true
Given (placed g) = Given g
Given (pair a b) = Given a × Given b
Given (either t a b) = Given a × Given b
Given (many t a) = Given a
Given (by_test t a b) = Given a × Given b
Given (many_by t a) = Given a
Given (case n t a b) = Given a × Given b
Given no_case = ⊤
Given (row r) = ⊤
Given (checked g) = Given g
Given (ends cs g) = Given g
Given (skipping g) = Given g
Given (made m g) = Given g
Given (folded us cs g h) = AreOfText us × Given g × Given h

fresh_given : (g : Grammar) → is_fresh g ≡ true → Given g
fresh_given nothing h = tt
fresh_given (before c g) h = fresh_given g h
fresh_given (after g c) h = fresh_given g h
fresh_given (leaf k) h = tt
fresh_given (special k) h = h
fresh_given (words ws) h = h
fresh_given (placed g) h = fresh_given g h
fresh_given (pair a b) h = let x = and_true (is_fresh a) _ h in (fresh_given a x.0, fresh_given b x.1)
fresh_given (either t a b) h = let x = and_true (is_fresh a) _ h in (fresh_given a x.0, fresh_given b x.1)
fresh_given (many t a) h = fresh_given a h
fresh_given (by_test t a b) h = let x = and_true (is_fresh a) _ h in (fresh_given a x.0, fresh_given b x.1)
fresh_given (many_by t a) h = fresh_given a h
fresh_given (case n t a b) h = let x = and_true (is_fresh a) _ h in (fresh_given a x.0, fresh_given b x.1)
fresh_given no_case h = tt
fresh_given (row r) h = tt
fresh_given (checked g) h = fresh_given g h
fresh_given (ends cs g) h = fresh_given g h
fresh_given (skipping g) h = fresh_given g h
fresh_given (made m g) h = fresh_given g h
fresh_given (folded [] cs g k) h = let x = and_true (is_fresh g) _ h in (tt, fresh_given g x.0, fresh_given k x.1)
fresh_given (folded (u ∷ us) cs g k) h = absurd (cc)

fresh_row : (r : Row) → is_fresh (text_row r) ≡ true
fresh_row r = (named_row r).3

-- a numeral is below 2 ^ 32
numeral_by : (kind : TokenKind) (bytes : List ℕ) → class_by kind bytes ≡ numeral → number_of bytes < 2 ^ 32
numeral_by kinds.Integer bytes e =
    let t : is_numeral bytes ≡ true = cc in
    ltb-true _ _ (and_true _ _ t).1
numeral_by _ bytes e = absurd (cc)

numeral_of : (o : Option Tok) → class_of o ≡ numeral → number_of (bytes_of o) < 2 ^ 32
numeral_of None e = absurd (cc)
numeral_of (Some t) e = numeral_by t.kind t.spelled e

-- so is the number beside a keyword
word_short : (ws : List (List ℕ × ℕ)) (c : Class) (n : ℕ) → are_short ws ≡ true → number_in ws c ≡ Some n → n < 2 ^ 32
word_short [] c n h e = absurd (cc)
word_short (w ∷ ws) c n h e =
    let y = and_true (nat_lt w.1 (2 ^ 32)) _ h in
    elim (chosen (same c (keyword w.0)) _ _ _ e) [
      | inl p ↦ subst (λ m. m < 2 ^ 32) (let q = p.1 in cc) (ltb-true _ _ y.0)
      | inr p ↦ word_short ws c n y.1 p.1
    ]

kept_of_text : (k : Leaf) (s : Stand) → same (class_at s) (class_of_leaf k) ≡ true → IsOfText (value_at k s)
kept_of_text a_number s h = numeral_of (slice_get s.text.tokens s.at) (same_is _ _ h)
kept_of_text a_numeral s h = numeral_of (slice_get s.text.tokens s.at) (same_is _ _ h)
kept_of_text a_wide s h = tt
kept_of_text an_id s h = refl
kept_of_text a_text s h = tt
kept_of_text a_binary s h = tt

small_either : (n : ℕ) → (nat_lt n (2 ^ 32) || nat_lt n (2 ^ 31)) ≡ true → n < 2 ^ 32
small_either n h = go (nat_lt n (2 ^ 32)) refl h
  where
    go : (b : Bool) → nat_lt n (2 ^ 32) ≡ b → (b || nat_lt n (2 ^ 31)) ≡ true → n < 2 ^ 32
    go true e i = ltb-true _ _ e
    go false e i = omega (arith, ltb-true n (2 ^ 31) i)

-- an integer of 32 bits
unsigned_short : (bytes : List ℕ) (b : Bool) → is_negative bytes ≡ b → is_constant 32 bytes ≡ true → cond b ((2 ^ 32 - number_of bytes) % 2 ^ 32) (number_of bytes) < 2 ^ 32
unsigned_short bytes true n h = omega arith
unsigned_short bytes false n h =
    small_either (number_of bytes)
    (subst (λ b. ((not b && nat_lt (number_of bytes) (2 ^ 32)) || cond b (nat_le (number_of bytes) (2 ^ (32 - 1))) (nat_lt (number_of bytes) (2 ^ (32 - 1)))) ≡ true) n h)

-- an integer of so many bits
constant_of_text : (k : ℕ) (s : Stand) (b : Bool) → nat_eq k 32 ≡ b → is_special (constant k) s ≡ true → IsOfText (cond b (num (constant_of k (bytes_at s))) (numbered (constant_of k (bytes_at s)) none))
constant_of_text k s false i h = tt
constant_of_text k s true i h =
    let e : k ≡ 32 = eqb-true k 32 i in
    subst (λ n. constant_of n (bytes_at s) < 2 ^ 32) (sym e) (unsigned_short (bytes_at s) (is_negative (bytes_at s)) refl (subst (λ n. is_constant n (bytes_at s) ≡ true) e (and_true (among integers (class_at s)) _ h).1))

special_of_text : (k : Special) (s : Stand) → is_short k ≡ true → is_special k s ≡ true → IsOfText (special_value k s)
special_of_text (constant k) s i h = constant_of_text k s (nat_eq k 32) refl h
special_of_text (a_word ws) s i h = tt
special_of_text (any_of cs) s i h = tt
special_of_text any_inner s i h = tt

given_up_of_text : (u v : Value) → IsOfText u → IsOfText v → IsOfText (given_up_of u v)
given_up_of_text u (left v) h k = (h, k)
given_up_of_text u _ h k = k

abbrev ChosenOfText : Option Value → Type 0
ChosenOfText None = ⊤
ChosenOfText (Some v) = IsOfText v

first_of_text : (a b : Option Value) → ChosenOfText a → ChosenOfText b → ChosenOfText (option_or a b)
first_of_text None b h k = k
first_of_text (Some v) b h k = h

numbered_of_text : (n : ℕ) (v : Value) → IsOfText v → ChosenOfText (numbered_in n v)
numbered_of_text n (numbered m v) h = elim (nat_eq m n) as (λ c. ChosenOfText (cond c (Some v) None)) [ true ↦ h | false ↦ tt ]
numbered_of_text n (both u v) h = first_of_text (numbered_in n u) (numbered_in n v) (numbered_of_text n u h.0) (numbered_of_text n v h.1)
numbered_of_text n (left v) h = numbered_of_text n v h
numbered_of_text n (right v) h = numbered_of_text n v h
numbered_of_text n (part_at o v) h = numbered_of_text n v h
numbered_of_text n _ h = tt

chosen_of_text : (o : Option Value) → ChosenOfText o → IsOfText (chosen_of o)
chosen_of_text None h = tt
chosen_of_text (Some v) h = h

all_numbered : (k n : ℕ) (v : Value) → IsOfText v → IsOfText (numbered_from k n v)
all_numbered zero n v h = tt
all_numbered (suc k) n v h = (chosen_of_text (numbered_in n v) (numbered_of_text n v h), all_numbered k (n + 1) v h)

made_of_text : (m : Making) (v : Value) → IsOfText v → IsOfText (made_of m v)
made_of_text dropped v h = tt
made_of_text given_up (both u v) h = given_up_of_text u v h.0 h.1
made_of_text given_up _ h = h
made_of_text one_choice (left v) h = h
made_of_text one_choice _ h = h
made_of_text any_choice (left v) h = h
made_of_text any_choice _ h = h
made_of_text (by_number k) v h = all_numbered k 0 v h

spelled_of_text : {g : Grammar} {s t : Stand} {v : Value} → Spells g s t v → Given g → IsOfText v
spelled_of_text blank i = tt
spelled_of_text (token h d) i = spelled_of_text d i
spelled_of_text (behind d h) i = spelled_of_text d i
spelled_of_text {s = s} (kept {k = k} h) i = kept_of_text k s h
spelled_of_text {s = s} (found {k = k} h) i = special_of_text k s i h
spelled_of_text {s = s} (meant {ws = ws} {n = n} h) i = word_short ws (class_at s) n i h
spelled_of_text (located d) i = spelled_of_text d i
spelled_of_text (paired d e) i = (spelled_of_text d i.0, spelled_of_text e i.1)
spelled_of_text (one d) i = spelled_of_text d i.0
spelled_of_text (other d) i = spelled_of_text d i.1
spelled_of_text no_more i = tt
spelled_of_text (one_more d e) i = (spelled_of_text d i, spelled_of_text e i)
spelled_of_text (one_by h d) i = spelled_of_text d i.0
spelled_of_text (other_by h d) i = spelled_of_text d i.1
spelled_of_text (none_by h) i = tt
spelled_of_text (more_by h d e) i = (spelled_of_text d i, spelled_of_text e i)
spelled_of_text (this_case d) i = spelled_of_text d i.0
spelled_of_text (next_case d) i = spelled_of_text d i.1
spelled_of_text (by_row {w = w} d) i = spelled_of_text d (fresh_given (text_row w) (fresh_row w))
spelled_of_text (check d) i = spelled_of_text d i
spelled_of_text (ended d) i = spelled_of_text d i
spelled_of_text (folds_item e d f) i = (spelled_of_text d i.1, spelled_of_text f i)
spelled_of_text (folds_into e d f) i = spelled_of_text f ((spelled_of_text d i.1, i.0), i.1, i.2)
spelled_of_text (folds_out e f) i = (i.0.0, spelled_of_text f (i.0.1, i.1, i.2))
spelled_of_text (folds_other e d h f) i = (spelled_of_text d i.2, spelled_of_text f i)
spelled_of_text folds_none i = tt
spelled_of_text (makes {m = m} {v = v} d h) i = made_of_text m v (spelled_of_text d i)
spelled_of_text (skipped d e) i = spelled_of_text d i

pub names_of_text : (g : Grammar) (s t : Stand) (v : Value) → is_fresh g ≡ true → Spells g s t v → IsOfText v
names_of_text g s t v h d = spelled_of_text d (fresh_given g h)
