-- Tests of tokens by the numbers of their classes.
use Rattle.std.proofs.Common.{◌≡◌, ◌+◌, ◌-◌, ℕ, List, [], ◌∷◌, ◌++◌, length, take, drop, map, get_or, Bool, true, false, cond, ◌&&◌, refl, ap, sym, ◌∙◌, arith, Bor, Option, Some, None, slice_get, ◌<◌, ◌≤◌}
use Rattle.std.proofs.Math.Seq.{drop-cons}
use Rattle.std.proofs.lemmas.Option.{slice_get_past}
use Rattle.wast_tokens.specs.declared.token.TokenKind.{TokenKind}
use Rattle.wast_tokens.specs.declared.token.TokenKind.TheVariants as kinds
use Rattle.wast_grammar.specs.Tokens.{Tok}
use Rattle.wast_grammar.specs.Classes.{Class, class_by, class_of, finish, opening, among, same}
use Rattle.wast_grammar.specs.Stand.{Stand, class_at, class_after}
use Rattle.wast_grammar.specs.Grammar.{holds, fits}
use Rattle.token_codes.specs.Numbers.{number, classes, range, between}
use Rattle.token_codes.proofs.Tables.{among_range}
use Rattle.text_table.specs.Code.{one_class, classes_of, both_of, lent_classes}

pub range_test : (a b n : ℕ) (c : Class) → n ≡ number c → between a n b ≡ among (range a b) c
range_test a b n c e = ap (λ m. between a m b) e ∙ sym (among_range a b c)

pub cond_id : (b : Bool) → b ≡ cond b true false
cond_id true = refl
cond_id false = refl

pub opening_test : (n : ℕ) (c : Class) → n ≡ number c → between 2 n 2 ≡ same c opening
opening_test n c e = range_test 2 2 n c e ∙ sym (cond_id (same c opening))

pub both_are : (a b u v : Bool) → a ≡ u → b ≡ v → (a && b) ≡ (u && v)
both_are a b u v e f = ap (λ x. x && b) e ∙ ap (λ x. u && x) f

both_take : (cs ds : List Class) (s : Stand) → (among (take 1 cs) (class_at s) && among ds (class_after s)) ≡ holds (both_of (take 1 cs) ds) s
both_take [] ds s = refl
both_take (c ∷ cs) ds s = ap (λ b. b && among ds (class_after s)) (sym (cond_id (same (class_at s) c)))

pub one_is : (a : ℕ) → one_class a ≡ take 1 (drop a classes)
one_is a = let e : a + 1 - a ≡ 1 = omega arith in ap (λ k. take k (drop a classes)) e

pub both_test : (a b n m : ℕ) (s : Stand) → n ≡ number (class_at s) → m ≡ number (class_after s) → (between a n a && between b m b) ≡ holds (both_of (one_class a) (one_class b)) s
both_test a b n m s e f =
    both_are (between a n a) (between b m b) (among (one_class a) (class_at s)) (among (one_class b) (class_after s)) (range_test a a n (class_at s) e) (range_test b b m (class_after s) f)
    ∙ (ap (λ cs. among cs (class_at s) && among (one_class b) (class_after s)) (one_is a)
    ∙ (both_take (drop a classes) (one_class b) s ∙ ap (λ cs. holds (both_of cs (one_class b)) s) (sym (one_is a))))

-- ---- lists of classes

joined_so : (h b : Bool) (d : Class) (cs ds : List Class) (c : Class) → same c d ≡ h → cond (same c d) true (among cs c) ≡ b → (among cs c ≡ b → among (cs ++ ds) c ≡ cond b true (among ds c))
    → cond (same c d) true (among (cs ++ ds) c) ≡ cond b true (among ds c)
joined_so true true d cs ds c h e k = ap (λ x. cond x true (among (cs ++ ds) c)) h
joined_so true false d cs ds c h e k = let p : true ≡ false = sym (ap (λ x. cond x true (among cs c)) h) ∙ e in absurd (cc)
joined_so false b d cs ds c h e k = ap (λ x. cond x true (among (cs ++ ds) c)) h ∙ k (sym (ap (λ x. cond x true (among cs c)) h) ∙ e)

among_joined : (cs ds : List Class) (c : Class) (b : Bool) → among cs c ≡ b → among (cs ++ ds) c ≡ cond b true (among ds c)
among_joined [] ds c true e = absurd (cc)
among_joined [] ds c false e = refl
among_joined (d ∷ cs) ds c b e = joined_so (same c d) b d cs ds c refl e (among_joined cs ds c b)

-- what a list of numbers comes to from a place on, by whether the number there is that of the class
pub among_from : (ns : List ℕ) (i n : ℕ) (c : Class) (b : Bool) → i < length ns → n ≡ number c → between (get_or ns i 0) n (get_or ns i 0) ≡ b
    → among (classes_of (drop i ns)) c ≡ cond b true (among (classes_of (drop (i + 1) ns)) c)
among_from ns i n c b l e h =
    let p : ℕ.suc i ≡ i + 1 = omega arith in
    ap (λ xs. among (classes_of xs) c) (drop-cons ns i 0 l)
    ∙ (among_joined (one_class (get_or ns i 0)) (classes_of (drop (ℕ.suc i) ns)) c b (sym (range_test (get_or ns i 0) (get_or ns i 0) n c e) ∙ h)
    ∙ ap (λ k. cond b true (among (classes_of (drop k ns)) c)) p)

-- ---- several tokens

no_token : (k : TokenKind) (bytes : List ℕ) → same (class_by k bytes) finish ≡ true → ⊥
no_token kinds.LParen bytes h = absurd (cc)
no_token _ bytes h = absurd (cc)

no_more : (o : Option Tok) → same (class_of o) finish ≡ true → o ≡ None
no_more None h = refl
no_more (Some t) h = absurd (no_token t.kind t.spelled h)

ends : (ts : List Tok) (i : ℕ) → slice_get ts i ≡ None → length ts ≤ i
ends [] i h = omega arith
ends (t ∷ ts) ℕ.zero h = absurd (cc)
ends (t ∷ ts) (ℕ.suc i) h = omega (arith, ends ts i h)

fits_none : (ps : List (List Class)) (ts : List Tok) (i : ℕ) → length ts ≤ i → fits ps ts i ≡ fits ps ts (i + 1)
fits_none [] ts i h = refl
fits_none (cs ∷ ps) ts i h =
    let p = slice_get_past ts i h in
    let q = slice_get_past ts (i + 1) (omega (arith, h)) in
    ap (λ o. among cs (class_of o) && fits ps ts (i + 1)) (p ∙ sym q) ∙ ap (λ b. among cs (class_of (slice_get ts (i + 1))) && b) (fits_none ps ts (i + 1) (omega (arith, h)))

-- at the end of a text what stands behind is the same
pub fits_at_end : (ps : List (List Class)) (ts : List Tok) (i : ℕ) → same (class_of (slice_get ts i)) finish ≡ true → fits ps ts i ≡ fits ps ts (i + 1)
fits_at_end ps ts i h = fits_none ps ts i (ends ts i (no_more (slice_get ts i) h))

-- what a list of classes comes to from a place on, by whether the token there is among the first
pub fits_from : (xs : List (Bor (List ℕ))) (i : ℕ) (d : Bor (List ℕ)) (ts : List Tok) (at : ℕ) (b : Bool) → i < length xs → among (lent_classes (get_or xs i d)) (class_of (slice_get ts at)) ≡ b
    → fits (map lent_classes (drop i xs)) ts at ≡ (b && fits (map lent_classes (drop (i + 1) xs)) ts (at + 1))
fits_from xs i d ts at b l h =
    let p : ℕ.suc i ≡ i + 1 = omega arith in
    ap (λ ys. fits (map lent_classes ys) ts at) (drop-cons xs i d l)
    ∙ (ap (λ x. x && fits (map lent_classes (drop (ℕ.suc i) xs)) ts (at + 1)) h
    ∙ ap (λ k. b && fits (map lent_classes (drop k xs)) ts (at + 1)) p)

-- ---- a form of which the next two tokens are told first

pub three_are : (a b x h : Bool) → (a && b) ≡ h → (a && (b && x)) ≡ (h && x)
three_are true b x h e = ap (λ y. y && x) e
three_are false b x h e = ap (λ y. y && x) e

second_of : (a b : Bool) → (a && b) ≡ true → b ≡ true
second_of true b e = e
second_of false b e = absurd (cc)

-- two places where the same forms fit stand before places of which this is so, where the token at one is among some classes
two_behind : (ds : List Class) (ps : List (List Class)) (ts : List Tok) (i j : ℕ) → ((qs : List (List Class)) → fits qs ts i ≡ fits qs ts j) → among ds (class_of (slice_get ts j)) ≡ true → fits ps ts (i + 1) ≡ fits ps ts (j + 1)
two_behind ds ps ts i j f h =
    let x = among ds (class_of (slice_get ts i)) in
    let p : x ≡ true = right_one x ∙ (f (ds ∷ []) ∙ ap (λ b. b && true) h) in
    sym (ap (λ b. b && fits ps ts (i + 1)) p) ∙ (f (ds ∷ ps) ∙ ap (λ b. b && fits ps ts (j + 1)) h)
  where
    right_one : (b : Bool) → b ≡ (b && true)
    right_one true = refl
    right_one false = refl

pub form_told : (cs ds : List Class) (ps : List (List Class)) (u v w : Stand) (r : Bool)
    → v.text ≡ u.text → ((qs : List (List Class)) → fits qs u.text.tokens v.at ≡ fits qs u.text.tokens (u.at + 1))
    → w.text ≡ v.text → ((qs : List (List Class)) → fits qs v.text.tokens w.at ≡ fits qs v.text.tokens (v.at + 1))
    → r ≡ fits ps w.text.tokens w.at → (among cs (class_at u) && among ds (class_after u)) ≡ true → r ≡ fits (cs ∷ ds ∷ ps) u.text.tokens u.at
form_told cs ds ps u v w r e f g h k l =
    k ∙ (ap (λ t. fits ps t.tokens w.at) g ∙ (h ps ∙ (ap (λ t. fits ps t.tokens (v.at + 1)) e
    ∙ (two_behind ds ps u.text.tokens v.at (u.at + 1) f (second_of (among cs (class_at u)) (among ds (class_after u)) l)
    ∙ sym (three_are (among cs (class_at u)) (among ds (class_after u)) (fits ps u.text.tokens (u.at + 1 + 1)) true l)))))
