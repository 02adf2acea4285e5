-- How much fuel a reading has doesn't matter: reading unfolds.
use Rattle.std.proofs.Common.{◌≡◌, ℕ, zero, suc, ◌+◌, ◌*◌, ◌≤◌, ◌<◌, Bool, true, false, cond, ◌&&◌, ◌||◌, min, List, [], ◌∷◌, ap, arith, refl, ◌∙◌, nat_lt}
use Rattle.wast_grammar.specs.Classes.{Class, opening, closing, same, among}
use Rattle.wast_grammar.specs.Stand.{Stand, class_at, moved}
use Rattle.wast_grammar.specs.Grammar.{none, both, Grammar, nothing, before, after, leaf, special, words, placed, pair, either, many, by_test, many_by, case, no_case, row, checked, ends, skipping, made, folded, group_ends, Turn, an_item, into, out, finished, otherwise, turn, holds, Row, Val, Value}
use Rattle.wast_grammar.specs.Rows.{text_row, val}
use Rattle.wast_grammar.specs.Read.{Outcome, reads, fault, deep, andthen, by_turn, listed, fold_out, fold_end, step, open_at, left_of, fueled, again, read}
use Rattle.wast_grammar.specs.Shape.{consumes, guarded, is_token, sound, short}
use Rattle.wast_grammar.proofs.Moves.{and_true, sound_case, Moves, step_moves, sound_row, Ahead, one, further, turn_into, turn_out, sound_fold}
use Rattle.wast_grammar.proofs.NamedRows.{named_row}

-- no row begins with a row
guarded_row : (r : Row) → guarded (text_row r) ≡ true
guarded_row r = (named_row r).2

-- so much fuel is enough
abbrev pub need : Grammar → Stand → ℕ
need g s = 2 * left_of s + cond (guarded g) 1 2

-- the two agree where so much fuel is enough
abbrev pub Alike : (Grammar → Stand → Outcome) → (Grammar → Stand → Outcome) → ℕ → Type 0
Alike f h k = (g : Grammar) (s : Stand) → sound g ≡ true → need g s ≤ k → f g s ≡ h g s

andthen_alike : (o p : Outcome) (j k : Value → Stand → Outcome) → o ≡ p → ((u : Value) (r : Stand) → o ≡ reads u r → j u r ≡ k u r) → andthen o j ≡ andthen p k
andthen_alike (reads u r) p j k e h = rw (← e) (h u r refl)
andthen_alike (fault r) p j k e h = rw (← e) refl
andthen_alike (deep r) p j k e h = rw (← e) refl

cond_alike : (b : Bool) (x y u v : Outcome) → (b ≡ true → x ≡ u) → (b ≡ false → y ≡ v) → cond b x y ≡ cond b u v
cond_alike true x y u v h k = h refl
cond_alike false x y u v h k = k refl

two : (b : Bool) (n k : ℕ) → n + 2 ≤ k → n + cond b 1 2 ≤ k
two true n k h = omega arith
two false n k h = omega arith

one_or_two : (b : Bool) (n k : ℕ) → n + cond b 1 2 ≤ k → n + 1 ≤ k
one_or_two true n k h = omega arith
one_or_two false n k h = omega arith

by_turn_alike : (x : Turn) {a b c d e a' b' c' d' e' : Outcome} → (x ≡ an_item → a ≡ a') → (x ≡ into → b ≡ b') → (x ≡ out → c ≡ c') → (x ≡ finished → d ≡ d') → (x ≡ otherwise → e ≡ e')
    → by_turn x a b c d e ≡ by_turn x a' b' c' d' e'
by_turn_alike an_item p q r s t = p refl
by_turn_alike into p q r s t = q refl
by_turn_alike out p q r s t = r refl
by_turn_alike finished p q r s t = s refl
by_turn_alike otherwise p q r s t = t refl

fold_out_alike : (f h : List Value → Stand → Outcome) (us : List Value) (s : Stand) → ((os : List Value) → f os (moved s 1) ≡ h os (moved s 1)) → fold_out f us s ≡ fold_out h us s
fold_out_alike f h [] s e = refl
fold_out_alike f h (u ∷ us) s e = rw (e us) refl

-- what a pair asks of its second part
second_need : (a b : Grammar) (s t : Stand) (k : ℕ) → need (pair a b) s ≤ suc k → Ahead (consumes a) s t → need b t ≤ suc k
second_need a b s t k h x = go (guarded a) (consumes a) (guarded b) (left_of s) (left_of t) h x.shorter x.falls
  where
    go : (p q r : Bool) (m n : ℕ) → 2 * m + cond (p && (q || r)) 1 2 ≤ suc k → n ≤ m → (q ≡ true → n < m) → 2 * n + cond r 1 2 ≤ suc k
    go p true r m n h l f = two r (2 * n) (suc k) (let e : n < m = f refl in let y : 2 * m + 1 ≤ suc k = one_or_two (p && true) (2 * m) (suc k) h in omega (arith, e, y))
    go true false r m n h l f = elim r as (λ v. 2 * m + cond v 1 2 ≤ suc k → 2 * n + cond v 1 2 ≤ suc k) [ true ↦ λ y. omega (arith, l, y) | false ↦ λ y. omega (arith, l, y) ] h
    go false false r m n h l f = two r (2 * n) (suc k) (omega (arith, l, h))

first_need : (a b : Grammar) (q : Bool) (s : Stand) (k : ℕ) → 2 * left_of s + cond (guarded a && q) 1 2 ≤ k → need a s ≤ k
first_need a b q s k h = go (guarded a) q h
  where
    go : (p r : Bool) → 2 * left_of s + cond (p && r) 1 2 ≤ k → 2 * left_of s + cond p 1 2 ≤ k
    go true r h = one_or_two r (2 * left_of s) k h
    go false r h = h

other_need : (a b : Grammar) (s : Stand) (k : ℕ) → 2 * left_of s + cond (guarded a && guarded b) 1 2 ≤ k → need b s ≤ k
other_need a b s k h = go (guarded a) (guarded b) h
  where
    go : (p r : Bool) → 2 * left_of s + cond (p && r) 1 2 ≤ k → 2 * left_of s + cond r 1 2 ≤ k
    go true r h = h
    go false r h = two r (2 * left_of s) k h

-- behind a token anything may follow
behind_need : (g : Grammar) (s t : Stand) (b : Bool) (k : ℕ) → 2 * left_of s + cond b 1 2 ≤ suc k → left_of t < left_of s → need g t ≤ k
behind_need g s t b k h l = two (guarded g) (2 * left_of t) k (let y : 2 * left_of s + 1 ≤ suc k = one_or_two b (2 * left_of s) (suc k) h in omega (arith, l, y))

list_alike : (b : Bool) (o p : Outcome) (again other : Stand → Outcome) (s : Stand) → o ≡ p → ((u : Value) (r : Stand) → o ≡ reads u r → again r ≡ other r)
    → cond b (andthen o (λ u r. andthen (again r) (λ v q. reads (both u v) q))) (reads none s) ≡ cond b (andthen p (λ u r. andthen (other r) (λ v q. reads (both u v) q))) (reads none s)
list_alike b o p again other s e n =
    cond_alike b _ _ _ _ (λ i. andthen_alike o p _ _ e (λ u r j. andthen_alike (again r) (other r) _ _ (n u r j) (λ v q l. refl))) (λ i. refl)

pub step_alike : (f h : Grammar → Stand → Outcome) (k : ℕ) → Moves f → Alike f h k → (g : Grammar) (s : Stand) → sound g ≡ true → need g s ≤ suc k → step f g s ≡ step h g s
step_alike f h k m e nothing s z n = refl
step_alike f h k m e (before c g) s z n =
    let y = and_true (is_token c) (sound g) z in
    cond_alike (same (class_at s) c) _ _ _ _
    (λ i. step_alike f h k m e g (moved s 1) y.1 (let x : need g (moved s 1) ≤ k = behind_need g s (moved s 1) true k n ((one s c y.0 i).falls refl) in omega (arith, x)))
    (λ i. refl)
step_alike f h k m e (after g c) s z n =
    let y = and_true (is_token c) (sound g) z in
    andthen_alike (step f g s) (step h g s) _ _ (step_alike f h k m e g s y.1 n) (λ u r i. refl)
step_alike f h k m e (leaf l) s z n = refl
step_alike f h k m e (special l) s z n = refl
step_alike f h k m e (words ws) s z n = refl
step_alike f h k m e (placed g) s z n = andthen_alike (step f g s) (step h g s) _ _ (step_alike f h k m e g s z n) (λ u r i. refl)
step_alike f h k m e (pair a b) s z n =
    let y = and_true (sound a) (sound b) z in
    andthen_alike (step f a s) (step h a s) _ _ (step_alike f h k m e a s y.0 (first_need a b (consumes a || guarded b) s (suc k) n))
    (λ u r i. andthen_alike (step f b r) (step h b r) _ _ (step_alike f h k m e b r y.1 (second_need a b s r k n (step_moves f m a s u r y.0 i))) (λ v q j. refl))
step_alike f h k m e (either q a b) s z n =
    let y = and_true (sound a) (sound b) ((and_true (short q) _ z).1) in
    cond_alike (holds q s) _ _ _ _
    (λ i. andthen_alike (step f a s) (step h a s) _ _ (step_alike f h k m e a s y.0 (first_need a b (guarded b) s (suc k) n)) (λ u r j. refl))
    (λ i. andthen_alike (step f b s) (step h b s) _ _ (step_alike f h k m e b s y.1 (other_need a b s (suc k) n)) (λ u r j. refl))
step_alike f h k m e (by_test q a b) s z n =
    let y = and_true (sound a) (sound b) ((and_true (short q) _ z).1) in
    cond_alike (holds q s) _ _ _ _
    (λ i. andthen_alike (step f a s) (step h a s) _ _ (step_alike f h k m e a s y.0 (first_need a b (guarded b) s (suc k) n)) (λ u r j. refl))
    (λ i. andthen_alike (step f b s) (step h b s) _ _ (step_alike f h k m e b s y.1 (other_need a b s (suc k) n)) (λ u r j. refl))
step_alike f h k m e (many q a) s z n =
    let o = and_true (consumes a) _ z in
    let y = and_true (short q) (sound a) o.1 in
    list_alike (holds q s) (step f a s) (step h a s) (f (many q a)) (h (many q a)) s (step_alike f h k m e a s y.1 n)
    (λ u r j. e (many q a) r z (behind_need (many q a) s r (guarded a) k n ((step_moves f m a s u r y.1 j).falls o.0)))
step_alike f h k m e (many_by q a) s z n =
    let o = and_true (consumes a) _ z in
    let y = and_true (short q) (sound a) o.1 in
    list_alike (holds q s) (step f a s) (step h a s) (f (many_by q a)) (h (many_by q a)) s (step_alike f h k m e a s y.1 n)
    (λ u r j. e (many_by q a) r z (behind_need (many_by q a) s r (guarded a) k n ((step_moves f m a s u r y.1 j).falls o.0)))
step_alike f h k m e (case i q a b) s z n =
    let y = sound_case i q a b z in
    cond_alike (holds q s) _ _ _ _
    (λ j. andthen_alike (step f a s) (step h a s) _ _ (step_alike f h k m e a s y.first_sound (first_need a b (guarded b) s (suc k) n)) (λ u r l. refl))
    (λ j. step_alike f h k m e b s y.rest_sound (other_need a b s (suc k) n))
step_alike f h k m e no_case s z n = refl
step_alike f h k m e (row r) s z n = e (text_row r) s (sound_row r) (rw (guarded_row r) (omega (arith, n)))
step_alike f h k m e (checked g) s z n = cond_alike (nat_lt 100 (open_at s)) _ _ _ _ (λ i. refl) (λ i. step_alike f h k m e g s z n)
step_alike f h k m e (ends cs g) s z n = andthen_alike (step f g s) (step h g s) _ _ (step_alike f h k m e g s z n) (λ u r i. refl)
step_alike f h k m e (folded us cs g o) s z n =
    let y = sound_fold us cs g o z in
    by_turn_alike (turn cs s)
    (λ i. andthen_alike (step f g s) (step h g s) _ _ (step_alike f h k m e g s y.item_sound (first_need g o (guarded o) s (suc k) n))
    (λ u r j. andthen_alike (f (folded us cs g o) r) (h (folded us cs g o) r) _ _ (e (folded us cs g o) r z (behind_need (folded us cs g o) s r (guarded g && guarded o) k n ((step_moves f m g s u r y.item_sound j).falls y.item_consumes))) (λ v p l. refl)))
    (λ i. let a : Ahead true s (moved s 1) = one s opening refl ((turn_into cs s i).0) in
    andthen_alike (step f g (moved s 1)) (step h g (moved s 1)) _ _ (step_alike f h k m e g (moved s 1) y.item_sound (let x : need g (moved s 1) ≤ k = behind_need g s (moved s 1) (guarded g && guarded o) k n (a.falls refl) in omega (arith, x)))
    (λ u r j. e (folded (u ∷ us) cs g o) r z (behind_need (folded (u ∷ us) cs g o) s r (guarded g && guarded o) k n ((further true (consumes g) s (moved s 1) r a (step_moves f m g (moved s 1) u r y.item_sound j)).falls refl))))
    (λ i. fold_out_alike (λ os t. f (folded os cs g o) t) (λ os t. h (folded os cs g o) t) us s
    (λ os. e (folded os cs g o) (moved s 1) z (behind_need (folded os cs g o) s (moved s 1) (guarded g && guarded o) k n ((one s closing refl (turn_out cs s i)).falls refl))))
    (λ i. refl)
    (λ i. andthen_alike (step f o s) (step h o s) _ _ (step_alike f h k m e o s y.other_sound (other_need g o s (suc k) n))
    (λ u r j. cond_alike (among group_ends (class_at r)) _ _ _ _
    (λ l. andthen_alike (f (folded us cs g o) r) (h (folded us cs g o) r) _ _ (e (folded us cs g o) r z (behind_need (folded us cs g o) s r (guarded g && guarded o) k n ((step_moves f m o s u r y.other_sound j).falls y.other_consumes))) (λ v p q. refl))
    (λ l. refl)))
step_alike f h k m e (made l g) s z n = andthen_alike (step f g s) (step h g s) _ _ (step_alike f h k m e g s z n) (λ u r i. refl)
step_alike f h k m e (skipping g) s z n = andthen_alike (step f g s) (step h g s) _ _ (step_alike f h k m e g s ((and_true (consumes g) (sound g) z).1) n) (λ u r i. refl)

pub fueled_moves : (n : ℕ) → Moves (fueled n)
unfolding fueled
fueled_moves zero g s v t z h = absurd (cc)
fueled_moves (suc n) g s v t z h = step_moves (fueled n) (fueled_moves n) g s v t z h

needs : (g : Grammar) (s : Stand) → 1 ≤ need g s
needs g s = let x : 2 * left_of s + 1 ≤ need g s = one_or_two (guarded g) (2 * left_of s) (need g s) (omega arith) in omega (arith, x)

pub fueled_alike : (n m : ℕ) (g : Grammar) (s : Stand) → sound g ≡ true → need g s ≤ n → need g s ≤ m → fueled n g s ≡ fueled m g s
unfolding fueled
fueled_alike zero m g s z a b = absurd (omega (arith, needs g s, a))
fueled_alike (suc n) zero g s z a b = absurd (omega (arith, needs g s, b))
fueled_alike (suc n) (suc m) g s z a b =
    step_alike (fueled n) (fueled m) (min n m) (fueled_moves n) (λ g' t y l. fueled_alike n m g' t y (omega (arith, l)) (omega (arith, l))) g s z (omega (arith, a, b))

-- reading again is reading
pub again_is : (g : Grammar) (s : Stand) → sound g ≡ true → again g s ≡ read g s
unfolding again fueled
again_is g s z =
    let e : 2 * left_of s + 2 ≡ suc (2 * left_of s + 1) = omega arith in
    rw e (step_alike (fueled (2 * left_of s + 1)) again (2 * left_of s + 1) (fueled_moves (2 * left_of s + 1))
    (λ g' t y l. fueled_alike (2 * left_of s + 1) (2 * left_of t + 2) g' t y l (two (guarded g') (2 * left_of t) (2 * left_of t + 2) (omega arith)))
    g s z (two (guarded g) (2 * left_of s) (suc (2 * left_of s + 1)) (omega arith)))

pub again_moves : Moves again
unfolding again
again_moves g s v t z h = fueled_moves (2 * left_of s + 2) g s v t z h

-- what reading by a grammar does
pub read_moves : (g : Grammar) (s : Stand) (v : Value) (t : Stand) → sound g ≡ true → read g s ≡ reads v t → Ahead (consumes g) s t
read_moves g s v t z h = step_moves again again_moves g s v t z h

-- a row is read by its grammar
pub row_is : (r : Row) (s : Stand) → read (row r) s ≡ read (text_row r) s
row_is r s = again_is (text_row r) s (sound_row r)

pub val_is : (s : Stand) → read (row Val) s ≡ read val s
unfolding text_row
val_is s = row_is Val s

pub again_fueled : (g : Grammar) (s : Stand) → fueled (2 * left_of s + 2) g s ≡ again g s
unfolding again
again_fueled g s = refl

pub fueled_read : (k : ℕ) (g : Grammar) (s : Stand) → sound g ≡ true → need g s ≤ k → fueled k g s ≡ read g s
fueled_read k g s z h = fueled_alike k (2 * left_of s + 2) g s z h (two (guarded g) (2 * left_of s) (2 * left_of s + 2) (omega arith)) ∙ (again_fueled g s ∙ again_is g s z)

-- items that may be folded are read one turn at a time
pub folded_is : (us : List Value) (cs : List Class) (g h : Grammar) (s : Stand) → sound (folded us cs g h) ≡ true
    → read (folded us cs g h) s
    ≡ by_turn (turn cs s)
    (andthen (read g s) (λ u t. listed u (read (folded us cs g h) t)))
    (andthen (read g (moved s 1)) (λ u t. read (folded (u ∷ us) cs g h) t))
    (fold_out (λ os t. read (folded os cs g h) t) us s)
    (fold_end us s)
    (andthen (read h s) (λ u t. cond (among group_ends (class_at t)) (listed u (read (folded us cs g h) t)) (fault t)))
folded_is us cs g h s z =
    by_turn_alike (turn cs s)
    (λ i. andthen_alike (read g s) (read g s) _ _ refl (λ u r j. ap (listed u) (again_is (folded us cs g h) r z)))
    (λ i. andthen_alike (read g (moved s 1)) (read g (moved s 1)) _ _ refl (λ u r j. again_is (folded (u ∷ us) cs g h) r z))
    (λ i. fold_out_alike (λ os t. again (folded os cs g h) t) (λ os t. read (folded os cs g h) t) us s (λ os. again_is (folded os cs g h) (moved s 1) z))
    (λ i. refl)
    (λ i. andthen_alike (read h s) (read h s) _ _ refl (λ u r j. cond_alike (among group_ends (class_at r)) _ _ _ _ (λ l. ap (listed u) (again_is (folded us cs g h) r z)) (λ l. refl)))
