-- A reading goes forward over the same tokens.
use Rattle.std.proofs.Common.{◌≡◌, ℕ, zero, suc, ◌+◌, ◌≤◌, ◌<◌, ◌⊎◌, inl, inr, List, [], ◌∷◌, Bool, true, false, cond, ◌&&◌, ◌||◌, Option, Some, None, arith, length, ap, refl, sym, ◌∙◌, subst, nat_lt, slice_get}
use Rattle.std.proofs.lemmas.Option.{slice_get_within}
use Rattle.wast_grammar.specs.Tokens.{Tok}
use Rattle.wast_grammar.specs.Classes.{Class, finish, opening, closing, keyword, integers, same, among, class_of, is_keyword, is_inner, each_class}
use Rattle.wast_grammar.specs.Stand.{Stand, class_at, class_after, moved}
use Rattle.wast_grammar.specs.Grammar.{both, left, right, Grammar, nothing, before, after, leaf, special, words, placed, pair, either, many, by_test, many_by, case, no_case, row, checked, ends, skipping, made, folded, group_ends, Turn, an_item, into, out, finished, otherwise, turn, holds, Test, Row, Special, constant, a_word, any_of, any_inner, is_special, Leaf, class_of_leaf, a_number, number_in, Value, none, num}
use Rattle.wast_grammar.specs.Rows.{text_row}
use Rattle.wast_grammar.specs.Read.{Outcome, reads, fault, deep, andthen, told, by_turn, fold_out, fold_end, skip_by, skip, skip_rest, step, open_at, left_of}
use Rattle.wast_grammar.specs.Skips.{Bracket, inner, begins, closes, absent, barred, bracket}
use Rattle.wast_grammar.specs.Shape.{consumes, is_token, special_sound, above, sound, short}
use Rattle.wast_grammar.proofs.Same.{same_is}
use Rattle.wast_grammar.proofs.NamedRows.{named_row}

pub andthen_reads : (o : Outcome) (k : Value → Stand → Outcome) (v : Value) (t : Stand) → andthen o k ≡ reads v t → (u : Value) × (r : Stand) × (o ≡ reads u r) × (k u r ≡ reads v t)
andthen_reads (reads u r) k v t h = (u, r, refl, h)
andthen_reads (fault r) k v t h = absurd (cc)
andthen_reads (deep r) k v t h = absurd (cc)

pub chosen : {A : Type 0} (b : Bool) (x y z : A) → cond b x y ≡ z → ((b ≡ true) × (x ≡ z)) ⊎ ((b ≡ false) × (y ≡ z))
chosen true x y z h = inl (refl, h)
chosen false x y z h = inr (refl, h)

pub and_true : (a b : Bool) → (a && b) ≡ true → (a ≡ true) × (b ≡ true)
and_true true b h = (refl, h)
and_true false b h = absurd (cc)

pub or_true : (a b : Bool) → (a || b) ≡ true → (a ≡ true) ⊎ (b ≡ true)
or_true true b h = inl refl
or_true false b h = inr h

-- t is where reading from s may lead, behind a token if b
pub record Ahead (b : Bool) (s t : Stand) : Type 0 where
  pub same_text : t.text ≡ s.text
  pub forward : s.at ≤ t.at
  pub shorter : left_of t ≤ left_of s
  pub falls : b ≡ true → left_of t < left_of s

pub here : (s : Stand) → Ahead false s s
here s = record { same_text = refl; forward = omega arith; shorter = omega arith; falls = λ h. absurd (cc) }

pub weaker : (b : Bool) (s t : Stand) → Ahead true s t → Ahead b s t
weaker b s t h = record { same_text = h.same_text; forward = h.forward; shorter = h.shorter; falls = λ _. h.falls refl }

pub further : (a b : Bool) (s r t : Stand) → Ahead a s r → Ahead b r t → Ahead (a || b) s t
further a b s r t x y = record {
  same_text = y.same_text ∙ x.same_text;
  forward = omega (arith, x.forward, y.forward);
  shorter = omega (arith, x.shorter, y.shorter);
  falls = λ h. elim (or_true a b h) [ inl p ↦ omega (arith, x.falls p, y.shorter) | inr p ↦ omega (arith, x.shorter, y.falls p) ];
}

pub further_one : (b : Bool) (s r t : Stand) → Ahead b s r → Ahead true r t → Ahead true s t
further_one b s r t x y = record {
  same_text = y.same_text ∙ x.same_text;
  forward = omega (arith, x.forward, y.forward);
  shorter = omega (arith, x.shorter, y.shorter);
  falls = λ h. omega (arith, x.shorter, y.falls refl);
}

pub loose : (b : Bool) (s t : Stand) → Ahead b s t → Ahead false s t
loose b s t x = record { same_text = x.same_text; forward = x.forward; shorter = x.shorter; falls = λ h. absurd (cc) }

pub one_of_two : (a b : Bool) (s t : Stand) → (Ahead a s t) ⊎ (Ahead b s t) → Ahead (a && b) s t
one_of_two a b s t (inl x) = record { same_text = x.same_text; forward = x.forward; shorter = x.shorter; falls = λ h. x.falls (and_true a b h).0 }
one_of_two a b s t (inr x) = record { same_text = x.same_text; forward = x.forward; shorter = x.shorter; falls = λ h. x.falls (and_true a b h).1 }

-- a token stands where the class isn't that of the end
inside_of : (o : Option Tok) (ts : List Tok) (i : ℕ) → slice_get ts i ≡ o → is_token (class_of o) ≡ true → i < length ts
inside_of (Some t) ts i e h = slice_get_within ts i t e
inside_of None ts i e h = absurd (cc)

pub inside : (s : Stand) (c : Class) → is_token c ≡ true → same (class_at s) c ≡ true → s.at < length s.text.tokens
inside s c z h = inside_of (slice_get s.text.tokens s.at) s.text.tokens s.at refl (subst (λ (d : Class). is_token d ≡ true) (sym (same_is _ _ h)) z)

pub one : (s : Stand) (c : Class) → is_token c ≡ true → same (class_at s) c ≡ true → Ahead true s (moved s 1)
one s c z h = let k : s.at < length s.text.tokens = inside s c z h in record { same_text = refl; forward = omega arith; shorter = omega (arith, k); falls = λ _. omega (arith, k) }

leaf_token : (k : Leaf) → is_token (class_of_leaf k) ≡ true
leaf_token a_number = refl
leaf_token _ = refl

reads_at : (u v : Value) (s t : Stand) → reads u s ≡ reads v t → s ≡ t
reads_at u v s t h = cc

-- whatever the end isn't is a token
token_of : (p : Class → Bool) (c : Class) → p finish ≡ false → p c ≡ true → is_token c ≡ true
token_of p finish z h = absurd (let e : true ≡ false = sym h ∙ z in cc)
token_of p _ z h = refl

-- what each of some classes is, one of them is
pub each_is : (p : Class → Bool) (cs : List Class) (n : Class) → each_class p cs ≡ true → among cs n ≡ true → p n ≡ true
each_is p [] n z h = absurd (cc)
each_is p (c ∷ cs) n z h =
    let y = and_true (p c) (each_class p cs) z in
    elim (chosen (same n c) true (among cs n) true h) [
      | inl i ↦ subst (λ (d : Class). p d ≡ true) (sym (same_is n c i.0)) y.0
      | inr i ↦ each_is p cs n y.1 i.1
    ]

special_token : (k : Special) (s : Stand) → special_sound k ≡ true → is_special k s ≡ true → is_token (class_at s) ≡ true
special_token (constant k) s z h = token_of (among integers) (class_at s) refl ((and_true _ _ h).0)
special_token (a_word ws) s z h = token_of (is_keyword ws) (class_at s) refl h
special_token (any_of cs) s z h = each_is is_token cs (class_at s) z h
special_token any_inner s z h = token_of is_inner (class_at s) refl h

-- over one token
pub one_token : (s : Stand) → is_token (class_at s) ≡ true → Ahead true s (moved s 1)
one_token s h =
    let k : s.at < length s.text.tokens = inside_of (slice_get s.text.tokens s.at) s.text.tokens s.at refl h in
    record { same_text = refl; forward = omega arith; shorter = omega (arith, k); falls = λ _. omega (arith, k) }

-- a table tells a number of a keyword that it has
pub number_word : (ws : List (List ℕ × ℕ)) (c : Class) (n : ℕ) → number_in ws c ≡ Some n → (w : List ℕ) × (same c (keyword w) ≡ true)
number_word [] c n h = absurd (cc)
number_word (w ∷ ws) c n h = elim (chosen (same c (keyword w.0)) _ _ _ h) [ inl p ↦ (w.0, p.0) | inr p ↦ number_word ws c n p.1 ]

-- what is read of a table is one of its numbers
pub told_reads : (o : Option ℕ) (s t : Stand) (v : Value) → told o s ≡ reads v t → (n : ℕ) × (o ≡ Some n) × (reads (num n) (moved s 1) ≡ reads v t)
told_reads None s t v h = absurd (cc)
told_reads (Some n) s t v h = (n, refl, h)

word_moves : (ws : List (List ℕ × ℕ)) (s : Stand) (v : Value) (t : Stand) → told (number_in ws (class_at s)) s ≡ reads v t → Ahead true s t
word_moves ws s v t h =
    let x = told_reads (number_in ws (class_at s)) s t v h in
    let w = number_word ws (class_at s) x.0 x.1 in
    subst (Ahead true s) (reads_at _ _ _ _ x.2) (one s (keyword w.0) refl w.1)

-- tokens are gone over behind it
abbrev pub goes_on : Bracket → Bool
goes_on inner = true
goes_on begins = true
goes_on closes = true
goes_on absent = false
goes_on barred = false

-- over one token of a group that is gone over
pub one_skipped : (s : Stand) (b : Bracket) → bracket (class_at s) ≡ b → goes_on b ≡ true → Ahead true s (moved s 1)
one_skipped s b e h = one_token s (token_of (λ c. goes_on (bracket c)) (class_at s) refl (ap goes_on e ∙ h))

-- where going over tokens leads
abbrev pub SkipMoves : (ℕ → Stand → Outcome) → Stand → Type 0
SkipMoves f s = (n : ℕ) (v : Value) (t : Stand) → f n s ≡ reads v t → Ahead false s t

skip_by_moves : (f : ℕ → Stand → Outcome) (b : Bracket) (n : ℕ) (s : Stand) (v : Value) (t : Stand) → bracket (class_at s) ≡ b → SkipMoves f (moved s 1) → skip_by f b n s ≡ reads v t → Ahead false s t
skip_by_moves f inner n s v t e m h = loose _ s t (further true false s (moved s 1) t (one_skipped s inner e refl) (m n v t h))
skip_by_moves f begins n s v t e m h = loose _ s t (further true false s (moved s 1) t (one_skipped s begins e refl) (m (suc n) v t h))
skip_by_moves f closes zero s v t e m h = subst (Ahead false s) (reads_at _ _ _ _ h) (here s)
skip_by_moves f closes (suc n) s v t e m h = loose _ s t (further true false s (moved s 1) t (one_skipped s closes e refl) (m n v t h))
skip_by_moves f absent zero s v t e m h = subst (Ahead false s) (reads_at _ _ _ _ h) (here s)
skip_by_moves f absent (suc n) s v t e m h = absurd (cc)
skip_by_moves f barred n s v t e m h = absurd (cc)

pub skip_moves : (k n : ℕ) (s : Stand) (v : Value) (t : Stand) → skip k n s ≡ reads v t → Ahead false s t
unfolding skip
skip_moves zero n s v t h = absurd (cc)
skip_moves (suc k) n s v t h = skip_by_moves (skip k) (bracket (class_at s)) n s v t refl (λ m w r i. skip_moves k m (moved s 1) w r i) h

pub skip_rest_moves : (s : Stand) (v : Value) (t : Stand) → skip_rest s ≡ reads v t → Ahead false s t
unfolding skip_rest
skip_rest_moves s v t h = skip_moves (left_of s + 1) zero s v t h

-- which turn it is says what stands next
pub turn_ends : (cs : List Class) (s : Stand) → (turn cs s ≡ out) ⊎ (turn cs s ≡ finished) → among group_ends (class_at s) ≡ true
turn_ends cs s h = go (same (class_at s) finish) (same (class_at s) closing) (among cs (class_at s)) (same (class_at s) opening && among cs (class_after s)) h
  where
    go : (a b c d : Bool) → (cond a finished (cond b out (cond c an_item (cond d into otherwise))) ≡ out) ⊎ (cond a finished (cond b out (cond c an_item (cond d into otherwise))) ≡ finished) → cond a true (cond b true false) ≡ true
    go true b c d h = refl
    go false true c d h = refl
    go false false true d (inl h) = absurd (cc)
    go false false true d (inr h) = absurd (cc)
    go false false false true (inl h) = absurd (cc)
    go false false false true (inr h) = absurd (cc)
    go false false false false (inl h) = absurd (cc)
    go false false false false (inr h) = absurd (cc)

pub turn_into : (cs : List Class) (s : Stand) → turn cs s ≡ into → (same (class_at s) opening ≡ true) × (among cs (class_after s) ≡ true)
turn_into cs s h = and_true _ _ (go (same (class_at s) finish) (same (class_at s) closing) (among cs (class_at s)) (same (class_at s) opening && among cs (class_after s)) h)
  where
    go : (a b c d : Bool) → cond a finished (cond b out (cond c an_item (cond d into otherwise))) ≡ into → d ≡ true
    go true b c d h = absurd (cc)
    go false true c d h = absurd (cc)
    go false false true d h = absurd (cc)
    go false false false true h = refl
    go false false false false h = absurd (cc)

pub turn_out : (cs : List Class) (s : Stand) → turn cs s ≡ out → same (class_at s) closing ≡ true
turn_out cs s h = go (same (class_at s) finish) (same (class_at s) closing) (among cs (class_at s)) (same (class_at s) opening && among cs (class_after s)) h
  where
    go : (a b c d : Bool) → cond a finished (cond b out (cond c an_item (cond d into otherwise))) ≡ out → b ≡ true
    go true b c d h = absurd (cc)
    go false true c d h = refl
    go false false true d h = absurd (cc)
    go false false false true h = absurd (cc)
    go false false false false h = absurd (cc)

-- where a group ends, it is the turn of its end
pub ends_turn : (cs : List Class) (s : Stand) → among group_ends (class_at s) ≡ true → (turn cs s ≡ out) ⊎ (turn cs s ≡ finished)
ends_turn cs s h = go (same (class_at s) finish) (same (class_at s) closing) (among cs (class_at s)) (same (class_at s) opening && among cs (class_after s)) h
  where
    go : (a b c d : Bool) → cond a true (cond b true false) ≡ true → (cond a finished (cond b out (cond c an_item (cond d into otherwise))) ≡ out) ⊎ (cond a finished (cond b out (cond c an_item (cond d into otherwise))) ≡ finished)
    go true b c d h = inr refl
    go false true c d h = inl refl
    go false false c d h = absurd (cc)

-- the outcome of a turn
pub data TurnOutcome (x : Turn) (a b c d e o : Outcome) : Type 0 where
  was_item : x ≡ an_item → a ≡ o → TurnOutcome x a b c d e o
  was_into : x ≡ into → b ≡ o → TurnOutcome x a b c d e o
  was_out : x ≡ out → c ≡ o → TurnOutcome x a b c d e o
  was_finished : x ≡ finished → d ≡ o → TurnOutcome x a b c d e o
  was_otherwise : x ≡ otherwise → e ≡ o → TurnOutcome x a b c d e o

pub turned : (x : Turn) (a b c d e o : Outcome) → by_turn x a b c d e ≡ o → TurnOutcome x a b c d e o
turned an_item a b c d e o h = was_item refl h
turned into a b c d e o h = was_into refl h
turned out a b c d e o h = was_out refl h
turned finished a b c d e o h = was_finished refl h
turned otherwise a b c d e o h = was_otherwise refl h

-- what the soundness of items that may be folded says
pub record SoundFold (g h : Grammar) : Type 0 where
  pub item_consumes : consumes g ≡ true
  pub other_consumes : consumes h ≡ true
  pub item_sound : sound g ≡ true
  pub other_sound : sound h ≡ true

pub sound_fold : (us : List Value) (cs : List Class) (g h : Grammar) → sound (folded us cs g h) ≡ true → SoundFold g h
sound_fold us cs g h z =
    let x = and_true (consumes g && consumes h) (sound g && sound h) z in
    let y = and_true (consumes g) (consumes h) x.0 in
    let w = and_true (sound g) (sound h) x.1 in
    record { item_consumes = y.0; other_consumes = y.1; item_sound = w.0; other_sound = w.1 }

-- where the end of a group of folded items leads
fold_out_moves : (f : List Value → Stand → Outcome) (us : List Value) (s : Stand) (v : Value) (t : Stand) → Ahead true s (moved s 1)
    → ((os : List Value) (w : Value) → f os (moved s 1) ≡ reads w t → Ahead false (moved s 1) t) → fold_out f us s ≡ reads v t → Ahead false s t
fold_out_moves f [] s v t a m h = subst (Ahead false s) (reads_at _ _ _ _ h) (here s)
fold_out_moves f (u ∷ us) s v t a m h =
    let x = andthen_reads (f us (moved s 1)) _ v t h in
    loose _ s t (further true false s (moved s 1) t a (m us x.0 (subst (λ (r : Stand). f us (moved s 1) ≡ reads x.0 r) (reads_at _ _ _ _ x.3) x.2)))

fold_end_moves : (us : List Value) (s : Stand) (v : Value) (t : Stand) → fold_end us s ≡ reads v t → Ahead false s t
fold_end_moves [] s v t h = subst (Ahead false s) (reads_at _ _ _ _ h) (here s)
fold_end_moves (u ∷ us) s v t h = absurd (cc)

-- what the soundness of cases says
pub record SoundCase (n : ℕ) (q : Test) (a b : Grammar) : Type 0 where
  pub shortly : short q ≡ true
  pub first_consumes : consumes a ≡ true
  pub first_sound : sound a ≡ true
  pub rest_consumes : consumes b ≡ true
  pub rest_above : above n b ≡ true
  pub rest_sound : sound b ≡ true

pub sound_case : (n : ℕ) (q : Test) (a b : Grammar) → sound (case n q a b) ≡ true → SoundCase n q a b
sound_case n q a b z =
    let x = and_true (short q) _ z in
    let y = and_true (consumes a) _ x.1 in
    let w = and_true (sound a) _ y.1 in
    let v = and_true (consumes b) _ w.1 in
    let u = and_true (above n b) (sound b) v.1 in
    record { shortly = x.0; first_consumes = y.0; first_sound = w.0; rest_consumes = v.0; rest_above = u.0; rest_sound = u.1 }

-- what a reading by a smaller grammar does
abbrev pub Moves : (Grammar → Stand → Outcome) → Type 0
Moves f = (g : Grammar) (s : Stand) (v : Value) (t : Stand) → sound g ≡ true → f g s ≡ reads v t → Ahead (consumes g) s t

pub sound_row : (r : Row) → sound (text_row r) ≡ true
sound_row r = (named_row r).0

pub consumes_row : (r : Row) → consumes (text_row r) ≡ true
consumes_row r = (named_row r).1

-- a list of parts: what it leads to, if its first part and the list behind that lead on
list_moves : (o : Outcome) (again : Stand → Outcome) (b c : Bool) (s : Stand) (v : Value) (t : Stand) → ((u : Value) (r : Stand) → o ≡ reads u r → Ahead c s r)
    → ((r : Stand) (u : Value) (p : Stand) → again r ≡ reads u p → Ahead false r p)
    → cond b (andthen o (λ u r. andthen (again r) (λ w p. reads (both u w) p))) (reads none s) ≡ reads v t → Ahead false s t
list_moves o again b c s v t first rest h =
    elim (chosen b _ _ _ h) [
      | inl p ↦ (let x = andthen_reads o _ v t p.1 in
          let w = andthen_reads (again x.1) _ v t x.3 in
          loose _ s t (subst (Ahead (c || false) s) (reads_at _ _ _ _ w.3) (further c false s x.1 w.1 (first x.0 x.1 x.2) (rest x.1 w.0 w.1 w.2))))
      | inr p ↦ subst (Ahead false s) (reads_at _ _ _ _ p.1) (here s)
    ]

-- one of two parts, by a test: what it leads to, if each of the two leads on
choice_moves : (o p : Outcome) (b c d : Bool) (s : Stand) (v : Value) (t : Stand) → ((u : Value) (r : Stand) → o ≡ reads u r → Ahead c s r) → ((u : Value) (r : Stand) → p ≡ reads u r → Ahead d s r)
    → cond b (andthen o (λ u r. reads (left u) r)) (andthen p (λ u r. reads (right u) r)) ≡ reads v t → Ahead (c && d) s t
choice_moves o p b c d s v t first second h =
    elim (chosen b _ _ _ h) [
      | inl i ↦ (let x = andthen_reads o _ v t i.1 in one_of_two c d s t (inl (subst (Ahead c s) (reads_at _ _ _ _ x.3) (first x.0 x.1 x.2))))
      | inr i ↦ (let x = andthen_reads p _ v t i.1 in one_of_two c d s t (inr (subst (Ahead d s) (reads_at _ _ _ _ x.3) (second x.0 x.1 x.2))))
    ]

pub step_moves : (f : Grammar → Stand → Outcome) → Moves f → (g : Grammar) (s : Stand) (v : Value) (t : Stand) → sound g ≡ true → step f g s ≡ reads v t → Ahead (consumes g) s t
step_moves f m nothing s v t z h = subst (Ahead false s) (reads_at none v s t h) (here s)
step_moves f m (before c g) s v t z h =
    let y = and_true (is_token c) (sound g) z in
    elim (chosen (same (class_at s) c) _ _ _ h) [
      | inl p ↦ further true (consumes g) s (moved s 1) t (one s c y.0 p.0) (step_moves f m g (moved s 1) v t y.1 p.1)
      | inr p ↦ absurd (cc)
    ]
step_moves f m (after g c) s v t z h =
    let y = and_true (is_token c) (sound g) z in
    let x = andthen_reads (step f g s) _ v t h in
    elim (chosen (same (class_at x.1) c) _ _ _ x.3) [
      | inl p ↦ subst (Ahead true s) (reads_at _ _ _ _ p.1) (further_one (consumes g) s x.1 (moved x.1 1) (step_moves f m g s x.0 x.1 y.1 x.2) (one x.1 c y.0 p.0))
      | inr p ↦ absurd (cc)
    ]
step_moves f m (leaf k) s v t z h =
    elim (chosen (same (class_at s) (class_of_leaf k)) _ _ _ h) [
      | inl p ↦ subst (Ahead true s) (reads_at _ _ _ _ p.1) (one s (class_of_leaf k) (leaf_token k) p.0)
      | inr p ↦ absurd (cc)
    ]
step_moves f m (special k) s v t z h =
    elim (chosen (is_special k s) _ _ _ h) [
      | inl p ↦ subst (Ahead true s) (reads_at _ _ _ _ p.1) (one_token s (special_token k s z p.0))
      | inr p ↦ absurd (cc)
    ]
step_moves f m (words ws) s v t z h = word_moves ws s v t h
step_moves f m (placed g) s v t z h =
    let x = andthen_reads (step f g s) _ v t h in
    subst (Ahead (consumes g) s) (reads_at _ _ _ _ x.3) (step_moves f m g s x.0 x.1 z x.2)
step_moves f m (pair a b) s v t z h =
    let y = and_true (sound a) (sound b) z in
    let x = andthen_reads (step f a s) _ v t h in
    let w = andthen_reads (step f b x.1) _ v t x.3 in
    subst (Ahead (consumes a || consumes b) s) (reads_at _ _ _ _ w.3) (further (consumes a) (consumes b) s x.1 w.1 (step_moves f m a s x.0 x.1 y.0 x.2) (step_moves f m b x.1 w.0 w.1 y.1 w.2))
step_moves f m (either q a b) s v t z h =
    let y = and_true (sound a) (sound b) ((and_true (short q) _ z).1) in
    choice_moves (step f a s) (step f b s) (holds q s) (consumes a) (consumes b) s v t (λ u r e. step_moves f m a s u r y.0 e) (λ u r e. step_moves f m b s u r y.1 e) h
step_moves f m (by_test q a b) s v t z h =
    let y = and_true (sound a) (sound b) ((and_true (short q) _ z).1) in
    choice_moves (step f a s) (step f b s) (holds q s) (consumes a) (consumes b) s v t (λ u r e. step_moves f m a s u r y.0 e) (λ u r e. step_moves f m b s u r y.1 e) h
step_moves f m (many q a) s v t z h =
    let y = and_true (short q) (sound a) ((and_true (consumes a) _ z).1) in
    list_moves (step f a s) (f (many q a)) (holds q s) (consumes a) s v t (λ u r e. step_moves f m a s u r y.1 e) (λ r u p e. m (many q a) r u p z e) h
step_moves f m (many_by q a) s v t z h =
    let y = and_true (short q) (sound a) ((and_true (consumes a) _ z).1) in
    list_moves (step f a s) (f (many_by q a)) (holds q s) (consumes a) s v t (λ u r e. step_moves f m a s u r y.1 e) (λ r u p e. m (many_by q a) r u p z e) h
step_moves f m (case n q a b) s v t z h =
    let y = sound_case n q a b z in
    elim (chosen (holds q s) _ _ _ h) [
      | inl p ↦ (let x = andthen_reads (step f a s) _ v t p.1 in
          subst (Ahead true s) (reads_at _ _ _ _ x.3) (subst (λ c. Ahead c s x.1) y.first_consumes (step_moves f m a s x.0 x.1 y.first_sound x.2)))
      | inr p ↦ subst (λ c. Ahead c s t) y.rest_consumes (step_moves f m b s v t y.rest_sound p.1)
    ]
step_moves f m no_case s v t z h = absurd (cc)
step_moves f m (row r) s v t z h = subst (λ b. Ahead b s t) (consumes_row r) (m (text_row r) s v t (sound_row r) h)
step_moves f m (checked g) s v t z h =
    elim (chosen (nat_lt 100 (open_at s)) _ _ _ h) [
      | inl p ↦ absurd (cc)
      | inr p ↦ step_moves f m g s v t z p.1
    ]
step_moves f m (ends cs g) s v t z h =
    let x = andthen_reads (step f g s) _ v t h in
    elim (chosen (among cs (class_at x.1)) _ _ _ x.3) [
      | inl p ↦ subst (Ahead (consumes g) s) (reads_at _ _ _ _ p.1) (step_moves f m g s x.0 x.1 z x.2)
      | inr p ↦ absurd (cc)
    ]
step_moves f m (folded us cs g h) s v t z e =
    let y = sound_fold us cs g h z in
    elim (turned (turn cs s) _ _ _ _ _ _ e) [
      | was_item i p ↦ (let x = andthen_reads (step f g s) _ v t p in
          let w = andthen_reads (f (folded us cs g h) x.1) _ v t x.3 in
          loose _ s t (subst (Ahead (consumes g || false) s) (reads_at _ _ _ _ w.3) (further (consumes g) false s x.1 w.1 (step_moves f m g s x.0 x.1 y.item_sound x.2) (m (folded us cs g h) x.1 w.0 w.1 z w.2))))
      | was_into i p ↦ (let x = andthen_reads (step f g (moved s 1)) _ v t p in
          let a = further true (consumes g) s (moved s 1) x.1 (one s opening refl ((turn_into cs s i).0)) (step_moves f m g (moved s 1) x.0 x.1 y.item_sound x.2) in
          loose _ s t (further true false s x.1 t a (m (folded (x.0 ∷ us) cs g h) x.1 v t z x.3)))
      | was_out i p ↦ fold_out_moves (λ os r. f (folded os cs g h) r) us s v t (one s closing refl (turn_out cs s i)) (λ os w j. m (folded os cs g h) (moved s 1) w t z j) p
      | was_finished i p ↦ fold_end_moves us s v t p
      | was_otherwise i p ↦ (let x = andthen_reads (step f h s) _ v t p in
          elim (chosen (among group_ends (class_at x.1)) _ _ _ x.3) [
            | inl q ↦ (let w = andthen_reads (f (folded us cs g h) x.1) _ v t q.1 in
                loose _ s t (subst (Ahead (consumes h || false) s) (reads_at _ _ _ _ w.3) (further (consumes h) false s x.1 w.1 (step_moves f m h s x.0 x.1 y.other_sound x.2) (m (folded us cs g h) x.1 w.0 w.1 z w.2))))
            | inr q ↦ absurd (cc)
          ])
    ]
step_moves f m (made k g) s v t z h =
    let x = andthen_reads (step f g s) _ v t h in
    subst (Ahead (consumes g) s) (reads_at _ _ _ _ x.3) (step_moves f m g s x.0 x.1 z x.2)
step_moves f m (skipping g) s v t z h =
    let y = and_true (consumes g) (sound g) z in
    let x = andthen_reads (step f g s) _ v t h in
    let w = andthen_reads (skip_rest x.1) _ v t x.3 in
    subst (Ahead true s) (reads_at _ _ _ _ w.3) (further true false s x.1 w.1 (subst (λ c. Ahead c s x.1) y.0 (step_moves f m g s x.0 x.1 y.1 x.2)) (skip_rest_moves x.1 w.0 w.1 w.2))
