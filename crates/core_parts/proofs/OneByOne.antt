-- Going over tokens unread as a loop does: one token at a time.
use Rattle.std.proofs.Common.{◌≡◌, ℕ, zero, suc, ◌+◌, ◌-◌, ◌≤◌, ◌<◌, List, None, true, false, ap, arith, refl, sym, ◌∙◌, subst, add-one}
use Rattle.wast_tokens.specs.declared.error.ErrorKind.{ErrorKind}
use Rattle.wast_tokens.specs.declared.error.ErrorKind.TheVariants.{Parse}
use Rattle.wast_grammar.specs.Classes.{Class, finish, opening, closing, string, id, integer, keyword, annotation, reserved, among, is_inner, same}
use Rattle.wast_grammar.specs.Skips.{inner, begins, closes, bracket}
use Rattle.wast_grammar.specs.Stand.{Stand, class_at, moved, offset_of}
use Rattle.wast_grammar.specs.Grammar.{group_ends, none}
use Rattle.wast_grammar.specs.Read.{Outcome, reads, fault, skip_by, left_of, FailsAs}
use Rattle.wast_grammar.proofs.Moves.{one_skipped}
use Rattle.wast_grammar.proofs.Skipping.{skip_from, skip_from_is}
use Rattle.wast_parser.specs.Next.{note_in}
use Rattle.core_parts.specs.Over.{OneOver, over_inner, over_begin, over_end, stops}

-- behind one token it goes on with as many groups as are open there
pub over_one : {n m : ℕ} {s : Stand} → OneOver n m s → skip_from n s ≡ skip_from m (moved s 1)
over_one (over_inner {n = n} {s = s} e) = skip_from_is n s ∙ rw e refl
over_one (over_begin {n = n} {s = s} e) = skip_from_is n s ∙ rw e (ap (λ k. skip_from k (moved s 1)) (sym (add-one n)))
over_one (over_end {n = n} {s = s} e) = ap (λ k. skip_from k s) (add-one n) ∙ (skip_from_is (suc n) s ∙ rw e refl)

pub over_falls : {n m : ℕ} {s : Stand} → OneOver n m s → left_of (moved s 1) < left_of s
over_falls (over_inner {s = s} e) = (one_skipped s inner e refl).falls refl
over_falls (over_begin {s = s} e) = (one_skipped s begins e refl).falls refl
over_falls (over_end {s = s} e) = (one_skipped s closes e refl).falls refl

pub over_few : {n m : ℕ} {s : Stand} → OneOver n m s → m ≤ n + 1
over_few (over_inner e) = omega arith
over_few (over_begin e) = omega arith
over_few (over_end e) = omega arith

-- where no group is open and the group ends, all is gone over
done_by : (c : Class) (f : ℕ → Stand → Outcome) (s : Stand) → among group_ends c ≡ true → skip_by f (bracket c) zero s ≡ reads none s
done_by finish f s h = refl
done_by opening f s h = absurd (cc)
done_by closing f s h = refl
done_by (string b) f s h = absurd (cc)
done_by id f s h = absurd (cc)
done_by (integer b) f s h = absurd (cc)
done_by (keyword bytes) f s h = absurd (cc)
done_by (annotation bytes) f s h = absurd (cc)
done_by reserved f s h = absurd (cc)

pub over_done : (n : ℕ) (s : Stand) → n ≡ 0 → among group_ends (class_at s) ≡ true → skip_from n s ≡ reads none s
over_done n s z h = rw z (skip_from_is zero s ∙ done_by (class_at s) skip_from s h)

-- elsewhere a token that stands in no group is refused
stuck_by : (c : Class) (f : ℕ → Stand → Outcome) (n : ℕ) (s : Stand) → stops n (bracket c) ≡ true → (n ≡ 0 → among group_ends c ≡ false) → skip_by f (bracket c) n s ≡ fault s
stuck_by finish f zero s h k = absurd (let x = k refl in cc)
stuck_by finish f (suc n) s h k = refl
stuck_by opening f n s h k = absurd (cc)
stuck_by closing f zero s h k = absurd (let x = k refl in cc)
stuck_by closing f (suc n) s h k = absurd (cc)
stuck_by (string b) f n s h k = absurd (cc)
stuck_by id f n s h k = absurd (cc)
stuck_by (integer b) f n s h k = absurd (cc)
stuck_by (keyword bytes) f n s h k = absurd (cc)
stuck_by (annotation bytes) f n s h k = absurd (cc)
stuck_by reserved f n s h k = refl

pub over_stuck : (n : ℕ) (s : Stand) → stops n (bracket (class_at s)) ≡ true → (n ≡ 0 → among group_ends (class_at s) ≡ false) → skip_from n s ≡ fault s
over_stuck n s h k = skip_from_is n s ∙ stuck_by (class_at s) skip_from n s h k

-- what each look tells
pub is_over_inner : (n : ℕ) (s : Stand) → is_inner (class_at s) ≡ true → OneOver n n s
is_over_inner n s h = over_inner (by_class (class_at s) h)
  where
    by_class : (c : Class) → is_inner c ≡ true → bracket c ≡ inner
    by_class finish h = absurd (cc)
    by_class opening h = absurd (cc)
    by_class closing h = absurd (cc)
    by_class (string b) h = refl
    by_class id h = refl
    by_class (integer b) h = refl
    by_class (keyword bytes) h = refl
    by_class (annotation bytes) h = absurd (cc)
    by_class reserved h = absurd (cc)

pub is_over_opening : (n : ℕ) (s : Stand) → class_at s ≡ opening → OneOver n (n + 1) s
is_over_opening n s h = over_begin (ap bracket h)

pub is_over_annotation : (n : ℕ) (s : Stand) (bytes : List ℕ) → class_at s ≡ annotation bytes → OneOver n (n + 1) s
is_over_annotation n s bytes h = over_begin (ap bracket h)

pub is_over_closing : (n : ℕ) (s : Stand) → 0 < n → class_at s ≡ closing → OneOver n (n - 1) s
is_over_closing zero s l h = absurd (omega (arith, l))
is_over_closing (suc n) s l h =
    let e : n + 1 ≡ suc n = add-one n in
    let d : n ≡ suc n - 1 = omega arith in
    subst (λ k. OneOver (suc n) k s) d (subst (λ k. OneOver k n s) e (over_end (ap bracket h)))

-- before a token that is none of these
pub is_stuck : (n : ℕ) (c : Class) → is_inner c ≡ false → same c opening ≡ false → note_in c ≡ None → (0 < n → same c closing ≡ false) → stops n (bracket c) ≡ true
is_stuck n finish h i j k = refl
is_stuck n opening h i j k = absurd (cc)
is_stuck zero closing h i j k = refl
is_stuck (suc n) closing h i j k = absurd (let x = k (omega arith) in cc)
is_stuck n (string b) h i j k = absurd (cc)
is_stuck n id h i j k = absurd (cc)
is_stuck n (integer b) h i j k = absurd (cc)
is_stuck n (keyword bytes) h i j k = absurd (cc)
is_stuck n (annotation bytes) h i j k = absurd (cc)
is_stuck n reserved h i j k = refl

-- behind one token, where the loop stands
pub goes_over : (s p q r : Stand) → p ≡ s → q ≡ moved p 1 → r ≡ q → r ≡ moved s 1
goes_over s p q r e h i = i ∙ (h ∙ ap (λ (x : Stand). moved x 1) e)

pub over_goes : (n m : ℕ) (s p r : Stand) (total : Outcome) → p ≡ s → OneOver n m p → r ≡ moved s 1 → skip_from n s ≡ total → skip_from m r ≡ total
over_goes n m s p r total e o z g = ap (skip_from m) z ∙ (sym (over_one (subst (OneOver n m) e o)) ∙ g)

-- a refusal there is that of the whole
pub over_fails : (n : ℕ) (s p : Stand) (k : ErrorKind) (o : ℕ) (total : Outcome) → p ≡ s → stops n (bracket (class_at p)) ≡ true → (n ≡ 0 → among group_ends (class_at s) ≡ false) → skip_from n s ≡ total → k ≡ Parse → o ≡ offset_of s → FailsAs k o s total
over_fails n s p k o total e h i g is at =
    subst (λ x. FailsAs x o s total) (sym is) (sym g ∙ over_stuck n s (subst (λ (x : Stand). stops n (bracket (class_at x)) ≡ true) e h) i, at)
