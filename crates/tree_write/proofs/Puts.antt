-- Bytes put in front of others.
use Rattle.std.proofs.Common.{◌≡◌, ℕ, zero, suc, ◌+◌, ◌-◌, ◌/◌, ◌%◌, ◌<◌, ◌≤◌, List, [], ◌∷◌, ◌++◌, length, length-append, length-drop, take, drop, refl, sym, ◌∙◌, ap, subst, arith, append_assoc, Bool, true, false, min, inl, inr, slice_set}
use Rattle.std.proofs.lemmas.Bool.{lt-ltb, le-ltb, cases_lt}
use Rattle.std.proofs.lemmas.Grind.{drop-set_at}
use Rattle.std.proofs.lemmas.List.{take_at, drop_at, length-take-le, length-set}
use borrow.Rule.Slice.PartMut.{put_mid}
use Rattle.comp_model.specs.Leb.{leb, plain, uleb}
use Rattle.comp_wire.proofs.Numbers.{leb-small, leb-large}
use Rattle.comp_model.specs.Payloads.{framed}
use Rattle.tree_write.specs.Kept.{Kept, counted, written, full, put, Taken, count_kept, buffer_kept}

pub room_counted : (room n : ℕ) (xs : List ℕ) → length xs ≤ room → put xs (counted room n) ≡ counted (room - length xs) (length xs + n)
unfolding put
room_counted room n xs h = rw (le-ltb room (length xs) h) refl

pub no_room_counted : (room n : ℕ) (xs : List ℕ) → room < length xs → put xs (counted room n) ≡ full
unfolding put
no_room_counted room n xs h = rw (lt-ltb room (length xs) h) refl

pub room_written : (room : ℕ) (xs ys : List ℕ) → length xs ≤ room → put xs (written room ys) ≡ written (room - length xs) (xs ++ ys)
unfolding put
room_written room xs ys h = rw (le-ltb room (length xs) h) refl

no_room_written : (room : ℕ) (xs ys : List ℕ) → room < length xs → put xs (written room ys) ≡ full
unfolding put
no_room_written room xs ys h = rw (lt-ltb room (length xs) h) refl

stays_full : (xs : List ℕ) → put xs full ≡ full
unfolding put
stays_full xs = refl

counts : (a b : ℕ) (c d : ℕ) → a ≡ c → b ≡ d → counted a b ≡ counted c d
counts a b c d e f = cc

writes : (a c : ℕ) (ys zs : List ℕ) → a ≡ c → ys ≡ zs → written a ys ≡ written c zs
writes a c ys zs e f = cc

pub put_put : (xs ys : List ℕ) (k : Kept) → put xs (put ys k) ≡ put (xs ++ ys) k
put_put xs ys (counted room n) = elim (cases_lt room (length ys)) [
  | inl h ↦ ap (put xs) (no_room_counted room n ys h) ∙ stays_full xs ∙ sym (no_room_counted room n (xs ++ ys) (omega (arith, length-append xs ys, h)))
  | inr h ↦ ap (put xs) (room_counted room n ys h) ∙ elim (cases_lt (room - length ys) (length xs)) [
    | inl i ↦ no_room_counted (room - length ys) (length ys + n) xs i ∙ sym (no_room_counted room n (xs ++ ys) (omega (arith, length-append xs ys, h, i)))
    | inr i ↦ room_counted (room - length ys) (length ys + n) xs i ∙ counts _ _ _ _ (omega (arith, length-append xs ys, h, i)) (omega (arith, length-append xs ys, h, i)) ∙ sym (room_counted room n (xs ++ ys) (omega (arith, length-append xs ys, h, i)))
  ]
]
put_put xs ys (written room zs) = elim (cases_lt room (length ys)) [
  | inl h ↦ ap (put xs) (no_room_written room ys zs h) ∙ stays_full xs ∙ sym (no_room_written room (xs ++ ys) zs (omega (arith, length-append xs ys, h)))
  | inr h ↦ ap (put xs) (room_written room ys zs h) ∙ elim (cases_lt (room - length ys) (length xs)) [
    | inl i ↦ no_room_written (room - length ys) xs (ys ++ zs) i ∙ sym (no_room_written room (xs ++ ys) zs (omega (arith, length-append xs ys, h, i)))
    | inr i ↦ room_written (room - length ys) xs (ys ++ zs) i ∙ writes _ _ _ _ (omega (arith, length-append xs ys, h, i)) (sym (append_assoc xs ys zs)) ∙ sym (room_written room (xs ++ ys) zs (omega (arith, length-append xs ys, h, i)))
  ]
]
put_put xs ys full = ap (put xs) (stays_full ys) ∙ stays_full xs ∙ sym (stays_full (xs ++ ys))

pub put_none : (k : Kept) → put [] k ≡ k
put_none (counted room n) = room_counted room n [] (omega arith) ∙ counts _ _ _ _ (omega arith) (omega arith)
put_none (written room ys) = room_written room [] ys (omega arith) ∙ writes _ _ _ _ (omega arith) refl
put_none full = stays_full []

-- ---- a number

pub last_put : (limit value : ℕ) (k new : Kept) → 64 ≤ limit → limit ≤ 128 → value < limit → new ≡ put (value ∷ []) k → new ≡ put (leb plain limit value) k
last_put limit value k new l m h e = e ∙ ap (λ xs. put xs k) (sym (leb-small plain limit (omega (arith, l)) m value h))

pub more_put : (limit value : ℕ) (k mid new : Kept) → 64 ≤ limit → limit ≤ 128 → limit ≤ value → mid ≡ put (leb plain limit (value / 128)) k → new ≡ put ((128 + value % 128) ∷ []) mid → new ≡ put (leb plain limit value) k
more_put limit value k mid new l m h d e =
    e ∙ ap (put ((128 + value % 128) ∷ [])) d ∙ put_put ((128 + value % 128) ∷ []) (leb plain limit (value / 128)) k ∙ ap (λ xs. put xs k) (sym (leb-large plain limit (omega (arith, l)) m value h))

-- ---- a length in front of what it measures

measured : (k : Kept) (body : List ℕ) (start end : ℕ) → Taken k start → Taken (put body k) end → put (uleb (end - start)) (put body k) ≡ put (framed body) k
measured (counted room n) body start end s e = elim (cases_lt room (length body)) [
  | inl h ↦ ap (put (uleb (end - start))) (no_room_counted room n body h) ∙ stays_full _ ∙ sym (no_room_counted room n (framed body) (omega (arith, length-append (uleb (length body)) body, h)))
  | inr h ↦
      let taken : end ≡ length body + n = subst (λ k. Taken k end) (room_counted room n body h) e in
      let size : end - start ≡ length body = omega (arith, taken, s) in
      ap (λ l. put (uleb l) (put body (counted room n))) size ∙ put_put (uleb (length body)) body (counted room n)
]
measured (written room ys) body start end s e = elim (cases_lt room (length body)) [
  | inl h ↦ ap (put (uleb (end - start))) (no_room_written room body ys h) ∙ stays_full _ ∙ sym (no_room_written room (framed body) ys (omega (arith, length-append (uleb (length body)) body, h)))
  | inr h ↦
      let taken : end ≡ length (body ++ ys) = subst (λ k. Taken k end) (room_written room body ys h) e in
      let size : end - start ≡ length body = omega (arith, taken, s, length-append body ys) in
      ap (λ l. put (uleb l) (put body (written room ys))) size ∙ put_put (uleb (length body)) body (written room ys)
]
measured full body start end s e = ap (put (uleb (end - start))) (stays_full body) ∙ stays_full _ ∙ sym (stays_full (framed body))

pub closes : (old now new k : Kept) (body : List ℕ) (start end size : ℕ) → old ≡ now → Taken now end → size ≡ end - start → new ≡ put (uleb size) old → Taken k start → old ≡ put body k → new ≡ put (framed body) k
closes old now new k body start end size same t l e s b =
    e ∙ ap (λ n. put (uleb n) old) l ∙ ap (put (uleb (end - start))) b ∙ measured k body start end s (subst (λ q. Taken q end) (sym same ∙ b) t)

-- ---- a count

pub count_is : (n : ℕ) → n < 18_446_744_073_709_551_615 → count_kept n ≡ counted (18_446_744_073_709_551_614 - n) n
count_is n h = rw (lt-ltb n 18_446_744_073_709_551_615 h) refl

count_full : (n : ℕ) → 18_446_744_073_709_551_615 ≤ n → count_kept n ≡ full
count_full n h = rw (le-ltb n 18_446_744_073_709_551_615 h) refl

pub more_counted : (n k new : ℕ) (xs : List ℕ) → length xs ≡ k → new ≡ min (n + k) 18_446_744_073_709_551_615 → count_kept new ≡ put xs (count_kept n)
more_counted n k new xs l e = elim (cases_lt n 18_446_744_073_709_551_615) [
  | inl less ↦ elim (cases_lt (18_446_744_073_709_551_614 - n) (length xs)) [
    | inl over ↦ count_full new (omega (arith, less, over, l, e)) ∙ sym (ap (put xs) (count_is n less) ∙ no_room_counted (18_446_744_073_709_551_614 - n) n xs over)
    | inr fits ↦
        let sum : new ≡ n + length xs = omega (arith, less, fits, l, e) in
        count_is new (omega (arith, sum, less, fits)) ∙ counts _ _ _ _ (omega (arith, sum, less, fits)) (omega (arith, sum)) ∙ sym (ap (put xs) (count_is n less) ∙ room_counted (18_446_744_073_709_551_614 - n) n xs fits)
  ]
  | inr most ↦ count_full new (omega (arith, most, e)) ∙ sym (ap (put xs) (count_full n most) ∙ stays_full xs)
]

pub count_taken : (n : ℕ) → Taken (count_kept n) n
count_taken n = elim (cases_lt n 18_446_744_073_709_551_615) [
  | inl less ↦ subst (λ k. Taken k n) (sym (count_is n less)) refl
  | inr most ↦ subst (λ k. Taken k n) (sym (count_full n most)) tt
]

-- ---- a buffer

pub buffer_is : (items : List ℕ) (at : ℕ) → at ≤ length items → buffer_kept items at false ≡ written at (drop at items)
buffer_is items at h = rw (le-ltb (length items) at h) refl

pub buffer_outside : (items : List ℕ) (at : ℕ) → length items < at → buffer_kept items at false ≡ full
buffer_outside items at h = rw (lt-ltb (length items) at h) refl

pub buffer_short : (items : List ℕ) (at : ℕ) (f : Bool) (xs : List ℕ) → at < length xs → full ≡ put xs (buffer_kept items at f)
buffer_short items at true xs h = sym (stays_full xs)
buffer_short items at false xs h = elim (cases_lt (length items) at) [
  | inl o ↦ sym (ap (put xs) (buffer_outside items at o) ∙ stays_full xs)
  | inr i ↦ sym (ap (put xs) (buffer_is items at i) ∙ no_room_written at xs (drop at items) h)
]

pub buffer_passed : (items : List ℕ) (at : ℕ) (f : Bool) (xs : List ℕ) → length items < at → full ≡ put xs (buffer_kept items at f)
buffer_passed items at true xs h = sym (stays_full xs)
buffer_passed items at false xs h = sym (ap (put xs) (buffer_outside items at h) ∙ stays_full xs)

pub buffer_put : (items new : List ℕ) (at less : ℕ) (f : Bool) (xs : List ℕ) → at ≤ length items → length new ≡ length items → less + length xs ≡ at → drop less new ≡ xs ++ drop at items → buffer_kept new less f ≡ put xs (buffer_kept items at f)
buffer_put items new at less true xs h l e d = sym (stays_full xs)
buffer_put items new at less false xs h l e d =
    buffer_is new less (omega (arith, h, l, e)) ∙ writes _ _ _ _ (omega (arith, e)) d
    ∙ sym (ap (put xs) (buffer_is items at h) ∙ room_written at xs (drop at items) (omega (arith, e)))

-- a byte at the place before
pub byte_lost : (items : List ℕ) (at before : ℕ) (f : Bool) (x : ℕ) → (0 < at → before + 1 ≡ at) → length items ≤ before → full ≡ put (x ∷ []) (buffer_kept items at f)
byte_lost items zero before f x e h = buffer_short items 0 f (x ∷ []) (omega arith)
byte_lost items (suc at) before f x e h = let is = e (omega arith) in buffer_passed items (suc at) f (x ∷ []) (omega (arith, is, h))

pub byte_put : (items : List ℕ) (at before : ℕ) (f : Bool) (x : ℕ) → (at ≡ 0 → before ≡ 18_446_744_073_709_551_615) → (0 < at → before + 1 ≡ at) → length items < 18_446_744_073_709_551_616 → before < length items → buffer_kept (slice_set items before x) before f ≡ put (x ∷ []) (buffer_kept items at f)
byte_put items zero before f x z e l h = let is = z refl in absurd (omega (arith, is, l, h))
byte_put items (suc at) before f x z e l h =
    let is = e (omega arith) in
    buffer_put items (slice_set items before x) (suc at) before f (x ∷ []) (omega (arith, is, h)) (length-set items before x) is
    (drop-set_at items before before x refl h ∙ ap (λ n. x ∷ drop n items) is)

pub buffer_taken : (items : List ℕ) (at : ℕ) (f : Bool) (n : ℕ) → at ≤ length items → n ≡ length items - at → Taken (buffer_kept items at f) n
buffer_taken items at true n h e = tt
buffer_taken items at false n h e = subst (λ k. Taken k n) (sym (buffer_is items at h)) (e ∙ sym (length-drop at items))

pub buffer_lost : (items : List ℕ) (at : ℕ) (f : Bool) (n : ℕ) → length items < at → Taken (buffer_kept items at f) n
buffer_lost items at true n h = tt
buffer_lost items at false n h = subst (λ k. Taken k n) (sym (buffer_outside items at h)) tt

-- bytes over those in front of a place
none_dropped : {A : Type 0} (n : ℕ) → drop {A = A} n [] ≡ []
none_dropped zero = refl
none_dropped (suc n) = refl

drop_both : {A : Type 0} (p n : ℕ) (xs : List A) → drop n (drop p xs) ≡ drop (p + n) xs
drop_both zero n xs = let e : 0 + n ≡ n = omega arith in sym (ap (λ k. drop k xs) e)
drop_both (suc p) n [] = none_dropped n ∙ sym (none_dropped (suc p + n))
drop_both (suc p) n (x ∷ xs) = let e : suc p + n ≡ suc (p + n) = omega arith in drop_both p n xs ∙ sym (ap (λ k. drop k (x ∷ xs)) e)

pub overwritten : (items xs : List ℕ) (at less n : ℕ) → at ≤ length items → less + length xs ≡ at → n ≡ at - less → drop less (put_mid less n items xs) ≡ xs ++ drop at items
overwritten items xs at less n h l e =
    drop_at (take less items) (xs ++ drop n (drop less items)) less (length-take-le less items (omega (arith, h, l)))
    ∙ ap (λ q. xs ++ q) (drop_both less n items ∙ let k : less + n ≡ at = omega (arith, l, e) in ap (λ j. drop j items) k)

pub same_size : (items xs : List ℕ) (at less n : ℕ) → at ≤ length items → less + length xs ≡ at → n ≡ at - less → length (put_mid less n items xs) ≡ length items
same_size items xs at less n h l e =
    let a = length-append (take less items) (xs ++ drop n (drop less items)) in
    let b = length-append xs (drop n (drop less items)) in
    let c = length-take-le less items (omega (arith, h, l)) in
    let d = length-drop n (drop less items) in
    let f = length-drop less items in
    omega (arith, a, b, c, d, f, h, l, e)

-- the whole of a vector stands for what was lent of it
pub lent_back : (items new : List ℕ) (len : ℕ) → len ≡ length items → length new ≡ length items → take len (new ++ drop (length new) items) ≡ new
lent_back items new len e f = take_at new (drop (length new) items) len (f ∙ sym e)
