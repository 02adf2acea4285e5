-- What stands at a place, and behind it.
use Rattle.std.proofs.Common.{◌≡◌, ℕ, zero, suc, ◌+◌, ◌-◌, ◌<◌, ◌≤◌, List, [], ◌∷◌, ◌++◌, length, length-take, length-drop, length-append, take, drop, get_or, refl, sym, ◌∙◌, ap, arith, append_assoc}
use Rattle.std.proofs.lemmas.List.{drop_more}
use Rattle.wire_read.specs.Place.{Place, IsPlace, rest, bytes_at, moved, Takes}
use Rattle.wire_read.specs.RowAt.{byte_ahead}

pub rest_length : (p : Place) → IsPlace p → length (rest p) ≡ p.end - p.at
rest_length p h = omega (arith, length-take (p.end - p.at) (drop p.at p.bytes), length-drop p.at p.bytes, h.0, h.1)

take_none : {A : Type 0} (n : ℕ) (xs : List A) → n ≡ 0 → take n xs ≡ []
take_none zero xs e = refl
take_none (suc n) xs e = absurd (omega (arith, e))

pub no_rest : (p : Place) → p.end ≤ p.at → rest p ≡ []
no_rest p h = take_none (p.end - p.at) (drop p.at p.bytes) (omega (arith, h))

pub take_split : {A : Type 0} (n k : ℕ) (xs : List A) → k ≤ n → take n xs ≡ take k xs ++ take (n - k) (drop k xs)
take_split n zero xs h = let e : n ≡ n - 0 = omega arith in ap (λ k. take k xs) e
take_split zero (suc k) xs h = absurd (omega (arith, h))
take_split (suc n) (suc k) [] h = sym (take_empty (suc n - suc k))
  where
    take_empty : {A : Type 0} (n : ℕ) → take {A = A} n [] ≡ []
    take_empty zero = refl
    take_empty (suc n) = refl
take_split (suc n) (suc k) (x ∷ xs) h =
    let e : n - k ≡ suc n - suc k = omega arith in
    ap (λ z. x ∷ z) (take_split n k xs (omega (arith, h))) ∙ ap (λ i. x ∷ (take k xs ++ take i (drop k xs))) e

drop_empty : {A : Type 0} (n : ℕ) → drop {A = A} n [] ≡ []
drop_empty zero = refl
drop_empty (suc n) = refl

drop_drop : {A : Type 0} (n k : ℕ) (xs : List A) → drop k (drop n xs) ≡ drop (n + k) xs
drop_drop zero k xs = let e : k ≡ 0 + k = omega arith in ap (λ i. drop i xs) e
drop_drop (suc n) k [] = drop_empty k ∙ sym (drop_empty (suc n + k))
drop_drop (suc n) k (x ∷ xs) = let e : suc (n + k) ≡ suc n + k = omega arith in drop_drop n k xs ∙ ap (λ i. drop i (x ∷ xs)) e

-- so many bytes, and those behind them
pub skipped : (p : Place) (n : ℕ) → IsPlace p → n ≤ p.end - p.at → Takes p (moved p n) (bytes_at p.bytes p.at n)
skipped p n h l =
    let long : length (bytes_at p.bytes p.at n) ≡ n = omega (arith, length-take n (drop p.at p.bytes), length-drop p.at p.bytes, h.0, h.1, l) in
    record {
      same = ap (moved p) (sym long);
      taken = take_split (p.end - p.at) n (drop p.at p.bytes) l
          ∙ ap (λ xs. bytes_at p.bytes p.at n ++ take (p.end - p.at - n) xs) (drop_drop p.at n p.bytes)
          ∙ ap (λ k. bytes_at p.bytes p.at n ++ take k (drop (p.at + n) p.bytes)) (omega arith);
    }

-- one byte, and those behind it
pub one_byte : (p : Place) (b : ℕ) → p.at < p.end → IsPlace p → b ≡ get_or p.bytes p.at b → Takes p (moved p 1) (b ∷ [])
one_byte p b l h e =
    let s = skipped p 1 h (omega (arith, l)) in
    let here : bytes_at p.bytes p.at 1 ≡ b ∷ [] = ap (take 1) (drop_more p.bytes p.at b (omega (arith, l, h.1))) ∙ ap (λ x. x ∷ []) (sym e) in
    record { same = refl; taken = s.taken ∙ ap (λ xs. xs ++ rest (moved p 1)) here }

pub takes_two : (p q r : Place) (xs ys : List ℕ) → Takes p q xs → Takes q r ys → Takes p r (xs ++ ys)
takes_two p q r xs ys s t =
    record {
      same = t.same ∙ ap (λ z. moved z (length ys)) s.same ∙ ap (λ a. record { bytes = p.bytes; at = a; end = p.end }) (omega (arith, length-append xs ys));
      taken = s.taken ∙ ap (λ z. xs ++ z) t.taken ∙ sym (append_assoc xs ys (rest r));
    }

pub takes_none : (p : Place) → Takes p p []
takes_none p = let e : p.at ≡ p.at + 0 = omega arith in record { same = ap (λ a. record { bytes = p.bytes; at = a; end = p.end }) e; taken = refl }

-- the byte behind others, and none behind the end
behind : (xs ys : List ℕ) (b : ℕ) → byte_ahead (xs ++ b ∷ ys) (length xs) ≡ b
behind [] ys b = refl
behind (x ∷ xs) ys b = behind xs ys b

ahead_end : (xs : List ℕ) (n : ℕ) → length xs ≤ n → byte_ahead xs n ≡ 256
ahead_end [] n h = refl
ahead_end (x ∷ xs) zero h = absurd (omega (arith, h))
ahead_end (x ∷ xs) (suc n) h = ahead_end xs n (omega (arith, h))

pub ahead_there : (p : Place) (n b : ℕ) → IsPlace p → n < p.end - p.at → b ≡ get_or p.bytes (p.at + n) b → b ≡ byte_ahead (rest p) n
ahead_there p n b h l e =
    let s = skipped p n h (omega (arith, l)) in
    let long : length (bytes_at p.bytes p.at n) ≡ n = omega (arith, length-take n (drop p.at p.bytes), length-drop p.at p.bytes, h.0, h.1, l) in
    let t = one_byte (moved p n) b (omega (arith, l)) (omega (arith, l), h.1) e in
    sym (behind (bytes_at p.bytes p.at n) (rest (moved (moved p n) 1)) b)
    ∙ ap (λ k. byte_ahead (bytes_at p.bytes p.at n ++ b ∷ rest (moved (moved p n) 1)) k) long
    ∙ ap (λ xs. byte_ahead (bytes_at p.bytes p.at n ++ xs) n) (sym t.taken)
    ∙ ap (λ xs. byte_ahead xs n) (sym s.taken)

pub ahead_behind : (p : Place) (n : ℕ) → IsPlace p → p.end - p.at ≤ n → 256 ≡ byte_ahead (rest p) n
ahead_behind p n h l = sym (ahead_end (rest p) n (omega (arith, rest_length p h, l)))

-- what stands for an element that isn't there plays no part where it is
pub any_default : (xs : List ℕ) (i d e : ℕ) → i < length xs → get_or xs i d ≡ get_or xs i e
any_default [] i d e h = absurd (omega (arith, h))
any_default (x ∷ xs) zero d e h = refl
any_default (x ∷ xs) (suc i) d e h = any_default xs i d e (omega (arith, h))
