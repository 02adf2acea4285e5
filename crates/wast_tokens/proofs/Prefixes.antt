-- The longest front of a list whose elements pass a test, found by going over it.
use Rattle.std.proofs.Common.{◌≡◌, ℕ, ◌+◌, ◌<◌, ◌≤◌, Bool, true, false, List, length, drop, get_or, cond, ap, sym, ◌∙◌, ◌-◌, ⊎_elim, length-drop, arith}
use Rattle.std.proofs.lemmas.List.{drop_more, get_or-drop, get_or_past}
use Rattle.std.proofs.lemmas.Bool.{cases_lt}
use Rattle.std.proofs.lemmas.List.Sums.{prefix_len-drop_no, prefix_len-drop_all, prefix_len-le-length, prefix_len_passes, prefix_len_stops}
use Rattle.std.specs.List.{prefix_len}

-- where the elements from a place on that pass end
abbrev pub front_end : (ℕ → Bool) → List ℕ → ℕ → ℕ
front_end p xs a = a + prefix_len p (drop a xs)

pub front_more : (p : ℕ → Bool) (xs : List ℕ) (a : ℕ) → a < length xs → p (get_or xs a 0) ≡ true → front_end p xs a ≡ front_end p xs (a + 1)
front_more p xs a lt is =
    let e : prefix_len p (drop a xs) ≡ 1 + prefix_len p (drop (a + 1) xs) = ap (prefix_len p) (drop_more xs a 0 lt) ∙ ap (λ b. cond b (1 + prefix_len p (drop (a + 1) xs)) 0) is in
    omega (arith, e)

pub front_stop : (p : ℕ → Bool) (xs : List ℕ) (a : ℕ) → a < length xs → p (get_or xs a 0) ≡ false → front_end p xs a ≡ a
front_stop p xs a lt is = let e : prefix_len p (drop a xs) ≡ 0 = prefix_len-drop_no p xs a 0 lt is in omega (arith, e)

pub front_all : (p : ℕ → Bool) (xs : List ℕ) (a : ℕ) → length xs ≤ a → front_end p xs a ≡ a
front_all p xs a le = let e : prefix_len p (drop a xs) ≡ 0 = prefix_len-drop_all p xs a le in omega (arith, e)

pub front_within : (p : ℕ → Bool) (xs : List ℕ) (a : ℕ) → a ≤ length xs → front_end p xs a ≤ length xs
front_within p xs a le = let h = prefix_len-le-length p (drop a xs) in let e = length-drop a xs in omega (arith, h, e)

pub front_passes : (p : ℕ → Bool) (xs : List ℕ) (a k : ℕ) → a ≤ k → k < front_end p xs a → p (get_or xs k 0) ≡ true
front_passes p xs a k from below =
    let e : a + (k - a) ≡ k = omega arith in
    ap p (ap (λ n. get_or xs n 0) (sym e) ∙ sym (get_or-drop a xs (k - a) 0)) ∙ prefix_len_passes p (drop a xs) (k - a) 0 (omega arith)

pub front_stops : (p : ℕ → Bool) (xs : List ℕ) (a : ℕ) → p 0 ≡ false → p (get_or xs (front_end p xs a) 0) ≡ false
front_stops p xs a zero_no =
    ⊎_elim
    (λ lt. ap p (sym (get_or-drop a xs (prefix_len p (drop a xs)) 0)) ∙ prefix_len_stops p (drop a xs) 0 lt)
    (λ past. ap p (sym (get_or-drop a xs (prefix_len p (drop a xs)) 0) ∙ get_or_past (drop a xs) (prefix_len p (drop a xs)) 0 past) ∙ zero_no)
    (cases_lt (prefix_len p (drop a xs)) (length (drop a xs)))
