-- The class of a number, and tests of classes by their numbers.
use Rattle.std.proofs.Common.{◌≡◌, ℕ, zero, suc, ◌+◌, ◌-◌, ◌<◌, refl, ap, sym, ◌∙◌, List, [], ◌∷◌, length, take, drop, Bool, true, false, cond, ◌&&◌, not, nat_eq, nat_lt, nat_le, arith}
use Rattle.std.proofs.lemmas.Bool.Decides.{nat_tests}
use Rattle.wast_grammar.specs.Classes.{Class, same, among}
use Rattle.wast_grammar.proofs.Same.{same_is, same_itself}
use Rattle.token_codes.specs.Numbers.{classes, place_in, number, class_in, class, range, between}

and_parts : (a b : Bool) → (a && b) ≡ true → (a ≡ true) × (b ≡ true)
and_parts true b h = (refl, h)
and_parts false b h = absurd (cc)

not_true : (b : Bool) → not b ≡ true → b ≡ false
not_true true h = absurd (cc)
not_true false h = refl

plus_one : (n : ℕ) → n + 1 ≡ suc n
plus_one n = omega arith

place_so : (b : Bool) (d : Class) (ds : List Class) (c : Class) → same d c ≡ b → place_in (d ∷ ds) c ≡ cond b 0 (place_in ds c + 1)
place_so b d ds c e = ap (λ x. cond x 0 (place_in ds c + 1)) e

class_so : (b : Bool) (d : Class) (ds : List Class) (c : Class) → same d c ≡ b → place_in (d ∷ ds) c < length (d ∷ ds) → (place_in ds c < length ds → class_in ds (place_in ds c) ≡ c) → class_in (d ∷ ds) (place_in (d ∷ ds) c) ≡ c
class_so true d ds c e h k = ap (class_in (d ∷ ds)) (place_so true d ds c e) ∙ same_is d c e
class_so false d ds c e h k =
    let p : place_in (d ∷ ds) c ≡ suc (place_in ds c) = place_so false d ds c e ∙ plus_one (place_in ds c) in
    ap (class_in (d ∷ ds)) p ∙ k (omega (arith, p, h))

class_of_place : (cs : List Class) (c : Class) → place_in cs c < length cs → class_in cs (place_in cs c) ≡ c
class_of_place [] c h = absurd (omega arith)
class_of_place (d ∷ ds) c h = class_so (same d c) d ds c refl h (class_of_place ds c)

number_as : (c : Class) → place_in classes c ≡ number c
unfolding number
number_as c = refl

-- what has a number below the last is the class of that number
pub class_of_number : (c : Class) → number c < 149 → class (number c) ≡ c
unfolding number
class_of_number c h = class_of_place classes c h

-- ---- no class stands twice

-- whether a class is in a list, as a class in a list is looked for
abbrev within : List Class → Class → Bool
within [] c = false
within (d ∷ ds) c = cond (same d c) true (within ds c)

other_way : (x : Bool) (a b : Class) → same b a ≡ x → same a b ≡ false → x ≡ false
other_way false a b h k = refl
other_way true a b h k = let e : same a b ≡ true = ap (λ c. same a c) (same_is b a h) ∙ same_itself a in absurd (cc)

same_turned : (a b : Class) (x : Bool) → same a b ≡ x → same b a ≡ x
same_turned a b true h = ap (λ c. same b c) (same_is a b h) ∙ same_itself b
same_turned a b false h = other_way (same b a) a b refl h

among_within : (cs : List Class) (c : Class) → among cs c ≡ within cs c
among_within [] c = refl
among_within (d ∷ ds) c = ap (λ x. cond x true (among ds c)) (same_turned d c (same d c) refl) ∙ ap (λ x. cond (same d c) true x) (among_within ds c)

distinct : List Class → Bool
distinct [] = true
distinct (d ∷ ds) = not (within ds d) && distinct ds

classes_are_distinct : distinct classes ≡ true
unfolding distinct
classes_are_distinct = refl

in_list : (ds : List Class) (n : ℕ) → n < length ds → within ds (class_in ds n) ≡ true
in_list [] n h = absurd (omega arith)
in_list (d ∷ ds) zero h = ap (λ x. cond x true (within ds d)) (same_itself d)
in_list (d ∷ ds) (suc n) h = later_in (same d (class_in ds n)) (within ds (class_in ds n)) (in_list ds n (omega arith))
  where
    later_in : (a b : Bool) → b ≡ true → cond a true b ≡ true
    later_in true b h = refl
    later_in false b h = h

apart : (b : Bool) (d : Class) (ds : List Class) (n : ℕ) → same d (class_in ds n) ≡ b → within ds d ≡ false → n < length ds → b ≡ false
apart false d ds n e h l = refl
apart true d ds n e h l = let p : within ds d ≡ true = ap (within ds) (same_is d (class_in ds n) e) ∙ in_list ds n l in absurd (cc)

place_of_class : (cs : List Class) (n : ℕ) → distinct cs ≡ true → n < length cs → place_in cs (class_in cs n) ≡ n
unfolding distinct
place_of_class [] n h l = absurd (omega arith)
place_of_class (d ∷ ds) zero h l = place_so true d ds d (same_itself d)
place_of_class (d ∷ ds) (suc n) h l =
    let p = and_parts (not (within ds d)) (distinct ds) h in
    let q = apart (same d (class_in ds n)) d ds n refl (not_true (within ds d) p.0) (omega arith) in
    let r = place_of_class ds n p.1 (omega arith) in
    place_so false d ds (class_in ds n) q ∙ omega (arith, r)

-- the class of a number has that number
pub number_of_class : (n : ℕ) → n < 149 → number (class n) ≡ n
unfolding number
number_of_class n h = place_of_class classes n classes_are_distinct h

nat_eq_is : (m n : ℕ) → nat_eq m n ≡ true → m ≡ n
nat_eq_is m n h = grind (arith, nat_tests)

nat_eq_so : (m n : ℕ) → m ≡ n → nat_eq m n ≡ true
nat_eq_so m n h = grind (arith, nat_tests)

told_so : (a b : Bool) (n : ℕ) (c : Class) → same (class n) c ≡ a → nat_eq (number c) n ≡ b → n < 149 → a ≡ b
told_so true true n c e f h = refl
told_so false false n c e f h = refl
told_so true false n c e f h = let p : number c ≡ n = ap number (sym (same_is (class n) c e)) ∙ number_of_class n h in let q = nat_eq_so (number c) n p in absurd (cc)
told_so false true n c e f h =
    let p = nat_eq_is (number c) n f in
    let q : class n ≡ c = ap class (sym p) ∙ class_of_number c (omega (arith, p, h)) in
    let r : same (class n) c ≡ true = ap (same (class n)) (sym q) ∙ same_itself (class n) in
    absurd (cc)

-- a token is of a class exactly if it has its number
pub told_by_number : (n : ℕ) (c : Class) → n < 149 → same (class n) c ≡ nat_eq (number c) n
told_by_number n c h = told_so (same (class n) c) (nat_eq (number c) n) n c refl refl h

pub told_by_number_too : (n : ℕ) (c : Class) → n < 149 → same c (class n) ≡ nat_eq (number c) n
told_by_number_too n c h = same_turned (class n) c (same (class n) c) refl ∙ told_by_number n c h

-- ---- ranges

nothing_within : (k a : ℕ) (c : Class) → within (take k (drop a [])) c ≡ false
nothing_within zero zero c = refl
nothing_within zero (suc a) c = refl
nothing_within (suc k) zero c = refl
nothing_within (suc k) (suc a) c = refl

or_false : (b x : Bool) → cond b true x ≡ false → (b ≡ false) × (x ≡ false)
or_false true x h = absurd (cc)
or_false false x h = (refl, h)

not_within : (ds : List Class) (k a : ℕ) (c : Class) → within ds c ≡ false → within (take k (drop a ds)) c ≡ false
not_within [] k a c h = nothing_within k a c
not_within (d ∷ ds) zero a c h = refl
not_within (d ∷ ds) (suc k) zero c h =
    let p = or_false (same d c) (within ds c) h in
    ap (λ x. cond x true (within (take k ds) c)) p.0 ∙ not_within ds k zero c p.1
not_within (d ∷ ds) (suc k) (suc a) c h = not_within ds (suc k) a c (or_false (same d c) (within ds c) h).1

-- from a on, k of so many
abbrev inside : ℕ → ℕ → ℕ → ℕ → Bool
inside a k n most = nat_le a n && (nat_lt n (a + k) && nat_lt n most)

i1 : (a k l : ℕ) → inside (suc a) k 0 l ≡ false
i1 a k l = grind (arith, nat_tests)

i2 : (a k n l : ℕ) → inside (suc a) k (n + 1) (suc l) ≡ inside a k n l
i2 a k n l = grind (arith, nat_tests)

i3 : (n l : ℕ) → inside 0 0 n l ≡ false
i3 n l = grind (arith, nat_tests)

i4 : (k l : ℕ) → true ≡ inside 0 (suc k) 0 (suc l)
i4 k l = grind (arith, nat_tests)

i5 : (k n l : ℕ) → inside 0 (suc k) (n + 1) (suc l) ≡ inside 0 k n l
i5 k n l = grind (arith, nat_tests)

between_is : (a b n : ℕ) → inside a (b + 1 - a) n 149 ≡ between a n b
between_is a b n = grind (arith, nat_tests)

later_so : (b : Bool) (d : Class) (ds : List Class) (k a : ℕ) (c : Class) → same d c ≡ b → within ds d ≡ false
    → within (take k (drop a ds)) c ≡ inside a k (place_in ds c) (length ds)
    → within (take k (drop a ds)) c ≡ inside (suc a) k (place_in (d ∷ ds) c) (suc (length ds))
later_so true d ds k a c e h r =
    not_within ds k a c (ap (within ds) (sym (same_is d c e)) ∙ h)
    ∙ (sym (i1 a k (suc (length ds))) ∙ sym (ap (λ p. inside (suc a) k p (suc (length ds))) (place_so true d ds c e)))
later_so false d ds k a c e h r =
    r ∙ (sym (i2 a k (place_in ds c) (length ds)) ∙ sym (ap (λ p. inside (suc a) k p (suc (length ds))) (place_so false d ds c e)))

first_so : (b : Bool) (d : Class) (ds : List Class) (k : ℕ) (c : Class) → same d c ≡ b
    → within (take k ds) c ≡ inside 0 k (place_in ds c) (length ds)
    → cond b true (within (take k ds) c) ≡ inside 0 (suc k) (place_in (d ∷ ds) c) (suc (length ds))
first_so true d ds k c e r = i4 k (length ds) ∙ sym (ap (λ p. inside 0 (suc k) p (suc (length ds))) (place_so true d ds c e))
first_so false d ds k c e r = r ∙ (sym (i5 k (place_in ds c) (length ds)) ∙ sym (ap (λ p. inside 0 (suc k) p (suc (length ds))) (place_so false d ds c e)))

none_inside : (a k : ℕ) → inside a k 0 0 ≡ false
none_inside a k = grind (arith, nat_tests)

range_is : (cs : List Class) (k a : ℕ) (c : Class) → distinct cs ≡ true → within (take k (drop a cs)) c ≡ inside a k (place_in cs c) (length cs)
unfolding distinct
range_is [] k a c h = nothing_within k a c ∙ sym (none_inside a k)
range_is (d ∷ ds) k (suc a) c h =
    let p = and_parts (not (within ds d)) (distinct ds) h in
    later_so (same d c) d ds k a c refl (not_true (within ds d) p.0) (range_is ds k a c p.1)
range_is (d ∷ ds) zero zero c h = sym (i3 (place_in (d ∷ ds) c) (suc (length ds)))
range_is (d ∷ ds) (suc k) zero c h =
    let p = and_parts (not (within ds d)) (distinct ds) h in
    first_so (same d c) d ds k c refl (range_is ds k zero c p.1)

-- a token is of a class from one number to another exactly if its number is
pub among_range : (a b : ℕ) (c : Class) → among (range a b) c ≡ between a (number c) b
among_range a b c =
    among_within (range a b) c ∙ (range_is classes (b + 1 - a) a c classes_are_distinct
    ∙ (ap (λ n. inside a (b + 1 - a) n 149) (number_as c) ∙ between_is a b (number c)))
