-- What a name of the text denotes in a stack of scopes and in their expansions: in both the same part of the same written definition, as
-- many scopes outward. No indices are spoken of here, since these hang on which names share an alias.
use Rattle.std.proofs.Common.{◌≡◌, ℕ, zero, suc, ◌+◌, ◌≤◌, Bool, true, false, ◌&&◌, List, [], ◌∷◌, length, drop, Option, Some, None, refl, sym, ◌∙◌, ap, subst, arith, nat_eq}
use Rattle.std.proofs.lemmas.Bool.{eqb-true, eq-eqb}
use Rattle.comp_model.specs.declared.Space.{Space}
use Rattle.comp_model.specs.Core.{Id, Place, counted, named, Reach, outward, own, at_place}
use Rattle.comp_model.specs.Model.{Scope, scope_of}
use Rattle.comp_model.specs.Spaces.{Declaration, bears, declared}
use Rattle.comp_model.specs.Origins.{Origin, written}
use Rattle.comp_model.proofs.Tests.{same_origin-refl}
use Rattle.comp_scopes.specs.Names.{Denoted, at_depth, first_of_two, denotes_outward, declared_at, scope_named, depth_of, at_that_depth, denotes}
use Rattle.comp_scopes.specs.Outward.{same_item}
use Rattle.comp_scopes.proofs.Counting.{hit}
use Rattle.comp_expanded.specs.Expansion.{Naming, given_to_scope, Entry, expand_exports, expand_list, expand}
use Rattle.comp_expanded.specs.TextNumbers.{origin_at}
use Rattle.comp_expanded.specs.OfText.{TextId, TextReach, TextPlace}
use Rattle.comp_expanded.specs.Named.{MayBeGiven}
use Rattle.comp_expanded.proofs.Stacks.{expand_stack, AllNamed}
use Rattle.comp_expanded.proofs.Parts.{declares-expand}
use Rattle.comp_expanded.proofs.Ids.{text-generated, Found, Holds, find-defs, exports-bare}
use Rattle.comp_expanded.proofs.Once.{tally}

-- the list of the innermost scope
abbrev pub list_here : List Naming → List Scope → List Entry
list_here [] st = []
list_here (g ∷ gs) [] = []
list_here (g ∷ gs) (c ∷ st) = expand_list g c

-- the definition of a list in which a definition of the text stands
abbrev pub StandsIn : List Entry → ℕ → ℕ → Type 0
StandsIn xs j k = origin_at xs j ≡ written k

-- the same part of the same definition at the same depth, or nothing in both
abbrev pub Answers : List Naming → List Scope → Option Denoted → Option Denoted → Type 0
Answers gs st None None = Unit {0}
Answers gs st None (Some e) = ⊥
Answers gs st (Some d) None = ⊥
Answers gs st (Some d) (Some e) = (e.depth ≡ d.depth) × (e.item.part ≡ d.item.part) × StandsIn (list_here (drop d.depth gs) (drop d.depth st)) e.item.definition d.item.definition

-- ---- one scope

holds-here : (s : Space) (x : Id) (t : TextId x) (g : Naming) (c : Scope) (gs : List Entry) (j : ℕ) (xs : List Entry) → ((i : ℕ) → origin_at gs (j + i) ≡ origin_at xs i) → Holds s x t (StandsIn gs) g c (declares-expand g c) j xs
holds-here s x t g c gs j [] f = tt
holds-here s x t g c gs j (y ∷ ys) f =
    let z : j + 0 ≡ j = omega arith in
    (λ k e. subst (λ n. origin_at gs n ≡ y.origin) z (f 0) ∙ e, holds-here s x t g c gs (j + 1) ys (λ i. ap (origin_at gs) (omega arith) ∙ f (suc i)))

scope-answers : (g : Naming) (c : Scope) (gs : List Naming) (st : List Scope) → AllNamed (g ∷ gs) (c ∷ st) → (s : Space) (x : Id) → TextId x → Found (StandsIn (expand_list g c)) (declared c s x) (declared (expand g c) s x)
scope-answers g (scope_of kd id label ds) gs st all s x t =
    find-defs s x t (StandsIn (expand_list g (scope_of kd id label ds))) g (scope_of kd id label ds) (declares-expand g (scope_of kd id label ds)) 0 0 ds (expand_exports g 0 ds) all.0.2.0 (exports-bare g 0 ds)
    (holds-here s x t g (scope_of kd id label ds) (expand_list g (scope_of kd id label ds)) 0 (expand_list g (scope_of kd id label ds)) (λ i. ap (origin_at (expand_list g (scope_of kd id label ds))) (omega arith)))

-- a given id of a scope is none of the text
scope-bears : (x : Id) (id y : Option Id) → TextId x → MayBeGiven y → bears x (first_of_two id y) ≡ bears x id
scope-bears x (Some z) y t h = refl
scope-bears x None None t h = refl
scope-bears x None (Some y) t h = text-generated x y t h

-- ---- a stack

drop-next : {A : Type 0} (n : ℕ) (st : List A) (c : A) (rest : List A) → drop n st ≡ c ∷ rest → drop (n + 1) st ≡ rest
drop-next {A} n st c rest h = let z : n + 1 ≡ suc n = omega arith in rw z (go n st h)
  where
    go : (m : ℕ) (xs : List A) → drop m xs ≡ c ∷ rest → drop (suc m) xs ≡ rest
    go zero [] e = absurd (cc)
    go zero (x ∷ xs) e = cc
    go (suc m) [] e = absurd (cc)
    go (suc m) (x ∷ xs) e = go m xs e

module _ (gs : List Naming) (st : List Scope) where
  level-answers : (n : ℕ) (g : Naming) (c : Scope) (hs : List Naming) (rest : List Scope) → drop n gs ≡ g ∷ hs → drop n st ≡ c ∷ rest → (a b : Option Declaration) → Found (StandsIn (expand_list g c)) a b → Answers gs st (at_depth n a) (at_depth n b)
  level-answers n g c hs rest e f None None h = tt
  level-answers n g c hs rest e f None (Some b) h = absurd h
  level-answers n g c hs rest e f (Some a) None h = absurd h
  level-answers n g c hs rest e f (Some a) (Some b) h = (refl, h.0, rw (e, f) h.1)

  first-answers : (a b v w : Option Denoted) → Answers gs st a b → Answers gs st v w → Answers gs st (first_of_two a v) (first_of_two b w)
  first-answers None None v w h i = i
  first-answers None (Some b) v w h i = absurd h
  first-answers (Some a) None v w h i = absurd h
  first-answers (Some a) (Some b) v w h i = h

  outward-answers : (n : ℕ) (hs : List Naming) (sr : List Scope) (s : Space) (x : Id) → drop n gs ≡ hs → drop n st ≡ sr → AllNamed hs sr → TextId x → Answers gs st (denotes_outward n sr s x) (denotes_outward n (expand_stack hs sr) s x)
  outward-answers n [] [] s x e f a t = tt
  outward-answers n [] (c ∷ sr) s x e f a t = absurd a
  outward-answers n (g ∷ hs) [] s x e f a t = absurd a
  outward-answers n (g ∷ hs) (c ∷ sr) s x e f a t =
      first-answers (at_depth n (declared c s x)) (at_depth n (declared (expand g c) s x)) (denotes_outward (n + 1) sr s x) (denotes_outward (n + 1) (expand_stack hs sr) s x)
      (level-answers n g c hs sr e f (declared c s x) (declared (expand g c) s x) (scope-answers g c hs sr a s x t)) (outward-answers (n + 1) hs sr s x (drop-next n gs g hs e) (drop-next n st c sr f) a.1 t)

  at-answers : (n : ℕ) (hs : List Naming) (sr : List Scope) (i : ℕ) (s : Space) (x : Id) → drop n gs ≡ hs → drop n st ≡ sr → AllNamed hs sr → TextId x → Answers gs st (declared_at n sr i s x) (declared_at n (expand_stack hs sr) i s x)
  at-answers n [] [] i s x e f a t = tt
  at-answers n [] (c ∷ sr) i s x e f a t = absurd a
  at-answers n (g ∷ hs) [] i s x e f a t = absurd a
  at-answers n (g ∷ hs) (c ∷ sr) zero s x e f a t = level-answers n g c hs sr e f (declared c s x) (declared (expand g c) s x) (scope-answers g c hs sr a s x t)
  at-answers n (g ∷ hs) (c ∷ sr) (suc i) s x e f a t = at-answers (n + 1) hs sr i s x (drop-next n gs g hs e) (drop-next n st c sr f) a.1 t

length-same : (gs : List Naming) (st : List Scope) → AllNamed gs st → length st ≡ length (expand_stack gs st)
length-same [] [] a = refl
length-same [] (c ∷ st) a = absurd a
length-same (g ∷ gs) [] a = absurd a
length-same (g ∷ gs) (c ∷ st) a = ap suc (length-same gs st a.1)

named-same : (n : ℕ) (gs : List Naming) (st : List Scope) (x : Id) → TextId x → AllNamed gs st → scope_named n st x ≡ scope_named n (expand_stack gs st) x
named-same n [] [] x t a = refl
named-same n [] (c ∷ st) x t a = absurd a
named-same n (g ∷ gs) [] x t a = absurd a
named-same n (g ∷ gs) (scope_of kd id label ds ∷ st) x t a = rw (scope-bears x id (given_to_scope g) t a.0.2.2, named-same (n + 1) gs st x t a.1) refl

depth-same : (gs : List Naming) (st : List Scope) (p : Place) → TextPlace p → AllNamed gs st → depth_of st p ≡ depth_of (expand_stack gs st) p
depth-same gs st (counted o d) t a = rw (length-same gs st a) refl
depth-same gs st (named o x) t a = named-same 0 gs st x t a

that-answers : (gs : List Naming) (st : List Scope) (o : Option ℕ) (s : Space) (x : Id) → AllNamed gs st → TextId x → Answers gs st (at_that_depth st o s x) (at_that_depth (expand_stack gs st) o s x)
that-answers gs st None s x a t = tt
that-answers gs st (Some d) s x a t = at-answers gs st 0 gs st d s x refl refl a t

pub denoted-answers : (gs : List Naming) (st : List Scope) (s : Space) (r : Reach) (x : Id) → AllNamed gs st → TextReach r → TextId x → Answers gs st (denotes st s r x) (denotes (expand_stack gs st) s r x)
denoted-answers gs st s outward x a r t = outward-answers gs st 0 gs st s x refl refl a t
denoted-answers gs st s own x a r t = at-answers gs st 0 gs st 0 s x refl refl a t
denoted-answers gs st s (at_place p) x a r t = rw (depth-same gs st p r a) (that-answers gs st (depth_of (expand_stack gs st) p) s x a t)

-- ---- two answers are one where they stand for one

-- a mark stands at one place of a list at most
abbrev pub OnceIn : List Entry → Type 0
OnceIn xs = (o : Origin) → tally o xs ≤ 1

stands-tallied : (xs : List Entry) (i k : ℕ) → StandsIn xs i k → 1 ≤ tally (written k) xs
stands-tallied [] i k h = absurd (cc)
stands-tallied (x ∷ xs) zero k h = let a : hit (written k) x.origin ≡ 1 = subst (λ o. hit (written k) o ≡ 1) (sym h) (rw (same_origin-refl (written k)) refl) in omega (arith, a)
stands-tallied (x ∷ xs) (suc i) k h = let a : 1 ≤ tally (written k) xs = stands-tallied xs i k h in omega (arith, a)

pub one-place : (xs : List Entry) (i j k : ℕ) → OnceIn xs → StandsIn xs i k → StandsIn xs j k → i ≡ j
one-place [] i j k o h e = absurd (cc)
one-place (x ∷ xs) zero zero k o h e = refl
one-place (x ∷ xs) zero (suc j) k o h e =
    let a : hit (written k) x.origin ≡ 1 = subst (λ p. hit (written k) p ≡ 1) (sym h) (rw (same_origin-refl (written k)) refl) in
    let b : 1 ≤ tally (written k) xs = stands-tallied xs j k e in
    let c : hit (written k) x.origin + tally (written k) xs ≤ 1 = o (written k) in absurd (omega (arith, a, b, c))
one-place (x ∷ xs) (suc i) zero k o h e =
    let a : hit (written k) x.origin ≡ 1 = subst (λ p. hit (written k) p ≡ 1) (sym e) (rw (same_origin-refl (written k)) refl) in
    let b : 1 ≤ tally (written k) xs = stands-tallied xs i k h in
    let c : hit (written k) x.origin + tally (written k) xs ≤ 1 = o (written k) in absurd (omega (arith, a, b, c))
one-place (x ∷ xs) (suc i) (suc j) k o h e = ap suc (one-place xs i j k (λ p. less p (o p)) h e)
  where
    less : (p : Origin) → hit p x.origin + tally p xs ≤ 1 → tally p xs ≤ 1
    less p q = omega (arith, q)

written-number : (i j : ℕ) → written i ≡ written j → i ≡ j
written-number i j h = ap number h
  where
    number : Origin → ℕ
    number (written k) = k
    number _ = 0

equal-both : (a b c d : ℕ) → (a ≡ b → c ≡ d) → (c ≡ d → a ≡ b) → nat_eq a b ≡ nat_eq c d
equal-both a b c d f g = go (nat_eq a b) (nat_eq c d) refl refl
  where
    go : (p q : Bool) → nat_eq a b ≡ p → nat_eq c d ≡ q → p ≡ q
    go true true e h = refl
    go false false e h = refl
    go true false e h = sym (eq-eqb c d (f (eqb-true a b e))) ∙ h
    go false true e h = sym e ∙ eq-eqb a b (g (eqb-true c d h))

abbrev pub AllOnce : List Naming → List Scope → Type 0
AllOnce gs st = (n : ℕ) → OnceIn (list_here (drop n gs) (drop n st))

pub same-answers : (gs : List Naming) (st : List Scope) (d e a b : Denoted) → AllOnce gs st → Answers gs st (Some d) (Some a) → Answers gs st (Some e) (Some b) → same_item a b ≡ same_item d e
same-answers gs st d e a b once h i = rw (h.0, i.0, h.1, i.1) (go (nat_eq d.depth e.depth) refl)
  where
    go : (q : Bool) → nat_eq d.depth e.depth ≡ q → (q && (nat_eq a.item.definition b.item.definition && nat_eq d.item.part e.item.part)) ≡ (q && (nat_eq d.item.definition e.item.definition && nat_eq d.item.part e.item.part))
    go false z = refl
    go true z =
        let f : d.depth ≡ e.depth = eqb-true d.depth e.depth z in
        let v : StandsIn (list_here (drop d.depth gs) (drop d.depth st)) b.item.definition e.item.definition = subst (λ n. StandsIn (list_here (drop n gs) (drop n st)) b.item.definition e.item.definition) (sym f) i.2 in
        ap (λ w. w && nat_eq d.item.part e.item.part) (equal-both a.item.definition b.item.definition d.item.definition e.item.definition
        (λ p. written-number d.item.definition e.item.definition (sym h.2 ∙ ap (origin_at (list_here (drop d.depth gs) (drop d.depth st))) p ∙ v))
        (λ p. one-place (list_here (drop d.depth gs) (drop d.depth st)) a.item.definition b.item.definition d.item.definition (once d.depth) h.2 (subst (λ k. StandsIn (list_here (drop d.depth gs) (drop d.depth st)) b.item.definition k) (sym p) v)))
