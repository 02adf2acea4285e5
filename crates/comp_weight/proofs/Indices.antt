-- Each index in a form is below 2 ^ 32, where eight times the weight of each open scope is.
use Rattle.std.proofs.Common.{◌≡◌, ℕ, zero, suc, ◌+◌, ◌*◌, ◌<◌, ◌≤◌, ◌^◌, List, [], ◌∷◌, ◌++◌, length, drop, find, arith, Bool, true, false, ◌&&◌, cond, nat_lt, Option, Some, None}
use Rattle.std.specs.Prelude.{⊤, if◌then◌else◌}
use Rattle.std.proofs.lemmas.Bool.{lt-ltb}
use Rattle.comp_model.specs.declared.Space.{Space}
use Rattle.comp_model.specs.Core.{Id, Place, counted, named, Reach, own, outward, at_place}
use Rattle.comp_model.specs.CoreModules.{CoreModule}
use Rattle.comp_model.specs.Model.{row, define, Defs, no_def, one_def, Scope, scope_of, id_of}
use Rattle.comp_model.specs.Spaces.{declares_row, same_space, Declaration, parts, declarations_from, declared, bears}
use Rattle.comp_model.specs.Origins.{Origin, written}
use Rattle.comp_model.specs.Weight.{weight_of_defs, weight_of_scope}
use Rattle.comp_scopes.specs.Names.{Denoted, at_depth, first_of_two, denotes_outward, declared_at, scope_named, depth_of, at_that_depth, denotes}
use Rattle.comp_scopes.specs.Plan.{marks, before, item_index}
use Rattle.comp_scopes.specs.Form.{form_place, form_depth, root_index}
use Rattle.comp_weight.specs.Cost.{width, cost_place}
use Rattle.comp_weight.proofs.Plans.{marks-total, before-total, row-weight}
use Rattle.comp_weight.specs.Numerals.{NumeralPlace}

pub width-short : (n : ℕ) → n < 2 ^ 32 → width n ≤ 5
unfolding width
width-short n h = go (nat_lt n (2 ^ 32)) (lt-ltb n (2 ^ 32) h)
  where
    go : (b : Bool) → b ≡ true → (if b then 5 else 2 ^ 32) ≤ 5
    go true e = omega arith
    go false e = absurd (cc)

module _ (cw : CoreModule → ℕ) (limit : ℕ) where
  -- each open scope weighs at most so much
  abbrev pub Light : List Scope → Type 0
  Light [] = ⊤
  Light (s ∷ st) = (weight_of_scope cw s ≤ limit) × Light st

  drop-light : (d : ℕ) (st : List Scope) → Light st → Light (drop d st)
  drop-light zero st h = h
  drop-light (suc d) [] h = tt
  drop-light (suc d) (s ∷ st) h = drop-light d st h.1

  pub before-light : (st : List Scope) (s : Space) (o : Origin) → Light st → 16 * before s o (marks st) ≤ limit
  before-light [] s o h = omega arith
  before-light (c ∷ st) s o h = omega (arith, before-total cw s o (marks (c ∷ st)), marks-total cw st c, h.0)

  -- ---- parts

  abbrev Under : List Declaration → Type 0
  Under [] = ⊤
  Under (d ∷ ds) = (16 * d.part ≤ limit) × Under ds

  abbrev FoundUnder : Option Declaration → Type 0
  FoundUnder None = ⊤
  FoundUnder (Some d) = 16 * d.part ≤ limit

  under-append : (xs ys : List Declaration) → Under xs → Under ys → Under (xs ++ ys)
  under-append [] ys h g = g
  under-append (x ∷ xs) ys h g = (h.0, under-append xs ys h.1 g)

  parts-under : (k p : ℕ) (ids : List (Option Id)) (ss : List Space) → 16 * (p + length ss) ≤ limit → Under (parts k p ids ss)
  parts-under k p ids [] h = tt
  parts-under k p [] (s ∷ ss) h = (omega (arith, h), parts-under k (p + 1) [] ss (omega (arith, h)))
  parts-under k p (x ∷ xs) (s ∷ ss) h = (omega (arith, h), parts-under k (p + 1) xs ss (omega (arith, h)))

  from-under : (k : ℕ) (ds : Defs) → weight_of_defs cw ds ≤ limit → Under (declarations_from k ds)
  from-under k no_def h = tt
  from-under k (one_def (define names (row t ls)) ds) h =
      under-append (parts k 0 names.ids (declares_row t ls)) (declarations_from (k + 1) ds)
      (parts-under k 0 names.ids (declares_row t ls) (omega (arith, h, row-weight cw t ls))) (from-under (k + 1) ds (omega (arith, h)))

  find-under : (f : Declaration → Bool) (xs : List Declaration) → Under xs → FoundUnder (find f xs)
  find-under f [] h = tt
  find-under f (x ∷ xs) h = go (f x) (find-under f xs h.1)
    where
      go : (b : Bool) → FoundUnder (find f xs) → FoundUnder (cond b (Some x) (find f xs))
      go true g = h.0
      go false g = g

  declared-under : (s : Scope) (space : Space) (x : Id) → weight_of_scope cw s ≤ limit → FoundUnder (declared s space x)
  declared-under (scope_of k id label ds) space x h = find-under (λ d. same_space space d.space && bears x d.id) (declarations_from 0 ds) (from-under 0 ds (omega (arith, h)))

  -- what a name denotes is not far outward, and its part is small
  abbrev pub Near : ℕ → Option Denoted → Type 0
  Near n None = ⊤
  Near n (Some d) = (d.depth < n) × (16 * d.item.part ≤ limit)

  at-near : (n d : ℕ) (o : Option Declaration) → d < n → FoundUnder o → Near n (at_depth d o)
  at-near n d None h g = tt
  at-near n d (Some x) h g = (h, g)

  first-near : (n : ℕ) (a b : Option Denoted) → Near n a → Near n b → Near n (first_of_two a b)
  first-near n None b h g = g
  first-near n (Some a) b h g = h

  outward-near : (n d : ℕ) (st : List Scope) (s : Space) (x : Id) → d + length st ≤ n → Light st → Near n (denotes_outward d st s x)
  outward-near n d [] s x h l = tt
  outward-near n d (c ∷ st) s x h l = first-near n (at_depth d (declared c s x)) (denotes_outward (d + 1) st s x) (at-near n d (declared c s x) (omega (arith, h)) (declared-under c s x l.0)) (outward-near n (d + 1) st s x (omega (arith, h)) l.1)

  at_that-near : (n d : ℕ) (st : List Scope) (i : ℕ) (s : Space) (x : Id) → d + length st ≤ n → Light st → Near n (declared_at d st i s x)
  at_that-near n d [] i s x h l = tt
  at_that-near n d (c ∷ st) zero s x h l = at-near n d (declared c s x) (omega (arith, h)) (declared-under c s x l.0)
  at_that-near n d (c ∷ st) (suc i) s x h l = at_that-near n (d + 1) st i s x (omega (arith, h)) l.1

  place-near : (st : List Scope) (o : Option ℕ) (s : Space) (x : Id) → Light st → Near (length st) (at_that_depth st o s x)
  place-near st None s x l = tt
  place-near st (Some d) s x l = at_that-near (length st) 0 st d s x (omega arith) l

  pub denotes-near : (st : List Scope) (s : Space) (r : Reach) (x : Id) → Light st → Near (length st) (denotes st s r x)
  denotes-near st s outward x l = outward-near (length st) 0 st s x (omega arith) l
  denotes-near st s own x l = at_that-near (length st) 0 st 0 s x (omega arith) l
  denotes-near st s (at_place p) x l = place-near st (depth_of st p) s x l

  pub item-light : (st : List Scope) (s : Space) (d : Denoted) → Light st → 16 * d.item.part ≤ limit → 16 * item_index st s d ≤ 2 * limit
  item-light st s d l h = omega (arith, before-light (drop d.depth st) s (written d.item.definition) (drop-light d.depth st l), h)

  pub root-light : (st : List Scope) (s : Space) (o : Option Denoted) → Light st → Near (length st) o → 16 * root_index st s o ≤ 2 * limit
  root-light st s None l h = omega arith
  root-light st s (Some d) l h = item-light st s d l h.1

-- ---- the depth of a scope

abbrev DepthBelow : ℕ → Option ℕ → Type 0
DepthBelow n None = ⊤
DepthBelow n (Some d) = d < n

named-below : (n d : ℕ) (st : List Scope) (x : Id) → d + length st ≤ n → DepthBelow n (scope_named d st x)
named-below n d [] x h = tt
named-below n d (s ∷ st) x h = go (bears x (id_of s)) (named-below n (d + 1) st x (omega (arith, h)))
  where
    go : (b : Bool) → DepthBelow n (scope_named (d + 1) st x) → DepthBelow n (cond b (Some d) (scope_named (d + 1) st x))
    go true g = omega (arith, h)
    go false g = g

depth-cost : (n : ℕ) (o : Option ℕ) → n < 2 ^ 32 → DepthBelow n o → cost_place (form_depth o) ≤ 5
depth-cost n None h g = width-short 0 (omega arith)
depth-cost n (Some d) h g = width-short d (omega (arith, h, g))

pub place-short : (st : List Scope) (p : Place) → length st < 2 ^ 32 → NumeralPlace p → cost_place (form_place st p) ≤ 5
place-short st (counted o d) h f = width-short d f
place-short st (named o x) h f = depth-cost (length st) (scope_named 0 st x) h (named-below (length st) 0 st x (omega arith))
