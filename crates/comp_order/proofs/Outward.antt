-- Open scopes from an inner one outward.
use Rattle.std.proofs.Common.{◌≡◌, ℕ, zero, suc, ◌-◌, ◌<◌, refl, sym, ap, ◌∙◌, List, [], ◌∷◌, length, drop, slice_get, Some, None, Bor, subst, arith}
use Rattle.comp_model.specs.Model.{Defs}
use Rattle.comp_order.specs.declared.before.Around.{Around}
use Rattle.comp_order.specs.declared.before.Around as a
use Rattle.comp_order.specs.declared.before.Before.{Before}
use Rattle.comp_model.specs.Spaces.{count_items}
use Rattle.comp_list.specs.declared.reference.Reference.{Reference}
use Rattle.comp_order.specs.declared.verdict.Verdict.TheVariants.{OutOfRange}
use Rattle.comp_order.specs.Before.{AllCounted}
use Rattle.comp_order.specs.Counts.{HasCounts}
use Rattle.comp_order.specs.Order.{verdict_below, verdict_in, verdict_outward}

-- so many scopes further outward the definitions are these
pub record OutwardFrom (at : Around) (left : ℕ) (befores : List Defs) : Type 0 where
  pub here : List Defs
  pub counted : AllCounted at here
  pub further : drop left here ≡ befores

pub outward_begins : (x : Around) (up : ℕ) (befores : List Defs) → AllCounted x befores → OutwardFrom x up (drop up befores)
outward_begins x up befores h = record { here = befores; counted = h; further = refl }

inside_counted : (x : Around) (b : Bor Before) (here : List Defs) → x ≡ a.Scope b → AllCounted x here → (ds : Defs) × (rest : List Defs) × (here ≡ ds ∷ rest) × AllCounted b.now.outer rest
inside_counted x b [] e h = absurd (subst (λ y. AllCounted y []) e h)
inside_counted x b (ds ∷ rest) e h = let k : AllCounted (a.Scope b) (ds ∷ rest) = subst (λ y. AllCounted y (ds ∷ rest)) e h in (ds, rest, refl, k.1)

dropped : (left : ℕ) (ds : Defs) (rest : List Defs) → 0 < left → drop left (ds ∷ rest) ≡ drop (left - 1) rest
dropped zero ds rest h = absurd (omega (arith, h))
dropped (suc n) ds rest h = let z : suc n - 1 ≡ n = omega arith in ap (λ k. drop k rest) (sym z)

pub outward_goes : (x : Around) (b : Bor Before) (left : ℕ) (befores : List Defs) → x ≡ a.Scope b → 0 < left → OutwardFrom x left befores → OutwardFrom b.now.outer (left - 1) befores
outward_goes x b left befores e h o =
    let i = inside_counted x b o.here e o.counted in
    record { here = i.1; counted = i.3; further = sym (dropped left i.0 i.1 h) ∙ ap (drop left) (sym i.2) ∙ o.further }

drop_none : (n : ℕ) → drop {A = Defs} n [] ≡ []
drop_none zero = refl
drop_none (suc n) = refl

nothing_here : (here : List Defs) → AllCounted a.Nothing here → here ≡ []
nothing_here [] h = refl
nothing_here (ds ∷ rest) h = absurd h

pub outward_ends : (x : Around) (left : ℕ) (befores : List Defs) → x ≡ a.Nothing → OutwardFrom x left befores → AllCounted a.Nothing befores
outward_ends x left befores e o =
    let n : o.here ≡ [] = nothing_here o.here (subst (λ y. AllCounted y o.here) e o.counted) in
    subst (AllCounted a.Nothing) (sym (drop_none left) ∙ ap (drop left) (sym n) ∙ o.further) tt

pub outward_here : (x : Around) (left : ℕ) (befores : List Defs) → left ≡ 0 → OutwardFrom x left befores → AllCounted x befores
outward_here x left befores e o = subst (AllCounted x) (ap (λ k. drop k o.here) (sym e) ∙ o.further) o.counted

-- ---- what is looked up

get_drop : (xs : List Defs) (n : ℕ) (ds : Defs) (rest : List Defs) → drop n xs ≡ ds ∷ rest → slice_get xs n ≡ Some ds
get_drop [] zero ds rest e = let z : 0 ≡ length (ds ∷ rest) = ap length e in absurd (omega (arith, z))
get_drop [] (suc n) ds rest e = let z : 0 ≡ length (ds ∷ rest) = ap length e in absurd (omega (arith, z))
get_drop (x ∷ xs) zero ds rest e = ap (λ q. slice_get q 0) e
get_drop (x ∷ xs) (suc n) ds rest e = get_drop xs n ds rest e

get_none : (xs : List Defs) (n : ℕ) → drop n xs ≡ [] → slice_get xs n ≡ None
get_none [] n e = refl
get_none (x ∷ xs) zero e = let z : length (x ∷ xs) ≡ 0 = ap length e in absurd (omega (arith, z))
get_none (x ∷ xs) (suc n) e = get_none xs n e

get_less : (x : Defs) (xs : List Defs) (up : ℕ) → 0 < up → slice_get (x ∷ xs) up ≡ slice_get xs (up - 1)
get_less x xs zero h = absurd (omega (arith, h))
get_less x xs (suc n) h = let z : n ≡ suc n - 1 = omega arith in ap (slice_get xs) z

some_here : (x : Around) (b : Bor Before) (here : List Defs) → x ≡ a.Scope b → AllCounted x here → (ds : Defs) × (rest : List Defs) × (here ≡ ds ∷ rest) × HasCounts b.now.counts.now ds
some_here x b [] e h = absurd (subst (λ y. AllCounted y []) e h)
some_here x b (ds ∷ rest) e h = let k : AllCounted (a.Scope b) (ds ∷ rest) = subst (λ y. AllCounted y (ds ∷ rest)) e h in (ds, rest, refl, k.0)

module _ (x : Around) (befores : List Defs) (up : ℕ) (some : 0 < up) (h : AllCounted x (drop (up - 1) befores)) (before : Defs) (r : Reference) where
  pub judged_none : x ≡ a.Nothing → OutOfRange ≡ verdict_outward (before ∷ befores) up r
  judged_none e =
      let n : drop (up - 1) befores ≡ [] = nothing_here (drop (up - 1) befores) (subst (λ y. AllCounted y (drop (up - 1) befores)) e h) in
      sym (ap (verdict_in r) (get_less before befores up some ∙ get_none befores (up - 1) n))

  pub judged_some : (b : Bor Before) (e : x ≡ a.Scope b) → (ds : Defs) × HasCounts b.now.counts.now ds × (verdict_below r.index (count_items r.space ds) ≡ verdict_outward (before ∷ befores) up r)
  judged_some b e =
      let f = some_here x b (drop (up - 1) befores) e h in
      (f.0, f.3, sym (ap (verdict_in r) (get_less before befores up some ∙ get_drop befores (up - 1) f.0 f.1 f.2)))

pub judged_own : (before : Defs) (befores : List Defs) (up : ℕ) (r : Reference) → up ≡ 0 → verdict_below r.index (count_items r.space before) ≡ verdict_outward (before ∷ befores) up r
judged_own before befores up r e = ap (λ u. verdict_outward (before ∷ befores) u r) (sym e)
