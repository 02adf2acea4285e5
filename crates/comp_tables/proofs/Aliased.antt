-- The aliases that a walk carries along are those that names share.
use Rattle.std.proofs.Common.{◌≡◌, ℕ, ◌+◌, ◌≤◌, Bool, true, false, ◌&&◌, cond, List, [], ◌∷◌, ◌++◌, Option, Some, None, option_map, refl, sym, ◌∙◌, ap, subst, arith}
use Rattle.comp_model.specs.declared.Space.{Space}
use Rattle.comp_model.specs.Model.{Scope, defs_of}
use Rattle.comp_model.specs.Spaces.{same_space}
use Rattle.comp_model.specs.Origins.{Origin, outer_alias_of, same_origin}
use Rattle.comp_model.proofs.Tests.{same_origin-refl}
use Rattle.comp_scopes.specs.Names.{Denoted, first_of_two}
use Rattle.comp_scopes.specs.Outward.{Outward, same_item, earlier_alias, outward_names, served}
use Rattle.comp_scopes.specs.Plan.{Mark, marks, before}
use Rattle.comp_scopes.proofs.Aliases.{same-numbers}
use Rattle.comp_scopes.proofs.Counting.{hit}
use Rattle.comp_expanded.proofs.OutOnce.{seen, seen-app, defs-once}
use Rattle.comp_tables.specs.Tables.{Counters, Aliased, alias_of}
use Rattle.comp_tables.specs.Stand.{first_alias, outward_at, CountersHold}

-- ---- in two lists, one behind the other

pub first-app : (s : Space) (d : Denoted) (xs ys : List Outward) → first_alias s d (xs ++ ys) ≡ first_of_two (first_alias s d xs) (first_alias s d ys)
first-app s d [] ys = refl
first-app s d (x ∷ xs) ys = go (same_space s x.space && same_item d x.denoted) (first-app s d xs ys)
  where
    go : (b : Bool) → first_alias s d (xs ++ ys) ≡ first_of_two (first_alias s d xs) (first_alias s d ys)
        → cond b (Some x.origin) (first_alias s d (xs ++ ys)) ≡ first_of_two (cond b (Some x.origin) (first_alias s d xs)) (first_alias s d ys)
    go true h = refl
    go false h = h

pub alias-app : (s : Space) (d : Denoted) (xs ys : List Aliased) → alias_of s d (xs ++ ys) ≡ first_of_two (alias_of s d xs) (alias_of s d ys)
alias-app s d [] ys = refl
alias-app s d (x ∷ xs) ys = go (same_space s x.space && same_item d x.denoted) (alias-app s d xs ys)
  where
    go : (b : Bool) → alias_of s d (xs ++ ys) ≡ first_of_two (alias_of s d xs) (alias_of s d ys)
        → cond b (Some x.index) (alias_of s d (xs ++ ys)) ≡ first_of_two (cond b (Some x.index) (alias_of s d xs)) (alias_of s d ys)
    go true h = refl
    go false h = h

pub map-first : {A B : Type 0} (f : A → B) (x y : Option A) → option_map f (first_of_two x y) ≡ first_of_two (option_map f x) (option_map f y)
map-first f None y = refl
map-first f (Some x) y = refl

-- names of one item have one first
pub first-alike : (s r : Space) (d e : Denoted) (ws : List Outward) → s ≡ r → same_item d e ≡ true → first_alias s d ws ≡ first_alias r e ws
first-alike s r d e [] q h = refl
first-alike s r d e (w ∷ ws) q h =
    let n : (d.depth ≡ e.depth) × (d.item.definition ≡ e.item.definition) × (d.item.part ≡ e.item.part) = same-numbers d e h in rw (q, n.0, n.1, n.2, first-alike s r d e ws q h) refl

-- ---- a name along those of its scope

out-once : (st : List Scope) (k u : ℕ) → seen (outer_alias_of k u) (outward_names st) ≤ 1
out-once [] k u = omega arith
out-once (c ∷ st) k u = (defs-once k u (c ∷ st) 0 (defs_of c)).0

-- a mark that stands behind these names alone
first-served : (o : Origin) (s : Space) (d : Denoted) (front : List Outward) (w : Outward) (later : List Outward) → w.origin ≡ o → seen o (front ++ w ∷ later) ≤ 1 → earlier_alias o s d (front ++ w ∷ later) ≡ first_alias s d front
first-served o s d [] w later z l = subst (λ v. cond (same_origin o v) None (cond (same_space s w.space && same_item d w.denoted) (Some w.origin) (earlier_alias o s d later)) ≡ None) (sym z) (rw (same_origin-refl o) refl)
first-served o s d (v ∷ vs) w later z l =
    let a : seen o (vs ++ w ∷ later) ≡ seen o vs + (hit o w.origin + seen o later) = seen-app o vs (w ∷ later) in
    let b : hit o w.origin ≡ 1 = subst (λ y. hit o y ≡ 1) (sym z) (rw (same_origin-refl o) refl) in
    let c : hit o v.origin + seen o (vs ++ w ∷ later) ≤ 1 = l in
    let n : hit o v.origin ≡ 0 = omega (arith, a, b, c) in
    let f : same_origin o v.origin ≡ false = apart (same_origin o v.origin) refl n in
    rw f (go (same_space s v.space && same_item d v.denoted) (first-served o s d vs w later z (omega (arith, a, b, c))))
  where
    apart : (b : Bool) → same_origin o v.origin ≡ b → hit o v.origin ≡ 0 → b ≡ false
    apart false y n = refl
    apart true y n = let r : hit o v.origin ≡ 1 = rw y refl in let c : 0 ≡ 1 = sym n ∙ r in absurd (omega (arith, c))

    go : (b : Bool) → earlier_alias o s d (vs ++ w ∷ later) ≡ first_alias s d vs → cond b (Some v.origin) (earlier_alias o s d (vs ++ w ∷ later)) ≡ cond b (Some v.origin) (first_alias s d vs)
    go true h = refl
    go false h = h

pub served-here : (st : List Scope) (k u : ℕ) (s : Space) (d : Denoted) (front later : List Outward) → outward_names st ≡ front ++ outward_at k u s d ∷ later → served st k u s d ≡ first_alias s d front
served-here st k u s d front later e =
    ap (earlier_alias (outer_alias_of k u) s d) e ∙ first-served (outer_alias_of k u) s d front (outward_at k u s d) later refl (subst (λ ws. seen (outer_alias_of k u) ws ≤ 1) e (out-once st k u))

-- the alias that stands for it is the one that it shares
pub alias-served : (st : List Scope) (k u : ℕ) (s : Space) (d : Denoted) (c : Counters) (front : List Mark) (named later : List Outward) → outward_names st ≡ named ++ outward_at k u s d ∷ later → CountersHold st c front named
    → alias_of s d c.aliases ≡ option_map (λ o. before s o (marks st)) (served st k u s d)
alias-served st k u s d c front named later e h = h.aliased s d ∙ ap (option_map (λ o. before s o (marks st))) (sym (served-here st k u s d named later e))
