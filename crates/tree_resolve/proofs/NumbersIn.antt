-- The numbers in the text of generated aliases: those that stand with the definition that they are for, or the own ones of its references.
use Rattle.std.proofs.Common.{◌≡◌, ◌≤◌, ◌<◌, ℕ, zero, suc, ◌+◌, refl, sym, ap, ◌∙◌, List, [], ◌∷◌, map, take, drop, length, arith}
use Rattle.std.specs.List.{range_with_len}
use Rattle.std.proofs.lemmas.List.{take_all}
use Rattle.std.proofs.lemmas.List.FromFn.{length-range_with_len}
use Rattle.comp_model.specs.Model.{Leaves}
use Rattle.comp_model.specs.Origins.{outer_alias_of, export_step}
use Rattle.comp_scopes.specs.Form.{make, alias_node, step_node}
use Rattle.comp_scopes.specs.References.{references}
use Rattle.comp_tables.specs.Tables.{Counters, Opened, next_place, needs}
use Rattle.comp_tables.proofs.TakenPlaces.{same-needs}
use Rattle.comp_tree.specs.Marks.{places_of}
use Rattle.tree_names.specs.declared.generated.Generated.{Generated}
use Rattle.tree_names.specs.declared.generated.Generated.TheVariants.{Outer, Step}
use Rattle.tree_names.specs.Generated.{number_at, generated_made}
use Rattle.tree_resolve.specs.Made.{number_in}

range-next : (a n u : ℕ) → u < n → next_place (drop u (range_with_len a n)) ≡ a + u
range-next a zero u h = absurd (omega (arith, h))
range-next a (suc n) zero h = omega arith
range-next a (suc n) (suc u) h = omega (arith, range-next (a + 1) n u (omega (arith, h)))

own-number : (n u : ℕ) → u < n → number_at (range_with_len 0 n) u ≡ u
own-number n u h = omega (arith, range-next 0 n u h)

front-range : (a n m : ℕ) → take n (range_with_len a (n + m)) ≡ range_with_len a n
front-range a zero m = refl
front-range a (suc n) m = let on : suc n + m ≡ suc (n + m) = omega arith in ap (λ k. take (suc n) (range_with_len a k)) on ∙ ap (λ l. a ∷ l) (front-range (a + 1) n m)

whole-range : (a n : ℕ) → take n (range_with_len a n) ≡ range_with_len a n
whole-range a n = take_all n (range_with_len a n) (omega (arith, length-range_with_len a n))

-- above the numbers of all references that aliases are for
abbrev above : List Generated → ℕ
above [] = 0
above (Outer d s i u ∷ gs) = (u + 1) + above gs
above (Step s i t u k ∷ gs) = (u + 1) + above gs

own-made : (j n : ℕ) (gs : List Generated) → above gs ≤ n → map (generated_made (number_at (range_with_len 0 n)) j) gs ≡ map (generated_made (number_in []) j) gs
own-made j n [] h = refl
own-made j n (Outer d s i u ∷ gs) h =
    ap (λ v. make (outer_alias_of j v) (alias_node d s i) ∷ map (generated_made (number_at (range_with_len 0 n)) j) gs) (own-number n u (omega (arith, h)))
    ∙ ap (λ ms. make (outer_alias_of j u) (alias_node d s i) ∷ ms) (own-made j n gs (omega (arith, h)))
own-made j n (Step s i t u k ∷ gs) h =
    ap (λ v. make (export_step j v k) (step_node i t.now s) ∷ map (generated_made (number_at (range_with_len 0 n)) j) gs) (own-number n u (omega (arith, h)))
    ∙ ap (λ ms. make (export_step j u k) (step_node i t.now s) ∷ ms) (own-made j n gs (omega (arith, h)))

-- what is needed for numbers of any kind is needed for those of a definition
pub needed-in : (ms : List Opened) (j : ℕ) (ps : List ℕ) (ls : Leaves) (c : Counters) (gs : List Generated) → ((vs : List ℕ) → map (generated_made (number_at vs) j) gs ≡ needs ms j vs ls c)
    → map (generated_made (number_in ps) j) gs ≡ needs ms j (places_of ps (references ls)) ls c
needed-in ms j (p ∷ ps) ls c gs h = h (p ∷ ps)
needed-in ms j [] ls c gs h =
    let n : ℕ = references ls + above gs in
    sym (own-made j n gs (omega arith)) ∙ h (range_with_len 0 n)
    ∙ same-needs ms j (range_with_len 0 n) (range_with_len 0 (references ls)) ls c (front-range 0 (references ls) (above gs) ∙ sym (whole-range 0 (references ls)))
