-- The numbers of all spaces, one of which grows.
use Rattle.std.proofs.Common.{◌≡◌, ℕ, ◌+◌, ◌<◌, refl, sym, ap, ◌∙◌, Bool, true, false, cond, List, length, get_or, set, replicate}
use Rattle.std.proofs.lemmas.Bool.{eqb-true, eqb-false}
use Rattle.std.proofs.lemmas.List.{get_or-set_same, get_or-set_other}
use Rattle.comp_model.specs.declared.Space.{Space}
use Rattle.comp_model.specs.declared.Space.TheVariants.{CoreFunc}
use Rattle.comp_model.specs.Spaces.{same_space, code_of_space}
use Rattle.comp_order.specs.Counts.{capped, counted}

module _ (cs : List ℕ) (k : ℕ) (s space : Space) (n new : ℕ) (there : k < length cs) (is : k ≡ code_of_space space) (more : new ≡ capped (get_or cs k 0 + n)) where
  by_test : (b : Bool) → same_space s space ≡ b → counted (set cs k new) s ≡ cond b (capped (counted cs s + n)) (counted cs s)
  by_test true e =
      let c : code_of_space s ≡ k = eqb-true (code_of_space s) (code_of_space space) e ∙ sym is in
      ap (λ q. get_or (set cs k new) q 0) c ∙ get_or-set_same cs k new 0 there ∙ more ∙ ap (λ q. capped (get_or cs q 0 + n)) (sym c)
  by_test false e = get_or-set_other cs k (code_of_space s) new 0 (λ c. eqb-false (code_of_space s) (code_of_space space) e (c ∙ is))

  pub count_set : counted (set cs k new) s ≡ cond (same_space s space) (capped (counted cs s + n)) (counted cs s)
  count_set = by_test (same_space s space) refl

pub none_counted : (s : Space) → counted (replicate 13 0) s ≡ 0
none_counted CoreFunc = refl
none_counted _ = refl
