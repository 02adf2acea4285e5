-- A reference to a generated outer alias, by its line and by the rule on names.
use Rattle.std.proofs.Common.{◌≡◌, ℕ, zero, suc, ◌+◌, refl, sym, ap, ◌∙◌, List, [], ◌∷◌, map, slice_get, Option, Some, None, subst, arith}
use Rattle.std.specs.Prelude.{option_map}
use Rattle.comp_model.specs.declared.Space.{Space}
use Rattle.comp_model.specs.Core.{counted}
use Rattle.comp_model.specs.Makers as make
use Rattle.comp_model.specs.Model.{Defs, define, no_names, index, Node}
use Rattle.comp_model.specs.Origins.{Origin, outer_alias_of}
use Rattle.comp_model.specs.Spaces.{Declaration}
use Rattle.comp_scopes.specs.Form.{Made, binary_defs}
use Rattle.comp_scopes.specs.Names.{at_depth}
use Rattle.comp_scopes.specs.Renders.{item, binary_at, leads, leads_at, leads_from, leads_by}
use Rattle.comp_list.specs.Listing.{spot_of, spot_at, def_at, led_there, led_by_def, led_in}
use Rattle.list_laws.specs.Leads.{IsGeneratedAlias, led_of}

spot_same : (bst : List (List Made)) (d : ℕ) (s : Space) (i : ℕ) → spot_at (map binary_defs bst) d s i ≡ option_map spot_of (item (binary_at bst d) s i)
spot_same [] d s i = refl
spot_same (ms ∷ bst) zero s i = refl
spot_same (ms ∷ bst) (suc d) s i = spot_same bst d s i

def_same : (ms : List Made) (n : ℕ) → def_at (binary_defs ms) n ≡ option_map (λ m. define no_names m.made) (slice_get ms n)
def_same [] n = refl
def_same (m ∷ ms) zero = refl
def_same (m ∷ ms) (suc n) = def_same ms n

some_there : Option Declaration → Type 0
some_there None = ⊥
some_there (Some x) = Unit {0}

scope_there : (bst : List (List Made)) (d : ℕ) (s : Space) (i : ℕ) (x : Declaration) → item (binary_at bst d) s i ≡ Some x → slice_get (map binary_defs bst) d ≡ Some (binary_defs (binary_at bst d))
unfolding some_there
scope_there [] d s i x e = absurd (subst some_there (sym e) tt)
scope_there (ms ∷ bst) zero s i x e = refl
scope_there (ms ∷ bst) (suc d) s i x e = scope_there bst d s i x e

depth_same : (d : ℕ) (y : Option Declaration) → led_of (at_depth d y) ≡ led_there d (option_map spot_of y)
depth_same d None = refl
depth_same d (Some y) = refl

module _ (bst : List (List Made)) (d : ℕ) (s : Space) (i : ℕ) (a : IsGeneratedAlias bst d s i) where
  scopes : List Defs
  scopes = map binary_defs bst

  target_node : Node
  target_node = make.alias_outer (counted a.offset a.count) (index a.target) s

  by_line : led_in scopes d (slice_get scopes d) (spot_at scopes d s i) ≡ led_there (a.count + d) (spot_at scopes (a.count + d) s a.target)
  unfolding scopes target_node
  by_line =
      ap (led_in scopes d (slice_get scopes d)) (spot_same bst d s i ∙ ap (option_map spot_of) a.there)
      ∙ ap (λ o. led_in scopes d o (Some (spot_of a.declaration))) (scope_there bst d s i a.declaration a.there)
      ∙ ap (led_by_def scopes d) (def_same (binary_at bst d) a.declaration.definition ∙ ap (option_map (λ m. define no_names m.made)) a.stands ∙ ap (λ n. Some (define no_names n)) a.is_alias)

  by_rule : leads bst d s i ≡ at_depth (d + a.count) (item (binary_at bst (d + a.count)) s a.target)
  by_rule =
      ap (leads_at bst d s) a.there
      ∙ ap (leads_from bst d s a.declaration) a.stands
      ∙ ap (λ (o : Origin). leads_by bst d s a.declaration o a.found.made) a.marked
      ∙ ap (λ n. leads_by bst d s a.declaration (outer_alias_of a.definition a.reference) n) a.is_alias

  pub both : led_in (map binary_defs bst) d (slice_get (map binary_defs bst) d) (spot_at (map binary_defs bst) d s i) ≡ led_of (leads bst d s i)
  unfolding scopes
  both =
      let z : a.count + d ≡ d + a.count = omega arith in
      by_line
      ∙ ap (λ e. led_there e (spot_at scopes e s a.target)) z
      ∙ ap (led_there (d + a.count)) (spot_same bst (d + a.count) s a.target)
      ∙ sym (depth_same (d + a.count) (item (binary_at bst (d + a.count)) s a.target))
      ∙ ap led_of (sym by_rule)
