-- Whether items of a scope have names, part by part.
use Rattle.std.proofs.Common.{◌≡◌, ℕ, zero, suc, ◌+◌, ◌<◌, Bool, true, false, ◌&&◌, ◌||◌, List, [], ◌∷◌, drop, length, is_some, refl, sym, ◌∙◌, ap, Option, arith}
use Rattle.std.specs.Prelude.{option_map}
use Rattle.std.proofs.lemmas.List.{drop_more}
use Rattle.comp_model.specs.CoreModules.{CoreModule}
use Rattle.comp_model.specs.declared.Space.{Space}
use Rattle.comp_model.specs.declared.Space.TheVariants.{Ty}
use Rattle.comp_model.specs.declared.row.ScopeKind.{ScopeKind}
use Rattle.comp_model.specs.declared.row.ScopeKind.TheVariants as kinds
use Rattle.comp_model.specs.Core.{Text, Id, label_or_id}
use Rattle.comp_model.specs.ItemNames.{first_or_none, rest_of, part_names, any_named, is_component, has_names}
use Rattle.comp_tree.specs.declared.tree.Scope.{Scope, out-Scope}
use Rattle.comp_tree.specs.Lists.{defs_listed}
use Rattle.comp_tree.specs.Model.{id_of, lent_text, scope_of}
use Rattle.comp_tree.proofs.Leaves.{scope_fields}
use Rattle.tree_resolve.specs.ListNames.{any_in}
use Rattle.tree_resolve.proofs.ListNames.{any-from}

rest-drop : {A : Type 0} (xs : List A) (n : ℕ) → rest_of (drop n xs) ≡ drop (suc n) xs
rest-drop [] zero = refl
rest-drop [] (suc n) = refl
rest-drop (x ∷ xs) zero = refl
rest-drop (x ∷ xs) (suc n) = rest-drop xs n

next-drop : {A : Type 0} (xs : List A) (n : ℕ) → rest_of (drop n xs) ≡ drop (n + 1) xs
next-drop xs n = let e : suc n ≡ n + 1 = omega arith in rest-drop xs n ∙ ap (λ (k : ℕ). drop k xs) e

-- ---- of a definition

module _ (ids : List (Option Id)) (labels : List (Option Text)) (ss : List Space) where
  -- whether the part has a name
  abbrev pub part_named : ℕ → Bool
  part_named p = is_some (label_or_id (first_or_none (drop p labels)) (first_or_none (drop p ids)))

  -- whether one of the parts from this one on has
  abbrev pub any_behind : ℕ → Bool
  any_behind p = any_named (part_names 0 p (drop p ids) (drop p labels) (drop p ss))

  any-next : (p : ℕ) → p < length ss → any_behind p ≡ (part_named p || any_behind (p + 1))
  any-next p h =
      ap (λ q. any_named (part_names 0 p (drop p ids) (drop p labels) q)) (drop_more ss p Ty h)
      ∙ ap (λ q. part_named p || any_named (part_names 0 (p + 1) q (rest_of (drop p labels)) (drop (p + 1) ss))) (next-drop ids p)
      ∙ ap (λ q. part_named p || any_named (part_names 0 (p + 1) (drop (p + 1) ids) q (drop (p + 1) ss))) (next-drop labels p)

  pub named-there : (p : ℕ) → p < length ss → part_named p ≡ true → any_behind p ≡ any_behind 0 → (all : List Space) → ss ≡ all → true ≡ any_named (part_names 0 0 ids labels all)
  named-there p h n k all e = sym (ap (λ b. b || any_behind (p + 1)) n) ∙ sym (any-next p h) ∙ k ∙ ap (λ z. any_named (part_names 0 0 ids labels z)) e

  pub past-nameless : (p : ℕ) → p < length ss → part_named p ≡ false → any_behind p ≡ any_behind 0 → any_behind (p + 1) ≡ any_behind 0
  past-nameless p h n k = sym (ap (λ b. b || any_behind (p + 1)) n) ∙ sym (any-next p h) ∙ k

-- ---- of a scope

module _ (C : List CoreModule) (x : Scope) where
  abbrev own_named : Bool
  own_named = is_some (label_or_id (option_map lent_text (out-Scope x).label) (option_map id_of (out-Scope x).id))

  by-fields : has_names (scope_of C x) ≡ (is_component (out-Scope x).kind && (own_named || any_in (defs_listed C (out-Scope x).defs.now)))
  by-fields = ap has_names (scope_fields C x) ∙ ap (λ b. is_component (out-Scope x).kind && (own_named || b)) (any-from 0 (defs_listed C (out-Scope x).defs.now))

  pub component-named : (out-Scope x).kind ≡ kinds.Component → own_named ≡ true → true ≡ has_names (scope_of C x)
  component-named k n = sym (by-fields ∙ ap (λ q. is_component q && (own_named || any_in (defs_listed C (out-Scope x).defs.now))) k ∙ ap (λ b. b || any_in (defs_listed C (out-Scope x).defs.now)) n)

  pub items-named : (out-Scope x).kind ≡ kinds.Component → own_named ≡ false → any_in (defs_listed C (out-Scope x).defs.now) ≡ has_names (scope_of C x)
  items-named k n = sym (by-fields ∙ ap (λ q. is_component q && (own_named || any_in (defs_listed C (out-Scope x).defs.now))) k ∙ ap (λ b. b || any_in (defs_listed C (out-Scope x).defs.now)) n)

  no-component : (k : ScopeKind) → (k ≡ kinds.Component → ⊥) → is_component k ≡ false
  no-component kinds.Component h = absurd (h refl)
  no-component kinds.ComponentType h = refl
  no-component kinds.InstanceType h = refl
  no-component kinds.ModuleType h = refl

  pub type-nameless : ((out-Scope x).kind ≡ kinds.Component → ⊥) → false ≡ has_names (scope_of C x)
  type-nameless h = sym (by-fields ∙ ap (λ b. b && (own_named || any_in (defs_listed C (out-Scope x).defs.now))) (no-component (out-Scope x).kind h))
