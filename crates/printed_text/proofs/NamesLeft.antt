-- A component without its custom sections of names holds a form that is never written only where it does with them.
use Rattle.std.proofs.Common.{◌≡◌, Bool, true, false, Option, Some, None, refl, ◌∙◌, ap}
use Rattle.comp_model.specs.Covered.{Uncovered, form_of_row, lower_of, form_in_leaves, form_in_leaf, held_at, first_held, uncovered_in_defs, uncovered_in_leaves, uncovered_in_leaf, first_uncovered}
use Rattle.comp_model.specs.CoreModules.{CoreModule}
use Rattle.comp_model.specs.Model as m
use Rattle.comp_model.specs.Model.{Leaf, Leaves, no_leaf, ◌▸◌, row, Names, define, Defs, no_def, one_def, Scope, scope_of}
use Rattle.comp_model.specs.declared.row.Row.{Row}
use Rattle.print_table.specs.TextOf.{is_name_section, unless_names, unnamed_leaf, unnamed_leaves, unnamed_defs, unnamed}

module _ (f : CoreModule → Option Uncovered) where
  first_of : (x y : Option Uncovered) → first_held x y ≡ None → (x ≡ None) × (y ≡ None)
  first_of None y e = (refl, e)
  first_of (Some x) y e = absurd (cc)

  unless : (v : Bool) (ns : Names) (t : Row) (ls : Leaves) (ds : Defs) → held_at ns.offset (lower_of (form_of_row t) (form_in_leaves ls)) ≡ None → uncovered_in_leaves f ls ≡ None → uncovered_in_defs f ds ≡ None → uncovered_in_defs f (unless_names v (define ns (row t ls)) ds) ≡ None
  unless true ns t ls ds h k z = z
  unless false ns t ls ds h k z = ap (λ x. first_held x (first_held (uncovered_in_leaves f ls) (uncovered_in_defs f ds))) h ∙ ap (λ x. first_held x (uncovered_in_defs f ds)) k ∙ z

  mutual
    leaf_form : (l : Leaf) → form_in_leaf (unnamed_leaf l) ≡ form_in_leaf l
    leaf_form (m.scope (scope_of k id label ds)) = refl
    leaf_form l = refl

    leaves_form : (ls : Leaves) → form_in_leaves (unnamed_leaves ls) ≡ form_in_leaves ls
    leaves_form no_leaf = refl
    leaves_form (l ▸ ls) = ap (λ x. lower_of x (form_in_leaves (unnamed_leaves ls))) (leaf_form l) ∙ ap (lower_of (form_in_leaf l)) (leaves_form ls)

    leaf_covered : (l : Leaf) → uncovered_in_leaf f l ≡ None → uncovered_in_leaf f (unnamed_leaf l) ≡ None
    leaf_covered (m.scope (scope_of k id label ds)) h = defs_covered ds h
    leaf_covered l h = h

    leaves_covered : (ls : Leaves) → uncovered_in_leaves f ls ≡ None → uncovered_in_leaves f (unnamed_leaves ls) ≡ None
    leaves_covered no_leaf h = refl
    leaves_covered (l ▸ ls) h =
        let w = first_of (uncovered_in_leaf f l) (uncovered_in_leaves f ls) h in
        ap (λ x. first_held x (uncovered_in_leaves f (unnamed_leaves ls))) (leaf_covered l w.0) ∙ leaves_covered ls w.1

    defs_covered : (ds : Defs) → uncovered_in_defs f ds ≡ None → uncovered_in_defs f (unnamed_defs ds) ≡ None
    defs_covered no_def h = refl
    defs_covered (one_def (define ns (row t ls)) ds) h =
        let w = first_of (held_at ns.offset (lower_of (form_of_row t) (form_in_leaves ls))) (first_held (uncovered_in_leaves f ls) (uncovered_in_defs f ds)) h in
        let u = first_of (uncovered_in_leaves f ls) (uncovered_in_defs f ds) w.1 in
        unless (is_name_section t ls) ns t (unnamed_leaves ls) (unnamed_defs ds) (ap (λ x. held_at ns.offset (lower_of (form_of_row t) x)) (leaves_form ls) ∙ w.0) (leaves_covered ls u.0) (defs_covered ds u.1)

  pub unnamed_covered : (b : Scope) → first_uncovered f b ≡ None → first_uncovered f (unnamed b) ≡ None
  unnamed_covered (scope_of k id label ds) h = defs_covered ds h
