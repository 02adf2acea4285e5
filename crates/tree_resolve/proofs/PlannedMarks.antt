-- The marks of a resolved scope, given one behind the other.
use Rattle.std.proofs.Common.{◌≡◌, ℕ, ◌+◌, ◌<◌, Bool, List, [], ◌∷◌, ◌++◌, drop, length, get_or, refl, sym, ◌∙◌, ap}
use Rattle.std.proofs.lemmas.List.{drop_more}
use Rattle.comp_model.specs.CoreModules.{CoreModule}
use Rattle.comp_model.specs.ItemNames.{has_names}
use Rattle.comp_model.specs.Origins.{Origin, Origins, no_origins, origin_then, Held, holds_none, holds}
use Rattle.comp_scopes.specs.Form.{held_first}
use Rattle.comp_expanded.specs.ListMarks.{ListMarks, no_marks, mark_then, Inside, nothing_inside, inside_are}
use Rattle.comp_wire.specs.declared.origin.ItemOrigin.{ItemOrigin}
use Rattle.comp_wire.specs.Origins.{origin_of}
use Rattle.comp_tree.specs.declared.tree.Def.{Def}
use Rattle.comp_tree.specs.declared.tree.Scope.{Scope, out-Scope}
use Rattle.comp_tree.specs.OriginMarks.{held_without_places, item_mark, marks_after, marks_of_items, without_places}
use Rattle.comp_tree.specs.Model.{scope_of}
use Rattle.comp_tree.proofs.Leaves.{scope_fields}
use Rattle.comp_tree.proofs.OriginMarks.{mark_pushed, nothing_after}
use Rattle.tree_resolve.specs.Planned.{section_mark, planned_listed, planned_of, planned_defs}
use Rattle.tree_resolve.proofs.Planned.{planned-fields}

-- that of the name section
pub mark_behind : (xs ys : List ItemOrigin) (x : ItemOrigin) (o : Origin) (h : Held) → ys ≡ xs ++ x ∷ [] → item_mark x ≡ (o, ([], held_without_places h)) → marks_of_items ys ≡ marks_after (marks_of_items xs) (without_places (origin_then o h no_origins))
mark_behind xs ys x o h e f = sym (nothing_after (marks_of_items ys)) ∙ ap (λ q. marks_after (marks_of_items q) no_marks) e ∙ mark_pushed xs x o [] (held_without_places h) no_marks f

pub no_mark_behind : (xs : List ItemOrigin) → marks_of_items xs ≡ marks_after (marks_of_items xs) no_marks
no_mark_behind xs = sym (nothing_after (marks_of_items xs))

module _ (C : List CoreModule) (more : Origins) where
  -- that of a definition
  pub planned_turn : (xs ys : List ItemOrigin) (x : ItemOrigin) (defs : List Def) (i : ℕ) (d : Def) (h : Inside) (all : ListMarks) → i < length defs → d ≡ get_or defs i d → ys ≡ xs ++ x ∷ [] → item_mark x ≡ (origin_of d.origin, ([], h))
      → h ≡ held_without_places (planned_listed C d.node.leaves.now) → marks_after (marks_of_items xs) (without_places (planned_defs C more (drop i defs))) ≡ all → marks_after (marks_of_items ys) (without_places (planned_defs C more (drop (i + 1) defs))) ≡ all
  planned_turn xs ys x defs i d h all l a e f g k =
      ap (λ q. marks_after (marks_of_items q) (without_places (planned_defs C more (drop (i + 1) defs)))) e
      ∙ mark_pushed xs x (origin_of d.origin) [] h (without_places (planned_defs C more (drop (i + 1) defs))) f
      ∙ ap (λ q. marks_after (marks_of_items xs) (mark_then (origin_of d.origin) [] q (without_places (planned_defs C more (drop (i + 1) defs))))) g
      ∙ ap (λ q. marks_after (marks_of_items xs) (without_places (planned_defs C more (q ∷ drop (i + 1) defs)))) a
      ∙ ap (λ q. marks_after (marks_of_items xs) (without_places (planned_defs C more q))) (sym (drop_more defs i d l))
      ∙ k

-- ---- the scope in parts, one after the other

first-held : (a b : Held) (ms : ListMarks) → inside_are ms ≡ held_without_places a → inside_are ms ≡ held_without_places (held_first a b)
first-held holds_none b ms e = absurd (cc)
first-held (holds os) b ms e = e

none-held : (a b : Held) → nothing_inside ≡ held_without_places a → held_first a b ≡ b
none-held holds_none b e = refl
none-held (holds os) b e = absurd (cc)

module _ {A : Type 0} (f : List A → Held) (g : A → Held) (each : (x : A) (xs : List A) → f (x ∷ xs) ≡ held_first (g x) (f xs)) (all : List A) (i : ℕ) (d : A) (within : i < length all) (so_far : f (drop i all) ≡ f all) where
  whole : held_first (g (get_or all i d)) (f (drop (i + 1) all)) ≡ f all
  whole = sym (each (get_or all i d) (drop (i + 1) all)) ∙ ap f (sym (drop_more all i d within)) ∙ so_far

  pub scope_there : (ms : ListMarks) → inside_are ms ≡ held_without_places (g (get_or all i d)) → inside_are ms ≡ held_without_places (f all)
  scope_there ms e = first-held (g (get_or all i d)) (f (drop (i + 1) all)) ms e ∙ ap held_without_places whole

  pub past_scopeless : nothing_inside ≡ held_without_places (g (get_or all i d)) → f (drop (i + 1) all) ≡ f all
  past_scopeless e = sym (none-held (g (get_or all i d)) (f (drop (i + 1) all)) e) ∙ whole

-- ---- all of a scope
pub planned_whole : (C : List CoreModule) (x : Scope) (due : Bool) → due ≡ has_names (scope_of C x) → planned_defs C (section_mark due) (out-Scope x).defs.now ≡ planned_of C x
planned_whole C x due h =
    ap (λ b. planned_defs C (section_mark b) (out-Scope x).defs.now) (h ∙ ap has_names (scope_fields C x)) ∙ sym (planned-fields C x)
