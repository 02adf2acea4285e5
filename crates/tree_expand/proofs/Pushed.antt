-- A generated definition behind others that were put behind others.
use Rattle.std.proofs.Common.{◌≡◌, ℕ, List, [], ◌∷◌, ◌++◌, Some, ◌∙◌, ap}
use Rattle.comp_model.specs.declared.row.Row.{Row}
use Rattle.comp_model.specs.Core.{Id}
use Rattle.comp_model.specs.CoreModules.{CoreModule}
use Rattle.comp_model.specs.Model.{Leaves}
use Rattle.comp_model.specs.Origins.{Origin}
use Rattle.comp_scopes.specs.References.{references}
use Rattle.comp_expanded.specs.ListMarks.{Inside}
use Rattle.comp_expanded.specs.Expansion.{generated_names}
use Rattle.comp_tree.specs.declared.tree.Def.{Def}
use Rattle.comp_tree.specs.Entries.{entries_of}
use Rattle.comp_tree.specs.Marks.{places_of}
use Rattle.comp_tree.proofs.Entries.{entries_app}

pub generated_pushed : (cores : List CoreModule) (new old xs ys : List Def) (o : Origin) (ps qs : List ℕ) (h : Inside) (x : Id) (t : Row) (ls : Leaves) → old ≡ xs ++ ys → ps ≡ qs
    → entries_of cores new ≡ entries_of cores old ++ record { origin = o; places = places_of ps (references ls); held = h; names = generated_names (Some x); head = t; leaves = ls } ∷ []
    → entries_of cores new ≡ (entries_of cores xs ++ entries_of cores ys) ++ record { origin = o; places = places_of qs (references ls); held = h; names = generated_names (Some x); head = t; leaves = ls } ∷ []
generated_pushed cores new old xs ys o ps qs h x t ls e f g =
    g ∙ ap (λ v. v ++ record { origin = o; places = places_of ps (references ls); held = h; names = generated_names (Some x); head = t; leaves = ls } ∷ []) (ap (entries_of cores) e ∙ entries_app cores xs ys)
    ∙ ap (λ v. (entries_of cores xs ++ entries_of cores ys) ++ record { origin = o; places = places_of v (references ls); held = h; names = generated_names (Some x); head = t; leaves = ls } ∷ []) f
