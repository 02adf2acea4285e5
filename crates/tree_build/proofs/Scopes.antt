-- A scope gets the id and the label of its definition.
use Rattle.std.proofs.Common.{◌≡◌, refl, ap, sym, ◌∙◌, Option, None, List}
use Rattle.std.specs.Prelude.{option_map}
use Rattle.comp_model.specs.CoreModules.{CoreModule}
use Rattle.comp_model.specs.Core as core
use Rattle.comp_model.specs.Model as m
use Rattle.comp_model.specs.declared.row.ScopeKind.{ScopeKind}
use Rattle.comp_model.specs.declared.row.ScopeKind.TheVariants as kinds
use Rattle.text_rules.specs.Made.{owned}
use Rattle.comp_tree.specs.Model.{id_of, lent_text, scope_of}
use Rattle.comp_tree.specs.Lists.{defs_listed}
use Rattle.comp_tree.specs.declared.tree.Scope.{Scope}
use Rattle.comp_tree.specs.declared.tree.Scope as s
use Rattle.comp_tree.proofs.Leaves.{scope_fields}
use Rattle.tree_build.specs.Owned.{scope_label}

owned_scope : (id i : Option core.Id) (label l : Option core.Text) (k : ScopeKind) (ds : m.Defs) → owned id label (m.scope (m.scope_of k i l ds)) ≡ m.scope (m.scope_of k id (scope_label k label) ds)
owned_scope id i label l kinds.Component ds = refl
owned_scope id i label l kinds.ComponentType ds = refl
owned_scope id i label l kinds.InstanceType ds = refl
owned_scope id i label l kinds.ModuleType ds = refl

pub scope_owned : (cs : List CoreModule) (id : Option core.Id) (label : Option core.Text) (x : Scope)
    → m.scope (m.scope_of (s.out-Scope x).kind id (scope_label (s.out-Scope x).kind label) (defs_listed cs (s.out-Scope x).defs.now)) ≡ owned id label (m.scope (scope_of cs x))
scope_owned cs id label x =
    sym (ap (λ y. owned id label (m.scope y)) (scope_fields cs x)
    ∙ owned_scope id (option_map id_of (s.out-Scope x).id) label (option_map lent_text (s.out-Scope x).label) (s.out-Scope x).kind (defs_listed cs (s.out-Scope x).defs.now))
