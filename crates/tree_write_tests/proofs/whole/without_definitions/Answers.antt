use Rattle.std.proofs.Common.{[], ◌∷◌, ◌≡◌, ◌<◌, ◌^◌, arith, length, refl, sym, subst, None}
use Rattle.comp_model.specs.Model.{no_def, scope_of}
use Rattle.comp_model.specs.declared.row.ScopeKind.TheVariants as kinds
use Rattle.comp_scopes.specs.Resolved.{binary_of}
use Rattle.comp_wire.specs.Read.{FitsComponent}
use Rattle.comp_wire.specs.Spelled.{spell_component}
use Rattle.comp_wire.proofs.Fit.{sections_fit}
use Rattle.comp_tree.proofs.Leaves.{scope_made}
use Rattle.tree_write.specs.FewItems.{FewItems}
use Rattle.tree_write.specs.Wire.{the_encoding}
use Rattle.tree_write_tests.proofs.whole.without_definitions.Goals as goal

pub encode_scope-requires-clause-fits : goal.encode_scope-requires-clause-fits
encode_scope-requires-clause-fits c =
    subst (λ s. FitsComponent (binary_of the_encoding s)) (sym (scope_made (record { naming = record { id = None; label = None }; fields = [] } ∷ []) kinds.Component None None _)) (sections_fit (scope_of kinds.Component None None no_def) (refl, refl, refl, tt, tt))

pub encode_scope-requires-clause-length : goal.encode_scope-requires-clause-length
encode_scope-requires-clause-length c =
    let eight : 8 < 2 ^ 32 = omega arith in
    subst (λ s. length (spell_component (binary_of the_encoding s)) < 2 ^ 32) (sym (scope_made (record { naming = record { id = None; label = None }; fields = [] } ∷ []) kinds.Component None None _)) eight

pub encode_scope-requires-clause-few : goal.encode_scope-requires-clause-few
encode_scope-requires-clause-few c =
    let none : 0 < 2 ^ 64 = omega arith in
    subst FewItems (sym (scope_made (record { naming = record { id = None; label = None }; fields = [] } ∷ []) kinds.Component None None _)) (none, tt)
