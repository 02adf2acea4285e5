use Rattle.std.proofs.Common.{◌∙◌, sym, ap, is_some, None, ◌&&◌}
use Rattle.comp_model.specs.declared.row.Row.TheVariants as rows
use Rattle.comp_model.specs.RowNumbers.{same_row}
use Rattle.comp_expanded.specs.Expansion.{first_id}
use Rattle.tree_expand.specs.Standing.{ids_of}
use Rattle.tree_expand.proofs.Flags.{not_given, shared_given, some-mapped, and-apart}
use Rattle.tree_expand.proofs.names.needs_id.Goals as goal
use Rattle.tree_expand.proofs.names.needs_id.Goals.{else-is_module_type-via-then-is_module_type+else-is_function_type, else-is_module_type-via-else-is_module_type}

pub returns-then-is_some : goal.returns-then-is_some
returns-then-is_some c = not_given _ (first_id (ids_of c.args.names.now.ids.now) None) (ap is_some (sym c.first_id_of.ensures) ∙ some-mapped c.first_id_of.result ∙ sym c.is_some.ensures ∙ c.if-is_some.true)

pub returns-then-inlines : goal.returns-then-inlines
returns-then-inlines c =
    shared_given c.args.kind c.args.inlines c.is_shared.result c.args.row c.args.names.now.exports.now (first_id (ids_of c.args.names.now.ids.now) None)
    c.if-names-gt0.false
    (elim c.else-is_module_type.branch [
      | else-is_module_type-via-then-is_module_type+else-is_function_type w ↦ and-apart _ _ (sym w.is_function_type.ensures ∙ w.if-is_function_type.false)
      | else-is_module_type-via-else-is_module_type w ↦ ap (λ b. b && same_row c.args.row rows.CoreFunctionType) (sym c.is_module_type.ensures ∙ w.if-is_module_type.false)
    ])
    c.if-inlines.true
    c.is_shared.ensures
    (ap is_some (sym c.first_id_of.ensures) ∙ some-mapped c.first_id_of.result ∙ sym c.is_some.ensures ∙ c.if-is_some.false)
