use Rattle.std.proofs.Common.{sym, ◌∙◌, ap}
use Rattle.comp_scopes.specs.Resolved.{binary_of_leaf}
use Rattle.comp_wire.specs.Fits.{leaf_fits}
use Rattle.comp_tree.proofs.Cores.{core_missing}
use Rattle.byte_table.specs.Lines.{field_of}
use Rattle.tree_write.specs.Wire.{the_encoding}
use Rattle.tree_write.proofs.Modules.{module_at}
use Rattle.tree_write.proofs.Tests.{source_fits}
use Rattle.tree_write.proofs.leaf_fits.module_fits.Goals as goal

pub returns-then-number-modules : goal.returns-then-number-modules
returns-then-number-modules g c =
    c.absent_fits.ensures ∙ ap (λ x. leaf_fits (binary_of_leaf the_encoding x) (field_of c.args.field.now)) (sym (core_missing g.M.CoreBytes.core_module c.args.modules.now c.args.number c.if-number-modules.true))

pub returns : goal.returns
returns g c = source_fits _ _ (field_of c.args.field.now) _ (module_at g.M.CoreBytes.core_module c.args.modules.now c.args.number c.if-number-modules.false) c.whole_module_fits.ensures
