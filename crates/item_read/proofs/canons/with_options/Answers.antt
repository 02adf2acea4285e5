use Rattle.std.proofs.Common.{subst}
use Rattle.comp_model.specs.declared.row.Row.TheVariants as rows
use Rattle.comp_model.specs.Model as m
use Rattle.wire_tree.specs.Lists.{listed}
use Rattle.item_read.specs.Rows.{IsWithOptions}
use Rattle.item_read.proofs.Options.{options_alone}
use Rattle.item_read.proofs.canons.with_options.Goals as goal

pub returns-in-ErrorContextNew : goal.returns-in-ErrorContextNew
returns-in-ErrorContextNew c =
    let shaped = subst (λ v. IsWithOptions (m.row v (listed c.args.node.now.leaves.now))) c.in-ErrorContextNew.is c.requires.row in
    options_alone rows.ErrorContextNew c.args.node.now.row (listed c.args.node.now.leaves.now) _ c.in-ErrorContextNew.is shaped.0 c.requires.options

pub returns-in-ErrorContextDebugMessage : goal.returns-in-ErrorContextDebugMessage
returns-in-ErrorContextDebugMessage c =
    let shaped = subst (λ v. IsWithOptions (m.row v (listed c.args.node.now.leaves.now))) c.in-ErrorContextDebugMessage.is c.requires.row in
    options_alone rows.ErrorContextDebugMessage c.args.node.now.row (listed c.args.node.now.leaves.now) _ c.in-ErrorContextDebugMessage.is shaped.0 c.requires.options
