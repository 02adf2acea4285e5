use Rattle.std.proofs.Common.{ap, sym, ◌∙◌}
use Rattle.comp_model.specs.declared.row.Row.TheVariants as rows
use Rattle.comp_model.specs.Model as m
use Rattle.comp_model.specs.Model.{no_leaf, ◌▸◌}
use Rattle.comp_wire.specs.Values.{rows_of_list}
use Rattle.wire_tree.specs.Model.{leaf_of}
use Rattle.item_read.specs.Named.{named_row}
use Rattle.item_read.proofs.NamedEntries.{as_row, as_listed}
use Rattle.item_read.proofs.items.listed_item_of.Goals as goal

pub named_items-requires : goal.named_items-requires
named_items-requires c = (rows.CoreBundleExport, (as_listed c.args.node.now rows.CoreBundle _ c.in-CoreBundle.is c.one.ensures c.requires).1)

pub named_items-requires-in-Instantiate : goal.named_items-requires-in-Instantiate
named_items-requires-in-Instantiate c = (rows.Argument, (as_listed c.args.node.now rows.Instantiate _ c.in-Instantiate.is c.two-in-Instantiate.ensures c.requires).2)

pub named_items-requires-in-Bundle : goal.named_items-requires-in-Bundle
named_items-requires-in-Bundle c = (rows.BundleExport, (as_listed c.args.node.now rows.Bundle _ c.in-Bundle.is c.one-in-Bundle.ensures c.requires).1)

pub returns-in_ok-exports-in-CoreBundle : goal.returns-in_ok-exports-in-CoreBundle
returns-in_ok-exports-in-CoreBundle c =
    ap (λ q. m.row rows.CoreBundle (q ▸ no_leaf)) (c.in_ok-exports-in-CoreBundle.ensures rows.CoreBundleExport (as_listed c.args.node.now rows.CoreBundle _ c.in-CoreBundle.is c.one.ensures c.requires).1)
    ∙ as_row c.args.node.now rows.CoreBundle _ c.in-CoreBundle.is c.one.ensures

pub returns-in_ok-args-in-Instantiate : goal.returns-in_ok-args-in-Instantiate
returns-in_ok-args-in-Instantiate c =
    let shaped = as_listed c.args.node.now rows.Instantiate _ c.in-Instantiate.is c.two-in-Instantiate.ensures c.requires in
    ap (λ q. m.row rows.Instantiate (q ▸ m.nodes (rows_of_list (named_row rows.Argument) c.in_ok-args-in-Instantiate.args) ▸ no_leaf)) (ap (λ s. m.ref s (m.index c.index-in-Instantiate.result)) (sym shaped.1.1) ∙ c.index-in-Instantiate.ensures)
    ∙ ap (λ q. m.row rows.Instantiate (leaf_of c.two-in-Instantiate.result.0.now ▸ q ▸ no_leaf)) (c.in_ok-args-in-Instantiate.ensures rows.Argument shaped.2)
    ∙ as_row c.args.node.now rows.Instantiate _ c.in-Instantiate.is c.two-in-Instantiate.ensures

pub returns-in_ok-exports-in-Bundle : goal.returns-in_ok-exports-in-Bundle
returns-in_ok-exports-in-Bundle c =
    ap (λ q. m.row rows.Bundle (q ▸ no_leaf)) (c.in_ok-exports-in-Bundle.ensures rows.BundleExport (as_listed c.args.node.now rows.Bundle _ c.in-Bundle.is c.one-in-Bundle.ensures c.requires).1)
    ∙ as_row c.args.node.now rows.Bundle _ c.in-Bundle.is c.one-in-Bundle.ensures
