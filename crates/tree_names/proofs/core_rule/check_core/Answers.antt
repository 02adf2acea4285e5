use Rattle.std.proofs.Common.{◌∙◌, ap, sym}
use Rattle.std.specs.Prelude.{option_map}
use Rattle.open_scopes.specs.Refusals.{refusal_of}
use Rattle.comp_tree.proofs.Cores.{core_there, core_missing}
use Rattle.tree_names.specs.CoreLeaf.{missing_core}
use Rattle.tree_names.proofs.ReadParts.{none_unmet}
use Rattle.tree_names.proofs.core_rule.check_core.Goals as goal

pub returns-then-core-cores : goal.returns-then-core-cores
returns-then-core-cores g c = ap (missing_core g.M.CoreRule.encoding) (core_missing g.M.CoreSource.core_module c.args.cores.now c.args.core c.if-core-cores.true)

pub returns-in-Some : goal.returns-in-Some
returns-in-Some g c = ap (λ l. option_map refusal_of (missing_core g.M.CoreRule.encoding l)) (core_there g.M.CoreSource.core_module c.args.cores.now c.args.core _ c.if-core-cores.false c.index-cores-core.is) ∙ sym c.in-Some.ensures

pub returns-in-None : goal.returns-in-None
returns-in-None g c = ap (missing_core g.M.CoreRule.encoding) (core_there g.M.CoreSource.core_module c.args.cores.now c.args.core _ c.if-core-cores.false c.index-cores-core.is) ∙ none_unmet _ c.in-None.ensures
