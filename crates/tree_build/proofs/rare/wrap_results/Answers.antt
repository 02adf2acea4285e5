use Rattle.std.proofs.Common.{◌≡◌, length}
use Rattle.std.specs.Prelude.{option_map}
use Rattle.text_rules.specs.Rule.{results}
use Rattle.comp_tree.specs.Model.{id_of}
use Rattle.tree_build.specs.Held.{held}
use Rattle.tree_build.proofs.Wrapping.{adds_made, results_made, rest_is}
use Rattle.tree_build.proofs.rare.wrap_results.Goals as goal

pub returns-in-Ok : goal.returns-in-Ok
returns-in-Ok c = adds_made c.leaf.result results (λ a. length a.ids ≡ c.args.ids) c.args.scratch.now c.leaf.new.self _
    (λ fs cs a l. results_made a (held fs cs c.args.scratch.now) _ (rest_is (option_map id_of) c.args.ids a.ids c.deref.result.now c.args.scratch.now.ids.items c.in-Ok.ids.now c.in-Ok.ensures c.deref.ensures.value l)) c.leaf.ensures
