use Rattle.std.proofs.Common.{◌∙◌, ◌++◌, ap, map, refl}
use Rattle.text_rules.specs.Made.{numbered_lists}
use Rattle.comp_tree.specs.Lists.{node_of}
use Rattle.tree_build.specs.Held.{held, loose}
use Rattle.tree_build.proofs.Prefixes.{grows_itself}
use Rattle.tree_build.proofs.Wrapping.{rest_is}
use Rattle.tree_build.proofs.Numbering.{lists_held, first_are}
use Rattle.tree_build.proofs.numbered.wrap_by_number.Goals as goal

pub returns : goal.returns
returns c = (
  grows_itself c.args.scratch.now.cores,
  λ fs cs z a l. lists_held a (held fs cs c.args.scratch.now) _ _ _
      (first_are (node_of cs) c.args.nodes a.nodes c.args.scratch.now.nodes.items c.truncate.new.self.items c.truncate.ensures.items l)
      (c.in_ok-push_lists.ensures fs cs ∙ ap (λ ns. map (loose fs cs) c.args.scratch.now.leaves.items ++ numbered_lists 0 c.args.lists ns)
      (rest_is (node_of cs) c.args.nodes a.nodes c.deref.result.now c.args.scratch.now.nodes.items _ refl c.deref.ensures.value l)),
)
