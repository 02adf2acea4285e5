use Rattle.comp_tree.specs.Model.{index_of, reach_of}
use Rattle.tree_build.proofs.Indices.{reference_added}
use Rattle.tree_build.proofs.scratch.Scratch.reference.Goals as goal

pub returns-in-Ok : goal.returns-in-Ok
returns-in-Ok c = reference_added c.leaf.result c.args.self.now c.leaf.new.self c.in-Ok.leaf c.args.space (index_of (reach_of c.args.reach.now) c.args.index) c.in-Ok.ensures c.leaf.ensures
