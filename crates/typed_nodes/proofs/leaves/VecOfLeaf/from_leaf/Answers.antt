use Rattle.std.proofs.Common.{refl}
use Rattle.typed_nodes.proofs.Fitting.{core_no_list, list_nodes, list_is}
use Rattle.typed_nodes.proofs.Made.{weaken}
use Rattle.typed_nodes.proofs.leaves.VecOfLeaf.from_leaf.Goals as goal

pub values_of-requires : goal.values_of-requires
values_of-requires g c κs = ((refl, tt), (c.requires.0, list_nodes c.requires.0 c.args.part.now c.in-Nodes.nodes _ c.in-Nodes.is c.requires.1))

pub unreachable-requires-in-Core : goal.unreachable-requires-in-Core
unreachable-requires-in-Core g c = core_no_list c.requires.0 c.args.part.now c.in-Core.field-0 _ c.in-Core.is c.requires.1

pub returns : goal.returns
returns g c = λ cores f. weaken _ _ c.values_of.result (λ x e. list_is cores c.args.part.now c.in-Nodes.nodes _ c.in-Nodes.is e) (c.values_of.ensures cores (list_nodes cores c.args.part.now c.in-Nodes.nodes _ c.in-Nodes.is f))
