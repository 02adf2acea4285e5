use Rattle.typed_nodes.proofs.References.{only_reference}
use Rattle.typed_nodes.proofs.taken.root_in.Goals as goal

pub unreachable-requires : goal.unreachable-requires
unreachable-requires c = only_reference c.requires.0 c.args.leaf.now c.requires.1 c.requires.2 c.in_default.not-Numeral c.in_default.not-Name c.in_default.not-Path
