use Rattle.std.proofs.Common.{[], ap}
use Rattle.type_keys.specs.Keys.{part_type, same_part}
use Rattle.tree_expand.proofs.KeyLists.{odd_at}
use Rattle.tree_expand.proofs.known.push_type.Goals as goal

pub returns-in-None : goal.returns-in-None
returns-in-None c = λ ps h. odd_at ps (part_type c.args.number) [] (ap (λ q. same_part (part_type q) (part_type q)) c.in-None.is)
