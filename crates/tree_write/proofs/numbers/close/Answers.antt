use Rattle.std.proofs.Common.{refl}
use Rattle.tree_write.proofs.Puts.{closes}
use Rattle.tree_write.proofs.numbers.close.Goals as goal

pub returns : goal.returns
returns g c = λ before body t e. closes _ _ _ before body c.args.end c.length.result _ refl c.length.ensures c.saturating_sub-length.ensures c.write_unsigned.ensures t e
