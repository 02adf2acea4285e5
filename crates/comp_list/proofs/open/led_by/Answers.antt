use Rattle.std.proofs.Common.{arith}
use Rattle.comp_list.proofs.open.led_by.Goals as goal

pub led_there-requires : goal.led_there-requires
led_there-requires c = record { few = λ e. omega (arith, c.spot_at.ensures.inside e, c.requires.depth) }
