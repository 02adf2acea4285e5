use Rattle.tree_write.proofs.Sizes.{some_size, no_size}
use Rattle.tree_write.proofs.short.can_be_written.Goals as goal

pub returns-in-Some : goal.returns-in-Some
returns-in-Some g c = record { exact = some_size _ _ _ _ c.in-Some.is c.component_size-size.ensures }

pub returns-in-None : goal.returns-in-None
returns-in-None g c = record { exact = no_size _ _ _ c.in-None.is c.component_size-size.ensures }
