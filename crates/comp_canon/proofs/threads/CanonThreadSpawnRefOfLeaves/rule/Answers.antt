use Rattle.std.proofs.Common.{refl}
use Rattle.comp_canon.specs.Lines.{thread_spawn_ref}
use Rattle.comp_canon.proofs.threads.CanonThreadSpawnRefOfLeaves.rule.Goals as goal

pub returns : goal.returns
returns c = c.built_in.ensures thread_spawn_ref refl
