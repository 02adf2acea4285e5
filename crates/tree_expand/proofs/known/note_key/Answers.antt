use Rattle.tree_expand.proofs.KeyLists.{odd_shown}
use Rattle.std.proofs.Common.{subst}
use Rattle.tree_expand.specs.KeyParts.{KeyShows}
use Rattle.tree_expand.proofs.known.note_key.Goals as goal

pub returns-in-None : goal.returns-in-None
returns-in-None c = λ ks q s k f l. odd_shown c.args.types.now ks q s (subst (λ x. KeyShows x q) c.in-None.is k)
