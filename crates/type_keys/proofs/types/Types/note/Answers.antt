use Rattle.type_keys.proofs.Noted.{noted, ok-each}
use Rattle.type_keys.proofs.types.Types.note.Goals as goal

pub returns : goal.returns
returns c = ok-each c.put.result _ _ (λ k. c.put.ensures.put k) (λ p ks h free l. noted _ _ ks c.args.key c.args.number p h free l)
