use Rattle.std.proofs.Common.{sym, subst}
use Rattle.type_keys.specs.Keys.{type_key}
use Rattle.tree_expand.specs.KeyParts.{KeyShows}
use Rattle.tree_expand.specs.Passed.{types_in}
use Rattle.tree_expand.proofs.KeyLists.{found_by_key, found_by_none}
use Rattle.tree_expand.proofs.known.Known.find.Goals as goal

pub returns-in-Some : goal.returns-in-Some
returns-in-Some c = λ xs t ls h k p. found_by_key c.args.self.now.types xs c.in-Some.key c.find.result t ls h.keyed h.passed c.find.ensures (subst (λ q. KeyShows q (type_key (types_in xs) t ls)) c.in-Some.is k) p

pub returns-in-None : goal.returns-in-None
returns-in-None c = λ xs t ls h k p. sym (found_by_none (types_in xs) t ls (subst (λ q. KeyShows q (type_key (types_in xs) t ls)) c.in-None.is k) p)
