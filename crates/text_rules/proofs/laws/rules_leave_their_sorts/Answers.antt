use Rattle.text_rules.proofs.Passes.{passes}
use Rattle.text_rules.proofs.Sound.{good}
use Rattle.text_rules.proofs.laws.rules_leave_their_sorts.Goals as goal

pub returns : goal.returns
returns c = λ r s t v d i p h. good passes v r (s, t, d) i p h
