use Rattle.text_table.proofs.Testing.{both_are}
use Rattle.text_table.proofs.tests.are_among.Goals as goal

pub returns : goal.returns
returns c = λ d e h k. both_are _ _ _ _ (c.is_among.ensures d h) (c.is_among-2.ensures e k)
