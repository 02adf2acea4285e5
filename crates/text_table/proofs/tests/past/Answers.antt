use Rattle.std.proofs.Common.{◌∙◌, sym}
use Rattle.text_table.proofs.Testing.{fits_at_end}
use Rattle.text_table.proofs.tests.past.Goals as goal

pub returns-then-is_at_end-clause-on : goal.returns-then-is_at_end-clause-on
returns-then-is_at_end-clause-on c = λ ps. fits_at_end ps _ _ (sym c.is_at_end.ensures.end ∙ c.if-is_at_end.true)
