use Rattle.printed_text.proofs.NamesLeft.{unnamed_covered}
use Rattle.printed_text.proofs.laws.unnamed_is_covered.Goals as goal

pub returns : goal.returns
returns c = unnamed_covered
