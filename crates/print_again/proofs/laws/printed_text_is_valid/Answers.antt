use Rattle.print_again.proofs.ValidPrints.{valid_print}
use Rattle.print_again.proofs.laws.printed_text_is_valid.Goals as goal

pub returns : goal.returns
returns c = valid_print c.printed_text_spells.ensures c.printed_text_is_deep.ensures c.unnamed_is_covered.ensures
