use Rattle.print_again.proofs.ValidPrints.{read_back}
use Rattle.print_again.proofs.laws.printed_text_is_read_back.Goals as goal

pub returns : goal.returns
returns c = read_back c.spelled_once.ensures.once c.printed_text_is_valid.ensures
