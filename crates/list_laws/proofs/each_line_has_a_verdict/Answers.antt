use Rattle.comp_order.proofs.Counted.{each_counted}
use Rattle.list_laws.proofs.each_line_has_a_verdict.Goals as goal

pub returns : goal.returns
returns c = λ b. each_counted b
