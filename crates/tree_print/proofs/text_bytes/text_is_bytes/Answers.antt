use Rattle.std.proofs.Common.{arith}
use Rattle.tree_print.proofs.TreeBytes.{are_bytes}
use Rattle.tree_print.proofs.text_bytes.text_is_bytes.Goals as goal

pub returns : goal.returns
returns c = are_bytes c.args.text.now (λ i. omega (arith, c.type_inv.text i))
