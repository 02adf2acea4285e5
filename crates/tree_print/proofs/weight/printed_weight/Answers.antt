use Rattle.std.proofs.Common.{◌∙◌, ap, sym}
use Rattle.tree_print.specs.Taken.{capped}
use Rattle.tree_print.proofs.Sums.{sum_of, whole_weighs}
use Rattle.tree_print.proofs.weight.printed_weight.Goals as goal

pub returns : goal.returns
returns c = λ f. sum_of 32 _ _ _ (c.printed_defs.ensures f) c.both.ensures.sum ∙ ap capped (sym (whole_weighs f c.args.scope.now))
