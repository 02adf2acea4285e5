use Rattle.std.proofs.Common.{ap, sym, ◌∙◌}
use Rattle.print_table.specs.TextOf.{results_tokens}
use Rattle.tree_print.specs.Taken.{written_of, put, Written}
use Rattle.tree_print.proofs.Puts.{results_counted}
use Rattle.tree_print.proofs.printer.Printer.put_results.Goals as goal

pub returns-in-Count : goal.returns-in-Count
returns-in-Count c =
    results_counted c.args.count c.in-Count.bytes c.results_size.result _ c.args.self.now.tight _ c.more_bytes.ensures.small c.results_size.ensures c.more_bytes.ensures.sum c.tight_behind_results-self.ensures
    ∙ ap (λ (w : Written). put (results_tokens c.args.count) (record { written = w; tight = c.args.self.now.tight })) (sym (ap written_of c.in-Count.is))
