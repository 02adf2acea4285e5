use Rattle.std.proofs.Common.{true, map, ◌∙◌}
use Rattle.core_syntax.specs.Fields.{value_of}
use Rattle.core_fits.proofs.Sizes.{counted_size}
use Rattle.core_fits.proofs.ValuesSized.{few_values}
use Rattle.core_fits.proofs.types.results_length.Goals as goal

pub returns : goal.returns
returns c = c.counted_length.ensures ∙ counted_size c.results_size.result _ true c.results_size.ensures (few_values (λ v. v) (map value_of c.args.results.now))
