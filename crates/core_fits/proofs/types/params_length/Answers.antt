use Rattle.std.proofs.Common.{true, map, ◌∙◌}
use Rattle.core_syntax.specs.Fields.{param_of}
use Rattle.core_fits.proofs.Sizes.{counted_size}
use Rattle.core_fits.proofs.ValuesSized.{few_values}
use Rattle.core_fits.proofs.types.params_length.Goals as goal

pub returns : goal.returns
returns c = c.counted_length.ensures ∙ counted_size c.params_size.result _ true c.params_size.ensures (few_values (λ l. l.value) (map param_of c.args.params.now))
