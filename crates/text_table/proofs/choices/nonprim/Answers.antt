use Rattle.std.proofs.Common.{◌≤◌, arith}
use Rattle.text_rules.specs.ValueRules.{nonprim}
use Rattle.text_table.specs.Choice.{rules_in}
use Rattle.text_table.proofs.Choosing.{chosen_by}
use Rattle.text_table.proofs.Fits.{nonprim_fits}
use Rattle.text_table.proofs.choices.nonprim.Goals as goal

pub returns : goal.returns
returns c = let h : 40 ≤ 149 = omega arith in chosen_by _ (rules_in nonprim) 27 c.args.code c.args.ahead c.rule_at.ensures h nonprim_fits
