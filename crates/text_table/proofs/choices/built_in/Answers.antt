use Rattle.std.proofs.Common.{◌≤◌, arith}
use Rattle.text_rules.specs.CanonRules.{built_in}
use Rattle.text_table.specs.Choice.{rules_in}
use Rattle.text_table.proofs.Choosing.{chosen_by}
use Rattle.text_table.proofs.Fits.{built_in_fits}
use Rattle.text_table.proofs.choices.built_in.Goals as goal

pub returns : goal.returns
returns c = let h : 107 ≤ 149 = omega arith in chosen_by _ (rules_in built_in) 58 c.args.code c.args.ahead c.rule_at.ensures h built_in_fits
