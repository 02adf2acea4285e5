use Rattle.std.proofs.Common.{[], ◌∷◌, take, drop, refl, lit≤}
use Rattle.text_rules.specs.FieldRules.{field_in_group}
use Rattle.text_table.specs.Choice.{rules_in}
use Rattle.text_table.proofs.Places.{core_chosen}
use Rattle.text_table.proofs.Fits.{field_fits}
use Rattle.text_table.proofs.choices.field.Goals as goal

pub returns : goal.returns
returns c =
    let rows = rules_in field_in_group in
    core_chosen _ (130 ∷ 126 ∷ 145 ∷ 135 ∷ 122 ∷ []) (112 ∷ 126 ∷ 107 ∷ 145 ∷ 122 ∷ 125 ∷ 118 ∷ 140 ∷ 110 ∷ []) (take 5 rows) (drop 5 rows) 5 c.args.code c.args.ahead c.rule_of_words.ensures (lit≤ tt) (lit≤ tt) refl field_fits
