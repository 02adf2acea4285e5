use Rattle.std.proofs.Common.{[], ◌∷◌, take, drop, refl, lit≤}
use Rattle.text_rules.specs.TypeRules.{component_declaration}
use Rattle.text_table.specs.Choice.{rules_in}
use Rattle.text_table.proofs.Places.{core_chosen}
use Rattle.text_table.proofs.Fits.{component_declaration_fits}
use Rattle.text_table.proofs.choices.component_declaration.Goals as goal

pub returns : goal.returns
returns c =
    let rows = rules_in component_declaration in
    core_chosen _ (145 ∷ 135 ∷ []) (145 ∷ 107 ∷ 118 ∷ 125 ∷ []) (take 2 rows) (drop 2 rows) 2 c.args.code c.args.ahead c.rule_of_words.ensures (lit≤ tt) (lit≤ tt) refl component_declaration_fits
