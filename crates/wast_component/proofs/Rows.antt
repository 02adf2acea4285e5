-- The row of a text can be read from left to right, and its tests decide between its parts.
use Rattle.std.proofs.Common.{◌≡◌, true, refl, subst, sym}
use Rattle.text_rules.specs.FieldRules.{wat_item}
use Rattle.text_rules.specs.Rule.{reads}
use Rattle.wast_grammar.specs.Clear.{clear}
use Rattle.wast_grammar.specs.FieldRows as rows
use Rattle.wast_grammar.specs.FormatLaws.{field_rows, fields_are_lawful}
use Rattle.wast_grammar.specs.Grammar.{whole}
use Rattle.wast_grammar.specs.Lawful.{lawful_at}
use Rattle.wast_grammar.specs.Shape.{sound}
use Rattle.wast_grammar.specs.Unfolded.{value_rows, name_rows}
use Rattle.wast_component.specs.Whole.{wat}

-- the rule of a text reads the row of a text
reads_text : reads wat_item ≡ rows.wat_item
unfolding value_rows name_rows
reads_text = refl

lawful : (sound (reads wat_item) ≡ true) × (clear wat ≡ true)
lawful = subst (λ x. (sound x ≡ true) × (clear (whole x) ≡ true)) (sym reads_text) (lawful_at 9 rows.wat_item field_rows fields_are_lawful refl)

pub sound_text : sound wat ≡ true
sound_text = lawful.0

pub clear_text : clear wat ≡ true
clear_text = lawful.1
