use Rattle.std.proofs.Common.{◌≡◌, drop, map}
use Rattle.wast_grammar.specs.Grammar.{fits}
use Rattle.wast_parser.specs.View.{stand_of}
use Rattle.text_table.specs.Code.{lent_classes}
use Rattle.text_table.proofs.tests.is_form.Given as goal

abbrev pub invariant-loop-part : goal.invariant-loop-part
invariant-loop-part l = ((stand_of l.at).text ≡ (stand_of l.initial.cursor).text) × (fits (map lent_classes (drop l.part-index l.classes)) (stand_of l.at).text.tokens l.at.at ≡ fits (map lent_classes l.classes) (stand_of l.initial.cursor).text.tokens l.initial.cursor.at)
