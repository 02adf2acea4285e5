use Rattle.std.proofs.Common.{refl, sym, ap, ◌∙◌}
use Rattle.plan_lines.specs.Lines.{a_part, an_export, part_with, export_with}
use Rattle.plan_lines.specs.Shown.{word_of, rest_of}
use Rattle.plan_lines.proofs.line.export_line.Goals as goal

pub returns-in-Some-clause-said : goal.returns-in-Some-clause-said
returns-in-Some-clause-said c = (an_export (word_of c.in-Some.text) (word_of c.in-Some.instance), refl, ap export_with (sym c.in-Some.ensures.words))
