use Rattle.plan_lines.specs.Shown.{word_of}
use Rattle.comp_compose.proofs.Texts.{text_utf8}
use Rattle.comp_compose.proofs.arguments.text_of.Goals as goal

pub unreachable-requires : goal.unreachable-requires
unreachable-requires c = c.in-Err.ensures.cases.0 (text_utf8 (word_of c.args.word.now) c.requires)
