use Rattle.std.proofs.Common.{◌∙◌, sym, ap, subst}
use Rattle.tree_read.specs.Paths.{ReadsTexts, TextsRead, steps_rule}
use Rattle.tree_read.proofs.Paths.{legacy_text, no_legacy_text}
use Rattle.tree_read.proofs.path.read_steps.Goals as goal

pub returns-then-legacy : goal.returns-then-legacy
returns-then-legacy c = subst (λ x. ReadsTexts (steps_rule x) c.read_text_if-then-legacy.result c.args.reader.now c.read_text_if-then-legacy.new.reader c.args.names.now.items c.read_text_if-then-legacy.new.names.items) (sym c.in-Legacy.is)
    (legacy_text c.read_text_if-then-legacy.result c.args.reader.now c.read_text_if-then-legacy.new.reader c.args.names.now.items c.read_text_if-then-legacy.new.names.items (ap (λ s. s.text.legacy) (sym c.parser.ensures) ∙ (sym c.legacy.ensures.legacy ∙ c.if-legacy.true)) c.read_text_if-then-legacy.ensures)

pub returns-else-legacy : goal.returns-else-legacy
returns-else-legacy c = subst (λ x. TextsRead (steps_rule x) c.args.reader.now c.args.reader.now c.args.names.now.items c.args.names.now.items) (sym c.in-Legacy.is)
    (no_legacy_text c.args.reader.now c.args.names.now.items (ap (λ s. s.text.legacy) (sym c.parser.ensures) ∙ (sym c.legacy.ensures.legacy ∙ c.if-legacy.false)))
