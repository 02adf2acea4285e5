use Rattle.std.proofs.Common.{◌∙◌, refl, sym, codes}
use Rattle.wast_grammar.specs.Classes.{keyword}
use Rattle.wast_grammar.specs.Grammar.{a_text}
use Rattle.tree_read.specs.NameParts.{said}
use Rattle.tree_read.proofs.NameReads.{gives_by, kept_gives, name_of_group, name_of_text}
use Rattle.tree_read.proofs.names.plain_name.Goals as goal

pub returns-then-is_next : goal.returns-then-is_next
returns-then-is_next c = gives_by said c.text_group.result c.text_group.new.reader _ _ (name_of_group c.args.reader.now (sym c.is_next.ensures ∙ c.if-is_next.true)) (c.text_group.ensures (keyword (codes "interface")) refl)

pub returns-else-is_next : goal.returns-else-is_next
returns-else-is_next c = gives_by said c.text.result c.text.new.self _ _ (name_of_text c.args.reader.now (sym c.is_next.ensures ∙ c.if-is_next.false)) (kept_gives said a_text c.text.result c.args.reader.now c.text.new.self c.text.ensures)
