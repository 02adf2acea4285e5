use Rattle.std.proofs.Common.{sym, subst}
use Rattle.std.specs.Prelude.{⊤}
use Rattle.wast_grammar.specs.Read.{read}
use Rattle.tree_read.specs.Comes.{Gives}
use Rattle.tree_read.specs.NameParts.{said, text_group}
use Rattle.tree_read.proofs.NameReads.{group_read, group_ends, group_fails}
use Rattle.tree_read.proofs.Refusals.{passed}
use Rattle.tree_read.proofs.names.text_group.Goals as goal

pub returns-in_err-take-3 : goal.returns-in_err-take-3
returns-in_err-take-3 c = λ w k.
    subst (λ r. Gives said r c.take-3.new.self (read (text_group w) c.args.reader.now)) (sym (passed c.from_residual-in_err-take-3.result c.in_err-take-3.field-0.0 c.from_residual-in_err-take-3.ensures.1 (λ y z. z)))
    (group_fails said (said c.in_ok-text.text) (read (text_group w) c.args.reader.now) c.in_err-take-3.field-0.0 ⊤ c.text.new.self c.take-3.new.self
    (group_read w c.args.word c.args.reader.now c.take.new.self c.take-2.new.self c.text.new.self _ k c.in_ok-take.ensures.0 c.in_ok-take.ensures.1 c.in_ok-take-2.ensures.0 c.in_ok-take-2.ensures.1 c.in_ok-text.ensures.0 c.in_ok-text.ensures.1 c.in_ok-text.ensures.2)
    c.in_err-take-3.ensures)

pub returns : goal.returns
returns c = λ w k.
    group_ends (said c.in_ok-text.text) _ c.text.new.self c.take-3.new.self
    (group_read w c.args.word c.args.reader.now c.take.new.self c.take-2.new.self c.text.new.self _ k c.in_ok-take.ensures.0 c.in_ok-take.ensures.1 c.in_ok-take-2.ensures.0 c.in_ok-take-2.ensures.1 c.in_ok-text.ensures.0 c.in_ok-text.ensures.1 c.in_ok-text.ensures.2)
    c.in_ok-take-3.ensures.0 c.in_ok-take-3.ensures.1
