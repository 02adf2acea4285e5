use Rattle.std.proofs.Common.{◌≤◌, ◌+◌, length, rules, sym, subst}
use Rattle.wast_tokens.specs.Steps.{IsStop}
use Rattle.wast_tokens.proofs.Classes.{annotation_within}
use Rattle.wast_tokens.proofs.Tilings.{glued_fault}
use Rattle.wast_tokens.proofs.lexer.annotation_at.Goals as goal

pub overflow_add-at : goal.overflow_add-at
overflow_add-at c = let le : c.args.at + 2 ≤ length c.args.text.now = annotation_within _ _ c.requires.begins in search (rules, le)

pub word_end-end-requires : goal.word_end-end-requires
word_end-end-requires c = record { here = annotation_within _ _ c.requires.begins }

pub returns-in-Ok : goal.returns-in-Ok
returns-in-Ok c =
    let fault = glued_fault _ _ c.word_end-end.result _ c.requires.begins c.word_end-end.ensures.end c.if-end-at.false c.if-goes_on.ensures.goes_on c.in-Ok.ensures.end.0 c.in-Ok.ensures.end.1 in
    record { step = subst (IsStop _ _) (sym c.stop-in-Ok.ensures.stop) fault }
