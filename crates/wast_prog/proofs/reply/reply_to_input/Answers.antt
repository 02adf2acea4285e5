use Rattle.std.proofs.Common.{arith}
use Rattle.wast_prog.proofs.Endings.{reads_much}
use Rattle.wast_prog.proofs.Replies.{input_too_big}
use Rattle.wast_prog.proofs.reply.reply_to_input.Goals as goal

pub returns-then-len-gt-MAX_TEXT-clause-ok : goal.returns-then-len-gt-MAX_TEXT-clause-ok
returns-then-len-gt-MAX_TEXT-clause-ok g c =
    let much = reads_much _ _ _ c.in-Ok.ensures.ok (omega (arith, c.if-len-gt-MAX_TEXT.true, c.len.ensures, c.in-Ok.bytes.ok)) in
    (much.0, much.1, input_too_big much.0 _ c.args.command c.requires much.2 c.in-Ok-refusal_line.ensures)
