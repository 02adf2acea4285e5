use Rattle.std.proofs.Common.{codes, ap, ◌∙◌, string_bytes}
use Rattle.std.specs.Str.{valid_up_to}
use Rattle.wast_refusals.specs.Line.{refusal_line}
use Rattle.wast_prog.specs.Answer.RunRefuses.{not_utf8}
use Rattle.wast_prog.proofs.Replies.{text_done, text_refused, text_not_encoded}
use Rattle.wast_prog.proofs.reply.reply_to_text.Goals as goal

pub returns-in-Err : goal.returns-in-Err
returns-in-Err c =
    text_refused c.args.input.now _ (codes "utf-8") (valid_up_to c.in-Err.error) c.args.legacy c.args.print (not_utf8 (valid_up_to c.in-Err.error) c.requires c.in-Err.ensures.cases.1)
    (c.in_ok-line-in-Err.ensures ∙ ap (refusal_line (codes "utf-8")) c.valid_up_to.ensures)

pub returns-in-Ok-printed : goal.returns-in-Ok-printed
returns-in-Ok-printed c =
    let text = c.in-Ok.ensures.cases in text_done c.args.input.now c.in-Ok.text.now _ c.args.legacy c.args.print c.requires text.0 text.1 c.in-Ok-printed.ensures.ok

pub returns-in_ok-line_of-in-Err-printed : goal.returns-in_ok-line_of-in-Err-printed
returns-in_ok-line_of-in-Err-printed c =
    let text = c.in-Ok.ensures.cases in
    text_not_encoded c.args.input.now c.in-Ok.text.now (string_bytes c.in_ok-line_of-in-Err-printed.field-0) c.in-Err-printed.refusal c.args.legacy c.args.print c.requires text.0 text.1 c.in-Err-printed.ensures.err c.in_ok-line_of-in-Err-printed.ensures
