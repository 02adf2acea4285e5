use Rattle.wire_tree.specs.Model.{scope_of}
use Rattle.binary_inputs.proofs.Tells.{error_told}
use Rattle.print_replies.specs.Answer.{IsTold, NotPrinted}
use Rattle.print_replies.specs.Answer.NotPrinted.{unread}
use Rattle.print_replies.proofs.Tells.{bytes_told}
use Rattle.print_replies.proofs.reply.reply_to_bytes.Goals as goal

pub returns-in-Ok : goal.returns-in-Ok
returns-in-Ok c =
    let h = c.in-Ok.ensures in
    bytes_told c.args.bytes.now (scope_of c.in-Ok.scope) c.reply_to_scope.result (record { small = h.0; reads = h.1; shallow = h.2 }) (c.reply_to_scope.ensures h.1.fits)

pub returns : goal.returns
returns c = error_told IsTold NotPrinted c.args.bytes.now unread c.in-Err.error c.told_error.result c.in-Err.ensures c.told_error.ensures
