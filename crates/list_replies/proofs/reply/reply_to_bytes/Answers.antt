use Rattle.std.proofs.Common.{arith}
use Rattle.wire_tree.specs.Model.{scope_of}
use Rattle.binary_inputs.specs.Input.{NotRead}
use Rattle.binary_inputs.proofs.Tells.{error_told}
use Rattle.list_replies.specs.Answer.{IsTold}
use Rattle.list_replies.proofs.Tells.{bytes_told}
use Rattle.list_replies.proofs.reply.reply_to_bytes.Goals as goal

pub told_lines-requires : goal.told_lines-requires
told_lines-requires c = let h = c.in-Ok.ensures in record { read = (c.args.bytes.now, omega (arith, h.0), h.1) }

pub returns-in-Ok : goal.returns-in-Ok
returns-in-Ok c =
    let h = c.in-Ok.ensures in
    bytes_told c.args.bytes.now c.args.ask (scope_of c.in-Ok.scope) c.told_lines.result (record { small = h.0; reads = h.1; shallow = h.2 }) c.told_lines.ensures

pub returns : goal.returns
returns c = error_told (IsTold c.args.ask) NotRead c.args.bytes.now (λ name offset n. n) c.in-Err.error c.told_error.result c.in-Err.ensures c.told_error.ensures
