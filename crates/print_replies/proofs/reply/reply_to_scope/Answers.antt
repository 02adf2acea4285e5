use Rattle.std.proofs.Common.{string_bytes}
use Rattle.wire_tree.specs.Model.{scope_of}
use Rattle.print_replies.proofs.Tells.{scope_told, scope_refused}
use Rattle.print_replies.proofs.reply.reply_to_scope.Goals as goal

pub returns-in-Ok : goal.returns-in-Ok
returns-in-Ok c = λ fits. scope_told (scope_of c.args.scope.now) (string_bytes c.in-Ok.text) c.told_text.result c.in-Ok.ensures.printed c.in-Ok.ensures.admitted (c.in-Ok.ensures.printable fits) c.told_text.ensures

pub returns-in-Err : goal.returns-in-Err
returns-in-Err c = λ _. scope_refused (scope_of c.args.scope.now) c.in-Err.error.kind c.told_refusal.result c.in-Err.ensures.refused c.told_refusal.ensures
