use Rattle.wire_tree.specs.Model.{scope_of}
use Rattle.comp_list.proofs.HaveRoom.{have_room}
use Rattle.list_replies.proofs.reply.lines_of.Goals as goal

pub list_scope-requires : goal.list_scope-requires
list_scope-requires c =
    let read = c.requires.read in
    record { room = have_room read.0 (scope_of c.args.scope.now) read.2 read.1 }
