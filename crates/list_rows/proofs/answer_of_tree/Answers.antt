use Rattle.std.proofs.Common.{arith}
use Rattle.item_tree.specs.Model.{component_of}
use Rattle.comp_list.proofs.HaveRoom.{have_room}
use Rattle.list_rows.proofs.answer_of_tree.Goals as goal

pub list-requires : goal.list-requires
list-requires c = record { room = have_room c.args.bytes.now (component_of c.args.tree.now) c.requires.read (omega (arith, c.requires.small)) }
