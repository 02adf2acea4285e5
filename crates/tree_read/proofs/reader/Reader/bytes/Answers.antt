use Rattle.std.proofs.Common.{◌∙◌, sym}
use Rattle.wast_parser.specs.View.{stand_of}
use Rattle.tree_read.proofs.Strings.{bytes_taken, no_bytes}
use Rattle.tree_read.proofs.reader.Reader.bytes.Goals as goal

pub returns-in-Ok : goal.returns-in-Ok
returns-in-Ok c = no_bytes c.args.self.now (stand_of c.cursor.result) c.in-Some.bytes.now (c.cursor.ensures.place ∙ c.self.view_is) c.in-Some.ensures.next.0 c.in-Ok.ensures.cases.1

pub returns-in-Err : goal.returns-in-Err
returns-in-Err c = bytes_taken c.args.self.now (stand_of c.cursor.result) c.pass.new.self c.in-Some.bytes.now (c.cursor.ensures.place ∙ c.self.view_is) c.in-Some.ensures.next.0 c.in-Some.ensures.value c.in-Err.ensures.cases.0 c.pass.ensures
