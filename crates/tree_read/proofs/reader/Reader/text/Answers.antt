use Rattle.std.proofs.Common.{◌∙◌, sym}
use Rattle.wast_parser.specs.View.{stand_of}
use Rattle.tree_read.proofs.Strings.{text_taken, no_text}
use Rattle.tree_read.proofs.reader.Reader.text.Goals as goal

pub returns-in-Ok : goal.returns-in-Ok
returns-in-Ok c = text_taken c.args.self.now (stand_of c.cursor.result) c.pass.new.self c.in-Some.bytes.now c.in-Ok.text.now (c.cursor.ensures.place ∙ c.self.view_is) c.in-Some.ensures.next.0 c.in-Some.ensures.value c.in-Ok.ensures.cases.0 c.in-Ok.ensures.cases.1 c.pass.ensures

pub returns-in-Err : goal.returns-in-Err
returns-in-Err c = no_text c.args.self.now (stand_of c.cursor.result) c.in-Some.bytes.now (c.cursor.ensures.place ∙ c.self.view_is) c.in-Some.ensures.next.0 c.in-Err.ensures.cases.0
