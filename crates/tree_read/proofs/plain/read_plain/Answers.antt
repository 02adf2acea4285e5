use Rattle.tree_read.proofs.PlainTypes.{plain_reads}
use Rattle.tree_read.proofs.plain.read_plain.Goals as goal

pub returns : goal.returns
returns c = plain_reads c.args.plain c.args.reader.now c.go-offset.new.self c.go-offset.result c.args.scratch.now c.push_plain.new.scratch c.push_plain.result c.requires c.go-offset.ensures.offset c.go-offset.ensures.place c.push_plain.ensures
