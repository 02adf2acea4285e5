use Rattle.std.specs.Prelude.{◌≡◌}
use Rattle.std.proofs.Common.{subst}
use Rattle.wast_parser.specs.View.{text_of}
use Rattle.tree_read.specs.Whole.{ToTheEnd}
use Rattle.tree_read.proofs.WholeText.{held_whole, def_there, whole_given, whole_refused}
use Rattle.tree_read.proofs.text.read_text.Goals as goal

pub first_def-requires : goal.first_def-requires
first_def-requires c =
    let h = subst (λ r. ToTheEnd r c.at_start-reader.result c.to_the_end.new.reader c.new-scratch.result c.to_the_end.new.scratch) c.in-Ok.is c.to_the_end.ensures in
    def_there c.at_start-reader.result c.to_the_end.new.reader c.to_the_end.new.scratch (held_whole c.text_is_component.ensures.read c.in-Ok.field-0 c.at_start-reader.result c.to_the_end.new.reader c.new-scratch.result c.to_the_end.new.scratch c.new-scratch.ensures h.0 h.1)

pub returns-in-Ok : goal.returns-in-Ok
returns-in-Ok c =
    let h = subst (λ r. ToTheEnd r c.at_start-reader.result c.to_the_end.new.reader c.new-scratch.result c.to_the_end.new.scratch) c.in-Ok.is c.to_the_end.ensures in
    record { gives = whole_given (text_of c.args.buffer.now) c.at_start-reader.result c.to_the_end.new.reader c.to_the_end.new.scratch c.first_def.result c.at_start-reader.ensures (held_whole c.text_is_component.ensures.read c.in-Ok.field-0 c.at_start-reader.result c.to_the_end.new.reader c.new-scratch.result c.to_the_end.new.scratch c.new-scratch.ensures h.0 h.1) c.first_def.ensures.def c.first_def.ensures.cores }

pub returns : goal.returns
returns c = record { gives = whole_refused (text_of c.args.buffer.now) c.in-Err.fault c.at_start-reader.result c.to_the_end.new.reader c.refusal.result c.at_start-reader.ensures (subst (λ r. ToTheEnd r c.at_start-reader.result c.to_the_end.new.reader c.new-scratch.result c.to_the_end.new.scratch) c.in-Err.is c.to_the_end.ensures) c.refusal.ensures }
