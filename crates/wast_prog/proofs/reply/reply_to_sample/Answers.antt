use Rattle.std.proofs.Common.{◌∙◌}
use Rattle.comp_wire.specs.Origins.{origins_of}
use Rattle.wast_prog.proofs.FewMarks.{few_marks}
use Rattle.wast_prog.proofs.Replies.{sample_done, sample_not_encoded}
use Rattle.wast_prog.proofs.reply.reply_to_sample.Goals as goal

pub sample_lines-requires : goal.sample_lines-requires
sample_lines-requires c = record { few = few_marks c.plan_costs_its_marks.ensures (origins_of c.in-Ok.encoded.origins) (c.encodings_are_light.ensures _ _ _ _ c.in-Ok.ensures.encoding) }

pub returns-in-Ok : goal.returns-in-Ok
returns-in-Ok c input =
    sample_done input c.as_str.result.now c.as_str-in-Ok.result.now _ c.in-Ok.encoded.bytes.items (origins_of c.in-Ok.encoded.origins) c.args.count (c.as_str.ensures.value ∙ c.in_ok-text.ensures)
    (c.as_str-in-Ok.ensures.value ∙ c.in_ok-text.ensures) c.in-Ok.ensures.encoding c.in_ok-sample_lines-in-Ok.ensures

pub returns : goal.returns
returns c input = sample_not_encoded input c.as_str.result.now _ c.in-Err.refusal c.args.count (c.as_str.ensures.value ∙ c.in_ok-text.ensures) c.in-Err.ensures.refused c.in_ok-line_of-in-Err.ensures
