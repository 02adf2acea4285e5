use Rattle.byte_table.specs.Lines.{family_of}
use Rattle.std.specs.Prelude.{option_to_list}
use Rattle.std.proofs.Common.{subst, ap, ◌∙◌, ◌++◌}
use Rattle.wire_read.specs.Place.{Takes}
use Rattle.wire_read.specs.Stops.{stop_of}
use Rattle.wire_read.proofs.WrittenOut.{no_function_lead, no_async, no_parameters, no_returned, function_read}
use Rattle.wire_read.proofs.common.read_function_type.Goals as goal

pub returns-then-not-read_lead : goal.returns-then-not-read_lead
returns-then-not-read_lead c = λ left k. no_function_lead (family_of c.args.family) left c.args.input.now k (λ ys e. c.read_lead.ensures.1 c.if-not-read_lead.true ys (ap (λ b. option_to_list b ++ ys) c.type_lead.ensures ∙ e))

pub returns-in-None : goal.returns-in-None
returns-in-None c = λ left k. no_async (family_of c.args.family) left c.args.input.now k _ (subst (λ b. Takes c.args.input.now c.read_lead.new.input (option_to_list b)) c.type_lead.ensures (c.read_lead.ensures.0 c.if-not-read_lead.false)) c.in-None.ensures

pub returns-in-Err : goal.returns-in-Err
returns-in-Err c = λ left k.
    no_parameters (family_of c.args.family) left c.args.input.now k _ (subst (λ b. Takes c.args.input.now c.read_lead.new.input (option_to_list b)) c.type_lead.ensures (c.read_lead.ensures.0 c.if-not-read_lead.false)) c.in-Some.is_async _ c.in-Some.ensures (stop_of c.in-Err.fault) (c.in-Err.ensures left)

pub returns-in-Err-read_result_type : goal.returns-in-Err-read_result_type
returns-in-Err-read_result_type c = λ left k.
    no_returned (family_of c.args.family) left c.args.input.now k _ (subst (λ b. Takes c.args.input.now c.read_lead.new.input (option_to_list b)) c.type_lead.ensures (c.read_lead.ensures.0 c.if-not-read_lead.false)) c.in-Some.is_async _ c.in-Some.ensures c.in-Ok.parameters _ (c.in-Ok.ensures left) (stop_of c.in-Err-read_result_type.fault) (c.in-Err-read_result_type.ensures left)

pub returns-in-Ok-place_all : goal.returns-in-Ok-place_all
returns-in-Ok-place_all c = λ left k.
    function_read (family_of c.args.family) left c.args.input.now k _ (subst (λ b. Takes c.args.input.now c.read_lead.new.input (option_to_list b)) c.type_lead.ensures (c.read_lead.ensures.0 c.if-not-read_lead.false)) c.in-Some.is_async _ c.in-Some.ensures c.in-Ok.parameters _ (c.in-Ok.ensures left) c.in-Ok-read_result_type.returned _ c.in-Ok-place_all.leaves (c.in-Ok-read_result_type.ensures left) c.in-Ok-place_all.ensures
