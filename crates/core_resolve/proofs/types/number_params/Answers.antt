use Rattle.std.proofs.Common.{◌<◌, ◌≤◌, length, None, get_or, sym, ◌∙◌, ap, arith}
use Rattle.core_model.specs.Resolved.{numbered_local}
use Rattle.core_syntax.specs.declared.types.ValType.TheVariants.{I32}
use Rattle.core_syntax.specs.Fields.{naming_of, param_of}
use Rattle.core_resolve.proofs.Changed.{changed-turn, changed-end}
use Rattle.core_resolve.proofs.types.number_params.Goals as goal

pub loop-param-preserved : goal.loop-param-preserved
loop-param-preserved c =
    let below : c.loop-param.param-index < length c.loop-param.params = omega arith in
    let old = get_or c.loop-param.params c.loop-param.param-index (record { id = None; name = None; ty = I32 }) in
    changed-turn param_of (numbered_local c.args.types.now) c.loop-param.param-index c.loop-param.params (record { id = None; name = None; ty = I32 }) _ below
    (ap (λ v. record { naming = naming_of old.id old.name; value = v }) c.numbered_value-param.ensures)
    ∙ c.loop-param.invariant

pub returns : goal.returns
returns c =
    let end : length c.loop-param.params ≤ c.loop-param.param-index = omega arith in
    sym (changed-end param_of (numbered_local c.args.types.now) c.loop-param.param-index c.loop-param.params end) ∙ c.loop-param.invariant
