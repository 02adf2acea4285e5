use Rattle.std.proofs.Common.{◌<◌, ◌≤◌, length, None, get_or, sym, ◌∙◌, ap, arith}
use Rattle.core_model.specs.Resolved.{numbered_local}
use Rattle.core_syntax.specs.declared.types.ValType.TheVariants.{I32}
use Rattle.core_syntax.specs.Fields.{naming_of, local_of}
use Rattle.core_resolve.proofs.Changed.{changed-turn, changed-end}
use Rattle.core_resolve.proofs.types.number_locals.Goals as goal

pub loop-local-preserved : goal.loop-local-preserved
loop-local-preserved c =
    let below : c.loop-local.local-index < length c.loop-local.locals = omega arith in
    let old = get_or c.loop-local.locals c.loop-local.local-index (record { id = None; name = None; ty = I32 }) in
    changed-turn local_of (numbered_local c.args.types.now) c.loop-local.local-index c.loop-local.locals (record { id = None; name = None; ty = I32 }) _ below
    (ap (λ v. record { naming = naming_of old.id old.name; value = v }) c.numbered_value-local.ensures)
    ∙ c.loop-local.invariant

pub returns : goal.returns
returns c =
    let end : length c.loop-local.locals ≤ c.loop-local.local-index = omega arith in
    sym (changed-end local_of (numbered_local c.args.types.now) c.loop-local.local-index c.loop-local.locals end) ∙ c.loop-local.invariant
