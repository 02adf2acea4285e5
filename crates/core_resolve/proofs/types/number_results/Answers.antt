use Rattle.std.proofs.Common.{◌<◌, ◌≤◌, length, sym, ◌∙◌, arith}
use Rattle.core_model.specs.Resolved.{numbered_value}
use Rattle.core_syntax.specs.Fields.{value_of}
use Rattle.core_resolve.proofs.Changed.{changed-turn, changed-end}
use Rattle.core_resolve.proofs.types.number_results.Goals as goal

pub loop-ty-preserved : goal.loop-ty-preserved
loop-ty-preserved c =
    let below : c.loop-ty.ty-index < length c.loop-ty.results = omega arith in
    changed-turn value_of (numbered_value c.args.types.now) c.loop-ty.ty-index c.loop-ty.results _ _ below c.numbered_value.ensures ∙ c.loop-ty.invariant

pub returns : goal.returns
returns c =
    let end : length c.loop-ty.results ≤ c.loop-ty.ty-index = omega arith in
    sym (changed-end value_of (numbered_value c.args.types.now) c.loop-ty.ty-index c.loop-ty.results end) ∙ c.loop-ty.invariant
