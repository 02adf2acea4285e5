use Rattle.std.proofs.Common.{None}
use Rattle.core_syntax.specs.declared.types.ValType.TheVariants.{I32}
use Rattle.core_model.specs.Words.{LocalsWord}
use Rattle.core_syntax.specs.Fields.{param_of}
use Rattle.core_bounds.proofs.Turns.{held-turn-at, held-end}
use Rattle.core_bounds.proofs.numerals.read_params.Goals as goal

pub loop-param-init : goal.loop-param-init
loop-param-init c = λ h. h

pub loop-param-preserved : goal.loop-param-preserved
loop-param-preserved c = held-turn-at LocalsWord param_of _ c.args.params.now c.loop-param.param-index (record { id = None; name = None; ty = I32 }) c.loop-param-test.true (λ rest. (c.read_value.ensures, rest)) c.loop-param.invariant

pub returns : goal.returns
returns c = held-end LocalsWord param_of _ c.args.params.now c.loop-param.param-index c.loop-param-test.false tt c.loop-param.invariant
