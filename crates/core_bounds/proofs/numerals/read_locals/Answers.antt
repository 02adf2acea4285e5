use Rattle.std.proofs.Common.{None}
use Rattle.core_syntax.specs.declared.types.ValType.TheVariants.{I32}
use Rattle.core_model.specs.Words.{LocalsWord}
use Rattle.core_syntax.specs.Fields.{local_of}
use Rattle.core_bounds.proofs.Turns.{held-turn-at, held-end}
use Rattle.core_bounds.proofs.numerals.read_locals.Goals as goal

pub loop-local-init : goal.loop-local-init
loop-local-init c = λ h. h

pub loop-local-preserved : goal.loop-local-preserved
loop-local-preserved c = held-turn-at LocalsWord local_of _ c.args.locals.now c.loop-local.local-index (record { id = None; name = None; ty = I32 }) c.loop-local-test.true (λ rest. (c.read_value.ensures, rest)) c.loop-local.invariant

pub returns : goal.returns
returns c = held-end LocalsWord local_of _ c.args.locals.now c.loop-local.local-index c.loop-local-test.false tt c.loop-local.invariant
