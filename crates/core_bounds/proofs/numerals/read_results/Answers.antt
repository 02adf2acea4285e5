use Rattle.core_syntax.specs.declared.types.ValType.TheVariants.{I32}
use Rattle.core_model.specs.Words.{ValuesWord}
use Rattle.core_syntax.specs.Fields.{value_of}
use Rattle.core_bounds.proofs.Turns.{held-turn-at, held-end}
use Rattle.core_bounds.proofs.numerals.read_results.Goals as goal

pub loop-ty-init : goal.loop-ty-init
loop-ty-init c = λ h. h

pub loop-ty-preserved : goal.loop-ty-preserved
loop-ty-preserved c = held-turn-at ValuesWord value_of _ c.args.results.now c.loop-ty.ty-index I32 c.loop-ty-test.true (λ rest. (c.read_value.ensures, rest)) c.loop-ty.invariant

pub returns : goal.returns
returns c = held-end ValuesWord value_of _ c.args.results.now c.loop-ty.ty-index c.loop-ty-test.false tt c.loop-ty.invariant
