use Rattle.core_syntax.specs.declared.instructions.Instruction.TheVariants.{Unreachable}
use Rattle.core_model.specs.Words.{BodyWord}
use Rattle.core_syntax.specs.Fields.{instruction_of}
use Rattle.core_bounds.proofs.Turns.{held-turn-at, held-end}
use Rattle.core_bounds.proofs.numerals.read_instructions.Goals as goal

pub loop-instruction-init : goal.loop-instruction-init
loop-instruction-init c = λ h. h

pub loop-instruction-preserved : goal.loop-instruction-preserved
loop-instruction-preserved c = held-turn-at BodyWord instruction_of _ c.args.instructions.now c.loop-instruction.instruction-index Unreachable c.loop-instruction-test.true (λ rest. (c.read_instruction.ensures, rest)) c.loop-instruction.invariant

pub returns : goal.returns
returns c = held-end BodyWord instruction_of _ c.args.instructions.now c.loop-instruction.instruction-index c.loop-instruction-test.false tt c.loop-instruction.invariant
