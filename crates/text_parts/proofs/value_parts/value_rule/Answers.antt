use Rattle.std.proofs.Common.{ap, sym}
use Rattle.text_parts.specs.ReadAlone.{value_part}
use Rattle.text_parts.proofs.value_parts.value_rule.Goals as goal

pub returns-in-Primitive : goal.returns-in-Primitive
returns-in-Primitive c = ap value_part (sym c.in-Primitive.is)

pub returns-in-Inline : goal.returns-in-Inline
returns-in-Inline c = ap value_part (sym c.in-Inline.is)

pub returns-in-Record : goal.returns-in-Record
returns-in-Record c = ap value_part (sym c.in-Record.is)

pub returns-in-RecordField : goal.returns-in-RecordField
returns-in-RecordField c = ap value_part (sym c.in-RecordField.is)

pub returns-in-Variant : goal.returns-in-Variant
returns-in-Variant c = ap value_part (sym c.in-Variant.is)

pub returns-in-VariantCase : goal.returns-in-VariantCase
returns-in-VariantCase c = ap value_part (sym c.in-VariantCase.is)

pub returns-in-Map : goal.returns-in-Map
returns-in-Map c = ap value_part (sym c.in-Map.is)

pub returns-in-Tuple : goal.returns-in-Tuple
returns-in-Tuple c = ap value_part (sym c.in-Tuple.is)

pub returns-in-Flags : goal.returns-in-Flags
returns-in-Flags c = ap value_part (sym c.in-Flags.is)

pub returns-in-Enumeration : goal.returns-in-Enumeration
returns-in-Enumeration c = ap value_part (sym c.in-Enumeration.is)

pub returns-in-Optional : goal.returns-in-Optional
returns-in-Optional c = ap value_part (sym c.in-Optional.is)

pub returns-in-ResultOf : goal.returns-in-ResultOf
returns-in-ResultOf c = ap value_part (sym c.in-ResultOf.is)

pub returns-in-Stream : goal.returns-in-Stream
returns-in-Stream c = ap value_part (sym c.in-Stream.is)

pub returns-in-Future : goal.returns-in-Future
returns-in-Future c = ap value_part (sym c.in-Future.is)

pub returns-in-Function : goal.returns-in-Function
returns-in-Function c = ap value_part (sym c.in-Function.is)

pub returns-in-FunctionParam : goal.returns-in-FunctionParam
returns-in-FunctionParam c = ap value_part (sym c.in-FunctionParam.is)

pub returns-in-FunctionResult : goal.returns-in-FunctionResult
returns-in-FunctionResult c = ap value_part (sym c.in-FunctionResult.is)
