use Rattle.std.proofs.Common.{ap, sym}
use Rattle.text_parts.specs.ReadAlone.{field_part}
use Rattle.text_parts.proofs.field_parts.field_rule.Goals as goal

pub returns-in-WholeComponent : goal.returns-in-WholeComponent
returns-in-WholeComponent c = ap field_part (sym c.in-WholeComponent.is)

pub returns-in-Field : goal.returns-in-Field
returns-in-Field c = ap field_part (sym c.in-Field.is)

pub returns-in-Custom : goal.returns-in-Custom
returns-in-Custom c = ap field_part (sym c.in-Custom.is)

pub returns-in-Producers : goal.returns-in-Producers
returns-in-Producers c = ap field_part (sym c.in-Producers.is)

pub returns-in-CoreInstanceKind : goal.returns-in-CoreInstanceKind
returns-in-CoreInstanceKind c = ap field_part (sym c.in-CoreInstanceKind.is)

pub returns-in-InstanceKind : goal.returns-in-InstanceKind
returns-in-InstanceKind c = ap field_part (sym c.in-InstanceKind.is)

pub returns-in-CoreArgument : goal.returns-in-CoreArgument
returns-in-CoreArgument c = ap field_part (sym c.in-CoreArgument.is)

pub returns-in-CoreArgumentKind : goal.returns-in-CoreArgumentKind
returns-in-CoreArgumentKind c = ap field_part (sym c.in-CoreArgumentKind.is)

pub returns-in-CoreArguments : goal.returns-in-CoreArguments
returns-in-CoreArguments c = ap field_part (sym c.in-CoreArguments.is)

pub returns-in-CoreExport : goal.returns-in-CoreExport
returns-in-CoreExport c = ap field_part (sym c.in-CoreExport.is)

pub returns-in-CoreExports : goal.returns-in-CoreExports
returns-in-CoreExports c = ap field_part (sym c.in-CoreExports.is)

pub returns-in-Argument : goal.returns-in-Argument
returns-in-Argument c = ap field_part (sym c.in-Argument.is)

pub returns-in-ArgumentKind : goal.returns-in-ArgumentKind
returns-in-ArgumentKind c = ap field_part (sym c.in-ArgumentKind.is)

pub returns-in-Arguments : goal.returns-in-Arguments
returns-in-Arguments c = ap field_part (sym c.in-Arguments.is)

pub returns-in-FuncKind : goal.returns-in-FuncKind
returns-in-FuncKind c = ap field_part (sym c.in-FuncKind.is)

pub returns-in-CoreFuncKind : goal.returns-in-CoreFuncKind
returns-in-CoreFuncKind c = ap field_part (sym c.in-CoreFuncKind.is)

pub returns-in-Lift : goal.returns-in-Lift
returns-in-Lift c = ap field_part (sym c.in-Lift.is)

pub returns-in-Options : goal.returns-in-Options
returns-in-Options c = ap field_part (sym c.in-Options.is)
