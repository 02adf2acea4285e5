use Rattle.std.proofs.Common.{ap, sym}
use Rattle.text_table.specs.Code.{part_of}
use Rattle.text_table.proofs.parts.part_rule.Goals as goal

pub returns-in-CoreType-clause-rule : goal.returns-in-CoreType-clause-rule
returns-in-CoreType-clause-rule c = ap part_of (sym c.in-CoreType.is)

pub returns-in-CoreRec-clause-rule : goal.returns-in-CoreRec-clause-rule
returns-in-CoreRec-clause-rule c = ap part_of (sym c.in-CoreRec.is)

pub returns-in-CoreFunction-clause-rule : goal.returns-in-CoreFunction-clause-rule
returns-in-CoreFunction-clause-rule c = ap part_of (sym c.in-CoreFunction.is)

pub returns-in-CoreSignature-clause-rule : goal.returns-in-CoreSignature-clause-rule
returns-in-CoreSignature-clause-rule c = ap part_of (sym c.in-CoreSignature.is)

pub returns-in-TypeDeclaration-clause-rule : goal.returns-in-TypeDeclaration-clause-rule
returns-in-TypeDeclaration-clause-rule c = ap part_of (sym c.in-TypeDeclaration.is)

pub returns-in-Alias-clause-rule : goal.returns-in-Alias-clause-rule
returns-in-Alias-clause-rule c = ap part_of (sym c.in-Alias.is)

pub returns-in-Import-clause-rule : goal.returns-in-Import-clause-rule
returns-in-Import-clause-rule c = ap part_of (sym c.in-Import.is)

pub returns-in-ExportedType-clause-rule : goal.returns-in-ExportedType-clause-rule
returns-in-ExportedType-clause-rule c = ap part_of (sym c.in-ExportedType.is)

pub returns-in-Export-clause-rule : goal.returns-in-Export-clause-rule
returns-in-Export-clause-rule c = ap part_of (sym c.in-Export.is)

pub returns-in-Resource-clause-rule : goal.returns-in-Resource-clause-rule
returns-in-Resource-clause-rule c = ap part_of (sym c.in-Resource.is)

pub returns-in-Item-clause-rule : goal.returns-in-Item-clause-rule
returns-in-Item-clause-rule c = ap part_of (sym c.in-Item.is)

pub returns-in-CoreInstance-clause-rule : goal.returns-in-CoreInstance-clause-rule
returns-in-CoreInstance-clause-rule c = ap part_of (sym c.in-CoreInstance.is)

pub returns-in-Instance-clause-rule : goal.returns-in-Instance-clause-rule
returns-in-Instance-clause-rule c = ap part_of (sym c.in-Instance.is)

pub returns-in-Func-clause-rule : goal.returns-in-Func-clause-rule
returns-in-Func-clause-rule c = ap part_of (sym c.in-Func.is)

pub returns-in-CoreModule-clause-rule : goal.returns-in-CoreModule-clause-rule
returns-in-CoreModule-clause-rule c = ap part_of (sym c.in-CoreModule.is)

pub returns-in-InnerComponent-clause-rule : goal.returns-in-InnerComponent-clause-rule
returns-in-InnerComponent-clause-rule c = ap part_of (sym c.in-InnerComponent.is)

pub returns-in-Type-clause-rule : goal.returns-in-Type-clause-rule
returns-in-Type-clause-rule c = ap part_of (sym c.in-Type.is)

pub returns-in-Start-clause-rule : goal.returns-in-Start-clause-rule
returns-in-Start-clause-rule c = ap part_of (sym c.in-Start.is)

pub returns-in-Custom-clause-rule : goal.returns-in-Custom-clause-rule
returns-in-Custom-clause-rule c = ap part_of (sym c.in-Custom.is)

pub returns-in-Producers-clause-rule : goal.returns-in-Producers-clause-rule
returns-in-Producers-clause-rule c = ap part_of (sym c.in-Producers.is)

pub returns-in-TypeOf-clause-rule : goal.returns-in-TypeOf-clause-rule
returns-in-TypeOf-clause-rule c = ap part_of (sym c.in-TypeOf.is)

pub returns-in-TypeAndOptions-clause-rule : goal.returns-in-TypeAndOptions-clause-rule
returns-in-TypeAndOptions-clause-rule c = ap part_of (sym c.in-TypeAndOptions.is)

pub returns-in-TypeAndAsync-clause-rule : goal.returns-in-TypeAndAsync-clause-rule
returns-in-TypeAndAsync-clause-rule c = ap part_of (sym c.in-TypeAndAsync.is)

pub returns-in-FuncAndOptions-clause-rule : goal.returns-in-FuncAndOptions-clause-rule
returns-in-FuncAndOptions-clause-rule c = ap part_of (sym c.in-FuncAndOptions.is)

pub returns-in-ResultAndOptions-clause-rule : goal.returns-in-ResultAndOptions-clause-rule
returns-in-ResultAndOptions-clause-rule c = ap part_of (sym c.in-ResultAndOptions.is)

pub returns-in-Context-clause-rule : goal.returns-in-Context-clause-rule
returns-in-Context-clause-rule c = ap part_of (sym c.in-Context.is)

pub returns-in-CoreTypeAndTable-clause-rule : goal.returns-in-CoreTypeAndTable-clause-rule
returns-in-CoreTypeAndTable-clause-rule c = ap part_of (sym c.in-CoreTypeAndTable.is)

pub returns-in-Memory-clause-rule : goal.returns-in-Memory-clause-rule
returns-in-Memory-clause-rule c = ap part_of (sym c.in-Memory.is)
