use Rattle.std.proofs.Common.{ap, sym}
use Rattle.text_parts.specs.ReadAlone.{type_part}
use Rattle.text_parts.proofs.type_parts.type_rule.Goals as goal

pub returns-in-Resource : goal.returns-in-Resource
returns-in-Resource c = ap type_part (sym c.in-Resource.is)

pub returns-in-FuncUse : goal.returns-in-FuncUse
returns-in-FuncUse c = ap type_part (sym c.in-FuncUse.is)

pub returns-in-ComponentUse : goal.returns-in-ComponentUse
returns-in-ComponentUse c = ap type_part (sym c.in-ComponentUse.is)

pub returns-in-InstanceUse : goal.returns-in-InstanceUse
returns-in-InstanceUse c = ap type_part (sym c.in-InstanceUse.is)

pub returns-in-ModuleUse : goal.returns-in-ModuleUse
returns-in-ModuleUse c = ap type_part (sym c.in-ModuleUse.is)

pub returns-in-ValueUse : goal.returns-in-ValueUse
returns-in-ValueUse c = ap type_part (sym c.in-ValueUse.is)

pub returns-in-Bound : goal.returns-in-Bound
returns-in-Bound c = ap type_part (sym c.in-Bound.is)

pub returns-in-Description : goal.returns-in-Description
returns-in-Description c = ap type_part (sym c.in-Description.is)

pub returns-in-NamelessDescription : goal.returns-in-NamelessDescription
returns-in-NamelessDescription c = ap type_part (sym c.in-NamelessDescription.is)

pub returns-in-ModuleType : goal.returns-in-ModuleType
returns-in-ModuleType c = ap type_part (sym c.in-ModuleType.is)

pub returns-in-ComponentType : goal.returns-in-ComponentType
returns-in-ComponentType c = ap type_part (sym c.in-ComponentType.is)

pub returns-in-InstanceType : goal.returns-in-InstanceType
returns-in-InstanceType c = ap type_part (sym c.in-InstanceType.is)

pub returns-in-CoreOrModuleType : goal.returns-in-CoreOrModuleType
returns-in-CoreOrModuleType c = ap type_part (sym c.in-CoreOrModuleType.is)

pub returns-in-ModuleDeclaration : goal.returns-in-ModuleDeclaration
returns-in-ModuleDeclaration c = ap type_part (sym c.in-ModuleDeclaration.is)

pub returns-in-ComponentDeclaration : goal.returns-in-ComponentDeclaration
returns-in-ComponentDeclaration c = ap type_part (sym c.in-ComponentDeclaration.is)

pub returns-in-InstanceDeclaration : goal.returns-in-InstanceDeclaration
returns-in-InstanceDeclaration c = ap type_part (sym c.in-InstanceDeclaration.is)

pub returns-in-ModuleDeclarations : goal.returns-in-ModuleDeclarations
returns-in-ModuleDeclarations c = ap type_part (sym c.in-ModuleDeclarations.is)

pub returns-in-ComponentDeclarations : goal.returns-in-ComponentDeclarations
returns-in-ComponentDeclarations c = ap type_part (sym c.in-ComponentDeclarations.is)

pub returns-in-InstanceDeclarations : goal.returns-in-InstanceDeclarations
returns-in-InstanceDeclarations c = ap type_part (sym c.in-InstanceDeclarations.is)
