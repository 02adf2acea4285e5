use Rattle.std.proofs.Common.{ap, sym}
use Rattle.text_parts.specs.ReadAlone.{item_part}
use Rattle.text_parts.proofs.item_parts.item_rule.Goals as goal

pub returns-in-Named : goal.returns-in-Named
returns-in-Named c = ap item_part (sym c.in-Named.is)

pub returns-in-Core : goal.returns-in-Core
returns-in-Core c = ap item_part (sym c.in-Core.is)

pub returns-in-MemoryOfOption : goal.returns-in-MemoryOfOption
returns-in-MemoryOfOption c = ap item_part (sym c.in-MemoryOfOption.is)

pub returns-in-CoreAlias : goal.returns-in-CoreAlias
returns-in-CoreAlias c = ap item_part (sym c.in-CoreAlias.is)

pub returns-in-InlineAlias : goal.returns-in-InlineAlias
returns-in-InlineAlias c = ap item_part (sym c.in-InlineAlias.is)

pub returns-in-ModuleTypeAlias : goal.returns-in-ModuleTypeAlias
returns-in-ModuleTypeAlias c = ap item_part (sym c.in-ModuleTypeAlias.is)

pub returns-in-ExportKind : goal.returns-in-ExportKind
returns-in-ExportKind c = ap item_part (sym c.in-ExportKind.is)

pub returns-in-OuterKind : goal.returns-in-OuterKind
returns-in-OuterKind c = ap item_part (sym c.in-OuterKind.is)

pub returns-in-ExternName : goal.returns-in-ExternName
returns-in-ExternName c = ap item_part (sym c.in-ExternName.is)

pub returns-in-InlineImport : goal.returns-in-InlineImport
returns-in-InlineImport c = ap item_part (sym c.in-InlineImport.is)

pub returns-in-InlineExports : goal.returns-in-InlineExports
returns-in-InlineExports c = ap item_part (sym c.in-InlineExports.is)

pub returns-in-Exports : goal.returns-in-Exports
returns-in-Exports c = ap item_part (sym c.in-Exports.is)
