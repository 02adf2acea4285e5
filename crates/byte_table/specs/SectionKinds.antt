-- Which rows stand in which section, as code has them.
use Rattle.std.specs.Prelude.{cond, Option, Some, None}
use Rattle.comp_model.specs.declared.row.Row.TheVariants as rows
use Rattle.comp_model.specs.declared.row.Row.{Row}
use Rattle.comp_model.specs.RowNumbers.{same_row}
use Rattle.comp_wire.specs.declared.sections.SectionKind.TheVariants as section_kinds
use Rattle.comp_wire.specs.declared.sections.SectionKind.{SectionKind}
use Rattle.comp_wire.specs.Sections.{section_of, rows_of}
use Rattle.comp_wire.specs.Table as t

-- the section of the rows whose lines are those of a family
abbrev pub section_at : t.Family → SectionKind
section_at t.customs = section_kinds.Custom
section_at t.core_modules = section_kinds.CoreModule
section_at t.core_instances = section_kinds.CoreInstance
section_at t.core_types = section_kinds.CoreType
section_at t.instances = section_kinds.Instance
section_at t.aliases = section_kinds.Alias
section_at t.canons = section_kinds.Canon
section_at t.starts = section_kinds.Start
section_at t.imports = section_kinds.Import
section_at t.exports = section_kinds.Export
section_at _ = section_kinds.Type

-- the section of a definition; producers are written as a custom section
abbrev pub coded_section : Row → SectionKind
coded_section u = cond (same_row u rows.Producers) section_kinds.Custom (section_of u)

-- the rows of a section, but for that of a component
abbrev pub line_rows : SectionKind → Option t.Family
line_rows section_kinds.Component = None
line_rows u = Some (rows_of u)
