-- The section of a row by its family.
use Rattle.std.proofs.Common.{◌≡◌, refl, cond}
use Rattle.comp_model.specs.declared.row.Row.TheVariants as rows
use Rattle.comp_model.specs.declared.row.Row.{Row}
use Rattle.comp_model.specs.RowNumbers.{same_row}
use Rattle.comp_wire.specs.declared.sections.SectionKind.TheVariants as section_kinds
use Rattle.comp_wire.specs.Sections.{section_of}
use Rattle.byte_table.specs.SectionKinds.{section_at}
use Rattle.byte_table.specs.Lines.{home}

pub by_home : (u : Row) → section_of u ≡ cond (same_row u rows.Component) section_kinds.Component (section_at (home u))
by_home rows.CoreModule = refl
by_home _ = refl
