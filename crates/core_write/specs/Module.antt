-- The bytes of a module whose names are resolved, section by section, and when it can be written.
use Rattle.std.specs.Prelude.{ℕ, List, ◌++◌, flat_map}
use Rattle.comp_model.specs.CoreModules.{Naming, Field}
use Rattle.core_model.specs.Bytes.{section, preamble}
use Rattle.core_model.specs.NameSection.{custom}
use Rattle.core_write.specs.declared.part.Part.{Part}
use Rattle.core_write.specs.declared.part.Part.TheVariants as part
use Rattle.core_write.specs.Written.{items_of}
use Rattle.core_write.specs.Exports.{exports_from, FitsExports, no_counts}
use Rattle.core_write.specs.Fits.{FitsItems, FitsSection}
use Rattle.core_write.specs.NamesWritten.{subsections_of, FitsNameSection}

-- the items of a section
abbrev pub items_in_part : Part → List Field → List (List ℕ)
items_in_part p fs = flat_map (items_of p) fs

-- the sections, in order
abbrev pub resolved_sections : List Field → List ℕ
resolved_sections fs =
    section 0x01 (items_in_part part.Types fs)
    ++ section 0x02 (items_in_part part.Imports fs)
    ++ section 0x03 (items_in_part part.Functions fs)
    ++ section 0x04 (items_in_part part.Tables fs)
    ++ section 0x05 (items_in_part part.Memories fs)
    ++ section 0x06 (items_in_part part.Globals fs)
    ++ section 0x07 (exports_from no_counts fs)
    ++ section 0x0a (items_in_part part.Code fs)

abbrev pub resolved_bytes : Naming → List Field → List ℕ
resolved_bytes n fs = preamble ++ resolved_sections fs ++ custom (subsections_of n fs)

-- the items of a section, and the section
pub record FitsPart (p : Part) (fs : List Field) : Type 0 where
  pub each : FitsItems p fs
  pub whole : FitsSection (items_in_part p fs)

pub record FitsExportSection (fs : List Field) : Type 0 where
  pub each : FitsExports no_counts fs
  pub whole : FitsSection (exports_from no_counts fs)

-- Each count, index and length in the bytes of a module whose names are resolved is below 2 ^ 32.
pub record FitsModule (n : Naming) (fs : List Field) : Type 0 where
  pub types : FitsPart part.Types fs
  pub imports : FitsPart part.Imports fs
  pub functions : FitsPart part.Functions fs
  pub tables : FitsPart part.Tables fs
  pub memories : FitsPart part.Memories fs
  pub globals : FitsPart part.Globals fs
  pub exports : FitsExportSection fs
  pub code : FitsPart part.Code fs
  pub names : FitsNameSection n fs
