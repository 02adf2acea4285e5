-- When a module can be written, as a test. What a section's length bounds needs no test of its own: left are lengths, the runs of locals and indices.
use Rattle.std.specs.Prelude.{ℕ, ◌+◌, Bool, true, ◌&&◌, List, [], ◌∷◌, ◌++◌, map, length, Option, Some, None}
use Rattle.comp_model.specs.declared.Space.{Space}
use Rattle.comp_model.specs.declared.Space.TheVariants.{CoreFunc, CoreTable, CoreMemory, CoreGlobal, CoreType}
use Rattle.comp_model.specs.Core.{Text, CoreValue}
use Rattle.comp_model.specs.Payloads.{framed}
use Rattle.comp_model.specs.CoreModules as c
use Rattle.comp_model.specs.CoreModules.{Naming, Local, TypeUse, Field}
use Rattle.comp_wire.specs.Fits.{is_word}
use Rattle.core_model.specs.Items.{naming_of, declares, items_in}
use Rattle.core_model.specs.Bytes.{counted, runs}
use Rattle.core_model.specs.NameSection.{name_of, section_name}
use Rattle.core_write.specs.declared.part.Part.{Part}
use Rattle.core_write.specs.declared.part.Part.TheVariants as part
use Rattle.core_write.specs.declared.counts.Counts.{Counts}
use Rattle.core_write.specs.Written.{values_of}
use Rattle.core_write.specs.Exports.{counted_in, exports_from, no_counts}
use Rattle.core_write.specs.NamesWritten.{param_counts, first_local, namings_of, written_namings, function_names, subsections_of}
use Rattle.core_write.specs.Module.{items_in_part}

-- the count of a section's items, and its length
abbrev pub fits_section : List (List ℕ) → Bool
fits_section items = is_word (length items) && is_word (length (counted items))

-- how many locals each run has
abbrev pub fits_runs : List (ℕ × CoreValue) → Bool
fits_runs [] = true
fits_runs (r ∷ rs) = is_word r.0 && fits_runs rs

abbrev pub fits_unless_imported : Option (Text × Text) → Bool → Bool
fits_unless_imported None b = b
fits_unless_imported (Some p) b = true

abbrev pub fits_code : Field → Bool
fits_code (c.func_field o n i u ls is) = fits_unless_imported i.imported (fits_runs (runs (values_of ls)))
fits_code _ = true

abbrev pub fits_item : Part → Field → Bool
fits_item part.Code f = fits_code f
fits_item _ f = true

abbrev pub fits_items : Part → List Field → Bool
fits_items p [] = true
fits_items p (f ∷ fs) = fits_item p f && fits_items p fs

abbrev pub fits_part : Part → List Field → Bool
fits_part p fs = fits_items p fs && fits_section (items_in_part p fs)

-- the index of each inline export
abbrev pub fits_inline : ℕ → List Text → Bool
fits_inline index [] = true
fits_inline index (x ∷ xs) = is_word index && fits_inline index xs

abbrev pub fits_exports_at : Counts → Field → Bool
fits_exports_at n (c.func_field o m i u ls is) = fits_inline n.funcs i.exports
fits_exports_at n (c.table_field o m i l v) = fits_inline n.tables i.exports
fits_exports_at n (c.memory_field o m i l) = fits_inline n.memories i.exports
fits_exports_at n (c.global_field o m i v b is) = fits_inline n.globals i.exports
fits_exports_at n _ = true

abbrev pub fits_exports : Counts → List Field → Bool
fits_exports n [] = true
fits_exports n (f ∷ fs) = fits_exports_at n f && fits_exports (counted_in (declares f) n) fs

abbrev pub fits_export_section : List Field → Bool
fits_export_section fs = fits_exports no_counts fs && fits_section (exports_from no_counts fs)

-- the place of each name
abbrev pub fits_named : ℕ → Option Text → Bool
fits_named i None = true
fits_named i (Some x) = is_word i

abbrev pub fits_names : ℕ → List Naming → Bool
fits_names i [] = true
fits_names i (n ∷ ns) = fits_named i (name_of n) && fits_names (i + 1) ns

abbrev pub fits_places_in : Space → List Field → Bool
fits_places_in s fs = fits_names 0 (map naming_of (items_in s fs))

-- the index of a function in which there is a name
abbrev pub fits_locals_at : ℕ → List (List ℕ) → Bool
fits_locals_at i [] = true
fits_locals_at i (n ∷ ns) = is_word i

abbrev pub fits_function : List ℕ → ℕ → TypeUse → List Local → Bool
fits_function counts i u ls =
    (fits_names 0 (written_namings u.signature) && fits_names (first_local counts u) (namings_of ls)) && fits_locals_at i (function_names counts u ls)

abbrev pub fits_local_items : List ℕ → ℕ → Field → Bool
fits_local_items counts i (c.func_field o n l u ls is) = fits_unless_imported l.imported (fits_function counts i u ls)
fits_local_items counts i _ = true

abbrev pub fits_locals : List ℕ → ℕ → List Field → Bool
fits_locals counts i [] = true
fits_locals counts i (f ∷ fs) = fits_local_items counts i f && fits_locals counts (i + 1) fs

abbrev pub fits_local_places : List Field → Bool
fits_local_places fs = fits_locals (param_counts fs) 0 (items_in CoreFunc fs)

abbrev pub fits_places : List Field → Bool
fits_places fs =
    (((((fits_places_in CoreFunc fs && fits_local_places fs) && fits_places_in CoreType fs) && fits_places_in CoreTable fs) && fits_places_in CoreMemory fs) && fits_places_in CoreGlobal fs)

-- the places of names, and the length of the section
abbrev pub fits_name_section : Naming → List Field → Bool
fits_name_section n fs = fits_places fs && is_word (length (framed section_name ++ subsections_of n fs))

-- the whole
abbrev pub fits_module : Naming → List Field → Bool
fits_module n fs =
    ((((((((fits_part part.Types fs && fits_part part.Imports fs) && fits_part part.Functions fs) && fits_part part.Tables fs) && fits_part part.Memories fs) && fits_part part.Globals fs)
    && fits_export_section fs) && fits_part part.Code fs) && fits_name_section n fs)
