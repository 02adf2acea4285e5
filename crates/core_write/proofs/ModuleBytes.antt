-- The bytes of a module whose names are resolved are those of the module.
use Rattle.std.proofs.Common.{◌≡◌, ℕ, true, List, ◌++◌, sym, ◌∙◌, ap}
use Rattle.comp_model.specs.declared.Space.TheVariants.{CoreFunc, CoreTable, CoreMemory, CoreGlobal, CoreType}
use Rattle.comp_model.specs.CoreModules.{Naming, Field}
use Rattle.core_model.specs.IsResolved.{are_resolved}
use Rattle.core_model.specs.Bytes.{section, preamble, sections}
use Rattle.core_model.specs.NameSection.{name_of, names_in, module_name, custom, subsections}
use Rattle.core_model.specs.Module.{core_bytes, module_with}
use Rattle.core_write.specs.NamesWritten.{subsections_of}
use Rattle.core_write.specs.Module.{resolved_sections, resolved_bytes}
use Rattle.core_write.proofs.SectionBytes.{types-same, imports-same, functions-same, tables-same, memories-same, globals-same, code-same}
use Rattle.core_write.proofs.ExportBytes.{exports-same}
use Rattle.core_write.proofs.LocalBytes.{locals-same}

-- two runs of bytes
both : {a b x y : List ℕ} → a ≡ b → x ≡ y → a ++ x ≡ b ++ y
both {b = b} {x = x} p q = ap (λ r. r ++ x) p ∙ ap (λ r. b ++ r) q

pub sections-same : (fs : List Field) → are_resolved fs ≡ true → resolved_sections fs ≡ sections fs
sections-same fs e =
    both (both (both (both (both (both (both
    (ap (section 0x01) (sym (types-same fs e)))
    (ap (section 0x02) (sym (imports-same fs e))))
    (ap (section 0x03) (sym (functions-same fs e))))
    (ap (section 0x04) (sym (tables-same fs e))))
    (ap (section 0x05) (sym (memories-same fs e))))
    (ap (section 0x06) (sym (globals-same fs e))))
    (ap (section 0x07) (sym (exports-same fs e))))
    (ap (section 0x0a) (sym (code-same fs e)))

pub subsections-same : (n : Naming) (fs : List Field) → are_resolved fs ≡ true → subsections_of n fs ≡ subsections (module_with n fs)
subsections-same n fs e =
    ap (λ r. module_name (name_of n) ++ section 0x01 (names_in CoreFunc fs) ++ section 0x02 r ++ section 0x04 (names_in CoreType fs) ++ section 0x05 (names_in CoreTable fs) ++ section 0x06 (names_in CoreMemory fs) ++ section 0x07 (names_in CoreGlobal fs))
    (sym (locals-same fs e))

pub bytes-same : (n : Naming) (fs : List Field) → are_resolved fs ≡ true → resolved_bytes n fs ≡ core_bytes (module_with n fs)
bytes-same n fs e = both (ap (λ s. preamble ++ s) (sections-same fs e)) (ap custom (subsections-same n fs e))
