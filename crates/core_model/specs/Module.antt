-- The bytes of a core module.
use Rattle.std.specs.Prelude.{◌≡◌, ℕ, List, ◌++◌}
use Rattle.comp_model.specs.CoreModules.{Naming, Field, CoreModule}
use Rattle.core_model.specs.Bytes.{module_bytes}
use Rattle.core_model.specs.NameSection.{name_section}

-- the name section is last
abbrev pub core_bytes : CoreModule → List ℕ
core_bytes m = module_bytes m.fields ++ name_section m

-- a module of this id, this label and these fields
abbrev pub module_with : Naming → List Field → CoreModule
module_with n fs = record { naming = n; fields = fs }

abbrev pub CoreWrites : CoreModule → List ℕ → Type 0
CoreWrites m bytes = bytes ≡ core_bytes m
