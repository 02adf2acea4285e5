-- The core modules of a text.
use Rattle.std.specs.Prelude.{◌≡◌, ℕ, List, [], ◌++◌, map, option_map, slice_get, unwrap_or, None}
use Rattle.comp_model.specs.CoreModules.{CoreModule, Field, Naming}
use Rattle.core_model.specs.Module.{module_with}
use Rattle.core_syntax.specs.Fields.{fields_of}
use Rattle.comp_tree.specs.Model.{id_of, lent_text}
use Rattle.tree_build.specs.declared.cores.Cores.{Cores}
use Rattle.tree_build.specs.declared.cores.NamedModule.{NamedModule}

-- the fields of a number, none past the last
abbrev pub fields_at : List (List Field) → ℕ → List Field
fields_at fs n = unwrap_or (slice_get fs n) []

abbrev pub no_naming : Naming
no_naming = record { id = None; label = None }

-- a module of these lists of fields
abbrev pub module_of : List (List Field) → NamedModule → CoreModule
module_of fs m = module_with (record { id = option_map id_of m.id; label = option_map lent_text m.label }) (fields_at fs m.fields)

abbrev pub fields_read : Cores → List (List Field)
fields_read c = map (λ v. fields_of v.items) c.fields.items

-- the modules that a tree names by their numbers
abbrev pub cores_of : Cores → List CoreModule
cores_of c = map (module_of (fields_read c)) c.modules.items

pub record IsEmpty (c : Cores) : Type 0 where
  pub fields : c.fields.items ≡ []
  pub modules : c.modules.items ≡ []

-- the first of a list
abbrev pub StartsWith : {A : Type 0} → List A → List A → Type 0
StartsWith {A} xs ys = (zs : List A) × (ys ≡ xs ++ zs)

-- These are the fields and the modules of a text, of which some are read so far.
pub record Final (fs : List (List Field)) (cs : List CoreModule) (c : Cores) : Type 0 where
  pub fields : StartsWith (fields_read c) fs
  pub modules : StartsWith (map (module_of fs) c.modules.items) cs

-- More were read.
pub record Grows (c d : Cores) : Type 0 where
  pub fields : StartsWith (fields_read c) (fields_read d)
  pub modules : StartsWith c.modules.items d.modules.items
