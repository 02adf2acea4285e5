-- An encoding by the formats.
use Rattle.std.specs.Prelude.{◌≡◌}
use Rattle.comp_model.specs.CoreModules.{CoreModule}
use Rattle.comp_scopes.specs.Encoding.{Encoding}
use Rattle.core_model.specs.Module.{core_bytes}

-- core modules have the bytes of WebAssembly's binary format
pub record ByFormats (e : Encoding) : Type 0 where
  pub cores : (c : CoreModule) → e.core_bytes c ≡ core_bytes c
