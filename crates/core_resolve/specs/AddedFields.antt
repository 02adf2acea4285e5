-- Types as fields of their own.
use Rattle.std.specs.Prelude.{List, [], ◌∷◌, Option, Some, None}
use Rattle.comp_model.specs.CoreModules.{Field}
use Rattle.core_model.specs.Types.{Signature}
use Rattle.core_model.specs.Resolved.{type_added}

-- each function type as a field
abbrev pub type_fields : List (Option Signature) → List Field
type_fields [] = []
type_fields (None ∷ ts) = type_fields ts
type_fields (Some s ∷ ts) = type_added s ∷ type_fields ts
