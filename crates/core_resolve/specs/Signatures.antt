-- What resolved types of functions stand for as data of the model.
use Rattle.std.specs.Prelude.{map}
use Rattle.core_model.specs.Types as model
use Rattle.core_names.specs.ResolvedTypes.{value}
use Rattle.core_resolve.specs.declared.signature.Signature.{Signature}

abbrev pub signature : Signature → model.Signature
signature s = record { params = map value s.params.items; results = map value s.results.items }
