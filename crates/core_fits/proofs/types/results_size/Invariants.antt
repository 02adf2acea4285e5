use Rattle.std.proofs.Common.{true, drop, map, []}
use Rattle.core_syntax.specs.Fields.{value_of}
use Rattle.core_model.specs.Bytes.{value, values}
use Rattle.comp_wire.specs.Spelled.{core_bytes}
use Rattle.core_fits.proofs.Sizes.{SoFar}
use Rattle.core_fits.proofs.types.results_size.Given as goal

-- with what is left it is the whole
abbrev pub invariant-loop-ty : goal.invariant-loop-ty
invariant-loop-ty l = SoFar l.size (map core_bytes (values (map (value []) (map value_of (drop l.ty-index l.results))))) true (map core_bytes (values (map (value []) (map value_of l.results)))) true
