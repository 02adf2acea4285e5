use Rattle.std.proofs.Common.{◌≡◌, ◌+◌, [], drop, map, length}
use Rattle.core_model.specs.Bytes.{value, values}
use Rattle.core_syntax.specs.Fields.{value_of}
use Rattle.core_write.proofs.types.count_results.Given as goal

-- with what is left it is the whole count
abbrev pub invariant-loop-ty : goal.invariant-loop-ty
invariant-loop-ty l = l.count + length (values (map (value []) (map value_of (drop l.ty-index l.results)))) ≡ length (values (map (value []) (map value_of l.results)))
