use Rattle.std.proofs.Common.{◌≡◌, ◌++◌, [], drop, map}
use Rattle.comp_model.specs.Payloads.{joined}
use Rattle.comp_wire.specs.Spelled.{core_bytes}
use Rattle.core_model.specs.Bytes.{value, values}
use Rattle.core_syntax.specs.Fields.{value_of}
use Rattle.core_write.proofs.types.push_results.Given as goal

-- what is left completes the list
abbrev pub invariant-loop-ty : goal.invariant-loop-ty
invariant-loop-ty l = l.out.items ++ joined (map core_bytes (values (map (value []) (map value_of (drop l.ty-index l.results))))) ≡ l.initial.out.items ++ joined (map core_bytes (values (map (value []) (map value_of l.results))))
