use Rattle.std.proofs.Common.{◌≡◌, ◌++◌, drop, map}
use Rattle.core_syntax.specs.Fields.{def_of, field_of}
use Rattle.core_checks.specs.Parts.{type_defs}
use Rattle.core_checks.proofs.scope.type_definitions.Given as goal

-- what is left completes the definitions
abbrev pub invariant-loop-field : goal.invariant-loop-field
invariant-loop-field l = map (λ d. def_of d.now) l.types.items ++ type_defs (map field_of (drop l.field-index l.fields)) ≡ type_defs (map field_of l.fields)
