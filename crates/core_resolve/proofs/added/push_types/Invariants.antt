use Rattle.std.proofs.Common.{◌≡◌, ◌++◌, drop, map, option_map}
use Rattle.core_syntax.specs.Fields.{fields_of}
use Rattle.core_resolve.specs.Signatures.{signature}
use Rattle.core_resolve.specs.AddedFields.{type_fields}
use Rattle.core_resolve.proofs.added.push_types.Given as goal

-- what is left completes the fields
abbrev pub invariant-loop-ty : goal.invariant-loop-ty
invariant-loop-ty l = fields_of l.fields.items ++ type_fields (map (option_map signature) (drop l.ty-index l.ty-items)) ≡ fields_of l.initial.fields.items ++ type_fields (map (option_map signature) l.ty-items)
