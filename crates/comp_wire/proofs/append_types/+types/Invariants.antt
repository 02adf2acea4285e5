use Rattle.std.proofs.Common.{◌≡◌, ◌++◌, drop}
use Rattle.comp_wire.specs.Spelled.{spell_declarations, declarations_of, FitsDeclarations}
use Rattle.comp_wire.specs.Definitions.{declarations_of_list}
use Rattle.comp_wire.specs.Declarations.{kind_of_type}
use Rattle.comp_wire.proofs.append_types.+types.Given as goal

-- what is left completes the declarations, and fits
abbrev pub invariant-append_counted_declarations-loop-decl : goal.invariant-append_counted_declarations-loop-decl
invariant-append_counted_declarations-loop-decl l = record {
  written : l.out.items ++ spell_declarations (declarations_of_list (drop l.decl-index l.decls)) (declarations_of (kind_of_type l.kind)) ≡ l.initial.out.items ++ spell_declarations (declarations_of_list l.decls) (declarations_of (kind_of_type l.kind));
  fits : FitsDeclarations (declarations_of_list (drop l.decl-index l.decls)) (declarations_of (kind_of_type l.kind));
}
