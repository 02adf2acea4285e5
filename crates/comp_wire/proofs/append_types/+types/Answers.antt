use Rattle.std.proofs.Common.{rules, arith}
use Rattle.std.proofs.lemmas.List.{get_or_read}
use Rattle.std.proofs.lemmas.Result.{on_ok_weaker}
use borrow.Author.Tests.{tests}
use Rattle.comp_wire.specs.declared.types.WireCoreType.{the_lemmas}
use Rattle.comp_wire.specs.Spelled.{declarations_of}
use Rattle.comp_wire.specs.Declarations.{kind_of_type}
use Rattle.comp_wire.proofs.TypeRows.{core_declared, type_declared, module_type_fits, component_type_fits, instance_type_fits, module_type_bytes, component_type_bytes, instance_type_bytes, count_declarations, declarations_written, appended, alias_declared, import_declared, export_declared, core_in_module, turn_fits, turn_written}
use Rattle.comp_wire.proofs.TypeBytes as b
use Rattle.comp_wire.proofs.append_types.+types.Goals as goal

pub append_component_declaration-append_core_type_behind-requires : goal.append_component_declaration-append_core_type_behind-requires
append_component_declaration-append_core_type_behind-requires t c = (search (tests, rules, the_lemmas, get_or_read, c.well_formed), (core_declared c.args.kind c.requires.component c.in-CoreType.ty).1 (rw c.in-CoreType.is at c.requires.fits))

pub append_component_declaration-append_type-requires : goal.append_component_declaration-append_type-requires
append_component_declaration-append_type-requires t c = (search (tests, rules, the_lemmas, get_or_read, c.well_formed), (type_declared c.args.kind c.requires.component c.in-Ty.ty).1 (rw c.in-Ty.is at c.requires.fits))

pub append_component_declaration-returns-in-CoreType : goal.append_component_declaration-returns-in-CoreType
append_component_declaration-returns-in-CoreType t c = rw (c.in-CoreType.is, (core_declared c.args.kind c.requires.component c.in-CoreType.ty).0) c.append_core_type_behind.ensures

pub append_component_declaration-returns-in_ok-append_byte-in-Ty : goal.append_component_declaration-returns-in_ok-append_byte-in-Ty
append_component_declaration-returns-in_ok-append_byte-in-Ty t c =
    rw (c.in-Ty.is, (type_declared c.args.kind c.requires.component c.in-Ty.ty).0) (on_ok_weaker c.append_type.result (appended _ _ _ _ _ c.in_ok-append_byte-in-Ty.ensures) c.append_type.ensures)

pub append_core_type-append_declarations-requires : goal.append_core_type-append_declarations-requires
append_core_type-append_declarations-requires t c = (search (tests, rules, the_lemmas, get_or_read, c.well_formed), module_type_fits c.in-Module.decls (rw c.in-Module.is at c.requires))

pub append_core_type-returns-in-Module : goal.append_core_type-returns-in-Module
append_core_type-returns-in-Module t c = rw (c.in-Module.is, module_type_bytes c.in-Module.decls) c.append_declarations.ensures

pub append_type-append_declarations-requires : goal.append_type-append_declarations-requires
append_type-append_declarations-requires t c = (search (tests, rules, the_lemmas, get_or_read, c.well_formed), component_type_fits c.in-Component.decls (rw c.in-Component.is at c.requires))

pub append_type-append_declarations-requires-in-Instance : goal.append_type-append_declarations-requires-in-Instance
append_type-append_declarations-requires-in-Instance t c = (search (tests, rules, the_lemmas, get_or_read, c.well_formed), instance_type_fits c.in-Instance.decls (rw c.in-Instance.is at c.requires))

pub append_type-returns-in-Component : goal.append_type-returns-in-Component
append_type-returns-in-Component t c = rw (c.in-Component.is, component_type_bytes c.in-Component.decls) c.append_declarations.ensures

pub append_type-returns-in-Instance : goal.append_type-returns-in-Instance
append_type-returns-in-Instance t c = rw (c.in-Instance.is, instance_type_bytes c.in-Instance.decls) c.append_declarations-in-Instance.ensures

pub append_counted_declarations-overflow_cast-decls : goal.append_counted_declarations-overflow_cast-decls
append_counted_declarations-overflow_cast-decls t c = omega (arith, c.requires.3, count_declarations c.args.decls.now)

pub append_counted_declarations-returns : goal.append_counted_declarations-returns
append_counted_declarations-returns t c =
    declarations_written (declarations_of (kind_of_type c.args.kind)) c.args.decls.now c.loop-decl.decl-index c.args.out.now.items c.uleb.new.out.items c.loop-decl.out.items c.loop-decl-test.false c.in_ok-uleb.ensures.appended c.loop-decl.invariant.written

pub append_type-returns-in-Primitive : goal.append_type-returns-in-Primitive
append_type-returns-in-Primitive t c = rw (c.in-Primitive.is, ← c.primitive_byte.ensures) c.append_byte.ensures

pub append_type-returns-in-Record : goal.append_type-returns-in-Record
append_type-returns-in-Record t c = rw (c.in-Record.is, b.record_bytes c.in-Record.fields) c.append_list_behind.ensures

pub append_type-returns-in-Variant : goal.append_type-returns-in-Variant
append_type-returns-in-Variant t c = rw (c.in-Variant.is, b.variant_bytes c.in-Variant.cases) c.append_list_behind-in-Variant.ensures

pub append_type-returns-in-List : goal.append_type-returns-in-List
append_type-returns-in-List t c = rw (c.in-List.is, b.list_bytes c.in-List.element) c.append_value_behind.ensures

pub append_type-returns-in-Tuple : goal.append_type-returns-in-Tuple
append_type-returns-in-Tuple t c = rw (c.in-Tuple.is, b.tuple_bytes c.in-Tuple.fields) c.append_list_behind-in-Tuple.ensures

pub append_type-returns-in-Flags : goal.append_type-returns-in-Flags
append_type-returns-in-Flags t c = rw (c.in-Flags.is, b.flags_bytes c.in-Flags.names) c.append_list_behind-in-Flags.ensures

pub append_type-returns-in-Enum : goal.append_type-returns-in-Enum
append_type-returns-in-Enum t c = rw (c.in-Enum.is, b.enum_bytes c.in-Enum.names) c.append_list_behind-in-Enum.ensures

pub append_type-returns-in-Option : goal.append_type-returns-in-Option
append_type-returns-in-Option t c = rw (c.in-Option.is, b.option_bytes c.in-Option.element) c.append_value_behind-in-Option.ensures

pub append_type-returns-in-Result : goal.append_type-returns-in-Result
append_type-returns-in-Result t c = rw (c.in-Result.is, b.result_bytes c.in-Result.ok c.in-Result.err) c.append_result_type.ensures

pub append_type-returns-in-Own : goal.append_type-returns-in-Own
append_type-returns-in-Own t c = rw (c.in-Own.is, b.own_bytes c.in-Own.resource) c.append_indexed.ensures

pub append_type-returns-in-Borrow : goal.append_type-returns-in-Borrow
append_type-returns-in-Borrow t c = rw (c.in-Borrow.is, b.borrow_bytes c.in-Borrow.resource) c.append_indexed-in-Borrow.ensures

pub append_type-returns-in-Stream : goal.append_type-returns-in-Stream
append_type-returns-in-Stream t c = rw (c.in-Stream.is, b.stream_bytes c.in-Stream.element) c.append_optional_behind.ensures

pub append_type-returns-in-Future : goal.append_type-returns-in-Future
append_type-returns-in-Future t c = rw (c.in-Future.is, b.future_bytes c.in-Future.element) c.append_optional_behind-in-Future.ensures

pub append_type-returns-in-Func : goal.append_type-returns-in-Func
append_type-returns-in-Func t c = rw (c.in-Func.is, b.function_bytes c.in-Func.async_ c.in-Func.params c.in-Func.result) c.append_function_type.ensures

pub append_type-returns-in-Resource : goal.append_type-returns-in-Resource
append_type-returns-in-Resource t c = rw (c.in-Resource.is, b.resource_bytes c.in-Resource.rep c.in-Resource.dtor) c.append_resource.ensures

pub append_component_declaration-append_alias_behind-requires : goal.append_component_declaration-append_alias_behind-requires
append_component_declaration-append_alias_behind-requires t c = (alias_declared c.args.kind c.requires.component c.in-Alias.alias).1 (rw c.in-Alias.is at c.requires.fits)

pub append_component_declaration-returns-in-Alias : goal.append_component_declaration-returns-in-Alias
append_component_declaration-returns-in-Alias t c = rw (c.in-Alias.is, (alias_declared c.args.kind c.requires.component c.in-Alias.alias).0) c.append_alias_behind.ensures

pub append_component_declaration-append_described-requires : goal.append_component_declaration-append_described-requires
append_component_declaration-append_described-requires t c = (import_declared c.args.kind c.requires.component c.in-Import.name c.in-Import.ty (rw c.in-Import.is at c.requires.fits)).1

pub append_component_declaration-returns-in-Import : goal.append_component_declaration-returns-in-Import
append_component_declaration-returns-in-Import t c = rw (c.in-Import.is, (import_declared c.args.kind c.requires.component c.in-Import.name c.in-Import.ty (rw c.in-Import.is at c.requires.fits)).0) c.append_described.ensures

pub append_component_declaration-append_described-requires-in-Export : goal.append_component_declaration-append_described-requires-in-Export
append_component_declaration-append_described-requires-in-Export t c = (export_declared c.args.kind c.requires.component c.in-Export.name c.in-Export.ty (rw c.in-Export.is at c.requires.fits)).1

pub append_component_declaration-returns-in-Export : goal.append_component_declaration-returns-in-Export
append_component_declaration-returns-in-Export t c = rw (c.in-Export.is, (export_declared c.args.kind c.requires.component c.in-Export.name c.in-Export.ty (rw c.in-Export.is at c.requires.fits)).0) c.append_described-in-Export.ensures

pub append_module_declaration-append_core_type_behind-requires : goal.append_module_declaration-append_core_type_behind-requires
append_module_declaration-append_core_type_behind-requires t c = (search (tests, rules, the_lemmas, get_or_read, c.well_formed), (core_in_module c.in-CoreType.ty).1 (rw c.in-CoreType.is at c.requires))

pub append_module_declaration-returns-in-CoreType : goal.append_module_declaration-returns-in-CoreType
append_module_declaration-returns-in-CoreType t c = rw (c.in-CoreType.is, (core_in_module c.in-CoreType.ty).0) c.append_core_type_behind.ensures

pub append_counted_declarations-append_declaration-requires : goal.append_counted_declarations-append_declaration-requires
append_counted_declarations-append_declaration-requires t c = (search (tests, rules, the_lemmas, get_or_read, c.well_formed), (turn_fits (declarations_of (kind_of_type c.args.kind)) c.args.decls.now c.loop-decl.decl-index c.decl-item.result c.loop-decl-test.true c.decl-item.is c.loop-decl.invariant.fits).0)

pub append_counted_declarations-loop-decl-preserved : goal.append_counted_declarations-loop-decl-preserved
append_counted_declarations-loop-decl-preserved t c = record {
  written = turn_written (declarations_of (kind_of_type c.args.kind)) c.args.decls.now c.loop-decl.decl-index c.decl-item.result _ c.loop-decl.out.items c.append_declaration.new.out.items c.loop-decl-test.true c.decl-item.is c.loop-decl.invariant.written c.in_ok-append_declaration.ensures;
  fits = (turn_fits (declarations_of (kind_of_type c.args.kind)) c.args.decls.now c.loop-decl.decl-index c.decl-item.result c.loop-decl-test.true c.decl-item.is c.loop-decl.invariant.fits).1;
}
