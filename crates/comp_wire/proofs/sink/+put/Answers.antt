use Rattle.std.proofs.Common.{rules, drop, drop_of_length-le, ◌++◌, ap, sym, ◌∙◌, refl}
use Rattle.std.proofs.lemmas.List.{get_or_read}
use Rattle.std.proofs.lemmas.Result.{on_ok_weaker}
use borrow.Author.Tests.{tests}
use Rattle.comp_wire.specs.declared.defs.WireDef.{the_lemmas}
use Rattle.comp_wire.specs.Spelled.{items_of, item_of_def, spell_component}
use Rattle.comp_model.specs.Payloads.{framed, name_payload}
use Rattle.comp_wire.specs.NameSection.{maps_of, name_definition}
use Rattle.comp_wire.specs.Definitions.{def_of, named_defs, component_of_defs}
use Rattle.comp_wire.proofs.DefRows.{core_type_item, type_item, alias_item, canon_item, component_item, component_fits, core_module_content, core_instantiate_content, core_bundle_content, instantiate_content, bundle_content, start_content, import_content, export_content, custom_content}
use Rattle.comp_wire.proofs.Steps.{added, short_at_end}
use Rattle.comp_wire.proofs.Component.{first_turn, turn_needs, turn_gives, names_need, all_held}
use Rattle.comp_wire.proofs.sink.+put.Goals as goal

pub ComponentSink::put-returns : goal.ComponentSink::put-returns
ComponentSink::put-returns t c = λ items h. added c.open.new.self _ c.section_of.result items (item_of_def (def_of c.args.def.now)) (c.in_ok-open.ensures.takes items h) (sym c.section_of.ensures) refl refl refl c.in_ok-append_definition.ensures

pub append_component-loop-def-init : goal.append_component-loop-def-init
append_component-loop-def-init t c = first_turn _ c.args.defs.now (name_definition (maps_of c.args.names.now)) c.in_ok-sink.ensures.empty c.requires.3

pub append_component-put-requires : goal.append_component-put-requires
append_component-put-requires t c =
    (search (tests, rules, the_lemmas, get_or_read, c.well_formed), turn_needs c.loop-def.sink c.args.defs.now (name_definition (maps_of c.args.names.now)) c.loop-def.def-index c.def-item.result c.loop-def-test.true c.def-item.is c.requires.4 c.loop-def.invariant)

pub append_component-loop-def-preserved : goal.append_component-loop-def-preserved
append_component-loop-def-preserved t c = turn_gives c.loop-def.sink c.put.new.self c.args.defs.now (name_definition (maps_of c.args.names.now)) c.loop-def.def-index c.def-item.result c.loop-def-test.true c.def-item.is c.loop-def.invariant c.in_ok-put.ensures

pub append_component-names-requires-clause-short : goal.append_component-names-requires-clause-short
append_component-names-requires-clause-short t c =
    (names_need c.loop-def.sink c.args.defs.now (drop c.loop-def.def-index c.args.defs.now) (name_payload (maps_of c.args.names.now)) (drop_of_length-le c.args.defs.now c.loop-def-test.false) c.requires.4 c.loop-def.invariant).0

pub append_component-names-requires-clause-room : goal.append_component-names-requires-clause-room
append_component-names-requires-clause-room t c =
    (names_need c.loop-def.sink c.args.defs.now (drop c.loop-def.def-index c.args.defs.now) (name_payload (maps_of c.args.names.now)) (drop_of_length-le c.args.defs.now c.loop-def-test.false) c.requires.4 c.loop-def.invariant).1

pub append_component-finish-requires : goal.append_component-finish-requires
append_component-finish-requires t c = record {
  short = short_at_end c.names.new.self _ (all_held c.loop-def.sink c.names.new.self c.args.defs.now (drop c.loop-def.def-index c.args.defs.now) (name_definition (maps_of c.args.names.now)) (drop_of_length-le c.args.defs.now c.loop-def-test.false) c.loop-def.invariant c.in_ok-names.ensures) c.requires.4;
}

pub append_component-returns : goal.append_component-returns
append_component-returns t c =
    let held = all_held c.loop-def.sink c.names.new.self c.args.defs.now (drop c.loop-def.def-index c.args.defs.now) (name_definition (maps_of c.args.names.now)) (drop_of_length-le c.args.defs.now c.loop-def-test.false) c.loop-def.invariant c.in_ok-names.ensures in
    on_ok_weaker c.append.result (λ e. e ∙ ap (λ x. c.args.out.now.items ++ x) (c.as_slice.ensures.value ∙ c.in_ok-bytes.ensures.bytes (items_of (named_defs c.args.defs.now c.args.names.now)) held)) c.append.ensures

pub append_definition-append_component-requires : goal.append_definition-append_component-requires
append_definition-append_component-requires t c =
    (search (tests, rules, the_lemmas, get_or_read, c.well_formed), rw c.as_slice-in-Component.ensures.same_items (component_fits c.in-Component.defs c.in-Component.names (rw c.in-Component.is at c.requires)))

pub append_definition-append_core_type-requires : goal.append_definition-append_core_type-requires
append_definition-append_core_type-requires t c = (core_type_item c.in-CoreType.ty).1 (rw c.in-CoreType.is at c.requires).1

pub append_definition-append_type-requires : goal.append_definition-append_type-requires
append_definition-append_type-requires t c = (type_item c.in-Ty.ty).1 (rw c.in-Ty.is at c.requires).1

pub append_definition-append_alias-requires : goal.append_definition-append_alias-requires
append_definition-append_alias-requires t c = (alias_item c.in-Alias.alias).1 (rw c.in-Alias.is at c.requires).1

pub append_definition-append_canon-requires : goal.append_definition-append_canon-requires
append_definition-append_canon-requires t c = (canon_item c.in-Canon.canon).1 (rw c.in-Canon.is at c.requires).1

pub append_definition-returns-in-CoreType : goal.append_definition-returns-in-CoreType
append_definition-returns-in-CoreType t c = rw (c.in-CoreType.is, (core_type_item c.in-CoreType.ty).0) c.append_core_type.ensures

pub append_definition-returns-in-Ty : goal.append_definition-returns-in-Ty
append_definition-returns-in-Ty t c = rw (c.in-Ty.is, (type_item c.in-Ty.ty).0) c.append_type.ensures

pub append_definition-returns-in-Alias : goal.append_definition-returns-in-Alias
append_definition-returns-in-Alias t c = rw (c.in-Alias.is, (alias_item c.in-Alias.alias).0) c.append_alias.ensures

pub append_definition-returns-in-Canon : goal.append_definition-returns-in-Canon
append_definition-returns-in-Canon t c = rw (c.in-Canon.is, (canon_item c.in-Canon.canon).0) c.append_canon.ensures

pub append_definition-returns-in-Component : goal.append_definition-returns-in-Component
append_definition-returns-in-Component t c =
    let same = ap (λ ds. spell_component (component_of_defs (named_defs ds c.in-Component.names))) c.as_slice-in-Component.ensures.same_items
    ∙ sym (ap (λ i. i.content) (component_item c.in-Component.defs c.in-Component.names)) ∙ ap (λ d. (item_of_def (def_of d)).content) (sym c.in-Component.is) in
    on_ok_weaker c.append_component.result (λ e. e ∙ ap (λ x. c.args.out.now.items ++ x) same) c.append_component.ensures

pub append_definition-append_indexed_list-requires : goal.append_definition-append_indexed_list-requires
append_definition-append_indexed_list-requires t c = (rw c.in-CoreInstantiate.is at c.requires).1.1.1.0

pub append_definition-returns-in-CoreModule : goal.append_definition-returns-in-CoreModule
append_definition-returns-in-CoreModule t c = rw (c.in-CoreModule.is, core_module_content c.in-CoreModule.bytes ∙ sym c.as_slice.ensures.same_items) c.append.ensures

pub append_definition-returns-in-CoreInstantiate : goal.append_definition-returns-in-CoreInstantiate
append_definition-returns-in-CoreInstantiate t c = rw (c.in-CoreInstantiate.is, core_instantiate_content c.in-CoreInstantiate.module c.in-CoreInstantiate.args) c.append_indexed_list.ensures

pub append_definition-returns-in-CoreBundle : goal.append_definition-returns-in-CoreBundle
append_definition-returns-in-CoreBundle t c = rw (c.in-CoreBundle.is, core_bundle_content c.in-CoreBundle.exports) c.append_list_behind.ensures

pub append_definition-returns-in-Instantiate : goal.append_definition-returns-in-Instantiate
append_definition-returns-in-Instantiate t c = rw (c.in-Instantiate.is, instantiate_content c.in-Instantiate.component c.in-Instantiate.args) c.append_indexed_list-in-Instantiate.ensures

pub append_definition-returns-in-Bundle : goal.append_definition-returns-in-Bundle
append_definition-returns-in-Bundle t c = rw (c.in-Bundle.is, bundle_content c.in-Bundle.exports) c.append_list_behind-in-Bundle.ensures

pub append_definition-returns-in-Start : goal.append_definition-returns-in-Start
append_definition-returns-in-Start t c = rw (c.in-Start.is, start_content c.in-Start.func c.in-Start.args c.in-Start.results) c.append_start.ensures

pub append_definition-returns-in-Import : goal.append_definition-returns-in-Import
append_definition-returns-in-Import t c = rw (c.in-Import.is, import_content c.in-Import.name c.in-Import.ty) c.append_import.ensures

pub append_definition-returns-in-Export : goal.append_definition-returns-in-Export
append_definition-returns-in-Export t c = rw (c.in-Export.is, export_content c.in-Export.name c.in-Export.ty c.in-Export.kind c.in-Export.index) c.append_export.ensures

pub append_definition-returns-in-Custom : goal.append_definition-returns-in-Custom
append_definition-returns-in-Custom t c = rw (c.in-Custom.is, custom_content c.in-Custom.name c.in-Custom.payload ∙ ap (λ x. framed c.in-Custom.name.now ++ x) (sym c.as_slice-in-Custom.ensures.same_items)) c.append_custom.ensures
