use Rattle.std.proofs.Common.{◌≡◌, true, List, drop, drop_of_length-le}
use Rattle.comp_wire.specs.Spelled.{items_of, FitsSections}
use Rattle.comp_wire.specs.Fits.{fits}
use Rattle.comp_wire.specs.declared.defs.WireDef.{WireDef}
use Rattle.comp_wire.specs.declared.names.NameMaps.{NameMaps}
use Rattle.comp_model.specs.Payloads.{name_payload}
use Rattle.comp_wire.specs.NameSection.{maps_of, name_definition}
use Rattle.comp_wire.specs.Definitions.{named_defs, component_of_defs}
use Rattle.comp_wire.proofs.FitsTest.{exact}
use Rattle.comp_wire.proofs.Fit.{sections_fit}
use Rattle.comp_wire.proofs.Steps.{short_at_end}
use Rattle.comp_wire.proofs.Component.{first_turn, turn_needs, turn_gives, names_need, all_held}
use Rattle.comp_wire_tests.proofs.tests.component_bytes.Goals as goal

can_be_written : (ds : List WireDef) (names : NameMaps) → fits (component_of_defs (named_defs ds names)) ≡ true → FitsSections (component_of_defs (named_defs ds names))
can_be_written ds names h = (exact (component_of_defs (named_defs ds names))).0 h

pub loop-def-init : goal.loop-def-init
loop-def-init c = first_turn _ c.args.defs.now (name_definition (maps_of c.args.names.now)) c.in_ok-sink.ensures.empty (can_be_written c.args.defs.now c.args.names.now c.requires).3

pub put-requires-clause-fits : goal.put-requires-clause-fits
put-requires-clause-fits c = (turn_needs c.loop-def.sink c.args.defs.now (name_definition (maps_of c.args.names.now)) c.loop-def.def-index c.def-item.result c.loop-def-test.true c.def-item.is (can_be_written c.args.defs.now c.args.names.now c.requires).4 c.loop-def.invariant).0

pub put-requires-clause-room : goal.put-requires-clause-room
put-requires-clause-room c = (turn_needs c.loop-def.sink c.args.defs.now (name_definition (maps_of c.args.names.now)) c.loop-def.def-index c.def-item.result c.loop-def-test.true c.def-item.is (can_be_written c.args.defs.now c.args.names.now c.requires).4 c.loop-def.invariant).1

pub loop-def-preserved : goal.loop-def-preserved
loop-def-preserved c = turn_gives c.loop-def.sink c.put.new.self c.args.defs.now (name_definition (maps_of c.args.names.now)) c.loop-def.def-index c.def-item.result c.loop-def-test.true c.def-item.is c.loop-def.invariant c.in_ok-put.ensures

pub names-requires-clause-short : goal.names-requires-clause-short
names-requires-clause-short c =
    (names_need c.loop-def.sink c.args.defs.now (drop c.loop-def.def-index c.args.defs.now) (name_payload (maps_of c.args.names.now)) (drop_of_length-le c.args.defs.now c.loop-def-test.false) (can_be_written c.args.defs.now c.args.names.now c.requires).4 c.loop-def.invariant).0

pub names-requires-clause-room : goal.names-requires-clause-room
names-requires-clause-room c =
    (names_need c.loop-def.sink c.args.defs.now (drop c.loop-def.def-index c.args.defs.now) (name_payload (maps_of c.args.names.now)) (drop_of_length-le c.args.defs.now c.loop-def-test.false) (can_be_written c.args.defs.now c.args.names.now c.requires).4 c.loop-def.invariant).1

pub finish-requires : goal.finish-requires
finish-requires c = record {
  short = short_at_end c.names.new.self _ (all_held c.loop-def.sink c.names.new.self c.args.defs.now (drop c.loop-def.def-index c.args.defs.now) (name_definition (maps_of c.args.names.now)) (drop_of_length-le c.args.defs.now c.loop-def-test.false) c.loop-def.invariant c.in_ok-names.ensures) (can_be_written c.args.defs.now c.args.names.now c.requires).4;
}

pub returns : goal.returns
returns c =
    let fit = sections_fit _ (can_be_written c.args.defs.now c.args.names.now c.requires) in
    let held = all_held c.loop-def.sink c.names.new.self c.args.defs.now (drop c.loop-def.def-index c.args.defs.now) (name_definition (maps_of c.args.names.now)) (drop_of_length-le c.args.defs.now c.loop-def-test.false) c.loop-def.invariant c.in_ok-names.ensures in
    c.finish.ensures.reads c.args.defs.now c.args.names.now held fit
