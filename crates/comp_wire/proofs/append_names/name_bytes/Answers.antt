use Rattle.std.proofs.Common.{arith, ap, sym, length, length-append}
use Rattle.comp_model.specs.Payloads.{component_name_bytes, maps_bytes}
use Rattle.comp_wire.specs.NameSection.{maps_of}
use Rattle.comp_wire.proofs.NameBytes.{payload_parts}
use Rattle.comp_wire.proofs.append_names.name_bytes.Goals as goal

pub append_maps-requires : goal.append_maps-requires
append_maps-requires c =
    let n = maps_of c.args.names.now in
    rw c.as_slice.ensures.same_items (omega (arith, c.requires, ap length (payload_parts n), length-append (component_name_bytes n.component) (maps_bytes n.maps)))

pub returns : goal.returns
returns c = rw (c.in_ok-append_maps.ensures, c.as_slice.ensures.same_items, c.in_ok-append_own_name.ensures, c.new-payload.ensures.items) (sym (payload_parts (maps_of c.args.names.now)))
