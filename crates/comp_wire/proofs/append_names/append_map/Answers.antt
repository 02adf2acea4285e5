use Rattle.std.proofs.lemmas.Result.{on_ok_weaker}
use Rattle.comp_wire.proofs.NameBytes.{map_is, map_short}
use Rattle.comp_wire.proofs.TypeRows.{appended}
use Rattle.comp_wire.proofs.append_names.append_map.Goals as goal

pub map_body-requires : goal.map_body-requires
map_body-requires c = (map_short c.args.space c.args.items.now c.if-items-eq0.false c.requires).1

pub append_framed-requires : goal.append_framed-requires
append_framed-requires c = rw (c.as_slice.ensures.value, c.in_ok-body.ensures) (map_short c.args.space c.args.items.now c.if-items-eq0.false c.requires).0

pub returns : goal.returns
returns c =
    rw (map_is c.args.space c.args.items.now c.if-items-eq0.false)
    (on_ok_weaker c.append_framed.result (λ e. appended _ _ _ _ _ c.in_ok-append_byte.ensures (rw (c.as_slice.ensures.value, c.in_ok-body.ensures) at e)) c.append_framed.ensures)
