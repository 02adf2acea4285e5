use Rattle.std.proofs.Common.{[], sym, ◌∙◌, append-nil, arith}
use Rattle.comp_wire.proofs.Fit.{fits_sections}
use Rattle.tree_write.proofs.Encoded.{buffer_filled}
use Rattle.tree_write.proofs.encode.filled.Goals as goal

pub returns : goal.returns
returns g c =
    let sink = c.write_component.new.sink in
    λ fits e l. buffer_filled c.args.bytes.items sink.bytes.items _ c.len-at.result sink.at sink.full l (omega (arith, c.len-at.ensures, c.args.bytes.ok.0)) (c.write_component.ensures [] (fits_sections _ fits) (e ∙ sym (append-nil _))).0
