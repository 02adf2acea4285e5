use Rattle.std.proofs.Common.{map, ◌∙◌, ap}
use Rattle.tree_write.specs.Along.{payload_by}
use Rattle.tree_write.proofs.Sizes.{short_count}
use Rattle.tree_write.proofs.encode.component_bytes.Goals as goal

pub returns : goal.returns
returns g c =
    λ fits short few.
    let planned = c.in_ok-plans.ensures (map g.M.CoreBytes.core_module c.args.modules.now) few in
    let size = short_count c.measured-size.result _ c.measured-size.type_inv short (c.measured-size.ensures fits (ap (map payload_by) c.as_slice.ensures.value ∙ planned)) in
    record {
      fits = fits;
      spelled = c.filled.ensures fits (ap (map payload_by) c.as_slice-2.ensures.value ∙ planned) (c.in_ok-bytes.ensures ∙ size);
    }
