use Rattle.std.proofs.Common.{◌∙◌, ap, option_map}
use Rattle.comp_model.specs.Payloads.{component_name_bytes}
use Rattle.comp_model.specs.Spaces.{all_spaces}
use Rattle.comp_tree.specs.Model.{lent_text}
use Rattle.tree_write.specs.Along.{maps_by}
use Rattle.tree_write.specs.Kept.{put}
use Rattle.tree_write.proofs.Puts.{put_put}
use Rattle.tree_write.proofs.name_section.write_payload.Goals as goal

pub returns : goal.returns
returns g c =
    let k = g.S.Sink.kept c.args.sink.now in
    let n = c.args.names.now in
    let own = component_name_bytes (option_map lent_text n.own) in
    c.write_own.ensures ∙ ap (put own) (c.write_maps.ensures ∙ ap (λ xs. put (maps_by xs all_spaces) k) c.as_slice.ensures.value) ∙ put_put own (maps_by n.items.items all_spaces) k
