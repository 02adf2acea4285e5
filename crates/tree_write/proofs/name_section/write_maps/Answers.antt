use Rattle.std.proofs.Common.{refl}
use Rattle.comp_model.specs.declared.Space.{Space}
use Rattle.comp_model.specs.Payloads.{map_bytes}
use Rattle.tree_write.specs.Along.{of_space, maps_by}
use Rattle.tree_write.proofs.Turns.{starts, turn_at}
use Rattle.tree_write.proofs.name_section.write_maps.Goals as goal

pub loop-i-init : goal.loop-i-init
loop-i-init g c = starts (maps_by c.args.items.now) (λ (s : Space). map_bytes s (of_space s c.args.items.now)) refl (λ x xs. refl) c.args.spaces.now _

pub loop-i-preserved : goal.loop-i-preserved
loop-i-preserved g c = turn_at (maps_by c.args.items.now) (λ (s : Space). map_bytes s (of_space s c.args.items.now)) refl (λ x xs. refl) c.args.spaces.now c.loop-i.i _ _ _ _ c.loop-i-test.true c.loop-i.auto.i c.loop-i.invariant c.write_map.ensures
