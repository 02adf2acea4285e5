use Rattle.tree_write.proofs.SpaceSums.{maps_end, maps_turn}
use Rattle.tree_write.proofs.name_lengths.maps_length.Goals as goal

pub loop-space-preserved : goal.loop-space-preserved
loop-space-preserved c = (
  λ f t. maps_turn f c.args.spaces.now c.loop-space.space-index _ c.loop-space.bytes c.map_length_at-map.result c.saturating_add-bytes.result _ c.loop-space-test.true (c.map_length_at-map.ensures _ (t _)) c.saturating_add-bytes.ensures (c.loop-space.invariant.0 f t),
  c.saturating_add-bytes.type_inv,
)

pub returns : goal.returns
returns c = λ f t. maps_end f c.args.spaces.now c.loop-space.space-index c.loop-space.bytes _ c.loop-space.invariant.1 c.loop-space-test.false (c.loop-space.invariant.0 f t)
