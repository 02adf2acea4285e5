use Rattle.std.proofs.Common.{◌∙◌, sym, ap, ◌++◌, ◌∷◌, []}
use Rattle.comp_tree.proofs.Ranges.{range_one}
use Rattle.comp_tree.proofs.places.first_places.Goals as goal

pub loop-place-preserved : goal.loop-place-preserved
loop-place-preserved c = c.in_ok-push.ensures.items ∙ ap (λ q. q ++ c.loop-place.place ∷ []) c.loop-place.invariant ∙ sym (range_one c.loop-place.place)
