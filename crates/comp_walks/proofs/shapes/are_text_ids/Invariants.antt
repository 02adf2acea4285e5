use Rattle.std.proofs.Common.{◌≡◌, drop}
use Rattle.comp_walks.specs.Lent.{ids_of}
use Rattle.comp_walks.specs.Shapes.{are_text_ids}
use Rattle.comp_walks.proofs.shapes.are_text_ids.Given as goal

abbrev pub invariant-loop-id : goal.invariant-loop-id
invariant-loop-id l = are_text_ids (ids_of (drop l.id-index l.ids)) ≡ are_text_ids (ids_of l.ids)
