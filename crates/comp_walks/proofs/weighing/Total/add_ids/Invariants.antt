use Rattle.std.proofs.Common.{◌≡◌, ◌+◌, ◌<◌, ◌^◌, drop}
use Rattle.comp_walks.specs.Lent.{ids_of}
use Rattle.comp_walks.specs.Weigh.{capped}
use Rattle.comp_model.specs.Weight.{weight_of_all, weight_of_id}
use Rattle.comp_walks.proofs.weighing.Total.add_ids.Given as goal

abbrev pub invariant-loop-id : goal.invariant-loop-id
invariant-loop-id l = (l.self < 2 ^ 64) × (capped (l.self + weight_of_all weight_of_id (ids_of (drop l.id-index l.ids))) ≡ capped (l.initial.self + weight_of_all weight_of_id (ids_of l.ids)))
