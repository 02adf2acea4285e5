use Rattle.std.proofs.Common.{◌≡◌, ◌+◌, ◌<◌, ◌^◌, drop}
use Rattle.comp_walks.specs.Lent.{texts_of}
use Rattle.comp_walks.specs.Weigh.{capped, weight_of_exports}
use Rattle.comp_walks.proofs.weighing.Total.add_exports.Given as goal

abbrev pub invariant-loop-name : goal.invariant-loop-name
invariant-loop-name l = (l.self < 2 ^ 64) × (capped (l.self + weight_of_exports (texts_of (drop l.name-index l.names))) ≡ capped (l.initial.self + weight_of_exports (texts_of l.names)))
