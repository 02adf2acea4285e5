use Rattle.std.proofs.Common.{◌≡◌, ◌+◌, ◌<◌, ◌^◌, drop}
use Rattle.comp_walks.specs.Lent.{labels_of}
use Rattle.comp_walks.specs.Weigh.{capped}
use Rattle.comp_model.specs.Weight.{weight_of_all, weight_of_label}
use Rattle.comp_walks.proofs.weighing.Total.add_labels.Given as goal

abbrev pub invariant-loop-label : goal.invariant-loop-label
invariant-loop-label l = (l.self < 2 ^ 64) × (capped (l.self + weight_of_all weight_of_label (labels_of (drop l.label-index l.labels))) ≡ capped (l.initial.self + weight_of_all weight_of_label (labels_of l.labels)))
