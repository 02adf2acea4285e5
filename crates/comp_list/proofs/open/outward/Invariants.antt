use Rattle.std.proofs.Common.{◌≡◌, drop}
use Rattle.comp_list.specs.Open.{scopes_of, AllFound}
use Rattle.comp_list.proofs.open.outward.Given as goal

abbrev pub invariant-loop-left : goal.invariant-loop-left
invariant-loop-left l =
    (drop l.left (scopes_of l.at) ≡ drop l.up (scopes_of l.around)) × (AllFound l.around → AllFound l.at)

abbrev pub decreases-loop-left : goal.decreases-loop-left
decreases-loop-left l = l.left
