use Rattle.std.proofs.Common.{arith, ◌≡◌, ◌++◌, ◌+◌, ap, sym, ◌∙◌}
use Rattle.std.proofs.lemmas.List.{length-replicate}
use Rattle.comp_list.specs.Spots.{spots_of}
use Rattle.comp_list.proofs.DefSpots.{run_added}
use Rattle.comp_list.proofs.spots.push_run.Goals as goal

pub push-requires-clause-room : goal.push-requires-clause-room
push-requires-clause-room c = omega (arith, c.requires.room c.args.run.space, c.requires.few, c.ranges.def.fits)

pub returns : goal.returns
returns c = (
  ap (λ n. c.args.part + n) (sym (length-replicate c.args.run.count c.args.run.space)),
  λ s. c.in_ok-push.ensures s ∙ ap (λ q. spots_of c.args.spots.now s ++ q) (run_added s c.args.run.space c.args.def c.args.part c.args.run.count),
)
