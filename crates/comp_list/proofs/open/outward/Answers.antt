use Rattle.std.proofs.Common.{◌∙◌}
use Rattle.comp_list.proofs.Opens.{goes_outward, found_outward}
use Rattle.comp_list.proofs.open.outward.Goals as goal

pub loop-left-preserved : goal.loop-left-preserved
loop-left-preserved c = (
  goes_outward c.loop-left.at c.in-Scope.open c.in-Scope.is c.loop-left.left c.loop-left-test.true ∙ c.loop-left.invariant.0,
  λ f. found_outward c.loop-left.at c.in-Scope.open c.in-Scope.is (c.loop-left.invariant.1 f),
)
