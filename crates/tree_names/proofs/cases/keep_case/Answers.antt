use Rattle.std.proofs.Common.{refl}
use Rattle.tree_names.proofs.CasesSeen.{kept_more}
use Rattle.tree_names.proofs.cases.keep_case.Goals as goal

pub loop-behind-preserved : goal.loop-behind-preserved
loop-behind-preserved c = λ C earlier h. kept_more c.keep_id.new.cases C c.args.leaves.now c.loop-behind.behind _ _ c.case_id.result earlier c.loop-behind-test.true refl c.index-leaves-at.is c.case_id.ensures (c.in-Ok.ensures.kept _ (c.loop-behind.invariant C earlier h))
