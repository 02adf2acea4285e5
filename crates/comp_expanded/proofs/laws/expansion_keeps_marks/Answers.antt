use Rattle.comp_expanded.proofs.Kept.{expands-marks}
use Rattle.comp_expanded.proofs.laws.expansion_keeps_marks.Goals as goal

pub returns : goal.returns
returns c = expands-marks
