use Rattle.rule_runs.proofs.Ranks.{rank_second, rank_row, many_falls, many_by_falls}
use Rattle.rule_runs.proofs.laws.parts_are_below.Goals as goal

pub returns-clause-second : goal.returns-clause-second
returns-clause-second c = rank_second

pub returns-clause-row : goal.returns-clause-row
returns-clause-row c = rank_row

pub returns-clause-item : goal.returns-clause-item
returns-clause-item c = many_falls

pub returns-clause-item_by : goal.returns-clause-item_by
returns-clause-item_by c = many_by_falls
