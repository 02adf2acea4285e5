use Rattle.core_groups.proofs.OfRows.{spells-groups}
use Rattle.core_groups.proofs.groups_are_one_list.Goals as goal

pub returns : goal.returns
returns c = spells-groups
