use Rattle.tree_names.proofs.Placed as placed
use Rattle.tree_names.proofs.laws.settled_is_renumbered.Goals as goal

pub returns : goal.returns
returns c = placed.settled_is_renumbered
