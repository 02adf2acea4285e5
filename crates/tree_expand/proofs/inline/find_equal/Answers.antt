use Rattle.std.proofs.Common.{◌∙◌, sym}
use Rattle.tree_expand.specs.Passed.{types_in}
use Rattle.tree_expand.proofs.OwnTypes.{whole_shows}
use Rattle.tree_expand.proofs.Passing.{shared_stands}
use Rattle.tree_expand.proofs.inline.find_equal.Goals as goal

pub returns : goal.returns
returns c = λ xs ls s k p.
    let h = sym c.is_shared.ensures ∙ c.if-not-is_shared.false in
    c.find.ensures xs c.args.row ls s (whole_shows c.args.key.now (types_in xs) c.args.row ls h k) p ∙ sym (shared_stands (types_in xs) c.args.row ls h)
