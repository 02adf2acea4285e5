use Rattle.std.proofs.Common.{ap, arith, length, drop_of_length-le}
use Rattle.comp_tree.specs.Model.{joined}
use Rattle.tree_write.proofs.Tests.{joined_more}
use Rattle.tree_write.proofs.leaf_fits.joined_length.Goals as goal

pub loop-piece-preserved : goal.loop-piece-preserved
loop-piece-preserved c = (joined_more c.args.pieces.now c.loop-piece.piece-index c.loop-piece.size _ _ c.loop-piece-test.true c.saturating_add-size.ensures c.loop-piece.invariant.0, omega (arith, c.saturating_add-size.ensures))

pub returns : goal.returns
returns c =
    let none = ap (λ xs. length (joined xs)) (drop_of_length-le c.args.pieces.now c.loop-piece-test.false) in
    omega (arith, none, c.loop-piece.invariant.0, c.loop-piece.invariant.1)
