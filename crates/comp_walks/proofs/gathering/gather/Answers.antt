use Rattle.std.proofs.Common.{◌∙◌, ap, arith}
use Rattle.comp_walks.proofs.NumbersTold.{gathered}
use Rattle.comp_walks.proofs.gathering.gather.Goals as goal

pub returns : goal.returns
returns g c =
    let e = c.in_ok-numerals.ensures in
    let room = ap (λ q. q.room) e in
    c.into_numbers.ensures ∙ gathered (g.T.Node.leaves c.args.node.now) c.in_ok-numerals.numerals _ (ap (λ q. q.numbers) e) (ap (λ q. q.full) e) (omega (arith, room)) c.walk_leaves.ensures
