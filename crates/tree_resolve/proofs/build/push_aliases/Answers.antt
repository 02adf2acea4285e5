use Rattle.std.proofs.Common.{subst}
use Rattle.std.proofs.Math.ListN.{drop_of_length-le}
use Rattle.tree_resolve.specs.Made.{number_in, AliasesBehind}
use Rattle.tree_resolve.proofs.Building.{alias-more}
use Rattle.tree_resolve.proofs.build.push_aliases.Goals as goal

pub loop-alias-preserved : goal.loop-alias-preserved
loop-alias-preserved c = λ C.
    alias-more C (number_in c.args.places.now) c.args.definition c.args.generated.now c.args.list.now.items c.loop-alias.list.items _ c.loop-alias.alias-index _ c.in-Ok.def c.loop-alias-test.true c.in-Ok-push.ensures.items (c.in-Ok.ensures.made C) (c.in-Ok.ensures.resolved C) c.in-Ok.ensures.nameless
    (c.loop-alias.invariant C)

pub returns-clause-pushed : goal.returns-clause-pushed
returns-clause-pushed c = λ C. subst (λ z. AliasesBehind C (number_in c.args.places.now) c.args.definition c.args.generated.now z c.args.list.now.items c.loop-alias.list.items) (drop_of_length-le c.args.generated.now c.loop-alias-test.false) (c.loop-alias.invariant C)
