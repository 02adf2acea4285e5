use Rattle.std.proofs.Common.{refl}
use Rattle.tree_resolve.proofs.RegisterSteps.{definition_next, none_yet}
use Rattle.std.proofs.Common.{arith}
use Rattle.tree_resolve.proofs.Room.{declares_few}
use Rattle.tree_resolve.proofs.register.register_defs.Goals as goal

pub register_def-requires : goal.register_def-requires
register_def-requires c =
    let a = declares_few c.requires.small.0 c.args.defs.now c.loop-definition.definition c.index-defs-definition.result c.loop-definition-test.true c.index-defs-definition.is in
    record { few = (c.requires.small.0, omega (arith, a, c.requires.small.1)) }

pub loop-definition-init : goal.loop-definition-init
loop-definition-init c = λ C. none_yet _ _ c.new-registry.ensures

pub loop-definition-preserved : goal.loop-definition-preserved
loop-definition-preserved c = λ C. c.in-Ok.ensures C _ _ (definition_next _ C c.args.defs.now c.loop-definition.definition _ _ c.loop-definition-test.true c.index-defs-definition.is refl (c.loop-definition.invariant C))

pub returns-in-Err : goal.returns-in-Err
returns-in-Err c = λ C. c.in-Err.ensures C _ _ (definition_next _ C c.args.defs.now c.loop-definition.definition _ _ c.loop-definition-test.true c.index-defs-definition.is refl (c.loop-definition.invariant C))
