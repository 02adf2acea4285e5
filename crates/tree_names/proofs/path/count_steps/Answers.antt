use Rattle.std.proofs.Common.{◌∙◌, ap, sym, arith, ◌∷◌, [], take}
use Rattle.comp_scopes.specs.References.{instance_space}
use Rattle.comp_tables.specs.Tables.{Counters, advanced, past_path}
use Rattle.comp_tree.specs.Model.{root_of, path_from}
use Rattle.tree_names.proofs.Paths.{inner_step, last_step}
use Rattle.tree_names.proofs.Room.{step_fits}
use Rattle.tree_names.proofs.path.count_steps.Goals as goal

pub declare-requires-clause-room : goal.declare-requires-clause-room
declare-requires-clause-room c = step_fits _ (instance_space c.args.space) c.args.root c.args.exports.now c.loop.counter c.args.counters.now _ c.requires.room (omega (arith, c.loop-test.true)) c.loop.invariant.1

pub declare-requires-2-clause-room : goal.declare-requires-2-clause-room
declare-requires-2-clause-room c =
    step_fits _ (instance_space c.args.space) c.args.root c.args.exports.now c.loop.counter c.args.counters.now _ c.requires.room (omega (arith, c.loop-test.false, c.requires.some, c.loop.auto.counter-end)) c.loop.invariant.1

pub loop-preserved : goal.loop-preserved
loop-preserved c = (
  c.declare.ensures.sized,
  λ x h.
      c.declare.ensures.counters (past_path (instance_space c.args.space) (path_from (root_of c.args.root) (take c.loop.counter c.args.exports.now)) x) (c.loop.invariant.1 x h)
      ∙ ap (λ u. (advanced (u ∷ []) (past_path (instance_space c.args.space) (path_from (root_of c.args.root) (take c.loop.counter c.args.exports.now)) x)).counts) c.instance_space-inner.ensures
      ∙ ap (λ (z : Counters). z.counts) (sym (inner_step c.args.space (root_of c.args.root) c.args.exports.now c.loop.counter x (omega (arith, c.loop-test.true)))),
)

pub returns-clause-counters : goal.returns-clause-counters
returns-clause-counters c = λ x h.
    c.declare-2.ensures.counters (past_path (instance_space c.args.space) (path_from (root_of c.args.root) (take c.loop.counter c.args.exports.now)) x) (c.loop.invariant.1 x h)
    ∙ ap (λ (z : Counters). z.counts) (sym (last_step c.args.space (root_of c.args.root) c.args.exports.now c.loop.counter x (omega (arith, c.loop-test.false, c.requires.some, c.loop.auto.counter-end)) (omega (arith, c.loop-test.false, c.requires.some, c.loop.auto.counter-end))))
