use Rattle.std.proofs.Common.{◌≡◌, ℕ, ◌-◌, ◌++◌, arith, length, take, ap, sym, ◌∙◌, subst}
use Rattle.comp_scopes.specs.References.{instance_space}
use Rattle.comp_tree.specs.Model.{root_of, path_from}
use Rattle.tree_names.specs.declared.denotations.Denotations.{Denotations}
use Rattle.tree_names.specs.declared.reading.Reading.{Reading}
use Rattle.tree_names.specs.AllFound.{root_found, FoundTaken}
use Rattle.tree_names.specs.Read.{PathRead}
use Rattle.tree_names.proofs.Names.{steps_inner, steps_last, from_start}
use Rattle.tree_names.proofs.Room.{few_steps, step_room}
use Rattle.tree_names.proofs.name.resolve_steps.Goals as goal

pub loop-step-preserved : goal.loop-step-preserved
loop-step-preserved c = (steps_inner _ _ _ _ _ _ _ _ _ _ _ _ c.loop-step.invariant.0 c.instance_space-inner.ensures c.in_ok-index.ensures.done (omega (arith, c.loop-step-test.true)), c.in_ok-index.ensures.done.denotations ∙ c.loop-step.invariant.1)

pub returns-clause-taken : goal.returns-clause-taken
returns-clause-taken c = λ ms w.
    subst (λ u. FoundTaken c.args.scopes.now (λ ms. root_found ms u (root_of c.args.root)) c.args.reading.now.denotations.left.now c.resolve_root-index.new.denotations.left.now) c.instance_space-inner.ensures c.resolve_root-index.ensures.taken ms w
    ∙ ap (λ (z : Denotations). root_found ms (instance_space c.args.space) (root_of c.args.root) ++ z.left.now) (sym (c.in_ok-end.ensures.done.denotations ∙ c.loop-step.invariant.1))

pub returns-clause-path : goal.returns-clause-path
returns-clause-path c =
    let old : Reading = record { counters = c.args.reading.now.counters; place = c.args.reading.now.place; generated = c.args.reading.now.generated; denotations = c.resolve_root-index.new.denotations } in
    let e : c.loop-step.step ≡ length c.args.exports.now - 1 = omega (arith, c.loop-step-test.false, c.loop-step.auto.step-end) in
    from_start c.args.scopes.now c.args.space (path_from (root_of c.args.root) c.args.exports.now) c.args.reading.now _ c.resolve_root-index.new.denotations _
    (steps_last _ _ _ _ (length c.args.exports.now - 1) _ c.loop-step.reading _ c.loop-step.index _ _
    (subst (λ (z : ℕ). PathRead c.args.scopes.now (instance_space c.args.space) (path_from (root_of c.args.root) (take z c.args.exports.now)) old c.loop-step.reading c.loop-step.index) e c.loop-step.invariant.0)
    c.in_ok-end.ensures.done (omega (arith, c.requires.some)) (omega (arith, c.requires.some)))

pub returns-clause-served : goal.returns-clause-served
returns-clause-served c = ap (λ (z : Denotations). z.served) (c.in_ok-end.ensures.done.denotations ∙ c.loop-step.invariant.1) ∙ c.resolve_root-index.ensures.served

pub overflow_cast-step : goal.overflow_cast-step
overflow_cast-step c = let few = few_steps (length c.args.exports.now) c.args.reading.now.counters c.requires.room in record { fits = omega (arith, few, c.loop-step-test.true) }

pub overflow_cast-last : goal.overflow_cast-last
overflow_cast-last c = let few = few_steps (length c.args.exports.now) c.args.reading.now.counters c.requires.room in record { fits = omega (arith, few) }

pub resolve_step-requires-clause-room : goal.resolve_step-requires-clause-room
resolve_step-requires-clause-room c = step_room _ _ _ c.args.exports.now c.loop-step.step _ c.loop-step.reading _ c.requires.room (omega (arith, c.loop-step-test.true)) c.loop-step.invariant.0

pub resolve_step-requires-2-clause-room : goal.resolve_step-requires-2-clause-room
resolve_step-requires-2-clause-room c = step_room _ _ _ c.args.exports.now c.loop-step.step _ c.loop-step.reading _ c.requires.room (omega (arith, c.loop-step-test.false, c.requires.some, c.loop-step.auto.step-end)) c.loop-step.invariant.0
