use Rattle.std.proofs.Common.{◌≡◌, take}
use Rattle.comp_scopes.specs.References.{instance_space}
use Rattle.comp_tree.specs.Model.{root_of, path_from}
use Rattle.tree_names.specs.Read.{PathRead}
use Rattle.tree_names.proofs.name.resolve_steps.Given as goal

abbrev pub invariant-loop-step : goal.invariant-loop-step
invariant-loop-step l = PathRead l.scopes (instance_space l.space) (path_from (root_of l.root) (take l.step l.exports)) l.initial.reading l.reading l.index × (l.reading.denotations ≡ l.initial.reading.denotations)
