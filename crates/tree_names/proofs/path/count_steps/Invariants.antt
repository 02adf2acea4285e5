use Rattle.std.proofs.Common.{◌≡◌, length, take}
use Rattle.comp_scopes.specs.References.{instance_space}
use Rattle.comp_tables.specs.Tables.{Counters, past_path}
use Rattle.comp_tables.specs.Walks.{counters_in}
use Rattle.comp_tree.specs.Model.{root_of, path_from}
use Rattle.tree_names.proofs.path.count_steps.Given as goal

abbrev pub invariant-loop : goal.invariant-loop
invariant-loop l = (length l.counters ≡ 13)
    × ((c : Counters) → counters_in l.initial.counters ≡ c.counts → counters_in l.counters ≡ (past_path (instance_space l.space) (path_from (root_of l.root) (take l.counter l.exports)) c).counts)
