use Rattle.std.proofs.Common.{◌≡◌, ◌++◌, ℕ, ◌+◌, ◌<◌, ◌^◌, drop, replicate, true}
use Rattle.comp_model.specs.declared.Space.{Space}
use Rattle.comp_model.specs.Spaces.{same_space}
use Rattle.tree_write.specs.Along.{along, ids_in, labels_in, of_space}
use Rattle.comp_tree.specs.Spaces.{run_of}
use Rattle.tree_write.proofs.item_names.push_parts.Given as goal

-- the names so far and those of the parts that are left are those of all
abbrev pub invariant-loop-rest : goal.invariant-loop-rest
invariant-loop-rest l =
    (s : Space) (b : ℕ) → (same_space s l.run.space ≡ true → b ≡ l.before) → b + (l.from + l.run.count) < 2 ^ 64
    → (of_space s l.items.items ++ along s b l.at (drop l.at (ids_in l.of)) (drop l.at (labels_in l.of)) (replicate l.rest l.run.space)
    ≡ of_space s l.initial.items.items ++ along s b l.from (drop l.from (ids_in l.of)) (drop l.from (labels_in l.of)) (run_of l.run))
    × (l.at + l.rest ≡ l.from + l.run.count)

abbrev pub decreases-loop-rest : goal.decreases-loop-rest
decreases-loop-rest l = l.rest
