-- What a loop over a list has come to, by what is left of it.
use Rattle.std.specs.Prelude.{◌≡◌, List, length}
use Rattle.comp_model.specs.CoreModules.{CoreModule}
use Rattle.comp_tables.specs.Tables.{unmet_kinds, unmet_kinds_nodes}
use Rattle.wast_tokens.specs.declared.error.Error.{Error}
use Rattle.comp_tree.specs.declared.tree.Leaf.{Leaf}
use Rattle.comp_tree.specs.declared.tree.Node.{Node}
use Rattle.comp_tree.specs.Lists.{listed, nodes_listed}
use Rattle.open_scopes.specs.declared.scopes.Open.{Open}
use Rattle.tree_names.specs.declared.sums.Sums.{Sums}
use Rattle.tree_names.specs.Counted.{Refused, LeavesCounted, NodesCounted}

pub record LeavesLeft (C : List CoreModule) (os : List Open) (first now : Sums) (xs rest : List Leaf) : Type 0 where
  pub sized : length now.counters ≡ 13
  pub done : (end : Sums) → LeavesCounted os now end (listed C rest) → LeavesCounted os first end (listed C xs)
  pub refused : (x : Error) → Refused os (λ ms. unmet_kinds ms (listed C rest)) x → Refused os (λ ms. unmet_kinds ms (listed C xs)) x

pub record NodesLeft (C : List CoreModule) (os : List Open) (first now : Sums) (xs rest : List Node) : Type 0 where
  pub sized : length now.counters ≡ 13
  pub done : (end : Sums) → NodesCounted os now end (nodes_listed C rest) → NodesCounted os first end (nodes_listed C xs)
  pub refused : (x : Error) → Refused os (λ ms. unmet_kinds_nodes ms (nodes_listed C rest)) x → Refused os (λ ms. unmet_kinds_nodes ms (nodes_listed C xs)) x
