use Rattle.std.proofs.Common.{List, drop}
use Rattle.comp_model.specs.CoreModules.{CoreModule}
use Rattle.tree_resolve.specs.Made.{number_in, AliasesBehind}
use Rattle.tree_resolve.proofs.build.push_aliases.Given as goal

abbrev pub invariant-loop-alias : goal.invariant-loop-alias
invariant-loop-alias l = (C : List CoreModule) → AliasesBehind C (number_in l.places) l.definition l.generated (drop l.alias-index l.generated) l.initial.list.items l.list.items
