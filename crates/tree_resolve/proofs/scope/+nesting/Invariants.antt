use Rattle.std.proofs.Common.{◌≡◌, ◌+◌, drop, map}
use Rattle.comp_tables.specs.Bounds.{most_declared}
use Rattle.comp_tree.specs.Lists.{defs_listed}
use Rattle.tree_names.specs.Room.{CountersHaveRoom}
use Rattle.tree_names.specs.AllFound.{defs_found, FoundAll}
use Rattle.tree_resolve.specs.ScopeResolved.{DefsLeft}
use Rattle.tree_resolve.proofs.Nested.{scope_size, defs_size, def_size}
use Rattle.tree_resolve.proofs.scope.+nesting.Given as goal

abbrev pub decreases-resolve_scope : goal.decreases-resolve_scope
decreases-resolve_scope g l = scope_size l.scope.now + 2

abbrev pub decreases-resolve_defs : goal.decreases-resolve_defs
decreases-resolve_defs g l = defs_size l.defs.now + 1

abbrev pub decreases-resolve_def : goal.decreases-resolve_def
decreases-resolve_def g l = def_size l.def.now

abbrev pub invariant-resolve_defs-loop-def : goal.invariant-resolve_defs-loop-def
invariant-resolve_defs-loop-def g l = (l.scopes.items ≡ l.initial.scopes.items) × DefsLeft g.M.CoreRule.encoding (map g.M.CoreSource.core_module l.cores) l.initial.scopes.items l.counters l.denoted.served.now l.defs (drop l.def-index l.defs) l.list.items
    × FoundAll l.initial.scopes.items (λ ms. defs_found ms (defs_listed (map g.M.CoreSource.core_module l.cores) (drop l.def-index l.defs))) l.denoted.left.now
    × CountersHaveRoom l.counters (most_declared (defs_listed (map g.M.CoreSource.core_module l.cores) (drop l.def-index l.defs)))
