use Rattle.std.proofs.Common.{[], ◌∷◌, ◌+◌, ◌∙◌, ap, sym, drop}
use Rattle.std.proofs.lemmas.List.{drop_more}
use Rattle.comp_tables.specs.Bounds.{most_declared}
use Rattle.comp_tree.specs.Lists.{defs_listed}
use Rattle.tree_resolve.proofs.NamesLeft.{def-kept, all-kept, none-kept}
use Rattle.tree_resolve.proofs.Tables.{table_start, table_step, table_refused, table_end}
use Rattle.tree_resolve.proofs.DefsLeft.{expanded-at}
use Rattle.tree_resolve.proofs.Room.{no_sums, sums_def, sums_past}
use Rattle.tree_resolve.proofs.table.count_defs.Goals as goal

pub count_def-requires-clause-expanded : goal.count_def-requires-clause-expanded
count_def-requires-clause-expanded c = (c.requires.expanded.0, (expanded-at c.requires.expanded.0 c.args.defs.now c.loop-def.def-index c.def-item.result c.loop-def-test.true c.def-item.is c.requires.expanded.1).1)

pub count_def-requires-clause-sized : goal.count_def-requires-clause-sized
count_def-requires-clause-sized c = (c.loop-def.invariant.0 []).sized

pub count_def-requires-clause-room : goal.count_def-requires-clause-room
count_def-requires-clause-room c =
    let left = drop_more c.args.defs.now c.loop-def.def-index _ c.loop-def-test.true ∙ ap (λ z. z ∷ drop (c.loop-def.def-index + 1) c.args.defs.now) (sym c.def-item.is) in
    (c.requires.small.0, sums_def c.requires.small.0 _ _ c.def-item.result left c.loop-def.sums (c.loop-def.invariant.2 c.requires.small.0 c.requires.small.1))

pub loop-def-init : goal.loop-def-init
loop-def-init c = (
  λ C. table_start C c.args.scopes.now c.args.defs.now c.new-sums.result c.new-table.result.items c.new-sums.ensures.sized c.new-sums.ensures.summed c.new-sums.ensures.served c.new-table.ensures.items,
  λ C. none-kept C c.args.scopes.now c.args.defs.now c.new-found.result.items c.new-found.ensures.items,
  λ C h. no_sums c.new-sums.result (most_declared (defs_listed C c.args.defs.now)) c.new-sums.ensures.summed h,
)

pub returns-in-Err-clause-counted : goal.returns-in-Err-clause-counted
returns-in-Err-clause-counted c = λ C. table_refused C c.args.scopes.now c.args.defs.now c.loop-def.sums c.loop-def.table.items c.loop-def.def-index _ _ c.loop-def-test.true c.def-item.is (c.in-Err.ensures.counted C) (c.loop-def.invariant.0 C)

pub loop-def-preserved : goal.loop-def-preserved
loop-def-preserved c = (
  λ C. table_step C c.args.scopes.now c.args.defs.now c.loop-def.sums _ c.loop-def.table.items _ c.loop-def.def-index _ c.loop-def-test.true c.def-item.is (c.in-Ok.ensures.counted C) (c.loop-def.invariant.0 C),
  λ C. def-kept C c.args.scopes.now c.args.defs.now c.loop-def.def-index _ c.loop-def-test.true c.def-item.is c.loop-def.found.items _ (c.loop-def.invariant.1 C) (c.in-Ok.ensures.kept C),
  λ C h.
      let left = drop_more c.args.defs.now c.loop-def.def-index _ c.loop-def-test.true ∙ ap (λ z. z ∷ drop (c.loop-def.def-index + 1) c.args.defs.now) (sym c.def-item.is) in
      sums_past C _ _ c.def-item.result left c.args.scopes.now c.loop-def.sums _ _ _ (c.in-Ok.ensures.counted C) (c.loop-def.invariant.2 C h),
)

pub returns-clause-counted : goal.returns-clause-counted
returns-clause-counted c = λ C. table_end C c.args.scopes.now c.args.defs.now c.loop-def.sums c.loop-def.table.items c.loop-def.def-index c.loop-def-test.false (c.loop-def.invariant.0 C)

pub returns-clause-kept : goal.returns-clause-kept
returns-clause-kept c = λ C. all-kept C c.args.scopes.now c.args.defs.now c.loop-def.def-index c.loop-def.found.items c.loop-def-test.false (c.loop-def.invariant.1 C)
