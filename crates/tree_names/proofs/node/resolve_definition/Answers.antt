use Rattle.std.proofs.Common.{map, inr, subst}
use Rattle.comp_tables.specs.Built.{missing, missing_roots}
use Rattle.comp_tree.specs.Lists.{listed}
use Rattle.tree_names.specs.declared.denotations.Denotations.{Denotations}
use Rattle.tree_names.specs.AllFound.{all_found, FoundTaken}
use Rattle.tree_names.proofs.Counting.{first_refused, then_refused}
use Rattle.tree_names.proofs.Definitions.{definition_read}
use Rattle.tree_names.proofs.Definitions.{definition_room}
use Rattle.tree_names.proofs.node.resolve_definition.Goals as goal

pub resolve_leaves-requires-clause-room : goal.resolve_leaves-requires-clause-room
resolve_leaves-requires-clause-room g c =
    definition_room c.args.scopes.now c.args.counters.now c.args.denotations (listed (map g.M.CoreSource.core_module c.args.cores.now) c.args.leaves.now) c.new-reading.result c.new-reading.ensures.counters c.new-reading.ensures.place c.new-reading.ensures.denotations
    c.requires.served c.requires.room c.requires.numbered

pub returns-in-Err-clause-resolves : goal.returns-in-Err-clause-resolves
returns-in-Err-clause-resolves g c =
    let C = map g.M.CoreSource.core_module c.args.cores.now in
    first_refused c.args.scopes.now (λ ms. missing_roots ms (listed C c.args.leaves.now)) (λ ms. missing g.M.CoreRule.encoding ms (listed C c.args.leaves.now)) _ (inr (c.in-Err.ensures C c.requires.kept))

pub resolve_leaves-requires-clause-ready : goal.resolve_leaves-requires-clause-ready
resolve_leaves-requires-clause-ready g c = record { expanded = c.requires.expanded; whole = c.requires.whole; rooted = (c.in-Ok.ensures (map g.M.CoreSource.core_module c.args.cores.now) c.requires.kept).rooted }

pub returns-in-Ok-resolve_leaves-clause-resolves : goal.returns-in-Ok-resolve_leaves-clause-resolves
returns-in-Ok-resolve_leaves-clause-resolves g c =
    definition_read _ _ _ c.args.denotations _ _ _ _ c.new-reading.ensures.counters c.new-reading.ensures.place c.new-reading.ensures.generated c.new-reading.ensures.denotations c.in-Ok-resolve_leaves.ensures
    (c.in-Ok.ensures (map g.M.CoreSource.core_module c.args.cores.now) c.requires.kept).rooted c.requires.served

pub returns-in-Ok-resolve_leaves-clause-taken : goal.returns-in-Ok-resolve_leaves-clause-taken
returns-in-Ok-resolve_leaves-clause-taken g c =
    subst (λ (z : Denotations). FoundTaken c.args.scopes.now (λ ms. all_found ms (listed (map g.M.CoreSource.core_module c.args.cores.now) c.args.leaves.now)) z.left.now c.resolve_leaves.new.reading.denotations.left.now) c.new-reading.ensures.denotations
    c.in-Ok-resolve_leaves.ensures.past.taken

pub returns-clause-resolves : goal.returns-clause-resolves
returns-clause-resolves g c =
    let C = map g.M.CoreSource.core_module c.args.cores.now in
    then_refused c.args.scopes.now (λ ms. missing_roots ms (listed C c.args.leaves.now)) (λ ms. missing g.M.CoreRule.encoding ms (listed C c.args.leaves.now)) _ (c.in-Ok.ensures C c.requires.kept).rooted c.in-Err-resolve_leaves.ensures
