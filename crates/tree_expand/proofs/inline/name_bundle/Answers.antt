use Rattle.std.proofs.Common.{◌∙◌, ◌++◌, ap}
use Rattle.comp_tree.proofs.Outcomes.{of-ok}
use Rattle.tree_expand.proofs.Pushed.{generated_pushed}
use Rattle.tree_expand.proofs.inline.name_bundle.Goals as goal

pub returns-clause-pushed : goal.returns-clause-pushed
returns-clause-pushed c = λ cores.
    of-ok _ _ c.push_generated.result
    (λ r h. generated_pushed cores c.push_generated.new.list.items c.append.new.list.items c.args.bundles.now.items c.args.inner.now.bundles.items _ c.in_ok-places.places.now c.args.inner.now.places.list.items _ _ _ _
    (c.in_ok-append.ensures ∙ ap (λ q. c.args.bundles.now.items ++ q) c.deref.ensures.value) c.in_ok-places.ensures h)
    (c.push_generated.ensures.pushed cores)
