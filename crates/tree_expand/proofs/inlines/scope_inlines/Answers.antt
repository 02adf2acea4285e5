use Rattle.std.proofs.Common.{sym, ap, ◌∙◌, refl}
use Rattle.comp_model.specs.Model.{defs_of}
use Rattle.comp_tree.specs.Lists.{listed, defs_listed}
use Rattle.comp_tree.specs.declared.tree.Scope.{out-Scope}
use Rattle.comp_tree.proofs.Leaves.{scope_fields}
use Rattle.tree_expand.specs.Numbering.{inlines, inlines_defs}
use Rattle.std.proofs.lemmas.List.{drop_all}
use Rattle.tree_expand.proofs.Flags.{there}
use Rattle.tree_expand.proofs.inlines.scope_inlines.Goals as goal

pub returns-then-leaves_inline : goal.returns-then-leaves_inline
returns-then-leaves_inline c = λ C.
    there (λ xs. inlines_defs (defs_listed C xs)) (λ x. inlines (listed C x.node.leaves.now)) (λ x xs. refl) (out-Scope c.args.scope.now).defs.now c.loop-def.def-index c.def-item.result c.loop-def-test.true
    (sym c.if-leaves_inline.true ∙ c.leaves_inline.ensures C ∙ ap (λ q. inlines (listed C q.node.leaves.now)) c.def-item.is) (c.loop-def.invariant C)
    ∙ sym (ap (λ q. inlines_defs (defs_of q)) (scope_fields C c.args.scope.now))

pub returns : goal.returns
returns c = λ C. sym (ap (λ q. inlines_defs (defs_listed C q)) (drop_all c.loop-def.def-index (out-Scope c.args.scope.now).defs.now c.loop-def-test.false)) ∙ c.loop-def.invariant C ∙ sym (ap (λ q. inlines_defs (defs_of q)) (scope_fields C c.args.scope.now))
