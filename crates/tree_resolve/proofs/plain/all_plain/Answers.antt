use Rattle.std.proofs.Common.{sym, ap, subst, ◌∙◌, ◌+◌, ◌∷◌, drop}
use Rattle.std.proofs.lemmas.List.{drop_more}
use Rattle.std.proofs.Math.ListN.{drop_of_length-le}
use Rattle.tree_resolve.specs.Plain.{DefsPlain}
use Rattle.tree_resolve.proofs.AllPlain.{defs-more}
use Rattle.tree_resolve.proofs.plain.all_plain.Goals as goal

pub loop-def-preserved : goal.loop-def-preserved
loop-def-preserved c = λ h.
    c.loop-def.invariant (defs-more c.args.defs.now c.loop-def.def-index _ (drop_more c.args.defs.now c.loop-def.def-index _ c.loop-def-test.true ∙ ap (λ z. z ∷ drop (c.loop-def.def-index + 1) c.args.defs.now) (sym c.def-item.is)) (c.is_plain.ensures c.if-not-is_plain.false) h)

pub returns : goal.returns
returns c = λ e. c.loop-def.invariant (subst DefsPlain (sym (drop_of_length-le c.args.defs.now c.loop-def-test.false)) tt)
