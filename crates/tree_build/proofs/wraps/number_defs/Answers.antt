use Rattle.std.proofs.Common.{◌∙◌, refl, arith, rules}
use Rattle.comp_tree.specs.Lists.{def_of}
use Rattle.tree_build.proofs.Slices.{same_set}
use Rattle.tree_build.proofs.wraps.number_defs.Goals as goal

pub loop-i-preserved : goal.loop-i-preserved
loop-i-preserved c = (
  λ cs. same_set (def_of cs) c.loop-i.i c.loop-i.defs.items c.index_mut.result.now _ (omega (arith, c.loop-i-test.true, c.loop-i.invariant.1)) c.index_mut.ensures.value refl ∙ c.loop-i.invariant.0 cs,
  search rules,
)
