use Rattle.std.proofs.Common.{sym, subst}
use Rattle.tree_build.specs.Cores.{Grows}
use Rattle.tree_build.proofs.Prefixes.{grows_itself}
use Rattle.tree_build.proofs.Wrapping.{cut_made}
use Rattle.tree_build.proofs.rare.wrap_dropped.Goals as goal

pub returns : goal.returns
returns c = (subst (Grows c.args.scratch.now.cores) (sym c.cut.ensures.cores) (grows_itself c.args.scratch.now.cores), λ fs cs z a l. cut_made fs cs c.args.ends c.args.scratch.now c.cut.new.scratch a l c.cut.ensures)
