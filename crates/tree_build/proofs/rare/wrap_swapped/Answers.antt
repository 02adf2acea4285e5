use Rattle.std.proofs.Common.{refl, arith, length-drop}
use Rattle.tree_build.specs.Held.{held, loose}
use Rattle.tree_build.proofs.Prefixes.{grows_itself}
use Rattle.tree_build.proofs.Wrapping.{swapped_held, not_swapped}
use Rattle.tree_build.proofs.rare.wrap_swapped.Goals as goal

pub returns-then-len-leaves-eq3 : goal.returns-then-len-leaves-eq3
returns-then-len-leaves-eq3 c = (
  grows_itself c.args.scratch.now.cores,
  λ fs cs z a l. swapped_held (loose fs cs) c.args.leaves c.args.scratch.now.leaves.items c.swap.new.self.items (held fs cs c.args.scratch.now) a refl l c.requires (omega (arith, c.if-len-leaves-eq3.true, c.len.ensures, c.args.scratch.now.leaves.ok.0)) c.swap.ensures.items,
)

pub returns-else-len-leaves-eq3 : goal.returns-else-len-leaves-eq3
returns-else-len-leaves-eq3 c = (
  grows_itself c.args.scratch.now.cores,
  λ fs cs z a l. not_swapped (loose fs cs) c.args.leaves c.args.scratch.now.leaves.items (held fs cs c.args.scratch.now) a refl l (λ e. c.if-len-leaves-eq3.false (omega (arith, length-drop c.args.leaves c.args.scratch.now.leaves.items, e, c.len.ensures, c.args.scratch.now.leaves.ok.0))),
)
