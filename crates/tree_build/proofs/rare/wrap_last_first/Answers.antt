use Rattle.std.proofs.Common.{refl, ap, arith, length, length-append, [], ◌∷◌}
use Rattle.tree_build.specs.Held.{held, loose}
use Rattle.tree_build.proofs.Prefixes.{grows_itself}
use Rattle.tree_build.proofs.Wrapping.{turned_held}
use Rattle.tree_build.proofs.rare.wrap_last_first.Goals as goal

pub returns-in-Ok : goal.returns-in-Ok
returns-in-Ok c = (
  grows_itself c.args.scratch.now.cores,
  λ fs cs z a l. turned_held (loose fs cs) c.args.leaves c.args.scratch.now.leaves.items c.pop.new.self.items c.insert.new.self.items c.in-Some.last (held fs cs c.args.scratch.now) a refl l c.in-Some.ensures.items (omega (arith, ap length c.in-Some.ensures.items, length-append c.pop.new.self.items (c.in-Some.last ∷ []), c.requires, c.if-leaves-len.false, c.len.ensures, c.args.scratch.now.leaves.ok.0)) c.in-Ok.ensures.items,
)
