use Rattle.std.proofs.Common.{refl, arith, length-drop, ◌∙◌, ap, ◌∷◌, []}
use Rattle.text_rules.specs.Made.{heap_of}
use Rattle.tree_build.specs.Held.{held, loose}
use Rattle.tree_build.proofs.Prefixes.{grows_itself}
use Rattle.tree_build.proofs.References.{left_heap, made_of, one_set}
use Rattle.tree_build.proofs.outer.wrap_heap.Goals as goal

pub returns-then-len-leaves-ne1 : goal.returns-then-len-leaves-ne1
returns-then-len-leaves-ne1 c = (
  grows_itself c.args.scratch.now.cores,
  λ fs cs z a l. left_heap (loose fs cs) c.args.nullable c.args.leaves c.args.scratch.now.leaves.items (held fs cs c.args.scratch.now) a refl l
      (λ e. c.if-len-leaves-ne1.true (omega (arith, length-drop c.args.leaves c.args.scratch.now.leaves.items, e, c.len.ensures, c.args.scratch.now.leaves.ok.0))),
)

pub returns : goal.returns
returns c = (
  grows_itself c.args.scratch.now.cores,
  λ fs cs z a l. made_of (loose fs cs) (heap_of c.args.nullable) c.args.leaves c.args.scratch.now.leaves.items _ (held fs cs c.args.scratch.now) a refl l
      (one_set (loose fs cs) (heap_of c.args.nullable) c.args.leaves c.args.scratch.now.leaves.items c.index.result.now c.in_ok-leaf.leaf (omega (arith, c.requires, c.if-len-leaves-ne1.false, c.len.ensures, c.args.scratch.now.leaves.ok.0))
      (c.in_ok-leaf.ensures fs cs ∙ ap (λ x. heap_of c.args.nullable (loose fs cs x ∷ [])) c.index.ensures)),
)
