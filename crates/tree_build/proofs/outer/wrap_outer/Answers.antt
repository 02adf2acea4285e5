use Rattle.std.proofs.Common.{refl, arith, length-drop, ◌∙◌, ap, sym, ◌∷◌, [], drop}
use Rattle.text_rules.specs.Made.{behind, first_place}
use Rattle.text_rules.specs.Makes.{alias_leaves}
use Rattle.tree_build.specs.Held.{held, loose}
use Rattle.tree_build.proofs.Prefixes.{grows_itself}
use Rattle.tree_build.proofs.References.{left_alias, made_of, two_set}
use Rattle.tree_build.proofs.outer.wrap_outer.Goals as goal

pub returns-then-len-leaves-ne3 : goal.returns-then-len-leaves-ne3
returns-then-len-leaves-ne3 c = (
  grows_itself c.args.scratch.now.cores,
  λ fs cs z a l. left_alias (loose fs cs) c.args.leaves c.args.scratch.now.leaves.items (held fs cs c.args.scratch.now) a refl l.0
      (λ e. c.if-len-leaves-ne3.true (omega (arith, length-drop c.args.leaves c.args.scratch.now.leaves.items, e, c.len.ensures, c.args.scratch.now.leaves.ok.0))),
)

pub returns : goal.returns
returns c = (
  grows_itself c.args.scratch.now.cores,
  λ fs cs z a l.
      let o = first_place (behind a (held fs cs c.args.scratch.now)).places in
      made_of (loose fs cs) (alias_leaves o) c.args.leaves c.args.scratch.now.leaves.items _ (held fs cs c.args.scratch.now) a refl l.0
      (two_set (loose fs cs) (alias_leaves o) c.args.leaves c.args.scratch.now.leaves.items c.index.result.now c.index-2.result.now c.index-3.result.now c.in_ok-parts.parts.scope c.in_ok-parts.parts.item
      (omega (arith, c.requires, c.if-len-leaves-ne3.false, c.len.ensures, c.args.scratch.now.leaves.ok.0)) c.index.ensures c.index-2.ensures c.index-3.ensures
      (c.in_ok-parts.ensures fs cs ∙ ap (λ k. alias_leaves k (loose fs cs c.index.result.now ∷ loose fs cs c.index-2.result.now ∷ loose fs cs c.index-3.result.now ∷ []))
      (c.place_at.ensures ∙ (ap (λ ns. first_place (drop c.args.places ns)) c.deref.ensures.value ∙ ap (λ k. first_place (drop k c.args.scratch.now.places.items)) (sym l.1))))),
)
