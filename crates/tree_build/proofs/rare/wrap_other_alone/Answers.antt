use Rattle.std.proofs.Common.{◌∙◌, sym, ap, subst, arith}
use Rattle.comp_model.specs.declared.row.Row.TheVariants as rows
use Rattle.comp_model.specs.RowNumbers.{same_row}
use Rattle.text_rules.specs.Made.{join, front, first_row}
use Rattle.tree_build.specs.Cores.{Grows}
use Rattle.tree_build.specs.Held.{held}
use Rattle.tree_build.proofs.Prefixes.{grows_itself}
use Rattle.tree_build.proofs.Wrapping.{rows_left, chosen, other, rejoined, test_behind}
use Rattle.tree_build.proofs.rare.wrap_other_alone.Goals as goal

pub returns-then-other_stands : goal.returns-then-other_stands
returns-then-other_stands c = (
  subst (Grows c.args.scratch.now.cores) (sym c.cut.ensures.cores) (grows_itself c.args.scratch.now.cores),
  λ fs cs z a l.
      rows_left fs cs c.args.ends c.len-rows.result c.args.scratch.now c.cut.new.scratch a l (omega (arith, c.len-rows.ensures, c.args.scratch.now.rows.ok.0)) c.cut.ensures
      ∙ ap (join (front a (held fs cs c.args.scratch.now))) (sym (chosen _ _ _
      (test_behind (λ ts. same_row (first_row ts) rows.OtherEntity) c.args.ends.rows a.rows c.args.scratch.now.rows.items c.deref.result.now c.other_stands.result l.rows c.deref.ensures.value c.other_stands.ensures ∙ c.if-other_stands.true))),
)

pub returns-else-other_stands : goal.returns-else-other_stands
returns-else-other_stands c = (
  grows_itself c.args.scratch.now.cores,
  λ fs cs z a l.
      sym (rejoined a (held fs cs c.args.scratch.now))
      ∙ ap (join (front a (held fs cs c.args.scratch.now))) (sym (other _ _ _
      (test_behind (λ ts. same_row (first_row ts) rows.OtherEntity) c.args.ends.rows a.rows c.args.scratch.now.rows.items c.deref.result.now c.other_stands.result l.rows c.deref.ensures.value c.other_stands.ensures ∙ c.if-other_stands.false))),
)
