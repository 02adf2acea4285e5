use Rattle.std.proofs.Common.{◌<◌, true, arith, refl, ◌∙◌, sym}
use Rattle.wast_grammar.specs.Read.{left_of}
use Rattle.wast_grammar.proofs.Fuel.{read_moves}
use Rattle.wast_grammar.proofs.Moves.{Ahead}
use Rattle.wast_grammar.specs.CoreRows.{is_inline_export, inline_export, inline_exports}
use Rattle.core_parts.specs.PartViews.{text_view}
use Rattle.core_parts.proofs.ManyBy as many
use Rattle.core_parts.proofs.inline_read.inline_exports.Goals as goal

pub names-smaller : goal.names-smaller
names-smaller c =
    let a : Ahead true c.names.parser c.export_name.new.parser = read_moves inline_export c.names.parser _ c.export_name.new.parser refl c.in_ok-name.ensures.gives in
    let l : left_of c.export_name.new.parser < left_of c.names.parser = a.falls refl in l

pub names-preserved : goal.names-preserved
unfolding inline_exports
names-preserved c =
    let p = c.names.invariant in
    let q = c.in_ok-name.ensures in
    record {
      gives = rw c.in_ok-push.ensures.items (many.goes_on text_view is_inline_export inline_export c.names.names.items c.in_ok-name.name c.names.parser c.export_name.new.parser _ refl (sym c.is_inline_export.ensures.form ∙ c.names-test.true) q.gives p.gives);
      text = q.text ∙ p.text;
      forward = omega (arith, q.forward, p.forward);
    }

pub returns-clause-gives : goal.returns-clause-gives
unfolding inline_exports
returns-clause-gives c = many.is_done text_view is_inline_export inline_export c.names.names.items c.names.parser _ (sym c.is_inline_export.ensures.form ∙ c.names-test.false) c.names.invariant.gives
