use Rattle.std.proofs.Common.{ap, refl}
use Rattle.std.specs.Prelude.{⊤}
use Rattle.wast_grammar.specs.Grammar.{right}
use Rattle.wast_grammar.specs.Read.{read}
use Rattle.tree_read.specs.FieldParts.{closed, grouped}
use Rattle.tree_read.proofs.FieldForms.{field_fails}
use Rattle.tree_read.proofs.FieldsAdded.{gives_passed}
use Rattle.tree_read.proofs.NameReads.{group_ends, group_fails}
use Rattle.tree_read.proofs.Refusals.{passed}
use Rattle.tree_read.proofs.fields.parse_closed.Goals as goal

pub returns-in_err-value : goal.returns-in_err-value
returns-in_err-value g c =
    gives_passed (grouped g.T.ParseView.view) c.from_residual.result c.in_err-value.field-0.0 c.parse.new.self (closed right (read g.T.Parse.grammar c.args.reader.now))
    (passed c.from_residual.result c.in_err-value.field-0.0 c.from_residual.ensures.1 (λ y z. z))
    (field_fails c.in_err-value.field-0.0 c.args.reader.now c.parse.new.self (closed right (read g.T.Parse.grammar c.args.reader.now)) (read g.T.Parse.grammar c.args.reader.now) refl c.in_err-value.ensures)

pub returns-in_err-take : goal.returns-in_err-take
returns-in_err-take g c =
    gives_passed (grouped g.T.ParseView.view) c.from_residual-in_err-take.result c.in_err-take.field-0.0 c.take.new.self (closed right (read g.T.Parse.grammar c.args.reader.now))
    (passed c.from_residual-in_err-take.result c.in_err-take.field-0.0 c.from_residual-in_err-take.ensures.1 (λ y z. z))
    (group_fails (grouped g.T.ParseView.view) (right (g.T.ParseView.view c.in_ok-value.value)) (closed right (read g.T.Parse.grammar c.args.reader.now)) c.in_err-take.field-0.0 ⊤ c.parse.new.self c.take.new.self (ap (closed right) c.in_ok-value.ensures) c.in_err-take.ensures)

pub returns : goal.returns
returns g c = group_ends (right (g.T.ParseView.view c.in_ok-value.value)) (closed right (read g.T.Parse.grammar c.args.reader.now)) c.parse.new.self c.take.new.self (ap (closed right) c.in_ok-value.ensures) c.in_ok-take.ensures.0 c.in_ok-take.ensures.1
