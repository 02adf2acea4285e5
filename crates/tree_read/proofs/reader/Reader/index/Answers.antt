use Rattle.std.proofs.Common.{◌∙◌, ap, sym, subst}
use Rattle.token_codes.specs.Numbers.{number}
use Rattle.wast_grammar.specs.Grammar.{num}
use Rattle.wast_parser.specs.View.{id_view}
use Rattle.tree_read.specs.Comes.{TookIndex}
use Rattle.tree_read.proofs.Refusals.{passed, no_index, no_id}
use Rattle.tree_read.proofs.Tokens.{id_by_number, no_id_by_number}
use Rattle.wast_grammar.specs.Stand.{class_at}
use Rattle.tree_read.proofs.reader.Reader.index.Goals as goal

pub returns-in_err-id : goal.returns-in_err-id
returns-in_err-id c = no_id id_view c.in_err-id.field-0.0 c.args.self.now c.id.new.self (id_by_number _ (class_at c.args.self.now) (c.self.invariant.0 ∙ ap (λ s. number (class_at s)) c.self.view_is) c.if-self-eq-ID.true) c.in_err-id.ensures

pub returns-in_err-number : goal.returns-in_err-number
returns-in_err-number c =
    subst (λ r. TookIndex r c.args.self.now c.count.new.self) (sym (passed c.from_residual-in_err-number.result c.in_err-number.field-0.0 c.from_residual-in_err-number.ensures.1 (λ y k. k)))
    (no_index num c.in_err-number.field-0.0 c.args.self.now c.count.new.self (no_id_by_number _ (class_at c.args.self.now) (c.self.invariant.0 ∙ ap (λ s. number (class_at s)) c.self.view_is) c.if-self-eq-ID.false) c.in_err-number.ensures)
