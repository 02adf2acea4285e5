use Rattle.std.proofs.Common.{Some, None, option_map, cond, sym, ◌∙◌, ap}
use Rattle.comp_model.specs.Core.{at_place}
use Rattle.comp_scopes.specs.Unmet.{unmet, unknown, outer_count}
use Rattle.comp_tables.specs.Built.{missing_name}
use Rattle.comp_walks.specs.Lent.{id_of, place_of}
use Rattle.open_scopes.specs.Refusals.{refusal_of}
use Rattle.open_scopes.proofs.Stacks.{count-within, count-past}
use Rattle.open_scopes.proofs.demands.missing_at.Goals as goal

pub returns-then-count-scopes : goal.returns-then-count-scopes
returns-then-count-scopes c = λ ms h.
    ap (λ e. Some e) c.unknown.ensures
    ∙ sym (ap (λ p. option_map refusal_of (missing_name ms (at_place (place_of c.args.alias.offset p)) (id_of c.args.id) None)) c.in-Num.is
    ∙ ap (λ b. option_map refusal_of (cond b (unmet unknown c.args.id.span.offset) (unmet outer_count c.args.alias.offset))) (count-within c.args.scopes.now ms c.in-Num.count h c.if-count-scopes.true))

pub returns-else-count-scopes : goal.returns-else-count-scopes
returns-else-count-scopes c = λ ms h.
    sym (ap (λ p. option_map refusal_of (missing_name ms (at_place (place_of c.args.alias.offset p)) (id_of c.args.id) None)) c.in-Num.is
    ∙ ap (λ b. option_map refusal_of (cond b (unmet unknown c.args.id.span.offset) (unmet outer_count c.args.alias.offset))) (count-past c.args.scopes.now ms c.in-Num.count h c.if-count-scopes.false))
