use Rattle.std.proofs.Common.{Some, None, cond, sym, ◌∙◌, ap}
use Rattle.comp_tables.specs.Tables.{opened_depth}
use Rattle.comp_walks.specs.Lent.{place_of}
use Rattle.open_scopes.proofs.Stacks.{count-within, count-past}
use Rattle.open_scopes.proofs.scopes.depth_of.Goals as goal

pub returns-then-count-scopes : goal.returns-then-count-scopes
returns-then-count-scopes c = record {
  depth = λ ms offset h. sym (ap (λ p. opened_depth ms (place_of offset p)) c.in-Num.is ∙ ap (λ b. cond b (Some c.in-Num.count) None) (count-within c.args.scopes.now ms c.in-Num.count h c.if-count-scopes.true));
}

pub returns-else-count-scopes : goal.returns-else-count-scopes
returns-else-count-scopes c = record {
  depth = λ ms offset h. sym (ap (λ p. opened_depth ms (place_of offset p)) c.in-Num.is ∙ ap (λ b. cond b (Some c.in-Num.count) None) (count-past c.args.scopes.now ms c.in-Num.count h c.if-count-scopes.false));
}
