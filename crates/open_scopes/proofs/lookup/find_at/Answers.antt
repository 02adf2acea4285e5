use Rattle.std.proofs.Common.{sym, ◌∙◌, ap, option_map}
use Rattle.comp_walks.specs.Lent.{id_of}
use Rattle.open_scopes.proofs.Stacks.{at-nowhere, at-found, indexed-here}
use Rattle.open_scopes.proofs.lookup.find_at.Goals as goal

pub returns-then-depth-scopes-clause-found : goal.returns-then-depth-scopes-clause-found
returns-then-depth-scopes-clause-found c = at-nowhere c.args.scopes.now c.args.space (id_of c.args.id) c.args.depth c.if-depth-scopes.true

pub returns-in-Some-clause-found : goal.returns-in-Some-clause-found
returns-in-Some-clause-found c = λ ms h.
    ap (option_map (λ i. record { depth = c.args.depth; item = i })) (sym c.in-Some.is)
    ∙ at-found c.args.scopes.now c.args.space (id_of c.args.id) c.args.depth c.scope_at.result.now c.find.result c.scope_at.ensures c.find.ensures ms h

pub returns-in-Some-clause-indexed : goal.returns-in-Some-clause-indexed
returns-in-Some-clause-indexed c = indexed-here c.args.scopes.now c.scope_at.result.now c.args.depth c.in-Some.item c.args.space (id_of c.args.id) c.scope_at.ensures (sym c.find.ensures ∙ c.in-Some.is)

pub returns-in-None-clause-found : goal.returns-in-None-clause-found
returns-in-None-clause-found c = λ ms h.
    ap (option_map (λ i. record { depth = c.args.depth; item = i })) (sym c.in-None.is)
    ∙ at-found c.args.scopes.now c.args.space (id_of c.args.id) c.args.depth c.scope_at.result.now c.find.result c.scope_at.ensures c.find.ensures ms h
