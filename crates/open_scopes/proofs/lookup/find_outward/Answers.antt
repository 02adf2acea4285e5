use Rattle.std.proofs.Common.{sym, ◌∙◌}
use Rattle.comp_walks.specs.Lent.{id_of}
use Rattle.open_scopes.proofs.Stacks.{outward-passed, outward-here, outward-nowhere, indexed-here}
use Rattle.open_scopes.proofs.lookup.find_outward.Goals as goal

pub returns-in-Some-clause-found : goal.returns-in-Some-clause-found
returns-in-Some-clause-found c = outward-here c.args.scopes.now c.args.space (id_of c.args.id) c.loop-depth.depth c.scope_at.result.now c.in-Some.item c.scope_at.ensures (sym c.at.ensures ∙ c.in-Some.is) c.loop-depth.invariant

pub returns-in-Some-clause-indexed : goal.returns-in-Some-clause-indexed
returns-in-Some-clause-indexed c = indexed-here c.args.scopes.now c.scope_at.result.now c.loop-depth.depth c.in-Some.item c.args.space (id_of c.args.id) c.scope_at.ensures (sym c.at.ensures ∙ c.in-Some.is)

pub loop-depth-preserved : goal.loop-depth-preserved
loop-depth-preserved c = outward-passed c.args.scopes.now c.args.space (id_of c.args.id) c.loop-depth.depth c.scope_at.result.now c.scope_at.ensures (sym c.at.ensures ∙ c.in_default.is) c.loop-depth.invariant

pub returns-clause-found : goal.returns-clause-found
returns-clause-found c = outward-nowhere c.args.scopes.now c.args.space (id_of c.args.id) c.loop-depth.depth c.loop-depth-test.false c.loop-depth.invariant

pub at-requires : goal.at-requires
at-requires c = record { key = c.key_of-key.ensures }
