use Rattle.std.proofs.Common.{◌∙◌}
use Rattle.comp_list.specs.Open.{scopes_of}
use Rattle.comp_list.proofs.Opens.{no_spot, some_spot, scope_among}
use Rattle.comp_list.proofs.open.spot_at.Goals as goal

pub returns-in-Nothing-clause-spot : goal.returns-in-Nothing-clause-spot
returns-in-Nothing-clause-spot c = λ f. no_spot c.outward.result (scopes_of c.args.around) c.args.up c.outward.ensures.scopes c.args.space c.args.index c.in-Nothing.is

pub returns-in-Scope-clause-spot : goal.returns-in-Scope-clause-spot
returns-in-Scope-clause-spot c = λ f. c.find.ensures ∙ some_spot c.outward.result (scopes_of c.args.around) c.args.up c.outward.ensures.scopes c.args.space c.args.index c.in-Scope.open c.in-Scope.is (c.outward.ensures.found f)

pub returns-in-Scope-clause-inside : goal.returns-in-Scope-clause-inside
returns-in-Scope-clause-inside c = λ e. scope_among c.outward.result (scopes_of c.args.around) c.args.up c.outward.ensures.scopes c.in-Scope.open c.in-Scope.is
