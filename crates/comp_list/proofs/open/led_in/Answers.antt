use Rattle.std.proofs.Common.{sym, ◌∙◌}
use Rattle.comp_list.specs.Open.{scopes_of}
use Rattle.comp_list.proofs.Opens.{led_nowhere, led_here}
use Rattle.comp_list.proofs.open.led_in.Goals as goal

pub returns-in-Nothing : goal.returns-in-Nothing
returns-in-Nothing c = λ f. led_nowhere (scopes_of c.args.around) c.args.up c.outward.result c.outward.ensures.scopes c.in-Nothing.is c.args.spot

pub returns-in-Scope : goal.returns-in-Scope
returns-in-Scope c = λ f.
    c.led_by.ensures f
    ∙ c.alias_at.ensures (scopes_of c.args.around) c.args.up
    ∙ sym (led_here (scopes_of c.args.around) c.args.up c.outward.result c.outward.ensures.scopes c.in-Scope.open c.in-Scope.is c.args.spot c.in-Some.spot c.in-Some.is)
