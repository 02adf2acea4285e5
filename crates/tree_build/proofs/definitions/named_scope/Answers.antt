use Rattle.std.proofs.Common.{◌∙◌, ap, sym}
use Rattle.std.specs.Prelude.{option_map}
use Rattle.comp_model.specs.Model as m
use Rattle.comp_tree.specs.Model.{id_of, lent_text, scope_of}
use Rattle.comp_tree.specs.Lists.{defs_listed}
use Rattle.comp_tree.specs.declared.tree.Scope as s
use Rattle.comp_tree.proofs.Leaves.{scope_made}
use Rattle.tree_build.proofs.Scopes.{scope_owned}
use Rattle.tree_build.proofs.definitions.named_scope.Goals as goal

pub returns-in-Ok : goal.returns-in-Ok
returns-in-Ok c = λ cs.
    ap (λ x. m.scope (scope_of cs x)) c.in-Ok.ensures
    ∙ (ap m.scope (scope_made cs (s.out-Scope c.args.scope.now).kind c.args.id c.scope_label-label.result (s.out-Scope c.args.scope.now).defs)
    ∙ (ap (λ l. m.scope (m.scope_of (s.out-Scope c.args.scope.now).kind (option_map id_of c.args.id) l (defs_listed cs (s.out-Scope c.args.scope.now).defs.now))) c.scope_label-label.ensures
    ∙ scope_owned cs (option_map id_of c.args.id) (option_map lent_text c.args.label) c.args.scope.now))
