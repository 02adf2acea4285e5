use Rattle.std.proofs.Common.{[], sym, ap, ◌∙◌}
use Rattle.comp_model.specs.Model.{no_def}
use Rattle.wire_tree.specs.Lists.{defs_listed}
use Rattle.wire_tree.specs.Model.{scope_of}
use Rattle.wire_tree.specs.declared.tree.Scope.{out-Scope}
use Rattle.comp_order.specs.Order.{defs_verdicts, first_fault}
use Rattle.comp_order.specs.Pass.{capped_order}
use Rattle.comp_order.proofs.Counted.{number_kept}
use Rattle.comp_order.proofs.Parts.{scope_inside}
use Rattle.comp_order.proofs.Passing.{ordered_all, ordered_until}
use Rattle.comp_order.proofs.scope_order.order_scope.Goals as goal

pub returns-in-Ok : goal.returns-in-Ok
returns-in-Ok c =
    let any =
    ordered_all c.in-Ok._line (defs_verdicts (defs_listed (out-Scope c.args.scope.now).defs.now) [] no_def) (c.in-Ok.ensures [] tt)
    ∙ ap (λ vs. capped_order (first_fault 0 vs)) (sym (scope_inside [] c.args.scope.now)) in
    record { of_any = any; of_read = λ bytes small reads. any ∙ number_kept bytes (scope_of c.args.scope.now) small reads }

pub returns-in-Err : goal.returns-in-Err
returns-in-Err c =
    let any =
    ordered_until c.in-Err.order (defs_verdicts (defs_listed (out-Scope c.args.scope.now).defs.now) [] no_def) (c.in-Err.ensures [] tt)
    ∙ ap (λ vs. capped_order (first_fault 0 vs)) (sym (scope_inside [] c.args.scope.now)) in
    record { of_any = any; of_read = λ bytes small reads. any ∙ number_kept bytes (scope_of c.args.scope.now) small reads }
