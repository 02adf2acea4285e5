use Rattle.std.proofs.Common.{[], ap, ◌∙◌}
use Rattle.item_tree.specs.Model.{component_of}
use Rattle.comp_order.specs.Pass.{pass}
use Rattle.comp_order.proofs.Counted.{number_kept}
use Rattle.comp_order.proofs.Held.{tree_verdicts}
use Rattle.comp_order.proofs.Passing.{ordered_all, ordered_until}
use Rattle.comp_order.proofs.tree_order.order.Goals as goal

pub returns-in-Ok : goal.returns-in-Ok
returns-in-Ok c =
    let any = ordered_all c.in-Ok._line (tree_verdicts c.args.tree.now.defs []) (c.in-Ok.ensures [] tt ∙ ap (λ ds. pass 0 (tree_verdicts ds [])) c.as_slice.ensures.same_items) in
    record { of_any = any; of_read = λ bytes small reads. any ∙ number_kept bytes (component_of c.args.tree.now) small reads }

pub returns-in-Err : goal.returns-in-Err
returns-in-Err c =
    let any = ordered_until c.in-Err.order (tree_verdicts c.args.tree.now.defs []) (c.in-Err.ensures [] tt ∙ ap (λ ds. pass 0 (tree_verdicts ds [])) c.as_slice.ensures.same_items) in
    record { of_any = any; of_read = λ bytes small reads. any ∙ number_kept bytes (component_of c.args.tree.now) small reads }
