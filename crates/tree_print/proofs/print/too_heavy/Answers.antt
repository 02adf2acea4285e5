use Rattle.std.proofs.Common.{◌∙◌, refl}
use Rattle.comp_model.specs.Weight.{weight}
use Rattle.wire_tree.specs.Model.{scope_of}
use Rattle.print_table.specs.TextOf.{unnamed}
use Rattle.tree_print.specs.Cause.{too_deep}
use Rattle.print_table.specs.Depths.{is_deep}
use Rattle.tree_print.proofs.print.too_heavy.Goals as goal

pub returns-in-Some : goal.returns-in-Some
returns-in-Some c =
    let b = scope_of c.args.scope.now in
    c.in-Some.ensures.some (weight (λ m. 0) (unnamed b)) (too_deep (is_deep b)) (c.printed_weight.ensures (λ m. 0))

pub returns-in-None : goal.returns-in-None
returns-in-None c =
    let b = scope_of c.args.scope.now in
    c.too_deep.ensures ∙ c.in-None.ensures.none (weight (λ m. 0) (unnamed b)) (too_deep (is_deep b)) (c.printed_weight.ensures (λ m. 0)) refl
