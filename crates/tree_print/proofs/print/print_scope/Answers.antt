use Rattle.wire_tree.specs.Model.{scope_of}
use Rattle.tree_print.proofs.Causes.{passes}
use Rattle.tree_print.proofs.print.print_scope.Goals as goal

pub returns-in-Ok-text_of-clause-printable : goal.returns-in-Ok-text_of-clause-printable
returns-in-Ok-text_of-clause-printable c = λ fits.
    let b = scope_of c.args.scope.now in
    let p = passes b c.in-Ok.ensures in
    c.passing_is_printable.ensures b fits c.texts_are_bytes.ensures p.0 p.1
