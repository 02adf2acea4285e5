use Rattle.std.proofs.Common.{◌≡◌, sym, ap, ◌∙◌, subst, OnOk}
use Rattle.wire_tree.specs.declared.tree.Scope.{out-Scope}
use Rattle.wire_tree.specs.Lists.{defs_listed}
use Rattle.print_table.specs.TextOf.{definitions_tokens, unnamed_defs}
use Rattle.tree_print.specs.Taken.{taken, put}
use Rattle.tree_print.proofs.Walks.{grouped}
use Rattle.tree_print.proofs.Whole.{whole_tokens}
use Rattle.tree_print.proofs.component.put_component.Goals as goal

pub returns : goal.returns
returns c =
    let x = out-Scope c.args.scope.now in
    let start = taken c.args.printer.now in
    subst (λ q. OnOk c.put-2.result (taken c.put-2.new.self ≡ q))
    (grouped "component" (definitions_tokens x.kind (unnamed_defs (defs_listed x.defs.now))) start _ _ _ c.in_ok-put.ensures c.in_ok-put_word.ensures c.in_ok-put_definitions.ensures
    ∙ ap (λ xs. put xs start) (sym (whole_tokens c.args.scope.now))) c.put-2.ensures
