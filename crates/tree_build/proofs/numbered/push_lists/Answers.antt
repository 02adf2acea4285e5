use Rattle.std.proofs.Common.{◌∙◌, ◌++◌, ◌∷◌, [], ◌+◌, ◌-◌, ap, sym, map, append_assoc}
use Rattle.text_rules.specs.Made.{numbered_lists}
use Rattle.comp_tree.specs.Lists.{node_of}
use Rattle.tree_build.specs.Held.{loose}
use Rattle.tree_build.proofs.Numbering.{lists_next}
use Rattle.tree_build.proofs.numbered.push_lists.Goals as goal

pub lists-preserved : goal.lists-preserved
lists-preserved c = λ fs cs.
    let ns = map (node_of cs) c.args.nodes.now in
    let rest = numbered_lists (c.lists.number + 1) (c.args.lists - (c.lists.number + 1)) ns in
    ap (λ us. us ++ rest) (c.in-Ok.ensures fs cs)
    ∙ (append_assoc (map (loose fs cs) c.lists.leaves.items) (_ ∷ []) rest
    ∙ (ap (λ us. map (loose fs cs) c.lists.leaves.items ++ us) (sym (lists_next c.lists.number c.args.lists ns c.lists-test.true)) ∙ c.lists.invariant fs cs))
