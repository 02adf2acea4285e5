use Rattle.std.proofs.Common.{◌≡◌, ◌∙◌, ap, sym, refl, length, map, take, drop}
use Rattle.comp_model.specs.Model as m
use Rattle.text_rules.specs.Rule.{a_part}
use Rattle.text_rules.specs.Made.{first_leaf}
use Rattle.comp_tree.specs.Model.{leaf_of}
use Rattle.comp_tree.specs.declared.tree.Leaf as l
use Rattle.comp_tree.proofs.Leaves.{leaf_present}
use Rattle.tree_build.specs.Held.{held, loose}
use Rattle.tree_build.proofs.Slices.{take_map, drop_map}
use Rattle.tree_build.proofs.Wrapped.{leaf_made, leaf_wrapped}
use Rattle.tree_build.proofs.wraps.wrap_part.Goals as goal

pub returns-in-Ok-first_part : goal.returns-in-Ok-first_part
returns-in-Ok-first_part c = leaf_made a_part _ c.leaf.result c.args.scratch.now (record c.args.scratch.now { leaves = c.take_leaves.new.leaves; cores = c.take_leaves.new.cores }) c.leaf.new.self (λ fs cs. loose fs cs (l.Present c.in-Ok-first_part.part)) c.in-Ok.ensures.grows c.leaf.ensures
    (λ fs cs h a z.
    leaf_wrapped a (held fs cs c.args.scratch.now) _ (loose fs cs (l.Present c.in-Ok-first_part.part)) _
    (ap (λ x. record (held fs cs c.args.scratch.now) { leaves = x })
    (ap (map (loose fs cs)) c.in-Ok.ensures.rest ∙ (take_map (loose fs cs) c.args.leaves c.args.scratch.now.leaves.items ∙ ap (λ k. take k (map (loose fs cs) c.args.scratch.now.leaves.items)) (sym z))))
    (leaf_present cs c.in-Ok-first_part.part ∙ ap m.present (c.in-Ok-first_part.ensures cs ∙ ap first_leaf (c.in-Ok.ensures.taken fs cs h ∙ (drop_map (loose fs cs) c.args.leaves c.args.scratch.now.leaves.items ∙ ap (λ k. drop k (map (loose fs cs) c.args.scratch.now.leaves.items)) (sym z))))))
