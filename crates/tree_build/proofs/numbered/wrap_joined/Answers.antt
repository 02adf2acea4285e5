use Rattle.std.proofs.Common.{◌∙◌, ◌≡◌, ap, refl, length}
use Rattle.text_rules.specs.Rule.{joined}
use Rattle.text_rules.specs.Made.{joined_text}
use Rattle.comp_tree.specs.Model as tree
use Rattle.tree_build.specs.Held.{held, loose}
use Rattle.tree_build.proofs.Wrapping.{rest_is}
use Rattle.tree_build.proofs.Numbering.{joined_held, first_are, adds_made_of, from_nothing}
use Rattle.tree_build.proofs.numbered.wrap_joined.Goals as goal

pub returns : goal.returns
returns c = adds_made_of c.leaf.result joined (λ a. length a.leaves ≡ c.args.leaves) c.args.scratch.now (record c.args.scratch.now { leaves = c.truncate.new.self }) c.leaf.new.self _ refl
    (λ fs cs a l. joined_held a (held fs cs c.args.scratch.now) _ _
    (first_are (loose fs cs) c.args.leaves a.leaves c.args.scratch.now.leaves.items c.truncate.new.self.items c.truncate.ensures.items l)
    (ap tree.joined (c.in_ok-texts.ensures ∙ c.deref-2.ensures.value)
    ∙ (from_nothing c.new-pieces.result.items c.push_texts.new.pieces.items _ c.new-pieces.ensures.items (c.in_ok-push_texts.ensures fs cs)
    ∙ ap joined_text (rest_is (loose fs cs) c.args.leaves a.leaves c.deref.result.now c.args.scratch.now.leaves.items _ refl c.deref.ensures.value l))))
    c.leaf.ensures
