use Rattle.std.proofs.Common.{◌≡◌, ◌∙◌, ap, sym, refl, length, map, take, ◌++◌, ◌∷◌, []}
use Rattle.text_rules.specs.Made.{behind, node_made}
use Rattle.comp_tree.specs.Lists.{node_of}
use Rattle.tree_build.specs.Held.{held}
use Rattle.tree_build.proofs.Prefixes.{map_more}
use Rattle.tree_build.proofs.Taken.{node_at, entry_held}
use Rattle.tree_build.proofs.Wrapped.{entry_wrapped}
use Rattle.tree_build.proofs.wraps.wrap_entry.Goals as goal

pub returns-in-Ok-push : goal.returns-in-Ok-push
returns-in-Ok-push c = (
  c.in-Ok.ensures.0,
  λ fs cs h a z.
      let x = node_at c.args.rows c.args.leaves c.in-Ok.node c.args.scratch.now c.take_node.new.scratch fs cs a z.0 z.1 (c.in-Ok.ensures.1 fs cs h) in
      entry_wrapped a (held fs cs c.args.scratch.now) _
      (entry_held (held fs cs c.take_node.new.scratch) _ (map (node_of cs) c.push.new.self.items) _ x.rest
      (ap (map (node_of cs)) c.in-Ok-push.ensures.items ∙ (map_more (node_of cs) c.take_node.new.scratch.nodes.items (c.in-Ok.node ∷ []) ∙ ap (λ y. map (node_of cs) c.take_node.new.scratch.nodes.items ++ (y ∷ [])) x.node))),
)
