-- The definitions that pass as resolved are resolved.
use Rattle.std.proofs.Common.{◌≡◌, Bool, true, false, ◌&&◌, refl, ap, ◌∙◌}
use Rattle.comp_model.specs.Model as m
use Rattle.comp_model.specs.Model.{Leaf, Leaves, no_leaf, ◌▸◌, row, Nodes, no_node, one_node, define, Defs, no_def, one_def, scope_of}
use Rattle.comp_model.specs.Events.{told_leaf, told_leaves, told_nodes, told_defs, enters_all}
use Rattle.comp_expanded.specs.IsResolved.{LeafResolved, LeavesResolved, NodesResolved, DefsResolved}
use Rattle.comp_model.specs.Core.{ref_name, named}
use Rattle.comp_walks.specs.Shapes.{are_none, all_pass, is_resolved_event}
use Rattle.comp_walks.proofs.Passing.{left, right, refused, refused-here, none, are-none}

mutual
  leaves-pass : (ls : Leaves) (b : Bool) → told_leaves (all_pass is_resolved_event) enters_all ls b ≡ true → (b ≡ true) × LeavesResolved ls
  leaves-pass no_leaf b h = (h, tt)
  leaves-pass (l ▸ ls) b h =
      let r = leaves-pass ls (told_leaf (all_pass is_resolved_event) enters_all l b) h in
      let q = leaf-passes l b r.0 in
      (q.0, (q.1, r.1))

  leaf-passes : (l : Leaf) (b : Bool) → told_leaf (all_pass is_resolved_event) enters_all l b ≡ true → (b ≡ true) × LeafResolved l
  leaf-passes (m.ref s (m.inline (row t ls))) b h = absurd (refused b (leaves-pass ls ((b && false) && true) (left (told_leaves (all_pass is_resolved_event) enters_all ls ((b && false) && true)) _ h)).0)
  leaf-passes (m.ref s (m.bundle (row t ls))) b h = absurd (refused b (leaves-pass ls ((b && false) && true) (left (told_leaves (all_pass is_resolved_event) enters_all ls ((b && false) && true)) _ h)).0)
  leaf-passes (m.present (m.node (row t ls))) b h = let r = leaves-pass ls ((b && true) && true) h in (left b _ (left (b && true) _ r.0), r.1)
  leaf-passes (m.present l) b h = let r = leaf-passes l (b && true) h in (left b _ r.0, r.1)
  leaf-passes (m.node (row t ls)) b h = let r = leaves-pass ls ((b && true) && true) h in (left b _ (left (b && true) _ r.0), r.1)
  leaf-passes (m.nodes ns) b h = let r = nodes-pass ns (b && true) h in (left b _ r.0, r.1)
  leaf-passes (m.scope (scope_of k id label ds)) b h =
      let r = defs-pass ds ((b && true) && true) (left (told_defs (all_pass is_resolved_event) enters_all ds ((b && true) && true)) _ h) in
      (left b _ (left (b && true) _ r.0), r.1)
  leaf-passes (m.core_value (ref_name v r x)) b h = absurd (refused-here b h)
  leaf-passes (m.ref s (m.name r x)) b h = absurd (refused-here b h)
  leaf-passes (m.ref s (m.path p)) b h = absurd (refused-here b h)
  leaf-passes (m.place (named o x)) b h = absurd (refused-here b h)
  leaf-passes l b h = (left b _ h, tt)

  nodes-pass : (ns : Nodes) (b : Bool) → told_nodes (all_pass is_resolved_event) enters_all ns b ≡ true → (b ≡ true) × NodesResolved ns
  nodes-pass no_node b h = (h, tt)
  nodes-pass (one_node (row t ls) ns) b h =
      let r = nodes-pass ns (told_leaves (all_pass is_resolved_event) enters_all ls (b && true)) h in
      let q = leaves-pass ls (b && true) r.0 in
      (left b _ q.0, (q.1, r.1))

  pub defs-pass : (ds : Defs) (b : Bool) → told_defs (all_pass is_resolved_event) enters_all ds b ≡ true → (b ≡ true) × DefsResolved ds
  defs-pass no_def b h = (h, tt)
  defs-pass (one_def (define names (row t ls)) ds) b h =
      let x : Bool = (b && are_none names.exports) && true in
      let r = defs-pass ds (told_leaves (all_pass is_resolved_event) enters_all ls x && true) h in
      let q = leaves-pass ls x (left (told_leaves (all_pass is_resolved_event) enters_all ls x) _ r.0) in
      let n = left (b && are_none names.exports) _ q.0 in
      (left b _ n, (none names.exports (right b _ n), q.1, r.1))

mutual
  leaves-all : (ls : Leaves) → LeavesResolved ls → told_leaves (all_pass is_resolved_event) enters_all ls true ≡ true
  leaves-all no_leaf x = refl
  leaves-all (l ▸ ls) x = ap (told_leaves (all_pass is_resolved_event) enters_all ls) (leaf-all l x.0) ∙ leaves-all ls x.1

  leaf-all : (l : Leaf) → LeafResolved l → told_leaf (all_pass is_resolved_event) enters_all l true ≡ true
  leaf-all (m.ref s (m.inline (row t ls))) x = absurd x
  leaf-all (m.ref s (m.bundle (row t ls))) x = absurd x
  leaf-all (m.present (m.node (row t ls))) x = leaves-all ls x
  leaf-all (m.present l) x = leaf-all l x
  leaf-all (m.node (row t ls)) x = leaves-all ls x
  leaf-all (m.nodes ns) x = nodes-all ns x
  leaf-all (m.scope (scope_of k id label ds)) x = ap (λ b. b && true) (defs-all ds x)
  leaf-all (m.core_value (ref_name v r y)) x = absurd x
  leaf-all (m.ref s (m.name r y)) x = absurd x
  leaf-all (m.ref s (m.path p)) x = absurd x
  leaf-all (m.place (named o y)) x = absurd x
  leaf-all l x = refl

  nodes-all : (ns : Nodes) → NodesResolved ns → told_nodes (all_pass is_resolved_event) enters_all ns true ≡ true
  nodes-all no_node x = refl
  nodes-all (one_node (row t ls) ns) x = ap (told_nodes (all_pass is_resolved_event) enters_all ns) (leaves-all ls x.0) ∙ nodes-all ns x.1

  pub defs-all : (ds : Defs) → DefsResolved ds → told_defs (all_pass is_resolved_event) enters_all ds true ≡ true
  defs-all no_def x = refl
  defs-all (one_def (define names (row t ls)) ds) x =
      ap (λ b. told_defs (all_pass is_resolved_event) enters_all ds (told_leaves (all_pass is_resolved_event) enters_all ls ((true && b) && true) && true)) (are-none names.exports x.0)
      ∙ ap (λ b. told_defs (all_pass is_resolved_event) enters_all ds (b && true)) (leaves-all ls x.1) ∙ defs-all ds x.2
