-- Scopes that stand alone in a tree: its marks are one for each definition, and a definition that holds no scope by itself holds none.
use Rattle.std.proofs.Common.{◌≡◌, ℕ, false, refl, List, [], ◌∷◌, true≢false, length}
use Rattle.comp_model.specs.CoreModules.{CoreModule}
use Rattle.comp_model.specs.Model as m
use Rattle.comp_model.specs.Model.{Leaf, present, node, nodes, scope, Leaves, no_leaf, ◌▸◌, row, Nodes, no_node, one_node}
use Rattle.comp_expanded.specs.ListMarks.{Inside}
use Rattle.comp_scopes.specs.Rowed.{holds_scope, leaf_holds_scope, nodes_hold_scope}
use Rattle.comp_tables.specs.InText.{Marked, LeavesMarked, LeafMarked, NodesMarked}
use Rattle.comp_tree.specs.Lists.{listed}
use Rattle.comp_tree.specs.Marks.{inside_leaves, marks_of, marks_of_defs}
use Rattle.comp_tree.specs.Model.{core_at, leaf_of, leaves_of, defs_of, scope_of}
use Rattle.comp_tree.specs.declared.tree.Leaf as l
use Rattle.comp_tree.specs.declared.tree.Scope as s
use Rattle.tree_names.proofs.CoreLeaves.{by_core}
use Rattle.tree_resolve.specs.Alone.{Sole, LeavesAlone, DefsAlone, ScopesAlone}
use Rattle.comp_tables.proofs.OfExpansion.{or-left, or-right}

-- ---- where no scope stands, any marks serve

mutual
  none-marked : (ls : Leaves) (h : Inside) → holds_scope ls ≡ false → LeavesMarked ls h
  none-marked no_leaf h n = tt
  none-marked (x ▸ ls) h n = (none-marked-leaf x h (or-left (leaf_holds_scope x) (holds_scope ls) n), none-marked ls h (or-right (leaf_holds_scope x) (holds_scope ls) n))

  none-marked-leaf : (x : Leaf) (h : Inside) → leaf_holds_scope x ≡ false → LeafMarked x h
  none-marked-leaf (scope (m.scope_of kd id label ds)) h n = absurd (true≢false n)
  none-marked-leaf (present x) h n = none-marked-leaf x h n
  none-marked-leaf (node (row t ls)) h n = none-marked ls h n
  none-marked-leaf (nodes ns) h n = none-marked-nodes ns h n
  none-marked-leaf x h n = tt

  none-marked-nodes : (ns : Nodes) (h : Inside) → nodes_hold_scope ns ≡ false → NodesMarked ns h
  none-marked-nodes no_node h n = tt
  none-marked-nodes (one_node (row t ls) ns) h n = (none-marked ls h (or-left (holds_scope ls) (nodes_hold_scope ns) n), none-marked-nodes ns h (or-right (holds_scope ls) (nodes_hold_scope ns) n))

-- ---- leaves that are no scope by themselves

core-sole : (C : List CoreModule) (n : ℕ) (ls : Leaves) → Sole (core_at C n ▸ ls) → holds_scope (core_at C n ▸ ls) ≡ false
core-sole C n ls = by_core (λ k. Sole (k ▸ ls) → holds_scope (k ▸ ls) ≡ false) (λ h. h) (λ c h. h) C n

module _ (C : List CoreModule) where
  -- a leaf that is no scope, in front of others
  pub plain-sole : (x : l.Leaf) (ls : Leaves) → ((p : _) (y : s.Scope) → x ≡ l.Scope' p y → ⊥) → Sole (leaf_of C x ▸ ls) → holds_scope (leaf_of C x ▸ ls) ≡ false
  plain-sole (l.Scope' p y) ls n h = absurd (n p y refl)
  plain-sole (l.Core k) ls n h = core-sole C k ls h
  plain-sole x ls n h = h

  -- two leaves or more
  two-sole : (x y : l.Leaf) (ls : Leaves) → Sole (leaf_of C x ▸ leaf_of C y ▸ ls) → holds_scope (leaf_of C x ▸ leaf_of C y ▸ ls) ≡ false
  two-sole (l.Scope' p z) y ls h = h
  two-sole (l.Core k) y ls h = core-sole C k (leaf_of C y ▸ ls) h
  two-sole x y ls h = h

  pub many-sole : (xs : List l.Leaf) → (length xs ≡ 1 → ⊥) → Sole (listed C xs) → holds_scope (listed C xs) ≡ false
  many-sole [] n h = refl
  many-sole (x ∷ []) n h = absurd (n refl)
  many-sole (x ∷ y ∷ xs) n h = two-sole x y (listed C xs) h

  -- ---- marks

  mutual
    defs-marked : {k : _} (ds : s.Row_of-Def k) → DefsAlone (defs_of C ds) → Marked (defs_of C ds) (marks_of_defs C ds)
    defs-marked s.end_of-Def a = tt
    defs-marked (s.more_of-Def o places w names r v q h xs rest) a = (leaves-marked xs a.0.0 a.0.1, defs-marked rest a.1)

    leaves-marked : {k : _} (xs : l.Row_of-Leaf k) → Sole (leaves_of C xs) → LeavesAlone (leaves_of C xs) → LeavesMarked (leaves_of C xs) (inside_leaves C xs)
    leaves-marked l.end_of-Leaf n a = tt
    leaves-marked (l.more_of-Leaf (l.Scope' p (s.Scope' k id label q h ds)) l.end_of-Leaf) n a = (defs-marked ds a.0, tt)
    leaves-marked (l.more_of-Leaf (l.Scope' p (s.Scope' k id label q h ds)) (l.more_of-Leaf y ys)) n a = absurd (true≢false n)
    leaves-marked (l.more_of-Leaf (l.Core k) xs) n a = none-marked (core_at C k ▸ leaves_of C xs) (inside_leaves C (l.more_of-Leaf (l.Core k) xs)) (core-sole C k (leaves_of C xs) n)
    leaves-marked (l.more_of-Leaf x xs) n a = none-marked (leaf_of C x ▸ leaves_of C xs) (inside_leaves C (l.more_of-Leaf x xs)) n

  pub tree-marked : (x : s.Scope) → ScopesAlone (scope_of C x) → Marked (m.defs_of (scope_of C x)) (marks_of C x)
  tree-marked (s.Scope' k id label q h ds) a = defs-marked ds a
