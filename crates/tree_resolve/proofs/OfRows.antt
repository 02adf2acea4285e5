-- In a component that is written by the table of rows scopes stand alone, so each of its expansions is what is asked for.
use Rattle.std.proofs.Common.{◌≡◌, Bool, true, false, ◌&&◌, ◌||◌, not, refl, sym, List, [], ◌∷◌, true≢false}
use Rattle.comp_model.specs.declared.row.Row.TheVariants as rows
use Rattle.comp_model.specs.declared.row.Row.{Row}
use Rattle.comp_model.specs.RowNumbers.{is_row}
use Rattle.comp_model.specs.Model.{Leaf, ref, present, node, nodes, scope, inline, bundle, Leaves, no_leaf, ◌▸◌, row, Nodes, no_node, one_node, define, Defs, no_def, one_def, Scope, scope_of}
use Rattle.comp_model.specs.declared.row.ScopeKind.{ScopeKind}
use Rattle.comp_model.specs.Rows.{Shape, an_option, a_node, a_list, a_scope, leaves_of, the_option, rows_of_node, rows_of_list, has_scope, ShapedLeaf, ShapedLeaves, ShapedNodes, ShapedDefs, FitsRows}
use Rattle.comp_model.specs.Written.{IsWritten}
use Rattle.comp_scopes.specs.Rowed.{holds_scope, leaf_holds_scope, nodes_hold_scope}
use Rattle.comp_scopes.proofs.Among.{all, among}
use Rattle.comp_scopes.proofs.RowsRowed.{scope-rowed}
use Rattle.comp_expanded.specs.OfText.{OfText}
use Rattle.comp_expanded.specs.Expands.{Expands}
use Rattle.comp_expanded.specs.ListMarks.{ListMarks}
use Rattle.tree_resolve.specs.Alone.{Sole, LeavesAlone, LeafAlone, NodesAlone, DefsAlone, ScopesAlone}
use Rattle.tree_resolve.specs.Source.{IsSource}
use Rattle.tree_resolve.proofs.StaysAlone.{sole-none}

-- ---- two tests of the table

-- the rows that hold a scope
abbrev scope_rows : List Row
scope_rows = rows.Component ∷ rows.ComponentType ∷ rows.InstanceType ∷ rows.ModuleType ∷ []

abbrev none_scoped : List Row → Bool
none_scoped ts = all (λ t. not (is_row t scope_rows)) ts

-- no scope stands in what has this shape
abbrev plain : Shape → Bool
plain (a_scope k) = false
plain (an_option s) = plain s
plain (a_node ts) = none_scoped ts
plain (a_list ts) = none_scoped ts
plain _ = true

abbrev all_plain : List Shape → Bool
all_plain [] = true
all_plain (s ∷ ss) = plain s && all_plain ss

-- a scope and nothing else, or none
abbrev alone : List Shape → Bool
alone (a_scope k ∷ []) = true
alone ss = all_plain ss

rows-alone : (t : Row) → alone (leaves_of t) ≡ true
rows-alone rows.CoreModule = refl
rows-alone _ = refl

rows-plain : (t : Row) → (is_row t scope_rows || all_plain (leaves_of t)) ≡ true
rows-plain rows.CoreModule = refl
rows-plain _ = refl

-- ---- what has a plain shape

and-both : (a b : Bool) → (a && b) ≡ true → (a ≡ true) × (b ≡ true)
and-both true b h = (refl, h)
and-both false b h = absurd (cc)

rw-or : (a b : Bool) → a ≡ false → b ≡ false → (a || b) ≡ false
rw-or true b h g = absurd (cc)
rw-or false b h g = g

or-left-out : (a b : Bool) → a ≡ false → (a || b) ≡ true → b ≡ true
or-left-out true b h g = absurd (cc)
or-left-out false b h g = g

not-true : (b : Bool) → not b ≡ true → b ≡ false
not-true true h = absurd (cc)
not-true false h = refl

row-plain : (t : Row) (ts : List Row) → is_row t ts ≡ true → none_scoped ts ≡ true → all_plain (leaves_of t) ≡ true
row-plain t ts h g = or-left-out (is_row t scope_rows) (all_plain (leaves_of t)) (not-true (is_row t scope_rows) (among (λ u. not (is_row u scope_rows)) t ts h g)) (rows-plain t)

node-rows : (s : Shape) → plain s ≡ true → none_scoped (rows_of_node s) ≡ true
node-rows (a_node ts) h = h
node-rows _ h = refl

list-rows : (s : Shape) → plain s ≡ true → none_scoped (rows_of_list s) ≡ true
list-rows (a_list ts) h = h
list-rows _ h = refl

option-plain : (s : Shape) → plain s ≡ true → plain (the_option s) ≡ true
option-plain (an_option s) h = h
option-plain s h = h

scope-plain : (s : Shape) (k : ScopeKind) → has_scope s k ≡ true → plain s ≡ true → ⊥
scope-plain (a_scope j) k h g = true≢false (sym g)
scope-plain s k h g = true≢false (sym h)

mutual
  plain-leaves : (ls : Leaves) (ss : List Shape) → ShapedLeaves ls ss → all_plain ss ≡ true → holds_scope ls ≡ false
  plain-leaves no_leaf ss f h = refl
  plain-leaves (l ▸ ls) [] f h = absurd f
  plain-leaves (l ▸ ls) (s ∷ ss) f h =
      let both : (plain s ≡ true) × (all_plain ss ≡ true) = and-both (plain s) (all_plain ss) h in
      rw-or (leaf_holds_scope l) (holds_scope ls) (plain-leaf l s f.0 both.0) (plain-leaves ls ss f.1 both.1)

  plain-leaf : (l : Leaf) (s : Shape) → ShapedLeaf l s → plain s ≡ true → leaf_holds_scope l ≡ false
  plain-leaf (present l) s f h = plain-leaf l (the_option s) f.1 (option-plain s h)
  plain-leaf (node (row t ls)) s f h = plain-leaves ls (leaves_of t) f.1 (row-plain t (rows_of_node s) f.0 (node-rows s h))
  plain-leaf (nodes ns) s f h = plain-nodes ns (rows_of_list s) f.1 (list-rows s h)
  plain-leaf (scope (scope_of k id label ds)) s f h = absurd (scope-plain s k f.0 h)
  plain-leaf l s f h = refl

  plain-nodes : (ns : Nodes) (ts : List Row) → ShapedNodes ns ts → none_scoped ts ≡ true → nodes_hold_scope ns ≡ false
  plain-nodes no_node ts f h = refl
  plain-nodes (one_node (row t ls) ns) ts f h =
      rw-or (holds_scope ls) (nodes_hold_scope ns) (plain-leaves ls (leaves_of t) f.1 (row-plain t ts f.0 h)) (plain-nodes ns ts f.2 h)

-- ---- scopes stand alone

scope-sole : (l : Leaf) (k : ScopeKind) → ShapedLeaf l (a_scope k) → Sole (l ▸ no_leaf)
scope-sole (scope s) k f = tt
scope-sole (present l) k f = absurd (true≢false (sym f.0))
scope-sole (node (row t ls)) k f = absurd (true≢false (sym f.0))
scope-sole (nodes ns) k f = absurd (true≢false (sym f.0))
scope-sole l k f = refl

sole : (ls : Leaves) (ss : List Shape) → ShapedLeaves ls ss → alone ss ≡ true → Sole ls
sole no_leaf ss f h = refl
sole (l ▸ ls) [] f h = absurd f
sole (l ▸ no_leaf) (a_scope k ∷ []) f h = scope-sole l k f.0
sole (l ▸ m ▸ ls) (a_scope k ∷ []) f h = absurd f.1
sole ls ss f h = sole-none ls (plain-leaves ls ss f h)

row-sole : (t : Row) (ls : Leaves) → ShapedLeaves ls (leaves_of t) → Sole ls
row-sole t ls f = sole ls (leaves_of t) f (rows-alone t)

mutual
  leaves-alone : (ls : Leaves) (ss : List Shape) → ShapedLeaves ls ss → LeavesAlone ls
  leaves-alone no_leaf ss f = tt
  leaves-alone (l ▸ ls) [] f = absurd f
  leaves-alone (l ▸ ls) (s ∷ ss) f = (leaf-alone l s f.0, leaves-alone ls ss f.1)

  leaf-alone : (l : Leaf) (s : Shape) → ShapedLeaf l s → LeafAlone l
  leaf-alone (ref r (inline (row t ls))) s f = (row-sole t ls f.1.1, leaves-alone ls (leaves_of t) f.1.1)
  leaf-alone (ref r (bundle (row t ls))) s f = (row-sole t ls f.1.1, leaves-alone ls (leaves_of t) f.1.1)
  leaf-alone (present l) s f = leaf-alone l (the_option s) f.1
  leaf-alone (node (row t ls)) s f = leaves-alone ls (leaves_of t) f.1
  leaf-alone (nodes ns) s f = nodes-alone ns (rows_of_list s) f.1
  leaf-alone (scope (scope_of k id label ds)) s f = defs-alone ds k f.1
  leaf-alone l s f = tt

  nodes-alone : (ns : Nodes) (ts : List Row) → ShapedNodes ns ts → NodesAlone ns
  nodes-alone no_node ts f = tt
  nodes-alone (one_node (row t ls) ns) ts f = (leaves-alone ls (leaves_of t) f.1, nodes-alone ns ts f.2)

  defs-alone : (ds : Defs) (k : ScopeKind) → ShapedDefs ds k → DefsAlone ds
  defs-alone no_def k f = tt
  defs-alone (one_def (define names (row t ls)) ds) k f = ((row-sole t ls f.1, leaves-alone ls (leaves_of t) f.1), defs-alone ds k f.2)

pub rows-scopes-alone : (s : Scope) → FitsRows s → ScopesAlone s
rows-scopes-alone (scope_of k id label ds) f = defs-alone ds k f

pub expansion-source : (s x : Scope) (os : ListMarks) → FitsRows s → IsWritten s → OfText s → Expands s x os → IsSource s x os
expansion-source s x os f w t e = record { rowed = scope-rowed s f w; alone = rows-scopes-alone s f; of_text = t; expands = e }
