-- By the table of rows a component or a core module is the one leaf of its definition; so its own names weigh there.
use Rattle.std.proofs.Common.{◌≡◌, ℕ, ◌+◌, ◌≤◌, List, [], ◌∷◌, refl, subst, ap, arith, Bool, true, false, ◌&&◌, not, Option}
use Rattle.comp_model.specs.declared.Space.{Space}
use Rattle.comp_model.specs.declared.Space.TheVariants.{CoreFunc}
use Rattle.comp_model.specs.declared.row.Row.TheVariants as rows
use Rattle.comp_model.specs.declared.row.Row.{Row}
use Rattle.comp_model.specs.RowNumbers.{same_row, is_row}
use Rattle.comp_model.specs.Core.{Text, Id, CoreValue, ref_index, ref_numeral}
use Rattle.comp_model.specs.Model.{Leaf, number, core_value, ref, place, present, node, nodes, result_count, core_source, module_bytes, scope, index, numeral, path, inline, bundle, Leaves, no_leaf, ◌▸◌, row, Nodes, no_node, one_node, Names, define, Defs, no_def, one_def, scope_of}
use Rattle.comp_model.specs.declared.row.ScopeKind.{ScopeKind}
use Rattle.comp_model.specs.declared.row.ScopeKind.TheVariants as kinds
use Rattle.comp_model.specs.Rows.{Shape, a_text, an_argument, a_core_argument, a_node, a_list, an_option, the_module, a_scope, inline_rows, bundle_rows, leaves_of, the_option, is_optional, is_module, rows_of_node, rows_of_list, has_scope, ShapedLeaf, ShapedLeaves, ShapedNodes, ShapedDefs}
use Rattle.comp_model.specs.Weight.{weight_of_all, weight_of_id, weight_of_label, weight_of_names}
use Rattle.comp_model.proofs.Tests.{same_row-true}
use Rattle.comp_model.specs.ItemNames.{first_or_none}
use Rattle.comp_scopes.specs.Rowed.{DefsRowed, LeavesRowed, LeafRowed, NodesRowed}
use Rattle.comp_wire.proofs.Groups.{and_both}
use Rattle.comp_weight.proofs.Fair.{HasLeaf, own_length, held_names, held_names_of, held_names_in, FairValue, FairLeaf, FairLeaves, FairNodes, FairDefs}
use Rattle.comp_weight.specs.Numerals.{NumeralValue, NumeralLeaf, NumeralLeaves, NumeralNodes, NumeralDefs}
use Rattle.comp_model.specs.NamesFit.{LeafNamed, LeavesNamed, LeafNamesFit, LeavesNamesFit, NodesNamesFit, DefsNamesFit}
use Rattle.comp_scopes.proofs.Among.{all, among}

-- a shape that may hold a component or a core module
abbrev holds_named : Shape → Bool
holds_named (a_scope kinds.Component) = true
holds_named the_module = true
holds_named (an_option s) = holds_named s
holds_named _ = false

abbrev none_named : List Shape → Bool
none_named [] = true
none_named (s ∷ ss) = not (holds_named s) && none_named ss

abbrev no_rows_named : List Row → Bool
no_rows_named ts = all (λ t. none_named (leaves_of t)) ts

-- the nodes of a shape hold none
abbrev tame : Shape → Bool
tame (an_option s) = not (holds_named s) && tame s
tame (a_node ts) = no_rows_named ts
tame (a_list ts) = no_rows_named ts
tame _ = true

abbrev all_tame : List Shape → Bool
all_tame [] = true
all_tame (s ∷ ss) = tame s && all_tame ss

abbrev holders : List Row
holders = rows.CoreModule ∷ rows.Component ∷ []

leaves-tame : (t : Row) → all_tame (leaves_of t) ≡ true
leaves-tame rows.CoreModule = refl
leaves-tame _ = refl

-- a row with one leaf, or one that holds none
abbrev one_or_none : List Shape → Bool
one_or_none (s ∷ []) = true
one_or_none ss = none_named ss

leaves-one : (t : Row) → one_or_none (leaves_of t) ≡ true
leaves-one rows.CoreModule = refl
leaves-one _ = refl

inline-none : (s : Shape) → no_rows_named (inline_rows s) ≡ true
inline-none a_text = refl
inline-none _ = refl

bundle-none : (s : Shape) (r : Space) → no_rows_named (bundle_rows s r) ≡ true
bundle-none an_argument CoreFunc = refl
bundle-none an_argument _ = refl
bundle-none a_core_argument CoreFunc = refl
bundle-none a_core_argument _ = refl
bundle-none _ r = refl

row-none : (t : Row) (ts : List Row) → is_row t ts ≡ true → no_rows_named ts ≡ true → none_named (leaves_of t) ≡ true
row-none t ts h g = among (λ u. none_named (leaves_of u)) t ts h g

node-tame : (s : Shape) → tame s ≡ true → no_rows_named (rows_of_node s) ≡ true
node-tame (a_node ts) h = h
node-tame _ h = refl

list-tame : (s : Shape) → tame s ≡ true → no_rows_named (rows_of_list s) ≡ true
list-tame (a_list ts) h = h
list-tame _ h = refl

option-tame : (s : Shape) → tame s ≡ true → tame (the_option s) ≡ true
option-tame (an_option s) h = (and_both (not (holds_named s)) (tame s) h).1
option-tame s h = h

option-named : (s : Shape) → not (holds_named s) ≡ true → not (holds_named (the_option s)) ≡ true
option-named (an_option s) h = h
option-named s h = h

scope-own : (s : Shape) (k : ScopeKind) (id : Option Id) (label : Option Text) → has_scope s k ≡ true → not (holds_named s) ≡ true → own_length k id label ≡ 0
scope-own (a_scope kinds.Component) kinds.Component id label h g = absurd (cc)
scope-own s kinds.Component id label h g = absurd (cc)
scope-own s kinds.ComponentType id label h g = refl
scope-own s kinds.InstanceType id label h g = refl
scope-own s kinds.ModuleType id label h g = refl

module-own : (s : Shape) → is_module s ≡ true → not (holds_named s) ≡ true → ⊥
module-own the_module h g = cc
module-own s h g = cc

mutual
  leaves-unnamed : (ls : Leaves) (ss : List Shape) → ShapedLeaves ls ss → all_tame ss ≡ true → none_named ss ≡ true → held_names ls ≡ 0
  leaves-unnamed no_leaf ss f a n = refl
  leaves-unnamed (l ▸ ls) [] f a n = absurd f
  leaves-unnamed (l ▸ ls) (s ∷ ss) f a n =
      let x = and_both (tame s) (all_tame ss) a in
      let y = and_both (not (holds_named s)) (none_named ss) n in
      omega (arith, leaf-unnamed l s f.0 x.0 y.0, leaves-unnamed ls ss f.1 x.1 y.1)

  leaf-unnamed : (l : Leaf) (s : Shape) → ShapedLeaf l s → tame s ≡ true → not (holds_named s) ≡ true → held_names_of l ≡ 0
  leaf-unnamed (ref r (inline (row t ls))) s f a n = leaves-unnamed ls (leaves_of t) f.1.1 (leaves-tame t) (row-none t (inline_rows s) f.1.0 (inline-none s))
  leaf-unnamed (ref r (bundle (row t ls))) s f a n = leaves-unnamed ls (leaves_of t) f.1.1 (leaves-tame t) (row-none t (bundle_rows s r) f.1.0 (bundle-none s r))
  leaf-unnamed (ref r _) s f a n = refl
  leaf-unnamed (present l) s f a n = leaf-unnamed l (the_option s) f.1 (option-tame s a) (option-named s n)
  leaf-unnamed (node (row t ls)) s f a n = leaves-unnamed ls (leaves_of t) f.1 (leaves-tame t) (row-none t (rows_of_node s) f.0 (node-tame s a))
  leaf-unnamed (nodes ns) s f a n = nodes-unnamed ns (rows_of_list s) f.1 (list-tame s a)
  leaf-unnamed (core_source c) s f a n = absurd (module-own s f n)
  leaf-unnamed (scope (scope_of k id label ds)) s f a n = scope-own s k id label f.0 n
  leaf-unnamed l s f a n = refl

  nodes-unnamed : (ns : Nodes) (ts : List Row) → ShapedNodes ns ts → no_rows_named ts ≡ true → held_names_in ns ≡ 0
  nodes-unnamed no_node ts f a = refl
  nodes-unnamed (one_node (row t ls) ns) ts f a = omega (arith, leaves-unnamed ls (leaves_of t) f.1 (leaves-tame t) (row-none t ts f.0 a), nodes-unnamed ns ts f.2 a)

-- ---- the one leaf of a definition

first-id : (ids : List (Option Id)) → weight_of_id (first_or_none ids) ≤ weight_of_all weight_of_id ids
first-id [] = omega arith
first-id (x ∷ xs) = omega arith

first-label : (labels : List (Option Text)) → weight_of_label (first_or_none labels) ≤ weight_of_all weight_of_label labels
first-label [] = omega arith
first-label (x ∷ xs) = omega arith

own-weight : (names : Names) (id : Option Id) (label : Option Text) → id ≡ first_or_none names.ids → label ≡ first_or_none names.labels → weight_of_id id + weight_of_label label ≤ weight_of_names names
own-weight names id label p q = omega (arith, ap weight_of_id p, ap weight_of_label q, first-id names.ids, first-label names.labels)

scope-weight : (names : Names) (k : ScopeKind) (id : Option Id) (label : Option Text) (ds : Defs) → LeafNamed names (scope (scope_of k id label ds)) → own_length k id label ≤ weight_of_names names
scope-weight names kinds.Component id label ds b = own-weight names id label b.0 b.1
scope-weight names kinds.ComponentType id label ds b = omega arith
scope-weight names kinds.InstanceType id label ds b = omega arith
scope-weight names kinds.ModuleType id label ds b = omega arith

option-parts : (s : Shape) → is_optional s ≡ true → tame s ≡ true → (tame (the_option s) ≡ true) × (not (holds_named (the_option s)) ≡ true)
option-parts (an_option s) h a = let u = and_both (not (holds_named s)) (tame s) a in (u.1, u.0)
option-parts s h a = absurd (cc)

leaf-weight : (names : Names) (l : Leaf) (s : Shape) → ShapedLeaf l s → tame s ≡ true → LeafNamed names l → held_names_of l ≤ weight_of_names names
leaf-weight names (core_source c) s f a b = own-weight names c.naming.id c.naming.label b.0 b.1
leaf-weight names (scope (scope_of k id label ds)) s f a b = scope-weight names k id label ds b
leaf-weight names (ref r (inline (row t ls))) s f a b = omega (arith, leaves-unnamed ls (leaves_of t) f.1.1 (leaves-tame t) (row-none t (inline_rows s) f.1.0 (inline-none s)))
leaf-weight names (ref r (bundle (row t ls))) s f a b = omega (arith, leaves-unnamed ls (leaves_of t) f.1.1 (leaves-tame t) (row-none t (bundle_rows s r) f.1.0 (bundle-none s r)))
leaf-weight names (ref r _) s f a b = omega arith
leaf-weight names (node (row t ls)) s f a b = omega (arith, leaves-unnamed ls (leaves_of t) f.1 (leaves-tame t) (row-none t (rows_of_node s) f.0 (node-tame s a)))
leaf-weight names (nodes ns) s f a b = omega (arith, nodes-unnamed ns (rows_of_list s) f.1 (list-tame s a))
leaf-weight names (present l) s f a b = let o = option-parts s f.0 a in omega (arith, leaf-unnamed l (the_option s) f.1 o.0 o.1)
leaf-weight names l s f a b = omega arith

unnamed-weight : (n m : ℕ) → n ≡ 0 → n ≤ m
unnamed-weight n m h = omega (arith, h)

row-weight : (names : Names) (ls : Leaves) (ss : List Shape) → one_or_none ss ≡ true → ShapedLeaves ls ss → all_tame ss ≡ true → LeavesNamed names ls → held_names ls ≤ weight_of_names names
row-weight names no_leaf ss o f a b = omega arith
row-weight names (l ▸ no_leaf) (s ∷ ss) o f a b = omega (arith, leaf-weight names l s f.0 (and_both (tame s) (all_tame ss) a).0 b.0)
row-weight names (l ▸ ls) [] o f a b = absurd f
row-weight names (l ▸ k ▸ ls) (s ∷ []) o f a b = absurd f.1
row-weight names (l ▸ k ▸ ls) (s ∷ r ∷ ss) o f a b = unnamed-weight (held_names (l ▸ k ▸ ls)) (weight_of_names names) (leaves-unnamed (l ▸ k ▸ ls) (s ∷ r ∷ ss) f a o)

-- ---- all of it

-- a list of producers has its three lists
some-leaf : (t : Row) (ls : Leaves) → same_row t rows.Producers ≡ true → ShapedLeaves ls (leaves_of t) → HasLeaf ls
some-leaf t no_leaf r f = subst (λ v. ShapedLeaves no_leaf (leaves_of v)) (same_row-true t rows.Producers r) f
some-leaf t (l ▸ ls) r f = tt

fair-value : (v : CoreValue) → LeafRowed (core_value v) → NumeralValue v → FairValue v
fair-value (ref_index b i) w n = w
fair-value (ref_numeral b o i) w n = n
fair-value v w n = tt

mutual
  fair-leaves : (ls : Leaves) (ss : List Shape) → ShapedLeaves ls ss → LeavesRowed ls → NumeralLeaves ls → LeavesNamesFit ls → FairLeaves ls
  fair-leaves no_leaf ss f w n o = tt
  fair-leaves (l ▸ ls) [] f w n o = absurd f
  fair-leaves (l ▸ ls) (s ∷ ss) f w n o = (fair-leaf l s f.0 w.1 n.0 o.0, fair-leaves ls ss f.1 w.2 n.1 o.1)

  fair-leaf : (l : Leaf) (s : Shape) → ShapedLeaf l s → LeafRowed l → NumeralLeaf l → LeafNamesFit l → FairLeaf l
  fair-leaf (number i) s f w n o = n
  fair-leaf (core_value v) s f w n o = fair-value v w n
  fair-leaf (ref r (index i)) s f w n o = w
  fair-leaf (ref r (numeral p i)) s f w n o = n
  fair-leaf (ref r (path p)) s f w n o = n
  fair-leaf (ref r (inline (row t ls))) s f w n o = fair-leaves ls (leaves_of t) f.1.1 w.1 n o.1
  fair-leaf (ref r (bundle (row t ls))) s f w n o = fair-leaves ls (leaves_of t) f.1.1 w.1 n o
  fair-leaf (place p) s f w n o = n
  fair-leaf (present l) s f w n o = fair-leaf l (the_option s) f.1 w n o
  fair-leaf (node (row t ls)) s f w n o = fair-leaves ls (leaves_of t) f.1 w n o
  fair-leaf (nodes ns) s f w n o = fair-nodes ns (rows_of_list s) f.1 w n o
  fair-leaf (result_count i) s f w n o = w
  fair-leaf (core_source c) s f w n o = n
  fair-leaf (module_bytes bs) s f w n o = w
  fair-leaf (scope (scope_of k id label ds)) s f w n o = fair-defs ds k f.1 w n o
  fair-leaf l s f w n o = tt

  fair-nodes : (ns : Nodes) (ts : List Row) → ShapedNodes ns ts → NodesRowed ns → NumeralNodes ns → NodesNamesFit ns → FairNodes ns
  fair-nodes no_node ts f w n o = tt
  fair-nodes (one_node (row t ls) ns) ts f w n o = (fair-leaves ls (leaves_of t) f.1 w.1 n.0 o.0, fair-nodes ns ts f.2 w.2 n.1 o.1)

  pub fair-defs : (ds : Defs) (k : ScopeKind) → ShapedDefs ds k → DefsRowed ds → NumeralDefs ds → DefsNamesFit k ds → FairDefs ds
  fair-defs no_def k f w n o = tt
  fair-defs (one_def (define names (row t ls)) ds) k f w n o = (row-weight names ls (leaves_of t) (leaves-one t) f.1 (leaves-tame t) o.2, (λ r. (some-leaf t ls r f.1, w.2 r)), fair-leaves ls (leaves_of t) f.1 w.3 n.0 o.3, fair-defs ds k f.2 w.4 n.1 o.4)
