-- How much stands in parts of a definition: the measure of what goes through them.
use Rattle.std.proofs.Common.{◌≡◌, ℕ, zero, suc, ◌+◌, ◌<◌, ap, List, [], ◌∷◌, length, Bor, arith, ◌∙◌}
use Rattle.std.specs.Prelude.{get_or}
use Rattle.comp_model.specs.Model.{Leaf, present, node, nodes, Leaves, no_leaf, ◌▸◌, row, Nodes, no_node, one_node}
use Rattle.comp_tree.specs.declared.tree.Leaf as l
use Rattle.comp_tree.specs.declared.tree.Node as n
use Rattle.comp_tree.specs.Lists.{listed, nodes_listed}
use Rattle.comp_tree.specs.Model.{leaf_of}
use Rattle.comp_tree.proofs.Leaves.{leaf_present, leaf_node, leaf_nodes}

-- one for each part
abbrev mutual
  pub parts_in : Leaf → ℕ
  parts_in (present l) = 1 + parts_in l
  parts_in (node (row t ls)) = 1 + parts_among ls
  parts_in (nodes ns) = 1 + parts_of_nodes ns
  parts_in _ = 0

  pub parts_among : Leaves → ℕ
  parts_among no_leaf = 0
  parts_among (l ▸ ls) = 1 + parts_in l + parts_among ls

  pub parts_of_nodes : Nodes → ℕ
  parts_of_nodes no_node = 0
  parts_of_nodes (one_node (row t ls) ns) = 1 + parts_among ls + parts_of_nodes ns

abbrev pub leaf_size : l.Leaf → ℕ
leaf_size x = parts_in (leaf_of [] x)

abbrev pub leaves_size : List l.Leaf → ℕ
leaves_size xs = parts_among (listed [] xs)

abbrev pub nodes_size : List n.Node → ℕ
nodes_size xs = parts_of_nodes (nodes_listed [] xs)

pub present_below : (x : l.Leaf) (y : Bor l.Leaf) → x ≡ l.Present y → leaf_size y.now < leaf_size x
present_below x y e = let s : leaf_size x ≡ 1 + leaf_size y.now = ap parts_in (ap (leaf_of []) e ∙ leaf_present [] y) in omega (arith, s)

pub node_below : (x : l.Leaf) (y : Bor n.Node) → x ≡ l.Node y → leaves_size y.now.leaves.now < leaf_size x
node_below x y e = let s : leaf_size x ≡ 1 + leaves_size y.now.leaves.now = ap parts_in (ap (leaf_of []) e ∙ leaf_node [] y) in omega (arith, s)

pub nodes_below : (x : l.Leaf) (ys : Bor (List n.Node)) → x ≡ l.Nodes ys → nodes_size ys.now < leaf_size x
nodes_below x ys e = let s : leaf_size x ≡ 1 + nodes_size ys.now = ap parts_in (ap (leaf_of []) e ∙ leaf_nodes [] ys) in omega (arith, s)

pub leaf_below : (xs : List l.Leaf) (i : ℕ) (y : l.Leaf) → i < length xs → y ≡ get_or xs i y → leaf_size y < leaves_size xs
leaf_below [] i y h e = absurd (omega (arith, h))
leaf_below (x ∷ xs) zero y h e = let s : leaf_size y ≡ leaf_size x = ap leaf_size e in omega (arith, s)
leaf_below (x ∷ xs) (suc i) y h e = let s : leaf_size y < leaves_size xs = leaf_below xs i y (omega (arith, h)) e in omega (arith, s)

leaves_below : (xs : List n.Node) (i : ℕ) (d : n.Node) → i < length xs → leaves_size (get_or xs i d).leaves.now < nodes_size xs
leaves_below [] i d h = absurd (omega (arith, h))
leaves_below (x ∷ xs) zero d h = omega arith
leaves_below (x ∷ xs) (suc i) d h = let s : leaves_size (get_or xs i d).leaves.now < nodes_size xs = leaves_below xs i d (omega (arith, h)) in omega (arith, s)

-- below the measure of the list
pub leaves_fall : (xs : List n.Node) (i : ℕ) (d : n.Node) (t : ℕ) → nodes_size xs ≡ t → i < length xs → leaves_size (get_or xs i d).leaves.now < t
leaves_fall xs i d t e h = let s : leaves_size (get_or xs i d).leaves.now < nodes_size xs = leaves_below xs i d h in omega (arith, s, e)
