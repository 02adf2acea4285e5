-- The references that are counted part by part.
use Rattle.std.proofs.Common.{◌≡◌, ℕ, zero, suc, ◌+◌, ap, ◌∙◌, arith}
use Rattle.comp_model.specs.Model as m
use Rattle.comp_model.specs.Model.{Leaf, Leaves, no_leaf, ◌▸◌, row, Nodes, no_node, one_node, scope_of}
use Rattle.comp_model.specs.Events.{told_leaf, told_leaves, told_nodes, enters_none}
use Rattle.comp_model.proofs.Told.{none-told}
use Rattle.comp_scopes.specs.References.{references, references_leaf, references_nodes}
use Rattle.comp_walks.specs.Counting.{and_more, count_step}
use Rattle.comp_walks.specs.Weigh.{capped}

one-more : (n : ℕ) → capped (capped n + 1) ≡ capped (n + 1)
one-more n = omega arith

more : (n a : ℕ) → and_more (capped n) a ≡ capped (n + a)
more n zero = omega arith
more n (suc a) = omega arith

mutual
  leaf-counted : (l : Leaf) (n : ℕ) → told_leaf count_step enters_none l (capped n) ≡ capped (n + references_leaf l)
  leaf-counted (m.ref s (m.inline (row t ls))) n = ap (told_leaves count_step enters_none ls) (one-more n) ∙ leaves-counted ls (n + 1) ∙ ap capped (omega arith)
  leaf-counted (m.ref s (m.bundle (row t ls))) n = ap (told_leaves count_step enters_none ls) (one-more n) ∙ leaves-counted ls (n + 1) ∙ ap capped (omega arith)
  leaf-counted (m.present (m.node (row t ls))) n = leaves-counted ls n
  leaf-counted (m.present l) n = leaf-counted l n
  leaf-counted (m.node (row t ls)) n = leaves-counted ls n
  leaf-counted (m.nodes ns) n = nodes-counted ns n
  leaf-counted (m.scope (scope_of k id label ds)) n = none-told count_step ds (capped n) ∙ omega arith
  leaf-counted l n = more n (references_leaf l)

  pub leaves-counted : (ls : Leaves) (n : ℕ) → told_leaves count_step enters_none ls (capped n) ≡ capped (n + references ls)
  leaves-counted no_leaf n = omega arith
  leaves-counted (l ▸ ls) n = ap (told_leaves count_step enters_none ls) (leaf-counted l n) ∙ leaves-counted ls (n + references_leaf l) ∙ ap capped (omega arith)

  nodes-counted : (ns : Nodes) (n : ℕ) → told_nodes count_step enters_none ns (capped n) ≡ capped (n + references_nodes ns)
  nodes-counted no_node n = omega arith
  nodes-counted (one_node (row t ls) ns) n = ap (told_nodes count_step enters_none ns) (leaves-counted ls n) ∙ nodes-counted ns (n + references ls) ∙ ap capped (omega arith)
