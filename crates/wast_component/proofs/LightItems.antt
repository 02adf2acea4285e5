-- A component that costs few bytes in binary declares few items, and so do those in it.
use Rattle.std.proofs.Common.{◌≡◌, ℕ, ◌*◌, ◌<◌, ◌≤◌, ◌^◌, length, refl, sym, subst, arith, Bool, true, false, cond, codes, nat_lt, if◌then◌else◌}
use Rattle.comp_model.specs.declared.declares.Declares.{Declares}
use Rattle.comp_model.specs.declared.row.Row.{Row}
use Rattle.comp_model.specs.declared.row.Row.TheVariants as rows
use Rattle.comp_model.specs.Binary.{IsBinary, IsBinaryLeaf, AreBinaryLeaves, AreBinaryDefs}
use Rattle.comp_model.specs.Model as m
use Rattle.comp_model.specs.Model.{Leaf, kind, ref, node, nodes, result_ids, result_count, scope, index, numeral, Leaves, no_leaf, ◌▸◌, row, Nodes, no_node, one_node, count_nodes, no_names, define, Defs, no_def, one_def, Scope, scope_of}
use Rattle.comp_model.specs.Payloads.{producers_payload}
use Rattle.comp_model.specs.RowNumbers.{same_row}
use Rattle.comp_model.specs.Spaces.{declares_by, leaves_spaces, declares_row}
use Rattle.comp_model.proofs.Tests.{same_row-true}
use Rattle.comp_scopes.specs.Encoding.{Encoding}
use Rattle.comp_scopes.specs.Form.{coded_node, custom_node}
use Rattle.comp_scopes.specs.Resolved.{binary_of, binary_of_defs, binary_of_leaf, binary_of_leaves, binary_of_nodes}
use Rattle.comp_weight.specs.Cost.{width, cost_leaf, cost_leaves, cost_node, cost_defs, cost_scope}
use Rattle.comp_weight.proofs.Plans.{parts_of, leaf-spaces, row-parts}
use Rattle.comp_weight.proofs.Spelled.{word-width, count-cost}
use Rattle.tree_write.specs.FewItems.{count_declared, FewItems, FewInDefs, FewInRow}

has-width : (n : ℕ) → 0 < width n
unfolding width
has-width n = go (nat_lt n (2 ^ 32))
  where
    go : (b : Bool) → 0 < (if b then 5 else 2 ^ 32)
    go true = omega arith
    go false = omega arith

count-width : (n : ℕ) → width n < 2 ^ 32 → n ≤ 2 ^ 32 * width n
count-width n h = omega (arith, word-width n h, has-width n)

module _ (e : Encoding) where
  same-count : (ns : Nodes) → count_nodes (binary_of_nodes e ns) ≡ count_nodes ns
  same-count no_node = refl
  same-count (one_node (row t ls) ns) = omega (arith, same-count ns)

  -- ---- the parts of a definition

  parts-cost : (l : Leaf) → IsBinaryLeaf (binary_of_leaf e l) → cost_leaf (binary_of_leaf e l) < 2 ^ 32 → parts_of l ≤ 2 ^ 32 * cost_leaf (binary_of_leaf e l)
  parts-cost (kind s) b h = omega arith
  parts-cost (ref s (numeral o n)) b h = omega arith
  parts-cost (ref s (index i)) b h = omega arith
  parts-cost (ref s _) b h = absurd b
  parts-cost (node (row t ls)) b h = omega arith
  parts-cost (nodes ns) b h = omega (arith, same-count ns, count-cost (binary_of_nodes e ns))
  parts-cost (result_ids ids) b h = count-width (length ids) h
  parts-cost (result_count n) b h = count-width n h
  parts-cost _ b h = omega arith

  leaves-cost : (ls : Leaves) (d : Declares) → AreBinaryLeaves (binary_of_leaves e ls) → cost_leaves (binary_of_leaves e ls) < 2 ^ 32 → length (leaves_spaces ls d) ≤ 2 ^ 32 * cost_leaves (binary_of_leaves e ls)
  leaves-cost no_leaf d b h = omega arith
  leaves-cost (l ▸ ls) d b h = omega (arith, leaf-spaces l ls d, parts-cost l b.0 (omega (arith, h)), leaves-cost ls d b.1 (omega (arith, h)))

  row-cost : (t : Row) (ls : Leaves) (more : Defs) → AreBinaryDefs (one_def (define no_names (coded_node e t ls (binary_of_leaves e ls))) more) → cost_node (coded_node e t ls (binary_of_leaves e ls)) < 2 ^ 32
      → (length (declares_row t ls) ≤ 2 ^ 32 * cost_node (coded_node e t ls (binary_of_leaves e ls))) × AreBinaryDefs more
  row-cost t ls more b h = go (same_row t rows.Producers) refl b h
    where
      custom : m.Node
      custom = custom_node (codes "producers") (producers_payload ls)

      go : (q : Bool) → same_row t rows.Producers ≡ q → AreBinaryDefs (one_def (define no_names (cond q custom (row t (binary_of_leaves e ls)))) more) → cost_node (cond q custom (row t (binary_of_leaves e ls))) < 2 ^ 32
          → (length (declares_row t ls) ≤ 2 ^ 32 * cost_node (cond q custom (row t (binary_of_leaves e ls)))) × AreBinaryDefs more
      go true q b h = (subst (λ u. length (declares_row u ls) ≤ 2 ^ 32 * cost_node custom) (sym (same_row-true t rows.Producers q)) (omega arith), b.3)
      go false q b h = (omega (arith, row-parts t ls, leaves-cost ls (declares_by t) b.2 (omega (arith, h))), b.3)

  defs-cost : (ds more : Defs) → AreBinaryDefs (binary_of_defs e ds more) → cost_defs (binary_of_defs e ds more) < 2 ^ 32 → count_declared ds ≤ 2 ^ 32 * cost_defs (binary_of_defs e ds more)
  defs-cost no_def more b h = omega arith
  defs-cost (one_def (define names (row t ls)) ds) more b h =
      let here = row-cost t ls (binary_of_defs e ds more) b (omega (arith, h)) in
      omega (arith, here.0, defs-cost ds more here.1 (omega (arith, h)))

  -- ---- a component, and those in it

  mutual
    pub few_items : (s : Scope) → IsBinary (binary_of e s) → cost_scope (binary_of e s) < 2 ^ 32 → FewItems s
    few_items (scope_of k id label ds) b h = (omega (arith, defs-cost ds _ b.2 (omega (arith, h)), h), few-defs ds _ b.2 (omega (arith, h)))

    few-defs : (ds more : Defs) → AreBinaryDefs (binary_of_defs e ds more) → cost_defs (binary_of_defs e ds more) < 2 ^ 32 → FewInDefs ds
    few-defs no_def more b h = tt
    few-defs (one_def (define names (row t ls)) ds) more b h =
        let here = row-cost t ls (binary_of_defs e ds more) b (omega (arith, h)) in
        (few-row t ls (binary_of_defs e ds more) b (omega (arith, h)), few-defs ds more here.1 (omega (arith, h)))

    few-row : (t : Row) (ls : Leaves) (more : Defs) → AreBinaryDefs (one_def (define no_names (coded_node e t ls (binary_of_leaves e ls))) more) → cost_node (coded_node e t ls (binary_of_leaves e ls)) < 2 ^ 32 → FewInRow t ls
    few-row rows.Component (scope (scope_of k id label ds) ▸ ls) more b h = few_items (scope_of k id label ds) b.2.0 (omega (arith, h))
    few-row rows.Component (_ ▸ ls) more b h = tt
    few-row rows.Component no_leaf more b h = tt
    few-row _ ls more b h = tt
