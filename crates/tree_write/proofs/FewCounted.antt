-- Items of definitions, where there are fewer than 2 ^ 64: their counts have room.
use Rattle.std.proofs.Common.{◌≡◌, ℕ, zero, suc, ◌+◌, ◌-◌, ◌^◌, ◌<◌, ◌≤◌, min, List, [], ◌∷◌, length, length-append, drop, get_or, refl, sym, ap, subst, arith, Bool, true, false}
use Rattle.comp_model.specs.declared.Space.{Space}
use Rattle.comp_model.specs.CoreModules.{CoreModule}
use Rattle.comp_model.specs.Model as m
use Rattle.comp_model.specs.Model.{Leaves, no_leaf, ◌▸◌}
use Rattle.comp_model.specs.declared.declares.Declares.{Declares}
use Rattle.comp_model.specs.declared.declares.Declares.TheVariants.{Always}
use Rattle.comp_model.specs.declared.row.Row.{Row}
use Rattle.comp_model.specs.declared.row.Row.TheVariants as rows
use Rattle.comp_model.specs.Spaces as sp
use Rattle.comp_model.specs.Spaces.{same_space, code_of_space, count_in, leaf_spaces, leaves_spaces}
use Rattle.comp_tree.specs.Model.{leaf_of, scope_of}
use Rattle.comp_tree.specs.Lists.{listed, node_of, defs_listed}
use Rattle.comp_tree.specs.Spaces.{run_of}
use Rattle.comp_tree.specs.declared.declares.Run.{Run}
use Rattle.comp_tree.specs.declared.tree.Def.{Def}
use Rattle.comp_tree.specs.declared.tree.Leaf.{Leaf}
use Rattle.comp_tree.specs.declared.tree.Scope.{Scope}
use Rattle.comp_tree.specs.declared.tree.Scope as sc
use Rattle.comp_tree.proofs.Leaves.{scope_fields}
use Rattle.comp_wire.proofs.Lists.{dropped}
use Rattle.tree_write.specs.Along.{spaces_of}
use Rattle.tree_write.specs.CountedItems.{count_of, items_in, no_items}
use Rattle.tree_write.specs.FewItems.{count_declared, FewItems, FewIn, FewInDefs, FewInRow}
use Rattle.tree_write.specs.Plans.{component_in}
use Rattle.tree_write.specs.declared.space_counts.Items.{Items}
use Rattle.tree_write.proofs.ItemNames.{count_found, leaves_left, length_of}

-- the items of one space are no more than all
pub counted-most : (s : Space) (ss : List Space) → count_in s ss ≤ length ss
counted-most s [] = omega arith
counted-most s (x ∷ xs) = go (same_space s x) refl (counted-most s xs)
  where
    go : (b : Bool) → same_space s x ≡ b → count_in s xs ≤ length xs → count_in s (x ∷ xs) ≤ length (x ∷ xs)
    go true e h = rw e (omega (arith, h))
    go false e h = rw e (omega (arith, h))

-- a count that has room
pub count_fits : (s u : Space) (counts : List Items) (n before : ℕ) → n ≡ code_of_space u → before ≡ min (items_in (get_or counts n no_items)) (2 ^ 64 - 1) → count_of s counts < 2 ^ 64 → same_space s u ≡ true → count_of s counts ≡ before
count_fits s u counts n before e f h q =
    let there = count_found s u counts n (items_in (get_or counts n no_items)) e refl q in
    omega (arith, there, f, h)

module _ (cores : List CoreModule) where
  -- the parts of the leaves that are left
  pub leaves_split : (xs : List Leaf) (i : ℕ) (x : Leaf) (d : Declares) (r : Run) → i < length xs → x ≡ get_or xs i x → run_of r ≡ leaf_spaces (leaf_of cores x) d
      → length (leaves_spaces (listed cores (drop i xs)) d) ≡ r.count + length (leaves_spaces (listed cores (drop (i + 1) xs)) d)
  leaves_split xs i x d r h e g =
      let ys = leaves_spaces (listed cores (drop (i + 1) xs)) d in
      let a = ap length (leaves_left cores xs i x d r h e g) in
      let b = length-append (run_of r) ys in
      let c = length_of r.count r.space in
      omega (arith, a, b, c)

  pub always_one : (d : Def) (u : Space) → Always u ≡ sp.declares_by d.node.row → length (spaces_of cores d) ≡ 1
  always_one d u e = ap (λ q. length (sp.spaces_by q (listed cores d.node.leaves.now))) (sym e)

  -- the items of the definitions that are left
  pub defs_split : (ds : List Def) (i : ℕ) (d : Def) → i < length ds → d ≡ get_or ds i d → count_declared (defs_listed cores (drop i ds)) ≡ length (spaces_of cores d) + count_declared (defs_listed cores (drop (i + 1) ds))
  defs_split ds i d h e = ap (λ xs. count_declared (defs_listed cores xs)) (dropped ds i d h e)

  -- ---- in a component, and in those that its definitions hold

  pub few_here : (x : Scope) → FewItems (scope_of cores x) → count_declared (defs_listed cores (sc.out-Scope x).defs.now) < 2 ^ 64
  few_here x few = (subst FewItems (scope_fields cores x) few).0

  pub few_inside : (x : Scope) → FewItems (scope_of cores x) → FewInDefs (defs_listed cores (sc.out-Scope x).defs.now)
  few_inside x few = (subst FewItems (scope_fields cores x) few).1

  pub few_held : (u : Row) (ls : Leaves) → FewInRow u ls → FewIn (component_in (m.row u ls))
  few_held rows.Component no_leaf few = tt
  few_held rows.Component (m.scope s ▸ ls) few = few
  few_held rows.Component (_ ▸ ls) few = tt
  few_held _ ls few = tt

  pub few_at : (ds : List Def) (i : ℕ) (d : Def) → i < length ds → d ≡ get_or ds i d → FewInDefs (defs_listed cores ds) → FewIn (component_in (node_of cores d.node))
  few_at [] i d h e few = absurd (omega (arith, h))
  few_at (x ∷ ds) zero d h e few = subst (λ y. FewIn (component_in (node_of cores y.node))) (sym e) (few_held x.node.row (listed cores x.node.leaves.now) few.0)
  few_at (x ∷ ds) (suc i) d h e few = few_at ds i d (omega (arith, h)) e few.1
