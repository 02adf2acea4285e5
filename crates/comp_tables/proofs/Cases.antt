-- By the table of rows a case is a row that begins with its id and has no list in it.
use Rattle.std.proofs.Common.{◌≡◌, ◌⊎◌, inl, inr, Bool, true, false, ◌&&◌, ◌||◌, not, List, [], ◌∷◌, refl, sym, ◌∙◌, subst}
use Rattle.comp_model.specs.declared.row.Row.TheVariants as rows
use Rattle.comp_model.specs.declared.row.Row.{Row}
use Rattle.comp_model.specs.RowNumbers.{same_row, is_row}
use Rattle.comp_model.specs.Model.{Leaf, text, number, kind, core_value, ref, place, absent, present, node, nodes, case_id, result_ids, result_count, core_source, module_bytes, scope, inline, bundle, Leaves, no_leaf, ◌▸◌, row, Nodes, no_node, one_node, scope_of}
use Rattle.comp_model.specs.Rows.{Shape, a_text, a_value_type, an_option, a_node, a_list, a_case_id, leaves_of, the_option, rows_of_node, rows_of_list, ShapedLeaf, ShapedLeaves, ShapedNodes}
use Rattle.comp_model.proofs.Tests.{same_row-true}
use Rattle.comp_scopes.specs.Rowed.{holds_scope, leaf_holds_scope, nodes_hold_scope}
use Rattle.comp_expanded.specs.IsExpanded.{LeavesExpanded, LeafExpanded, NodesExpanded}
use Rattle.comp_tables.specs.Visitor.{NoListInLeaf, CaseRow, CaseRows, CasesFirst, CasesFirstInLeaf, CasesFirstInNodes}
use Rattle.comp_tables.proofs.OfExpansion.{or-left, or-right}
use Rattle.comp_scopes.proofs.Among.{and-both}

-- ---- shapes in which no case stands by itself

abbrev none_case : List Row → Bool
none_case [] = true
none_case (t ∷ ts) = not (same_row t rows.CaseType) && none_case ts

abbrev all_case : List Row → Bool
all_case [] = true
all_case (t ∷ ts) = same_row t rows.CaseType && all_case ts

abbrev caseless : Shape → Bool
caseless a_case_id = false
caseless (an_option s) = caseless s
caseless (a_node ts) = none_case ts
caseless (a_list ts) = none_case ts || all_case ts
caseless _ = true

abbrev caseless_all : List Shape → Bool
caseless_all [] = true
caseless_all (s ∷ ss) = caseless s && caseless_all ss

-- of every other row
table-caseless : (t : Row) → same_row t rows.CaseType ≡ false → caseless_all (leaves_of t) ≡ true
table-caseless rows.CaseType h = absurd (cc)
table-caseless _ h = refl

not-true : (a : Bool) → not a ≡ true → a ≡ false
not-true true h = absurd (cc)
not-true false h = refl

among-none : (t : Row) (ts : List Row) → is_row t ts ≡ true → none_case ts ≡ true → same_row t rows.CaseType ≡ false
among-none t [] h n = absurd (cc)
among-none t (u ∷ ts) h n = go (same_row t u) refl h (among-none t ts)
  where
    go : (b : Bool) → same_row t u ≡ b → (b || is_row t ts) ≡ true → (is_row t ts ≡ true → none_case ts ≡ true → same_row t rows.CaseType ≡ false) → same_row t rows.CaseType ≡ false
    go true e q more = subst (λ v. same_row v rows.CaseType ≡ false) (sym (same_row-true t u e)) (not-true (same_row u rows.CaseType) (and-both (not (same_row u rows.CaseType)) (none_case ts) n).0)
    go false e q more = more q (and-both (not (same_row u rows.CaseType)) (none_case ts) n).1

among-all : (t : Row) (ts : List Row) → is_row t ts ≡ true → all_case ts ≡ true → t ≡ rows.CaseType
among-all t [] h n = absurd (cc)
among-all t (u ∷ ts) h n = go (same_row t u) refl h (among-all t ts)
  where
    go : (b : Bool) → same_row t u ≡ b → (b || is_row t ts) ≡ true → (is_row t ts ≡ true → all_case ts ≡ true → t ≡ rows.CaseType) → t ≡ rows.CaseType
    go true e q more = same_row-true t u e ∙ same_row-true u rows.CaseType (and-both (same_row u rows.CaseType) (all_case ts) n).0
    go false e q more = more q (and-both (same_row u rows.CaseType) (all_case ts) n).1

node-rows : (s : Shape) → caseless s ≡ true → none_case (rows_of_node s) ≡ true
node-rows (a_node ts) h = h
node-rows s h = refl

list-rows : (s : Shape) → caseless s ≡ true → (none_case (rows_of_list s) || all_case (rows_of_list s)) ≡ true
list-rows (a_list ts) h = h
list-rows s h = refl

option-caseless : (s : Shape) → caseless s ≡ true → caseless (the_option s) ≡ true
option-caseless (an_option s) h = h
option-caseless s h = h

-- ---- a case

value-expand : (l : Leaf) → ShapedLeaf l a_value_type → LeafExpanded l → NoListInLeaf l
value-expand (number n) f x = tt
value-expand (ref s (inline n)) f x = absurd x
value-expand (ref s (bundle n)) f x = absurd x
value-expand (ref s t) f x = tt
value-expand (present l) f x = let q : false ≡ true = f.0 in absurd (cc)
value-expand (node (row t ls)) f x = let q : false ≡ true = f.0 in absurd (cc)
value-expand (nodes ns) f x = let q : false ≡ true = f.0 in absurd (cc)
value-expand (case_id i) f x = let q : false ≡ true = f in absurd (cc)
value-expand (scope (scope_of kd id label ds)) f x = let q : false ≡ true = f.0 in absurd (cc)
value-expand l f x = tt

option-expand : (l : Leaf) → ShapedLeaf l (an_option a_value_type) → LeafExpanded l → NoListInLeaf l
option-expand (present l) f x = value-expand l f.1 x
option-expand (ref s (inline n)) f x = absurd x
option-expand (ref s (bundle n)) f x = absurd x
option-expand (ref s t) f x = tt
option-expand (node (row t ls)) f x = let q : false ≡ true = f.0 in absurd (cc)
option-expand (nodes ns) f x = let q : false ≡ true = f.0 in absurd (cc)
option-expand (case_id i) f x = let q : false ≡ true = f in absurd (cc)
option-expand (scope (scope_of kd id label ds)) f x = let q : false ≡ true = f.0 in absurd (cc)
option-expand l f x = tt

text-expand : (l : Leaf) → ShapedLeaf l a_text → LeafExpanded l → NoListInLeaf l
text-expand (ref s (inline n)) f x = absurd x
text-expand (ref s (bundle n)) f x = absurd x
text-expand (ref s t) f x = tt
text-expand (present l) f x = let q : false ≡ true = f.0 in absurd (cc)
text-expand (node (row t ls)) f x = let q : false ≡ true = f.0 in absurd (cc)
text-expand (nodes ns) f x = let q : false ≡ true = f.0 in absurd (cc)
text-expand (case_id i) f x = let q : false ≡ true = f in absurd (cc)
text-expand (scope (scope_of kd id label ds)) f x = let q : false ≡ true = f.0 in absurd (cc)
text-expand l f x = tt

case-row : (ls : Leaves) → ShapedLeaves ls (a_case_id ∷ a_text ∷ an_option a_value_type ∷ []) → LeavesExpanded ls → CaseRow ls
case-row (case_id i ▸ a ▸ b ▸ no_leaf) f x = (text-expand a f.1.0 x.1.0, (option-expand b f.1.1.0 x.1.1.0, tt))
case-row (case_id i ▸ no_leaf) f x = absurd f.1
case-row (case_id i ▸ a ▸ no_leaf) f x = absurd f.1.1
case-row (case_id i ▸ a ▸ b ▸ c ▸ ls) f x = absurd f.1.1.1
case-row no_leaf f x = absurd f
case-row (text t ▸ ls) f x = let q : false ≡ true = f.0 in absurd (cc)
case-row (number n ▸ ls) f x = let q : false ≡ true = f.0 in absurd (cc)
case-row (kind s ▸ ls) f x = let q : false ≡ true = f.0 in absurd (cc)
case-row (core_value v ▸ ls) f x = let q : false ≡ true = f.0 in absurd (cc)
case-row (ref s t ▸ ls) f x = let q : false ≡ true = f.0.0 in absurd (cc)
case-row (place p ▸ ls) f x = let q : false ≡ true = f.0 in absurd (cc)
case-row (absent ▸ ls) f x = let q : false ≡ true = f.0 in absurd (cc)
case-row (present l ▸ ls) f x = let q : false ≡ true = f.0.0 in absurd (cc)
case-row (node (row t l) ▸ ls) f x = let q : false ≡ true = f.0.0 in absurd (cc)
case-row (nodes ns ▸ ls) f x = let q : false ≡ true = f.0.0 in absurd (cc)
case-row (result_ids is ▸ ls) f x = let q : false ≡ true = f.0 in absurd (cc)
case-row (result_count n ▸ ls) f x = let q : false ≡ true = f.0 in absurd (cc)
case-row (core_source c ▸ ls) f x = let q : false ≡ true = f.0 in absurd (cc)
case-row (module_bytes bs ▸ ls) f x = let q : false ≡ true = f.0 in absurd (cc)
case-row (scope (scope_of kd id label ds) ▸ ls) f x = let q : false ≡ true = f.0.0 in absurd (cc)

case-rows : (ns : Nodes) (ts : List Row) → ShapedNodes ns ts → all_case ts ≡ true → NodesExpanded ns → CaseRows ns
case-rows no_node ts f a x = tt
case-rows (one_node (row t ls) ns) ts f a x =
    let q : t ≡ rows.CaseType = among-all t ts f.0 a in
    (case-row ls (subst (λ u. ShapedLeaves ls (leaves_of u)) q f.1) x.0, case-rows ns ts f.2 a x.1)

-- ---- all leaves

either-way : (a b : Bool) → (a || b) ≡ true → (a ≡ true) ⊎ (b ≡ true)
either-way true b h = inl refl
either-way false b h = inr h

list-cased : (ns : Nodes) (ts : List Row) → ShapedNodes ns ts → (none_case ts ≡ true) ⊎ (all_case ts ≡ true) → NodesExpanded ns → (none_case ts ≡ true → CasesFirstInNodes ns) → CaseRows ns ⊎ CasesFirstInNodes ns
list-cased ns ts f (inl c) x more = inr (more c)
list-cased ns ts f (inr c) x more = inl (case-rows ns ts f c x)

mutual
  pub leaves-cased : (ls : Leaves) (ss : List Shape) → ShapedLeaves ls ss → caseless_all ss ≡ true → LeavesExpanded ls → holds_scope ls ≡ false → CasesFirst ls
  leaves-cased no_leaf ss f c x n = tt
  leaves-cased (l ▸ ls) [] f c x n = absurd f
  leaves-cased (l ▸ ls) (s ∷ ss) f c x n = (
    leaf-cased l s f.0 (and-both (caseless s) (caseless_all ss) c).0 x.0 (or-left (leaf_holds_scope l) (holds_scope ls) n),
    leaves-cased ls ss f.1 (and-both (caseless s) (caseless_all ss) c).1 x.1 (or-right (leaf_holds_scope l) (holds_scope ls) n),
  )

  leaf-cased : (l : Leaf) (s : Shape) → ShapedLeaf l s → caseless s ≡ true → LeafExpanded l → leaf_holds_scope l ≡ false → CasesFirstInLeaf l
  leaf-cased (ref r (inline n)) s f c x h = absurd x
  leaf-cased (ref r (bundle n)) s f c x h = absurd x
  leaf-cased (ref r t) s f c x h = tt
  leaf-cased (present l) s f c x h = leaf-cased l (the_option s) f.1 (option-caseless s c) x h
  leaf-cased (node (row t ls)) s f c x h = leaves-cased ls (leaves_of t) f.1 (table-caseless t (among-none t (rows_of_node s) f.0 (node-rows s c))) x h
  leaf-cased (nodes ns) s f c x h = list-cased ns (rows_of_list s) f.1 (either-way (none_case (rows_of_list s)) (all_case (rows_of_list s)) (list-rows s c)) x (λ q. nodes-cased ns (rows_of_list s) f.1 q x h)
  leaf-cased (case_id i) a_case_id f c x h = absurd (cc)
  leaf-cased (case_id i) s f c x h = no-case s f c
    where
      no-case : (s : Shape) → ShapedLeaf (case_id i) s → caseless s ≡ true → ⊥
      no-case a_case_id f c = cc
      no-case s f c = cc
  leaf-cased (scope s) k f c x h = absurd (cc)
  leaf-cased l s f c x h = tt

  nodes-cased : (ns : Nodes) (ts : List Row) → ShapedNodes ns ts → none_case ts ≡ true → NodesExpanded ns → nodes_hold_scope ns ≡ false → CasesFirstInNodes ns
  nodes-cased no_node ts f c x h = tt
  nodes-cased (one_node (row t ls) ns) ts f c x h =
      (leaves-cased ls (leaves_of t) f.1 (table-caseless t (among-none t ts f.0 c)) x.0 (or-left (holds_scope ls) (nodes_hold_scope ns) h), nodes-cased ns ts f.2 c x.1 (or-right (holds_scope ls) (nodes_hold_scope ns) h))

-- the leaves of a definition that is no case and holds no scope
pub row-cased : (t : Row) (ls : Leaves) → same_row t rows.CaseType ≡ false → ShapedLeaves ls (leaves_of t) → LeavesExpanded ls → holds_scope ls ≡ false → CasesFirst ls
row-cased t ls n f x h = leaves-cased ls (leaves_of t) f (table-caseless t n) x h
