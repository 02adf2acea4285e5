-- What is asked of parts, of the parts in them.
use Rattle.std.proofs.Common.{◌≡◌, Bool, true, false, ◌||◌, ℕ, zero, suc, ◌<◌, refl, sym, ap, ◌∙◌, subst, List, [], ◌∷◌, length, Option, Some, None, Bor, arith}
use Rattle.std.specs.Prelude.{get_or}
use Rattle.comp_model.specs.declared.Space.{Space}
use Rattle.comp_model.specs.CoreModules.{CoreModule}
use Rattle.comp_model.specs.Model as m
use Rattle.comp_scopes.specs.Names.{first_of_two}
use Rattle.comp_scopes.specs.Unmet.{Unmet}
use Rattle.comp_expanded.specs.IsExpanded.{LeafExpanded, LeavesExpanded, NodesExpanded}
use Rattle.comp_tables.specs.Tables.{Opened}
use Rattle.comp_tables.specs.Built.{missing_roots, missing_roots_leaf, missing_roots_nodes}
use Rattle.comp_scopes.specs.Rowed.{holds_scope, leaf_holds_scope, nodes_hold_scope}
use Rattle.comp_tree.specs.declared.tree.Leaf.{Leaf}
use Rattle.comp_tree.specs.declared.tree.Leaf as l
use Rattle.comp_tree.specs.declared.tree.Node.{Node}
use Rattle.comp_tree.specs.declared.tree.Scope.{Scope}
use Rattle.comp_tree.specs.Lists.{listed, nodes_listed}
use Rattle.comp_tree.specs.Model.{leaf_of}
use Rattle.comp_tree.proofs.Leaves.{leaf_present, leaf_node, leaf_nodes, leaf_inline, leaf_bundle, leaf_scope}
use Rattle.open_scopes.specs.declared.scopes.Open.{Open}
use Rattle.tree_names.specs.Ready.{Ready, LeafReady, LeavesReady, NodesReady}

or-both : (a b : Bool) → (a || b) ≡ false → (a ≡ false) × (b ≡ false)
or-both true b h = absurd (cc)
or-both false b h = (refl, h)

none-both : (a b : Option Unmet) → first_of_two a b ≡ None → (a ≡ None) × (b ≡ None)
none-both None b h = (refl, h)
none-both (Some x) b h = absurd (cc)

both-ready : {os : List Open} {A B : Type 0} (a b : Bool) (u v : List Opened → Option Unmet) → Ready os (A × B) (a || b) (λ ms. first_of_two (u ms) (v ms)) → Ready os A a u × Ready os B b v
both-ready a b u v r = (
  record { expanded = r.expanded.0; whole = (or-both a b r.whole).0; rooted = λ ms w. (none-both (u ms) (v ms) (r.rooted ms w)).0 },
  record { expanded = r.expanded.1; whole = (or-both a b r.whole).1; rooted = λ ms w. (none-both (u ms) (v ms) (r.rooted ms w)).1 },
)

-- ---- what stands in lists

module _ (C : List CoreModule) where
  pub leaf_expanded_at : (xs : List Leaf) (i : ℕ) (y : Leaf) → LeavesExpanded (listed C xs) → i < length xs → y ≡ get_or xs i y → LeafExpanded (leaf_of C y)
  leaf_expanded_at [] i y h n e = absurd (omega (arith, n))
  leaf_expanded_at (x ∷ xs) zero y h n e = subst (λ z. LeafExpanded (leaf_of C z)) (sym e) h.0
  leaf_expanded_at (x ∷ xs) (suc i) y h n e = leaf_expanded_at xs i y h.1 (omega (arith, n)) e

  pub node_expanded_at : (xs : List Node) (i : ℕ) (d : Node) → NodesExpanded (nodes_listed C xs) → i < length xs → LeavesExpanded (listed C (get_or xs i d).leaves.now)
  node_expanded_at [] i d h n = absurd (omega (arith, n))
  node_expanded_at (x ∷ xs) zero d h n = h.0
  node_expanded_at (x ∷ xs) (suc i) d h n = node_expanded_at xs i d h.1 (omega (arith, n))

  module _ (os : List Open) where
    pub leaf_ready_at : (xs : List Leaf) (i : ℕ) (y : Leaf) → LeavesReady os (listed C xs) → i < length xs → y ≡ get_or xs i y → LeafReady os (leaf_of C y)
    leaf_ready_at [] i y h n e = absurd (omega (arith, n))
    leaf_ready_at (x ∷ xs) zero y h n e =
        subst (λ z. LeafReady os (leaf_of C z)) (sym e)
        (both-ready (leaf_holds_scope (leaf_of C x)) (holds_scope (listed C xs)) (λ ms. missing_roots_leaf ms (leaf_of C x)) (λ ms. missing_roots ms (listed C xs)) h).0
    leaf_ready_at (x ∷ xs) (suc i) y h n e =
        leaf_ready_at xs i y (both-ready (leaf_holds_scope (leaf_of C x)) (holds_scope (listed C xs)) (λ ms. missing_roots_leaf ms (leaf_of C x)) (λ ms. missing_roots ms (listed C xs)) h).1 (omega (arith, n)) e

    pub node_ready_at : (xs : List Node) (i : ℕ) (d : Node) → NodesReady os (nodes_listed C xs) → i < length xs → LeavesReady os (listed C (get_or xs i d).leaves.now)
    node_ready_at [] i d h n = absurd (omega (arith, n))
    node_ready_at (x ∷ xs) zero d h n =
        (both-ready (holds_scope (listed C x.leaves.now)) (nodes_hold_scope (nodes_listed C xs)) (λ ms. missing_roots ms (listed C x.leaves.now)) (λ ms. missing_roots_nodes ms (nodes_listed C xs)) h).0
    node_ready_at (x ∷ xs) (suc i) d h n =
        node_ready_at xs i d
        (both-ready (holds_scope (listed C x.leaves.now)) (nodes_hold_scope (nodes_listed C xs)) (λ ms. missing_roots ms (listed C x.leaves.now)) (λ ms. missing_roots_nodes ms (nodes_listed C xs)) h).1
        (omega (arith, n))

    -- ---- what stands in a leaf

    pub present_ready : (x : Leaf) (y : Bor Leaf) → x ≡ l.Present y → LeafReady os (leaf_of C x) → LeafReady os (leaf_of C y.now)
    present_ready x y e h = let r : LeafReady os (m.present (leaf_of C y.now)) = subst (LeafReady os) (ap (leaf_of C) e ∙ leaf_present C y) h in record { expanded = r.expanded; whole = r.whole; rooted = r.rooted }

    pub node_ready : (x : Leaf) (n : Bor Node) → x ≡ l.Node n → LeafReady os (leaf_of C x) → LeavesReady os (listed C n.now.leaves.now)
    node_ready x n e h = let r = subst (LeafReady os) (ap (leaf_of C) e ∙ leaf_node C n) h in record { expanded = r.expanded; whole = r.whole; rooted = r.rooted }

    pub nodes_ready : (x : Leaf) (ns : Bor (List Node)) → x ≡ l.Nodes ns → LeafReady os (leaf_of C x) → NodesReady os (nodes_listed C ns.now)
    nodes_ready x ns e h = let r = subst (LeafReady os) (ap (leaf_of C) e ∙ leaf_nodes C ns) h in record { expanded = r.expanded; whole = r.whole; rooted = r.rooted }

    pub scope_unready : (x : Leaf) (s : Bor Scope) → x ≡ l.Scope s → LeafReady os (leaf_of C x) → ⊥
    scope_unready x s e h = let r = subst (LeafReady os) (ap (leaf_of C) e ∙ leaf_scope C s) h in let w : true ≡ false = r.whole in absurd (cc)

  pub present_expanded : (x : Leaf) (y : Bor Leaf) → x ≡ l.Present y → LeafExpanded (leaf_of C x) → LeafExpanded (leaf_of C y.now)
  present_expanded x y e h = subst LeafExpanded (ap (leaf_of C) e ∙ leaf_present C y) h

  pub node_expanded : (x : Leaf) (n : Bor Node) → x ≡ l.Node n → LeafExpanded (leaf_of C x) → LeavesExpanded (listed C n.now.leaves.now)
  node_expanded x n e h = subst LeafExpanded (ap (leaf_of C) e ∙ leaf_node C n) h

  pub nodes_expanded : (x : Leaf) (ns : Bor (List Node)) → x ≡ l.Nodes ns → LeafExpanded (leaf_of C x) → NodesExpanded (nodes_listed C ns.now)
  nodes_expanded x ns e h = subst LeafExpanded (ap (leaf_of C) e ∙ leaf_nodes C ns) h

  pub inline_unexpanded : (x : Leaf) (u : Space) (n : Bor Node) → x ≡ l.Inline u n → LeafExpanded (leaf_of C x) → ⊥
  inline_unexpanded x u n e h = subst LeafExpanded (ap (leaf_of C) e ∙ leaf_inline C u n) h

  pub bundle_unexpanded : (x : Leaf) (u : Space) (n : Bor Node) → x ≡ l.Bundle u n → LeafExpanded (leaf_of C x) → ⊥
  bundle_unexpanded x u n e h = subst LeafExpanded (ap (leaf_of C) e ∙ leaf_bundle C u n) h
