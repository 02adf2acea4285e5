-- A definition that stays as it is.
use Rattle.std.proofs.Common.{◌≡◌, ℕ, ◌+◌, false, ◌||◌, List, [], ◌∷◌, ◌++◌, length, drop, refl, sym, ap, ◌∙◌, append-nil, Option, Some, None, subst}
use Rattle.comp_model.specs.Core.{Id, ref_numeral, ref_name}
use Rattle.comp_model.specs.CoreModules.{CoreModule}
use Rattle.comp_model.specs.Model as m
use Rattle.comp_model.specs.Model.{◌▸◌, row}
use Rattle.comp_model.specs.Spaces.{declares_row}
use Rattle.comp_scopes.specs.Encoding.{Encoding}
use Rattle.comp_scopes.specs.Form.{coded_node}
use Rattle.comp_scopes.specs.Names.{first_of_two}
use Rattle.comp_scopes.specs.References.{references, references_leaf}
use Rattle.comp_scopes.specs.Resolved.{binary_of_leaf, binary_of_leaves, binary_of_nodes}
use Rattle.comp_scopes.specs.Rowed.{holds_scope, leaf_holds_scope, nodes_hold_scope}
use Rattle.comp_scopes.specs.Rule.{case_ids}
use Rattle.comp_scopes.specs.Unmet.{unmet_cases}
use Rattle.comp_expanded.specs.IsExpanded.{LeafExpanded, LeavesExpanded, NodesExpanded}
use Rattle.comp_expanded.specs.IsResolved.{LeafResolved, LeavesResolved, NodesResolved}
use Rattle.comp_expanded.specs.TextNumbers.{definition_of}
use Rattle.comp_tables.specs.Tables.{Counters, Opened, past, past_leaf, past_nodes, needs, needs_leaf, needs_nodes}
use Rattle.comp_tables.specs.Built.{missing_roots, missing_roots_leaf, missing_roots_nodes, missing, missing_leaf, missing_nodes}
use Rattle.comp_tables.specs.Walks.{counters_in, all_more}
use Rattle.comp_wire.specs.Origins.{origin_of}
use Rattle.comp_tree.specs.declared.tree.Def.{Def}
use Rattle.comp_tree.specs.declared.tree.Leaf.{Leaf}
use Rattle.comp_tree.specs.declared.tree.Node.{Node}
use Rattle.comp_tree.specs.Lists.{listed, nodes_listed}
use Rattle.comp_tree.specs.Marks.{places_in, inside_listed}
use Rattle.comp_tree.specs.Model.{leaf_of}
use Rattle.open_scopes.specs.declared.lookup.Found.{Found}
use Rattle.open_scopes.specs.declared.scopes.Open.{Open}
use Rattle.tree_names.specs.AllFound.{all_found, leaf_found, nodes_found, FoundTaken}
use Rattle.tree_names.specs.Served.{all_served, leaf_served, nodes_served}
use Rattle.tree_names.specs.Settled.{settled, settled_leaf, settled_nodes}
use Rattle.tree_names.proofs.Placed.{settled_is_renumbered}
use Rattle.tree_resolve.specs.Made.{mades, own_names, DefBuilt}
use Rattle.tree_resolve.specs.Plain.{Plain, PlainLeaf, PlainNodes}
use Rattle.tree_resolve.proofs.Building.{Needed, BecomesDef, definition-built}
use Rattle.tree_resolve.proofs.Held.{none-held}
use Rattle.tree_resolve.proofs.Planned.{none-planned}

-- what is asked of a part, what is made of it and what is found for it hang on no table
record LeafStays (e : Encoding) (ms : List Opened) (l : m.Leaf) : Type 0 where
  roots : missing_roots_leaf ms l ≡ None
  known : missing_leaf e ms l ≡ None
  passed : (c : Counters) → past_leaf ms l c ≡ c
  alone : (j : ℕ) (vs : List ℕ) (c : Counters) → needs_leaf ms j vs l c ≡ []
  served : (c : Counters) → leaf_served ms l c ≡ []
  found : leaf_found ms l ≡ []
  resolved : LeafResolved l
  expanded : LeafExpanded l
  here : (c : Counters) → binary_of_leaf e l ≡ settled_leaf e ms l c
  whole : leaf_holds_scope l ≡ false
  caseless : (ls : m.Leaves) → case_ids (l ▸ ls) ≡ case_ids ls

record Stays (e : Encoding) (ms : List Opened) (ls : m.Leaves) : Type 0 where
  roots : missing_roots ms ls ≡ None
  known : missing e ms ls ≡ None
  passed : (c : Counters) → past ms ls c ≡ c
  alone : (j : ℕ) (vs : List ℕ) (c : Counters) → needs ms j vs ls c ≡ []
  served : (c : Counters) → all_served ms ls c ≡ []
  found : all_found ms ls ≡ []
  resolved : LeavesResolved ls
  expanded : LeavesExpanded ls
  here : (c : Counters) → binary_of_leaves e ls ≡ settled e ms ls c
  whole : holds_scope ls ≡ false
  caseless : case_ids ls ≡ []

record NodesStay (e : Encoding) (ms : List Opened) (ns : m.Nodes) : Type 0 where
  roots : missing_roots_nodes ms ns ≡ None
  known : (earlier : List Id) → missing_nodes e ms earlier ns ≡ None
  passed : (c : Counters) → past_nodes ms ns c ≡ c
  alone : (j : ℕ) (vs : List ℕ) (c : Counters) → needs_nodes ms j vs ns c ≡ []
  served : (c : Counters) → nodes_served ms ns c ≡ []
  found : nodes_found ms ns ≡ []
  resolved : NodesResolved ns
  expanded : NodesExpanded ns
  here : (c : Counters) → binary_of_nodes e ns ≡ settled_nodes e ms ns c
  whole : nodes_hold_scope ns ≡ false

module _ (e : Encoding) (ms : List Opened) where
  mutual
    stays : (ls : m.Leaves) → Plain ls → Stays e ms ls
    stays m.no_leaf h = record { roots = refl; known = refl; passed = λ c. refl; alone = λ j vs c. refl; served = λ c. refl; found = refl; resolved = tt; expanded = tt; here = λ c. refl; whole = refl; caseless = refl }
    stays (l ▸ ls) h =
        let s = leaf-stays l h.0 in
        let r = stays ls h.1 in
        record {
          roots = ap (λ z. first_of_two z (missing_roots ms ls)) s.roots ∙ r.roots;
          known = ap (λ z. first_of_two z (missing e ms ls)) s.known ∙ r.known;
          passed = λ c. ap (past ms ls) (s.passed c) ∙ r.passed c;
          alone = λ j vs c. ap (λ z. z ++ needs ms j (drop (references_leaf l) vs) ls (past_leaf ms l c)) (s.alone j vs c) ∙ r.alone j (drop (references_leaf l) vs) (past_leaf ms l c);
          served = λ c. ap (λ z. z ++ all_served ms ls (past_leaf ms l c)) (s.served c) ∙ r.served (past_leaf ms l c);
          found = ap (λ z. z ++ all_found ms ls) s.found ∙ r.found;
          resolved = (s.resolved, r.resolved);
          expanded = (s.expanded, r.expanded);
          here = λ c. ap (λ z. z ▸ binary_of_leaves e ls) (s.here c) ∙ ap (λ z. settled_leaf e ms l c ▸ z) (r.here (past_leaf ms l c));
          whole = ap (λ b. b || holds_scope ls) s.whole ∙ r.whole;
          caseless = s.caseless ls ∙ r.caseless;
        }

    leaf-stays : (l : m.Leaf) → PlainLeaf l → LeafStays e ms l
    leaf-stays (m.core_value (ref_name b r x)) h = absurd h
    leaf-stays (m.core_value (ref_numeral b o n)) h = record { roots = refl; known = refl; passed = λ c. refl; alone = λ j vs c. refl; served = λ c. refl; found = refl; resolved = tt; expanded = tt; here = λ c. refl; whole = refl; caseless = λ ls. refl }
    leaf-stays (m.ref s (m.numeral o n)) h = record { roots = refl; known = refl; passed = λ c. refl; alone = λ j vs c. refl; served = λ c. refl; found = refl; resolved = tt; expanded = tt; here = λ c. refl; whole = refl; caseless = λ ls. refl }
    leaf-stays (m.ref s t) h = absurd h
    leaf-stays (m.place p) h = absurd h
    leaf-stays (m.present l) h =
        let s = leaf-stays l h in
        record { roots = s.roots; known = s.known; passed = s.passed; alone = s.alone; served = s.served; found = s.found; resolved = s.resolved; expanded = s.expanded; here = λ c. ap m.present (s.here c); whole = s.whole; caseless = λ ls. refl }
    leaf-stays (m.node (row t ls)) h =
        let s = stays ls h in
        record { roots = s.roots; known = s.known; passed = s.passed; alone = s.alone; served = s.served; found = s.found; resolved = s.resolved; expanded = s.expanded; here = λ c. ap (λ z. m.node (row t z)) (s.here c); whole = s.whole; caseless = λ xs. refl }
    leaf-stays (m.nodes ns) h =
        let s = nodes-stay ns h in
        record { roots = s.roots; known = s.known []; passed = s.passed; alone = s.alone; served = s.served; found = s.found; resolved = s.resolved; expanded = s.expanded; here = λ c. ap m.nodes (s.here c); whole = s.whole; caseless = λ ls. refl }
    leaf-stays (m.case_id (Some x)) h = absurd h
    leaf-stays (m.case_id None) h = record { roots = refl; known = refl; passed = λ c. refl; alone = λ j vs c. refl; served = λ c. refl; found = refl; resolved = tt; expanded = tt; here = λ c. refl; whole = refl; caseless = λ ls. refl }
    leaf-stays (m.result_ids ids) h = absurd h
    leaf-stays (m.core_source k) h = absurd h
    leaf-stays (m.scope s) h = absurd h
    leaf-stays l h = record { roots = refl; known = refl; passed = λ c. refl; alone = λ j vs c. refl; served = λ c. refl; found = refl; resolved = tt; expanded = tt; here = λ c. refl; whole = refl; caseless = λ ls. refl }

    nodes-stay : (ns : m.Nodes) → PlainNodes ns → NodesStay e ms ns
    nodes-stay m.no_node h = record { roots = refl; known = λ earlier. refl; passed = λ c. refl; alone = λ j vs c. refl; served = λ c. refl; found = refl; resolved = tt; expanded = tt; here = λ c. refl; whole = refl }
    nodes-stay (m.one_node (row t ls) ns) h =
        let s = stays ls h.0 in
        let r = nodes-stay ns h.1 in
        record {
          roots = ap (λ z. first_of_two z (missing_roots_nodes ms ns)) s.roots ∙ r.roots;
          known = λ earlier.
              ap (λ xs. first_of_two (unmet_cases earlier xs) (first_of_two (missing e ms ls) (missing_nodes e ms (case_ids ls ++ earlier) ns))) s.caseless
              ∙ ap (λ z. first_of_two z (missing_nodes e ms (case_ids ls ++ earlier) ns)) s.known ∙ r.known (case_ids ls ++ earlier);
          passed = λ c. ap (past_nodes ms ns) (s.passed c) ∙ r.passed c;
          alone = λ j vs c. ap (λ z. z ++ needs_nodes ms j (drop (references ls) vs) ns (past ms ls c)) (s.alone j vs c) ∙ r.alone j (drop (references ls) vs) (past ms ls c);
          served = λ c. ap (λ z. z ++ nodes_served ms ns (past ms ls c)) (s.served c) ∙ r.served (past ms ls c);
          found = ap (λ z. z ++ nodes_found ms ns) s.found ∙ r.found;
          resolved = (s.resolved, r.resolved);
          expanded = (s.expanded, r.expanded);
          here = λ c. ap (λ z. m.one_node (row t z) (binary_of_nodes e ns)) (s.here c) ∙ ap (m.one_node (row t (settled e ms ls c))) (r.here (past ms ls c));
          whole = ap (λ b. b || nodes_hold_scope ns) s.whole ∙ r.whole;
        }

-- one leaf more is looked at
pub plain-more : (C : List CoreModule) (all : List Leaf) (n : ℕ) (x : Leaf) → drop n all ≡ x ∷ drop (n + 1) all → PlainLeaf (leaf_of C x) → Plain (listed C (drop (n + 1) all)) → Plain (listed C (drop n all))
plain-more C all n x e p h = subst (λ z. Plain (listed C z)) (sym e) (p, h)

pub plain-node-more : (C : List CoreModule) (all : List Node) (n : ℕ) (x : Node) → drop n all ≡ x ∷ drop (n + 1) all → Plain (listed C x.leaves.now) → PlainNodes (nodes_listed C (drop (n + 1) all)) → PlainNodes (nodes_listed C (drop n all))
plain-node-more C all n x e p h = subst (λ z. PlainNodes (nodes_listed C z)) (sym e) (p, h)

-- nothing is found for it
pub plain-taken : (e : Encoding) (os : List Open) (ls : m.Leaves) (left : List (Option Found)) → Plain ls → FoundTaken os (λ ms. all_found ms ls) left left
plain-taken e os ls left p ms w = ap (λ z. z ++ left) (sym (stays e ms ls p).found)

module _ (e : Encoding) (C : List CoreModule) (os : List Open) (counts : List ℕ) (served : List (Option ℕ)) (d : Def) (old : List Def) (p : Plain (listed C d.node.leaves.now)) where
  nothing-needed : Needed e C os counts served d old old
  nothing-needed = record {
    grown = λ ms c more w x y. sym (append-nil (mades e C old)) ∙ ap (λ q. mades e C old ++ q) (sym ((stays e ms (listed C d.node.leaves.now) p).alone (definition_of (origin_of d.origin)) (places_in C d) c));
    named = λ s b. refl;
    any = refl;
    resolved = λ h. h;
  }

  becomes-itself : BecomesDef e C os counts served d d
  becomes-itself = record {
    origin = refl;
    names = refl;
    head = refl;
    declares = refl;
    resolved = (stays e [] (listed C d.node.leaves.now) p).resolved;
    made = λ ms c more w x y.
        let s = stays e ms (listed C d.node.leaves.now) p in
        ap (coded_node e d.node.row (listed C d.node.leaves.now)) (s.here c ∙ sym (settled_is_renumbered e ms (listed C d.node.leaves.now) c s.expanded));
    held = λ ms w.
        let whole = (stays e ms (listed C d.node.leaves.now) p).whole in
        none-planned C d.node.leaves.now whole ∙ sym (none-held e ms (inside_listed C d.node.leaves.now) (listed C d.node.leaves.now) whole);
  }

  pub plain-built : (new : List Def) (behind : List ℕ) → length counts ≡ 13 → (own_names d).exports ≡ [] → new ≡ old ++ d ∷ [] → behind ≡ all_more counts (declares_row d.node.row (listed C d.node.leaves.now)) → DefBuilt e C os counts served d old new behind served
  plain-built new behind z x g b =
      definition-built nothing-needed becomes-itself new counts behind served (declares_row d.node.row (listed C d.node.leaves.now)) g z
      (λ ms c more w u v. u ∙ ap (λ (q : Counters). q.counts) (sym ((stays e ms (listed C d.node.leaves.now) p).passed c)))
      (λ ms c more w u v. v ∙ ap (λ q. q ++ more) ((stays e ms (listed C d.node.leaves.now) p).served c)) refl b
      (λ ms w. let s = stays e ms (listed C d.node.leaves.now) p in ap (λ q. first_of_two q (missing e ms (listed C d.node.leaves.now))) s.roots ∙ s.known) x
