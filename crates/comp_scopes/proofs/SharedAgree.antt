-- A type that reuses an equal one agrees with the node of that one.
use Rattle.std.proofs.Common.{◌≡◌, ℕ, ◌+◌, true, is_some, List, [], ◌∷◌, length, Option, Some, None, refl, sym, ◌∙◌, ap, subst}
use Rattle.comp_model.specs.declared.Space.{Space}
use Rattle.comp_model.specs.declared.row.Row.{Row}
use Rattle.comp_model.specs.Core.{Id, Reach, own}
use Rattle.comp_model.specs.Model.{Leaf, text, number, absent, present, nodes, case_id, ref, index, numeral, name, Path, path, inline, Leaves, no_leaf, ◌▸◌, row, Nodes, no_node, one_node, Scope, defs_of}
use Rattle.comp_model.specs.Spaces.{declares_row}
use Rattle.comp_model.specs.Origins.{Origin, inline_type, Held}
use Rattle.comp_scopes.specs.Encoding.{Encoding}
use Rattle.comp_scopes.specs.Names.{denotes}
use Rattle.comp_scopes.specs.References.{references, references_leaf, instance_space}
use Rattle.comp_scopes.specs.Rule.{Reached, RootStands, RuleOfLeaves, RuleOfLeaf, RuleOfNodes}
use Rattle.comp_scopes.specs.Signatures.{same_reach}
use Rattle.comp_scopes.specs.Reused.{is_shared, reused}
use Rattle.comp_scopes.specs.Outward.{leads_out}
use Rattle.comp_scopes.specs.Plan.{marks, before}
use Rattle.comp_scopes.specs.Form.{Made, Formed, own_made, form_inline, form_name, path_index, form_defs, form_leaves, form_leaf, form_nodes, built}
use Rattle.comp_scopes.specs.Rowed.{AllRowed, LeavesRowed, LeafRowed, NodesRowed}
use Rattle.comp_scopes.specs.Renders.{item, binary_at, LeadsTo, PathIs, IsLeafOf, RowThere, LeavesAgree, LeafAgrees, NodesAgree, built_stack}
use Rattle.comp_scopes.proofs.Lookup.{the_item, Sits, built-item}
use Rattle.comp_scopes.proofs.Each.{Each, each-left, each-right, one-each}
use Rattle.comp_scopes.proofs.Same.{SameId, denotes-same, reached-same}
use Rattle.comp_scopes.proofs.NamesAgree.{name-agrees, path-agrees, leads-same}
use Rattle.comp_scopes.proofs.SameNodes.{SameLeaves, same_more, SameLeaf, same_text, same_number, same_absent, same_present, same_list, same_id_of_case, same_numeral, same_named, same_steps, same_inline, SameNodes, same_no_node, same_one_node, SamePath, same_root_number, same_root_name, same_export, leaves-same, leaves-passed, same-id, same_reach-back}
use Rattle.comp_scopes.proofs.Types.{Equal, TypeAt, shared-declares, reused-type}

module _ (e : Encoding) where
  -- ---- paths

  root-stands : (st : List Scope) (s : Space) (p q : Path) → SamePath p q → RootStands st s p → RootStands st s q
  root-stands st s _ _ (same_root_number o p n) r = tt
  root-stands st s _ _ (same_root_name x y a) r = subst (λ o. is_some o ≡ true) (denotes-same st s own own x y refl a) r
  root-stands st s _ _ (same_export p q t a) r = root-stands st (instance_space s) p q a r

  path-is : (st : List Scope) (bst : List (List Made)) (s : Space) (p q : Path) (i : ℕ) → SamePath p q → PathIs st bst s q i → PathIs st bst s p i
  path-is st bst s _ _ i (same_root_number o p n) h = h
  path-is st bst s _ _ i (same_root_name x y a) h = leads-same e st bst s own own y x i refl (same-id y x (sym a.0, sym a.1)) h
  path-is st bst s _ _ i (same_export p q t a) h =
      record { declaration = h.declaration; found = h.found; index = h.index; declared = h.declared; stands = h.stands; is_step = h.is_step; is_alias = h.is_alias; fact = path-is st bst (instance_space s) p q h.index a h.fact }

  -- ---- leaves

  -- leaves ls agree with what equal leaves ms become, where these stand as reference u of definition k
  abbrev InlineAgrees : List Scope → Scope → Space → Row → Leaves → Formed Leaf → Type 0
  InlineAgrees st c s t ls f = IsLeafOf f.here (λ i. ref s (index i)) (λ i. RowThere (binary_at (built_stack e (c ∷ st)) 0) s t (λ o. Unit {0}) (λ g bs. LeavesAgree e (c ∷ st) (built_stack e (c ∷ st)) g ls bs) i)

  type-space : (t : Row) (ls : Leaves) (s : Space) → is_shared t ≡ true → declares_row t ls ≡ s ∷ [] → (bs : Leaves) → declares_row t bs ≡ s ∷ []
  type-space t ls s h d bs = shared-declares t bs h ∙ sym (shared-declares t ls h) ∙ d

  -- the type that stands for one with leaves ms, whose leaves those agree with
  stands-for : (st : List Scope) (c : Scope) (k u : ℕ) (s : Space) (t : Row) (ls ms : Leaves) (o : Origin) → is_shared t ≡ true → ((bs : Leaves) → declares_row t bs ≡ s ∷ [])
      → SameLeaves ls ms → reused (c ∷ st) k u t ms ≡ Some o
      → ((i v : ℕ) (h : Held) (ks : Leaves) → SameLeaves ls ks → Each (Sits (built e st c)) (form_leaves e (c ∷ st) i v ks) → LeavesAgree e (c ∷ st) (built_stack e (c ∷ st)) h ls (form_leaves e (c ∷ st) i v ks).here)
      → (f : Formed Leaf) → f.here ≡ ref s (index (before s o (marks (c ∷ st)))) → InlineAgrees st c s t ls f
  stands-for st c k u s t ls ms o g d x q rec f z =
      let y : Equal (TypeAt e st c (0 + length (form_defs e (c ∷ st) 0 (defs_of c)))) t ms o = reused-type e st c k u t ms o g q in
      let k' : ℕ = y.1.0 in
      let u' : ℕ = y.1.1 in
      let a : Formed Leaves = form_leaves e (c ∷ st) y.1.0 y.1.1 y.0.leaves in
      let m : Made = own_made y.0.origin (row y.0.tag) (form_leaves e (c ∷ st) y.1.0 y.1.1 y.0.leaves) in
      let d' : declares_row y.0.tag a.here ≡ s ∷ [] = subst (λ v. declares_row v (form_leaves e (c ∷ st) y.1.0 y.1.1 y.0.leaves).here ≡ s ∷ []) y.3 (d a.here) in
      record {
        part = before s o (marks (c ∷ st));
        is_leaf = z;
        fact = record {
          declaration = the_item s y.1.2 0;
          found = own_made y.0.origin (row y.0.tag) (form_leaves e (c ∷ st) y.1.0 y.1.1 y.0.leaves);
          leaves = (form_leaves e (c ∷ st) y.1.0 y.1.1 y.0.leaves).here;
          declared = subst (λ v. item (built e st c) s (before s v (marks (c ∷ st))) ≡ Some (the_item s y.1.2 0)) y.2 (built-item e st c y.1.2 m s y.1.4 d');
          stands = y.1.4;
          is_marked = tt;
          has_row = ap (λ v. row v (form_leaves e (c ∷ st) y.1.0 y.1.1 y.0.leaves).here) (sym y.3);
          fact = rec y.1.0 y.1.1 (form_leaves e (c ∷ st) y.1.0 y.1.1 y.0.leaves).held y.0.leaves (leaves-passed ls ms y.0.leaves x (leaves-same ms y.0.leaves y.4)) y.1.5;
        };
      }

  -- an inline node within
  inline-same : (st : List Scope) (c : Scope) (k u : ℕ) (s : Space) (t : Row) (ls ms : Leaves) (j : Option Origin) → is_shared t ≡ true → ((bs : Leaves) → declares_row t bs ≡ s ∷ [])
      → SameLeaves ls ms → reused (c ∷ st) k u t ms ≡ j
      → Each (Sits (built e st c)) (form_inline (c ∷ st) k u s t j (form_leaves e (c ∷ st) k (u + 1) ms))
      → ((i v : ℕ) (h : Held) (ks : Leaves) → SameLeaves ls ks → Each (Sits (built e st c)) (form_leaves e (c ∷ st) i v ks) → LeavesAgree e (c ∷ st) (built_stack e (c ∷ st)) h ls (form_leaves e (c ∷ st) i v ks).here)
      → InlineAgrees st c s t ls (form_inline (c ∷ st) k u s t j (form_leaves e (c ∷ st) k (u + 1) ms))
  inline-same st c k u s t ls ms (Some o) g d x q n rec = stands-for st c k u s t ls ms o g d x q rec (form_inline (c ∷ st) k u s t (Some o) (form_leaves e (c ∷ st) k (u + 1) ms)) refl
  inline-same st c k u s t ls ms None g d x q n rec =
      let a : Formed Leaves = form_leaves e (c ∷ st) k (u + 1) ms in
      let m : Made = own_made (inline_type k u) (row t) a in
      let y : Each (Sits (built e st c)) a × Sits (built e st c) m = one-each (Sits (built e st c)) (inline_type k u) (row t) a n.0 in
      record {
        part = before s (inline_type k u) (marks (c ∷ st));
        is_leaf = refl;
        fact = record {
          declaration = the_item s y.1.0 0;
          found = own_made (inline_type k u) (row t) (form_leaves e (c ∷ st) k (u + 1) ms);
          leaves = (form_leaves e (c ∷ st) k (u + 1) ms).here;
          declared = built-item e st c y.1.0 m s y.1.1 (d a.here);
          stands = y.1.1;
          is_marked = tt;
          has_row = refl;
          fact = rec k (u + 1) (form_leaves e (c ∷ st) k (u + 1) ms).held ms x y.0;
        };
      }

  named-same : (st : List Scope) (c : Scope) (k u : ℕ) (s : Space) (r q : Reach) (x y : Id) → AllRowed (c ∷ st) → Reached r s (denotes (c ∷ st) s r x) → same_reach r q ≡ true → same_reach q r ≡ true → SameId x y
      → Each (Sits (built e st c)) (form_name (c ∷ st) k u s (leads_out q (denotes (c ∷ st) s q y)) (denotes (c ∷ st) s q y))
      → IsLeafOf (ref s (index (form_name (c ∷ st) k u s (leads_out q (denotes (c ∷ st) s q y)) (denotes (c ∷ st) s q y)).here)) (λ i. ref s (index i)) (λ i. LeadsTo (c ∷ st) (built_stack e (c ∷ st)) s r x i)
  named-same st c k u s r q x y w v a b f n =
      let z : denotes (c ∷ st) s r x ≡ denotes (c ∷ st) s q y = denotes-same (c ∷ st) s r q x y a f in
      let i : Reached q s (denotes (c ∷ st) s q y) = reached-same s q r (denotes (c ∷ st) s q y) b (subst (Reached r s) z v) in
      record {
        part = (form_name (c ∷ st) k u s (leads_out q (denotes (c ∷ st) s q y)) (denotes (c ∷ st) s q y)).here;
        is_leaf = refl;
        fact = leads-same e (c ∷ st) (built_stack e (c ∷ st)) s q r y x (form_name (c ∷ st) k u s (leads_out q (denotes (c ∷ st) s q y)) (denotes (c ∷ st) s q y)).here b (same-id y x (sym f.0, sym f.1))
            (name-agrees e st c k u s q y (denotes (c ∷ st) s q y) w refl i n);
      }

  mutual
    leaves-agree_same : (st : List Scope) (c : Scope) (k u : ℕ) (h : Held) (ls ms : Leaves) → AllRowed (c ∷ st) → LeavesRowed ls → RuleOfLeaves e (c ∷ st) ls → SameLeaves ls ms
        → Each (Sits (built e st c)) (form_leaves e (c ∷ st) k u ms) → LeavesAgree e (c ∷ st) (built_stack e (c ∷ st)) h ls (form_leaves e (c ∷ st) k u ms).here
    leaves-agree_same st c k u h no_leaf no_leaf v w r x n = refl
    leaves-agree_same st c k u h (l ▸ ls) (m ▸ ms) v w r (same_more _ _ _ _ x y) n =
        let a : Formed Leaf = form_leaf e (c ∷ st) k u m in
        let b : Formed Leaves = form_leaves e (c ∷ st) k (u + references_leaf m) ms in
        record {
          first = (form_leaf e (c ∷ st) k u m).here;
          later = (form_leaves e (c ∷ st) k (u + references_leaf m) ms).here;
          are = refl;
          first_fact = leaf-agrees_same st c k u h l m v w.1 r.0 x (each-left (Sits (built e st c)) (λ b bs. b ▸ bs) a b n);
          later_fact = leaves-agree_same st c k (u + references_leaf m) h ls ms v w.2 r.1 y (each-right (Sits (built e st c)) (λ b bs. b ▸ bs) a b n);
        }
    leaves-agree_same st c k u h no_leaf (m ▸ ms) v w r x n = elim x [ ]
    leaves-agree_same st c k u h (l ▸ ls) no_leaf v w r x n = elim x [ ]

    leaf-agrees_same : (st : List Scope) (c : Scope) (k u : ℕ) (h : Held) (l m : Leaf) → AllRowed (c ∷ st) → LeafRowed l → RuleOfLeaf e (c ∷ st) l → SameLeaf l m
        → Each (Sits (built e st c)) (form_leaf e (c ∷ st) k u m) → LeafAgrees e (c ∷ st) (built_stack e (c ∷ st)) h l (form_leaf e (c ∷ st) k u m).here
    leaf-agrees_same st c k u h (text t) _ v w r (same_text _) n = refl
    leaf-agrees_same st c k u h (number i) _ v w r (same_number _) n = refl
    leaf-agrees_same st c k u h absent _ v w r same_absent n = refl
    leaf-agrees_same st c k u h (present l) _ v w r (same_present _ m x) n = record { part = (form_leaf e (c ∷ st) k u m).here; is_leaf = refl; fact = leaf-agrees_same st c k u h l m v w r x n }
    leaf-agrees_same st c k u h (nodes ns) _ v w r (same_list _ ks x) n = record { part = (form_nodes e (c ∷ st) k u ks).here; is_leaf = refl; fact = nodes-agree_same st c k u h ns ks v w r.1 x n }
    leaf-agrees_same st c k u h (case_id x) _ v w r (same_id_of_case _ y a) n = refl
    leaf-agrees_same st c k u h (ref s (numeral o i)) _ v w r (same_numeral _ _ p _) n = refl
    leaf-agrees_same st c k u h (ref s (name q x)) _ v w r (same_named _ _ p _ y a b) n = named-same st c k u s q p x y v r a (same_reach-back q p a) b n
    leaf-agrees_same st c k u h (ref s (path p)) _ v w r (same_steps _ _ q a) n =
        record { part = path_index (c ∷ st) k u s q; is_leaf = refl; fact = path-is (c ∷ st) (built_stack e (c ∷ st)) s p q (path_index (c ∷ st) k u s q) a (path-agrees e st c k u s q v (root-stands (c ∷ st) s p q a r.1) n.2) }
    leaf-agrees_same st c k u h (ref s (inline (row t ls))) _ v w r (same_inline _ _ _ ms g x) n =
        inline-same st c k u s t ls ms (reused (c ∷ st) k u t ms) g (type-space t ls s g w.0) x refl n (λ i y f ks z a. leaves-agree_same st c i y f ls ks v w.1 r z a)
    leaf-agrees_same st c k u h l m v w r x n = elim x [ ]

    nodes-agree_same : (st : List Scope) (c : Scope) (k u : ℕ) (h : Held) (ns ks : Nodes) → AllRowed (c ∷ st) → NodesRowed ns → RuleOfNodes e (c ∷ st) ns → SameNodes ns ks
        → Each (Sits (built e st c)) (form_nodes e (c ∷ st) k u ks) → NodesAgree e (c ∷ st) (built_stack e (c ∷ st)) h ns (form_nodes e (c ∷ st) k u ks).here
    nodes-agree_same st c k u h no_node _ v w r same_no_node n = refl
    nodes-agree_same st c k u h (one_node (row t ls) ns) _ v w r (same_one_node _ _ ms _ ks x y) n =
        let a : Formed Leaves = form_leaves e (c ∷ st) k u ms in
        let b : Formed Nodes = form_nodes e (c ∷ st) k (u + references ms) ks in
        record {
          first = (form_leaves e (c ∷ st) k u ms).here;
          later = (form_nodes e (c ∷ st) k (u + references ms) ks).here;
          are = refl;
          first_fact = leaves-agree_same st c k u h ls ms v w.1 r.0 x (each-left (Sits (built e st c)) (λ bs cs. one_node (row t bs) cs) a b n);
          later_fact = nodes-agree_same st c k (u + references ms) h ns ks v w.2 r.1 y (each-right (Sits (built e st c)) (λ bs cs. one_node (row t bs) cs) a b n);
        }

  -- a shared type that reuses another
  pub type-agrees : (st : List Scope) (c : Scope) (k u : ℕ) (h : Held) (s : Space) (t : Row) (ls : Leaves) (o : Origin) → AllRowed (c ∷ st) → LeavesRowed ls → is_shared t ≡ true → reused (c ∷ st) k u t ls ≡ Some o → declares_row t ls ≡ s ∷ []
      → RuleOfLeaves e (c ∷ st) ls → LeafAgrees e (c ∷ st) (built_stack e (c ∷ st)) h (ref s (inline (row t ls))) (ref s (index (before s o (marks (c ∷ st)))))
  type-agrees st c k u h s t ls o v w g q d r =
      let y : Equal (TypeAt e st c (0 + length (form_defs e (c ∷ st) 0 (defs_of c)))) t ls o = reused-type e st c k u t ls o g q in
      let m : Made = own_made y.0.origin (row y.0.tag) (form_leaves e (c ∷ st) y.1.0 y.1.1 y.0.leaves) in
      let d' : declares_row y.0.tag (form_leaves e (c ∷ st) y.1.0 y.1.1 y.0.leaves).here ≡ s ∷ [] =
      subst (λ v. declares_row v (form_leaves e (c ∷ st) y.1.0 y.1.1 y.0.leaves).here ≡ s ∷ []) y.3 (type-space t ls s g d (form_leaves e (c ∷ st) y.1.0 y.1.1 y.0.leaves).here) in
      record {
        part = before s o (marks (c ∷ st));
        is_leaf = refl;
        fact = record {
          declaration = the_item s y.1.2 0;
          found = own_made y.0.origin (row y.0.tag) (form_leaves e (c ∷ st) y.1.0 y.1.1 y.0.leaves);
          leaves = (form_leaves e (c ∷ st) y.1.0 y.1.1 y.0.leaves).here;
          declared = subst (λ v. item (built e st c) s (before s v (marks (c ∷ st))) ≡ Some (the_item s y.1.2 0)) y.2 (built-item e st c y.1.2 m s y.1.4 d');
          stands = y.1.4;
          is_marked = tt;
          has_row = ap (λ v. row v (form_leaves e (c ∷ st) y.1.0 y.1.1 y.0.leaves).here) (sym y.3);
          fact = leaves-agree_same st c y.1.0 y.1.1 (form_leaves e (c ∷ st) y.1.0 y.1.1 y.0.leaves).held ls y.0.leaves v w r (leaves-same ls y.0.leaves y.4) y.1.5;
        };
      }
