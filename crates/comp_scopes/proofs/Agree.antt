-- The form of a scope that meets the rule renders it under its plan.
use Rattle.comp_scopes.proofs.SharedAgree.{type-agrees}
use Rattle.std.proofs.Common.{◌≡◌, ℕ, ◌+◌, Bool, true, false, cond, List, [], ◌∷◌, Option, Some, None, refl, sym, ◌∙◌, ap, subst}
use Rattle.comp_model.specs.declared.Space.{Space}
use Rattle.comp_model.specs.declared.Space.TheVariants.{CoreType}
use Rattle.comp_model.specs.declared.row.Row.TheVariants as rows
use Rattle.comp_model.specs.declared.row.Row.{Row}
use Rattle.comp_model.specs.Core.{Place, counted, named}
use Rattle.comp_model.specs.Model.{Leaf, text, number, kind, core_value, ref, place, absent, present, node, nodes, case_id, result_ids, result_count, core_source, module_bytes, scope, index, numeral, name, path, inline, bundle, Leaves, no_leaf, ◌▸◌, row, Nodes, no_node, one_node, define, Defs, no_def, one_def, Scope, scope_of}
use Rattle.comp_model.specs.Spaces.{declares_row}
use Rattle.comp_model.specs.Origins.{Origin, written, inline_type, bundle_of, Held}
use Rattle.comp_scopes.specs.Encoding.{Encoding}
use Rattle.comp_scopes.specs.Names.{denotes, scope_named}
use Rattle.comp_scopes.specs.References.{references, references_leaf}
use Rattle.comp_scopes.specs.Rule.{PlaceStands, RuleOfDefs, RuleOfLeaves, RuleOfLeaf, RuleOfNodes, ScopeRule}
use Rattle.comp_scopes.specs.Reused.{is_shared, reused_type, as_written, reused}
use Rattle.comp_scopes.specs.Signatures.{reused_signature}
use Rattle.comp_scopes.specs.Outward.{leads_out}
use Rattle.comp_scopes.specs.Plan.{marks, before}
use Rattle.comp_scopes.specs.Form.{Made, Formed, own_made, form_one, form_inline, form_name, path_index, form_place, coded_node, form_defs, form_leaves, form_leaf, form_nodes, binary_defs, origins_of, built, plan, form}
use Rattle.comp_scopes.specs.Rowed.{AllRowed, DefsRowed, LeavesRowed, LeafRowed, NodesRowed}
use Rattle.comp_scopes.specs.Renders.{AllMade, item, PlaceIs, IsLeafOf, DefsRender, LeavesAgree, LeafAgrees, NodesAgree, Renders, built_stack}
use Rattle.comp_scopes.proofs.Formed.{declares-form}
use Rattle.comp_scopes.proofs.Lookup.{the_item, some-same, Sits, made-left, made-right, built-item}
use Rattle.comp_scopes.proofs.Each.{Each, each-left, each-right, one-each, bundle-each, defs-sit}
use Rattle.comp_scopes.proofs.NamesAgree.{place-agrees, name-agrees, path-agrees, value-agrees}
use Rattle.comp_scopes.proofs.Reuse.{WrittenSignature, reused-written, signature-agrees}
use Rattle.comp_scopes.proofs.Held.{Carries, leaf-or_leaves, leaves-or_nodes, carries-first, carries-second, carries-self}
use Rattle.comp_scopes.proofs.MarksRender.{placed-same, one-mark_each, marks-render}

module _ (e : Encoding) where
  place-is : (st : List Scope) (p : Place) → PlaceStands st p → IsLeafOf (place (form_place st p)) (λ d. place (counted 0 d)) (λ d. PlaceIs st p d)
  place-is st (counted o d) h = record { part = d; is_leaf = refl; fact = refl }
  place-is st (named o x) h = let q : (d : ℕ) × (Rattle.comp_scopes.specs.Form.form_depth (scope_named 0 st x) ≡ counted 0 d) × (scope_named 0 st x ≡ Some d) = place-agrees st x (scope_named 0 st x) refl h in record { part = q.0; is_leaf = ap place q.1; fact = q.2 }

  core_type-space : (ls : Leaves) (s : Space) → declares_row rows.CoreFunctionType ls ≡ s ∷ [] → CoreType ≡ s
  core_type-space ls s h = cc

  -- a signature that is reused
  signature : (st : List Scope) (c : Scope) (k : ℕ) (h : Held) (s : Space) (t : Row) (ls : Leaves) (o : Origin) → AllRowed (c ∷ st) → declares_row t ls ≡ s ∷ [] → RuleOfLeaves e (c ∷ st) ls → (j : Option ℕ) → reused_signature (c ∷ st) k t ls ≡ j → as_written j ≡ Some o
      → LeafAgrees e (c ∷ st) (built_stack e (c ∷ st)) h (ref s (inline (row t ls))) (ref s (index (before s o (marks (c ∷ st)))))
  signature st c k h s t ls o w d r None q z = absurd (cc)
  signature st c k h s t ls o w d r (Some j) q z =
      let x : (t ≡ rows.CoreFunctionType) × WrittenSignature e (c ∷ st) (built e st c) k j ls = reused-written e st c (built e st c) k t ls j (defs-sit e st c) q in
      let m : Made = own_made (written j) (row rows.CoreFunctionType) (form_leaves e (c ∷ st) j 0 x.1.1) in
      let i : CoreType ≡ s = core_type-space ls s (subst (λ v. declares_row v ls ≡ s ∷ []) x.0 d) in
      let y : written j ≡ o = some-same (written j) o z in
      record {
        part = before s o (marks (c ∷ st));
        is_leaf = refl;
        fact = record {
          declaration = the_item s x.1.0 0;
          found = m;
          leaves = (form_leaves e (c ∷ st) j 0 x.1.1).here;
          declared = subst (λ v. item (built e st c) s (before s v (marks (c ∷ st))) ≡ Some (the_item s x.1.0 0)) y (built-item e st c x.1.0 m s x.1.3 (ap (λ v. v ∷ []) i));
          stands = x.1.3;
          is_marked = tt;
          has_row = ap (λ v. row v (form_leaves e (c ∷ st) j 0 x.1.1).here) (sym x.0);
          fact = signature-agrees e st c j 0 (form_leaves e (c ∷ st) j 0 x.1.1).held x.1.1 ls w x.1.4 r x.1.5;
        };
      }

  -- an inline node, written for itself or reused
  inline-agrees : (st : List Scope) (c : Scope) (k u : ℕ) (h : Held) (s : Space) (t : Row) (ls : Leaves) (j : Option Origin) (a : Formed Leaves) → AllRowed (c ∷ st) → LeavesRowed ls → reused (c ∷ st) k u t ls ≡ j → declares_row t ls ≡ s ∷ [] → declares_row t a.here ≡ s ∷ []
      → RuleOfLeaves e (c ∷ st) ls → Each (Sits (built e st c)) (form_inline (c ∷ st) k u s t j a)
      → (Each (Sits (built e st c)) a → LeavesAgree e (c ∷ st) (built_stack e (c ∷ st)) a.held ls a.here)
      → LeafAgrees e (c ∷ st) (built_stack e (c ∷ st)) h (ref s (inline (row t ls))) (form_inline (c ∷ st) k u s t j a).here
  inline-agrees st c k u h s t ls None a w l q d d' r n rec =
      let m : Made = own_made (inline_type k u) (row t) a in
      let x : Each (Sits (built e st c)) a × Sits (built e st c) m = one-each (Sits (built e st c)) (inline_type k u) (row t) a n.0 in
      record {
        part = before s (inline_type k u) (marks (c ∷ st));
        is_leaf = refl;
        fact = record { declaration = the_item s x.1.0 0; found = m; leaves = a.here; declared = built-item e st c x.1.0 m s x.1.1 d'; stands = x.1.1; is_marked = tt; has_row = refl; fact = rec x.0 };
      }
  inline-agrees st c k u h s t ls (Some o) a w l q d d' r n rec = go (is_shared t) refl q
    where
      go : (b : Bool) → is_shared t ≡ b → cond b (reused_type (c ∷ st) k u t ls) (as_written (reused_signature (c ∷ st) k t ls)) ≡ Some o
          → LeafAgrees e (c ∷ st) (built_stack e (c ∷ st)) h (ref s (inline (row t ls))) (ref s (index (before s o (marks (c ∷ st)))))
      go true f g = type-agrees e st c k u h s t ls o w l f (q-again f g) d r
        where
          q-again : is_shared t ≡ true → reused_type (c ∷ st) k u t ls ≡ Some o → reused (c ∷ st) k u t ls ≡ Some o
          q-again f g = rw f g
      go false f g = signature st c k h s t ls o w d r (reused_signature (c ∷ st) k t ls) refl g

  mutual
    defs-render : (st : List Scope) (c : Scope) (k : ℕ) (ds : Defs) → AllRowed (c ∷ st) → DefsRowed ds → RuleOfDefs e (c ∷ st) ds → AllMade (Sits (built e st c)) (form_defs e (c ∷ st) k ds) → DefsRender e (c ∷ st) (built_stack e (c ∷ st)) k ds
    defs-render st c k no_def v w r h = tt
    defs-render st c k (one_def (define names (row t ls)) ds) v w r h =
        let a : Formed Leaves = form_leaves e (c ∷ st) k 0 ls in
        let m : Made = own_made (written k) (coded_node e t ls) a in
        let x : Each (Sits (built e st c)) a × Sits (built e st c) m = one-each (Sits (built e st c)) (written k) (coded_node e t ls) a (made-left (Sits (built e st c)) (form_one (written k) (coded_node e t ls) a) (form_defs e (c ∷ st) (k + 1) ds) h) in (
          record {
            position = x.1.0;
            held = a.held;
            leaves = a.here;
            stands = x.1.1;
            fact = leaves-agree st c k 0 (form_leaves e (c ∷ st) k 0 ls).held ls v w.3 r.0 x.0 (carries-self (form_leaves e (c ∷ st) k 0 ls).held);
          },
          defs-render st c (k + 1) ds v w.4 r.1 (made-right (Sits (built e st c)) (form_one (written k) (coded_node e t ls) a) (form_defs e (c ∷ st) (k + 1) ds) h),
        )

    leaves-agree : (st : List Scope) (c : Scope) (k u : ℕ) (h : Held) (ls : Leaves) → AllRowed (c ∷ st) → LeavesRowed ls → RuleOfLeaves e (c ∷ st) ls
        → Each (Sits (built e st c)) (form_leaves e (c ∷ st) k u ls) → Carries (form_leaves e (c ∷ st) k u ls).held h
        → LeavesAgree e (c ∷ st) (built_stack e (c ∷ st)) h ls (form_leaves e (c ∷ st) k u ls).here
    leaves-agree st c k u h no_leaf v w r n i = refl
    leaves-agree st c k u h (l ▸ ls) v w r n i =
        let a : Formed Leaf = form_leaf e (c ∷ st) k u l in
        let b : Formed Leaves = form_leaves e (c ∷ st) k (u + references_leaf l) ls in
        record {
          first = (form_leaf e (c ∷ st) k u l).here;
          later = (form_leaves e (c ∷ st) k (u + references_leaf l) ls).here;
          are = refl;
          first_fact = leaf-agrees st c k u h l v w.1 r.0 (each-left (Sits (built e st c)) (λ b bs. b ▸ bs) a b n) (carries-first a.held b.held h i);
          later_fact = leaves-agree st c k (u + references_leaf l) h ls v w.2 r.1 (each-right (Sits (built e st c)) (λ b bs. b ▸ bs) a b n)
              (carries-second a.held b.held h (leaf-or_leaves e (c ∷ st) k u (u + references_leaf l) l ls w.0) i);
        }

    leaf-agrees : (st : List Scope) (c : Scope) (k u : ℕ) (h : Held) (l : Leaf) → AllRowed (c ∷ st) → LeafRowed l → RuleOfLeaf e (c ∷ st) l
        → Each (Sits (built e st c)) (form_leaf e (c ∷ st) k u l) → Carries (form_leaf e (c ∷ st) k u l).held h
        → LeafAgrees e (c ∷ st) (built_stack e (c ∷ st)) h l (form_leaf e (c ∷ st) k u l).here
    leaf-agrees st c k u h (text t) v w r n i = refl
    leaf-agrees st c k u h (number x) v w r n i = refl
    leaf-agrees st c k u h (kind s) v w r n i = refl
    leaf-agrees st c k u h (core_value x) v w r n i = value-agrees e st c k u x v w r n
    leaf-agrees st c k u h (ref s (numeral o x)) v w r n i = refl
    leaf-agrees st c k u h (ref s (name q x)) v w r n i =
        record { part = (form_name (c ∷ st) k u s (leads_out q (denotes (c ∷ st) s q x)) (denotes (c ∷ st) s q x)).here; is_leaf = refl; fact = name-agrees e st c k u s q x (denotes (c ∷ st) s q x) v refl r n }
    leaf-agrees st c k u h (ref s (path p)) v w r n i = record { part = path_index (c ∷ st) k u s p; is_leaf = refl; fact = path-agrees e st c k u s p v r.1 n.2 }
    leaf-agrees st c k u h (ref s (inline (row t ls))) v w r n i =
        inline-agrees st c k u h s t ls (reused (c ∷ st) k u t ls) (form_leaves e (c ∷ st) k (u + 1) ls) v w.1 refl w.0 (declares-form e (c ∷ st) k (u + 1) t ls ∙ w.0) r n
        (λ x. leaves-agree st c k (u + 1) (form_leaves e (c ∷ st) k (u + 1) ls).held ls v w.1 r x (carries-self (form_leaves e (c ∷ st) k (u + 1) ls).held))
    leaf-agrees st c k u h (ref s (bundle (row t ls))) v w r n i =
        let a : Formed Leaves = form_leaves e (c ∷ st) k (u + 1) ls in
        let m : Made = own_made (bundle_of k u) (row t) a in
        let x : Each (Sits (built e st c)) a × Sits (built e st c) m = bundle-each (Sits (built e st c)) (c ∷ st) k u s t a n in
        record {
          part = before s (bundle_of k u) (marks (c ∷ st));
          is_leaf = refl;
          fact = record {
            declaration = the_item s x.1.0 0;
            found = m;
            leaves = a.here;
            declared = built-item e st c x.1.0 m s x.1.1 (declares-form e (c ∷ st) k (u + 1) t ls ∙ w.0);
            stands = x.1.1;
            is_marked = tt;
            has_row = refl;
            fact = leaves-agree st c k (u + 1) (form_leaves e (c ∷ st) k (u + 1) ls).held ls v w.1 r x.0 (carries-self (form_leaves e (c ∷ st) k (u + 1) ls).held);
          };
        }
    leaf-agrees st c k u h (ref s (index x)) v w r n i = absurd w
    leaf-agrees st c k u h (place p) v w r n i = place-is (c ∷ st) p r
    leaf-agrees st c k u h absent v w r n i = refl
    leaf-agrees st c k u h (present l) v w r n i = record { part = (form_leaf e (c ∷ st) k u l).here; is_leaf = refl; fact = leaf-agrees st c k u h l v w r n i }
    leaf-agrees st c k u h (node (row t ls)) v w r n i = record { part = (form_leaves e (c ∷ st) k u ls).here; is_leaf = refl; fact = leaves-agree st c k u h ls v w r n i }
    leaf-agrees st c k u h (nodes ns) v w r n i = record { part = (form_nodes e (c ∷ st) k u ns).here; is_leaf = refl; fact = nodes-agree st c k u h ns v w r.1 n i }
    leaf-agrees st c k u h (case_id x) v w r n i = refl
    leaf-agrees st c k u h (result_ids x) v w r n i = refl
    leaf-agrees st c k u h (result_count x) v w r n i = absurd w
    leaf-agrees st c k u h (core_source x) v w r n i = refl
    leaf-agrees st c k u h (module_bytes x) v w r n i = absurd w
    leaf-agrees st c k u h (scope (scope_of q id label ds)) v w r n i = record {
      defs = binary_defs (built e (c ∷ st) (scope_of q id label ds));
      origins = origins_of (built e (c ∷ st) (scope_of q id label ds));
      is_scope = refl;
      is_held = i;
      marked = one-mark_each (built e (c ∷ st) (scope_of q id label ds));
      marks = rw (placed-same (built e (c ∷ st) (scope_of q id label ds))) (marks-render e (c ∷ st) (scope_of q id label ds) w);
      fact = rw (placed-same (built e (c ∷ st) (scope_of q id label ds))) (defs-render (c ∷ st) (scope_of q id label ds) 0 ds (w, v) w r.1 (defs-sit e (c ∷ st) (scope_of q id label ds)));
    }

    nodes-agree : (st : List Scope) (c : Scope) (k u : ℕ) (h : Held) (ns : Nodes) → AllRowed (c ∷ st) → NodesRowed ns → RuleOfNodes e (c ∷ st) ns
        → Each (Sits (built e st c)) (form_nodes e (c ∷ st) k u ns) → Carries (form_nodes e (c ∷ st) k u ns).held h
        → NodesAgree e (c ∷ st) (built_stack e (c ∷ st)) h ns (form_nodes e (c ∷ st) k u ns).here
    nodes-agree st c k u h no_node v w r n i = refl
    nodes-agree st c k u h (one_node (row t ls) ns) v w r n i =
        let a : Formed Leaves = form_leaves e (c ∷ st) k u ls in
        let b : Formed Nodes = form_nodes e (c ∷ st) k (u + references ls) ns in
        record {
          first = (form_leaves e (c ∷ st) k u ls).here;
          later = (form_nodes e (c ∷ st) k (u + references ls) ns).here;
          are = refl;
          first_fact = leaves-agree st c k u h ls v w.1 r.0 (each-left (Sits (built e st c)) (λ bs cs. one_node (row t bs) cs) a b n) (carries-first a.held b.held h i);
          later_fact = nodes-agree st c k (u + references ls) h ns v w.2 r.1 (each-right (Sits (built e st c)) (λ bs cs. one_node (row t bs) cs) a b n)
              (carries-second a.held b.held h (leaves-or_nodes e (c ∷ st) k u (u + references ls) ls ns w.0) i);
        }

  -- the form of a scope that meets the rule renders it under its plan
  pub form-renders : (st : List Scope) (s : Scope) → AllRowed (s ∷ st) → ScopeRule e st s → Renders e st (built_stack e st) s (form e st s) (plan e st s)
  form-renders st (scope_of k id label ds) w r = record {
    kind = refl;
    id = refl;
    label = refl;
    marked = one-mark_each (built e st (scope_of k id label ds));
    marks = rw (placed-same (built e st (scope_of k id label ds))) (marks-render e st (scope_of k id label ds) w.0);
    defs = rw (placed-same (built e st (scope_of k id label ds))) (defs-render st (scope_of k id label ds) 0 ds w w.0 r.1 (defs-sit e st (scope_of k id label ds)));
  }
