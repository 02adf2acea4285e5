-- A signature that is reused agrees with the written function type.
use Rattle.std.proofs.Common.{◌≡◌, ℕ, zero, suc, ◌+◌, ◌<◌, Bool, true, false, ◌&&◌, cond, List, [], ◌∷◌, slice_get, Option, Some, None, refl, ap, subst, arith}
use Rattle.comp_model.specs.declared.row.Row.TheVariants as rows
use Rattle.comp_model.specs.declared.row.Row.{Row}
use Rattle.comp_model.specs.RowNumbers.{same_row}
use Rattle.comp_model.specs.Model.{core_value, nodes, Leaves, no_leaf, ◌▸◌, row, Nodes, no_node, one_node, define, Defs, no_def, one_def, Scope, kind_of, defs_of}
use Rattle.comp_model.specs.Origins.{written, Held}
use Rattle.comp_model.proofs.Tests.{same_row-true}
use Rattle.comp_scopes.specs.Encoding.{Encoding}
use Rattle.comp_scopes.specs.References.{references, references_nodes}
use Rattle.comp_scopes.specs.Rule.{RuleOfLeaves, RuleOfNodes}
use Rattle.comp_scopes.specs.Signatures.{same_entry, same_written_values, same_written_signature, latest_equal, is_module_type, reused_signature}
use Rattle.comp_scopes.specs.Form.{Made, Formed, own_made, form_one, form_defs, form_value, form_leaves, form_nodes, coded_node, built}
use Rattle.comp_scopes.specs.Rowed.{AllRowed}
use Rattle.comp_scopes.specs.Renders.{AllMade, LeavesAgree, NodesAgree, built_stack}
use Rattle.comp_scopes.proofs.Lookup.{Sits, some-same, made-left, made-right}
use Rattle.comp_scopes.proofs.Each.{Each, each-left, each-right, one-each}
use Rattle.comp_scopes.proofs.NamesAgree.{same_value-agrees}
use Rattle.comp_scopes.proofs.Among.{and-both}

module _ (e : Encoding) where
  -- definition j, before b, is a written function type that is equal to these leaves
  abbrev pub WrittenSignature : List Scope → List Made → ℕ → ℕ → Leaves → Type 0
  WrittenSignature st w b j ms = (p : ℕ) × (ls : Leaves) × (j < b) × (slice_get w p ≡ Some (own_made (written j) (row rows.CoreFunctionType) (form_leaves e st j 0 ls)))
      × (same_written_signature ls ms ≡ true) × Each (Sits w) (form_leaves e st j 0 ls)

  latest-written : (st : List Scope) (w : List Made) (b n k : ℕ) (ds : Defs) (ms : Leaves) (found : Option ℕ) → k + n ≡ b → AllMade (Sits w) (form_defs e st k ds)
      → ((j : ℕ) → found ≡ Some j → WrittenSignature st w b j ms) → (j : ℕ) → latest_equal n k ds ms found ≡ Some j → WrittenSignature st w b j ms
  latest-written st w b zero k ds ms found z h f j g = f j g
  latest-written st w b (suc n) k no_def ms found z h f j g = f j g
  latest-written st w b (suc n) k (one_def (define names (row t ls)) ds) ms found z h f j g =
      latest-written st w b n (k + 1) ds ms (cond (same_row t rows.CoreFunctionType && same_written_signature ls ms) (Some k) found) (omega (arith, z))
      (made-right (Sits w) (form_one (written k) (coded_node e t ls) (form_leaves e st k 0 ls)) (form_defs e st (k + 1) ds) h)
      (pick (same_row t rows.CoreFunctionType && same_written_signature ls ms) refl) j g
    where
      mine : Each (Sits w) (form_leaves e st k 0 ls) × Sits w (own_made (written k) (coded_node e t ls) (form_leaves e st k 0 ls))
      mine = one-each (Sits w) (written k) (coded_node e t ls) (form_leaves e st k 0 ls) (made-left (Sits w) (form_one (written k) (coded_node e t ls) (form_leaves e st k 0 ls)) (form_defs e st (k + 1) ds) h)

      this : (same_row t rows.CoreFunctionType && same_written_signature ls ms) ≡ true → WrittenSignature st w b k ms
      this q =
          let a : (same_row t rows.CoreFunctionType ≡ true) × (same_written_signature ls ms ≡ true) = and-both _ _ q in
          let i : t ≡ rows.CoreFunctionType = same_row-true t rows.CoreFunctionType a.0 in
          let P : Row → Type 0 = λ v. slice_get w mine.1.0 ≡ Some (own_made (written k) (coded_node e v ls) (form_leaves e st k 0 ls)) in
          (mine.1.0, ls, omega (arith, z), subst P i mine.1.1, a.1, mine.0)

      pick : (v : Bool) → (same_row t rows.CoreFunctionType && same_written_signature ls ms) ≡ v → (i : ℕ) → cond v (Some k) found ≡ Some i → WrittenSignature st w b i ms
      pick true q i r = subst (λ x. WrittenSignature st w b x ms) (some-same k i r) (this q)
      pick false q i r = f i r

  none-found : {A : Type 0} (j : ℕ) → None ≡ Some j → A
  none-found j h = absurd (cc)

  -- what an inline node reuses
  pub reused-written : (st : List Scope) (c : Scope) (w : List Made) (k : ℕ) (t : Row) (ms : Leaves) (j : ℕ) → AllMade (Sits w) (form_defs e (c ∷ st) 0 (defs_of c)) → reused_signature (c ∷ st) k t ms ≡ Some j
      → (t ≡ rows.CoreFunctionType) × WrittenSignature (c ∷ st) w k j ms
  reused-written st c w k t ms j h g = go (is_module_type (kind_of c) && same_row t rows.CoreFunctionType) refl g
    where
      go : (b : Bool) → (is_module_type (kind_of c) && same_row t rows.CoreFunctionType) ≡ b → cond b (latest_equal k 0 (defs_of c) ms None) None ≡ Some j → (t ≡ rows.CoreFunctionType) × WrittenSignature (c ∷ st) w k j ms
      go true q r = (
        same_row-true t rows.CoreFunctionType (and-both (is_module_type (kind_of c)) (same_row t rows.CoreFunctionType) q).1,
        latest-written (c ∷ st) w k k 0 (defs_of c) ms None (omega arith) h (λ i. none-found i) j r,
      )
      go false q r = absurd (cc)

  -- ---- equal parts agree

  entry-agrees : (st : List Scope) (c : Scope) (k u : ℕ) (h : Held) (ls ms : Leaves) → AllRowed (c ∷ st) → same_entry ls ms ≡ true → RuleOfLeaves e (c ∷ st) ms → Each (Sits (built e st c)) (form_leaves e (c ∷ st) k u ls)
      → LeavesAgree e (c ∷ st) (built_stack e (c ∷ st)) h ms (form_leaves e (c ∷ st) k u ls).here
  entry-agrees st c k u h (core_value v ▸ no_leaf) (core_value x ▸ no_leaf) w q r n =
      let y : Each (Sits (built e st c)) (form_value (c ∷ st) k u v) = (made-left (Sits (built e st c)) _ [] n.0, made-left (Sits (built e st c)) _ [] n.1, made-left (Sits (built e st c)) _ [] n.2) in
      record { first = (form_value (c ∷ st) k u v).here; later = no_leaf; are = refl; first_fact = same_value-agrees e st c k u v x w q r.0 y; later_fact = refl }
  entry-agrees st c k u h ls ms w q r n = absurd (cc)

  values-agree : (st : List Scope) (c : Scope) (k u : ℕ) (h : Held) (ns ms : Nodes) → AllRowed (c ∷ st) → same_written_values ns ms ≡ true → RuleOfNodes e (c ∷ st) ms → Each (Sits (built e st c)) (form_nodes e (c ∷ st) k u ns)
      → NodesAgree e (c ∷ st) (built_stack e (c ∷ st)) h ms (form_nodes e (c ∷ st) k u ns).here
  values-agree st c k u h no_node no_node w q r n = refl
  values-agree st c k u h (one_node (row t ls) ns) (one_node (row v ms) ks) w q r n =
      let a : (same_row t v ≡ true) × ((same_entry ls ms && same_written_values ns ks) ≡ true) = and-both _ _ q in
      let b : (same_entry ls ms ≡ true) × (same_written_values ns ks ≡ true) = and-both _ _ a.1 in
      let i : t ≡ v = same_row-true t v a.0 in
      record {
        first = (form_leaves e (c ∷ st) k u ls).here;
        later = (form_nodes e (c ∷ st) k (u + references ls) ns).here;
        are = ap (λ x. one_node (row x (form_leaves e (c ∷ st) k u ls).here) (form_nodes e (c ∷ st) k (u + references ls) ns).here) i;
        first_fact = entry-agrees st c k u h ls ms w b.0 r.0 (each-left (Sits (built e st c)) (λ bs cs. one_node (row t bs) cs) (form_leaves e (c ∷ st) k u ls) (form_nodes e (c ∷ st) k (u + references ls) ns) n);
        later_fact = values-agree st c k (u + references ls) h ns ks w b.1 r.1 (each-right (Sits (built e st c)) (λ bs cs. one_node (row t bs) cs) (form_leaves e (c ∷ st) k u ls) (form_nodes e (c ∷ st) k (u + references ls) ns) n);
      }
  values-agree st c k u h no_node (one_node m ms) w q r n = absurd (cc)
  values-agree st c k u h (one_node (row t ls) ns) no_node w q r n = absurd (cc)

  pub signature-agrees : (st : List Scope) (c : Scope) (k u : ℕ) (h : Held) (ls ms : Leaves) → AllRowed (c ∷ st) → same_written_signature ls ms ≡ true → RuleOfLeaves e (c ∷ st) ms → Each (Sits (built e st c)) (form_leaves e (c ∷ st) k u ls)
      → LeavesAgree e (c ∷ st) (built_stack e (c ∷ st)) h ms (form_leaves e (c ∷ st) k u ls).here
  signature-agrees st c k u h (nodes ps ▸ nodes rs ▸ no_leaf) (nodes qs ▸ nodes ss ▸ no_leaf) w q r n =
      let a : (same_written_values ps qs ≡ true) × (same_written_values rs ss ≡ true) = and-both _ _ q in
      let f : Formed Nodes = form_nodes e (c ∷ st) k u ps in
      let g : Formed Leaves = form_leaves e (c ∷ st) k (u + references_nodes ps) (nodes rs ▸ no_leaf) in
      let x : Each (Sits (built e st c)) f = (made-left (Sits (built e st c)) f.inlined g.inlined n.0, made-left (Sits (built e st c)) f.bundles g.bundles n.1, made-left (Sits (built e st c)) f.needed g.needed n.2) in
      let y : Each (Sits (built e st c)) g = (made-right (Sits (built e st c)) f.inlined g.inlined n.0, made-right (Sits (built e st c)) f.bundles g.bundles n.1, made-right (Sits (built e st c)) f.needed g.needed n.2) in
      let z : Each (Sits (built e st c)) (form_nodes e (c ∷ st) k (u + references_nodes ps) rs) = (made-left (Sits (built e st c)) _ [] y.0, made-left (Sits (built e st c)) _ [] y.1, made-left (Sits (built e st c)) _ [] y.2) in
      record {
        first = nodes (form_nodes e (c ∷ st) k u ps).here;
        later = nodes (form_nodes e (c ∷ st) k (u + references_nodes ps) rs).here ▸ no_leaf;
        are = refl;
        first_fact = record { part = (form_nodes e (c ∷ st) k u ps).here; is_leaf = refl; fact = values-agree st c k u h ps qs w a.0 r.0.1 x };
        later_fact = record {
          first = nodes (form_nodes e (c ∷ st) k (u + references_nodes ps) rs).here;
          later = no_leaf;
          are = refl;
          first_fact = record { part = (form_nodes e (c ∷ st) k (u + references_nodes ps) rs).here; is_leaf = refl; fact = values-agree st c k (u + references_nodes ps) h rs ss w a.1 r.1.0.1 z };
          later_fact = refl;
        };
      }
  signature-agrees st c k u h ls ms w q r n = absurd (cc)
