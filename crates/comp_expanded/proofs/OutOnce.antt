-- No two names of a scope that lead out have one mark.
use Rattle.std.proofs.Common.{◌≡◌, ℕ, ◌+◌, ◌<◌, ◌≤◌, Bool, true, false, List, [], ◌∷◌, ◌++◌, Option, Some, None, ap, arith}
use Rattle.comp_model.specs.declared.Space.{Space}
use Rattle.comp_model.specs.declared.Space.TheVariants.{CoreType}
use Rattle.comp_model.specs.Core.{ref_name}
use Rattle.comp_model.specs.Model.{Leaf, core_value, ref, present, node, nodes, name, inline, bundle, Leaves, no_leaf, ◌▸◌, row, Nodes, no_node, one_node, define, Defs, no_def, one_def, Scope}
use Rattle.comp_model.specs.Origins.{Origin, outer_alias_of}
use Rattle.comp_scopes.specs.Names.{Denoted, denotes}
use Rattle.comp_scopes.specs.References.{references, references_leaf, references_nodes}
use Rattle.comp_scopes.specs.Reused.{reused}
use Rattle.comp_scopes.specs.Outward.{Planned, plan_nothing, plan_both, plan_own, plan_inline, plan_bundle, leads_out, Outward, outward_name, outward_leaves, outward_leaf, outward_nodes, outward_defs}
use Rattle.comp_scopes.proofs.Counting.{hit, Once, once-zero, once-weaken, once-to, once-sum, hit-once}

-- how often a mark stands among names
abbrev pub seen : Origin → List Outward → ℕ
seen o [] = 0
seen o (w ∷ ws) = hit o w.origin + seen o ws

pub seen-app : (o : Origin) (xs ys : List Outward) → seen o (xs ++ ys) ≡ seen o xs + seen o ys
seen-app o [] ys = omega arith
seen-app o (x ∷ xs) ys = let h : seen o (xs ++ ys) ≡ seen o xs + seen o ys = seen-app o xs ys in omega (arith, h)

definition : Origin → ℕ
definition (outer_alias_of k u) = k
definition _ = 0

reference : Origin → ℕ
reference (outer_alias_of k u) = u
reference _ = 0

module _ (j w : ℕ) where
  abbrev o : Origin
  o = outer_alias_of j w

  abbrev all : Planned Outward → ℕ
  all p = seen o p.inlined + (seen o p.bundles + seen o p.needed)

  all-own : (p : Planned Outward) → seen o (plan_own p []) ≡ all p
  all-own p =
      let a : seen o (p.inlined ++ (p.bundles ++ (p.needed ++ []))) ≡ seen o p.inlined + seen o (p.bundles ++ (p.needed ++ [])) = seen-app o p.inlined (p.bundles ++ (p.needed ++ [])) in
      let b : seen o (p.bundles ++ (p.needed ++ [])) ≡ seen o p.bundles + seen o (p.needed ++ []) = seen-app o p.bundles (p.needed ++ []) in
      let c : seen o (p.needed ++ []) ≡ seen o p.needed + 0 = seen-app o p.needed [] in
      omega (arith, a, b, c)

  -- in definition k, from place u to v
  abbrev Between : ℕ → ℕ → ℕ → Type 0
  Between k u v = (j ≡ k) × (u ≤ w) × (w < v)

  abbrev Fine : ℕ → ℕ → ℕ → Planned Outward → Type 0
  Fine k u v p = Once (all p) (Between k u v)

  wider : (k u v x y : ℕ) → x ≤ u → v ≤ y → Between k u v → Between k x y
  wider k u v x y p q h = let a : u ≤ w = h.1 in let b : w < v = h.2 in (h.0, omega (arith, a, p), omega (arith, b, q))

  fine-to : (k u v x y : ℕ) (p : Planned Outward) → x ≤ u → v ≤ y → Fine k u v p → Fine k x y p
  fine-to k u v x y p a b f = once-weaken (all p) (Between k u v) (Between k x y) (wider k u v x y a b) f

  fine-nothing : (k u v : ℕ) → Fine k u v plan_nothing
  fine-nothing k u v = once-zero (Between k u v)

  fine-both : (k u v x : ℕ) → u ≤ v → v ≤ x → (a b : Planned Outward) → Fine k u v a → Fine k v x b → Fine k u x (plan_both a b)
  fine-both k u v x uv vx a b f g =
      let p : seen o (a.inlined ++ b.inlined) ≡ seen o a.inlined + seen o b.inlined = seen-app o a.inlined b.inlined in
      let q : seen o (a.bundles ++ b.bundles) ≡ seen o a.bundles + seen o b.bundles = seen-app o a.bundles b.bundles in
      let r : seen o (a.needed ++ b.needed) ≡ seen o a.needed + seen o b.needed = seen-app o a.needed b.needed in
      once-to (all a + all b) (all (plan_both a b)) (Between k u x) (omega (arith, p, q, r))
      (once-sum (all a) (all b) (Between k u v) (Between k v x) (Between k u x) (λ h i. let c : w < v = h.2 in let d : v ≤ w = i.1 in omega (arith, c, d)) (wider k u v u x (omega arith) vx) (wider k v x u x uv (omega arith)) f g)

  fine-inline : (k u v : ℕ) (r : Option Origin) (p : Planned Outward) → Fine k u v p → Fine k u v (plan_inline r p [])
  fine-inline k u v (Some q) p f = fine-nothing k u v
  fine-inline k u v None p f = let a : seen o (plan_own p []) ≡ all p = all-own p in once-to (all p) (all (plan_inline None p [])) (Between k u v) (omega (arith, a)) f

  fine-bundle : (k u v : ℕ) (p : Planned Outward) → Fine k u v p → Fine k u v (plan_bundle p [])
  fine-bundle k u v p f =
      let b : seen o (p.bundles ++ (p.needed ++ [])) ≡ seen o p.bundles + seen o (p.needed ++ []) = seen-app o p.bundles (p.needed ++ []) in
      let c : seen o (p.needed ++ []) ≡ seen o p.needed + 0 = seen-app o p.needed [] in
      once-to (all p) (all (plan_bundle p [])) (Between k u v) (omega (arith, b, c)) f

  here : (k u : ℕ) → o ≡ outer_alias_of k u → Between k u (u + 1)
  unfolding definition reference
  here k u e = let a : j ≡ k = ap definition e in let b : w ≡ u = ap reference e in (a, omega (arith, b), omega (arith, b))

  fine-name : (k u : ℕ) (s : Space) (b : Bool) (d : Option Denoted) → Fine k u (u + 1) (outward_name k u s b d)
  fine-name k u s false d = fine-nothing k u (u + 1)
  fine-name k u s true None = fine-nothing k u (u + 1)
  fine-name k u s true (Some d) = once-to (hit o (outer_alias_of k u)) (all (outward_name k u s true (Some d))) (Between k u (u + 1)) (omega arith) (once-weaken (hit o (outer_alias_of k u)) (o ≡ outer_alias_of k u) (Between k u (u + 1)) (here k u) (hit-once o (outer_alias_of k u)))

  mutual
    fine-leaves : (st : List Scope) (k u : ℕ) (ls : Leaves) → Fine k u (u + references ls) (outward_leaves st k u ls)
    fine-leaves st k u no_leaf = fine-nothing k u (u + 0)
    fine-leaves st k u (l ▸ ls) =
        fine-to k u (u + references_leaf l + references ls) u (u + (references_leaf l + references ls)) _ (omega arith) (omega arith)
        (fine-both k u (u + references_leaf l) (u + references_leaf l + references ls) (omega arith) (omega arith) (outward_leaf st k u l) (outward_leaves st k (u + references_leaf l) ls) (fine-leaf st k u l) (fine-leaves st k (u + references_leaf l) ls))

    fine-leaf : (st : List Scope) (k u : ℕ) (l : Leaf) → Fine k u (u + references_leaf l) (outward_leaf st k u l)
    fine-leaf st k u (core_value (ref_name b r x)) = fine-name k u CoreType (leads_out r (denotes st CoreType r x)) (denotes st CoreType r x)
    fine-leaf st k u (ref s (name r x)) = fine-name k u s (leads_out r (denotes st s r x)) (denotes st s r x)
    fine-leaf st k u (ref s (inline (row t ls))) = fine-to k (u + 1) (u + 1 + references ls) u (u + (1 + references ls)) (plan_inline (reused st k u t ls) (outward_leaves st k (u + 1) ls) []) (omega arith) (omega arith) (fine-inline k (u + 1) (u + 1 + references ls) (reused st k u t ls) (outward_leaves st k (u + 1) ls) (fine-leaves st k (u + 1) ls))
    fine-leaf st k u (ref s (bundle (row t ls))) = fine-to k (u + 1) (u + 1 + references ls) u (u + (1 + references ls)) (plan_bundle (outward_leaves st k (u + 1) ls) []) (omega arith) (omega arith) (fine-bundle k (u + 1) (u + 1 + references ls) (outward_leaves st k (u + 1) ls) (fine-leaves st k (u + 1) ls))
    fine-leaf st k u (present l) = fine-leaf st k u l
    fine-leaf st k u (node (row t ls)) = fine-leaves st k u ls
    fine-leaf st k u (nodes ns) = fine-nodes st k u ns
    fine-leaf st k u l = fine-nothing k u (u + references_leaf l)

    fine-nodes : (st : List Scope) (k u : ℕ) (ns : Nodes) → Fine k u (u + references_nodes ns) (outward_nodes st k u ns)
    fine-nodes st k u no_node = fine-nothing k u (u + 0)
    fine-nodes st k u (one_node (row t ls) ns) =
        fine-to k u (u + references ls + references_nodes ns) u (u + (references ls + references_nodes ns)) _ (omega arith) (omega arith)
        (fine-both k u (u + references ls) (u + references ls + references_nodes ns) (omega arith) (omega arith) (outward_leaves st k u ls) (outward_nodes st k (u + references ls) ns) (fine-leaves st k u ls) (fine-nodes st k (u + references ls) ns))

  pub defs-once : (st : List Scope) (k : ℕ) (ds : Defs) → Once (seen o (outward_defs st k ds)) (k ≤ j)
  defs-once st k no_def = once-zero (k ≤ j)
  defs-once st k (one_def (define ns (row t ls)) ds) =
      let p : Planned Outward = outward_leaves st k 0 ls in
      let a : seen o (plan_own p []) ≡ all p = all-own p in
      let b : seen o (plan_own p [] ++ outward_defs st (k + 1) ds) ≡ seen o (plan_own p []) + seen o (outward_defs st (k + 1) ds) = seen-app o (plan_own p []) (outward_defs st (k + 1) ds) in
      once-to (all p + seen o (outward_defs st (k + 1) ds)) _ (k ≤ j) (omega (arith, a, b))
      (once-sum (all p) (seen o (outward_defs st (k + 1) ds)) (Between k 0 (0 + references ls)) (k + 1 ≤ j) (k ≤ j) (λ h i. let c : j ≡ k = h.0 in omega (arith, c, i)) (λ h. let c : j ≡ k = h.0 in omega (arith, c)) (λ i. omega (arith, i)) (fine-leaves st k 0 ls) (defs-once st (k + 1) ds))
