-- In an expansion no two marks are equal, so each definition is found by its mark.
use Rattle.std.proofs.Common.{◌≡◌, ℕ, zero, suc, ◌+◌, ◌≤◌, Bool, true, false, cond, List, [], ◌∷◌, ◌++◌, slice_get, Option, Some, None, refl, sym, ◌∙◌, ap, subst, arith}
use Rattle.comp_model.specs.declared.Space.{Space}
use Rattle.comp_model.specs.declared.row.Row.{Row}
use Rattle.comp_model.specs.Core.{Text, Id}
use Rattle.comp_model.specs.Model.{Leaf, ref, present, node, nodes, scope, inline, bundle, Leaves, no_leaf, ◌▸◌, row, Nodes, no_node, one_node, Names, define, Defs, no_def, one_def, Scope, scope_of, defs_of}
use Rattle.comp_model.specs.Spaces.{declares_row}
use Rattle.comp_model.specs.Origins.{Origin, written, inline_type, bundle_of, inline_export, same_origin}
use Rattle.comp_model.proofs.Tests.{same_origin-refl}
use Rattle.comp_scopes.specs.References.{references, references_leaf}
use Rattle.comp_scopes.specs.Reused.{reused}
use Rattle.comp_model.specs.ItemNames.{has_names}
use Rattle.comp_scopes.specs.Plan.{Mark, mark, plan_one, plan_leaves, plan_leaf, plan_nodes, plan_defs, export_marks_of, export_marks, name_marks, marks}
use Rattle.comp_scopes.specs.Outward.{Planned, plan_both, plan_inline}
use Rattle.comp_expanded.specs.Expansion.{Entry, Expanded, expand_both, entry, expand_one, expand_exports_of, generated_names, given_names}
use Rattle.comp_expanded.specs.Expands.{find_mark, ExpandsInline, ExpandsLeaves, ExpandsLeaf, ExpandsNodes, ExpandsDefs, ExpandsExports}
use Rattle.comp_scopes.proofs.Counting.{hit, times, times-app, total}
use Rattle.comp_scopes.proofs.Marks.{times-one, marks-once}
use Rattle.comp_scopes.proofs.Lookup.{some-same}

-- how often a mark stands in a list
abbrev pub tally : Origin → List Entry → ℕ
tally o [] = 0
tally o (x ∷ xs) = hit o x.origin + tally o xs

tally-app : (o : Origin) (xs ys : List Entry) → tally o (xs ++ ys) ≡ tally o xs + tally o ys
tally-app o [] ys = omega arith
tally-app o (x ∷ xs) ys = let h : tally o (xs ++ ys) ≡ tally o xs + tally o ys = tally-app o xs ys in omega (arith, h)

-- no mark stands more often than it is planned
abbrev AtMost : {H : Type 0} → Origin → Expanded H → Planned Mark → Type 0
AtMost o a p = (tally o a.inlined ≤ times o p.inlined) × (tally o a.bundles ≤ times o p.bundles)

most-both : {F G H : Type 0} (o : Origin) (f : F → G → H) (a : Expanded F) (b : Expanded G) (p q : Planned Mark) → AtMost o a p → AtMost o b q → AtMost o (expand_both f a b) (plan_both p q)
most-both o f a b p q x y =
    let i : tally o (a.inlined ++ b.inlined) ≡ tally o a.inlined + tally o b.inlined = tally-app o a.inlined b.inlined in
    let j : times o (p.inlined ++ q.inlined) ≡ times o p.inlined + times o q.inlined = times-app o p.inlined q.inlined in
    let k : tally o (a.bundles ++ b.bundles) ≡ tally o a.bundles + tally o b.bundles = tally-app o a.bundles b.bundles in
    let l : times o (p.bundles ++ q.bundles) ≡ times o p.bundles + times o q.bundles = times-app o p.bundles q.bundles in
    (omega (arith, i, j, x.0, y.0), omega (arith, k, l, x.1, y.1))

most-one : (o m : Origin) (ns : Names) (t : Row) (d : Expanded Leaves) (p : Planned Mark) (ss : List Space) → AtMost o d p → tally o (expand_one m ns t d) ≤ times o (plan_one p (mark m ss))
most-one o m ns t d p ss x =
    let own : List Entry = entry m ns t d ∷ [] in
    let i : tally o (d.inlined ++ (d.bundles ++ own)) ≡ tally o d.inlined + tally o (d.bundles ++ own) = tally-app o d.inlined (d.bundles ++ own) in
    let j : tally o (d.bundles ++ own) ≡ tally o d.bundles + tally o own = tally-app o d.bundles own in
    let k : times o (plan_one p (mark m ss)) ≡ total o p + times o (mark m ss ∷ []) = times-one o p (mark m ss) in
    omega (arith, i, j, k, x.0, x.1)

most-inline : (ids : Origin → Option Id) (c : Scope) (o : Origin) (k u : ℕ) (s : Space) (t : Row) (r : Option Origin) (E : Expanded Leaves → Type 0) (a : Expanded Leaf) (p : Planned Mark) (ss : List Space) → ((d : Expanded Leaves) → E d → AtMost o d p) → ExpandsInline ids c k u s t r E a → AtMost o a (plan_inline r p (mark (inline_type k u) ss ∷ []))
most-inline ids c o k u s t (Some j) E a p ss f h = rw h.2 (omega arith, omega arith)
most-inline ids c o k u s t None E a p ss f h = rw h.3 (most-one o (inline_type k u) _ t h.1 p ss (f h.1 h.4), omega arith)

mutual
  most-leaves : (ids : Origin → Option Id) (c : Scope) (o : Origin) (k u : ℕ) (ls : Leaves) (a : Expanded Leaves) → ExpandsLeaves ids c k u ls a → AtMost o a (plan_leaves (c ∷ []) k u ls)
  most-leaves ids c o k u no_leaf a h = rw h (omega arith, omega arith)
  most-leaves ids c o k u (l ▸ ls) a h =
      rw h.2 (most-both o (λ m ms. m ▸ ms) h.0 h.1 (plan_leaf (c ∷ []) k u l) (plan_leaves (c ∷ []) k (u + references_leaf l) ls) (most-leaf ids c o k u l h.0 h.3) (most-leaves ids c o k (u + references_leaf l) ls h.1 h.4))

  most-leaf : (ids : Origin → Option Id) (c : Scope) (o : Origin) (k u : ℕ) (l : Leaf) (a : Expanded Leaf) → ExpandsLeaf ids c k u l a → AtMost o a (plan_leaf (c ∷ []) k u l)
  most-leaf ids c o k u (ref s (inline (row t ls))) a h =
      most-inline ids c o k u s t (reused (c ∷ []) k u t ls) (ExpandsLeaves ids c k (u + 1) ls) a (plan_leaves (c ∷ []) k (u + 1) ls) (declares_row t ls) (λ d q. most-leaves ids c o k (u + 1) ls d q) h
  most-leaf ids c o k u (ref s (bundle (row t ls))) a h =
      let x : AtMost o h.1 (plan_leaves (c ∷ []) k (u + 1) ls) = most-leaves ids c o k (u + 1) ls h.1 h.4 in
      let p : Planned Mark = plan_leaves (c ∷ []) k (u + 1) ls in
      let m : Mark = mark (bundle_of k u) (declares_row t ls) in
      let i : tally o (h.1.bundles ++ entry (bundle_of k u) (generated_names (Some h.0)) t h.1 ∷ []) ≡ tally o h.1.bundles + (hit o (bundle_of k u) + 0) = tally-app o h.1.bundles (entry (bundle_of k u) (generated_names (Some h.0)) t h.1 ∷ []) in
      let j : times o (p.bundles ++ (p.needed ++ m ∷ [])) ≡ times o p.bundles + times o (p.needed ++ m ∷ []) = times-app o p.bundles (p.needed ++ m ∷ []) in
      let n : times o (p.needed ++ m ∷ []) ≡ times o p.needed + (hit o (bundle_of k u) + 0) = times-app o p.needed (m ∷ []) in
      rw h.3 (x.0, omega (arith, i, j, n, x.1))
  most-leaf ids c o k u (present l) a h = rw h.1 (most-leaf ids c o k u l h.0 h.2)
  most-leaf ids c o k u (node (row t ls)) a h = rw h.1 (most-leaves ids c o k u ls h.0 h.2)
  most-leaf ids c o k u (nodes ns) a h = rw h.1 (most-nodes ids c o k u ns h.0 h.2)
  most-leaf ids c o k u (scope (scope_of kd id label ds)) a h = rw h.4 (omega arith, omega arith)
  most-leaf ids c o k u l a h = rw h (omega arith, omega arith)

  most-nodes : (ids : Origin → Option Id) (c : Scope) (o : Origin) (k u : ℕ) (ns : Nodes) (a : Expanded Nodes) → ExpandsNodes ids c k u ns a → AtMost o a (plan_nodes (c ∷ []) k u ns)
  most-nodes ids c o k u no_node a h = rw h (omega arith, omega arith)
  most-nodes ids c o k u (one_node (row t ls) ns) a h =
      rw h.2 (most-both o (λ bs ks. one_node (row t bs) ks) h.0 h.1 (plan_leaves (c ∷ []) k u ls) (plan_nodes (c ∷ []) k (u + references ls) ns) (most-leaves ids c o k u ls h.0 h.3) (most-nodes ids c o k (u + references ls) ns h.1 h.4))

most-defs : (ids : Origin → Option Id) (c : Scope) (o : Origin) (k : ℕ) (ds : Defs) (xs : List Entry) → ExpandsDefs ids c k ds xs → tally o xs ≤ times o (plan_defs (c ∷ []) k ds)
most-defs ids c o k no_def xs h = rw h (omega arith)
most-defs ids c o k (one_def (define ns (row t ls)) ds) xs h =
    let one : List Entry = expand_one (written k) (given_names ns h.0) t h.1 in
    let p : List Mark = plan_one (plan_leaves (c ∷ []) k 0 ls) (mark (written k) (declares_row t ls)) in
    let a : tally o one ≤ times o p = most-one o (written k) (given_names ns h.0) t h.1 (plan_leaves (c ∷ []) k 0 ls) (declares_row t ls) (most-leaves ids c o k 0 ls h.1 h.6) in
    let b : tally o h.2 ≤ times o (plan_defs (c ∷ []) (k + 1) ds) = most-defs ids c o (k + 1) ds h.2 h.7 in
    let i : tally o (one ++ h.2) ≡ tally o one + tally o h.2 = tally-app o one h.2 in
    let j : times o (p ++ plan_defs (c ∷ []) (k + 1) ds) ≡ times o p + times o (plan_defs (c ∷ []) (k + 1) ds) = times-app o p (plan_defs (c ∷ []) (k + 1) ds) in
    rw h.5 (omega (arith, a, b, i, j))

exports_of-tally : (o : Origin) (x : Id) (k i : ℕ) (ns : List Text) (ss : List Space) → tally o (expand_exports_of x k i ns ss) ≡ times o (export_marks_of k i ns ss)
exports_of-tally o x k i [] ss = refl
exports_of-tally o x k i (n ∷ ns) [] = refl
exports_of-tally o x k i (n ∷ ns) (s ∷ ss) = ap (λ m. hit o (inline_export k i) + m) (exports_of-tally o x k (i + 1) ns (s ∷ ss))

most-exports : (ids : Origin → Option Id) (o : Origin) (k : ℕ) (ds : Defs) (xs : List Entry) → ExpandsExports ids k ds xs → tally o xs ≤ times o (export_marks k ds)
most-exports ids o k no_def xs h = rw h (omega arith)
most-exports ids o k (one_def (define ns (row t ls)) ds) xs h =
    let one : List Entry = expand_exports_of h.0 k 0 ns.exports (declares_row t ls) in
    let p : List Mark = export_marks_of k 0 ns.exports (declares_row t ls) in
    let a : tally o one ≡ times o p = exports_of-tally o h.0 k 0 ns.exports (declares_row t ls) in
    let b : tally o h.1 ≤ times o (export_marks (k + 1) ds) = most-exports ids o (k + 1) ds h.1 h.4 in
    let i : tally o (one ++ h.1) ≡ tally o one + tally o h.1 = tally-app o one h.1 in
    let j : times o (p ++ export_marks (k + 1) ds) ≡ times o p + times o (export_marks (k + 1) ds) = times-app o p (export_marks (k + 1) ds) in
    rw h.3 (omega (arith, a, b, i, j))

-- at most once in the whole list
pub list-once : (c : Scope) (ids : Origin → Option Id) (ys zs : List Entry) → ExpandsDefs ids c 0 (defs_of c) ys → ExpandsExports ids 0 (defs_of c) zs → (o : Origin) → tally o (ys ++ zs) ≤ 1
list-once c ids ys zs d e o =
    let a : tally o ys ≤ times o (plan_defs (c ∷ []) 0 (defs_of c)) = most-defs ids c o 0 (defs_of c) ys d in
    let b : tally o zs ≤ times o (export_marks 0 (defs_of c)) = most-exports ids o 0 (defs_of c) zs e in
    let i : tally o (ys ++ zs) ≡ tally o ys + tally o zs = tally-app o ys zs in
    let n : List Mark = name_marks (has_names c) in
    let j : times o (plan_defs (c ∷ []) 0 (defs_of c) ++ (export_marks 0 (defs_of c) ++ n)) ≡ times o (plan_defs (c ∷ []) 0 (defs_of c)) + times o (export_marks 0 (defs_of c) ++ n) = times-app o (plan_defs (c ∷ []) 0 (defs_of c)) (export_marks 0 (defs_of c) ++ n) in
    let l : times o (export_marks 0 (defs_of c) ++ n) ≡ times o (export_marks 0 (defs_of c)) + times o n = times-app o (export_marks 0 (defs_of c)) n in
    let m : times o (marks (c ∷ [])) ≤ 1 = marks-once c [] o in
    omega (arith, a, b, i, j, l, m)

-- ---- so each is found

stands-once : (xs : List Entry) (p : ℕ) (x : Entry) → slice_get xs p ≡ Some x → 1 ≤ tally x.origin xs
stands-once [] p x e = absurd (cc)
stands-once (y ∷ xs) zero x e = let q : y ≡ x = some-same y x e in let r : hit x.origin y.origin ≡ 1 = subst (λ v. hit x.origin v.origin ≡ 1) (sym q) (rw (same_origin-refl x.origin) refl) in omega (arith, r)
stands-once (y ∷ xs) (suc p) x e = let r : 1 ≤ tally x.origin xs = stands-once xs p x e in omega (arith, r)

pub once-found : (xs : List Entry) → ((o : Origin) → tally o xs ≤ 1) → (p : ℕ) (x : Entry) → slice_get xs p ≡ Some x → find_mark xs x.origin ≡ Some x
once-found [] h p x e = absurd (cc)
once-found (y ∷ xs) h zero x e = let q : y ≡ x = some-same y x e in rw (q, same_origin-refl x.origin) refl
once-found (y ∷ xs) h (suc p) x e =
    let a : hit x.origin y.origin + tally x.origin xs ≤ 1 = h x.origin in
    let b : 1 ≤ tally x.origin xs = stands-once xs p x e in
    go (same_origin x.origin y.origin) refl (omega (arith, a, b)) (once-found xs (λ o. less o (h o)) p x e)
  where
    less : (o : Origin) → hit o y.origin + tally o xs ≤ 1 → tally o xs ≤ 1
    less o q = omega (arith, q)

    go : (b : Bool) → same_origin x.origin y.origin ≡ b → hit x.origin y.origin ≡ 0 → find_mark xs x.origin ≡ Some x → cond b (Some y) (find_mark xs x.origin) ≡ Some x
    go false q z r = r
    go true q z r = let w : hit x.origin y.origin ≡ 1 = rw q refl in let v : ◌≡◌ {A = ℕ} 0 1 = sym z ∙ w in absurd (omega (arith, v))
