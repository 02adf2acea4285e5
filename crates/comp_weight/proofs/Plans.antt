-- The declarations of a scope, generated ones with them, are at most a sixteenth of its weight; so are its indices.
use Rattle.std.proofs.Common.{◌≡◌, ℕ, zero, suc, ◌+◌, ◌*◌, ◌≤◌, List, [], ◌∷◌, ◌++◌, length, length-append, filter, replicate, refl, arith, Bool, true, false, cond, Option, Some, None}
use Rattle.comp_model.specs.declared.Space.{Space}
use Rattle.comp_model.specs.declared.Space.TheVariants.{CoreType}
use Rattle.comp_model.specs.declared.row.Row.TheVariants as rows
use Rattle.comp_model.specs.declared.row.Row.{Row}
use Rattle.comp_model.specs.Core.{Text, ref_name}
use Rattle.comp_model.specs.CoreModules.{CoreModule}
use Rattle.comp_model.specs.Model.{Leaf, text, kind, core_value, ref, present, node, nodes, result_ids, result_count, scope, name, Path, root_number, root_name, export_of, path, inline, bundle, Leaves, no_leaf, ◌▸◌, row, Nodes, no_node, one_node, count_nodes, define, Defs, no_def, one_def, Scope, scope_of}
use Rattle.comp_model.specs.declared.declares.Declares.{Declares}
use Rattle.comp_model.specs.declared.declares.Declares.TheVariants.{Always, ByKind, ByDescription, ByReference, ByList, ByResults, Nothing}
use Rattle.comp_model.specs.Spaces.{declares_by, described, leaf_spaces, leaves_spaces, spaces_by, declares_row, same_space, count_in}
use Rattle.comp_model.specs.Origins.{Origin, written, inline_type, bundle_of, export_step, same_origin}
use Rattle.comp_model.specs.Weight.{weight_of_all, weight_of_path, weight_of_leaf, weight_of_leaves, weight_of_nodes, weight_of_defs, weight_of_scope}
use Rattle.comp_scopes.specs.Names.{Denoted, denotes}
use Rattle.comp_scopes.specs.References.{references, references_leaf, steps, instance_space}
use Rattle.comp_scopes.specs.Reused.{reused}
use Rattle.comp_model.specs.ItemNames.{has_names}
use Rattle.comp_scopes.specs.Outward.{Planned, plan_both, plan_inline, plan_bundle, leads_out, served}
use Rattle.comp_scopes.specs.Plan.{Mark, mark, plan_one, plan_alias, plan_name, plan_path, plan_leaves, plan_leaf, plan_nodes, plan_defs, export_marks_of, export_marks, name_marks, marks, before}

-- the declarations of marks
abbrev pub total : List Mark → ℕ
total [] = 0
total (m ∷ ms) = length m.spaces + total ms

abbrev pub planned : Planned Mark → ℕ
planned p = total p.inlined + (total p.bundles + total p.needed)

pub total-append : (ms ns : List Mark) → total (ms ++ ns) ≡ total ms + total ns
total-append [] ns = omega arith
total-append (m ∷ ms) ns = omega (arith, total-append ms ns)

planned-both : (a b : Planned Mark) → planned (plan_both a b) ≡ planned a + planned b
planned-both a b = omega (arith, total-append a.inlined b.inlined, total-append a.bundles b.bundles, total-append a.needed b.needed)

pub planned-one : (p : Planned Mark) (m : Mark) → total (plan_one p m) ≡ planned p + length m.spaces
planned-one p m = omega (arith, total-append p.inlined (p.bundles ++ (p.needed ++ m ∷ [])), total-append p.bundles (p.needed ++ m ∷ []), total-append p.needed (m ∷ []))

planned-bundle : (p : Planned Mark) (m : Mark) → planned (plan_bundle p (m ∷ [])) ≡ planned p + length m.spaces
planned-bundle p m = omega (arith, total-append p.bundles (p.needed ++ m ∷ []), total-append p.needed (m ∷ []))

-- ---- how many items a row declares

abbrev pub parts_of : Leaf → ℕ
parts_of (kind s) = 1
parts_of (ref s u) = 1
parts_of (node n) = 1
parts_of (nodes ns) = count_nodes ns
parts_of (result_ids ids) = length ids
parts_of (result_count n) = n
parts_of _ = 0

described-one : (t : Row) → length (described t) ≤ 1
described-one rows.ModuleDescription = omega arith
described-one _ = omega arith

replicate-length : {A : Type 0} (n : ℕ) (x : A) → length (replicate n x) ≡ n
replicate-length zero x = refl
replicate-length (suc n) x = omega (arith, replicate-length n x)

pub leaf-parts : (l : Leaf) (d : Declares) → length (leaf_spaces l d) ≤ parts_of l
leaf-parts (kind s) ByKind = omega arith
leaf-parts (kind s) _ = omega arith
leaf-parts (node (row t ls)) ByDescription = described-one t
leaf-parts (node (row t ls)) _ = omega arith
leaf-parts (ref s u) ByReference = omega arith
leaf-parts (ref s u) _ = omega arith
leaf-parts (nodes ns) ByList = omega (arith, replicate-length (count_nodes ns) CoreType)
leaf-parts (nodes ns) _ = omega arith
leaf-parts (result_ids ids) ByResults = omega (arith, replicate-length (length ids) Space.Value)
leaf-parts (result_ids ids) _ = omega arith
leaf-parts (result_count n) ByResults = omega (arith, replicate-length n Space.Value)
leaf-parts (result_count n) _ = omega arith
leaf-parts (text x) d = omega arith
leaf-parts _ d = omega arith

spaces-length : (d : Declares) (ls : Leaves) → length (spaces_by d ls) ≤ 1 + length (leaves_spaces ls d)
spaces-length (Always s) ls = omega arith
spaces-length Nothing ls = omega arith
spaces-length ByKind ls = omega arith
spaces-length _ ls = omega arith

pub row-parts : (t : Row) (ls : Leaves) → length (declares_row t ls) ≤ 1 + length (leaves_spaces ls (declares_by t))
row-parts t ls = spaces-length (declares_by t) ls

pub leaf-spaces : (l : Leaf) (ls : Leaves) (d : Declares) → length (leaves_spaces (l ▸ ls) d) ≤ parts_of l + length (leaves_spaces ls d)
leaf-spaces l ls d = omega (arith, length-append (leaf_spaces l d) (leaves_spaces ls d), leaf-parts l d)

-- ---- what references plan

alias-total : (k u : ℕ) (s : Space) (o : Option Origin) → planned (plan_alias k u s o) ≤ 1
alias-total k u s (Some o) = omega arith
alias-total k u s None = omega arith

name-total : (st : List Scope) (k u : ℕ) (s : Space) (b : Bool) (d : Option Denoted) → planned (plan_name st k u s b d) ≤ 1
name-total st k u s true None = omega arith
name-total st k u s true (Some d) = alias-total k u s (served st k u s d)
name-total st k u s false d = omega arith

module _ (cw : CoreModule → ℕ) where
  path-total : (k u : ℕ) (s : Space) (p : Path) → 16 * total (plan_path k u s p) ≤ weight_of_path p
  path-total k u s (root_number o n) = omega arith
  path-total k u s (root_name x) = omega arith
  path-total k u s (export_of p t) = omega (arith, total-append (plan_path k u (instance_space s) p) (mark (export_step k u (steps p)) (s ∷ []) ∷ []), path-total k u (instance_space s) p)

  inline-total : (o : Option Origin) (p : Planned Mark) (m : Mark) → planned (plan_inline o p (m ∷ [])) ≤ planned p + length m.spaces
  inline-total (Some j) p m = omega arith
  inline-total None p m = omega (arith, planned-one p m)

  mutual
    leaves-total : (st : List Scope) (k u : ℕ) (ls : Leaves) (d : Declares) → 16 * (planned (plan_leaves st k u ls) + length (leaves_spaces ls d)) ≤ weight_of_leaves cw ls
    leaves-total st k u no_leaf d = omega arith
    leaves-total st k u (l ▸ ls) d = omega (arith, planned-both (plan_leaf st k u l) (plan_leaves st k (u + references_leaf l) ls), leaf-spaces l ls d, leaf-total st k u l, leaves-total st k (u + references_leaf l) ls d)

    leaf-total : (st : List Scope) (k u : ℕ) (l : Leaf) → 16 * (planned (plan_leaf st k u l) + parts_of l) ≤ weight_of_leaf cw l
    leaf-total st k u (core_value (ref_name b r x)) = omega (arith, name-total st k u CoreType (leads_out r (denotes st CoreType r x)) (denotes st CoreType r x))
    leaf-total st k u (core_value v) = omega arith
    leaf-total st k u (ref s (name r x)) = omega (arith, name-total st k u s (leads_out r (denotes st s r x)) (denotes st s r x))
    leaf-total st k u (ref s (path p)) = omega (arith, path-total k u s p)
    leaf-total st k u (ref s (inline (row t ls))) = omega (arith, inline-total (reused st k u t ls) (plan_leaves st k (u + 1) ls) (mark (inline_type k u) (declares_row t ls)), row-parts t ls, leaves-total st k (u + 1) ls (declares_by t))
    leaf-total st k u (ref s (bundle (row t ls))) = omega (arith, planned-bundle (plan_leaves st k (u + 1) ls) (mark (bundle_of k u) (declares_row t ls)), row-parts t ls, leaves-total st k (u + 1) ls (declares_by t))
    leaf-total st k u (ref s _) = omega arith
    leaf-total st k u (present (node (row t ls))) = omega (arith, leaves-total st k u ls Nothing)
    leaf-total st k u (present l) = omega (arith, leaf-total st k u l)
    leaf-total st k u (node (row t ls)) = omega (arith, leaves-total st k u ls Nothing)
    leaf-total st k u (nodes ns) = omega (arith, nodes-total st k u ns)
    leaf-total st k u (scope s) = omega arith
    leaf-total st k u _ = omega arith

    nodes-total : (st : List Scope) (k u : ℕ) (ns : Nodes) → 16 * (planned (plan_nodes st k u ns) + count_nodes ns) ≤ weight_of_nodes cw ns
    nodes-total st k u no_node = omega arith
    nodes-total st k u (one_node (row t ls) ns) = omega (arith, planned-both (plan_leaves st k u ls) (plan_nodes st k (u + references ls) ns), leaves-total st k u ls Nothing, nodes-total st k (u + references ls) ns)

  -- ---- of a scope

  exports_of-total : (k j : ℕ) (xs : List Text) (ss : List Space) → 16 * total (export_marks_of k j xs ss) ≤ weight_of_all (λ t. 32 + length t) xs
  exports_of-total k j [] ss = omega arith
  exports_of-total k j (x ∷ xs) [] = omega arith
  exports_of-total k j (x ∷ xs) (s ∷ ss) = omega (arith, exports_of-total k (j + 1) xs (s ∷ ss))

  -- of the parts of one definition
  pub row-weight : (t : Row) (ls : Leaves) → 16 * length (declares_row t ls) ≤ 16 + weight_of_leaves cw ls
  row-weight t ls = omega (arith, row-parts t ls, leaves-total [] 0 0 ls (declares_by t))

  defs-total : (st : List Scope) (k : ℕ) (ds : Defs) → 16 * (total (plan_defs st k ds) + total (export_marks k ds)) ≤ weight_of_defs cw ds
  defs-total st k no_def = omega arith
  defs-total st k (one_def (define names (row t ls)) ds) =
      omega (
        arith,
        total-append (plan_one (plan_leaves st k 0 ls) (mark (written k) (declares_row t ls))) (plan_defs st (k + 1) ds),
        planned-one (plan_leaves st k 0 ls) (mark (written k) (declares_row t ls)),
        total-append (export_marks_of k 0 names.exports (declares_row t ls)) (export_marks (k + 1) ds),
        exports_of-total k 0 names.exports (declares_row t ls),
        row-parts t ls,
        leaves-total st k 0 ls (declares_by t),
        defs-total st (k + 1) ds,
      )

  name-marks : (b : Bool) → total (name_marks b) ≡ 0
  name-marks true = refl
  name-marks false = refl

  pub marks-total : (st : List Scope) (s : Scope) → 16 * total (marks (s ∷ st)) ≤ weight_of_scope cw s
  marks-total st (scope_of k id label ds) =
      let s : Scope = scope_of k id label ds in
      omega (arith, total-append (plan_defs (s ∷ st) 0 ds) (export_marks 0 ds ++ name_marks (has_names s)), total-append (export_marks 0 ds) (name_marks (has_names s)), name-marks (has_names s), defs-total (s ∷ st) 0 ds)

  pub count-length : (s : Space) (ss : List Space) → count_in s ss ≤ length ss
  count-length s [] = omega arith
  count-length s (t ∷ ts) = go (same_space s t) (count-length s ts)
    where
      go : (b : Bool) → length (filter (same_space s) ts) ≤ length ts → length (cond b (t ∷ filter (same_space s) ts) (filter (same_space s) ts)) ≤ suc (length ts)
      go true h = omega (arith, h)
      go false h = omega (arith, h)

  pub before-total : (s : Space) (o : Origin) (ms : List Mark) → before s o ms ≤ total ms
  before-total s o [] = omega arith
  before-total s o (m ∷ ms) = go (same_origin o m.origin) (before-total s o ms)
    where
      go : (b : Bool) → before s o ms ≤ total ms → cond b 0 (count_in s m.spaces + before s o ms) ≤ length m.spaces + total ms
      go true h = omega arith
      go false h = omega (arith, count-length s m.spaces, h)
