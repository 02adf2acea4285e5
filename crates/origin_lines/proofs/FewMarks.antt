-- The marks of a form are no more than the bytes that it costs.
use Rattle.std.proofs.Common.{◌≡◌, ℕ, ◌+◌, ◌≤◌, Bool, true, false, List, [], ◌∷◌, ◌++◌, Option, Some, None, refl, subst, sym, arith}
use Rattle.comp_model.specs.declared.Space.{Space}
use Rattle.comp_model.specs.declared.Space.TheVariants.{CoreType}
use Rattle.comp_model.specs.declared.row.Row.TheVariants as rows
use Rattle.comp_model.specs.declared.row.Row.{Row}
use Rattle.comp_model.specs.RowNumbers.{same_row}
use Rattle.comp_model.specs.Core.{Text, CoreValue, ref_name}
use Rattle.comp_model.specs.Model.{Leaf, core_value, ref, present, node, nodes, scope, name, Path, root_number, root_name, export_of, path, inline, bundle, Leaves, no_leaf, ◌▸◌, row, Nodes, no_node, one_node, define, Defs, no_def, one_def, Scope, scope_of, defs_of}
use Rattle.comp_model.specs.Payloads.{producers_payload}
use Rattle.comp_model.specs.Spaces.{declares_row}
use Rattle.comp_model.specs.Origins.{Origin, written, inline_type, bundle_of, Held, holds_none, holds}
use Rattle.comp_model.specs.ItemNames.{has_names}
use Rattle.comp_scopes.specs.Encoding.{Encoding}
use Rattle.comp_scopes.specs.Names.{Denoted, denotes}
use Rattle.comp_scopes.specs.References.{references, references_leaf, instance_space}
use Rattle.comp_scopes.specs.Reused.{reused}
use Rattle.comp_scopes.specs.Outward.{served, leads_out}
use Rattle.comp_scopes.specs.Form.{Made, Formed, held_first, own_made, form_one, form_inline, form_alias, form_name, form_path, form_value, form_exports_of, form_exports, form_names, coded_node, form_defs, form_leaves, form_leaf, form_nodes, binary_defs, origins_of, built, form, plan}
use Rattle.comp_scopes.specs.Rowed.{Rowed, DefsRowed, LeavesRowed, LeafRowed, NodesRowed}
use Rattle.comp_scopes.specs.Renders.{AllMade, HeldByScope}
use Rattle.comp_scopes.proofs.Each.{Each, each-both, each-one, each-bundle}
use Rattle.comp_scopes.proofs.HeldAlone.{built-alone}
use Rattle.comp_scopes.proofs.Lookup.{made-app}
use Rattle.comp_weight.specs.Cost.{cost_leaf, cost_leaves, cost_node, cost_nodes, cost_defs, cost_scope}
use Rattle.origin_lines.specs.Count.{held_total, marks_in}

abbrev held_marks : Held → ℕ
held_marks h = held_total (λ o. 1) h

first-marks : (g h : Held) → held_marks (held_first g h) ≤ held_marks g + held_marks h
first-marks holds_none h = omega arith
first-marks (holds os) h = omega arith

-- a definition costs what the marks in it do, where they come with a scope of its leaves
abbrev Cheap : Made → Type 0
Cheap m = HeldByScope m → held_marks m.held ≤ cost_node m.made

made-marks : (ms : List Made) → AllMade Cheap ms → AllMade HeldByScope ms → marks_in (origins_of ms) ≤ cost_defs (binary_defs ms)
made-marks [] c h = omega arith
made-marks (m ∷ ms) c h = omega (arith, c.0 h.0, made-marks ms c.1 h.1)

-- ---- what holds no marks

alias-cheap : (st : List Scope) (k u : ℕ) (s : Space) (d : Denoted) (o : Option Origin) → Each Cheap (form_alias st k u s d o)
alias-cheap st k u s d (Some o) = (tt, tt, tt)
alias-cheap st k u s d None = (tt, tt, (λ h. omega arith, tt))

name-cheap : (st : List Scope) (k u : ℕ) (s : Space) (b : Bool) (o : Option Denoted) → Each Cheap (form_name st k u s b o)
name-cheap st k u s true None = (tt, tt, tt)
name-cheap st k u s false None = (tt, tt, tt)
name-cheap st k u s false (Some d) = (tt, tt, tt)
name-cheap st k u s true (Some d) = alias-cheap st k u s d (served st k u s d)

alias-none : (st : List Scope) (k u : ℕ) (s : Space) (d : Denoted) (o : Option Origin) → (form_alias st k u s d o).held ≡ holds_none
alias-none st k u s d (Some o) = refl
alias-none st k u s d None = refl

name-none : (st : List Scope) (k u : ℕ) (s : Space) (b : Bool) (o : Option Denoted) → (form_name st k u s b o).held ≡ holds_none
name-none st k u s true None = refl
name-none st k u s false None = refl
name-none st k u s false (Some d) = refl
name-none st k u s true (Some d) = alias-none st k u s d (served st k u s d)

path-cheap : (st : List Scope) (k u : ℕ) (s : Space) (p : Path) → AllMade Cheap (form_path st k u s p)
path-cheap st k u s (root_number o n) = tt
path-cheap st k u s (root_name x) = tt
path-cheap st k u s (export_of p t) = made-app Cheap (form_path st k u (instance_space s) p) _ (path-cheap st k u (instance_space s) p) (λ h. omega arith, tt)

none-marks : (h : Held) (n : ℕ) → h ≡ holds_none → held_marks h ≤ n
none-marks h n e = subst (λ g. held_marks g ≤ n) (sym e) (omega arith)

exports_of-cheap : (st : List Scope) (k j : ℕ) (xs : List Text) (ss : List Space) → AllMade Cheap (form_exports_of st k j xs ss)
exports_of-cheap st k j [] ss = tt
exports_of-cheap st k j (x ∷ xs) [] = tt
exports_of-cheap st k j (x ∷ xs) (s ∷ ss) = (λ h. omega arith, exports_of-cheap st k (j + 1) xs (s ∷ ss))

exports-cheap : (st : List Scope) (k : ℕ) (ds : Defs) → AllMade Cheap (form_exports st k ds)
exports-cheap st k no_def = tt
exports-cheap st k (one_def (define names (row t ls)) ds) = made-app Cheap (form_exports_of st k 0 names.exports (declares_row t ls)) (form_exports st (k + 1) ds) (exports_of-cheap st k 0 names.exports (declares_row t ls)) (exports-cheap st (k + 1) ds)

names-cheap : (st : List Scope) (c : Scope) (b : Bool) → AllMade Cheap (form_names st c b)
names-cheap st c true = (λ h. omega arith, tt)
names-cheap st c false = tt

-- ---- leaves

-- the marks of a part cost no more than the part
abbrev LeavesCheap : Formed Leaves → Type 0
LeavesCheap a = Each Cheap a × (held_marks a.held ≤ cost_leaves a.here)

own-cheap : (o : Origin) (t : Row) (a : Formed Leaves) → LeavesCheap a → Cheap (own_made o (row t) a)
own-cheap o t a c h = let held = c.1 in omega (arith, held)

inline-cheap : (st : List Scope) (k u : ℕ) (s : Space) (t : Row) (j : Option Origin) (a : Formed Leaves) → LeavesCheap a → Each Cheap (form_inline st k u s t j a) × ((form_inline st k u s t j a).held ≡ holds_none)
inline-cheap st k u s t (Some j) a c = ((tt, tt, tt), refl)
inline-cheap st k u s t None a c = ((each-one Cheap (inline_type k u) (row t) a c.0 (own-cheap (inline_type k u) t a c), tt, tt), refl)

value-cheap : (st : List Scope) (k u : ℕ) (v : CoreValue) → Each Cheap (form_value st k u v) × ((form_value st k u v).held ≡ holds_none)
value-cheap st k u (ref_name b r x) = (name-cheap st k u CoreType (leads_out r (denotes st CoreType r x)) (denotes st CoreType r x), name-none st k u CoreType (leads_out r (denotes st CoreType r x)) (denotes st CoreType r x))
value-cheap st k u v = ((tt, tt, tt), refl)

module _ (e : Encoding) where
  coded-cheap : (st : List Scope) (k : ℕ) (t : Row) (ls : Leaves) → LeavesCheap (form_leaves e st k 0 ls) → Cheap (own_made (written k) (coded_node e t ls) (form_leaves e st k 0 ls))
  coded-cheap st k t ls c = go (same_row t rows.Producers) refl
    where
      go : (b : Bool) → same_row t rows.Producers ≡ b → Cheap (own_made (written k) (coded_node e t ls) (form_leaves e st k 0 ls))
      go true q = rw q (λ h. none-marks _ _ (h refl))
      go false q = rw q (own-cheap (written k) t (form_leaves e st k 0 ls) c)

  built-cheap : (st : List Scope) (s : Scope) → AllMade Cheap (form_defs e (s ∷ st) 0 (defs_of s)) → AllMade Cheap (built e st s)
  built-cheap st (scope_of c id label ds) d =
      let s : Scope = scope_of c id label ds in
      made-app Cheap (form_defs e (s ∷ st) 0 ds) (form_exports (s ∷ st) 0 ds ++ form_names st s (has_names s)) d
      (made-app Cheap (form_exports (s ∷ st) 0 ds) (form_names st s (has_names s)) (exports-cheap (s ∷ st) 0 ds) (names-cheap st s (has_names s)))

  mutual
    leaves-cheap : (st : List Scope) (k u : ℕ) (ls : Leaves) → LeavesRowed ls → LeavesCheap (form_leaves e st k u ls)
    leaves-cheap st k u no_leaf w = ((tt, tt, tt), omega arith)
    leaves-cheap st k u (l ▸ ls) w =
        let x = leaf-cheap st k u l w.1 in
        let y = leaves-cheap st k (u + references_leaf l) ls w.2 in
        let a = x.1 in
        let b = y.1 in (
          each-both Cheap (λ b bs. b ▸ bs) (form_leaf e st k u l) (form_leaves e st k (u + references_leaf l) ls) x.0 y.0,
          omega (arith, first-marks (form_leaf e st k u l).held (form_leaves e st k (u + references_leaf l) ls).held, a, b),
        )

    leaf-cheap : (st : List Scope) (k u : ℕ) (l : Leaf) → LeafRowed l → Each Cheap (form_leaf e st k u l) × (held_marks (form_leaf e st k u l).held ≤ cost_leaf (form_leaf e st k u l).here)
    leaf-cheap st k u (core_value v) w = let x = value-cheap st k u v in (x.0, none-marks _ _ x.1)
    leaf-cheap st k u (ref s (name r x)) w =
        (name-cheap st k u s (leads_out r (denotes st s r x)) (denotes st s r x), none-marks _ _ (name-none st k u s (leads_out r (denotes st s r x)) (denotes st s r x)))
    leaf-cheap st k u (ref s (path p)) w = ((tt, tt, path-cheap st k u s p), omega arith)
    leaf-cheap st k u (ref s (inline (row t ls))) w =
        let x = inline-cheap st k u s t (reused st k u t ls) (form_leaves e st k (u + 1) ls) (leaves-cheap st k (u + 1) ls w.1) in
        (x.0, none-marks _ _ x.1)
    leaf-cheap st k u (ref s (bundle (row t ls))) w =
        let x = leaves-cheap st k (u + 1) ls w.1 in
        (each-bundle Cheap st k u s t (form_leaves e st k (u + 1) ls) x.0 (own-cheap (bundle_of k u) t (form_leaves e st k (u + 1) ls) x), omega arith)
    leaf-cheap st k u (present l) w = let x = leaf-cheap st k u l w in let a = x.1 in (x.0, omega (arith, a))
    leaf-cheap st k u (node (row t ls)) w = let x = leaves-cheap st k u ls w in let a = x.1 in (x.0, omega (arith, a))
    leaf-cheap st k u (nodes ns) w = let x = nodes-cheap st k u ns w in let a = x.1 in (x.0, omega (arith, a))
    leaf-cheap st k u (scope (scope_of c id label ds)) w =
        let s : Scope = scope_of c id label ds in
        ((tt, tt, tt), omega (arith, made-marks (built e st s) (built-cheap st s (defs-cheap (s ∷ st) 0 ds w)) (built-alone e st s w)))
    leaf-cheap st k u _ w = ((tt, tt, tt), omega arith)

    nodes-cheap : (st : List Scope) (k u : ℕ) (ns : Nodes) → NodesRowed ns → Each Cheap (form_nodes e st k u ns) × (held_marks (form_nodes e st k u ns).held ≤ cost_nodes (form_nodes e st k u ns).here)
    nodes-cheap st k u no_node w = ((tt, tt, tt), omega arith)
    nodes-cheap st k u (one_node (row t ls) ns) w =
        let x = leaves-cheap st k u ls w.1 in
        let y = nodes-cheap st k (u + references ls) ns w.2 in
        let a = x.1 in
        let b = y.1 in (
          each-both Cheap (λ bs cs. one_node (row t bs) cs) (form_leaves e st k u ls) (form_nodes e st k (u + references ls) ns) x.0 y.0,
          omega (arith, first-marks (form_leaves e st k u ls).held (form_nodes e st k (u + references ls) ns).held, a, b),
        )

    defs-cheap : (st : List Scope) (k : ℕ) (ds : Defs) → DefsRowed ds → AllMade Cheap (form_defs e st k ds)
    defs-cheap st k no_def w = tt
    defs-cheap st k (one_def (define names (row t ls)) ds) w =
        let x = leaves-cheap st k 0 ls w.3 in
        made-app Cheap (form_one (written k) (coded_node e t ls) (form_leaves e st k 0 ls)) (form_defs e st (k + 1) ds)
        (each-one Cheap (written k) (coded_node e t ls) (form_leaves e st k 0 ls) x.0 (coded-cheap st k t ls x)) (defs-cheap st (k + 1) ds w.4)

  pub plan-cost : (st : List Scope) (s : Scope) → Rowed s → marks_in (plan e st s) ≤ cost_scope (form e st s)
  plan-cost st (scope_of c id label ds) w =
      let s : Scope = scope_of c id label ds in
      omega (arith, made-marks (built e st s) (built-cheap st s (defs-cheap (s ∷ st) 0 ds w)) (built-alone e st s w))
