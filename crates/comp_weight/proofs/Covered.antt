-- The form of a component that holds no form which is read and never written holds none.
use Rattle.std.proofs.Common.{◌≡◌, ℕ, ◌+◌, Bool, true, false, List, [], ◌∷◌, ◌++◌, refl, ap, Option, Some, None}
use Rattle.comp_model.specs.declared.Space.{Space}
use Rattle.comp_model.specs.declared.Space.TheVariants.{CoreFunc, CoreType}
use Rattle.comp_model.specs.declared.row.Row.TheVariants as rows
use Rattle.comp_model.specs.declared.row.Row.{Row}
use Rattle.comp_model.specs.RowNumbers.{same_row}
use Rattle.comp_model.specs.Core.{Text, CoreValue, ref_numeral, ref_name}
use Rattle.comp_model.specs.CoreModules.{CoreModule}
use Rattle.comp_model.specs.Model.{Leaf, core_value, ref, present, node, nodes, core_source, scope, index, numeral, name, Path, root_number, root_name, export_of, path, inline, bundle, Leaves, no_leaf, ◌▸◌, Node, row, Nodes, no_node, one_node, define, Defs, no_def, one_def, Scope, scope_of}
use Rattle.comp_model.specs.Spaces.{declares_row}
use Rattle.comp_model.specs.Origins.{Origin, written, inline_type, export_step}
use Rattle.comp_model.specs.ItemNames.{has_names}
use Rattle.comp_model.specs.Covered.{Uncovered, form_of_row, form_in_leaves, form_in_leaf, form_in_nodes, lower_of, held_at, first_held, uncovered_in_defs, uncovered_in_leaves, uncovered_in_leaf, uncovered_in_nodes, first_uncovered}
use Rattle.comp_scopes.specs.Encoding.{Encoding}
use Rattle.comp_scopes.specs.Names.{Denoted, denotes}
use Rattle.comp_scopes.specs.References.{references, references_leaf, steps, instance_space}
use Rattle.comp_scopes.specs.Reused.{reused}
use Rattle.comp_scopes.specs.Outward.{leads_out, served}
use Rattle.comp_scopes.specs.Form.{Made, make, Formed, form_one, form_inline, form_alias, form_name, path_index, form_path, form_value, form_exports_of, form_exports, form_names, step_node, coded_node, binary_defs, form_defs, form_leaves, form_leaf, form_nodes, built, form}
use Rattle.comp_scopes.specs.Renders.{AllMade}
use Rattle.comp_scopes.proofs.Lookup.{made-app}
use Rattle.comp_scopes.proofs.Each.{Each, each-both, each-one, each-bundle}

-- ---- none of two

lower-both : (a b : Option ℕ) → lower_of a b ≡ None → (a ≡ None) × (b ≡ None)
lower-both None b h = (refl, h)
lower-both (Some n) None h = absurd (cc)
lower-both (Some n) (Some m) h = absurd (cc)

lower-nones : (a b : Option ℕ) → a ≡ None → b ≡ None → lower_of a b ≡ None
lower-nones a b h g = rw (h, g) refl

first-both : (a b : Option Uncovered) → first_held a b ≡ None → (a ≡ None) × (b ≡ None)
first-both None b h = (refl, h)
first-both (Some x) b h = absurd (cc)

first-nones : (a b : Option Uncovered) → a ≡ None → b ≡ None → first_held a b ≡ None
first-nones a b h g = rw (h, g) refl

held-none : (o : ℕ) (n : Option ℕ) → held_at o n ≡ None → n ≡ None
held-none o None h = refl
held-none o (Some n) h = absurd (cc)

module _ (core : CoreModule → Option Uncovered) where
  abbrev Clean : Node → Type 0
  Clean (row t ls) = (lower_of (form_of_row t) (form_in_leaves ls) ≡ None) × (uncovered_in_leaves core ls ≡ None)

  abbrev MadeClean : Made → Type 0
  MadeClean m = Clean m.made

  clean-row : (t : Row) (ls : Leaves) → form_of_row t ≡ None → (form_in_leaves ls ≡ None) × (uncovered_in_leaves core ls ≡ None) → Clean (row t ls)
  clean-row t ls h g = (lower-nones (form_of_row t) (form_in_leaves ls) h g.0, g.1)

  -- ---- what is generated

  alias-clean : (st : List Scope) (k u : ℕ) (s : Space) (d : Denoted) (o : Option Origin) → Each MadeClean (form_alias st k u s d o)
  alias-clean st k u s d (Some o) = (tt, tt, tt)
  alias-clean st k u s d None = (tt, tt, ((refl, refl), tt))

  name-clean : (st : List Scope) (k u : ℕ) (s : Space) (b : Bool) (o : Option Denoted) → Each MadeClean (form_name st k u s b o)
  name-clean st k u s true None = (tt, tt, tt)
  name-clean st k u s false None = (tt, tt, tt)
  name-clean st k u s false (Some d) = (tt, tt, tt)
  name-clean st k u s true (Some d) = alias-clean st k u s d (served st k u s d)

  step-clean : (i : ℕ) (t : Text) (s : Space) → Clean (step_node i t s)
  step-clean i t CoreFunc = (refl, refl)
  step-clean i t _ = (refl, refl)

  path-clean : (st : List Scope) (k u : ℕ) (s : Space) (p : Path) → AllMade MadeClean (form_path st k u s p)
  path-clean st k u s (root_number o n) = tt
  path-clean st k u s (root_name x) = tt
  path-clean st k u s (export_of p t) = made-app MadeClean (form_path st k u (instance_space s) p) (make (export_step k u (steps p)) (step_node (path_index st k u (instance_space s) p) t s) ∷ []) (path-clean st k u (instance_space s) p) (step-clean (path_index st k u (instance_space s) p) t s, tt)

  exports-of-clean : (st : List Scope) (k j : ℕ) (xs : List Text) (ss : List Space) → AllMade MadeClean (form_exports_of st k j xs ss)
  exports-of-clean st k j [] ss = tt
  exports-of-clean st k j (x ∷ xs) [] = tt
  exports-of-clean st k j (x ∷ xs) (s ∷ ss) = ((refl, refl), exports-of-clean st k (j + 1) xs (s ∷ ss))

  exports-clean : (st : List Scope) (k : ℕ) (ds : Defs) → AllMade MadeClean (form_exports st k ds)
  exports-clean st k no_def = tt
  exports-clean st k (one_def (define names (row t ls)) ds) =
      made-app MadeClean (form_exports_of st k 0 names.exports (declares_row t ls)) (form_exports st (k + 1) ds) (exports-of-clean st k 0 names.exports (declares_row t ls)) (exports-clean st (k + 1) ds)

  -- ---- what parts become

  value-clean : (st : List Scope) (k u : ℕ) (v : CoreValue) → form_in_leaf (core_value v) ≡ None
      → Each MadeClean (form_value st k u v) × (form_in_leaf (form_value st k u v).here ≡ None) × (uncovered_in_leaf core (form_value st k u v).here ≡ None)
  value-clean st k u (ref_numeral b o n) h = ((tt, tt, tt), refl, refl)
  value-clean st k u (ref_name b q x) h = (name-clean st k u CoreType (leads_out q (denotes st CoreType q x)) (denotes st CoreType q x), refl, refl)
  value-clean st k u v h = ((tt, tt, tt), h, refl)

  inline-clean : (st : List Scope) (k u : ℕ) (q : Space) (t : Row) (j : Option Origin) (a : Formed Leaves) → Each MadeClean a → Clean (row t a.here)
      → Each MadeClean (form_inline st k u q t j a) × (form_in_leaf (form_inline st k u q t j a).here ≡ None) × (uncovered_in_leaf core (form_inline st k u q t j a).here ≡ None)
  inline-clean st k u q t (Some j) a x n = ((tt, tt, tt), refl, refl)
  inline-clean st k u q t None a x n = ((each-one MadeClean (inline_type k u) (row t) a x n, tt, tt), refl, refl)

  binary-clean : (ms : List Made) → AllMade MadeClean ms → uncovered_in_defs core (binary_defs ms) ≡ None
  binary-clean [] h = refl
  binary-clean (m ∷ ms) h = one m.made h.0 (binary-clean ms h.1)
    where
      one : (n : Node) → Clean n → uncovered_in_defs core (binary_defs ms) ≡ None → uncovered_in_defs core (binary_defs (record { origin = m.origin; held = m.held; made = n } ∷ ms)) ≡ None
      one (row t ls) x y =
          first-nones (held_at 0 (lower_of (form_of_row t) (form_in_leaves ls))) (first_held (uncovered_in_leaves core ls) (uncovered_in_defs core (binary_defs ms))) (ap (held_at 0) x.0) (first-nones (uncovered_in_leaves core ls) (uncovered_in_defs core (binary_defs ms)) x.1 y)

  module _ (e : Encoding) where
    names-clean : (st : List Scope) (s : Scope) (b : Bool) → AllMade MadeClean (form_names st s b)
    names-clean st s true = ((refl, refl), tt)
    names-clean st s false = tt

    coded-clean : (t : Row) (ls bs : Leaves) → Clean (row t bs) → Clean (coded_node e t ls bs)
    coded-clean t ls bs h = go (same_row t rows.Producers) refl
      where
        go : (b : Bool) → same_row t rows.Producers ≡ b → Clean (coded_node e t ls bs)
        go true q = rw q (refl, refl)
        go false q = rw q h

    mutual
      defs-clean : (st : List Scope) (k : ℕ) (ds : Defs) → uncovered_in_defs core ds ≡ None → AllMade MadeClean (form_defs e st k ds)
      defs-clean st k no_def h = tt
      defs-clean st k (one_def (define names (row t ls)) ds) h =
          let a = first-both (held_at names.offset (lower_of (form_of_row t) (form_in_leaves ls))) (first_held (uncovered_in_leaves core ls) (uncovered_in_defs core ds)) h in
          let b = first-both (uncovered_in_leaves core ls) (uncovered_in_defs core ds) a.1 in
          let f = lower-both (form_of_row t) (form_in_leaves ls) (held-none names.offset (lower_of (form_of_row t) (form_in_leaves ls)) a.0) in
          let x = leaves-clean st k 0 ls f.1 b.0 in
          made-app MadeClean (form_one (written k) (coded_node e t ls) (form_leaves e st k 0 ls)) (form_defs e st (k + 1) ds)
          (each-one MadeClean (written k) (coded_node e t ls) (form_leaves e st k 0 ls) x.0 (coded-clean t ls (form_leaves e st k 0 ls).here (clean-row t (form_leaves e st k 0 ls).here f.0 (x.1, x.2)))) (defs-clean st (k + 1) ds b.1)

      leaves-clean : (st : List Scope) (k u : ℕ) (ls : Leaves) → form_in_leaves ls ≡ None → uncovered_in_leaves core ls ≡ None
          → Each MadeClean (form_leaves e st k u ls) × (form_in_leaves (form_leaves e st k u ls).here ≡ None) × (uncovered_in_leaves core (form_leaves e st k u ls).here ≡ None)
      leaves-clean st k u no_leaf h g = ((tt, tt, tt), refl, refl)
      leaves-clean st k u (l ▸ ls) h g =
          let f = lower-both (form_in_leaf l) (form_in_leaves ls) h in
          let i = first-both (uncovered_in_leaf core l) (uncovered_in_leaves core ls) g in
          let x = leaf-clean st k u l f.0 i.0 in
          let y = leaves-clean st k (u + references_leaf l) ls f.1 i.1 in
          let a = (form_leaf e st k u l).here in
          let b = (form_leaves e st k (u + references_leaf l) ls).here in (
            each-both MadeClean (λ b bs. b ▸ bs) (form_leaf e st k u l) (form_leaves e st k (u + references_leaf l) ls) x.0 y.0,
            lower-nones (form_in_leaf a) (form_in_leaves b) x.1 y.1,
            first-nones (uncovered_in_leaf core a) (uncovered_in_leaves core b) x.2 y.2,
          )

      leaf-clean : (st : List Scope) (k u : ℕ) (l : Leaf) → form_in_leaf l ≡ None → uncovered_in_leaf core l ≡ None
          → Each MadeClean (form_leaf e st k u l) × (form_in_leaf (form_leaf e st k u l).here ≡ None) × (uncovered_in_leaf core (form_leaf e st k u l).here ≡ None)
      leaf-clean st k u (core_value v) h g = value-clean st k u v h
      leaf-clean st k u (ref q (index i)) h g = ((tt, tt, tt), refl, refl)
      leaf-clean st k u (ref q (numeral o i)) h g = ((tt, tt, tt), refl, refl)
      leaf-clean st k u (ref q (name v x)) h g = (name-clean st k u q (leads_out v (denotes st q v x)) (denotes st q v x), refl, refl)
      leaf-clean st k u (ref q (path p)) h g = ((tt, tt, path-clean st k u q p), refl, refl)
      leaf-clean st k u (ref q (inline (row t ls))) h g =
          let f = lower-both (form_of_row t) (form_in_leaves ls) h in
          let x = leaves-clean st k (u + 1) ls f.1 g in
          inline-clean st k u q t (reused st k u t ls) (form_leaves e st k (u + 1) ls) x.0 (clean-row t (form_leaves e st k (u + 1) ls).here f.0 (x.1, x.2))
      leaf-clean st k u (ref q (bundle (row t ls))) h g =
          let f = lower-both (form_of_row t) (form_in_leaves ls) h in
          let x = leaves-clean st k (u + 1) ls f.1 g in
          (each-bundle MadeClean st k u q t (form_leaves e st k (u + 1) ls) x.0 (clean-row t (form_leaves e st k (u + 1) ls).here f.0 (x.1, x.2)), refl, refl)
      leaf-clean st k u (present l) h g = leaf-clean st k u l h g
      leaf-clean st k u (node (row t ls)) h g =
          let f = lower-both (form_of_row t) (form_in_leaves ls) h in
          let x = leaves-clean st k u ls f.1 g in
          (x.0, lower-nones (form_of_row t) (form_in_leaves (form_leaves e st k u ls).here) f.0 x.1, x.2)
      leaf-clean st k u (nodes ns) h g = nodes-clean st k u ns h g
      leaf-clean st k u (core_source c) h g = ((tt, tt, tt), refl, refl)
      leaf-clean st k u (scope (scope_of c id label ds)) h g = ((tt, tt, tt), refl, binary-clean _ (built-clean st (scope_of c id label ds) g))
      leaf-clean st k u l h g = ((tt, tt, tt), h, g)

      nodes-clean : (st : List Scope) (k u : ℕ) (ns : Nodes) → form_in_nodes ns ≡ None → uncovered_in_nodes core ns ≡ None
          → Each MadeClean (form_nodes e st k u ns) × (form_in_nodes (form_nodes e st k u ns).here ≡ None) × (uncovered_in_nodes core (form_nodes e st k u ns).here ≡ None)
      nodes-clean st k u no_node h g = ((tt, tt, tt), refl, refl)
      nodes-clean st k u (one_node (row t ls) ns) h g =
          let f = lower-both (lower_of (form_of_row t) (form_in_leaves ls)) (form_in_nodes ns) h in
          let i = lower-both (form_of_row t) (form_in_leaves ls) f.0 in
          let j = first-both (uncovered_in_leaves core ls) (uncovered_in_nodes core ns) g in
          let x = leaves-clean st k u ls i.1 j.0 in
          let y = nodes-clean st k (u + references ls) ns f.1 j.1 in
          let a = (form_leaves e st k u ls).here in
          let b = (form_nodes e st k (u + references ls) ns).here in (
            each-both MadeClean (λ bs cs. one_node (row t bs) cs) (form_leaves e st k u ls) (form_nodes e st k (u + references ls) ns) x.0 y.0,
            lower-nones (lower_of (form_of_row t) (form_in_leaves a)) (form_in_nodes b) (lower-nones (form_of_row t) (form_in_leaves a) i.0 x.1) y.1,
            first-nones (uncovered_in_leaves core a) (uncovered_in_nodes core b) x.2 y.2,
          )

      built-clean : (st : List Scope) (s : Scope) → first_uncovered core s ≡ None → AllMade MadeClean (built e st s)
      built-clean st (scope_of c id label ds) h =
          let z : Scope = scope_of c id label ds in
          made-app MadeClean (form_defs e (z ∷ st) 0 ds) (form_exports (z ∷ st) 0 ds ++ form_names st z (has_names z)) (defs-clean (z ∷ st) 0 ds h)
          (made-app MadeClean (form_exports (z ∷ st) 0 ds) (form_names st z (has_names z)) (exports-clean (z ∷ st) 0 ds) (names-clean st z (has_names z)))

    pub form-covered : (st : List Scope) (s : Scope) → first_uncovered core s ≡ None → first_uncovered core (form e st s) ≡ None
    form-covered st s h = binary-clean (built e st s) (built-clean st s h)
