-- The form of a scope is binary.
use Rattle.std.proofs.Common.{◌≡◌, ◌≢◌, ℕ, ◌+◌, Bool, true, false, List, [], ◌∷◌, ◌++◌, Option, Some, None, refl, sym, subst}
use Rattle.comp_model.specs.declared.Space.{Space}
use Rattle.comp_model.specs.declared.Space.TheVariants.{CoreFunc, CoreType}
use Rattle.comp_model.specs.declared.row.Row.TheVariants as rows
use Rattle.comp_model.specs.declared.row.Row.{Row}
use Rattle.comp_model.specs.RowNumbers.{same_row}
use Rattle.comp_model.specs.Core.{Text, Place, counted, named, CoreValue, ref_numeral, ref_name}
use Rattle.comp_model.specs.Model.{Leaf, core_value, ref, place, present, node, nodes, result_count, module_bytes, scope, index, name, Path, root_number, root_name, export_of, path, inline, bundle, Leaves, no_leaf, ◌▸◌, Node, row, Nodes, no_node, one_node, no_names, define, Defs, no_def, one_def, Scope, scope_of}
use Rattle.comp_model.specs.Spaces.{declares_row}
use Rattle.comp_model.specs.Binary.{IsBinaryPlace, IsBinaryLeaf, AreBinaryLeaves, AreBinaryNodes, AreBinaryDefs, IsBinary}
use Rattle.comp_model.specs.Origins.{Origin, written, inline_type}
use Rattle.comp_model.proofs.Tests.{same_row-refl}
use Rattle.comp_scopes.specs.Encoding.{Encoding}
use Rattle.comp_scopes.specs.Names.{Denoted, denotes, depth_of}
use Rattle.comp_scopes.specs.References.{references, references_leaf, instance_space}
use Rattle.comp_scopes.specs.Reused.{reused}
use Rattle.comp_model.specs.ItemNames.{has_names}
use Rattle.comp_scopes.specs.Outward.{served, leads_out}
use Rattle.comp_scopes.specs.Form.{Made, Formed, form_one, form_inline, form_alias, form_name, form_path, step_tag, form_depth, form_place, form_value, form_exports_of, form_exports, form_names, coded_node, form_defs, form_leaves, form_leaf, form_nodes, binary_defs, form}
use Rattle.comp_scopes.specs.Rowed.{Rowed, DefsRowed, LeavesRowed, LeafRowed, NodesRowed}
use Rattle.comp_scopes.specs.Renders.{AllMade}
use Rattle.comp_scopes.proofs.Lookup.{made-app}
use Rattle.comp_scopes.proofs.Each.{Each, each-both, each-one, each-bundle}

abbrev pub BinaryNode : Node → Type 0
BinaryNode (row t ls) = (t ≢ rows.Producers) × AreBinaryLeaves ls

abbrev BinaryMade : Made → Type 0
BinaryMade m = BinaryNode m.made

other-tag : (t u : Row) → same_row t u ≡ false → t ≢ u
other-tag t u h e = let a : same_row t t ≡ false = subst (λ v. same_row t v ≡ false) (sym e) h in let b : same_row t t ≡ true = same_row-refl t in absurd (cc)

-- what declares an item is no list of producers
declares-other : (t : Row) (ls : Leaves) (s : Space) → declares_row t ls ≡ s ∷ [] → t ≢ rows.Producers
declares-other t ls s h e = let a : declares_row rows.Producers ls ≡ s ∷ [] = subst (λ v. declares_row v ls ≡ s ∷ []) e h in absurd (cc)

step-other : (s : Space) → step_tag s ≢ rows.Producers
step-other CoreFunc = other-tag rows.AliasCoreExport rows.Producers refl
step-other s = other-tag (step_tag s) rows.Producers refl

alias-binary : (st : List Scope) (k u : ℕ) (s : Space) (d : Denoted) (o : Option Origin) → Each BinaryMade (form_alias st k u s d o)
alias-binary st k u s d (Some o) = (tt, tt, tt)
alias-binary st k u s d None = (tt, tt, ((other-tag rows.AliasOuter rows.Producers refl, (refl, (tt, (tt, tt)))), tt))

name-binary : (st : List Scope) (k u : ℕ) (s : Space) (b : Bool) (o : Option Denoted) → Each BinaryMade (form_name st k u s b o)
name-binary st k u s true None = (tt, tt, tt)
name-binary st k u s false None = (tt, tt, tt)
name-binary st k u s false (Some d) = (tt, tt, tt)
name-binary st k u s true (Some d) = alias-binary st k u s d (served st k u s d)

path-binary : (st : List Scope) (k u : ℕ) (s : Space) (p : Path) → AllMade BinaryMade (form_path st k u s p)
path-binary st k u s (root_number o n) = tt
path-binary st k u s (root_name x) = tt
path-binary st k u s (export_of p t) = made-app BinaryMade (form_path st k u (instance_space s) p) _ (path-binary st k u (instance_space s) p) ((step-other s, (tt, (tt, (tt, tt)))), tt)

depth-binary : (o : Option ℕ) → IsBinaryPlace (form_depth o)
depth-binary None = refl
depth-binary (Some d) = refl

place-binary : (st : List Scope) (p : Place) → IsBinaryPlace (form_place st p)
place-binary st (counted o d) = refl
place-binary st (named o x) = depth-binary (depth_of st (named o x))

value-binary : (st : List Scope) (k u : ℕ) (v : CoreValue) → Each BinaryMade (form_value st k u v) × IsBinaryLeaf (form_value st k u v).here
value-binary st k u (ref_numeral b o n) = ((tt, tt, tt), tt)
value-binary st k u (ref_name b r x) = (name-binary st k u CoreType (leads_out r (denotes st CoreType r x)) (denotes st CoreType r x), tt)
value-binary st k u v = ((tt, tt, tt), tt)

inline-binary : (st : List Scope) (k u : ℕ) (s : Space) (t : Row) (j : Option Origin) (a : Formed Leaves) → t ≢ rows.Producers → Each BinaryMade a → AreBinaryLeaves a.here
    → Each BinaryMade (form_inline st k u s t j a) × IsBinaryLeaf (form_inline st k u s t j a).here
inline-binary st k u s t (Some j) a n h g = ((tt, tt, tt), tt)
inline-binary st k u s t None a n h g = ((each-one BinaryMade (inline_type k u) (row t) a h (n, g), tt, tt), tt)

module _ (e : Encoding) where
  coded-binary : (t : Row) (ls bs : Leaves) → AreBinaryLeaves bs → BinaryNode (coded_node e t ls bs)
  coded-binary t ls bs h = go (same_row t rows.Producers) refl
    where
      go : (b : Bool) → same_row t rows.Producers ≡ b → BinaryNode (coded_node e t ls bs)
      go true q = rw q (other-tag rows.Custom rows.Producers refl, (tt, (tt, tt)))
      go false q = rw q (other-tag t rows.Producers q, h)

  exports_of-binary : (st : List Scope) (k j : ℕ) (xs : List Text) (ss : List Space) → AllMade BinaryMade (form_exports_of st k j xs ss)
  exports_of-binary st k j [] ss = tt
  exports_of-binary st k j (x ∷ xs) [] = tt
  exports_of-binary st k j (x ∷ xs) (s ∷ ss) = ((other-tag rows.Export rows.Producers refl, (tt, (tt, (tt, tt)))), exports_of-binary st k (j + 1) xs (s ∷ ss))

  exports-binary : (st : List Scope) (k : ℕ) (ds : Defs) → AllMade BinaryMade (form_exports st k ds)
  exports-binary st k no_def = tt
  exports-binary st k (one_def (define names (row t ls)) ds) = made-app BinaryMade (form_exports_of st k 0 names.exports (declares_row t ls)) (form_exports st (k + 1) ds) (exports_of-binary st k 0 names.exports (declares_row t ls)) (exports-binary st (k + 1) ds)

  names-binary : (st : List Scope) (c : Scope) (b : Bool) → AllMade BinaryMade (form_names st c b)
  names-binary st c true = ((other-tag rows.Custom rows.Producers refl, (tt, (tt, tt))), tt)
  names-binary st c false = tt

  node-binary : (n : Node) (ds : Defs) → BinaryNode n → AreBinaryDefs ds → AreBinaryDefs (one_def (define no_names n) ds)
  node-binary (row t ls) ds h g = (refl, h.0, h.1, g)

  defs-of-binary : (ms : List Made) → AllMade BinaryMade ms → AreBinaryDefs (binary_defs ms)
  defs-of-binary [] h = tt
  defs-of-binary (m ∷ ms) h = node-binary m.made (binary_defs ms) h.0 (defs-of-binary ms h.1)

  mutual
    defs-binary : (st : List Scope) (k : ℕ) (ds : Defs) → DefsRowed ds → AllMade BinaryMade (form_defs e st k ds)
    defs-binary st k no_def w = tt
    defs-binary st k (one_def (define names (row t ls)) ds) w =
        let x : Each BinaryMade (form_leaves e st k 0 ls) × AreBinaryLeaves (form_leaves e st k 0 ls).here = leaves-binary st k 0 ls w.3 in
        made-app BinaryMade (form_one (written k) (coded_node e t ls) (form_leaves e st k 0 ls)) (form_defs e st (k + 1) ds)
        (each-one BinaryMade (written k) (coded_node e t ls) (form_leaves e st k 0 ls) x.0 (coded-binary t ls (form_leaves e st k 0 ls).here x.1)) (defs-binary st (k + 1) ds w.4)

    leaves-binary : (st : List Scope) (k u : ℕ) (ls : Leaves) → LeavesRowed ls → Each BinaryMade (form_leaves e st k u ls) × AreBinaryLeaves (form_leaves e st k u ls).here
    leaves-binary st k u no_leaf w = ((tt, tt, tt), tt)
    leaves-binary st k u (l ▸ ls) w =
        let x : Each BinaryMade (form_leaf e st k u l) × IsBinaryLeaf (form_leaf e st k u l).here = leaf-binary st k u l w.1 in
        let y : Each BinaryMade (form_leaves e st k (u + references_leaf l) ls) × AreBinaryLeaves (form_leaves e st k (u + references_leaf l) ls).here = leaves-binary st k (u + references_leaf l) ls w.2 in
        (each-both BinaryMade (λ b bs. b ▸ bs) (form_leaf e st k u l) (form_leaves e st k (u + references_leaf l) ls) x.0 y.0, (x.1, y.1))

    leaf-binary : (st : List Scope) (k u : ℕ) (l : Leaf) → LeafRowed l → Each BinaryMade (form_leaf e st k u l) × IsBinaryLeaf (form_leaf e st k u l).here
    leaf-binary st k u (core_value v) w = value-binary st k u v
    leaf-binary st k u (ref s (name r x)) w = (name-binary st k u s (leads_out r (denotes st s r x)) (denotes st s r x), tt)
    leaf-binary st k u (ref s (path p)) w = ((tt, tt, path-binary st k u s p), tt)
    leaf-binary st k u (ref s (inline (row t ls))) w =
        let x : Each BinaryMade (form_leaves e st k (u + 1) ls) × AreBinaryLeaves (form_leaves e st k (u + 1) ls).here = leaves-binary st k (u + 1) ls w.1 in
        inline-binary st k u s t (reused st k u t ls) (form_leaves e st k (u + 1) ls) (declares-other t ls s w.0) x.0 x.1
    leaf-binary st k u (ref s (bundle (row t ls))) w =
        let x : Each BinaryMade (form_leaves e st k (u + 1) ls) × AreBinaryLeaves (form_leaves e st k (u + 1) ls).here = leaves-binary st k (u + 1) ls w.1 in
        (each-bundle BinaryMade st k u s t (form_leaves e st k (u + 1) ls) x.0 (declares-other t ls s w.0, x.1), tt)
    leaf-binary st k u (ref s (index i)) w = absurd w
    leaf-binary st k u (place p) w = ((tt, tt, tt), place-binary st p)
    leaf-binary st k u (present l) w = leaf-binary st k u l w
    leaf-binary st k u (node (row t ls)) w = leaves-binary st k u ls w
    leaf-binary st k u (nodes ns) w = nodes-binary st k u ns w
    leaf-binary st k u (Leaf.case_id x) w = ((tt, tt, tt), refl)
    leaf-binary st k u (result_count x) w = absurd w
    leaf-binary st k u (module_bytes x) w = absurd w
    leaf-binary st k u (scope (scope_of c id label ds)) w =
        let s : Scope = scope_of c id label ds in (
          (tt, tt, tt),
          (
            refl,
            refl,
            defs-of-binary _ (made-app BinaryMade (form_defs e (scope_of c id label ds ∷ st) 0 ds) (form_exports (scope_of c id label ds ∷ st) 0 ds ++ form_names st (scope_of c id label ds) (has_names (scope_of c id label ds)))
                (defs-binary (scope_of c id label ds ∷ st) 0 ds w)
                (made-app BinaryMade (form_exports (scope_of c id label ds ∷ st) 0 ds) (form_names st (scope_of c id label ds) (has_names (scope_of c id label ds))) (exports-binary (scope_of c id label ds ∷ st) 0 ds) (names-binary st (scope_of c id label ds) (has_names (scope_of c id label ds))))),
          ),
        )
    leaf-binary st k u _ w = ((tt, tt, tt), tt)

    nodes-binary : (st : List Scope) (k u : ℕ) (ns : Nodes) → NodesRowed ns → Each BinaryMade (form_nodes e st k u ns) × AreBinaryNodes (form_nodes e st k u ns).here
    nodes-binary st k u no_node w = ((tt, tt, tt), tt)
    nodes-binary st k u (one_node (row t ls) ns) w =
        let x : Each BinaryMade (form_leaves e st k u ls) × AreBinaryLeaves (form_leaves e st k u ls).here = leaves-binary st k u ls w.1 in
        let y : Each BinaryMade (form_nodes e st k (u + references ls) ns) × AreBinaryNodes (form_nodes e st k (u + references ls) ns).here = nodes-binary st k (u + references ls) ns w.2 in
        (each-both BinaryMade (λ bs cs. one_node (row t bs) cs) (form_leaves e st k u ls) (form_nodes e st k (u + references ls) ns) x.0 y.0, (x.1, y.1))

  pub form-binary : (st : List Scope) (s : Scope) → Rowed s → IsBinary (form e st s)
  form-binary st (scope_of c id label ds) w = (
    refl,
    refl,
    defs-of-binary _ (made-app BinaryMade (form_defs e (scope_of c id label ds ∷ st) 0 ds) (form_exports (scope_of c id label ds ∷ st) 0 ds ++ form_names st (scope_of c id label ds) (has_names (scope_of c id label ds)))
        (defs-binary (scope_of c id label ds ∷ st) 0 ds w)
        (made-app BinaryMade (form_exports (scope_of c id label ds ∷ st) 0 ds) (form_names st (scope_of c id label ds) (has_names (scope_of c id label ds))) (exports-binary (scope_of c id label ds ∷ st) 0 ds) (names-binary st (scope_of c id label ds) (has_names (scope_of c id label ds))))),
  )
