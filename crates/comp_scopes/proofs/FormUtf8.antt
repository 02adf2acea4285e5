-- The form of a component whose names are UTF-8 has names in UTF-8 too.
use Rattle.std.proofs.Common.{◌≡◌, ℕ, ◌+◌, Bool, true, false, codes, List, [], ◌∷◌, ◌++◌, refl, Option, Some, None}
use Rattle.std.specs.Str.{is_utf8, chars}
use Rattle.std.specs.Char.{encode_utf8}
use Rattle.comp_model.specs.declared.Space.{Space}
use Rattle.comp_model.specs.declared.Space.TheVariants.{CoreFunc, CoreType}
use Rattle.comp_model.specs.declared.row.Row.TheVariants as rows
use Rattle.comp_model.specs.declared.row.Row.{Row}
use Rattle.comp_model.specs.RowNumbers.{same_row}
use Rattle.comp_model.specs.Core.{Text, CoreValue, ref_numeral, ref_name}
use Rattle.comp_model.specs.Model.{Leaf, text, core_value, ref, present, node, nodes, scope, index, numeral, name, Path, root_number, root_name, export_of, path, inline, bundle, Leaves, no_leaf, ◌▸◌, Node, row, Nodes, no_node, one_node, no_names, define, Defs, no_def, one_def, Scope, scope_of}
use Rattle.comp_model.specs.declared.row.ScopeKind.{ScopeKind}
use Rattle.comp_model.specs.Spaces.{declares_row}
use Rattle.comp_model.specs.Origins.{Origin, written, inline_type}
use Rattle.comp_model.specs.ItemNames.{has_names}
use Rattle.comp_model.specs.Rows.{Shape, leaves_of, the_option, rows_of_list, ShapedLeaf, ShapedLeaves, ShapedNodes, ShapedDefs, FitsRows}
use Rattle.comp_model.specs.Utf8Names.{Utf8Path, Utf8Texts, Utf8Leaf, Utf8Leaves, Utf8Nodes, Utf8Defs, NamesAreUtf8}
use Rattle.comp_scopes.specs.Encoding.{Encoding}
use Rattle.comp_scopes.specs.Names.{Denoted, denotes}
use Rattle.comp_scopes.specs.References.{references, references_leaf, instance_space}
use Rattle.comp_scopes.specs.Reused.{reused}
use Rattle.comp_scopes.specs.Outward.{leads_out, served}
use Rattle.comp_scopes.specs.Form.{Made, Formed, form_one, form_inline, form_alias, form_name, path_index, form_path, form_value, form_exports_of, form_exports, form_names, step_node, coded_node, binary_defs, form_defs, form_leaves, form_leaf, form_nodes, form}
use Rattle.comp_scopes.specs.Renders.{AllMade}
use Rattle.comp_scopes.proofs.Lookup.{made-app}
use Rattle.comp_scopes.proofs.Each.{Each, each-both, each-one, each-bundle}

abbrev NodeUtf8 : Node → Type 0
NodeUtf8 (row t ls) = Utf8Leaves ls (leaves_of t)

abbrev MadeUtf8 : Made → Type 0
MadeUtf8 m = NodeUtf8 m.made

-- ---- what is generated

-- the names of custom sections
section-utf8 : (is_utf8 (codes "component-name") ≡ true) × (is_utf8 (codes "producers") ≡ true)
unfolding is_utf8 chars encode_utf8
section-utf8 = (refl, refl)

step-utf8 : (i : ℕ) (t : Text) (s : Space) → is_utf8 t ≡ true → NodeUtf8 (step_node i t s)
step-utf8 i t CoreFunc h = (tt, (h, (tt, tt)))
step-utf8 i t _ h = (tt, (h, (tt, tt)))

path-utf8 : (st : List Scope) (k u : ℕ) (s : Space) (p : Path) → Utf8Path p → AllMade MadeUtf8 (form_path st k u s p)
path-utf8 st k u s (root_number o n) h = tt
path-utf8 st k u s (root_name x) h = tt
path-utf8 st k u s (export_of p t) h = made-app MadeUtf8 (form_path st k u (instance_space s) p) _ (path-utf8 st k u (instance_space s) p h.1) (step-utf8 (path_index st k u (instance_space s) p) t s h.0, tt)

exports-of-utf8 : (st : List Scope) (k j : ℕ) (xs : List Text) (ss : List Space) → Utf8Texts xs → AllMade MadeUtf8 (form_exports_of st k j xs ss)
exports-of-utf8 st k j [] ss h = tt
exports-of-utf8 st k j (x ∷ xs) [] h = tt
exports-of-utf8 st k j (x ∷ xs) (s ∷ ss) h = ((h.0, (tt, (tt, tt))), exports-of-utf8 st k (j + 1) xs (s ∷ ss) h.1)

exports-utf8 : (st : List Scope) (k : ℕ) (ds : Defs) → Utf8Defs ds → AllMade MadeUtf8 (form_exports st k ds)
exports-utf8 st k no_def h = tt
exports-utf8 st k (one_def (define names (row t ls)) ds) h =
    made-app MadeUtf8 (form_exports_of st k 0 names.exports (declares_row t ls)) (form_exports st (k + 1) ds) (exports-of-utf8 st k 0 names.exports (declares_row t ls) h.0) (exports-utf8 st (k + 1) ds h.2)

names-utf8 : (st : List Scope) (s : Scope) (b : Bool) → AllMade MadeUtf8 (form_names st s b)
names-utf8 st s true = ((section-utf8.0, (refl, tt)), tt)
names-utf8 st s false = tt

alias-utf8 : (st : List Scope) (k u : ℕ) (s : Space) (d : Denoted) (o : Option Origin) → Each MadeUtf8 (form_alias st k u s d o)
alias-utf8 st k u s d (Some o) = (tt, tt, tt)
alias-utf8 st k u s d None = (tt, tt, ((tt, (tt, (tt, tt))), tt))

name-utf8 : (st : List Scope) (k u : ℕ) (s : Space) (b : Bool) (o : Option Denoted) → Each MadeUtf8 (form_name st k u s b o)
name-utf8 st k u s true None = (tt, tt, tt)
name-utf8 st k u s false None = (tt, tt, tt)
name-utf8 st k u s false (Some d) = (tt, tt, tt)
name-utf8 st k u s true (Some d) = alias-utf8 st k u s d (served st k u s d)

value-utf8 : (st : List Scope) (k u : ℕ) (v : CoreValue) (s : Shape) → Each MadeUtf8 (form_value st k u v) × Utf8Leaf (form_value st k u v).here s
value-utf8 st k u (ref_numeral b o n) s = ((tt, tt, tt), tt)
value-utf8 st k u (ref_name b q x) s = (name-utf8 st k u CoreType (leads_out q (denotes st CoreType q x)) (denotes st CoreType q x), tt)
value-utf8 st k u v s = ((tt, tt, tt), tt)

inline-utf8 : (st : List Scope) (k u : ℕ) (q : Space) (t : Row) (j : Option Origin) (a : Formed Leaves) (s : Shape) → Each MadeUtf8 a → NodeUtf8 (row t a.here) → Each MadeUtf8 (form_inline st k u q t j a) × Utf8Leaf (form_inline st k u q t j a).here s
inline-utf8 st k u q t (Some j) a s x n = ((tt, tt, tt), tt)
inline-utf8 st k u q t None a s x n = ((each-one MadeUtf8 (inline_type k u) (row t) a x n, tt, tt), tt)

made-utf8 : (ms : List Made) → AllMade MadeUtf8 ms → Utf8Defs (binary_defs ms)
made-utf8 [] h = tt
made-utf8 (m ∷ ms) h = one m.made h.0 (made-utf8 ms h.1)
  where
    one : (n : Node) → NodeUtf8 n → Utf8Defs (binary_defs ms) → Utf8Defs (one_def (define no_names n) (binary_defs ms))
    one (row t ls) x y = (tt, x, y)

-- ---- what is written

module _ (e : Encoding) where
  coded-utf8 : (t : Row) (ls bs : Leaves) → NodeUtf8 (row t bs) → NodeUtf8 (coded_node e t ls bs)
  coded-utf8 t ls bs h = go (same_row t rows.Producers) refl
    where
      go : (b : Bool) → same_row t rows.Producers ≡ b → NodeUtf8 (coded_node e t ls bs)
      go true q = rw q (section-utf8.1, (refl, tt))
      go false q = rw q h

  scope-made : (st : List Scope) (z : Scope) (ds : Defs) → AllMade MadeUtf8 (form_defs e (z ∷ st) 0 ds) → Utf8Defs ds → Utf8Defs (binary_defs (form_defs e (z ∷ st) 0 ds ++ (form_exports (z ∷ st) 0 ds ++ form_names st z (has_names z))))
  scope-made st z ds x h =
      made-utf8 _ (made-app MadeUtf8 (form_defs e (z ∷ st) 0 ds) (form_exports (z ∷ st) 0 ds ++ form_names st z (has_names z)) x
      (made-app MadeUtf8 (form_exports (z ∷ st) 0 ds) (form_names st z (has_names z)) (exports-utf8 (z ∷ st) 0 ds h) (names-utf8 st z (has_names z))))

  mutual
    defs-utf8 : (c : ScopeKind) (st : List Scope) (k : ℕ) (ds : Defs) → ShapedDefs ds c → Utf8Defs ds → AllMade MadeUtf8 (form_defs e st k ds)
    defs-utf8 c st k no_def f h = tt
    defs-utf8 c st k (one_def (define names (row t ls)) ds) f h =
        let x = leaves-utf8 st k 0 ls (leaves_of t) f.1 h.1 in
        let a : Formed Leaves = form_leaves e st k 0 ls in
        made-app MadeUtf8 (form_one (written k) (coded_node e t ls) a) (form_defs e st (k + 1) ds) (each-one MadeUtf8 (written k) (coded_node e t ls) a x.0 (coded-utf8 t ls a.here x.1)) (defs-utf8 c st (k + 1) ds f.2 h.2)

    leaves-utf8 : (st : List Scope) (k u : ℕ) (ls : Leaves) (ss : List Shape) → ShapedLeaves ls ss → Utf8Leaves ls ss → Each MadeUtf8 (form_leaves e st k u ls) × Utf8Leaves (form_leaves e st k u ls).here ss
    leaves-utf8 st k u no_leaf ss f h = ((tt, tt, tt), tt)
    leaves-utf8 st k u (l ▸ ls) [] f h = absurd f
    leaves-utf8 st k u (l ▸ ls) (s ∷ ss) f h =
        let x = leaf-utf8 st k u l s f.0 h.0 in
        let y = leaves-utf8 st k (u + references_leaf l) ls ss f.1 h.1 in
        (each-both MadeUtf8 (λ b bs. b ▸ bs) (form_leaf e st k u l) (form_leaves e st k (u + references_leaf l) ls) x.0 y.0, (x.1, y.1))

    leaf-utf8 : (st : List Scope) (k u : ℕ) (l : Leaf) (s : Shape) → ShapedLeaf l s → Utf8Leaf l s → Each MadeUtf8 (form_leaf e st k u l) × Utf8Leaf (form_leaf e st k u l).here s
    leaf-utf8 st k u (text t) s f h = ((tt, tt, tt), h)
    leaf-utf8 st k u (core_value v) s f h = value-utf8 st k u v s
    leaf-utf8 st k u (ref q (index i)) s f h = ((tt, tt, tt), tt)
    leaf-utf8 st k u (ref q (numeral o i)) s f h = ((tt, tt, tt), tt)
    leaf-utf8 st k u (ref q (name v x)) s f h = (name-utf8 st k u q (leads_out v (denotes st q v x)) (denotes st q v x), tt)
    leaf-utf8 st k u (ref q (path p)) s f h = ((tt, tt, path-utf8 st k u q p h), tt)
    leaf-utf8 st k u (ref q (inline (row t ls))) s f h =
        let x = leaves-utf8 st k (u + 1) ls (leaves_of t) f.1.1 h in
        inline-utf8 st k u q t (reused st k u t ls) (form_leaves e st k (u + 1) ls) s x.0 x.1
    leaf-utf8 st k u (ref q (bundle (row t ls))) s f h =
        let x = leaves-utf8 st k (u + 1) ls (leaves_of t) f.1.1 h in
        (each-bundle MadeUtf8 st k u q t (form_leaves e st k (u + 1) ls) x.0 x.1, tt)
    leaf-utf8 st k u (present l) s f h = leaf-utf8 st k u l (the_option s) f.1 h
    leaf-utf8 st k u (node (row t ls)) s f h = leaves-utf8 st k u ls (leaves_of t) f.1 h
    leaf-utf8 st k u (nodes ns) s f h = nodes-utf8 st k u ns (rows_of_list s) f.1 h
    leaf-utf8 st k u (scope (scope_of d id label ds)) s f h = ((tt, tt, tt), scope-made st (scope_of d id label ds) ds (defs-utf8 d (scope_of d id label ds ∷ st) 0 ds f.1 h) h)
    leaf-utf8 st k u _ s f h = ((tt, tt, tt), tt)

    nodes-utf8 : (st : List Scope) (k u : ℕ) (ns : Nodes) (ts : List Row) → ShapedNodes ns ts → Utf8Nodes ns → Each MadeUtf8 (form_nodes e st k u ns) × Utf8Nodes (form_nodes e st k u ns).here
    nodes-utf8 st k u no_node ts f h = ((tt, tt, tt), tt)
    nodes-utf8 st k u (one_node (row t ls) ns) ts f h =
        let x = leaves-utf8 st k u ls (leaves_of t) f.1 h.0 in
        let y = nodes-utf8 st k (u + references ls) ns ts f.2 h.1 in
        (each-both MadeUtf8 (λ bs cs. one_node (row t bs) cs) (form_leaves e st k u ls) (form_nodes e st k (u + references ls) ns) x.0 y.0, (x.1, y.1))

  pub form-utf8 : (st : List Scope) (s : Scope) → FitsRows s → NamesAreUtf8 s → NamesAreUtf8 (form e st s)
  form-utf8 st (scope_of c id label ds) f h = scope-made st (scope_of c id label ds) ds (defs-utf8 c (scope_of c id label ds ∷ st) 0 ds f h) h
