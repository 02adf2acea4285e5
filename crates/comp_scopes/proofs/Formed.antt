-- What is formed has the marks that are planned, and declares what its source declares.
use Rattle.std.proofs.Common.{◌≡◌, ℕ, ◌+◌, Bool, true, false, nat_lt, replicate, List, [], ◌∷◌, ◌++◌, map, Option, Some, None, refl, ◌∙◌, ap}
use Rattle.comp_model.specs.declared.Space.{Space}
use Rattle.comp_model.specs.declared.Space.TheVariants.{CoreFunc, CoreType}
use Rattle.comp_model.specs.declared.row.Row.TheVariants as rows
use Rattle.comp_model.specs.declared.row.Row.{Row}
use Rattle.comp_model.specs.RowNumbers.{same_row}
use Rattle.comp_model.specs.Core.{Text, Reach, outward, own, at_place, CoreValue, ref_name, ref_numeral}
use Rattle.comp_model.specs.Model.{Leaf, core_value, ref, present, node, nodes, scope, name, Path, root_number, root_name, export_of, path, inline, bundle, Leaves, no_leaf, ◌▸◌, row, Nodes, no_node, one_node, count_nodes, define, Defs, no_def, one_def, Scope, scope_of}
use Rattle.comp_model.specs.declared.declares.Declares.{Declares}
use Rattle.comp_model.specs.declared.declares.Declares.TheVariants.{Always, ByKind, ByDescription, ByReference, ByList, ByResults, Nothing}
use Rattle.comp_model.specs.Spaces.{declares_by, leaf_spaces, leaves_spaces, spaces_by, declares_row}
use Rattle.comp_model.specs.Origins.{Origin, written, inline_type, bundle_of, inline_export, export_step}
use Rattle.comp_model.proofs.Tests.{same_row-true}
use Rattle.comp_scopes.specs.Encoding.{Encoding}
use Rattle.comp_scopes.specs.Names.{Denoted, denotes}
use Rattle.comp_scopes.specs.References.{references, references_leaf, steps, instance_space}
use Rattle.comp_scopes.specs.Reused.{reused}
use Rattle.comp_model.specs.ItemNames.{has_names}
use Rattle.comp_scopes.specs.Outward.{served, Planned, plan_inline, plan_bundle, leads_out}
use Rattle.comp_scopes.specs.Plan.{Mark, mark, plan_one, plan_alias, plan_name, plan_path, plan_leaves, plan_leaf, plan_nodes, plan_defs, export_marks_of, export_marks, name_marks, marks}
use Rattle.comp_scopes.specs.Form.{Made, make, spaces_of, mark_of, Formed, own_made, form_one, form_inline, form_bundle, form_alias, form_name, form_path, step_node, path_index, form_value, form_exports_of, form_exports, form_names, coded_node, form_defs, form_leaves, form_leaf, form_nodes, built}

-- ---- the spaces

pub map-app : {A B : Type 0} (g : A → B) (xs ys : List A) → map g (xs ++ ys) ≡ map g xs ++ map g ys
map-app g [] ys = refl
map-app g (x ∷ xs) ys = ap (λ r. g x ∷ r) (map-app g xs ys)

pub step-declares : (i : ℕ) (t : Text) (s : Space) → spaces_of (step_node i t s) ≡ s ∷ []
step-declares i t CoreFunc = refl
step-declares i t _ = refl

module _ (e : Encoding) where
  count-form : (st : List Scope) (k u : ℕ) (ns : Nodes) → count_nodes (form_nodes e st k u ns).here ≡ count_nodes ns
  count-form st k u no_node = refl
  count-form st k u (one_node (row t ls) ns) = ap (λ n. n + 1) (count-form st k (u + references ls) ns)

  spaces-value : (st : List Scope) (k u : ℕ) (v : CoreValue) (d : Declares) → leaf_spaces (form_value st k u v).here d ≡ leaf_spaces (core_value v) d
  spaces-value st k u (ref_numeral b o n) d = refl
  spaces-value st k u (ref_name b r x) d = refl
  spaces-value st k u v d = refl

  spaces-inline : (st : List Scope) (k u : ℕ) (s : Space) (t : Row) (ls : Leaves) (j : Option Origin) (d : Declares) → leaf_spaces (form_inline st k u s t j (form_leaves e st k (u + 1) ls)).here d ≡ leaf_spaces (ref s (inline (row t ls))) d
  spaces-inline st k u s t ls (Some j) d = refl
  spaces-inline st k u s t ls None d = refl

  spaces-list : (n m : ℕ) (d : Declares) (a b : Nodes) → count_nodes a ≡ count_nodes b → leaf_spaces (nodes a) d ≡ leaf_spaces (nodes b) d
  spaces-list n m ByList a b h = ap (λ i. replicate i CoreType) h
  spaces-list n m _ a b h = refl

  spaces-leaf : (st : List Scope) (k u : ℕ) (l : Leaf) (d : Declares) → leaf_spaces (form_leaf e st k u l).here d ≡ leaf_spaces l d
  spaces-leaf st k u (core_value v) d = spaces-value st k u v d
  spaces-leaf st k u (ref s (inline (row t ls))) d = spaces-inline st k u s t ls (reused st k u t ls) d
  spaces-leaf st k u (ref s (bundle (row t ls))) d = refl
  spaces-leaf st k u (node (row t ls)) d = refl
  spaces-leaf st k u (nodes ns) d = spaces-list 0 0 d (form_nodes e st k u ns).here ns (count-form st k u ns)
  spaces-leaf st k u (scope (scope_of c id label ds)) d = refl
  spaces-leaf st k u l d = refl

  spaces-leaves : (st : List Scope) (k u : ℕ) (ls : Leaves) (d : Declares) → leaves_spaces (form_leaves e st k u ls).here d ≡ leaves_spaces ls d
  spaces-leaves st k u no_leaf d = refl
  spaces-leaves st k u (l ▸ ls) d = rw (spaces-leaf st k u l d, spaces-leaves st k (u + references_leaf l) ls d) refl

  spaces_by-form : (st : List Scope) (k u : ℕ) (ls : Leaves) (d : Declares) → spaces_by d (form_leaves e st k u ls).here ≡ spaces_by d ls
  spaces_by-form st k u ls (Always s) = refl
  spaces_by-form st k u ls Nothing = refl
  spaces_by-form st k u ls ByKind = spaces-leaves st k u ls ByKind
  spaces_by-form st k u ls ByDescription = spaces-leaves st k u ls ByDescription
  spaces_by-form st k u ls ByReference = spaces-leaves st k u ls ByReference
  spaces_by-form st k u ls ByList = spaces-leaves st k u ls ByList
  spaces_by-form st k u ls ByResults = spaces-leaves st k u ls ByResults

  pub declares-form : (st : List Scope) (k u : ℕ) (t : Row) (ls : Leaves) → declares_row t (form_leaves e st k u ls).here ≡ declares_row t ls
  declares-form st k u t ls = spaces_by-form st k u ls (declares_by t)

  -- both rows of custom sections declare Nothing
  pub declares-coded : (t : Row) (ls bs : Leaves) → declares_row t bs ≡ declares_row t ls → spaces_of (coded_node e t ls bs) ≡ declares_row t ls
  declares-coded t ls bs h = go (same_row t rows.Producers) refl
    where
      go : (b : Bool) → same_row t rows.Producers ≡ b → spaces_of (coded_node e t ls bs) ≡ declares_row t ls
      go true q = let p : t ≡ rows.Producers = same_row-true t rows.Producers q in rw p refl
      go false q = rw q h

  -- ---- the marks

  abbrev SameMarks : {H : Type 0} → Formed H → Planned Mark → Type 0
  SameMarks f p = (map mark_of f.inlined ≡ p.inlined) × (map mark_of f.bundles ≡ p.bundles) × (map mark_of f.needed ≡ p.needed)

  alias-marks : (st : List Scope) (k u : ℕ) (s : Space) (d : Denoted) (o : Option Origin) → SameMarks (form_alias st k u s d o) (plan_alias k u s o)
  alias-marks st k u s d (Some o) = (refl, refl, refl)
  alias-marks st k u s d None = (refl, refl, refl)

  name-marks : (st : List Scope) (k u : ℕ) (s : Space) (r : Reach) (o : Option Denoted) → SameMarks (form_name st k u s (leads_out r o) o) (plan_name st k u s (leads_out r o) o)
  name-marks st k u s outward None = (refl, refl, refl)
  name-marks st k u s own None = (refl, refl, refl)
  name-marks st k u s (at_place p) None = (refl, refl, refl)
  name-marks st k u s own (Some d) = (refl, refl, refl)
  name-marks st k u s (at_place p) (Some d) = (refl, refl, refl)
  name-marks st k u s outward (Some d) = go (nat_lt 0 d.depth)
    where
      go : (b : Bool) → SameMarks (form_name st k u s b (Some d)) (plan_name st k u s b (Some d))
      go true = alias-marks st k u s d (served st k u s d)
      go false = (refl, refl, refl)

  path-marks : (st : List Scope) (k u : ℕ) (s : Space) (p : Path) → map mark_of (form_path st k u s p) ≡ plan_path k u s p
  path-marks st k u s (root_number o n) = refl
  path-marks st k u s (root_name x) = refl
  path-marks st k u s (export_of p t) =
      map-app mark_of (form_path st k u (instance_space s) p) (make (export_step k u (steps p)) (step_node (path_index st k u (instance_space s) p) t s) ∷ [])
      ∙ rw (path-marks st k u (instance_space s) p, step-declares (path_index st k u (instance_space s) p) t s) refl

  -- the bundles, the needs and the definition's own
  last-marks : {H : Type 0} (f : Formed H) (p : Planned Mark) (m : Made) → SameMarks f p → map mark_of (f.bundles ++ (f.needed ++ m ∷ [])) ≡ p.bundles ++ (p.needed ++ mark_of m ∷ [])
  last-marks f p m h = map-app mark_of f.bundles (f.needed ++ m ∷ []) ∙ rw (h.1, map-app mark_of f.needed (m ∷ []), h.2) refl

  one-marks : {H : Type 0} (f : Formed H) (p : Planned Mark) (m : Made) → SameMarks f p → map mark_of (f.inlined ++ (f.bundles ++ (f.needed ++ m ∷ []))) ≡ p.inlined ++ (p.bundles ++ (p.needed ++ mark_of m ∷ []))
  one-marks f p m h = map-app mark_of f.inlined (f.bundles ++ (f.needed ++ m ∷ [])) ∙ rw (h.0, last-marks f p m h) refl

  both-marks : {F G : Type 0} (f : Formed F) (g : Formed G) (p q : Planned Mark) → SameMarks f p → SameMarks g q
      → (map mark_of (f.inlined ++ g.inlined) ≡ p.inlined ++ q.inlined) × (map mark_of (f.bundles ++ g.bundles) ≡ p.bundles ++ q.bundles) × (map mark_of (f.needed ++ g.needed) ≡ p.needed ++ q.needed)
  both-marks f g p q a b = (
    map-app mark_of f.inlined g.inlined ∙ rw (a.0, b.0) refl,
    map-app mark_of f.bundles g.bundles ∙ rw (a.1, b.1) refl,
    map-app mark_of f.needed g.needed ∙ rw (a.2, b.2) refl,
  )

  inline-marks : (st : List Scope) (k u : ℕ) (s : Space) (t : Row) (j : Option Origin) (f : Formed Leaves) (p : Planned Mark) (ss : List Space) → SameMarks f p → declares_row t f.here ≡ ss
      → SameMarks (form_inline st k u s t j f) (plan_inline j p (mark (inline_type k u) ss ∷ []))
  inline-marks st k u s t (Some j) f p ss h d = (refl, refl, refl)
  inline-marks st k u s t None f p ss h d = (one-marks f p (own_made (inline_type k u) (row t) f) h ∙ rw d refl, refl, refl)

  bundle-marks : (st : List Scope) (k u : ℕ) (s : Space) (t : Row) (f : Formed Leaves) (p : Planned Mark) (ss : List Space) → SameMarks f p → declares_row t f.here ≡ ss
      → SameMarks (form_bundle st k u s t f) (plan_bundle p (mark (bundle_of k u) ss ∷ []))
  bundle-marks st k u s t f p ss h d = (h.0, last-marks f p (own_made (bundle_of k u) (row t) f) h ∙ rw d refl, refl)

  value-marks : (st : List Scope) (k u : ℕ) (v : CoreValue) → SameMarks (form_value st k u v) (plan_leaf st k u (core_value v))
  value-marks st k u (ref_name b r x) = name-marks st k u CoreType r (denotes st CoreType r x)
  value-marks st k u v = (refl, refl, refl)

  mutual
    pub leaves-marks : (st : List Scope) (k u : ℕ) (ls : Leaves) → SameMarks (form_leaves e st k u ls) (plan_leaves st k u ls)
    leaves-marks st k u no_leaf = (refl, refl, refl)
    leaves-marks st k u (l ▸ ls) = both-marks (form_leaf e st k u l) (form_leaves e st k (u + references_leaf l) ls) (plan_leaf st k u l) (plan_leaves st k (u + references_leaf l) ls)
        (leaf-marks st k u l) (leaves-marks st k (u + references_leaf l) ls)

    leaf-marks : (st : List Scope) (k u : ℕ) (l : Leaf) → SameMarks (form_leaf e st k u l) (plan_leaf st k u l)
    leaf-marks st k u (core_value v) = value-marks st k u v
    leaf-marks st k u (ref s (name r x)) = name-marks st k u s r (denotes st s r x)
    leaf-marks st k u (ref s (path p)) = (refl, refl, path-marks st k u s p)
    leaf-marks st k u (ref s (inline (row t ls))) =
        inline-marks st k u s t (reused st k u t ls) (form_leaves e st k (u + 1) ls) (plan_leaves st k (u + 1) ls) (declares_row t ls) (leaves-marks st k (u + 1) ls) (declares-form st k (u + 1) t ls)
    leaf-marks st k u (ref s (bundle (row t ls))) =
        bundle-marks st k u s t (form_leaves e st k (u + 1) ls) (plan_leaves st k (u + 1) ls) (declares_row t ls) (leaves-marks st k (u + 1) ls) (declares-form st k (u + 1) t ls)
    leaf-marks st k u (present l) = leaf-marks st k u l
    leaf-marks st k u (node (row t ls)) = leaves-marks st k u ls
    leaf-marks st k u (nodes ns) = nodes-marks st k u ns
    leaf-marks st k u (scope (scope_of c id label ds)) = (refl, refl, refl)
    leaf-marks st k u l = (refl, refl, refl)

    nodes-marks : (st : List Scope) (k u : ℕ) (ns : Nodes) → SameMarks (form_nodes e st k u ns) (plan_nodes st k u ns)
    nodes-marks st k u no_node = (refl, refl, refl)
    nodes-marks st k u (one_node (row t ls) ns) = both-marks (form_leaves e st k u ls) (form_nodes e st k (u + references ls) ns) (plan_leaves st k u ls) (plan_nodes st k (u + references ls) ns)
        (leaves-marks st k u ls) (nodes-marks st k (u + references ls) ns)

  def-marks : (st : List Scope) (k : ℕ) (t : Row) (ls : Leaves) → map mark_of (form_one (written k) (coded_node e t ls) (form_leaves e st k 0 ls)) ≡ plan_one (plan_leaves st k 0 ls) (mark (written k) (declares_row t ls))
  def-marks st k t ls =
      one-marks (form_leaves e st k 0 ls) (plan_leaves st k 0 ls) (own_made (written k) (coded_node e t ls) (form_leaves e st k 0 ls)) (leaves-marks st k 0 ls)
      ∙ ap (λ ss. plan_one (plan_leaves st k 0 ls) (mark (written k) ss)) (declares-coded t ls (form_leaves e st k 0 ls).here (declares-form st k 0 t ls))

  defs-marks : (st : List Scope) (k : ℕ) (ds : Defs) → map mark_of (form_defs e st k ds) ≡ plan_defs st k ds
  defs-marks st k no_def = refl
  defs-marks st k (one_def (define names (row t ls)) ds) =
      map-app mark_of (form_one (written k) (coded_node e t ls) (form_leaves e st k 0 ls)) (form_defs e st (k + 1) ds)
      ∙ ap (λ r. r ++ map mark_of (form_defs e st (k + 1) ds)) (def-marks st k t ls)
      ∙ ap (λ r. plan_one (plan_leaves st k 0 ls) (mark (written k) (declares_row t ls)) ++ r) (defs-marks st (k + 1) ds)

  exports_of-marks : (st : List Scope) (k j : ℕ) (xs : List Text) (ss : List Space) → map mark_of (form_exports_of st k j xs ss) ≡ export_marks_of k j xs ss
  exports_of-marks st k j [] ss = refl
  exports_of-marks st k j (x ∷ xs) [] = refl
  exports_of-marks st k j (x ∷ xs) (s ∷ ss) = ap (λ r. mark (inline_export k j) (s ∷ []) ∷ r) (exports_of-marks st k (j + 1) xs (s ∷ ss))

  exports-marks : (st : List Scope) (k : ℕ) (ds : Defs) → map mark_of (form_exports st k ds) ≡ export_marks k ds
  exports-marks st k no_def = refl
  exports-marks st k (one_def (define names (row t ls)) ds) =
      map-app mark_of (form_exports_of st k 0 names.exports (declares_row t ls)) (form_exports st (k + 1) ds)
      ∙ rw (exports_of-marks st k 0 names.exports (declares_row t ls), exports-marks st (k + 1) ds) refl

  names-marks : (st : List Scope) (s : Scope) (b : Bool) → map mark_of (form_names st s b) ≡ name_marks b
  names-marks st s true = refl
  names-marks st s false = refl

  -- the marks of the form are the planned marks
  pub built-marks : (st : List Scope) (s : Scope) → map mark_of (built e st s) ≡ marks (s ∷ st)
  built-marks st (scope_of c id label ds) =
      let s : Scope = scope_of c id label ds in
      map-app mark_of (form_defs e (scope_of c id label ds ∷ st) 0 ds) (form_exports (scope_of c id label ds ∷ st) 0 ds ++ form_names st (scope_of c id label ds) (has_names (scope_of c id label ds)))
      ∙ ap (λ r. r ++ map mark_of (form_exports (scope_of c id label ds ∷ st) 0 ds ++ form_names st (scope_of c id label ds) (has_names (scope_of c id label ds)))) (defs-marks (scope_of c id label ds ∷ st) 0 ds)
      ∙ ap (λ r. plan_defs (scope_of c id label ds ∷ st) 0 ds ++ r) (map-app mark_of (form_exports (scope_of c id label ds ∷ st) 0 ds) (form_names st (scope_of c id label ds) (has_names (scope_of c id label ds)))
      ∙ ap (λ r. r ++ map mark_of (form_names st (scope_of c id label ds) (has_names (scope_of c id label ds)))) (exports-marks (scope_of c id label ds ∷ st) 0 ds)
      ∙ ap (λ r. export_marks 0 ds ++ r) (names-marks st (scope_of c id label ds) (has_names (scope_of c id label ds))))
