-- What a scope becomes under a naming is an expansion of it.
use Rattle.std.proofs.Common.{◌≡◌, ℕ, suc, ◌+◌, false, List, [], ◌∷◌, ◌++◌, slice_get, Option, Some, None, IsSome, refl, sym, ◌∙◌, ap, subst, arith}
use Rattle.comp_model.specs.declared.Space.{Space}
use Rattle.comp_model.specs.declared.row.Row.{Row}
use Rattle.comp_model.specs.Core.{Text, Id, is_of_text}
use Rattle.comp_model.specs.Model.{Leaf, ref, present, node, nodes, scope, name, inline, bundle, Leaves, no_leaf, ◌▸◌, row, Nodes, no_node, one_node, Names, define, Defs, no_def, one_def, Scope, scope_of, defs_of}
use Rattle.comp_model.specs.declared.row.ScopeKind.{ScopeKind}
use Rattle.comp_model.specs.Spaces.{declares_row}
use Rattle.comp_model.specs.Origins.{Origin, written, inline_type, bundle_of, inline_export, export_step, outer_alias_of, name_section}
use Rattle.comp_model.specs.ItemNames.{first_or_none}
use Rattle.comp_expanded.specs.ListMarks.{nothing_inside}
use Rattle.comp_scopes.specs.References.{references, references_leaf}
use Rattle.comp_scopes.specs.Reused.{reused}
use Rattle.comp_expanded.specs.Expansion.{Naming, given_to_scope, inside, given, the_id, generated_reach, generated_names, id_of_mark, first_id, ids_at, with_given, given_names, Entry, Expanded, entry, expand_one, expand_inline, expand_leaves, expand_leaf, expand_nodes, expand_defs, expand_exports, expand, expand_marks}
use Rattle.comp_expanded.specs.Named.{IsGenerated, ExportsNamed, InlineNamed, LeavesNamed, LeafNamed, NodesNamed, DefsNamed, Named}
use Rattle.comp_expanded.specs.Expands.{find_mark, id_in, marked_id, ExportId, ExpandsInline, ExpandsLeaves, ExpandsLeaf, ExpandsNodes, ExpandsDefs, ExpandsExports, Expands}
use Rattle.comp_expanded.proofs.Ids.{EachListed, each-left}
use Rattle.comp_expanded.proofs.Ready.{In, in-self}
use Rattle.comp_expanded.proofs.ScopeOf.{def_at, ids-of, entry-of}
use Rattle.comp_expanded.proofs.Listed.{Stood, reused-stood}
use Rattle.comp_expanded.proofs.Once.{list-once, once-found}

-- each written definition that is named has the id by which it is named, and so has what an inline node reuses
abbrev pub GivesWritten : (Origin → Option Id) → Naming → Defs → Type 0
GivesWritten ids g ds = (i : ℕ) (ns : Names) (t : Row) (ls : Leaves) → def_at ds i ≡ Some (define ns (row t ls)) → IsSome (first_id ns.ids (given g (written i))) → ids (written i) ≡ Some (the_id (first_id ns.ids (given g (written i))))

abbrev pub GivesReused : (Origin → Option Id) → Naming → Scope → Type 0
GivesReused ids g c = (k u : ℕ) (t : Row) (ls : Leaves) (o : Origin) → reused (c ∷ []) k u t ls ≡ Some o → InlineNamed g c k u (Some o) (Unit {0}) → ids o ≡ Some (id_of_mark g c o)

abbrev pub GivesIds : (Origin → Option Id) → Naming → Scope → Type 0
GivesIds ids g c = GivesWritten ids g (defs_of c) × GivesReused ids g c

pub first-given : (ids : List (Option Id)) (y : Option Id) → first_or_none (with_given ids y) ≡ first_id ids y
first-given [] None = refl
first-given [] (Some y) = refl
first-given (None ∷ ids) None = refl
first-given (None ∷ ids) (Some y) = refl
first-given (Some x ∷ ids) None = refl
first-given (Some x ∷ ids) (Some y) = refl

some-the : (y : Option Id) → IsSome y → y ≡ Some (the_id y)
some-the None h = absurd (cc)
some-the (Some x) h = refl

generated-text : (y : Option Id) → IsGenerated y → (is_of_text (the_id y) ≡ false) × (y ≡ Some (the_id y))
generated-text None h = absurd h
generated-text (Some x) h = (h, refl)

-- the condition on what is reused speaks of nothing else
pub named-any : (g : Naming) (c : Scope) (k u : ℕ) (o : Origin) (P : Type 0) → InlineNamed g c k u (Some o) P → InlineNamed g c k u (Some o) (Unit {0})
named-any g c k u (written j) P h = h
named-any g c k u _ P h = tt

inline-expands : (ids : Origin → Option Id) (g : Naming) (c : Scope) (k u : ℕ) (s : Space) (t : Row) (ls : Leaves) (r : Option Origin) (P : Type 0) (E : Expanded Leaves → Type 0) (d : Expanded Leaves) → GivesIds ids g c → reused (c ∷ []) k u t ls ≡ r → InlineNamed g c k u r P → (P → E d)
    → ExpandsInline ids c k u s t r E (expand_inline g c k u s t r d)
inline-expands ids g c k u s t ls (Some o) P E d f e n v = (id_of_mark g c o, f.1 k u t ls o e (named-any g c k u o P n), refl)
inline-expands ids g c k u s t ls None P E d f e n v =
    let y : (is_of_text (the_id (given g (inline_type k u))) ≡ false) × (given g (inline_type k u) ≡ Some (the_id (given g (inline_type k u)))) = generated-text (given g (inline_type k u)) n.0 in
    (the_id (given g (inline_type k u)), d, y.0, ap (λ w. record { inlined = expand_one (inline_type k u) (generated_names w) t d; bundles = []; held = nothing_inside; places = u ∷ []; here = ref s (name (generated_reach c) (the_id (given g (inline_type k u)))) }) y.1, v n.1)

pub exports-expand : (ids : Origin → Option Id) (g : Naming) (c : Scope) (whole : Defs) → GivesWritten ids g whole → (k : ℕ) (ds : Defs) → ((i : ℕ) → def_at whole (k + i) ≡ def_at ds i) → DefsNamed g c k ds → ExpandsExports ids k ds (expand_exports g k ds)
exports-expand ids g c whole f k no_def w n = refl
exports-expand ids g c whole f k (one_def (define ns (row t ls)) ds) w n =
    let z : k + 0 ≡ k = omega arith in
    let d : def_at whole k ≡ Some (define ns (row t ls)) = subst (λ i. def_at whole i ≡ Some (define ns (row t ls))) z (w 0) in
    (the_id (first_id ns.ids (given g (written k))), expand_exports g (k + 1) ds, go ns.exports n.1 d, refl, exports-expand ids g c whole f (k + 1) ds (λ i. ap (def_at whole) (omega arith) ∙ w (suc i)) n.3)
  where
    go : (xs : List Text) → ExportsNamed xs (first_id ns.ids (given g (written k))) → def_at whole k ≡ Some (define ns (row t ls)) → ExportId xs (ids (written k)) (the_id (first_id ns.ids (given g (written k))))
    go [] m d = tt
    go (x ∷ xs) m d = f k ns t ls d m

-- the ids by which definitions are named give themselves
abbrev pub self_named : Naming → Scope → Origin → Option Id
self_named g c o = Some (id_of_mark g c o)

pub self-gives : (g : Naming) (c : Scope) → GivesIds (self_named g c) g c
self-gives g c = (λ i ns t ls d n. ap (λ w. Some (the_id (first_id w (given g (written i))))) (ids-of (defs_of c) i ns t ls d), λ k u t ls o e n. refl)

-- the ids of the list itself do
module _ (g : Naming) (kd : ScopeKind) (id : Option Id) (label : Option Text) (ds : Defs) (n : DefsNamed g (scope_of kd id label ds) 0 ds) (ids : Origin → Option Id)
    (h : ExpandsDefs ids (scope_of kd id label ds) 0 ds (expand_defs g (scope_of kd id label ds) 0 ds)) (e : ExpandsExports ids 0 ds (expand_exports g 0 ds)) where
  abbrev c : Scope
  c = scope_of kd id label ds

  abbrev L : List Entry
  L = expand_defs g (scope_of kd id label ds) 0 ds ++ expand_exports g 0 ds

  found : (p : ℕ) (d : Entry) → slice_get L p ≡ Some d → find_mark L d.origin ≡ Some d
  found = once-found L (list-once c ids (expand_defs g (scope_of kd id label ds) 0 ds) (expand_exports g 0 ds) h e)

  in-list : EachListed (In L) (expand_defs g (scope_of kd id label ds) 0 ds)
  in-list = each-left (In L) (expand_defs g (scope_of kd id label ds) 0 ds) (expand_exports g 0 ds) (in-self L)

  list-written : GivesWritten (marked_id L) g ds
  list-written i ns t ls d s =
      let z : 0 + i ≡ i = omega arith in
      let m : In L (entry (written (0 + i)) (given_names ns (given g (written (0 + i)))) t (expand_leaves g (scope_of kd id label ds) (written (0 + i)) (0 + i) 0 ls)) = entry-of g c L 0 ds i ns t ls in-list d in
      let y : marked_id L (written (0 + i)) ≡ first_id ns.ids (given g (written (0 + i))) = ap id_in (found m.0 _ m.1) ∙ first-given ns.ids (given g (written (0 + i))) in
      subst (λ k. marked_id L (written k) ≡ first_id ns.ids (given g (written k))) z y ∙ some-the (first_id ns.ids (given g (written i))) s

  -- of a mark that stands in it
  stood-given : (k u : ℕ) (r : Space) (o : Origin) → Stood g c L r o → InlineNamed g c k u (Some o) (Unit {0}) → marked_id L o ≡ Some (id_of_mark g c o)
  stood-given k u r (written j) s m =
      let i : ids_at ds j ≡ s.0.ids = ids-of ds j s.0 s.1 s.2 s.3 in
      list-written j s.0 s.1 s.2 s.3 (subst (λ w. IsSome (first_id w (given g (written j)))) i m) ∙ ap (λ w. Some (the_id (first_id w (given g (written j))))) (sym i)
  stood-given k u r (inline_type j v) s m =
      let f : find_mark L (inline_type j v) ≡ Some s.1 = subst (λ o. find_mark L o ≡ Some s.1) s.3 (found s.0 s.1 s.2) in
      ap id_in f ∙ ap (λ (ns : Names). first_or_none ns.ids) s.4 ∙ (generated-text (given g (inline_type j v)) s.5).1
  stood-given k u r (bundle_of j v) s m = absurd s
  stood-given k u r (inline_export j v) s m = absurd s
  stood-given k u r (export_step j v i) s m = absurd s
  stood-given k u r (outer_alias_of j v) s m = absurd s
  stood-given k u r name_section s m = absurd s

  list-gives : GivesIds (marked_id L) g c
  list-gives = (list-written, λ k u t ls o r m. let s : (s : Space) × (declares_row t ls ≡ s ∷ []) × Stood g c L s o = reused-stood g c L n in-list k u t ls o r in stood-given k u s.0 o s.2 m)

mutual
  leaves-expand : (ids : Origin → Option Id) (g : Naming) (c : Scope) (o : Origin) (k u : ℕ) (ls : Leaves) → GivesIds ids g c → LeavesNamed g c o k u ls → ExpandsLeaves ids c k u ls (expand_leaves g c o k u ls)
  leaves-expand ids g c o k u no_leaf f n = refl
  leaves-expand ids g c o k u (l ▸ ls) f n = (expand_leaf g c o k u l, expand_leaves g c o k (u + references_leaf l) ls, refl, leaf-expands ids g c o k u l f n.0, leaves-expand ids g c o k (u + references_leaf l) ls f n.1)

  leaf-expands : (ids : Origin → Option Id) (g : Naming) (c : Scope) (o : Origin) (k u : ℕ) (l : Leaf) → GivesIds ids g c → LeafNamed g c o k u l → ExpandsLeaf ids c k u l (expand_leaf g c o k u l)
  leaf-expands ids g c o k u (ref s (inline (row t ls))) f n =
      inline-expands ids g c k u s t ls (reused (c ∷ []) k u t ls) (LeavesNamed g c (inline_type k u) k (u + 1) ls) (ExpandsLeaves ids c k (u + 1) ls) (expand_leaves g c (inline_type k u) k (u + 1) ls) f refl n (λ m. leaves-expand ids g c (inline_type k u) k (u + 1) ls f m)
  leaf-expands ids g c o k u (ref s (bundle (row t ls))) f n =
      let y : (is_of_text (the_id (given g (bundle_of k u))) ≡ false) × (given g (bundle_of k u) ≡ Some (the_id (given g (bundle_of k u)))) = generated-text (given g (bundle_of k u)) n.0 in
      let d : Expanded Leaves = expand_leaves g c (bundle_of k u) k (u + 1) ls in
      (the_id (given g (bundle_of k u)), d, y.0, ap (λ w. record { inlined = d.inlined; bundles = d.bundles ++ entry (bundle_of k u) (generated_names w) t d ∷ []; held = nothing_inside; places = u ∷ []; here = ref s (name (generated_reach c) (the_id (given g (bundle_of k u)))) }) y.1, leaves-expand ids g c (bundle_of k u) k (u + 1) ls f n.1)
  leaf-expands ids g c o k u (present l) f n = (expand_leaf g c o k u l, refl, leaf-expands ids g c o k u l f n)
  leaf-expands ids g c o k u (node (row t ls)) f n = (expand_leaves g c o k u ls, refl, leaves-expand ids g c o k u ls f n)
  leaf-expands ids g c o k u (nodes ns) f n = (expand_nodes g c o k u ns, refl, nodes-expand ids g c o k u ns f n)
  leaf-expands ids g c o k u (scope (scope_of kd id label ds)) f n =
      let h : Naming = inside g o in
      let ys : List Entry = expand_defs (inside g o) (scope_of kd id label ds) 0 ds in
      let zs : List Entry = expand_exports (inside g o) 0 ds in
      let d : Scope = scope_of kd id label ds in
      let a : ExpandsDefs (self_named h d) d 0 ds ys = defs-expand (self_named h d) h d 0 ds (self-gives h d) n.0 in
      let b : ExpandsExports (self_named h d) 0 ds zs = exports-expand (self_named h d) h d ds (self-gives h d).0 0 ds (λ i. ap (def_at ds) (omega arith)) n.0 in
      let w : GivesIds (marked_id (ys ++ zs)) h d = list-gives h kd id label ds n.0 (self_named h d) a b in
      (ys, zs, given_to_scope h, n.2, refl, defs-expand (marked_id (ys ++ zs)) h d 0 ds w n.0, exports-expand (marked_id (ys ++ zs)) h d ds w.0 0 ds (λ i. ap (def_at ds) (omega arith)) n.0, n.1)
  leaf-expands ids g c o k u l f n = refl

  nodes-expand : (ids : Origin → Option Id) (g : Naming) (c : Scope) (o : Origin) (k u : ℕ) (ns : Nodes) → GivesIds ids g c → NodesNamed g c o k u ns → ExpandsNodes ids c k u ns (expand_nodes g c o k u ns)
  nodes-expand ids g c o k u no_node f n = refl
  nodes-expand ids g c o k u (one_node (row t ls) ns) f n = (expand_leaves g c o k u ls, expand_nodes g c o k (u + references ls) ns, refl, leaves-expand ids g c o k u ls f n.0, nodes-expand ids g c o k (u + references ls) ns f n.1)

  pub defs-expand : (ids : Origin → Option Id) (g : Naming) (c : Scope) (k : ℕ) (ds : Defs) → GivesIds ids g c → DefsNamed g c k ds → ExpandsDefs ids c k ds (expand_defs g c k ds)
  defs-expand ids g c k no_def f n = refl
  defs-expand ids g c k (one_def (define ns (row t ls)) ds) f n =
      (given g (written k), expand_leaves g c (written k) k 0 ls, expand_defs g c (k + 1) ds, n.0, n.1, refl, leaves-expand ids g c (written k) k 0 ls f n.2, defs-expand ids g c (k + 1) ds f n.3)

pub expand-expands : (g : Naming) (s : Scope) → Named g s → Expands s (expand g s) (expand_marks g s)
expand-expands g (scope_of kd id label ds) n =
    let ys : List Entry = expand_defs g (scope_of kd id label ds) 0 ds in
    let zs : List Entry = expand_exports g 0 ds in
    let c : Scope = scope_of kd id label ds in
    let a : ExpandsDefs (self_named g c) c 0 ds ys = defs-expand (self_named g c) g c 0 ds (self-gives g c) n.0 in
    let b : ExpandsExports (self_named g c) 0 ds zs = exports-expand (self_named g c) g c ds (self-gives g c).0 0 ds (λ i. ap (def_at ds) (omega arith)) n.0 in
    let w : GivesIds (marked_id (ys ++ zs)) g c = list-gives g kd id label ds n.0 (self_named g c) a b in
    (ys ++ zs, given_to_scope g, n.2, refl, refl, (ys, zs, refl, defs-expand (marked_id (ys ++ zs)) g c 0 ds w n.0, exports-expand (marked_id (ys ++ zs)) g c ds w.0 0 ds (λ i. ap (def_at ds) (omega arith)) n.0, n.1))
