-- An expansion is what the scope becomes under the ids that stand in it.
use Rattle.std.proofs.Common.{◌≡◌, ℕ, zero, suc, ◌+◌, Bool, true, false, ◌&&◌, ◌||◌, cond, List, [], ◌∷◌, ◌++◌, slice_get, Option, Some, None, IsSome, IsFalse, refl, sym, ◌∙◌, ap, subst, arith}
use Rattle.comp_model.specs.declared.Space.{Space}
use Rattle.comp_model.specs.declared.row.Row.{Row}
use Rattle.comp_model.specs.Core.{Text, Id, is_of_text}
use Rattle.comp_model.specs.Model.{Leaf, text, number, kind, core_value, ref, place, absent, present, node, nodes, case_id, result_ids, result_count, core_source, module_bytes, scope, index, numeral, name, path, inline, bundle, Leaves, no_leaf, ◌▸◌, row, Nodes, no_node, one_node, Names, Def, define, Defs, no_def, one_def, Scope, scope_of, id_of, defs_of}
use Rattle.comp_model.specs.declared.row.ScopeKind.{ScopeKind}
use Rattle.comp_model.specs.Spaces.{declares_row}
use Rattle.comp_model.specs.Origins.{Origin, written, inline_type, bundle_of, inline_export, export_step, outer_alias_of, name_section, same_origin}
use Rattle.comp_expanded.specs.ListMarks.{ListMarks, Inside, nothing_inside, inside_are, inside_first}
use Rattle.comp_scopes.specs.Names.{first_of_two}
use Rattle.comp_scopes.specs.References.{references, references_leaf}
use Rattle.comp_scopes.specs.Reused.{reused}
use Rattle.comp_model.specs.ItemNames.{first_or_none}
use Rattle.comp_scopes.specs.Rowed.{holds_scope, leaf_holds_scope, nodes_hold_scope, LeavesRowed, LeafRowed, NodesRowed, DefsRowed, Rowed}
use Rattle.comp_expanded.specs.Expansion.{Naming, given_to_scope, inside, given, the_id, generated_reach, id_of_mark, first_id, ids_at, with_given, given_names, generated_names, Entry, entry_defs, entry_marks, Expanded, unchanged, expanded_as, entry, expand_one, expand_inline, expand_inner, expand_exports_of, expand_exports, expand_leaves, expand_leaf, expand_nodes, expand_defs, expand_list, expand, expand_marks}
use Rattle.comp_expanded.specs.TextNumbers.{entries, scope_in, scope_in_leaf, scope_in_nodes, list_inside}
use Rattle.comp_expanded.specs.OfText.{TextIds, LeavesOfText, LeafOfText, NodesOfText, DefsOfText, OfText}
use Rattle.comp_expanded.specs.Named.{IsGenerated, MayBeGiven, ExportsNamed, InlineNamed, GeneratedOnce, entry_ids, LeavesNamed, LeafNamed, NodesNamed, DefsNamed, Named}
use Rattle.comp_expanded.specs.Expands.{find_mark, id_in, marked_id, ExportId, ExpandsInline, ExpandsLeaves, ExpandsLeaf, ExpandsNodes, ExpandsDefs, ExpandsExports, Expands}
use Rattle.comp_scopes.proofs.Lookup.{some-same}
use Rattle.comp_expanded.proofs.Ids.{EachListed, each-left, each-right}
use Rattle.comp_expanded.proofs.Ready.{In, in-self}
use Rattle.comp_expanded.proofs.ScopeOf.{def_at, ids-of}
use Rattle.comp_expanded.proofs.NamingExpands.{first-given}
use Rattle.comp_expanded.proofs.Listed.{reused-written}
use Rattle.comp_expanded.proofs.Once.{list-once, once-found}

-- ---- the ids that stand in a list

abbrev generated_only : Option Id → Option Id
generated_only None = None
generated_only (Some x) = cond (is_of_text x) None (Some x)

-- a written definition may have an id of the text
abbrev read_kind : Origin → Option Id → Option Id
read_kind (written k) y = generated_only y
read_kind o y = y

abbrev inside_of : Option Entry → List Entry
inside_of None = []
inside_of (Some x) = list_inside (scope_in x.leaves) x.held

-- the id of the scope inside a definition
abbrev self_of : Option Scope → Option Id
self_of None = None
self_of (Some c) = generated_only (id_of c)

abbrev self_inside : Option Entry → Option Id
self_inside None = None
self_inside (Some x) = self_of (scope_in x.leaves)

-- of a list whose scope is given `y`
read_off : Option Id → List Entry → List Origin → Option Id
read_off y xs [] = None
read_off y xs (o ∷ []) = cond (same_origin o name_section) y (read_kind o (id_in (find_mark xs o)))
read_off y xs (o ∷ q ∷ p) = read_off (self_inside (find_mark xs o)) (inside_of (find_mark xs o)) (q ∷ p)

-- a naming that gives these ids
abbrev Reads : Naming → Option Id → List Entry → Type 0
Reads g y xs = (q : Origin) (p : List Origin) → g (q ∷ p) ≡ read_off y xs (q ∷ p)

-- inside the definition of a mark it gives those of the list inside
reads-inside : (g : Naming) (z : Option Id) (xs : List Entry) (o : Origin) (x : Entry) (y : Option Id) (I : List Entry) → Reads g z xs → find_mark xs o ≡ Some x → self_of (scope_in x.leaves) ≡ y → list_inside (scope_in x.leaves) x.held ≡ I → Reads (inside g o) y I
unfolding read_off
reads-inside g z xs o x y I r f d e q p = r o (q ∷ p) ∙ ap (λ v. read_off (self_inside v) (inside_of v) (q ∷ p)) f ∙ ap (λ v. read_off v (list_inside (scope_in x.leaves) x.held) (q ∷ p)) d ∙ ap (λ v. read_off y v (q ∷ p)) e

-- the scope itself is given its id
reads-self : (g : Naming) (y : Option Id) (xs : List Entry) → Reads g y xs → given_to_scope g ≡ y
unfolding read_off
reads-self g y xs r = r name_section []

-- ---- what holds no scope holds no marks

abbrev Scopeless : Inside → Option Scope → Type 0
Scopeless h d = (h ≡ nothing_inside) × (d ≡ None)

or-both : (a b : Bool) → (a || b) ≡ false → (a ≡ false) × (b ≡ false)
or-both true b h = absurd (cc)
or-both false b h = (refl, h)

scopeless-both : (h k : Inside) (d c : Option Scope) → Scopeless h d → Scopeless k c → Scopeless (inside_first h k) (first_of_two d c)
scopeless-both h k d c x y = (rw (x.0, y.0) refl, rw (x.1, y.1) refl)

scopeless-inline : (ids : Origin → Option Id) (c : Scope) (k u : ℕ) (s : Space) (t : Row) (r : Option Origin) (E : Expanded Leaves → Type 0) (a : Expanded Leaf) → ExpandsInline ids c k u s t r E a → Scopeless a.held (scope_in_leaf a.here)
scopeless-inline ids c k u s t (Some j) E a h = rw h.2 (refl, refl)
scopeless-inline ids c k u s t None E a h = rw h.3 (refl, refl)

mutual
  scopeless-leaves : (ids : Origin → Option Id) (c : Scope) (k u : ℕ) (ls : Leaves) (a : Expanded Leaves) → ExpandsLeaves ids c k u ls a → holds_scope ls ≡ false → Scopeless a.held (scope_in a.here)
  scopeless-leaves ids c k u no_leaf a h n = rw h (refl, refl)
  scopeless-leaves ids c k u (l ▸ ls) a h n =
      let b : (leaf_holds_scope l ≡ false) × (holds_scope ls ≡ false) = or-both (leaf_holds_scope l) (holds_scope ls) n in
      rw h.2 (scopeless-both h.0.held h.1.held (scope_in_leaf h.0.here) (scope_in h.1.here) (scopeless-leaf ids c k u l h.0 h.3 b.0) (scopeless-leaves ids c k (u + references_leaf l) ls h.1 h.4 b.1))

  scopeless-leaf : (ids : Origin → Option Id) (c : Scope) (k u : ℕ) (l : Leaf) (a : Expanded Leaf) → ExpandsLeaf ids c k u l a → leaf_holds_scope l ≡ false → Scopeless a.held (scope_in_leaf a.here)
  scopeless-leaf ids c k u (ref s (inline (row t ls))) a h n = scopeless-inline ids c k u s t (reused (c ∷ []) k u t ls) (ExpandsLeaves ids c k (u + 1) ls) a h
  scopeless-leaf ids c k u (ref s (bundle (row t ls))) a h n = rw h.3 (refl, refl)
  scopeless-leaf ids c k u (present l) a h n = rw h.1 (scopeless-leaf ids c k u l h.0 h.2 n)
  scopeless-leaf ids c k u (node (row t ls)) a h n = rw h.1 (scopeless-leaves ids c k u ls h.0 h.2 n)
  scopeless-leaf ids c k u (nodes ns) a h n = rw h.1 (scopeless-nodes ids c k u ns h.0 h.2 n)
  scopeless-leaf ids c k u (scope (scope_of kd id label ds)) a h n = absurd (cc)
  scopeless-leaf ids c k u l a h n = rw h (refl, refl)

  scopeless-nodes : (ids : Origin → Option Id) (c : Scope) (k u : ℕ) (ns : Nodes) (a : Expanded Nodes) → ExpandsNodes ids c k u ns a → nodes_hold_scope ns ≡ false → Scopeless a.held (scope_in_nodes a.here)
  scopeless-nodes ids c k u no_node a h n = rw h (refl, refl)
  scopeless-nodes ids c k u (one_node (row t ls) ns) a h n =
      let b : (holds_scope ls ≡ false) × (nodes_hold_scope ns ≡ false) = or-both (holds_scope ls) (nodes_hold_scope ns) n in
      rw h.2 (scopeless-both h.0.held h.1.held (scope_in h.0.here) (scope_in_nodes h.1.here) (scopeless-leaves ids c k u ls h.0 h.3 b.0) (scopeless-nodes ids c k (u + references ls) ns h.1 h.4 b.1))

-- ---- ids of written definitions

given-same : (ids : List (Option Id)) (y : Option Id) → TextIds ids → MayBeGiven y → with_given ids (generated_only (first_or_none (with_given ids y))) ≡ with_given ids y
given-same [] None t m = refl
given-same [] (Some y) t m = rw m refl
given-same (None ∷ ids) None t m = refl
given-same (None ∷ ids) (Some y) t m = rw m refl
given-same (Some x ∷ ids) None t m = rw t.0 refl
given-same (Some x ∷ ids) (Some y) t m = rw t.0 refl

first-same : (ids : List (Option Id)) (y : Option Id) → TextIds ids → MayBeGiven y → first_id ids (generated_only (first_or_none (with_given ids y))) ≡ first_or_none (with_given ids y)
first-same [] None t m = refl
first-same [] (Some y) t m = rw m refl
first-same (None ∷ ids) None t m = refl
first-same (None ∷ ids) (Some y) t m = rw m refl
first-same (Some x ∷ ids) None t m = refl
first-same (Some x ∷ ids) (Some y) t m = refl

given-may : (y : Option Id) → MayBeGiven (generated_only y)
given-may None = tt
given-may (Some x) = go (is_of_text x) refl
  where
    go : (b : Bool) → is_of_text x ≡ b → MayBeGiven (cond b None (Some x))
    go true e = tt
    go false e = e

given-scope : (id y : Option Id) → MayBeGiven y → first_of_two id (generated_only (first_of_two id y)) ≡ first_of_two id y
given-scope (Some x) y m = refl
given-scope None None m = refl
given-scope None (Some y) m = rw m refl

-- ---- a scope, what stands in its expansion, and a naming that gives those ids

record Reading : Type 0 where
  pub by : Naming
  pub kd : ScopeKind
  pub id : Option Id
  pub label : Option Text
  pub ds : Defs
  pub own : Option Id
  pub xs : List Entry
  pub reads : Reads by own xs
  pub found : (p : ℕ) (x : Entry) → slice_get xs p ≡ Some x → find_mark xs x.origin ≡ Some x
  pub ids : (i : ℕ) (d : Def) → def_at ds i ≡ Some d → first_id (ids_at ds i) (given by (written i)) ≡ marked_id xs (written i)

abbrev scope_read : Reading → Scope
scope_read r = scope_of r.kd r.id r.label r.ds

-- the naming gives its id to what is generated
read-given : (r : Reading) (o : Origin) (x : Id) (v : Entry) → same_origin o name_section ≡ false → ((y : Option Id) → read_kind o y ≡ y) → In r.xs v → v.origin ≡ o → v.names ≡ generated_names (Some x) → is_of_text x ≡ false → given r.by o ≡ Some x
unfolding read_off
read-given r o x v m f i e n t =
    r.reads o [] ∙ ap (λ b. cond b r.own (read_kind o (id_in (find_mark r.xs o)))) m ∙ f (id_in (find_mark r.xs o)) ∙ ap id_in (subst (λ q. find_mark r.xs q ≡ Some v) e (r.found i.0 v i.1)) ∙ ap (λ (w : Names). first_or_none w.ids) n

written-given : (r : Reading) (k : ℕ) (v : Entry) → In r.xs v → v.origin ≡ written k → (ns : Names) (y : Option Id) → v.names ≡ given_names ns y → given r.by (written k) ≡ generated_only (first_or_none (with_given ns.ids y))
unfolding read_off
written-given r k v i e ns y n =
    r.reads (written k) [] ∙ ap (λ w. generated_only (id_in w)) (subst (λ q. find_mark r.xs q ≡ Some v) e (r.found i.0 v i.1)) ∙ ap (λ (w : Names). generated_only (first_or_none w.ids)) n

entries-same : (xs : List Entry) → entries (entry_defs xs) (entry_marks xs) ≡ xs
entries-same [] = refl
entries-same (x ∷ xs) = ap (λ ys. x ∷ ys) (entries-same xs)

-- what is inside a definition of the list
abbrev Inner : Reading → Origin → Inside → Option Scope → Type 0
Inner r o h d = (c : Scope) (I : List Entry) → h ≡ inside_are (entry_marks I) → d ≡ Some c → defs_of c ≡ entry_defs I → Reads (inside r.by o) (generated_only (id_of c)) I

inner-own : (r : Reading) (o : Origin) (ns : Names) (t : Row) (d : Expanded Leaves) → In r.xs (entry o ns t d) → Inner r o d.held (scope_in d.here)
inner-own r o ns t d i c I h e f = reads-inside r.by r.own r.xs o (entry o ns t d) (generated_only (id_of c)) I r.reads (r.found i.0 (entry o ns t d) i.1) (rw e refl) (rw (h, e, f) (entries-same I))

inner-first : (r : Reading) (o : Origin) (h k : Inside) (d c : Option Scope) → Inner r o (inside_first h k) (first_of_two d c) → Inner r o h d
inner-first r o h k d c f m I a b = f m I (rw a refl) (rw b refl)

inner-second : (r : Reading) (o : Origin) (h k : Inside) (d c : Option Scope) → Scopeless h d → Inner r o (inside_first h k) (first_of_two d c) → Inner r o k c
inner-second r o h k d c s f m I a b = f m I (rw (s.0, a) refl) (rw (s.1, b) refl)

-- where no scope can stand, nothing is inside
no-inner : (r : Reading) (o : Origin) (h : Inside) (d : Option Scope) → Scopeless h d → Inner r o h d
no-inner r o h d s c I a b = let q : None ≡ Some c = sym s.1 ∙ b in absurd (cc)

-- the id of each written definition is that by which it is named
ids-fact : (g : Naming) (c : Scope) (self : Option Id) (xs : List Entry) → Reads g self xs → ((p : ℕ) (x : Entry) → slice_get xs p ≡ Some x → find_mark xs x.origin ≡ Some x) → (ids : Origin → Option Id) (k : ℕ) (ds : Defs) (ys : List Entry) → DefsOfText ds → ExpandsDefs ids c k ds ys
    → EachListed (In xs) ys → (i : ℕ) (d : Def) → def_at ds i ≡ Some d → first_id (ids_at ds i) (given g (written (k + i))) ≡ marked_id xs (written (k + i))
unfolding read_off
ids-fact g c self xs r f ids k no_def ys t h e i d q = absurd (cc)
ids-fact g c self xs r f ids k (one_def (define ns (row v ls)) ds) ys t h e zero d q =
    let z : k + zero ≡ k = omega arith in
    let own : Entry = entry (written k) (given_names ns h.0) v h.1 in
    let e' : EachListed (In xs) (expand_one (written k) (given_names ns h.0) v h.1 ++ h.2) = subst (EachListed (In xs)) h.5 e in
    let m : In xs own = (each-right (In xs) h.1.bundles (own ∷ []) (each-right (In xs) h.1.inlined (h.1.bundles ++ own ∷ []) (each-left (In xs) (h.1.inlined ++ (h.1.bundles ++ own ∷ [])) h.2 e'))).0 in
    let a : find_mark xs (written k) ≡ Some own = f m.0 own m.1 in
    let b : given g (written k) ≡ generated_only (first_or_none (with_given ns.ids h.0)) = r (written k) [] ∙ ap (λ w. generated_only (id_in w)) a in
    let w : marked_id xs (written k) ≡ first_or_none (with_given ns.ids h.0) = ap id_in a in
    rw z (ap (first_id ns.ids) b ∙ first-same ns.ids h.0 t.0 h.3 ∙ sym w)
ids-fact g c self xs r f ids k (one_def (define ns (row v ls)) ds) ys t h e (suc i) d q =
    let z : k + suc i ≡ k + 1 + i = omega arith in
    let e' : EachListed (In xs) (expand_one (written k) (given_names ns h.0) v h.1 ++ h.2) = subst (EachListed (In xs)) h.5 e in
    rw z (ids-fact g c self xs r f ids (k + 1) ds h.2 t.2 h.7 (each-right (In xs) (expand_one (written k) (given_names ns h.0) v h.1) h.2 e') i d q)

-- ---- the walk

the-same : (y : Option Id) (x : Id) → y ≡ Some x → the_id y ≡ x
the-same None x h = absurd (cc)
the-same (Some z) x h = some-same z x h

is-some : (y : Option Id) (x : Id) → y ≡ Some x → IsSome y
is-some None x h = absurd (cc)
is-some (Some z) x h = refl

some-generated : (y : Option Id) (x : Id) → y ≡ Some x → is_of_text x ≡ false → IsGenerated y
some-generated None x h t = absurd (cc)
some-generated (Some z) x h t = let e : z ≡ x = some-same z x h in subst (λ v. is_of_text v ≡ false) (sym e) t

-- what is reused is named by its id in the list
mark-read : (r : Reading) (k u : ℕ) (t : Row) (ls : Leaves) (o : Origin) (x : Id) (P : Type 0) → reused (scope_read r ∷ []) k u t ls ≡ Some o → marked_id r.xs o ≡ Some x → (id_of_mark r.by (scope_read r) o ≡ x) × InlineNamed r.by (scope_read r) k u (Some o) P
unfolding read_off
mark-read r k u t ls (written j) x P e h =
    let q : (d : Def) × (def_at r.ds j ≡ Some d) = reused-written (scope_read r) k u t ls (written j) e in
    let w : first_id (ids_at r.ds j) (given r.by (written j)) ≡ Some x = r.ids j q.0 q.1 ∙ h in
    (the-same (first_id (ids_at r.ds j) (given r.by (written j))) x w, is-some (first_id (ids_at r.ds j) (given r.by (written j))) x w)
mark-read r k u t ls (inline_type j v) x P e h = (the-same (given r.by (inline_type j v)) x (r.reads (inline_type j v) [] ∙ h), tt)
mark-read r k u t ls (bundle_of j v) x P e h = absurd (reused-written (scope_read r) k u t ls (bundle_of j v) e)
mark-read r k u t ls (inline_export j v) x P e h = absurd (reused-written (scope_read r) k u t ls (inline_export j v) e)
mark-read r k u t ls (export_step j v i) x P e h = absurd (reused-written (scope_read r) k u t ls (export_step j v i) e)
mark-read r k u t ls (outer_alias_of j v) x P e h = absurd (reused-written (scope_read r) k u t ls (outer_alias_of j v) e)
mark-read r k u t ls name_section x P e h = absurd (reused-written (scope_read r) k u t ls name_section e)

inline-same : (r : Reading) (k u : ℕ) (s : Space) (t : Row) (ls : Leaves) (j : Option Origin) (E : Expanded Leaves → Type 0) (P : Type 0) (f : Expanded Leaves) (a : Expanded Leaf) → reused (scope_read r ∷ []) k u t ls ≡ j → EachListed (In r.xs) a.inlined
    → ((d : Expanded Leaves) → Inner r (inline_type k u) d.held (scope_in d.here) → EachListed (In r.xs) d.inlined → EachListed (In r.xs) d.bundles → E d → (d ≡ f) × P)
    → ExpandsInline (marked_id r.xs) (scope_read r) k u s t j E a → (a ≡ expand_inline r.by (scope_read r) k u s t j f) × InlineNamed r.by (scope_read r) k u j P
inline-same r k u s t ls (Some o) E P f a e i g h = let w : (id_of_mark r.by (scope_read r) o ≡ h.0) × InlineNamed r.by (scope_read r) k u (Some o) P = mark-read r k u t ls o h.0 P e h.1 in (h.2 ∙ ap (λ x. unchanged (u ∷ []) (ref s (name (generated_reach (scope_read r)) x))) (sym w.0), w.1)
inline-same r k u s t ls None E P f a e i g h =
    let d : Expanded Leaves = h.1 in
    let own : Entry = entry (inline_type k u) (generated_names (Some h.0)) t d in
    let i' : EachListed (In r.xs) (d.inlined ++ (d.bundles ++ own ∷ [])) = subst (λ (v : Expanded Leaf). EachListed (In r.xs) v.inlined) h.3 i in
    let j : EachListed (In r.xs) (d.bundles ++ own ∷ []) = each-right (In r.xs) d.inlined (d.bundles ++ own ∷ []) i' in
    let m : In r.xs own = (each-right (In r.xs) d.bundles (own ∷ []) j).0 in
    let y : given r.by (inline_type k u) ≡ Some h.0 = read-given r (inline_type k u) h.0 own refl (λ y. refl) m refl refl h.2 in
    let w : (d ≡ f) × P = g d (inner-own r (inline_type k u) (generated_names (Some h.0)) t d m) (each-left (In r.xs) d.inlined (d.bundles ++ own ∷ []) i') (each-left (In r.xs) d.bundles (own ∷ []) j) h.4 in
    (h.3 ∙ rw (y, w.0) refl, (some-generated (given r.by (inline_type k u)) h.0 y h.2, w.1))

abbrev reading : (g : Naming) (kd : ScopeKind) (id : Option Id) (label : Option Text) (ds : Defs) (self : Option Id) (ys zs : List Entry) → Reads g self (ys ++ zs) → DefsOfText ds → ExpandsDefs (marked_id (ys ++ zs)) (scope_of kd id label ds) 0 ds ys
    → ExpandsExports (marked_id (ys ++ zs)) 0 ds zs → Reading
reading g kd id label ds self ys zs r t h e =
    let f : (p : ℕ) (x : Entry) → slice_get (ys ++ zs) p ≡ Some x → find_mark (ys ++ zs) x.origin ≡ Some x = once-found (ys ++ zs) (list-once (scope_of kd id label ds) (marked_id (ys ++ zs)) ys zs h e) in
    record {
      by = g;
      kd = kd;
      id = id;
      label = label;
      ds = ds;
      own = self;
      xs = ys ++ zs;
      reads = r;
      found = f;
      ids = λ i d q. let z : 0 + i ≡ i = omega arith in subst (λ n. first_id (ids_at ds i) (given g (written n)) ≡ marked_id (ys ++ zs) (written n)) z
          (ids-fact g (scope_of kd id label ds) self (ys ++ zs) r f (marked_id (ys ++ zs)) 0 ds ys t h (each-left (In (ys ++ zs)) ys zs (in-self (ys ++ zs))) i d q);
    }

exports-same : (r : Reading) (k : ℕ) (ds : Defs) (zs : List Entry) → ((i : ℕ) → def_at r.ds (k + i) ≡ def_at ds i) → ExpandsExports (marked_id r.xs) k ds zs → zs ≡ expand_exports r.by k ds
exports-same r k no_def zs w h = h
exports-same r k (one_def (define ns (row t ls)) ds) zs w h =
    let z : k + 0 ≡ k = omega arith in
    let d : def_at r.ds k ≡ Some (define ns (row t ls)) = subst (λ n. def_at r.ds n ≡ Some (define ns (row t ls))) z (w 0) in
    let i : ids_at r.ds k ≡ ns.ids = ids-of r.ds k ns t ls d in
    let j : first_id ns.ids (given r.by (written k)) ≡ marked_id r.xs (written k) = subst (λ v. first_id v (given r.by (written k)) ≡ marked_id r.xs (written k)) i (r.ids k (define ns (row t ls)) d) in
    let m : h.1 ≡ expand_exports r.by (k + 1) ds = exports-same r (k + 1) ds h.1 (λ n. ap (def_at r.ds) (omega arith) ∙ w (suc n)) h.4 in
    h.3 ∙ rw m (ap (λ v. v ++ expand_exports r.by (k + 1) ds) (go ns.exports h.2 j))
  where
    go : (xs : List Text) → ExportId xs (marked_id r.xs (written k)) h.0 → first_id ns.ids (given r.by (written k)) ≡ marked_id r.xs (written k) → expand_exports_of h.0 k 0 xs (declares_row t ls) ≡ expand_exports_of (the_id (first_id ns.ids (given r.by (written k)))) k 0 xs (declares_row t ls)
    go [] q j = refl
    go (x ∷ xs) q j = ap (λ v. expand_exports_of v k 0 (x ∷ xs) (declares_row t ls)) (sym (the-same (first_id ns.ids (given r.by (written k))) h.0 (j ∙ q)))

mutual
  same-leaves : (r : Reading) (o : Origin) (k u : ℕ) (ls : Leaves) (a : Expanded Leaves) → LeavesRowed ls → LeavesOfText ls → Inner r o a.held (scope_in a.here) → EachListed (In r.xs) a.inlined → EachListed (In r.xs) a.bundles
      → ExpandsLeaves (marked_id r.xs) (scope_read r) k u ls a → (a ≡ expand_leaves r.by (scope_read r) o k u ls) × LeavesNamed r.by (scope_read r) o k u ls
  same-leaves r o k u no_leaf a w t n i j h = (h, tt)
  same-leaves r o k u (l ▸ ls) a w t n i j h =
      let b : Expanded Leaf = h.0 in
      let d : Expanded Leaves = h.1 in
      let i' : EachListed (In r.xs) (b.inlined ++ d.inlined) = subst (λ (v : Expanded Leaves). EachListed (In r.xs) v.inlined) h.2 i in
      let j' : EachListed (In r.xs) (b.bundles ++ d.bundles) = subst (λ (v : Expanded Leaves). EachListed (In r.xs) v.bundles) h.2 j in
      let n' : Inner r o (inside_first b.held d.held) (first_of_two (scope_in_leaf b.here) (scope_in d.here)) = subst (λ (v : Expanded Leaves). Inner r o v.held (scope_in v.here)) h.2 n in
      let p : (b ≡ expand_leaf r.by (scope_read r) o k u l) × LeafNamed r.by (scope_read r) o k u l =
      same-leaf r o k u l b w.1 t.0 (inner-first r o b.held d.held (scope_in_leaf b.here) (scope_in d.here) n') (each-left (In r.xs) b.inlined d.inlined i') (each-left (In r.xs) b.bundles d.bundles j') h.3 in
      let q : (d ≡ expand_leaves r.by (scope_read r) o k (u + references_leaf l) ls) × LeavesNamed r.by (scope_read r) o k (u + references_leaf l) ls =
      same-leaves r o k (u + references_leaf l) ls d w.2 t.1 (go (leaf_holds_scope l) refl w.0 b d n' h.3 h.4) (each-right (In r.xs) b.inlined d.inlined i') (each-right (In r.xs) b.bundles d.bundles j') h.4 in
      (h.2 ∙ rw (p.0, q.0) refl, (p.1, q.1))
    where
      go : (v : Bool) → leaf_holds_scope l ≡ v → IsFalse (leaf_holds_scope l && holds_scope ls) → (b : Expanded Leaf) (d : Expanded Leaves) → Inner r o (inside_first b.held d.held) (first_of_two (scope_in_leaf b.here) (scope_in d.here))
          → ExpandsLeaf (marked_id r.xs) (scope_read r) k u l b → ExpandsLeaves (marked_id r.xs) (scope_read r) k (u + references_leaf l) ls d → Inner r o d.held (scope_in d.here)
      go false e x b d y f g = inner-second r o b.held d.held (scope_in_leaf b.here) (scope_in d.here) (scopeless-leaf (marked_id r.xs) (scope_read r) k u l b f e) y
      go true e x b d y f g = no-inner r o d.held (scope_in d.here) (scopeless-leaves (marked_id r.xs) (scope_read r) k (u + references_leaf l) ls d g (subst (λ m. (m && holds_scope ls) ≡ false) e x))

  same-leaf : (r : Reading) (o : Origin) (k u : ℕ) (l : Leaf) (a : Expanded Leaf) → LeafRowed l → LeafOfText l → Inner r o a.held (scope_in_leaf a.here) → EachListed (In r.xs) a.inlined → EachListed (In r.xs) a.bundles
      → ExpandsLeaf (marked_id r.xs) (scope_read r) k u l a → (a ≡ expand_leaf r.by (scope_read r) o k u l) × LeafNamed r.by (scope_read r) o k u l
  same-leaf r o k u (ref s (inline (row y ls))) a w t n i j h =
      inline-same r k u s y ls (reused (scope_read r ∷ []) k u y ls) (ExpandsLeaves (marked_id r.xs) (scope_read r) k (u + 1) ls) (LeavesNamed r.by (scope_read r) (inline_type k u) k (u + 1) ls) (expand_leaves r.by (scope_read r) (inline_type k u) k (u + 1) ls) a refl i
      (λ d m p q f. same-leaves r (inline_type k u) k (u + 1) ls d w.1 t m p q f) h
  same-leaf r o k u (ref s (bundle (row y ls))) a w t n i j h =
      let d : Expanded Leaves = h.1 in
      let own : Entry = entry (bundle_of k u) (generated_names (Some h.0)) y d in
      let i' : EachListed (In r.xs) d.inlined = subst (λ (v : Expanded Leaf). EachListed (In r.xs) v.inlined) h.3 i in
      let j' : EachListed (In r.xs) (d.bundles ++ own ∷ []) = subst (λ (v : Expanded Leaf). EachListed (In r.xs) v.bundles) h.3 j in
      let m : In r.xs own = (each-right (In r.xs) d.bundles (own ∷ []) j').0 in
      let g : given r.by (bundle_of k u) ≡ Some h.0 = read-given r (bundle_of k u) h.0 own refl (λ y. refl) m refl refl h.2 in
      let q : (d ≡ expand_leaves r.by (scope_read r) (bundle_of k u) k (u + 1) ls) × LeavesNamed r.by (scope_read r) (bundle_of k u) k (u + 1) ls =
      same-leaves r (bundle_of k u) k (u + 1) ls d w.1 t (inner-own r (bundle_of k u) (generated_names (Some h.0)) y d m) i' (each-left (In r.xs) d.bundles (own ∷ []) j') h.4 in
      (h.3 ∙ rw (g, q.0) refl, (some-generated (given r.by (bundle_of k u)) h.0 g h.2, q.1))
  same-leaf r o k u (present l) a w t n i j h =
      let q : (h.0 ≡ expand_leaf r.by (scope_read r) o k u l) × LeafNamed r.by (scope_read r) o k u l =
      same-leaf r o k u l h.0 w t (subst (λ (v : Expanded Leaf). Inner r o v.held (scope_in_leaf v.here)) h.1 n) (subst (λ (v : Expanded Leaf). EachListed (In r.xs) v.inlined) h.1 i) (subst (λ (v : Expanded Leaf). EachListed (In r.xs) v.bundles) h.1 j) h.2 in
      (h.1 ∙ ap (expanded_as present) q.0, q.1)
  same-leaf r o k u (node (row y ls)) a w t n i j h =
      let q : (h.0 ≡ expand_leaves r.by (scope_read r) o k u ls) × LeavesNamed r.by (scope_read r) o k u ls =
      same-leaves r o k u ls h.0 w t (subst (λ (v : Expanded Leaf). Inner r o v.held (scope_in_leaf v.here)) h.1 n) (subst (λ (v : Expanded Leaf). EachListed (In r.xs) v.inlined) h.1 i) (subst (λ (v : Expanded Leaf). EachListed (In r.xs) v.bundles) h.1 j) h.2 in
      (h.1 ∙ ap (expanded_as (λ bs. node (row y bs))) q.0, q.1)
  same-leaf r o k u (nodes ns) a w t n i j h =
      let q : (h.0 ≡ expand_nodes r.by (scope_read r) o k u ns) × NodesNamed r.by (scope_read r) o k u ns =
      same-nodes r o k u ns h.0 w t (subst (λ (v : Expanded Leaf). Inner r o v.held (scope_in_leaf v.here)) h.1 n) (subst (λ (v : Expanded Leaf). EachListed (In r.xs) v.inlined) h.1 i) (subst (λ (v : Expanded Leaf). EachListed (In r.xs) v.bundles) h.1 j) h.2 in
      (h.1 ∙ ap (expanded_as nodes) q.0, q.1)
  same-leaf r o k u (scope (scope_of kd id label ds)) a w t n i j h =
      let ys : List Entry = h.0 in
      let zs : List Entry = h.1 in
      let self : Option Id = generated_only (first_of_two id h.2) in
      let m : Reads (inside r.by o) (generated_only (first_of_two id h.2)) (ys ++ zs) = n (scope_of kd (first_of_two id h.2) label (entry_defs (ys ++ zs))) (ys ++ zs) (ap (λ (v : Expanded Leaf). v.held) h.4) (ap (λ (v : Expanded Leaf). scope_in_leaf v.here) h.4) refl in
      let y : Reading = reading (inside r.by o) kd id label ds self ys zs m t.1 h.5 h.6 in
      let p : (ys ≡ expand_defs (inside r.by o) (scope_of kd id label ds) 0 ds) × DefsNamed (inside r.by o) (scope_of kd id label ds) 0 ds = same-defs y 0 ds ys w t.1 (each-left (In (ys ++ zs)) ys zs (in-self (ys ++ zs))) h.5 in
      let q : zs ≡ expand_exports (inside r.by o) 0 ds = exports-same y 0 ds zs (λ e. ap (def_at ds) (omega arith)) h.6 in
      let f : ys ++ zs ≡ expand_defs (inside r.by o) (scope_of kd id label ds) 0 ds ++ expand_exports (inside r.by o) 0 ds = rw (p.0, q) refl in
      let v : given_to_scope (inside r.by o) ≡ generated_only (first_of_two id h.2) = reads-self (inside r.by o) self (ys ++ zs) m in
      let z : first_of_two id (given_to_scope (inside r.by o)) ≡ first_of_two id h.2 = ap (first_of_two id) v ∙ given-scope id h.2 h.3 in (
        h.4 ∙ ap (λ i. expand_inner kd i label (ys ++ zs)) (sym z) ∙ ap (expand_inner kd (first_of_two id (given_to_scope (inside r.by o))) label) f,
        (p.1, subst (λ l. GeneratedOnce (entry_ids l)) f h.7, subst MayBeGiven (sym v) (given-may (first_of_two id h.2))),
      )
  same-leaf r o k u (core_value v) a w t n i j h = (h, tt)
  same-leaf r o k u (ref s (numeral b v)) a w t n i j h = (h, tt)
  same-leaf r o k u (ref s (name q y)) a w t n i j h = (h, tt)
  same-leaf r o k u (ref s (path p)) a w t n i j h = (h, tt)
  same-leaf r o k u (ref s (index v)) a w t n i j h = (h, tt)
  same-leaf r o k u (text v) a w t n i j h = (h, tt)
  same-leaf r o k u (number v) a w t n i j h = (h, tt)
  same-leaf r o k u (kind v) a w t n i j h = (h, tt)
  same-leaf r o k u (place v) a w t n i j h = (h, tt)
  same-leaf r o k u absent a w t n i j h = (h, tt)
  same-leaf r o k u (case_id v) a w t n i j h = (h, tt)
  same-leaf r o k u (result_ids v) a w t n i j h = (h, tt)
  same-leaf r o k u (result_count v) a w t n i j h = (h, tt)
  same-leaf r o k u (core_source v) a w t n i j h = (h, tt)
  same-leaf r o k u (module_bytes v) a w t n i j h = (h, tt)

  same-nodes : (r : Reading) (o : Origin) (k u : ℕ) (ns : Nodes) (a : Expanded Nodes) → NodesRowed ns → NodesOfText ns → Inner r o a.held (scope_in_nodes a.here) → EachListed (In r.xs) a.inlined → EachListed (In r.xs) a.bundles
      → ExpandsNodes (marked_id r.xs) (scope_read r) k u ns a → (a ≡ expand_nodes r.by (scope_read r) o k u ns) × NodesNamed r.by (scope_read r) o k u ns
  same-nodes r o k u no_node a w t n i j h = (h, tt)
  same-nodes r o k u (one_node (row y ls) ns) a w t n i j h =
      let b : Expanded Leaves = h.0 in
      let d : Expanded Nodes = h.1 in
      let i' : EachListed (In r.xs) (b.inlined ++ d.inlined) = subst (λ (v : Expanded Nodes). EachListed (In r.xs) v.inlined) h.2 i in
      let j' : EachListed (In r.xs) (b.bundles ++ d.bundles) = subst (λ (v : Expanded Nodes). EachListed (In r.xs) v.bundles) h.2 j in
      let n' : Inner r o (inside_first b.held d.held) (first_of_two (scope_in b.here) (scope_in_nodes d.here)) = subst (λ (v : Expanded Nodes). Inner r o v.held (scope_in_nodes v.here)) h.2 n in
      let p : (b ≡ expand_leaves r.by (scope_read r) o k u ls) × LeavesNamed r.by (scope_read r) o k u ls =
      same-leaves r o k u ls b w.1 t.0 (inner-first r o b.held d.held (scope_in b.here) (scope_in_nodes d.here) n') (each-left (In r.xs) b.inlined d.inlined i') (each-left (In r.xs) b.bundles d.bundles j') h.3 in
      let q : (d ≡ expand_nodes r.by (scope_read r) o k (u + references ls) ns) × NodesNamed r.by (scope_read r) o k (u + references ls) ns =
      same-nodes r o k (u + references ls) ns d w.2 t.1 (go (holds_scope ls) refl w.0 b d n' h.3 h.4) (each-right (In r.xs) b.inlined d.inlined i') (each-right (In r.xs) b.bundles d.bundles j') h.4 in
      (h.2 ∙ rw (p.0, q.0) refl, (p.1, q.1))
    where
      go : (v : Bool) → holds_scope ls ≡ v → IsFalse (holds_scope ls && nodes_hold_scope ns) → (b : Expanded Leaves) (d : Expanded Nodes) → Inner r o (inside_first b.held d.held) (first_of_two (scope_in b.here) (scope_in_nodes d.here))
          → ExpandsLeaves (marked_id r.xs) (scope_read r) k u ls b → ExpandsNodes (marked_id r.xs) (scope_read r) k (u + references ls) ns d → Inner r o d.held (scope_in_nodes d.here)
      go false e x b d y f g = inner-second r o b.held d.held (scope_in b.here) (scope_in_nodes d.here) (scopeless-leaves (marked_id r.xs) (scope_read r) k u ls b f e) y
      go true e x b d y f g = no-inner r o d.held (scope_in_nodes d.here) (scopeless-nodes (marked_id r.xs) (scope_read r) k (u + references ls) ns d g (subst (λ m. (m && nodes_hold_scope ns) ≡ false) e x))

  same-defs : (r : Reading) (k : ℕ) (ds : Defs) (ys : List Entry) → DefsRowed ds → DefsOfText ds → EachListed (In r.xs) ys → ExpandsDefs (marked_id r.xs) (scope_read r) k ds ys
      → (ys ≡ expand_defs r.by (scope_read r) k ds) × DefsNamed r.by (scope_read r) k ds
  same-defs r k no_def ys w t e h = (h, tt)
  same-defs r k (one_def (define ns (row v ls)) ds) ys w t e h =
      let d : Expanded Leaves = h.1 in
      let own : Entry = entry (written k) (given_names ns h.0) v d in
      let one : List Entry = d.inlined ++ (d.bundles ++ own ∷ []) in
      let e' : EachListed (In r.xs) (one ++ h.2) = subst (EachListed (In r.xs)) h.5 e in
      let i : EachListed (In r.xs) one = each-left (In r.xs) one h.2 e' in
      let j : EachListed (In r.xs) (d.bundles ++ own ∷ []) = each-right (In r.xs) d.inlined (d.bundles ++ own ∷ []) i in
      let m : In r.xs own = (each-right (In r.xs) d.bundles (own ∷ []) j).0 in
      let b : given r.by (written k) ≡ generated_only (first_or_none (with_given ns.ids h.0)) = written-given r k own m refl ns h.0 refl in
      let x : given_names ns (given r.by (written k)) ≡ given_names ns h.0 = ap (λ ids. record { ids = ids; labels = ns.labels; exports = []; offset = ns.offset }) (ap (with_given ns.ids) b ∙ given-same ns.ids h.0 t.0 h.3) in
      let y : first_id ns.ids (given r.by (written k)) ≡ first_id ns.ids h.0 = ap (first_id ns.ids) b ∙ first-same ns.ids h.0 t.0 h.3 ∙ first-given ns.ids h.0 in
      let p : (d ≡ expand_leaves r.by (scope_read r) (written k) k 0 ls) × LeavesNamed r.by (scope_read r) (written k) k 0 ls =
      same-leaves r (written k) k 0 ls d w.3 t.1 (inner-own r (written k) (given_names ns h.0) v d m) (each-left (In r.xs) d.inlined (d.bundles ++ own ∷ []) i) (each-left (In r.xs) d.bundles (own ∷ []) j) h.6 in
      let q : (h.2 ≡ expand_defs r.by (scope_read r) (k + 1) ds) × DefsNamed r.by (scope_read r) (k + 1) ds = same-defs r (k + 1) ds h.2 w.4 t.2 (each-right (In r.xs) one h.2 e') h.7 in
      (h.5 ∙ rw (sym x, p.0, q.0) refl, (subst MayBeGiven (sym b) (given-may (first_or_none (with_given ns.ids h.0))), subst (ExportsNamed ns.exports) (sym y) h.4, p.1, q.1))

-- an expansion of a scope is what it becomes under some naming
pub expands-expand : (s x : Scope) (os : ListMarks) → Rowed s → OfText s → Expands s x os → (g : Naming) × Named g s × (x ≡ expand g s) × (os ≡ expand_marks g s)
expands-expand (scope_of kd id label ds) x os w t h =
    let ys : List Entry = h.5.0 in
    let zs : List Entry = h.5.1 in
    let g : Naming = read_off h.1 (ys ++ zs) in
    let y : Reading = reading g kd id label ds h.1 ys zs (λ q p. refl) t.1 h.5.3 h.5.4 in
    let p : (ys ≡ expand_defs g (scope_of kd id label ds) 0 ds) × DefsNamed g (scope_of kd id label ds) 0 ds = same-defs y 0 ds ys w t.1 (each-left (In (ys ++ zs)) ys zs (in-self (ys ++ zs))) h.5.3 in
    let q : zs ≡ expand_exports g 0 ds = exports-same y 0 ds zs (λ e. ap (def_at ds) (omega arith)) h.5.4 in
    let f : ys ++ zs ≡ expand_list g (scope_of kd id label ds) = ap (λ v. v ++ zs) p.0 ∙ ap (λ v. expand_defs g (scope_of kd id label ds) 0 ds ++ v) q in
    let l : h.0 ≡ expand_list g (scope_of kd id label ds) = h.5.2 ∙ f in
    let v : given_to_scope g ≡ h.1 = reads-self g h.1 (ys ++ zs) (λ q p. refl) in (
      g,
      (p.1, subst (λ v. GeneratedOnce (entry_ids v)) f h.5.5, subst MayBeGiven (sym v) h.2),
      h.3 ∙ ap (λ v. scope_of kd (first_of_two id h.1) label (entry_defs v)) l ∙ ap (λ i. scope_of kd (first_of_two id i) label (entry_defs (expand_list g (scope_of kd id label ds)))) (sym v),
      h.4 ∙ ap entry_marks l,
    )
