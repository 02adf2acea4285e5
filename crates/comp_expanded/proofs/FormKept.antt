-- The form of an expanded scope is that of the scope, under the same marks in the numbers of the text.
use Rattle.std.specs.List.{range_with_len}
use Rattle.std.proofs.lemmas.Bool.{eqb-true, eqb-false}
use Rattle.std.proofs.Common.{◌≡◌, ◌≢◌, ℕ, zero, suc, ◌+◌, nat_eq, slice_get, option_map, ◌<◌, ◌⊎◌, inl, inr, Bool, true, false, nat_lt, List, [], ◌∷◌, ◌++◌, length, map, Option, Some, None, IsTrue, refl, sym, ◌∙◌, ap, subst, arith}
use Rattle.std.proofs.lemmas.List.{append_assoc, append-nil}
use Rattle.comp_model.specs.declared.Space.{Space}
use Rattle.comp_model.specs.declared.Space.TheVariants.{CoreType}
use Rattle.comp_model.specs.declared.row.Row.TheVariants as rows
use Rattle.comp_model.specs.declared.row.Row.{Row}
use Rattle.comp_model.specs.RowNumbers.{same_row}
use Rattle.comp_model.specs.Core.{Text, Id, Place, counted, named, Reach, outward, own, at_place, CoreValue, i32, i64, f32, f64, v128, ref_func, ref_extern, ref_index, ref_numeral, ref_name, other_value}
use Rattle.comp_model.specs.Model.{Leaf, text, number, kind, core_value, ref, place, absent, present, node, nodes, case_id, result_ids, result_count, core_source, module_bytes, scope, index, name, Path, root_number, root_name, export_of, Leaves, no_leaf, ◌▸◌, Node, row, Nodes, no_node, one_node, Names, no_names, define, Defs, no_def, one_def, Scope, defs_of, scope_of}
use Rattle.comp_model.specs.declared.row.ScopeKind.{ScopeKind}
use Rattle.comp_model.specs.Spaces.{declares_row}
use Rattle.comp_model.specs.Origins.{Origin, written, inline_type, bundle_of, inline_export, export_step, outer_alias_of, Origins, origin_then, Held, holds_none, holds}
use Rattle.comp_model.proofs.Tests.{same_row-true}
use Rattle.comp_scopes.specs.Encoding.{Encoding}
use Rattle.comp_scopes.specs.Names.{Denoted, denotes, first_of_two}
use Rattle.comp_scopes.specs.References.{references, references_leaf, steps, instance_space}
use Rattle.comp_scopes.specs.Plan.{Mark, mark, plan_alias, plan_name, plan_path, plan_leaves, plan_leaf, marks, before, item_index}
use Rattle.comp_scopes.specs.Outward.{Outward, leads_out, served, outward_name, outward_leaves, outward_leaf, outward_names}
use Rattle.comp_scopes.specs.Form.{Made, make, Formed, plain, needing, formed_as, held_first, form_both, own_made, form_one, form_inline, form_bundle, alias_node, form_alias, form_name, root_index, path_index, form_path, step_node, form_place, form_value, binary_defs, origins_of, coded_node, export_node, form_exports_of, form_exports, form_defs, form_leaves, form_leaf, built, mark_of}
use Rattle.comp_scopes.specs.Rowed.{Textual, TextualLeaf, TextualNodes}
use Rattle.comp_expanded.specs.Expansion.{Naming, given, the_id, generated_reach, id_of_mark, generated_names, first_id, expand_exports_of, Entry, entry_defs, Expanded, entry, expand_one, expand_inline, expand_bundle, expand_leaves, expand_leaf, expand_nodes, expand_exports, expand_list, expand}
use Rattle.comp_expanded.specs.TextNumbers.{entries, definition_of, mark_in_text, scope_in, scope_in_leaf, list_inside, list_at, list_of_mark, marks_in_text, held_in_text}
use Rattle.comp_expanded.specs.OfText.{TextPlace, TextId, TextReach, TextPath, LeafOfText}
use Rattle.comp_expanded.specs.Named.{InlineNamed}
use Rattle.comp_expanded.specs.ListMarks.{ListMarks, Inside, nothing_inside, inside_are, inside_first}
use Rattle.comp_scopes.proofs.Formed.{map-app, built-marks}
use Rattle.comp_scopes.proofs.Aliases.{SharedAlias, shared-alias}
use Rattle.comp_scopes.proofs.EachOf.{EachOf, each_of-left, each_of-right}
use Rattle.comp_scopes.proofs.Lookup.{some-same}
use Rattle.comp_expanded.proofs.Stacks.{expand_stack, AllNamed}
use Rattle.comp_expanded.proofs.Ready.{Seated, seated-left, seated-right}
use Rattle.comp_expanded.proofs.ScopeOf.{OfFirst, EachExport}
use Rattle.comp_expanded.proofs.Answers.{Answers, denoted-answers}
use Rattle.comp_expanded.proofs.Pairs.{AtPlace, place-left, place-right, at-origin, alias-told, step-told}
use Rattle.comp_expanded.proofs.Serve.{Among}
use Rattle.comp_expanded.proofs.NamingExpands.{named-any}
use Rattle.comp_expanded.proofs.Kept.{serves}
use Rattle.comp_expanded.proofs.Index.{OccursIn, SameDenoted, Indexed, stack-indexed, depth-same, denoted-same, LeadsNear, Told, occurs-told}

-- ---- a planned definition with its mark in the numbers of the text

abbrev pub made_in_text : List Entry → Made → Made
made_in_text L m = record { origin = mark_in_text L m.origin; held = held_in_text (list_of_mark L m.origin) m.held; made = m.made }

pub same-binary : (L : List Entry) (ms : List Made) → binary_defs (map (made_in_text L) ms) ≡ binary_defs ms
same-binary L [] = refl
same-binary L (m ∷ ms) = ap (λ ds. one_def (define no_names m.made) ds) (same-binary L ms)

pub same-origins : (L : List Entry) (ms : List Made) → origins_of (map (made_in_text L) ms) ≡ marks_in_text L (origins_of ms)
same-origins L [] = refl
same-origins L (m ∷ ms) = ap (origin_then (mark_in_text L m.origin) (held_in_text (list_of_mark L m.origin) m.held)) (same-origins L ms)

-- ---- the marks inside a part: none, or those of its scope

abbrev pub SameHeld : Held → Held → Inside → Option Scope → Type 0
SameHeld h i f d = ((h ≡ holds_none) × (i ≡ holds_none) × (f ≡ nothing_inside) × (d ≡ None))
    ⊎ ((c : Scope) × (os : ListMarks) × (ms : Origins) × (h ≡ holds (marks_in_text (entries (defs_of c) os) ms)) × (i ≡ holds ms) × (f ≡ inside_are os) × (d ≡ Some c))

pub held-same : (h i : Held) (f : Inside) (d : Option Scope) → SameHeld h i f d → h ≡ held_in_text (list_inside d f) i
held-same h i f d (inl q) = rw (q.0, q.1) refl
held-same h i f d (inr q) = rw (q.3, q.4, q.5, q.6) refl

held-both : (h i : Held) (f : Inside) (d : Option Scope) (k j : Held) (g : Inside) (c : Option Scope) → SameHeld h i f d → SameHeld k j g c → SameHeld (held_first h k) (held_first i j) (inside_first f g) (first_of_two d c)
held-both h i f d k j g c (inl q) r = rw (q.0, q.1, q.2, q.3) r
held-both h i f d k j g c (inr q) r = inr (q.0, q.1, q.2, rw q.3 refl, rw q.4 refl, rw q.5 refl, rw q.6 refl)

no-held : SameHeld holds_none holds_none nothing_inside None
no-held = inl (refl, refl, refl, refl)

-- ---- texts alone stay

mutual
  pub textual-expand : (g : Naming) (c : Scope) (o : Origin) (k u : ℕ) (ls : Leaves) → Textual ls → (expand_leaves g c o k u ls).here ≡ ls
  textual-expand g c o k u no_leaf h = refl
  textual-expand g c o k u (l ▸ ls) h = rw (textual_leaf-expand g c o k u l h.0, textual-expand g c o k (u + references_leaf l) ls h.1) refl

  textual_leaf-expand : (g : Naming) (c : Scope) (o : Origin) (k u : ℕ) (l : Leaf) → TextualLeaf l → (expand_leaf g c o k u l).here ≡ l
  textual_leaf-expand g c o k u (text t) h = refl
  textual_leaf-expand g c o k u (nodes ns) h = ap nodes (textual_nodes-expand g c o k u ns h)
  textual_leaf-expand g c o k u (number n) h = refl
  textual_leaf-expand g c o k u (kind s) h = refl
  textual_leaf-expand g c o k u (core_value v) h = refl
  textual_leaf-expand g c o k u (ref s t) h = absurd h
  textual_leaf-expand g c o k u (place p) h = refl
  textual_leaf-expand g c o k u absent h = refl
  textual_leaf-expand g c o k u (present l) h = absurd h
  textual_leaf-expand g c o k u (node n) h = absurd h
  textual_leaf-expand g c o k u (case_id i) h = refl
  textual_leaf-expand g c o k u (result_ids is) h = refl
  textual_leaf-expand g c o k u (result_count n) h = refl
  textual_leaf-expand g c o k u (core_source m) h = refl
  textual_leaf-expand g c o k u (module_bytes bs) h = refl
  textual_leaf-expand g c o k u (scope s) h = absurd h

  textual_nodes-expand : (g : Naming) (c : Scope) (o : Origin) (k u : ℕ) (ns : Nodes) → TextualNodes ns → (expand_nodes g c o k u ns).here ≡ ns
  textual_nodes-expand g c o k u no_node h = refl
  textual_nodes-expand g c o k u (one_node (row t ls) ns) h = rw (textual-expand g c o k u ls h.0, textual_nodes-expand g c o k (u + references ls) ns h.1) refl

-- ---- parts of a form

list-at : (L : List Entry) (p : ℕ) (x : Entry) → slice_get L p ≡ Some x → list_at L p ≡ list_inside (scope_in x.leaves) x.held
list-at [] p x h = absurd (cc)
list-at (y ∷ L) zero x h = let q : y ≡ x = some-same y x h in ap (λ (v : Entry). list_inside (scope_in v.leaves) v.held) q
list-at (y ∷ L) (suc p) x h = list-at L p x h

module _ (e : Encoding) (L : List Entry) (su : List Scope) where
  -- the planned definitions of these, the first of which has number j
  abbrev pub formed : ℕ → List Entry → List Made
  formed j xs = map (made_in_text L) (form_defs e su j (entry_defs xs))

  pub formed-app : (j : ℕ) (xs ys : List Entry) → formed j (xs ++ ys) ≡ formed j xs ++ formed (j + length xs) ys
  formed-app j [] ys = let z : j + 0 ≡ j = omega arith in rw z refl
  formed-app j (x ∷ xs) ys =
      let z : j + 1 + length xs ≡ j + length (x ∷ xs) = omega arith in
      let p : List Made = form_one (written j) (coded_node e x.head x.leaves) (form_leaves e su j 0 x.leaves) in
      map-app (made_in_text L) p (form_defs e su (j + 1) (entry_defs (xs ++ ys)))
      ∙ ap (λ r. map (made_in_text L) p ++ r) (formed-app (j + 1) xs ys ∙ ap (λ n. formed (j + 1) xs ++ formed n ys) z)
      ∙ sym (append_assoc (map (made_in_text L) p) (formed (j + 1) xs) (formed (j + length (x ∷ xs)) ys))
      ∙ ap (λ r. r ++ formed (j + length (x ∷ xs)) ys) (sym (map-app (made_in_text L) p (form_defs e su (j + 1) (entry_defs xs))))

  -- a part of the form, beside the definitions that stand for it, what it holds, and what the expanded part becomes at each place
  abbrev pub Alike : {H : Type 0} → Formed H → List Entry → List Entry → Inside → Option Scope → (ℕ → ℕ → Type 0) → (ℕ → ℕ → Formed H) → Type 0
  Alike f is bs h d T q = ((j : ℕ) → Seated L j is → f.inlined ≡ formed j is) × ((j : ℕ) → Seated L j bs → f.bundles ≡ formed j bs)
      × ((j w : ℕ) → T j w → (f.needed ≡ map (made_in_text L) (q j w).needed) × (f.here ≡ (q j w).here)) × ((j w : ℕ) → ((q j w).inlined ≡ []) × ((q j w).bundles ≡ [])) × ((j w : ℕ) → SameHeld f.held (q j w).held h d)

  pub alike-plain : {H : Type 0} (x : H) (T : ℕ → ℕ → Type 0) → Alike (plain x) [] [] nothing_inside None T (λ j w. plain x)
  alike-plain x T = (λ j h. refl, λ j h. refl, λ j w h. (refl, refl), λ j w. (refl, refl), λ j w. no-held)

  pub alike-as : {G H : Type 0} (v : G → H) (f : Formed G) (is bs : List Entry) (h : Inside) (d : Option Scope) (T : ℕ → ℕ → Type 0) (q : ℕ → ℕ → Formed G) → Alike f is bs h d T q → Alike (formed_as v f) is bs h d T (λ j w. formed_as v (q j w))
  alike-as v f is bs h d T q a = (a.0, a.1, λ j w t. ((a.2 j w t).0, ap v (a.2 j w t).1), a.3, a.4)

  pub alike-weaken : {H : Type 0} (f : Formed H) (is bs : List Entry) (h : Inside) (d : Option Scope) (T U : ℕ → ℕ → Type 0) (q : ℕ → ℕ → Formed H) → ((j w : ℕ) → U j w → T j w) → Alike f is bs h d T q → Alike f is bs h d U q
  alike-weaken f is bs h d T U q v a = (a.0, a.1, λ j w t. a.2 j w (v j w t), a.3, a.4)

  pub alike-both : {F G H : Type 0} (v : F → G → H) (a : Formed F) (b : Formed G) (is bs ks cs : List Entry) (h k : Inside) (d c : Option Scope) (T U X : ℕ → ℕ → Type 0) (q : ℕ → ℕ → Formed F) (r : ℕ → ℕ → Formed G) (n : ℕ) → ((j w : ℕ) → X j w → T j w) → ((j w : ℕ) → X j w → U j (w + n))
      → Alike a is bs h d T q → Alike b ks cs k c U r → Alike (form_both v a b) (is ++ ks) (bs ++ cs) (inside_first h k) (first_of_two d c) X (λ j w. form_both v (q j w) (r j (w + n)))
  alike-both v a b is bs ks cs h k d c T U X q r n left right x y = (
    λ j t. rw (x.0 j (seated-left L j is ks t), y.0 (j + length is) (seated-right L j is ks t)) (sym (formed-app j is ks)),
    λ j t. rw (x.1 j (seated-left L j bs cs t), y.1 (j + length bs) (seated-right L j bs cs t)) (sym (formed-app j bs cs)),
    λ j w t. (rw ((x.2 j w (left j w t)).0, (y.2 j (w + n) (right j w t)).0) (sym (map-app (made_in_text L) (q j w).needed (r j (w + n)).needed)), rw ((x.2 j w (left j w t)).1, (y.2 j (w + n) (right j w t)).1) refl),
    λ j w. (rw ((x.3 j w).0, (y.3 j (w + n)).0) refl, rw ((x.3 j w).1, (y.3 j (w + n)).1) refl),
    λ j w. held-both a.held (q j w).held h d b.held (r j (w + n)).held k c (x.4 j w) (y.4 j (w + n)),
  )

  -- the definition itself, its node made in the same way
  pub alike-own : (f : Formed Leaves) (T : ℕ → ℕ → Type 0) (o : Origin) (ns : Names) (t : Row) (a : Expanded Leaves) (n : Leaves → Node) (j : ℕ)
      → Alike f a.inlined a.bundles a.held (scope_in a.here) T (λ i w. form_leaves e su i w a.here) → ((bs : Leaves) → n bs ≡ coded_node e t a.here bs) → T j 0
      → Seated L j (entry o ns t a ∷ []) → f.needed ++ own_made o n f ∷ [] ≡ formed j (entry o ns t a ∷ [])
  alike-own f T o ns t a n j h c u k =
      let q : Formed Leaves = form_leaves e su j 0 a.here in
      let m : Made = own_made (written j) (coded_node e t a.here) q in
      let x : f.held ≡ held_in_text (list_at L j) q.held = held-same f.held q.held a.held (scope_in a.here) (h.4 j 0) ∙ ap (λ v. held_in_text v q.held) (sym (list-at L j (entry o ns t a) k.0)) in
      let y : mark_in_text L (written j) ≡ o = (at-origin L j (entry o ns t a) k.0).0 in
      let z : own_made o n f ≡ made_in_text L m = rw (sym y, x, (h.2 j 0 u).1, c q.here) refl in
      let w : form_one (written j) (coded_node e t a.here) q ++ [] ≡ q.needed ++ m ∷ [] = rw ((h.3 j 0).0, (h.3 j 0).1) (append-nil (q.needed ++ m ∷ [])) in
      rw ((h.2 j 0 u).0, z) (sym (map-app (made_in_text L) q.needed (m ∷ [])) ∙ ap (map (made_in_text L)) (sym w))

  pub alike-one : (f : Formed Leaves) (T : ℕ → ℕ → Type 0) (o : Origin) (ns : Names) (t : Row) (a : Expanded Leaves) (n : Leaves → Node) (j : ℕ)
      → Alike f a.inlined a.bundles a.held (scope_in a.here) T (λ i w. form_leaves e su i w a.here) → ((bs : Leaves) → n bs ≡ coded_node e t a.here bs)
      → ((i : ℕ) → Seated L i (entry o ns t a ∷ []) → T i 0) → Seated L j (expand_one o ns t a) → form_one o n f ≡ formed j (expand_one o ns t a)
  alike-one f T o ns t a n j h c u k =
      let own : List Entry = entry o ns t a ∷ [] in
      let m : ℕ = j + length a.inlined in
      let k' : Seated L m (a.bundles ++ own) = seated-right L j a.inlined (a.bundles ++ own) k in
      let i : ℕ = m + length a.bundles in
      let k'' : Seated L i own = seated-right L m a.bundles own k' in
      let l : f.needed ++ own_made o n f ∷ [] ≡ formed i own = alike-own f T o ns t a n i h c (u i k'') k'' in
      rw (h.0 j (seated-left L j a.inlined (a.bundles ++ own) k), h.1 m (seated-left L m a.bundles own k'), l)
      (ap (λ x. formed j a.inlined ++ x) (sym (formed-app m a.bundles own)) ∙ sym (formed-app j a.inlined (a.bundles ++ own)))

-- ---- names, paths, places

alias-same : (s : Space) (o p : Origin) (m n i j : ℕ) → o ≡ p → m ≡ n → i ≡ j → ◌≡◌ {A = List Made} (make o (alias_node m s i) ∷ []) (make p (alias_node n s j) ∷ [])
alias-same s o p m n i j a b c = rw (a, b, c) refl

sits-occur : (ws : List Made) (m : Made) (p : ℕ) → slice_get ws p ≡ Some m → OccursIn (map mark_of ws) m.origin
sits-occur [] m p h = absurd (cc)
sits-occur (w ∷ ws) m zero h = let q : w ≡ m = some-same w m h in inl (ap (λ (v : Made). v.origin) (sym q))
sits-occur (w ∷ ws) m (suc p) h = inr (sits-occur ws m p h)

module _ (e : Encoding) (g : Naming) (kd : ScopeKind) (id : Option Id) (label : Option Text) (ds : Defs) (gs : List Naming) (sr : List Scope)
    (all : AllNamed (g ∷ gs) (scope_of kd id label ds ∷ sr)) where
  abbrev c : Scope
  c = scope_of kd id label ds

  abbrev pub L : List Entry
  L = expand_list g c

  abbrev pub st : List Scope
  st = c ∷ sr

  abbrev pub su : List Scope
  su = expand_stack (g ∷ gs) (c ∷ sr)

  indexed : Indexed st su
  indexed = stack-indexed (g ∷ gs) (c ∷ sr) all

  -- a mark of the expanded scope, and that of the text with the same indices
  abbrev pub Keeps : Origin → Origin → Type 0
  Keeps o p = (mark_in_text L o ≡ p) × ((s : Space) → before s p (marks st) ≡ before s o (marks su))

  keeps : (o p : Origin) → mark_in_text L o ≡ p → OccursIn (marks su) o → Keeps o p
  keeps o p t h = let k : Told g kd id label ds gs sr all o (mark_in_text L o) = occurs-told g kd id label ds gs sr all o h in (t, λ s. ap (λ q. before s q (marks st)) (sym t) ∙ k.1 s)

  -- where a part stands in the list: its places, and that its names and marks are among those of the list
  abbrev pub Led : Outward → Type 0
  Led w = Among (outward_names su) w.origin

  abbrev pub Occurs : Mark → Type 0
  Occurs m = OccursIn (marks su) m.origin

  abbrev pub Here : ℕ → ℕ → ℕ → List ℕ → List Outward → List Mark → Type 0
  Here j w k ps os ms = AtPlace L j w k ps × EachOf Led os × EachOf Occurs ms

  pub here-left : (j w k : ℕ) (ps qs : List ℕ) (os xs : List Outward) (ms ns : List Mark) → Here j w k (ps ++ qs) (os ++ xs) (ms ++ ns) → Here j w k ps os ms
  here-left j w k ps qs os xs ms ns h = (place-left L j w k ps qs h.0, each_of-left Led os xs h.1, each_of-left Occurs ms ns h.2)

  pub here-right : (j w k n : ℕ) (ps qs : List ℕ) (os xs : List Outward) (ms ns : List Mark) → length ps ≡ n → Here j w k (ps ++ qs) (os ++ xs) (ms ++ ns) → Here j (w + n) k qs xs ns
  here-right j w k n ps qs os xs ms ns e h = (place-right L j w k n ps qs e h.0, each_of-right Led os xs h.1, each_of-right Occurs ms ns h.2)

  abbrev pub Same : {H : Type 0} → Formed H → List Entry → List Entry → Inside → Option Scope → (ℕ → ℕ → Type 0) → (ℕ → ℕ → Formed H) → Type 0
  Same f is bs h d T q = Alike e L su f is bs h d T q

  out-same : (r : Reach) (a b : Denoted) → b.depth ≡ a.depth → leads_out r (Some a) ≡ leads_out r (Some b)
  out-same outward a b h = ap (λ n. nat_lt 0 n) (sym h)
  out-same own a b h = refl
  out-same (at_place p) a b h = refl

  -- an alias, its own or one that is shared
  alias-either : (k u : ℕ) (s : Space) (a b : Denoted) → SameDenoted st su s (Some a) (Some b) → Answers (g ∷ gs) (c ∷ sr) (Some a) (Some b)
      → Same (form_alias st k u s a (served st k u s a)) [] [] nothing_inside None (λ j w. Here j w k (u ∷ []) (outward_name j w s true (Some b)).needed (plan_alias j w s (served su j w s b)).needed) (λ j w. form_alias su j w s b (served su j w s b))
  alias-either k u s a b h q = (
    λ j t. inlined-none (served st k u s a),
    λ j t. bundles-none (served st k u s a),
    λ j w t. here j w (served st k u s a) (served su j w s b) refl (serves g kd id label ds gs sr all k u j w s a b (alias-told L j w k u t.0) t.1.0 q) (alias-told L j w k u t.0) t.2,
    λ j w. plain_alias j w (served su j w s b),
    λ j w. inl (held-none k u st a (served st k u s a), held-none j w su b (served su j w s b), refl, refl),
  )
    where
      inlined-none : (o : Option Origin) → (form_alias st k u s a o).inlined ≡ []
      inlined-none None = refl
      inlined-none (Some p) = refl

      bundles-none : (o : Option Origin) → (form_alias st k u s a o).bundles ≡ []
      bundles-none None = refl
      bundles-none (Some p) = refl

      plain_alias : (j w : ℕ) (o : Option Origin) → ((form_alias su j w s b o).inlined ≡ []) × ((form_alias su j w s b o).bundles ≡ [])
      plain_alias j w None = (refl, refl)
      plain_alias j w (Some p) = (refl, refl)

      held-none : (i v : ℕ) (r : List Scope) (d : Denoted) (o : Option Origin) → (form_alias r i v s d o).held ≡ holds_none
      held-none i v r d None = refl
      held-none i v r d (Some p) = refl

      here : (j w : ℕ) (x y : Option Origin) → served su j w s b ≡ y → x ≡ option_map (mark_in_text L) y → mark_in_text L (outer_alias_of j w) ≡ outer_alias_of k u → EachOf Occurs (plan_alias j w s y).needed
          → ((form_alias st k u s a x).needed ≡ map (made_in_text L) (form_alias su j w s b y).needed) × ((form_alias st k u s a x).here ≡ (form_alias su j w s b y).here)
      here j w None None f z t m =
          let v : Keeps (outer_alias_of j w) (outer_alias_of k u) = keeps (outer_alias_of j w) (outer_alias_of k u) t m.0 in
          (alias-same s (outer_alias_of k u) (mark_in_text L (outer_alias_of j w)) a.depth b.depth (item_index st s a) (item_index su s b) (sym t) (sym h.0) h.1, v.1 s)
      here j w None (Some p) f z t m = absurd (cc)
      here j w (Some o) None f z t m = absurd (cc)
      here j w (Some o) (Some p) f z t m =
          let v : SharedAlias e (expand_stack gs sr) (expand g c) s b p = shared-alias e (expand_stack gs sr) (expand g c) j w s b p f in
          let n : OccursIn (marks su) p = subst (λ xs. OccursIn xs p) (built-marks e (expand_stack gs sr) (expand g c)) (sits-occur (built e (expand_stack gs sr) (expand g c)) _ v.3.0 v.3.1) in
          (refl, (keeps p o (sym (some-same o (mark_in_text L p) z)) n).1 s)

  name-either : (k u : ℕ) (s : Space) (v : Bool) (a b : Denoted) → SameDenoted st su s (Some a) (Some b) → Answers (g ∷ gs) (c ∷ sr) (Some a) (Some b)
      → Same (form_name st k u s v (Some a)) [] [] nothing_inside None (λ j w. Here j w k (u ∷ []) (outward_name j w s v (Some b)).needed (plan_name su j w s v (Some b)).needed) (λ j w. form_name su j w s v (Some b))
  name-either k u s false a b h q = (λ j t. refl, λ j t. refl, λ j w t. (refl, h.1), λ j w. (refl, refl), λ j w. no-held)
  name-either k u s true a b h q = alias-either k u s a b h q

  name-both : (k u : ℕ) (s : Space) (r : Reach) (a b : Option Denoted) → SameDenoted st su s a b → Answers (g ∷ gs) (c ∷ sr) a b
      → Same (form_name st k u s (leads_out r a) a) [] [] nothing_inside None (λ j w. Here j w k (u ∷ []) (outward_name j w s (leads_out r b) b).needed (plan_name su j w s (leads_out r b) b).needed) (λ j w. form_name su j w s (leads_out r b) b)
  name-both k u s r None None h q = none (leads_out r None)
    where
      none : (v : Bool) → Same (form_name st k u s v None) [] [] nothing_inside None (λ j w. Here j w k (u ∷ []) (outward_name j w s v None).needed (plan_name su j w s v None).needed) (λ j w. form_name su j w s v None)
      none true = alike-plain e L su 0 _
      none false = alike-plain e L su 0 _
  name-both k u s r None (Some b) h q = absurd h
  name-both k u s r (Some a) None h q = absurd h
  name-both k u s r (Some a) (Some b) h q = rw (out-same r a b h.0) (name-either k u s (leads_out r (Some b)) a b h q)

  pub name-same : (k u : ℕ) (s : Space) (r : Reach) (x : Id) → TextReach r → TextId x
      → Same (form_name st k u s (leads_out r (denotes st s r x)) (denotes st s r x)) [] [] nothing_inside None
      (λ j w. Here j w k (u ∷ []) (outward_name j w s (leads_out r (denotes su s r x)) (denotes su s r x)).needed (plan_name su j w s (leads_out r (denotes su s r x)) (denotes su s r x)).needed) (λ j w. form_name su j w s (leads_out r (denotes su s r x)) (denotes su s r x))
  name-same k u s r x a b = name-both k u s r (denotes st s r x) (denotes su s r x) (denoted-same st su s r x indexed a b) (denoted-answers (g ∷ gs) (c ∷ sr) s r x all a b)

  -- a generated name is the index of the mark
  pub generated_reach-same : (s : Space) (r : Reach) (x : Id) (o : Origin) (T : ℕ → ℕ → Type 0) → LeadsNear st su r s x o
      → Same (plain (ref s (index (before s o (marks st))))) [] [] nothing_inside None T (λ j w. formed_as (λ i. ref s (index i)) (form_name su j w s (leads_out r (denotes su s r x)) (denotes su s r x)))
  generated_reach-same s r x o T h = rw (h.1, h.2, h.3) (alike-plain e L su (ref s (index (before s o (marks st)))) T)

  root-same : (s : Space) (a b : Option Denoted) → SameDenoted st su s a b → root_index st s a ≡ root_index su s b
  root-same s None None h = refl
  root-same s None (Some b) h = absurd h
  root-same s (Some a) None h = absurd h
  root-same s (Some a) (Some b) h = h.1

  path_index-same : (k u j w : ℕ) (s : Space) (p : Path) → TextPath p → ((i : ℕ) → i < steps p → Keeps (export_step j w i) (export_step k u i)) → path_index st k u s p ≡ path_index su j w s p
  path_index-same k u j w s (root_number o n) t h = refl
  path_index-same k u j w s (root_name x) t h = root-same s (denotes st s own x) (denotes su s own x) (denoted-same st su s own x indexed tt t)
  path_index-same k u j w s (export_of p n) t h = (h (steps p) (omega arith)).1 s

  path-same : (k u j w : ℕ) (s : Space) (p : Path) → TextPath p → ((i : ℕ) → i < steps p → Keeps (export_step j w i) (export_step k u i)) → form_path st k u s p ≡ map (made_in_text L) (form_path su j w s p)
  path-same k u j w s (root_number o n) t h = refl
  path-same k u j w s (root_name x) t h = refl
  path-same k u j w s (export_of p n) t h =
      let f : (i : ℕ) → i < steps p → Keeps (export_step j w i) (export_step k u i) = λ i l. h i (omega (arith, l)) in
      rw (path-same k u j w (instance_space s) p t f, path_index-same k u j w (instance_space s) p t f, map-app (made_in_text L) (form_path su j w (instance_space s) p) (make (export_step j w (steps p)) (step_node (path_index su j w (instance_space s) p) n s) ∷ []), (h (steps p) (omega arith)).0) refl

  pub place-same : (p : Place) → TextPlace p → form_place st p ≡ form_place su p
  place-same (counted o d) t = refl
  place-same (named o x) t = rw (depth-same st su (named o x) t indexed) refl

  pub value-same : (k u : ℕ) (v : CoreValue) → LeafOfText (core_value v)
      → Same (form_value st k u v) [] [] nothing_inside None (λ j w. Here j w k (range_with_len u (references_leaf (core_value v))) (outward_leaf su j w (core_value v)).needed (plan_leaf su j w (core_value v)).needed) (λ j w. form_value su j w v)
  value-same k u (ref_name b r x) t = alike-as e L su (λ i. core_value (ref_index b i)) (form_name st k u CoreType (leads_out r (denotes st CoreType r x)) (denotes st CoreType r x)) [] [] nothing_inside None _ _ (name-same k u CoreType r x t.0 t.1)
  value-same k u (ref_numeral b o n) t = alike-plain e L su (core_value (ref_index b n)) _
  value-same k u i32 t = alike-plain e L su (core_value i32) _
  value-same k u f32 t = alike-plain e L su (core_value f32) _
  value-same k u i64 t = alike-plain e L su (core_value i64) _
  value-same k u f64 t = alike-plain e L su (core_value f64) _
  value-same k u v128 t = alike-plain e L su (core_value v128) _
  value-same k u (ref_func b) t = alike-plain e L su (core_value (ref_func b)) _
  value-same k u (ref_extern b) t = alike-plain e L su (core_value (ref_extern b)) _
  value-same k u (ref_index b i) t = alike-plain e L su (core_value (ref_index b i)) _
  value-same k u other_value t = alike-plain e L su (core_value other_value) _

  step-occurs : (j w : ℕ) (s : Space) (p : Path) (i : ℕ) → EachOf Occurs (plan_path j w s p) → i < steps p → OccursIn (marks su) (export_step j w i)
  step-occurs j w s (root_number o n) i h l = absurd (omega (arith, l))
  step-occurs j w s (root_name x) i h l = absurd (omega (arith, l))
  step-occurs j w s (export_of p t) i h l = go (nat_eq i (steps p)) refl (step-occurs j w (instance_space s) p i (each_of-left Occurs (plan_path j w (instance_space s) p) (mark (export_step j w (steps p)) (s ∷ []) ∷ []) h))
    where
      go : (b : Bool) → nat_eq i (steps p) ≡ b → (i < steps p → OccursIn (marks su) (export_step j w i)) → OccursIn (marks su) (export_step j w i)
      go true e f = let q : i ≡ steps p = eqb-true i (steps p) e in subst (λ n. OccursIn (marks su) (export_step j w n)) (sym q) (each_of-right Occurs (plan_path j w (instance_space s) p) (mark (export_step j w (steps p)) (s ∷ []) ∷ []) h).0
      go false e f = let q : i ≢ steps p = eqb-false i (steps p) e in f (omega (arith, l, q))

  steps-keep : (k u j w : ℕ) (s : Space) (p : Path) → Here j w k (u ∷ []) [] (plan_path j w s p) → (i : ℕ) → i < steps p → Keeps (export_step j w i) (export_step k u i)
  steps-keep k u j w s p h i l = keeps (export_step j w i) (export_step k u i) (step-told L j w k u i h.0) (step-occurs j w s p i h.2 l)

  pub whole_path-same : (k u : ℕ) (s : Space) (p : Path) → TextPath p
      → Same (needing (form_path st k u s p) (ref s (index (path_index st k u s p)))) [] [] nothing_inside None (λ j w. Here j w k (u ∷ []) [] (plan_path j w s p)) (λ j w. needing (form_path su j w s p) (ref s (index (path_index su j w s p))))
  whole_path-same k u s p t = (λ j h. refl, λ j h. refl, λ j w h. (path-same k u j w s p t (steps-keep k u j w s p h), ap (λ i. ref s (index i)) (path_index-same k u j w s p t (steps-keep k u j w s p h))), λ j w. (refl, refl), λ j w. no-held)

  -- ---- inline nodes and bundles

  -- what declares an item is no list of producers
  no-producers : (t : Row) (s : Space) (ls ms bs : Leaves) → declares_row t ls ≡ s ∷ [] → row t bs ≡ coded_node e t ms bs
  no-producers t s ls ms bs h = go (same_row t rows.Producers) refl
    where
      go : (b : Bool) → same_row t rows.Producers ≡ b → row t bs ≡ coded_node e t ms bs
      go true q = let p : t ≡ rows.Producers = same_row-true t rows.Producers q in let r : [] ≡ s ∷ [] = sym (ap (λ v. declares_row v ls) p) ∙ h in absurd (cc)
      go false q = rw q refl

  pub inline-same : (k u : ℕ) (s : Space) (t : Row) (ls : Leaves) (r : Option Origin) (N : Type 0) (f : Formed Leaves) (a : Expanded Leaves) (T : ℕ → ℕ → Type 0) → declares_row t ls ≡ s ∷ [] → InlineNamed g c k u r N
      → ((o : Origin) → r ≡ Some o → InlineNamed g c k u (Some o) (Unit {0}) → LeadsNear st su (generated_reach c) s (id_of_mark g c o) o)
      → (r ≡ None → InlineNamed g c k u None N → LeadsNear st su (generated_reach c) s (the_id (given g (inline_type k u))) (inline_type k u))
      → (r ≡ None → N → Same f a.inlined a.bundles a.held (scope_in a.here) (λ j w. Here j w k a.places (outward_leaves su j w a.here).needed (plan_leaves su j w a.here).needed) (λ j w. form_leaves e su j w a.here))
      → ((n : ℕ) (x : Entry) → slice_get L n ≡ Some x → definition_of x.origin ≡ k → Here n 0 k x.places (outward_leaves su n 0 x.leaves).needed (plan_leaves su n 0 x.leaves).needed)
      → Same (form_inline st k u s t r f) (expand_inline g c k u s t r a).inlined (expand_inline g c k u s t r a).bundles (expand_inline g c k u s t r a).held (scope_in_leaf (expand_inline g c k u s t r a).here) T (λ j w. form_leaf e su j w (expand_inline g c k u s t r a).here)
  inline-same k u s t ls (Some o) N f a T d m again mine v at = generated_reach-same s (generated_reach c) (id_of_mark g c o) o T (again o refl (named-any g c k u o N m))
  inline-same k u s t ls None N f a T d m again mine v at =
      let n : Same (plain (ref s (index (before s (inline_type k u) (marks st))))) [] [] nothing_inside None T (λ j w. form_leaf e su j w (ref s (name (generated_reach c) (the_id (given g (inline_type k u)))))) =
      generated_reach-same s (generated_reach c) (the_id (given g (inline_type k u))) (inline_type k u) T (mine refl m) in
      (λ j q. alike-one e L su f (λ j w. Here j w k a.places (outward_leaves su j w a.here).needed (plan_leaves su j w a.here).needed) (inline_type k u) (generated_names (given g (inline_type k u))) t a (row t) j (v refl m.1) (λ bs. no-producers t s ls a.here bs d) (λ i x. at i _ x.0 refl) q, n.1, n.2, n.3, n.4)

  pub bundle-same : (k u : ℕ) (s : Space) (t : Row) (ls : Leaves) (f : Formed Leaves) (a : Expanded Leaves) (T : ℕ → ℕ → Type 0) → declares_row t ls ≡ s ∷ []
      → LeadsNear st su (generated_reach c) s (the_id (given g (bundle_of k u))) (bundle_of k u) → Same f a.inlined a.bundles a.held (scope_in a.here) (λ j w. Here j w k a.places (outward_leaves su j w a.here).needed (plan_leaves su j w a.here).needed) (λ j w. form_leaves e su j w a.here)
      → ((n : ℕ) (x : Entry) → slice_get L n ≡ Some x → definition_of x.origin ≡ k → Here n 0 k x.places (outward_leaves su n 0 x.leaves).needed (plan_leaves su n 0 x.leaves).needed)
      → Same (form_bundle st k u s t f) (expand_bundle g c k u s t a).inlined (expand_bundle g c k u s t a).bundles (expand_bundle g c k u s t a).held (scope_in_leaf (expand_bundle g c k u s t a).here) T (λ j w. form_leaf e su j w (expand_bundle g c k u s t a).here)
  bundle-same k u s t ls f a T d h v at =
      let n : Same (plain (ref s (index (before s (bundle_of k u) (marks st))))) [] [] nothing_inside None T (λ j w. form_leaf e su j w (ref s (name (generated_reach c) (the_id (given g (bundle_of k u)))))) =
      generated_reach-same s (generated_reach c) (the_id (given g (bundle_of k u))) (bundle_of k u) T h in
      let own : List Entry = entry (bundle_of k u) (generated_names (given g (bundle_of k u))) t a ∷ [] in (
        v.0,
        λ j q. rw (
          v.1 j (seated-left L j a.bundles own q),
          alike-own e L su f (λ j w. Here j w k a.places (outward_leaves su j w a.here).needed (plan_leaves su j w a.here).needed) (bundle_of k u) (generated_names (given g (bundle_of k u))) t a (row t) (j + length a.bundles) v (λ bs. no-producers t s ls a.here bs d)
              (at (j + length a.bundles) _ (seated-right L j a.bundles own q).0 refl) (seated-right L j a.bundles own q),
        ) (sym (formed-app e L su j a.bundles own)),
        n.2,
        n.3,
        n.4,
      )

  -- the node of a written definition
  pub coded-same : (o : Origin) (k u : ℕ) (t : Row) (ls bs : Leaves) → (IsTrue (same_row t rows.Producers) → Textual ls) → coded_node e t ls bs ≡ coded_node e t (expand_leaves g c o k u ls).here bs
  coded-same o k u t ls bs h = go (same_row t rows.Producers) refl
    where
      go : (b : Bool) → same_row t rows.Producers ≡ b → coded_node e t ls bs ≡ coded_node e t (expand_leaves g c o k u ls).here bs
      go true q = rw (textual-expand g c o k u ls (h q)) refl
      go false q = rw q refl

  -- ---- inline exports

  exports_of-same : (x : Id) (k i j : ℕ) (ns : List Text) (ss : List Space) → OfFirst (λ s. LeadsNear st su outward s x (written k)) ns ss → Seated L j (expand_exports_of x k i ns ss)
      → form_exports_of st k i ns ss ≡ formed e L su j (expand_exports_of x k i ns ss)
  exports_of-same x k i j [] ss h v = refl
  exports_of-same x k i j (n ∷ ns) [] h v = refl
  exports_of-same x k i j (n ∷ ns) (s ∷ ss) h v =
      rw (h.1, h.2, h.3, (at-origin L j _ v.0).0) (ap (λ r. make (inline_export k i) (export_node n s (before s (written k) (marks st))) ∷ r) (exports_of-same x k (i + 1) (j + 1) ns (s ∷ ss) (again ns h) v.1))
    where
      again : (ms : List Text) → LeadsNear st su outward s x (written k) → OfFirst (λ r. LeadsNear st su outward r x (written k)) ms (s ∷ ss)
      again [] q = tt
      again (m ∷ ms) q = q

  pub exports-same : (k j : ℕ) (bs : Defs) → EachExport (λ i s x. LeadsNear st su outward s x (written i)) g k bs → Seated L j (expand_exports g k bs) → form_exports st k bs ≡ formed e L su j (expand_exports g k bs)
  exports-same k j no_def h v = refl
  exports-same k j (one_def (define ns (row t ls)) bs) h v =
      let is : List Entry = expand_exports_of (the_id (first_id ns.ids (given g (written k)))) k 0 ns.exports (declares_row t ls) in
      rw (
        exports_of-same (the_id (first_id ns.ids (given g (written k)))) k 0 j ns.exports (declares_row t ls) h.0 (seated-left L j is (expand_exports g (k + 1) bs) v),
        exports-same (k + 1) (j + length is) bs h.1 (seated-right L j is (expand_exports g (k + 1) bs) v),
      ) (sym (formed-app e L su j is (expand_exports g (k + 1) bs)))
