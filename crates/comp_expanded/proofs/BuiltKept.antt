-- What is built of an expanded scope is what is built of the scope.
use Rattle.std.proofs.Common.{◌≡◌, ℕ, zero, suc, ◌+◌, slice_get, inl, inr, Bool, true, false, List, [], ◌∷◌, ◌++◌, length, map, Option, Some, None, refl, sym, ◌∙◌, ap, subst, arith}
use Rattle.std.proofs.lemmas.List.{append_assoc, append-nil}
use Rattle.std.specs.Prelude.{codes}
use Rattle.comp_model.specs.declared.Space.{Space}
use Rattle.comp_model.specs.declared.row.Row.{Row}
use Rattle.comp_model.specs.Core.{Text, Id}
use Rattle.comp_model.specs.Model.{Leaf, text, number, kind, core_value, ref, place, absent, present, node, nodes, case_id, result_ids, result_count, core_source, module_bytes, scope, index, numeral, name, path, inline, bundle, Leaves, no_leaf, ◌▸◌, row, Nodes, no_node, one_node, define, Defs, no_def, one_def, Scope, scope_of}
use Rattle.comp_model.specs.declared.row.ScopeKind.{ScopeKind}
use Rattle.comp_model.specs.Spaces.{declares_row, declarations_from, all_spaces}
use Rattle.comp_model.specs.Origins.{Origin, written, inline_type, bundle_of, name_section, holds}
use Rattle.comp_model.specs.Payloads.{name_payload}
use Rattle.comp_scopes.specs.Encoding.{Encoding}
use Rattle.comp_scopes.specs.Names.{first_of_two, denotes}
use Rattle.comp_scopes.specs.References.{references, references_leaf}
use Rattle.comp_scopes.specs.Reused.{reused}
use Rattle.comp_model.specs.ItemNames.{has_names, own_name, names_from}
use Rattle.comp_scopes.specs.Plan.{Mark, mark, plan_one, plan_leaves, plan_leaf, plan_nodes, plan_defs, export_marks, name_marks, before, marks}
use Rattle.comp_scopes.specs.Outward.{Planned, leads_out, Outward, outward_leaves, outward_leaf, outward_nodes}
use Rattle.comp_scopes.specs.Form.{Made, make, Formed, plain, binary_defs, origins_of, form_inner, form_inline, coded_node, custom_node, names_of, maps_in, form_names, form_exports, form_defs, form_leaves, form_leaf, form_nodes, form_name, form_place, built}
use Rattle.comp_scopes.specs.Rule.{AllDistinct, RuleOfDefs, RuleOfLeaves, RuleOfLeaf, RuleOfNodes, ScopeRule}
use Rattle.comp_scopes.specs.Rowed.{LeavesRowed, LeafRowed, NodesRowed, DefsRowed, Rowed}
use Rattle.comp_expanded.specs.Expansion.{given_to_scope, Naming, inside, given, given_names, generated_names, entry, expand_inline, Entry, entry_defs, entry_marks, Expanded, expand_one, expand_leaves, expand_leaf, expand_nodes, expand_defs, expand_exports, expand_list, expand}
use Rattle.comp_expanded.specs.TextNumbers.{entries, definition_of, origin_at, scope_in, scope_in_leaf, scope_in_nodes, marks_in_text}
use Rattle.comp_expanded.specs.OfText.{LeavesOfText, LeafOfText, NodesOfText, DefsOfText, OfText}
use Rattle.comp_expanded.specs.Named.{InlineNamed, LeavesNamed, LeafNamed, NodesNamed, DefsNamed, Named}
use Rattle.comp_expanded.proofs.Stacks.{expand_stack, AllNamed}
use Rattle.comp_expanded.specs.ListMarks.{Inside, nothing_inside, inside_are}
use Rattle.comp_expanded.proofs.Ids.{list-unexported, exports-bare, Unexported, EachListed, each-left, each-right}
use Rattle.comp_expanded.proofs.Ready.{In, in-self, Seated, seated-left, seated-right, seated-self}
use Rattle.comp_expanded.proofs.Pairs.{at-origin, leaves-places, leaf-places}
use Rattle.comp_expanded.proofs.Kept.{serves, entries-same}
use Rattle.comp_expanded.proofs.MarksKept.{all-led}
use Rattle.comp_expanded.proofs.Index.{OccursIn, at-told}
use Rattle.comp_expanded.proofs.Leads.{own-leads, again-leads, exports-lead}
use Rattle.comp_expanded.proofs.FormKept.{made_in_text, same-binary, same-origins, formed, formed-app, alike-plain, alike-as, alike-both, alike-one, Here, here-left, here-right, Same, name-same, place-same, value-same, whole_path-same, inline-same, bundle-same, coded-same, exports-same}
use Rattle.comp_scopes.proofs.EachOf.{EachOf}
use Rattle.comp_scopes.proofs.Lookup.{some-same}
use Rattle.comp_scopes.proofs.Formed.{map-app}
use Rattle.comp_expanded.proofs.Parts.{declares-expand}
use Rattle.comp_expanded.proofs.ScopeOf.{name-given, expand-names}
use Rattle.comp_expanded.proofs.NamesKept.{EachKept, same-names, same-maps}

-- a scope of a stack, each with its naming
pub record Level : Type 0 where
  pub by : Naming
  pub kd : ScopeKind
  pub id : Option Id
  pub label : Option Text
  pub ds : Defs
  pub gs : List Naming
  pub st : List Scope
  pub all : AllNamed (by ∷ gs) (scope_of kd id label ds ∷ st)

abbrev pub scope_at : Level → Scope
scope_at x = scope_of x.kd x.id x.label x.ds

abbrev pub stack_at : Level → List Scope
stack_at x = scope_of x.kd x.id x.label x.ds ∷ x.st

abbrev pub expanded_at : Level → List Scope
expanded_at x = expand_stack (x.by ∷ x.gs) (scope_of x.kd x.id x.label x.ds ∷ x.st)

abbrev pub list_of : Level → List Entry
list_of x = expand_list x.by (scope_of x.kd x.id x.label x.ds)

-- the scope inside a definition of that mark
abbrev pub inner : (x : Level) (o : Origin) (kd : ScopeKind) (id : Option Id) (label : Option Text) (ds : Defs) → Rowed (scope_of kd id label ds) → OfText (scope_of kd id label ds) → Named (inside x.by o) (scope_of kd id label ds) → Level
inner x o kd id label ds w t n = record { by = inside x.by o; kd = kd; id = id; label = label; ds = ds; gs = x.by ∷ x.gs; st = stack_at x; all = ((w, t, n), x.all) }

-- ---- where an entry stands

occurs-left : (xs ys : List Mark) (o : Origin) → OccursIn xs o → OccursIn (xs ++ ys) o
occurs-left [] ys o h = absurd h
occurs-left (x ∷ xs) ys o (inl e) = inl e
occurs-left (x ∷ xs) ys o (inr h) = inr (occurs-left xs ys o h)

occurs-right : (xs ys : List Mark) (o : Origin) → OccursIn ys o → OccursIn (xs ++ ys) o
occurs-right [] ys o h = h
occurs-right (x ∷ xs) ys o h = inr (occurs-right xs ys o h)

each-occurs : (ms xs : List Mark) → ((o : Origin) → OccursIn xs o → OccursIn ms o) → EachOf (λ (m : Mark). OccursIn ms m.origin) xs
each-occurs ms [] f = tt
each-occurs ms (x ∷ xs) f = (f x.origin (inl refl), each-occurs ms xs (λ o h. f o (inr h)))

needed-occurs : (su : List Scope) (j n : ℕ) (xs : List Entry) (x : Entry) → slice_get xs n ≡ Some x → (o : Origin) → OccursIn (plan_leaves su (j + n) 0 x.leaves).needed o → OccursIn (plan_defs su j (entry_defs xs)) o
needed-occurs su j n [] x e o h = absurd (cc)
needed-occurs su j zero (y ∷ xs) x e o h =
    let q : y ≡ x = some-same y x e in
    let z : j + zero ≡ j = omega arith in
    let p : Planned Mark = plan_leaves su j 0 y.leaves in
    let m : List Mark = mark (written j) (declares_row y.head y.leaves) ∷ [] in
    let h' : OccursIn p.needed o = subst (λ (v : Entry). OccursIn (plan_leaves su j 0 v.leaves).needed o) (sym q) (subst (λ i. OccursIn (plan_leaves su i 0 x.leaves).needed o) z h) in
    occurs-left (p.inlined ++ (p.bundles ++ (p.needed ++ m))) (plan_defs su (j + 1) (entry_defs xs)) o (occurs-right p.inlined (p.bundles ++ (p.needed ++ m)) o (occurs-right p.bundles (p.needed ++ m) o (occurs-left p.needed m o h')))
needed-occurs su j (suc n) (y ∷ xs) x e o h =
    let z : j + suc n ≡ j + 1 + n = omega arith in
    occurs-right (plan_one (plan_leaves su j 0 y.leaves) (mark (written j) (declares_row y.head y.leaves))) (plan_defs su (j + 1) (entry_defs xs)) o (needed-occurs su (j + 1) n xs x e o (subst (λ i. OccursIn (plan_leaves su i 0 x.leaves).needed o) z h))

module _ (e : Encoding) where
  abbrev formed_at : Level → ℕ → List Entry → List Made
  formed_at x = formed e (list_of x) (expanded_at x)

  abbrev SameAt : (x : Level) → {H : Type 0} → Formed H → List Entry → List Entry → Inside → Option Scope → (ℕ → ℕ → Type 0) → (ℕ → ℕ → Formed H) → Type 0
  SameAt x f is bs h d T q = Same e x.by x.kd x.id x.label x.ds x.gs x.st x.all f is bs h d T q

  abbrev HereAt : Level → ℕ → ℕ → ℕ → List ℕ → List Outward → List Mark → Type 0
  HereAt x = Here e x.by x.kd x.id x.label x.ds x.gs x.st x.all

  -- an entry, at reference 0
  entry-here : (x : Level) (k n : ℕ) (y : Entry) → slice_get (list_of x) n ≡ Some y → definition_of y.origin ≡ k → HereAt x n 0 k y.places (outward_leaves (expanded_at x) n 0 y.leaves).needed (plan_leaves (expanded_at x) n 0 y.leaves).needed
  entry-here x k n y q d =
      let a : (origin_at (list_of x) n ≡ y.origin) × (Rattle.comp_expanded.specs.TextNumbers.places_at (list_of x) n ≡ y.places) = at-origin (list_of x) n y q in
      let z : 0 + n ≡ n = omega arith in (
        (ap definition_of a.0 ∙ d, [], [], a.1 ∙ sym (append-nil y.places), refl),
        all-led x.by x.kd x.id x.label x.ds x.gs x.st x.all (serves x.by x.kd x.id x.label x.ds x.gs x.st x.all) n y q,
        each-occurs (marks (expanded_at x)) (plan_leaves (expanded_at x) n 0 y.leaves).needed
            (λ o h. occurs-left (plan_defs (expanded_at x) 0 (entry_defs (list_of x))) (export_marks 0 (entry_defs (list_of x)) ++ name_marks (has_names (expand x.by (scope_at x)))) o
            (needed-occurs (expanded_at x) 0 n (list_of x) y q o (subst (λ i. OccursIn (plan_leaves (expanded_at x) i 0 y.leaves).needed o) (sym z) h))),
      )

  abbrev InBoth : Level → {H : Type 0} → Expanded H → Type 0
  InBoth x a = EachListed (In (list_of x)) a.inlined × EachListed (In (list_of x)) a.bundles

  seated-all : (x : Level) → Seated (list_of x) 0 (list_of x)
  seated-all x = seated-self [] (list_of x) 0 refl

  plain-at : (x : Level) {H : Type 0} (y : H) (T : ℕ → ℕ → Type 0) → SameAt x (plain y) [] [] nothing_inside None T (λ j w. plain y)
  plain-at x y T = alike-plain e (list_of x) (expanded_at x) y T

  -- an inner scope whose planned definitions are the same
  scope-same : (x : Level) (kd : ScopeKind) (id : Option Id) (label : Option Text) (I : List Entry) (ms ns : List Made) (T : ℕ → ℕ → Type 0) → ms ≡ map (made_in_text I) ns
      → SameAt x (form_inner kd ms) [] [] (inside_are (entry_marks I)) (Some (scope_of kd id label (entry_defs I))) T (λ j w. form_inner kd ns)
  scope-same x kd id label I ms ns T h =
      let a : binary_defs ms ≡ binary_defs ns = ap binary_defs h ∙ same-binary I ns in
      let b : origins_of ms ≡ marks_in_text (entries (entry_defs I) (entry_marks I)) (origins_of ns) = ap origins_of h ∙ same-origins I ns ∙ ap (λ v. marks_in_text v (origins_of ns)) (sym (entries-same I)) in
      (λ j t. refl, λ j t. refl, λ j w t. (refl, ap (λ ds. scope (scope_of kd None None ds)) a), λ j w. (refl, refl), λ j w. inr (scope_of kd id label (entry_defs I), entry_marks I, origins_of ns, ap holds b, refl, refl, refl))

  -- ---- a whole scope, where its definitions are the same

  no-exports : (st : List Scope) (j : ℕ) (xs : List Entry) → EachListed Unexported xs → form_exports st j (entry_defs xs) ≡ []
  no-exports st j [] h = refl
  no-exports st j (y ∷ xs) h = rw (h.0, no-exports st (j + 1) xs h.1) refl

  kept-each : (x : Level) (j : ℕ) (xs : List Entry) → ((i : ℕ) (y : Entry) → slice_get xs i ≡ Some y → slice_get (list_of x) (j + i) ≡ Some y) → EachKept (marks (stack_at x)) (marks (expanded_at x)) j xs
  kept-each x j [] f = tt
  kept-each x j (y ∷ ys) f =
      let z : j + 0 ≡ j = omega arith in
      let q : slice_get (list_of x) j ≡ Some y = subst (λ n. slice_get (list_of x) n ≡ Some y) z (f 0 y refl) in
      (λ k o. λ r. subst (λ p. before r p (marks (stack_at x)) ≡ before r (written j) (marks (expanded_at x))) o ((at-told x.by x.kd x.id x.label x.ds x.gs x.st x.all j y q).1 r), kept-each x (j + 1) ys (λ i v w. ap (slice_get (list_of x)) (omega arith) ∙ f (suc i) v w))

  names_of-same : (x : Level) → names_of x.st (scope_at x) ≡ names_of (expand_stack x.gs x.st) (expand x.by (scope_at x))
  names_of-same x =
      let h : maps_in (marks (stack_at x)) (names_from 0 x.ds) all_spaces ≡ maps_in (marks (expanded_at x)) (names_from 0 (entry_defs (list_of x))) all_spaces =
      same-maps (marks (stack_at x)) (marks (expanded_at x)) (names_from 0 x.ds) (names_from 0 (entry_defs (list_of x)))
      (λ s. same-names (marks (stack_at x)) (marks (expanded_at x)) s x.by (scope_at x) (declares-expand x.by (scope_at x)) 0 0 x.ds (expand_exports x.by 0 x.ds) x.all.0.2.0 (exports-bare x.by 0 x.ds) (kept-each x 0 (list_of x) (λ i y q. ap (slice_get (list_of x)) (omega arith) ∙ q))) all_spaces in
      ap (λ m. record { component = own_name (scope_at x); maps = m }) h
      ∙ ap (λ n. record { component = n; maps = maps_in (marks (expanded_at x)) (names_from 0 (entry_defs (list_of x))) all_spaces }) (sym (name-given x.label x.id (given_to_scope x.by) x.all.0.2.2))

  form_names-same : (x : Level) (b : Bool) → form_names x.st (scope_at x) b ≡ map (made_in_text (list_of x)) (form_names (expand_stack x.gs x.st) (expand x.by (scope_at x)) b)
  form_names-same x false = refl
  form_names-same x true = ap (λ m. make name_section (custom_node (codes "component-name") (name_payload m)) ∷ []) (names_of-same x)

  built-same : (x : Level) → AllDistinct (declarations_from 0 x.ds)
      → (EachListed (In (list_of x)) (expand_defs x.by (scope_at x) 0 x.ds) → Seated (list_of x) 0 (expand_defs x.by (scope_at x) 0 x.ds) → form_defs e (stack_at x) 0 x.ds ≡ formed_at x 0 (expand_defs x.by (scope_at x) 0 x.ds))
      → built e x.st (scope_at x) ≡ map (made_in_text (list_of x)) (built e (expand_stack x.gs x.st) (expand x.by (scope_at x)))
  built-same x d f =
      let D : List Entry = expand_defs x.by (scope_at x) 0 x.ds in
      let X : List Entry = expand_exports x.by 0 x.ds in
      let v : Seated (list_of x) 0 (D ++ X) = seated-all x in
      let F : List Made = form_defs e (expanded_at x) 0 (entry_defs (list_of x)) in
      let w : List Made = form_names (expand_stack x.gs x.st) (expand x.by (scope_at x)) (has_names (expand x.by (scope_at x))) in
      let a : form_defs e (stack_at x) 0 x.ds ≡ formed_at x 0 D = f (each-left (In (list_of x)) D X (in-self (list_of x))) (seated-left (list_of x) 0 D X v) in
      let b : form_exports (stack_at x) 0 x.ds ≡ formed_at x (0 + length D) X =
      exports-same e x.by x.kd x.id x.label x.ds x.gs x.st x.all 0 (0 + length D) x.ds (exports-lead x.by x.kd x.id x.label x.ds x.gs x.st x.all d) (seated-right (list_of x) 0 D X v) in
      let h : has_names (expand x.by (scope_at x)) ≡ has_names (scope_at x) = expand-names x.by (scope_at x) x.all.0.2 in
      let n : form_exports (expanded_at x) 0 (entry_defs (list_of x)) ≡ [] = no-exports (expanded_at x) 0 (list_of x) (list-unexported x.by (scope_at x) x.ds x.ds x.all.0.2.0) in
      let g : form_names x.st (scope_at x) (has_names (scope_at x)) ≡ map (made_in_text (list_of x)) w = ap (form_names x.st (scope_at x)) (sym h) ∙ form_names-same x (has_names (expand x.by (scope_at x))) in
      let p : form_defs e (stack_at x) 0 x.ds ++ form_exports (stack_at x) 0 x.ds ≡ map (made_in_text (list_of x)) F = rw (a, b) (sym (formed-app e (list_of x) (expanded_at x) 0 D X)) in
      ap (λ y. form_defs e (stack_at x) 0 x.ds ++ (form_exports (stack_at x) 0 x.ds ++ y)) g
      ∙ sym (append_assoc (form_defs e (stack_at x) 0 x.ds) (form_exports (stack_at x) 0 x.ds) (map (made_in_text (list_of x)) w))
      ∙ ap (λ y. y ++ map (made_in_text (list_of x)) w) p
      ∙ sym (map-app (made_in_text (list_of x)) F w)
      ∙ ap (λ y. map (made_in_text (list_of x)) (F ++ (y ++ w))) (sym n)

  -- an inline node
  inline-form : (x : Level) (k u : ℕ) (s : Space) (y : Row) (ls : Leaves) (v : Option Origin) → reused (scope_at x ∷ []) k u y ls ≡ v → AllDistinct (declarations_from 0 x.ds) → declares_row y ls ≡ s ∷ []
      → InlineNamed x.by (scope_at x) k u v (LeavesNamed x.by (scope_at x) (inline_type k u) k (u + 1) ls) → InBoth x (expand_inline x.by (scope_at x) k u s y v (expand_leaves x.by (scope_at x) (inline_type k u) k (u + 1) ls))
      → (LeavesNamed x.by (scope_at x) (inline_type k u) k (u + 1) ls → InBoth x (expand_leaves x.by (scope_at x) (inline_type k u) k (u + 1) ls)
      → SameAt x (form_leaves e (stack_at x) k (u + 1) ls) (expand_leaves x.by (scope_at x) (inline_type k u) k (u + 1) ls).inlined (expand_leaves x.by (scope_at x) (inline_type k u) k (u + 1) ls).bundles (expand_leaves x.by (scope_at x) (inline_type k u) k (u + 1) ls).held (scope_in (expand_leaves x.by (scope_at x) (inline_type k u) k (u + 1) ls).here)
      (λ j w. HereAt x j w k (expand_leaves x.by (scope_at x) (inline_type k u) k (u + 1) ls).places (outward_leaves (expanded_at x) j w (expand_leaves x.by (scope_at x) (inline_type k u) k (u + 1) ls).here).needed (plan_leaves (expanded_at x) j w (expand_leaves x.by (scope_at x) (inline_type k u) k (u + 1) ls).here).needed)
      (λ j w. form_leaves e (expanded_at x) j w (expand_leaves x.by (scope_at x) (inline_type k u) k (u + 1) ls).here))
      → SameAt x (form_inline (stack_at x) k u s y v (form_leaves e (stack_at x) k (u + 1) ls)) (expand_inline x.by (scope_at x) k u s y v (expand_leaves x.by (scope_at x) (inline_type k u) k (u + 1) ls)).inlined (expand_inline x.by (scope_at x) k u s y v (expand_leaves x.by (scope_at x) (inline_type k u) k (u + 1) ls)).bundles
      (expand_inline x.by (scope_at x) k u s y v (expand_leaves x.by (scope_at x) (inline_type k u) k (u + 1) ls)).held (scope_in_leaf (expand_inline x.by (scope_at x) k u s y v (expand_leaves x.by (scope_at x) (inline_type k u) k (u + 1) ls)).here)
      (λ j w. HereAt x j w k (expand_inline x.by (scope_at x) k u s y v (expand_leaves x.by (scope_at x) (inline_type k u) k (u + 1) ls)).places (outward_leaf (expanded_at x) j w (expand_inline x.by (scope_at x) k u s y v (expand_leaves x.by (scope_at x) (inline_type k u) k (u + 1) ls)).here).needed (plan_leaf (expanded_at x) j w (expand_inline x.by (scope_at x) k u s y v (expand_leaves x.by (scope_at x) (inline_type k u) k (u + 1) ls)).here).needed)
      (λ j w. form_leaf e (expanded_at x) j w (expand_inline x.by (scope_at x) k u s y v (expand_leaves x.by (scope_at x) (inline_type k u) k (u + 1) ls)).here)
  inline-form x k u s y ls v q d w n i rec =
      let a : Expanded Leaves = expand_leaves x.by (scope_at x) (inline_type k u) k (u + 1) ls in
      inline-same e x.by x.kd x.id x.label x.ds x.gs x.st x.all k u s y ls v (LeavesNamed x.by (scope_at x) (inline_type k u) k (u + 1) ls) (form_leaves e (stack_at x) k (u + 1) ls) a _ w n
      (λ o h m. again-leads x.by x.kd x.id x.label x.ds x.gs x.st x.all k u y ls o s d (q ∙ h) m w)
      (λ h m. let z : Entry = entry (inline_type k u) (generated_names (given x.by (inline_type k u))) y a in
      own-leads x.by x.kd x.id x.label x.ds x.gs x.st x.all (inline_type k u) y a (given x.by (inline_type k u)) s (each-right (In (list_of x)) a.bundles (z ∷ []) (each-right (In (list_of x)) a.inlined (a.bundles ++ z ∷ []) (fresh v h i).0)).0 m.0 (declares-expand x.by (scope_at x) (inline_type k u) k (u + 1) y ls ∙ w))
      (λ h m. let z : Entry = entry (inline_type k u) (generated_names (given x.by (inline_type k u))) y a in
      let j : EachListed (In (list_of x)) (a.inlined ++ (a.bundles ++ z ∷ [])) = (fresh v h i).0 in
      rec m (each-left (In (list_of x)) a.inlined (a.bundles ++ z ∷ []) j, each-left (In (list_of x)) a.bundles (z ∷ []) (each-right (In (list_of x)) a.inlined (a.bundles ++ z ∷ []) j)))
      (λ m z q h. entry-here x k m z q h)
    where
      fresh : (o : Option Origin) → o ≡ None → InBoth x (expand_inline x.by (scope_at x) k u s y o (expand_leaves x.by (scope_at x) (inline_type k u) k (u + 1) ls)) → InBoth x (expand_inline x.by (scope_at x) k u s y None (expand_leaves x.by (scope_at x) (inline_type k u) k (u + 1) ls))
      fresh None h j = j
      fresh (Some p) h j = absurd (cc)

  mutual
    form-leaves : (x : Level) (o : Origin) (k u : ℕ) (ls : Leaves) → AllDistinct (declarations_from 0 x.ds) → LeavesRowed ls → LeavesOfText ls → LeavesNamed x.by (scope_at x) o k u ls → RuleOfLeaves e (stack_at x) ls → InBoth x (expand_leaves x.by (scope_at x) o k u ls)
        → SameAt x (form_leaves e (stack_at x) k u ls) (expand_leaves x.by (scope_at x) o k u ls).inlined (expand_leaves x.by (scope_at x) o k u ls).bundles (expand_leaves x.by (scope_at x) o k u ls).held (scope_in (expand_leaves x.by (scope_at x) o k u ls).here)
        (λ j w. HereAt x j w k (expand_leaves x.by (scope_at x) o k u ls).places (outward_leaves (expanded_at x) j w (expand_leaves x.by (scope_at x) o k u ls).here).needed (plan_leaves (expanded_at x) j w (expand_leaves x.by (scope_at x) o k u ls).here).needed)
        (λ j w. form_leaves e (expanded_at x) j w (expand_leaves x.by (scope_at x) o k u ls).here)
    form-leaves x o k u no_leaf d w t n r i = plain-at x no_leaf _
    form-leaves x o k u (l ▸ ls) d w t n r i =
        let a : Expanded Leaf = expand_leaf x.by (scope_at x) o k u l in
        let b : Expanded Leaves = expand_leaves x.by (scope_at x) o k (u + references_leaf l) ls in
        alike-both e (list_of x) (expanded_at x) (λ y ys. y ▸ ys) (form_leaf e (stack_at x) k u l) (form_leaves e (stack_at x) k (u + references_leaf l) ls)
        a.inlined a.bundles b.inlined b.bundles a.held b.held (scope_in_leaf a.here) (scope_in b.here)
        (λ j v. HereAt x j v k a.places (outward_leaf (expanded_at x) j v a.here).needed (plan_leaf (expanded_at x) j v a.here).needed)
        (λ j v. HereAt x j v k b.places (outward_leaves (expanded_at x) j v b.here).needed (plan_leaves (expanded_at x) j v b.here).needed)
        _
        (λ j v. form_leaf e (expanded_at x) j v a.here) (λ j v. form_leaves e (expanded_at x) j v b.here) (references_leaf a.here)
        (λ j v q. here-left e x.by x.kd x.id x.label x.ds x.gs x.st x.all j v k a.places b.places (outward_leaf (expanded_at x) j v a.here).needed (outward_leaves (expanded_at x) j (v + references_leaf a.here) b.here).needed (plan_leaf (expanded_at x) j v a.here).needed (plan_leaves (expanded_at x) j (v + references_leaf a.here) b.here).needed q)
        (λ j v q. here-right e x.by x.kd x.id x.label x.ds x.gs x.st x.all j v k (references_leaf a.here) a.places b.places (outward_leaf (expanded_at x) j v a.here).needed (outward_leaves (expanded_at x) j (v + references_leaf a.here) b.here).needed (plan_leaf (expanded_at x) j v a.here).needed (plan_leaves (expanded_at x) j (v + references_leaf a.here) b.here).needed (leaf-places x.by (scope_at x) o k u l) q)
        (form-leaf x o k u l d w.1 t.0 n.0 r.0 (each-left (In (list_of x)) a.inlined b.inlined i.0, each-left (In (list_of x)) a.bundles b.bundles i.1))
        (form-leaves x o k (u + references_leaf l) ls d w.2 t.1 n.1 r.1 (each-right (In (list_of x)) a.inlined b.inlined i.0, each-right (In (list_of x)) a.bundles b.bundles i.1))

    form-leaf : (x : Level) (o : Origin) (k u : ℕ) (l : Leaf) → AllDistinct (declarations_from 0 x.ds) → LeafRowed l → LeafOfText l → LeafNamed x.by (scope_at x) o k u l → RuleOfLeaf e (stack_at x) l → InBoth x (expand_leaf x.by (scope_at x) o k u l)
        → SameAt x (form_leaf e (stack_at x) k u l) (expand_leaf x.by (scope_at x) o k u l).inlined (expand_leaf x.by (scope_at x) o k u l).bundles (expand_leaf x.by (scope_at x) o k u l).held (scope_in_leaf (expand_leaf x.by (scope_at x) o k u l).here)
        (λ j w. HereAt x j w k (expand_leaf x.by (scope_at x) o k u l).places (outward_leaf (expanded_at x) j w (expand_leaf x.by (scope_at x) o k u l).here).needed (plan_leaf (expanded_at x) j w (expand_leaf x.by (scope_at x) o k u l).here).needed)
        (λ j w. form_leaf e (expanded_at x) j w (expand_leaf x.by (scope_at x) o k u l).here)
    form-leaf x o k u (core_value v) d w t n r i = value-same e x.by x.kd x.id x.label x.ds x.gs x.st x.all k u v t
    form-leaf x o k u (ref s (numeral a m)) d w t n r i = plain-at x (ref s (index m)) _
    form-leaf x o k u (ref s (name q y)) d w t n r i =
        alike-as e (list_of x) (expanded_at x) (λ m. ref s (index m)) (form_name (stack_at x) k u s (leads_out q (denotes (stack_at x) s q y)) (denotes (stack_at x) s q y)) [] [] nothing_inside None _
        (λ j w. form_name (expanded_at x) j w s (leads_out q (denotes (expanded_at x) s q y)) (denotes (expanded_at x) s q y)) (name-same e x.by x.kd x.id x.label x.ds x.gs x.st x.all k u s q y t.0 t.1)
    form-leaf x o k u (ref s (path p)) d w t n r i = whole_path-same e x.by x.kd x.id x.label x.ds x.gs x.st x.all k u s p t
    form-leaf x o k u (ref s (inline (row y ls))) d w t n r i = inline-form x k u s y ls (reused (scope_at x ∷ []) k u y ls) refl d w.0 n i (λ m j. form-leaves x (inline_type k u) k (u + 1) ls d w.1 t m r j)
    form-leaf x o k u (ref s (bundle (row y ls))) d w t n r i =
        let a : Expanded Leaves = expand_leaves x.by (scope_at x) (bundle_of k u) k (u + 1) ls in
        let z : Entry = entry (bundle_of k u) (generated_names (given x.by (bundle_of k u))) y a in
        bundle-same e x.by x.kd x.id x.label x.ds x.gs x.st x.all k u s y ls (form_leaves e (stack_at x) k (u + 1) ls) a _ w.0
        (own-leads x.by x.kd x.id x.label x.ds x.gs x.st x.all (bundle_of k u) y a (given x.by (bundle_of k u)) s (each-right (In (list_of x)) a.bundles (z ∷ []) i.1).0 n.0 (declares-expand x.by (scope_at x) (bundle_of k u) k (u + 1) y ls ∙ w.0))
        (form-leaves x (bundle_of k u) k (u + 1) ls d w.1 t n.1 r (i.0, each-left (In (list_of x)) a.bundles (z ∷ []) i.1)) (λ m v q h. entry-here x k m v q h)
    form-leaf x o k u (ref s (index m)) d w t n r i = absurd w
    form-leaf x o k u (place p) d w t n r i = rw (place-same e x.by x.kd x.id x.label x.ds x.gs x.st x.all p t) (plain-at x (place (form_place (expanded_at x) p)) _)
    form-leaf x o k u (present l) d w t n r i = alike-as e (list_of x) (expanded_at x) present (form_leaf e (stack_at x) k u l) _ _ _ _ _ (λ j v. form_leaf e (expanded_at x) j v (expand_leaf x.by (scope_at x) o k u l).here) (form-leaf x o k u l d w t n r i)
    form-leaf x o k u (node (row y ls)) d w t n r i = alike-as e (list_of x) (expanded_at x) (λ bs. node (row y bs)) (form_leaves e (stack_at x) k u ls) _ _ _ _ _ (λ j v. form_leaves e (expanded_at x) j v (expand_leaves x.by (scope_at x) o k u ls).here) (form-leaves x o k u ls d w t n r i)
    form-leaf x o k u (nodes ns) d w t n r i = alike-as e (list_of x) (expanded_at x) nodes (form_nodes e (stack_at x) k u ns) _ _ _ _ _ (λ j v. form_nodes e (expanded_at x) j v (expand_nodes x.by (scope_at x) o k u ns).here) (form-nodes x o k u ns d w t n r.1 i)
    form-leaf x o k u (scope (scope_of kd id label ds)) d w t n r i =
        scope-same x kd (first_of_two id (given_to_scope (inside x.by o))) label (expand_list (inside x.by o) (scope_of kd id label ds)) _ _ _ (built-same (inner x o kd id label ds w t n) r.0 (λ q v. form-defs (inner x o kd id label ds w t n) 0 0 ds r.0 w t.1 n.0 r.1 q v))
    form-leaf x o k u (text y) d w t n r i = plain-at x (text y) _
    form-leaf x o k u (number y) d w t n r i = plain-at x (number y) _
    form-leaf x o k u (kind y) d w t n r i = plain-at x (kind y) _
    form-leaf x o k u absent d w t n r i = plain-at x absent _
    form-leaf x o k u (case_id y) d w t n r i = plain-at x (case_id None) _
    form-leaf x o k u (result_ids y) d w t n r i = plain-at x (result_count (length y)) _
    form-leaf x o k u (result_count y) d w t n r i = absurd w
    form-leaf x o k u (core_source y) d w t n r i = plain-at x (module_bytes (e.core_bytes y)) _
    form-leaf x o k u (module_bytes y) d w t n r i = absurd w

    form-nodes : (x : Level) (o : Origin) (k u : ℕ) (ns : Nodes) → AllDistinct (declarations_from 0 x.ds) → NodesRowed ns → NodesOfText ns → NodesNamed x.by (scope_at x) o k u ns → RuleOfNodes e (stack_at x) ns → InBoth x (expand_nodes x.by (scope_at x) o k u ns)
        → SameAt x (form_nodes e (stack_at x) k u ns) (expand_nodes x.by (scope_at x) o k u ns).inlined (expand_nodes x.by (scope_at x) o k u ns).bundles (expand_nodes x.by (scope_at x) o k u ns).held (scope_in_nodes (expand_nodes x.by (scope_at x) o k u ns).here)
        (λ j w. HereAt x j w k (expand_nodes x.by (scope_at x) o k u ns).places (outward_nodes (expanded_at x) j w (expand_nodes x.by (scope_at x) o k u ns).here).needed (plan_nodes (expanded_at x) j w (expand_nodes x.by (scope_at x) o k u ns).here).needed)
        (λ j w. form_nodes e (expanded_at x) j w (expand_nodes x.by (scope_at x) o k u ns).here)
    form-nodes x o k u no_node d w t n r i = plain-at x no_node _
    form-nodes x o k u (one_node (row y ls) ns) d w t n r i =
        let a : Expanded Leaves = expand_leaves x.by (scope_at x) o k u ls in
        let b : Expanded Nodes = expand_nodes x.by (scope_at x) o k (u + references ls) ns in
        alike-both e (list_of x) (expanded_at x) (λ bs cs. one_node (row y bs) cs) (form_leaves e (stack_at x) k u ls) (form_nodes e (stack_at x) k (u + references ls) ns)
        a.inlined a.bundles b.inlined b.bundles a.held b.held (scope_in a.here) (scope_in_nodes b.here)
        (λ j v. HereAt x j v k a.places (outward_leaves (expanded_at x) j v a.here).needed (plan_leaves (expanded_at x) j v a.here).needed)
        (λ j v. HereAt x j v k b.places (outward_nodes (expanded_at x) j v b.here).needed (plan_nodes (expanded_at x) j v b.here).needed)
        _
        (λ j v. form_leaves e (expanded_at x) j v a.here) (λ j v. form_nodes e (expanded_at x) j v b.here) (references a.here)
        (λ j v q. here-left e x.by x.kd x.id x.label x.ds x.gs x.st x.all j v k a.places b.places (outward_leaves (expanded_at x) j v a.here).needed (outward_nodes (expanded_at x) j (v + references a.here) b.here).needed (plan_leaves (expanded_at x) j v a.here).needed (plan_nodes (expanded_at x) j (v + references a.here) b.here).needed q)
        (λ j v q. here-right e x.by x.kd x.id x.label x.ds x.gs x.st x.all j v k (references a.here) a.places b.places (outward_leaves (expanded_at x) j v a.here).needed (outward_nodes (expanded_at x) j (v + references a.here) b.here).needed (plan_leaves (expanded_at x) j v a.here).needed (plan_nodes (expanded_at x) j (v + references a.here) b.here).needed (leaves-places x.by (scope_at x) o k u ls) q)
        (form-leaves x o k u ls d w.1 t.0 n.0 r.0 (each-left (In (list_of x)) a.inlined b.inlined i.0, each-left (In (list_of x)) a.bundles b.bundles i.1))
        (form-nodes x o k (u + references ls) ns d w.2 t.1 n.1 r.1 (each-right (In (list_of x)) a.inlined b.inlined i.0, each-right (In (list_of x)) a.bundles b.bundles i.1))

    form-defs : (x : Level) (k j : ℕ) (ds : Defs) → AllDistinct (declarations_from 0 x.ds) → DefsRowed ds → DefsOfText ds → DefsNamed x.by (scope_at x) k ds → RuleOfDefs e (stack_at x) ds → EachListed (In (list_of x)) (expand_defs x.by (scope_at x) k ds)
        → Seated (list_of x) j (expand_defs x.by (scope_at x) k ds) → form_defs e (stack_at x) k ds ≡ formed_at x j (expand_defs x.by (scope_at x) k ds)
    form-defs x k j no_def d w t n r i v = refl
    form-defs x k j (one_def (define ns (row y ls)) ds) d w t n r i v =
        let a : Expanded Leaves = expand_leaves x.by (scope_at x) (written k) k 0 ls in
        let z : Entry = entry (written k) (given_names ns (given x.by (written k))) y a in
        let is : List Entry = expand_one (written k) (given_names ns (given x.by (written k))) y a in
        let m : ℕ = j + length is in
        let f : EachListed (In (list_of x)) is = each-left (In (list_of x)) is (expand_defs x.by (scope_at x) (k + 1) ds) i in
        let p : form_defs e (stack_at x) (k + 1) ds ≡ formed_at x m (expand_defs x.by (scope_at x) (k + 1) ds) =
        form-defs x (k + 1) m ds d w.4 t.2 n.3 r.1 (each-right (In (list_of x)) is (expand_defs x.by (scope_at x) (k + 1) ds) i) (seated-right (list_of x) j is (expand_defs x.by (scope_at x) (k + 1) ds) v) in
        rw (
          alike-one e (list_of x) (expanded_at x) (form_leaves e (stack_at x) k 0 ls) (λ j w. HereAt x j w k a.places (outward_leaves (expanded_at x) j w a.here).needed (plan_leaves (expanded_at x) j w a.here).needed)
              (written k) (given_names ns (given x.by (written k))) y a (coded_node e y ls) j
              (form-leaves x (written k) k 0 ls d w.3 t.1 n.2 r.0 (each-left (In (list_of x)) a.inlined (a.bundles ++ z ∷ []) f, each-left (In (list_of x)) a.bundles (z ∷ []) (each-right (In (list_of x)) a.inlined (a.bundles ++ z ∷ []) f)))
              (λ bs. coded-same e x.by x.kd x.id x.label x.ds x.gs x.st x.all (written k) k 0 y ls bs w.2) (λ i q. entry-here x k i z q.0 refl)
              (seated-left (list_of x) j is (expand_defs x.by (scope_at x) (k + 1) ds) v),
          p,
        ) (sym (formed-app e (list_of x) (expanded_at x) j is (expand_defs x.by (scope_at x) (k + 1) ds)))

  -- what is built
  pub built-expand : (x : Level) → ScopeRule e x.st (scope_at x) → built e x.st (scope_at x) ≡ map (made_in_text (list_of x)) (built e (expand_stack x.gs x.st) (expand x.by (scope_at x)))
  built-expand x r = built-same x r.0 (λ q v. form-defs x 0 0 x.ds r.0 x.all.0.0 x.all.0.1.1 x.all.0.2.0 r.1 q v)
