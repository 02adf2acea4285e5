-- The marks of a scope stand in its expanded list in the same order.
use Rattle.std.proofs.Common.{◌≡◌, ℕ, zero, suc, ◌+◌, inl, inr, Bool, true, false, List, [], ◌∷◌, ◌++◌, length, map, slice_get, Option, Some, None, option_map, refl, sym, ◌∙◌, ap, subst, arith}
use Rattle.std.proofs.lemmas.List.{append_assoc}
use Rattle.comp_model.specs.declared.Space.{Space}
use Rattle.comp_model.specs.declared.Space.TheVariants.{CoreType}
use Rattle.comp_model.specs.declared.row.Row.{Row}
use Rattle.comp_model.specs.Core.{Text, Id, Reach, ref_name}
use Rattle.comp_model.specs.Model.{Leaf, core_value, ref, present, node, nodes, scope, name, Path, root_number, root_name, export_of, path, inline, bundle, Leaves, no_leaf, ◌▸◌, row, Nodes, no_node, one_node, define, Defs, no_def, one_def, Scope, scope_of}
use Rattle.comp_model.specs.declared.row.ScopeKind.{ScopeKind}
use Rattle.comp_model.specs.Spaces.{declares_row}
use Rattle.comp_model.specs.Origins.{Origin, written, inline_type, bundle_of, outer_alias_of}
use Rattle.comp_scopes.specs.Names.{Denoted, denotes}
use Rattle.comp_scopes.specs.References.{references, references_leaf}
use Rattle.comp_scopes.specs.Outward.{Planned, plan_nothing, plan_own, plan_inline, leads_out, served, plan_bundle, Outward, outward_name, outward_leaves, outward_leaf, outward_nodes, outward_defs, outward_names}
use Rattle.comp_scopes.specs.Reused.{reused}
use Rattle.comp_scopes.specs.Rowed.{LeavesRowed, LeafRowed, NodesRowed, DefsRowed}
use Rattle.comp_expanded.specs.Expansion.{Naming, given, the_id, generated_reach, id_of_mark, generated_names, given_names, Entry, entry_defs, Expanded, entry, expand_inline, expand_leaves, expand_leaf, expand_nodes, expand_defs, expand_exports_of, expand_exports, expand_list, first_id, expand}
use Rattle.comp_expanded.specs.TextNumbers.{mark_in_text}
use Rattle.comp_expanded.specs.OfText.{LeavesOfText, LeafOfText, NodesOfText, DefsOfText}
use Rattle.comp_expanded.specs.Named.{InlineNamed, LeavesNamed, LeafNamed, NodesNamed, DefsNamed}
use Rattle.comp_expanded.proofs.Stacks.{expand_stack, AllNamed}
use Rattle.comp_expanded.proofs.Parts.{declares-expand}
use Rattle.comp_expanded.proofs.Ids.{EachListed, each-left, each-right, no_exports, Unexported, list-unexported}
use Rattle.comp_expanded.proofs.Ready.{In, in-self, Seated, seated-left, seated-right, seated-self}
use Rattle.comp_expanded.proofs.NamingExpands.{named-any}
use Rattle.comp_expanded.proofs.Answers.{Answers, denoted-answers}
use Rattle.comp_scopes.proofs.EachOf.{EachOf}
use Rattle.comp_expanded.proofs.OutKept.{leads-same, leads-none, first-near}
use Rattle.comp_model.specs.ItemNames.{has_names}
use Rattle.comp_expanded.proofs.ScopeOf.{expand-names}
use Rattle.comp_expanded.proofs.Serve.{Among}
use Rattle.comp_scopes.proofs.Lookup.{some-same}
use Rattle.comp_scopes.specs.References.{steps, instance_space}
use Rattle.comp_scopes.specs.Plan.{Mark, mark, plan_one, plan_alias, plan_name, plan_path, plan_leaves, plan_leaf, plan_nodes, plan_defs, export_marks_of, export_marks, name_marks, marks}
use Rattle.comp_expanded.proofs.Pairs.{Pairs, pairs-app, at-origin, step-told, AtPlace, alias-told, leaf-places, leaves-places, told, told-app, Same, same-plain, same-both, same-one, same-inline, same-bundle}
use Rattle.comp_expanded.proofs.Near.{Near, Leads, own-near, again-near}
use Rattle.comp_expanded.proofs.ScopeOf.{def_at, OfFirst}

module _ (g : Naming) (kd : ScopeKind) (id : Option Id) (label : Option Text) (ds : Defs) (gs : List Naming) (st : List Scope)
    (all : AllNamed (g ∷ gs) (scope_of kd id label ds ∷ st))
    (serves : (k u j w : ℕ) (s : Space) (d e : Denoted) → mark_in_text (expand_list g (scope_of kd id label ds)) (outer_alias_of j w) ≡ outer_alias_of k u → Among (outward_names (expand_stack (g ∷ gs) (scope_of kd id label ds ∷ st))) (outer_alias_of j w)
    → Answers (g ∷ gs) (scope_of kd id label ds ∷ st) (Some d) (Some e) → served (scope_of kd id label ds ∷ st) k u s d ≡ option_map (mark_in_text (expand_list g (scope_of kd id label ds))) (served (expand_stack (g ∷ gs) (scope_of kd id label ds ∷ st)) j w s e)) where
  abbrev c : Scope
  c = scope_of kd id label ds

  abbrev L : List Entry
  L = expand_list g c

  abbrev su : List Scope
  su = expand_stack (g ∷ gs) (c ∷ st)

  -- a mark of the text and the one that stands for it in the list
  abbrev pub MarkPair : Mark → Mark → Type 0
  MarkPair m n = (mark_in_text L n.origin ≡ m.origin) × (n.spaces ≡ m.spaces)

  abbrev list_plan : ℕ → ℕ → Leaves → Planned Mark
  list_plan = plan_leaves su

  abbrev own_mark : ℕ → Entry → List Mark
  own_mark j x = mark (written j) (declares_row x.head x.leaves) ∷ []

  -- a name of the list that leads out is among these
  abbrev Led : Outward → Type 0
  Led w = Among (outward_names su) w.origin

  abbrev leads : ℕ → ℕ → Leaves → List Outward
  leads j w ls = (outward_leaves su j w ls).needed

  among-left : (xs ys : List Outward) (o : Origin) → Among xs o → Among (xs ++ ys) o
  among-left [] ys o h = absurd h
  among-left (x ∷ xs) ys o (inl e) = inl e
  among-left (x ∷ xs) ys o (inr h) = inr (among-left xs ys o h)

  among-right : (xs ys : List Outward) (o : Origin) → Among ys o → Among (xs ++ ys) o
  among-right [] ys o h = h
  among-right (x ∷ xs) ys o h = inr (among-right xs ys o h)

  each-among : (vs xs : List Outward) → ((o : Origin) → Among xs o → Among vs o) → EachOf (λ (w : Outward). Among vs w.origin) xs
  each-among vs [] f = tt
  each-among vs (x ∷ xs) f = (f x.origin (inl refl), each-among vs xs (λ o h. f o (inr h)))

  led-at : (j n : ℕ) (xs : List Entry) (x : Entry) → slice_get xs n ≡ Some x → (o : Origin) → Among (outward_leaves su (j + n) 0 x.leaves).needed o → Among (outward_defs su j (entry_defs xs)) o
  led-at j n [] x e o h = absurd (cc)
  led-at j zero (y ∷ xs) x e o h =
      let q : y ≡ x = some-same y x e in
      let z : j + zero ≡ j = omega arith in
      let p : Planned Outward = outward_leaves su j 0 y.leaves in
      let h' : Among p.needed o = subst (λ (v : Entry). Among (outward_leaves su j 0 v.leaves).needed o) (sym q) (subst (λ i. Among (outward_leaves su i 0 x.leaves).needed o) z h) in
      among-left (plan_own p []) (outward_defs su (j + 1) (entry_defs xs)) o (among-right p.inlined (p.bundles ++ (p.needed ++ [])) o (among-right p.bundles (p.needed ++ []) o (among-left p.needed [] o h')))
  led-at j (suc n) (y ∷ xs) x e o h =
      let z : j + suc n ≡ j + 1 + n = omega arith in
      among-right (plan_own (outward_leaves su j 0 y.leaves) []) (outward_defs su (j + 1) (entry_defs xs)) o (led-at (j + 1) n xs x e o (subst (λ i. Among (outward_leaves su i 0 x.leaves).needed o) z h))

  pub all-led : (n : ℕ) (x : Entry) → slice_get L n ≡ Some x → EachOf Led (leads n 0 x.leaves)
  all-led n x e =
      let z : 0 + n ≡ n = omega arith in
      each-among (outward_names su) (outward_leaves su n 0 x.leaves).needed (λ o h. led-at 0 n L x e o (subst (λ i. Among (outward_leaves su i 0 x.leaves).needed o) (sym z) h))

  abbrev At1 : ℕ → ℕ → ℕ → List ℕ → List Outward → Type 0
  At1 j w k ps ms = AtPlace L j w k ps × EachOf Led ms

  abbrev S : Planned Mark → List Entry → List Entry → (ℕ → ℕ → Type 0) → (ℕ → ℕ → Planned Mark) → Type 0
  S = Same Mark MarkPair L list_plan own_mark Outward Led leads all-led

  -- an alias has its mark in both or in neither
  alias-pair : (k u : ℕ) (s : Space) (a : Option Origin) (T : ℕ → ℕ → Type 0) (f : ℕ → ℕ → Option Origin) → ((j w : ℕ) → T j w → (a ≡ option_map (mark_in_text L) (f j w)) × (mark_in_text L (outer_alias_of j w) ≡ outer_alias_of k u))
      → S (plan_alias k u s a) [] [] T (λ j w. plan_alias j w s (f j w))
  alias-pair k u s a T f h = (λ j t. inlined-none a, λ j t. bundles-none a, λ j w t. needed j w a (f j w) (h j w t).0 (h j w t).1, λ j w. plain j w (f j w))
    where
      inlined-none : (v : Option Origin) → Pairs Mark MarkPair (plan_alias k u s v).inlined []
      inlined-none (Some q) = tt
      inlined-none None = tt

      bundles-none : (v : Option Origin) → Pairs Mark MarkPair (plan_alias k u s v).bundles []
      bundles-none (Some q) = tt
      bundles-none None = tt

      needed : (j w : ℕ) (v x : Option Origin) → v ≡ option_map (mark_in_text L) x → mark_in_text L (outer_alias_of j w) ≡ outer_alias_of k u → Pairs Mark MarkPair (plan_alias k u s v).needed (plan_alias j w s x).needed
      needed j w None None e t = ((t, refl), tt)
      needed j w None (Some q) e t = absurd (cc)
      needed j w (Some p) None e t = absurd (cc)
      needed j w (Some p) (Some q) e t = tt

      plain : (j w : ℕ) (x : Option Origin) → ((plan_alias j w s x).inlined ≡ []) × ((plan_alias j w s x).bundles ≡ [])
      plain j w None = (refl, refl)
      plain j w (Some q) = (refl, refl)

  name-pair : (k u : ℕ) (s : Space) (r : Reach) (a b : Option Denoted) → Answers (g ∷ gs) (c ∷ st) a b
      → S (plan_name (c ∷ st) k u s (leads_out r a) a) [] [] (λ j w. At1 j w k (u ∷ []) (outward_name j w s (leads_out r b) b).needed) (λ j w. plan_name su j w s (leads_out r b) b)
  name-pair k u s r None None h = rw (leads-none r) (same-plain Mark MarkPair L list_plan own_mark Outward Led leads all-led _)
  name-pair k u s r None (Some e) h = absurd h
  name-pair k u s r (Some d) None h = absurd h
  name-pair k u s r (Some d) (Some e) h = rw (leads-same r d e h.0) (go (leads_out r (Some d)))
    where
      go : (q : Bool) → S (plan_name (c ∷ st) k u s q (Some d)) [] [] (λ j w. At1 j w k (u ∷ []) (outward_name j w s q (Some e)).needed) (λ j w. plan_name su j w s q (Some e))
      go true = alias-pair k u s (served (c ∷ st) k u s d) _ (λ j w. served su j w s e) (λ j w t. (serves k u j w s d e (alias-told L j w k u t.0) t.1.0 h, alias-told L j w k u t.0))
      go false = same-plain Mark MarkPair L list_plan own_mark Outward Led leads all-led _

  -- a path
  path-pair : (j w k u : ℕ) (s : Space) (p : Path) → AtPlace L j w k (u ∷ []) → Pairs Mark MarkPair (plan_path k u s p) (plan_path j w s p)
  path-pair j w k u s (root_number o n) t = tt
  path-pair j w k u s (root_name x) t = tt
  path-pair j w k u s (export_of p v) t = pairs-app Mark MarkPair (plan_path k u (instance_space s) p) (plan_path j w (instance_space s) p) _ _ (path-pair j w k u (instance_space s) p t) ((step-told L j w k u (steps p) t, refl), tt)

  -- the mark of a definition
  own-pair : (o : Origin) (t : Row) (ls : Leaves) (x : Entry) → x.origin ≡ o → declares_row x.head x.leaves ≡ declares_row t ls → (m : ℕ) → slice_get L m ≡ Some x → Pairs Mark MarkPair (mark o (declares_row t ls) ∷ []) (own_mark m x)
  own-pair o t ls x e d m q = (((at-origin L m x q).0 ∙ e, d), tt)

  near-pair : (s : Space) (x : Id) (T : ℕ → ℕ → Type 0) → Near g kd id label ds gs st all s x → S plan_nothing [] [] T (λ j w. plan_leaf su j w (ref s (name (generated_reach c) x)))
  near-pair s x T h = rw h (same-plain Mark MarkPair L list_plan own_mark Outward Led leads all-led T)

  abbrev InBoth : {H : Type 0} → Expanded H → Type 0
  InBoth a = EachListed (In L) a.inlined × EachListed (In L) a.bundles

  inline-pair : (k u : ℕ) (s : Space) (t : Row) (ls : Leaves) (r : Option Origin) (P : Type 0) (p : Planned Mark) (a : Expanded Leaves) → reused (c ∷ []) k u t ls ≡ r → declares_row t ls ≡ s ∷ [] → declares_row t a.here ≡ s ∷ []
      → InlineNamed g c k u r P → InBoth (expand_inline g c k u s t r a) → (P → InBoth a → S p a.inlined a.bundles (λ j w. At1 j w k a.places (leads j w a.here)) (λ j w. plan_leaves su j w a.here))
      → S (plan_inline r p (mark (inline_type k u) (declares_row t ls) ∷ [])) (expand_inline g c k u s t r a).inlined (expand_inline g c k u s t r a).bundles (λ j w. At1 j w k (expand_inline g c k u s t r a).places (outward_leaf su j w (expand_inline g c k u s t r a).here).needed) (λ j w. plan_leaf su j w (expand_inline g c k u s t r a).here)
  inline-pair k u s t ls (Some o) P p a e d d' n i f = near-pair s (id_of_mark g c o) _ (again-near g kd id label ds gs st all k u t ls o s e (named-any g c k u o P n) d)
  inline-pair k u s t ls None P p a e d d' n i f =
      let x : Entry = entry (inline_type k u) (generated_names (given g (inline_type k u))) t a in
      let b : EachListed (In L) (a.bundles ++ x ∷ []) = each-right (In L) a.inlined (a.bundles ++ x ∷ []) i.0 in
      let h : Near g kd id label ds gs st all s (the_id (given g (inline_type k u))) = own-near g kd id label ds gs st all (inline_type k u) t a (given g (inline_type k u)) s (each-right (In L) a.bundles (x ∷ []) b).0 n.0 d' in
      let y : S p a.inlined a.bundles (λ j w. At1 j w k a.places (leads j w a.here)) (λ j w. plan_leaves su j w a.here) = f n.1 (each-left (In L) a.inlined (a.bundles ++ x ∷ []) i.0, each-left (In L) a.bundles (x ∷ []) b) in
      rw h (same-inline Mark MarkPair L list_plan own_mark Outward Led leads all-led p a.inlined a.bundles k x (mark (inline_type k u) (declares_row t ls) ∷ []) _ refl y (own-pair (inline_type k u) t ls x refl (d' ∙ sym d)))

  bundle-pair : (k u : ℕ) (s : Space) (t : Row) (ls : Leaves) (p : Planned Mark) (a : Expanded Leaves) (T : ℕ → ℕ → Type 0) → declares_row t a.here ≡ declares_row t ls → Near g kd id label ds gs st all s (the_id (given g (bundle_of k u)))
      → S p a.inlined a.bundles (λ j w. At1 j w k a.places (leads j w a.here)) (λ j w. plan_leaves su j w a.here)
      → S (plan_bundle p (mark (bundle_of k u) (declares_row t ls) ∷ [])) a.inlined (a.bundles ++ entry (bundle_of k u) (generated_names (given g (bundle_of k u))) t a ∷ []) T (λ j w. plan_leaf su j w (ref s (name (generated_reach c) (the_id (given g (bundle_of k u))))))
  bundle-pair k u s t ls p a T d h y = rw h (same-bundle Mark MarkPair L list_plan own_mark Outward Led leads all-led p a.inlined a.bundles k (entry (bundle_of k u) (generated_names (given g (bundle_of k u))) t a) (mark (bundle_of k u) (declares_row t ls) ∷ []) T refl y (own-pair (bundle_of k u) t ls _ refl d))

  mutual
    pub mark-leaves : (o : Origin) (k u : ℕ) (ls : Leaves) → LeavesRowed ls → LeavesOfText ls → LeavesNamed g c o k u ls → InBoth (expand_leaves g c o k u ls)
        → S (plan_leaves (c ∷ st) k u ls) (expand_leaves g c o k u ls).inlined (expand_leaves g c o k u ls).bundles (λ j w. At1 j w k (expand_leaves g c o k u ls).places (outward_leaves su j w (expand_leaves g c o k u ls).here).needed) (λ j w. plan_leaves su j w (expand_leaves g c o k u ls).here)
    mark-leaves o k u no_leaf w t n i = same-plain Mark MarkPair L list_plan own_mark Outward Led leads all-led _
    mark-leaves o k u (l ▸ ls) w t n i =
        let a : Expanded Leaf = expand_leaf g c o k u l in
        let b : Expanded Leaves = expand_leaves g c o k (u + references_leaf l) ls in
        same-both Mark MarkPair L list_plan own_mark Outward Led leads all-led (plan_leaf (c ∷ st) k u l) (plan_leaves (c ∷ st) k (u + references_leaf l) ls) a.inlined a.bundles b.inlined b.bundles k (references_leaf a.here) a.places b.places (λ j w. (outward_leaf su j w a.here).needed) (λ j w. (outward_leaves su j w b.here).needed)
        (λ j w. plan_leaf su j w a.here) (λ j w. plan_leaves su j w b.here) (leaf-places g c o k u l)
        (mark-leaf o k u l w.1 t.0 n.0 (each-left (In L) a.inlined b.inlined i.0, each-left (In L) a.bundles b.bundles i.1))
        (mark-leaves o k (u + references_leaf l) ls w.2 t.1 n.1 (each-right (In L) a.inlined b.inlined i.0, each-right (In L) a.bundles b.bundles i.1))

    mark-leaf : (o : Origin) (k u : ℕ) (l : Leaf) → LeafRowed l → LeafOfText l → LeafNamed g c o k u l → InBoth (expand_leaf g c o k u l)
        → S (plan_leaf (c ∷ st) k u l) (expand_leaf g c o k u l).inlined (expand_leaf g c o k u l).bundles (λ j w. At1 j w k (expand_leaf g c o k u l).places (outward_leaf su j w (expand_leaf g c o k u l).here).needed) (λ j w. plan_leaf su j w (expand_leaf g c o k u l).here)
    mark-leaf o k u (core_value (ref_name b r x)) w t n i = name-pair k u CoreType r (denotes (c ∷ st) CoreType r x) (denotes su CoreType r x) (denoted-answers (g ∷ gs) (c ∷ st) CoreType r x all t.0 t.1)
    mark-leaf o k u (ref s (name r x)) w t n i = name-pair k u s r (denotes (c ∷ st) s r x) (denotes su s r x) (denoted-answers (g ∷ gs) (c ∷ st) s r x all t.0 t.1)
    mark-leaf o k u (ref s (path p)) w t n i = (λ j h. tt, λ j h. tt, λ j v h. path-pair j v k u s p h.0, λ j v. (refl, refl))
    mark-leaf o k u (ref s (inline (row y ls))) w t n i =
        inline-pair k u s y ls (reused (c ∷ []) k u y ls) (LeavesNamed g c (inline_type k u) k (u + 1) ls) (plan_leaves (c ∷ st) k (u + 1) ls) (expand_leaves g c (inline_type k u) k (u + 1) ls) refl w.0 (declares-expand g c (inline_type k u) k (u + 1) y ls ∙ w.0) n i
        (λ m j. mark-leaves (inline_type k u) k (u + 1) ls w.1 t m j)
    mark-leaf o k u (ref s (bundle (row y ls))) w t n i =
        let a : Expanded Leaves = expand_leaves g c (bundle_of k u) k (u + 1) ls in
        let x : Entry = entry (bundle_of k u) (generated_names (given g (bundle_of k u))) y a in
        bundle-pair k u s y ls (plan_leaves (c ∷ st) k (u + 1) ls) a _ (declares-expand g c (bundle_of k u) k (u + 1) y ls) (own-near g kd id label ds gs st all (bundle_of k u) y a (given g (bundle_of k u)) s (each-right (In L) a.bundles (x ∷ []) i.1).0 n.0 (declares-expand g c (bundle_of k u) k (u + 1) y ls ∙ w.0))
        (mark-leaves (bundle_of k u) k (u + 1) ls w.1 t n.1 (i.0, each-left (In L) a.bundles (x ∷ []) i.1))
    mark-leaf o k u (present l) w t n i = mark-leaf o k u l w t n i
    mark-leaf o k u (node (row y ls)) w t n i = mark-leaves o k u ls w t n i
    mark-leaf o k u (nodes ns) w t n i = mark-nodes o k u ns w t n i
    mark-leaf o k u (scope (scope_of q v b ws)) w t n i = same-plain Mark MarkPair L list_plan own_mark Outward Led leads all-led _
    mark-leaf o k u l w t n i = same-plain Mark MarkPair L list_plan own_mark Outward Led leads all-led _

    mark-nodes : (o : Origin) (k u : ℕ) (ns : Nodes) → NodesRowed ns → NodesOfText ns → NodesNamed g c o k u ns → InBoth (expand_nodes g c o k u ns)
        → S (plan_nodes (c ∷ st) k u ns) (expand_nodes g c o k u ns).inlined (expand_nodes g c o k u ns).bundles (λ j w. At1 j w k (expand_nodes g c o k u ns).places (outward_nodes su j w (expand_nodes g c o k u ns).here).needed) (λ j w. plan_nodes su j w (expand_nodes g c o k u ns).here)
    mark-nodes o k u no_node w t n i = same-plain Mark MarkPair L list_plan own_mark Outward Led leads all-led _
    mark-nodes o k u (one_node (row y ls) ns) w t n i =
        let a : Expanded Leaves = expand_leaves g c o k u ls in
        let b : Expanded Nodes = expand_nodes g c o k (u + references ls) ns in
        same-both Mark MarkPair L list_plan own_mark Outward Led leads all-led (plan_leaves (c ∷ st) k u ls) (plan_nodes (c ∷ st) k (u + references ls) ns) a.inlined a.bundles b.inlined b.bundles k (references a.here) a.places b.places (λ j w. (outward_leaves su j w a.here).needed) (λ j w. (outward_nodes su j w b.here).needed)
        (λ j w. plan_leaves su j w a.here) (λ j w. plan_nodes su j w b.here) (leaves-places g c o k u ls)
        (mark-leaves o k u ls w.1 t.0 n.0 (each-left (In L) a.inlined b.inlined i.0, each-left (In L) a.bundles b.bundles i.1))
        (mark-nodes o k (u + references ls) ns w.2 t.1 n.1 (each-right (In L) a.inlined b.inlined i.0, each-right (In L) a.bundles b.bundles i.1))

  abbrev told_marks : ℕ → List Entry → List Mark
  told_marks = told Mark MarkPair L list_plan own_mark Outward Led leads all-led

  mark-defs : (k j : ℕ) (bs : Defs) → DefsRowed bs → DefsOfText bs → DefsNamed g c k bs → EachListed (In L) (expand_defs g c k bs) → Seated L j (expand_defs g c k bs) → Pairs Mark MarkPair (plan_defs (c ∷ st) k bs) (told_marks j (expand_defs g c k bs))
  mark-defs k j no_def w t n i s = tt
  mark-defs k j (one_def (define ns (row y ls)) bs) w t n i s =
      let a : Expanded Leaves = expand_leaves g c (written k) k 0 ls in
      let x : Entry = entry (written k) (given_names ns (given g (written k))) y a in
      let one : List Entry = a.inlined ++ (a.bundles ++ x ∷ []) in
      let more : List Entry = expand_defs g c (k + 1) bs in
      let h : EachListed (In L) one = each-left (In L) one more i in
      let b : S (plan_leaves (c ∷ st) k 0 ls) a.inlined a.bundles (λ j w. At1 j w k a.places (leads j w a.here)) (λ j w. plan_leaves su j w a.here) =
      mark-leaves (written k) k 0 ls w.3 t.1 n.2 (each-left (In L) a.inlined (a.bundles ++ x ∷ []) h, each-left (In L) a.bundles (x ∷ []) (each-right (In L) a.inlined (a.bundles ++ x ∷ []) h)) in
      subst (Pairs Mark MarkPair (plan_defs (c ∷ st) k (one_def (define ns (row y ls)) bs))) (sym (told-app Mark MarkPair L list_plan own_mark Outward Led leads all-led j one more))
      (pairs-app Mark MarkPair (plan_one (plan_leaves (c ∷ st) k 0 ls) (mark (written k) (declares_row y ls))) (told_marks j one) (plan_defs (c ∷ st) (k + 1) bs) (told_marks (j + length one) more)
      (same-one Mark MarkPair L list_plan own_mark Outward Led leads all-led (plan_leaves (c ∷ st) k 0 ls) a.inlined a.bundles k x (mark (written k) (declares_row y ls) ∷ []) j refl b (own-pair (written k) y ls x refl (declares-expand g c (written k) k 0 y ls)) (seated-left L j one more s))
      (mark-defs (k + 1) (j + length one) bs w.4 t.2 n.3 (each-right (In L) one more i) (seated-right L j one more s)))

  -- ---- exports

  export-pairs : (y : Id) (k i j : ℕ) (ns : List Text) (ss : List Space) → OfFirst (λ s. Leads g kd id label ds gs st all false s y) ns ss → Seated L j (expand_exports_of y k i ns ss) → Pairs Mark MarkPair (export_marks_of k i ns ss) (told_marks j (expand_exports_of y k i ns ss))
  export-pairs y k i j [] ss h q = tt
  export-pairs y k i j (n ∷ ns) [] h q = tt
  export-pairs y k i j (n ∷ ns) (s ∷ ss) h q = rw h (((at-origin L j _ q.0).0, refl), export-pairs y k (i + 1) (j + 1) ns (s ∷ ss) (again ns) q.1)
    where
      again : (ms : List Text) → OfFirst (λ r. Leads g kd id label ds gs st all false r y) ms (s ∷ ss)
      again [] = tt
      again (m ∷ ms) = h

  exports-pairs : (k j : ℕ) (bs : Defs) → ((i : ℕ) → def_at ds (k + i) ≡ def_at bs i) → DefsNamed g c k bs → Seated L j (expand_exports g k bs) → Pairs Mark MarkPair (export_marks k bs) (told_marks j (expand_exports g k bs))
  exports-pairs k j no_def w n q = tt
  exports-pairs k j (one_def (define ns (row t ls)) bs) w n q =
      let z : k + 0 ≡ k = omega arith in
      let d : def_at ds k ≡ Some (define ns (row t ls)) = subst (λ j. def_at ds j ≡ Some (define ns (row t ls))) z (w 0) in
      let y : Id = the_id (first_id ns.ids (given g (written k))) in
      let one : List Entry = expand_exports_of y k 0 ns.exports (declares_row t ls) in
      let more : List Entry = expand_exports g (k + 1) bs in
      subst (Pairs Mark MarkPair (export_marks_of k 0 ns.exports (declares_row t ls) ++ export_marks (k + 1) bs)) (sym (told-app Mark MarkPair L list_plan own_mark Outward Led leads all-led j one more))
      (pairs-app Mark MarkPair (export_marks_of k 0 ns.exports (declares_row t ls)) (told_marks j one) (export_marks (k + 1) bs) (told_marks (j + length one) more)
      (export-pairs y k 0 j ns.exports (declares_row t ls) (first-near g kd id label ds gs st all k ns t ls n.1 d) (seated-left L j one more q))
      (exports-pairs (k + 1) (j + length one) bs (λ i. ap (def_at ds) (omega arith) ∙ w (suc i)) n.3 (seated-right L j one more q)))

  -- ---- the whole list

  mark-told : (j : ℕ) (xs : List Entry) → told_marks j xs ≡ plan_defs su j (entry_defs xs)
  mark-told j [] = refl
  mark-told j (x ∷ xs) = ap (λ v. plan_one (plan_leaves su j 0 x.leaves) (mark (written j) (declares_row x.head x.leaves)) ++ v) (mark-told (j + 1) xs)

  pairs-told : (xs ys : List Mark) → Pairs Mark MarkPair xs ys → xs ≡ map (λ m. mark (mark_in_text L m.origin) m.spaces) ys
  pairs-told [] [] h = refl
  pairs-told [] (y ∷ ys) h = absurd h
  pairs-told (x ∷ xs) [] h = absurd h
  pairs-told (x ∷ xs) (y ∷ ys) h = rw (h.0.0, h.0.1) (ap (λ v. x ∷ v) (pairs-told xs ys h.1))

  names-pair : (b : Bool) → Pairs Mark MarkPair (name_marks b) (name_marks b)
  names-pair true = ((refl, refl), tt)
  names-pair false = tt

  pub marks-kept : marks (c ∷ st) ≡ map (λ m. mark (mark_in_text L m.origin) m.spaces) (marks su)
  marks-kept =
      let D : List Entry = expand_defs g c 0 ds in
      let X : List Entry = expand_exports g 0 ds in
      let q : Seated L 0 L = seated-self [] L 0 refl in
      let a : Pairs Mark MarkPair (plan_defs (c ∷ st) 0 ds) (told_marks 0 D) = mark-defs 0 0 ds all.0.0 all.0.1.1 all.0.2.0 (each-left (In L) D X (in-self L)) (seated-left L 0 D X q) in
      let b : Pairs Mark MarkPair (export_marks 0 ds) (told_marks (0 + length D) X) = exports-pairs 0 (0 + length D) ds (λ i. ap (def_at ds) (omega arith)) all.0.2.0 (seated-right L 0 D X q) in
      let e : told_marks 0 D ++ told_marks (0 + length D) X ≡ plan_defs su 0 (entry_defs L) = sym (told-app Mark MarkPair L list_plan own_mark Outward Led leads all-led 0 D X) ∙ mark-told 0 L in
      let n : export_marks 0 (entry_defs L) ≡ [] = no_exports Unexported (λ x e. e) 0 L (list-unexported g c ds ds all.0.2.0) in
      let h : has_names (expand g c) ≡ has_names c = expand-names g c all.0.2 in
      let w : List Mark = name_marks (has_names c) in
      let v : Pairs Mark MarkPair ((plan_defs (c ∷ st) 0 ds ++ export_marks 0 ds) ++ w) (plan_defs su 0 (entry_defs L) ++ w) =
      pairs-app Mark MarkPair (plan_defs (c ∷ st) 0 ds ++ export_marks 0 ds) (plan_defs su 0 (entry_defs L)) w w
      (subst (Pairs Mark MarkPair (plan_defs (c ∷ st) 0 ds ++ export_marks 0 ds)) e (pairs-app Mark MarkPair (plan_defs (c ∷ st) 0 ds) (told_marks 0 D) (export_marks 0 ds) (told_marks (0 + length D) X) a b)) (names-pair (has_names c)) in
      sym (append_assoc (plan_defs (c ∷ st) 0 ds) (export_marks 0 ds) w)
      ∙ pairs-told _ _ v
      ∙ ap (λ r. map (λ m. mark (mark_in_text L m.origin) m.spaces) (plan_defs su 0 (entry_defs L) ++ (r ++ w))) (sym n)
      ∙ ap (λ r. map (λ m. mark (mark_in_text L m.origin) m.spaces) (plan_defs su 0 (entry_defs L) ++ (export_marks 0 (entry_defs L) ++ name_marks r))) (sym h)
