-- The names of a scope that lead out stand in its expanded list in the same order, and denote the same.
use Rattle.std.proofs.Common.{◌≡◌, ℕ, suc, ◌+◌, Bool, true, false, nat_lt, List, [], ◌∷◌, ◌++◌, length, slice_get, Option, Some, None, IsSome, refl, sym, ◌∙◌, ap, subst, arith}
use Rattle.std.proofs.lemmas.List.{append-nil}
use Rattle.comp_model.specs.declared.Space.{Space}
use Rattle.comp_model.specs.declared.Space.TheVariants.{CoreType}
use Rattle.comp_model.specs.declared.row.Row.{Row}
use Rattle.comp_model.specs.Core.{Text, Id, Reach, outward, own, at_place, ref_name}
use Rattle.comp_model.specs.Model.{Leaf, text, absent, core_value, ref, present, node, nodes, scope, name, inline, bundle, Leaves, no_leaf, ◌▸◌, row, Nodes, no_node, one_node, Names, define, Defs, no_def, one_def, Scope, scope_of}
use Rattle.comp_model.specs.declared.row.ScopeKind.{ScopeKind}
use Rattle.comp_model.specs.Spaces.{declares_row}
use Rattle.comp_model.specs.Origins.{Origin, written, inline_type, bundle_of}
use Rattle.comp_scopes.specs.Names.{Denoted, denotes}
use Rattle.comp_scopes.specs.References.{references, references_leaf}
use Rattle.comp_scopes.specs.Outward.{Planned, plan_nothing, plan_needs, plan_both, plan_own, plan_inline, leads_out, Outward, outward_name, outward_leaves, outward_leaf, outward_nodes, outward_defs, outward_names}
use Rattle.comp_scopes.specs.Reused.{reused}
use Rattle.comp_scopes.specs.Rowed.{LeavesRowed, LeafRowed, NodesRowed, DefsRowed}
use Rattle.comp_expanded.specs.Expansion.{Naming, given, the_id, generated_reach, id_of_mark, generated_names, given_names, Entry, entry_defs, Expanded, entry, expand_inline, expand_leaves, expand_leaf, expand_nodes, expand_defs, expand_exports_of, expand_exports, expand_list, first_id, ids_at}
use Rattle.comp_expanded.specs.TextNumbers.{mark_in_text}
use Rattle.comp_expanded.specs.OfText.{LeavesOfText, LeafOfText, NodesOfText, DefsOfText}
use Rattle.comp_expanded.specs.Named.{ExportsNamed, InlineNamed, LeavesNamed, LeafNamed, NodesNamed, DefsNamed}
use Rattle.comp_expanded.proofs.Stacks.{expand_stack, AllNamed}
use Rattle.comp_expanded.proofs.Parts.{declares-expand}
use Rattle.comp_expanded.proofs.Ids.{EachListed, each-app, each-left, each-right}
use Rattle.comp_expanded.proofs.Ready.{In, in-self, Seated, seated-left, seated-right, seated-self}
use Rattle.comp_expanded.proofs.NamingExpands.{named-any}
use Rattle.comp_expanded.proofs.Answers.{Answers, denoted-answers}
use Rattle.comp_scopes.proofs.EachOf.{EachOf}
use Rattle.comp_expanded.proofs.Pairs.{Pairs, pairs-app, AtPlace, alias-told, leaf-places, leaves-places, told, told-app, Same, same-plain, same-both, same-one, same-inline, same-bundle}
use Rattle.comp_expanded.proofs.Near.{Near, Leads, own-near, again-near, written-near}
use Rattle.comp_expanded.proofs.ScopeOf.{def_at, ids-of, OfFirst}

-- a name leads out where it denotes as many scopes outward
pub leads-same : (r : Reach) (d e : Denoted) → e.depth ≡ d.depth → leads_out r (Some e) ≡ leads_out r (Some d)
leads-same outward d e h = ap (λ n. nat_lt 0 n) h
leads-same own d e h = refl
leads-same (at_place p) d e h = refl

pub leads-none : (r : Reach) → leads_out r None ≡ false
leads-none outward = refl
leads-none own = refl
leads-none (at_place p) = refl

module _ (g : Naming) (kd : ScopeKind) (id : Option Id) (label : Option Text) (ds : Defs) (gs : List Naming) (st : List Scope)
    (all : AllNamed (g ∷ gs) (scope_of kd id label ds ∷ st)) where
  abbrev c : Scope
  c = scope_of kd id label ds

  abbrev L : List Entry
  L = expand_list g c

  abbrev su : List Scope
  su = expand_stack (g ∷ gs) (c ∷ st)

  -- a name of the text and the one that stands for it in the list
  abbrev pub OutPair : Outward → Outward → Type 0
  OutPair w v = (mark_in_text L v.origin ≡ w.origin) × (v.space ≡ w.space) × Answers (g ∷ gs) (c ∷ st) (Some w.denoted) (Some v.denoted)

  abbrev list_out : ℕ → ℕ → Leaves → Planned Outward
  list_out = outward_leaves su

  abbrev none_own : ℕ → Entry → List Outward
  none_own j x = []

  -- nothing else is known of it
  abbrev NB : Type 0
  NB = Unit {0}

  abbrev NI : Unit {0} → Type 0
  NI b = Unit {0}

  abbrev nothing_known : ℕ → ℕ → Leaves → List (Unit {0})
  nothing_known j w ls = []

  abbrev none_known : (n : ℕ) (x : Entry) → slice_get L n ≡ Some x → EachOf NI (nothing_known n 0 x.leaves)
  none_known n x e = tt

  abbrev At0 : ℕ → ℕ → ℕ → List ℕ → Type 0
  At0 j w k ps = AtPlace L j w k ps × Unit {0}

  abbrev S : Planned Outward → List Entry → List Entry → (ℕ → ℕ → Type 0) → (ℕ → ℕ → Planned Outward) → Type 0
  S = Same Outward OutPair L list_out none_own NB NI nothing_known none_known

  name-pair : (k u : ℕ) (s : Space) (r : Reach) (a b : Option Denoted) → Answers (g ∷ gs) (c ∷ st) a b
      → S (outward_name k u s (leads_out r a) a) [] [] (λ j w. At0 j w k (u ∷ [])) (λ j w. outward_name j w s (leads_out r b) b)
  name-pair k u s r None None h = rw (leads-none r) (same-plain Outward OutPair L list_out none_own NB NI nothing_known none_known _)
  name-pair k u s r None (Some e) h = absurd h
  name-pair k u s r (Some d) None h = absurd h
  name-pair k u s r (Some d) (Some e) h = rw (leads-same r d e h.0) (go (leads_out r (Some d)))
    where
      go : (q : Bool) → S (outward_name k u s q (Some d)) [] [] (λ j w. At0 j w k (u ∷ [])) (λ j w. outward_name j w s q (Some e))
      go true = (λ j t. tt, λ j t. tt, λ j w t. ((alias-told L j w k u t.0, refl, h), tt), λ j w. (refl, refl))
      go false = same-plain Outward OutPair L list_out none_own NB NI nothing_known none_known _

  near-pair : (s : Space) (x : Id) (T : ℕ → ℕ → Type 0) → Near g kd id label ds gs st all s x → S plan_nothing [] [] T (λ j w. outward_leaf su j w (ref s (name (generated_reach c) x)))
  near-pair s x T h = rw h (same-plain Outward OutPair L list_out none_own NB NI nothing_known none_known T)

  abbrev InBoth : {H : Type 0} → Expanded H → Type 0
  InBoth a = EachListed (In L) a.inlined × EachListed (In L) a.bundles

  inline-pair : (k u : ℕ) (s : Space) (t : Row) (ls : Leaves) (r : Option Origin) (P : Type 0) (p : Planned Outward) (a : Expanded Leaves) → reused (c ∷ []) k u t ls ≡ r → declares_row t ls ≡ s ∷ [] → declares_row t a.here ≡ s ∷ []
      → InlineNamed g c k u r P → InBoth (expand_inline g c k u s t r a) → (P → InBoth a → S p a.inlined a.bundles (λ j w. At0 j w k a.places) (λ j w. outward_leaves su j w a.here))
      → S (plan_inline r p []) (expand_inline g c k u s t r a).inlined (expand_inline g c k u s t r a).bundles (λ j w. At0 j w k (expand_inline g c k u s t r a).places) (λ j w. outward_leaf su j w (expand_inline g c k u s t r a).here)
  inline-pair k u s t ls (Some o) P p a e d d' n i f = near-pair s (id_of_mark g c o) _ (again-near g kd id label ds gs st all k u t ls o s e (named-any g c k u o P n) d)
  inline-pair k u s t ls None P p a e d d' n i f =
      let x : Entry = entry (inline_type k u) (generated_names (given g (inline_type k u))) t a in
      let b : EachListed (In L) (a.bundles ++ x ∷ []) = each-right (In L) a.inlined (a.bundles ++ x ∷ []) i.0 in
      let h : Near g kd id label ds gs st all s (the_id (given g (inline_type k u))) = own-near g kd id label ds gs st all (inline_type k u) t a (given g (inline_type k u)) s (each-right (In L) a.bundles (x ∷ []) b).0 n.0 d' in
      let y : S p a.inlined a.bundles (λ j w. At0 j w k a.places) (λ j w. outward_leaves su j w a.here) = f n.1 (each-left (In L) a.inlined (a.bundles ++ x ∷ []) i.0, each-left (In L) a.bundles (x ∷ []) b) in
      rw h (same-inline Outward OutPair L list_out none_own NB NI nothing_known none_known p a.inlined a.bundles k x [] _ refl y (λ m q. tt))

  bundle-pair : (k u : ℕ) (s : Space) (t : Row) (p : Planned Outward) (a : Expanded Leaves) (T : ℕ → ℕ → Type 0) → Near g kd id label ds gs st all s (the_id (given g (bundle_of k u)))
      → S p a.inlined a.bundles (λ j w. At0 j w k a.places) (λ j w. outward_leaves su j w a.here)
      → S (Rattle.comp_scopes.specs.Outward.plan_bundle p []) a.inlined (a.bundles ++ entry (bundle_of k u) (generated_names (given g (bundle_of k u))) t a ∷ []) T (λ j w. outward_leaf su j w (ref s (name (generated_reach c) (the_id (given g (bundle_of k u))))))
  bundle-pair k u s t p a T h y = rw h (same-bundle Outward OutPair L list_out none_own NB NI nothing_known none_known p a.inlined a.bundles k (entry (bundle_of k u) (generated_names (given g (bundle_of k u))) t a) [] T refl y (λ m q. tt))

  mutual
    pub out-leaves : (o : Origin) (k u : ℕ) (ls : Leaves) → LeavesRowed ls → LeavesOfText ls → LeavesNamed g c o k u ls → InBoth (expand_leaves g c o k u ls)
        → S (outward_leaves (c ∷ st) k u ls) (expand_leaves g c o k u ls).inlined (expand_leaves g c o k u ls).bundles (λ j w. At0 j w k (expand_leaves g c o k u ls).places) (λ j w. outward_leaves su j w (expand_leaves g c o k u ls).here)
    out-leaves o k u no_leaf w t n i = same-plain Outward OutPair L list_out none_own NB NI nothing_known none_known _
    out-leaves o k u (l ▸ ls) w t n i =
        let a : Expanded Leaf = expand_leaf g c o k u l in
        let b : Expanded Leaves = expand_leaves g c o k (u + references_leaf l) ls in
        same-both Outward OutPair L list_out none_own NB NI nothing_known none_known (outward_leaf (c ∷ st) k u l) (outward_leaves (c ∷ st) k (u + references_leaf l) ls) a.inlined a.bundles b.inlined b.bundles k (references_leaf a.here) a.places b.places (λ j w. []) (λ j w. [])
        (λ j w. outward_leaf su j w a.here) (λ j w. outward_leaves su j w b.here) (leaf-places g c o k u l)
        (out-leaf o k u l w.1 t.0 n.0 (each-left (In L) a.inlined b.inlined i.0, each-left (In L) a.bundles b.bundles i.1))
        (out-leaves o k (u + references_leaf l) ls w.2 t.1 n.1 (each-right (In L) a.inlined b.inlined i.0, each-right (In L) a.bundles b.bundles i.1))

    out-leaf : (o : Origin) (k u : ℕ) (l : Leaf) → LeafRowed l → LeafOfText l → LeafNamed g c o k u l → InBoth (expand_leaf g c o k u l)
        → S (outward_leaf (c ∷ st) k u l) (expand_leaf g c o k u l).inlined (expand_leaf g c o k u l).bundles (λ j w. At0 j w k (expand_leaf g c o k u l).places) (λ j w. outward_leaf su j w (expand_leaf g c o k u l).here)
    out-leaf o k u (core_value (ref_name b r x)) w t n i = name-pair k u CoreType r (denotes (c ∷ st) CoreType r x) (denotes su CoreType r x) (denoted-answers (g ∷ gs) (c ∷ st) CoreType r x all t.0 t.1)
    out-leaf o k u (ref s (name r x)) w t n i = name-pair k u s r (denotes (c ∷ st) s r x) (denotes su s r x) (denoted-answers (g ∷ gs) (c ∷ st) s r x all t.0 t.1)
    out-leaf o k u (ref s (inline (row y ls))) w t n i =
        inline-pair k u s y ls (reused (c ∷ []) k u y ls) (LeavesNamed g c (inline_type k u) k (u + 1) ls) (outward_leaves (c ∷ st) k (u + 1) ls) (expand_leaves g c (inline_type k u) k (u + 1) ls) refl w.0 (declares-expand g c (inline_type k u) k (u + 1) y ls ∙ w.0) n i
        (λ m j. out-leaves (inline_type k u) k (u + 1) ls w.1 t m j)
    out-leaf o k u (ref s (bundle (row y ls))) w t n i =
        let a : Expanded Leaves = expand_leaves g c (bundle_of k u) k (u + 1) ls in
        let x : Entry = entry (bundle_of k u) (generated_names (given g (bundle_of k u))) y a in
        bundle-pair k u s y (outward_leaves (c ∷ st) k (u + 1) ls) a _ (own-near g kd id label ds gs st all (bundle_of k u) y a (given g (bundle_of k u)) s (each-right (In L) a.bundles (x ∷ []) i.1).0 n.0 (declares-expand g c (bundle_of k u) k (u + 1) y ls ∙ w.0))
        (out-leaves (bundle_of k u) k (u + 1) ls w.1 t n.1 (i.0, each-left (In L) a.bundles (x ∷ []) i.1))
    out-leaf o k u (present l) w t n i = out-leaf o k u l w t n i
    out-leaf o k u (node (row y ls)) w t n i = out-leaves o k u ls w t n i
    out-leaf o k u (nodes ns) w t n i = out-nodes o k u ns w t n i
    out-leaf o k u (scope (scope_of q v b ws)) w t n i = same-plain Outward OutPair L list_out none_own NB NI nothing_known none_known _
    out-leaf o k u l w t n i = same-plain Outward OutPair L list_out none_own NB NI nothing_known none_known _

    out-nodes : (o : Origin) (k u : ℕ) (ns : Nodes) → NodesRowed ns → NodesOfText ns → NodesNamed g c o k u ns → InBoth (expand_nodes g c o k u ns)
        → S (outward_nodes (c ∷ st) k u ns) (expand_nodes g c o k u ns).inlined (expand_nodes g c o k u ns).bundles (λ j w. At0 j w k (expand_nodes g c o k u ns).places) (λ j w. outward_nodes su j w (expand_nodes g c o k u ns).here)
    out-nodes o k u no_node w t n i = same-plain Outward OutPair L list_out none_own NB NI nothing_known none_known _
    out-nodes o k u (one_node (row y ls) ns) w t n i =
        let a : Expanded Leaves = expand_leaves g c o k u ls in
        let b : Expanded Nodes = expand_nodes g c o k (u + references ls) ns in
        same-both Outward OutPair L list_out none_own NB NI nothing_known none_known (outward_leaves (c ∷ st) k u ls) (outward_nodes (c ∷ st) k (u + references ls) ns) a.inlined a.bundles b.inlined b.bundles k (references a.here) a.places b.places (λ j w. []) (λ j w. [])
        (λ j w. outward_leaves su j w a.here) (λ j w. outward_nodes su j w b.here) (leaves-places g c o k u ls)
        (out-leaves o k u ls w.1 t.0 n.0 (each-left (In L) a.inlined b.inlined i.0, each-left (In L) a.bundles b.bundles i.1))
        (out-nodes o k (u + references ls) ns w.2 t.1 n.1 (each-right (In L) a.inlined b.inlined i.0, each-right (In L) a.bundles b.bundles i.1))

  abbrev told_out : ℕ → List Entry → List Outward
  told_out = told Outward OutPair L list_out none_own NB NI nothing_known none_known

  out-defs : (k j : ℕ) (bs : Defs) → DefsRowed bs → DefsOfText bs → DefsNamed g c k bs → EachListed (In L) (expand_defs g c k bs) → Seated L j (expand_defs g c k bs) → Pairs Outward OutPair (outward_defs (c ∷ st) k bs) (told_out j (expand_defs g c k bs))
  out-defs k j no_def w t n i s = tt
  out-defs k j (one_def (define ns (row y ls)) bs) w t n i s =
      let a : Expanded Leaves = expand_leaves g c (written k) k 0 ls in
      let x : Entry = entry (written k) (given_names ns (given g (written k))) y a in
      let one : List Entry = a.inlined ++ (a.bundles ++ x ∷ []) in
      let more : List Entry = expand_defs g c (k + 1) bs in
      let h : EachListed (In L) one = each-left (In L) one more i in
      let b : S (outward_leaves (c ∷ st) k 0 ls) a.inlined a.bundles (λ j w. At0 j w k a.places) (λ j w. outward_leaves su j w a.here) =
      out-leaves (written k) k 0 ls w.3 t.1 n.2 (each-left (In L) a.inlined (a.bundles ++ x ∷ []) h, each-left (In L) a.bundles (x ∷ []) (each-right (In L) a.inlined (a.bundles ++ x ∷ []) h)) in
      subst (Pairs Outward OutPair (outward_defs (c ∷ st) k (one_def (define ns (row y ls)) bs))) (sym (told-app Outward OutPair L list_out none_own NB NI nothing_known none_known j one more))
      (pairs-app Outward OutPair (plan_own (outward_leaves (c ∷ st) k 0 ls) []) (told_out j one) (outward_defs (c ∷ st) (k + 1) bs) (told_out (j + length one) more)
      (same-one Outward OutPair L list_out none_own NB NI nothing_known none_known (outward_leaves (c ∷ st) k 0 ls) a.inlined a.bundles k x [] j refl b (λ m q. tt) (seated-left L j one more s))
      (out-defs (k + 1) (j + length one) bs w.4 t.2 n.3 (each-right (In L) one more i) (seated-right L j one more s)))

  -- ---- exports ask for nothing

  abbrev pub NearExport : Entry → Type 0
  NearExport x = (n : Text) × (s : Space) × (y : Id) × (x.leaves ≡ text n ▸ absent ▸ ref s (name outward y) ▸ no_leaf) × Leads g kd id label ds gs st all false s y

  export-of : (y : Id) (k i : ℕ) (ns : List Text) (ss : List Space) → OfFirst (λ s. Leads g kd id label ds gs st all false s y) ns ss → EachListed NearExport (expand_exports_of y k i ns ss)
  export-of y k i [] ss h = tt
  export-of y k i (n ∷ ns) [] h = tt
  export-of y k i (n ∷ ns) (s ∷ ss) h = ((n, s, y, refl, h), export-of y k (i + 1) ns (s ∷ ss) (again ns))
    where
      again : (ms : List Text) → OfFirst (λ r. Leads g kd id label ds gs st all false r y) ms (s ∷ ss)
      again [] = tt
      again (m ∷ ms) = h

  pub first-near : (k : ℕ) (ns : Names) (t : Row) (ls : Leaves) → ExportsNamed ns.exports (first_id ns.ids (given g (written k))) → def_at ds k ≡ Some (define ns (row t ls)) → OfFirst (λ s. Leads g kd id label ds gs st all false s (the_id (first_id ns.ids (given g (written k))))) ns.exports (declares_row t ls)
  first-near k ns t ls n d = go ns.exports (declares_row t ls) refl n
    where
      go : (xs : List Text) (ss : List Space) → declares_row t ls ≡ ss → ExportsNamed xs (first_id ns.ids (given g (written k))) → OfFirst (λ s. Leads g kd id label ds gs st all false s (the_id (first_id ns.ids (given g (written k))))) xs ss
      go [] ss e m = tt
      go (x ∷ xs) [] e m = tt
      go (x ∷ xs) (s ∷ ss) e m =
          let i : ids_at ds k ≡ ns.ids = ids-of ds k ns t ls d in
          subst (λ v. Leads g kd id label ds gs st all false s (the_id (first_id v (given g (written k))))) i (written-near g kd id label ds gs st all false k ns t ls s ss d e (subst (λ v. IsSome (first_id v (given g (written k)))) (sym i) m))

  exports-near : (k : ℕ) (bs : Defs) → ((i : ℕ) → def_at ds (k + i) ≡ def_at bs i) → DefsNamed g c k bs → EachListed NearExport (expand_exports g k bs)
  exports-near k no_def w n = tt
  exports-near k (one_def (define ns (row t ls)) bs) w n =
      let z : k + 0 ≡ k = omega arith in
      let d : def_at ds k ≡ Some (define ns (row t ls)) = subst (λ j. def_at ds j ≡ Some (define ns (row t ls))) z (w 0) in
      each-app NearExport _ _ (export-of (the_id (first_id ns.ids (given g (written k)))) k 0 ns.exports (declares_row t ls) (first-near k ns t ls n.1 d)) (exports-near (k + 1) bs (λ i. ap (def_at ds) (omega arith) ∙ w (suc i)) n.3)

  pub all-exports-near : EachListed NearExport (expand_exports g 0 ds)
  all-exports-near = exports-near 0 ds (λ i. ap (def_at ds) (omega arith)) all.0.2.0

  exports-none : (j : ℕ) (xs : List Entry) → EachListed NearExport xs → told_out j xs ≡ []
  exports-none j [] h = refl
  exports-none j (x ∷ xs) h = rw (h.0.3, h.0.4) (exports-none (j + 1) xs h.1)

  -- ---- the whole list

  out-told : (j : ℕ) (xs : List Entry) → told_out j xs ≡ outward_defs su j (entry_defs xs)
  out-told j [] = refl
  out-told j (x ∷ xs) = ap (λ v. plan_own (outward_leaves su j 0 x.leaves) [] ++ v) (out-told (j + 1) xs)

  pub out-all : Pairs Outward OutPair (outward_names (c ∷ st)) (outward_names su)
  out-all =
      let D : List Entry = expand_defs g c 0 ds in
      let X : List Entry = expand_exports g 0 ds in
      let p : Pairs Outward OutPair (outward_defs (c ∷ st) 0 ds) (told_out 0 D) = out-defs 0 0 ds all.0.0 all.0.1.1 all.0.2.0 (each-left (In L) D X (in-self L)) (seated-left L 0 D X (seated-self [] L 0 refl)) in
      let e : told_out 0 D ≡ outward_defs su 0 (entry_defs L) = sym (append-nil (told_out 0 D)) ∙ ap (λ v. told_out 0 D ++ v) (sym (exports-none (0 + length D) X all-exports-near)) ∙ sym (told-app Outward OutPair L list_out none_own NB NI nothing_known none_known 0 D X) ∙ out-told 0 L in
      subst (Pairs Outward OutPair (outward_defs (c ∷ st) 0 ds)) e p
