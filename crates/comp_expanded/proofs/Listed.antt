-- What an inline node reuses stands in an expanded list: a written definition, or the definition of an inline node.
use Rattle.std.proofs.Common.{◌≡◌, ℕ, ◌+◌, inl, inr, suc, Bool, true, false, cond, List, [], ◌∷◌, ◌++◌, slice_get, Option, Some, None, refl, sym, ◌∙◌, ap, subst, arith}
use Rattle.comp_model.specs.declared.Space.{Space}
use Rattle.comp_model.specs.declared.Space.TheVariants.{CoreType, Ty}
use Rattle.comp_model.specs.Spaces.{declares_row}
use Rattle.comp_model.specs.declared.row.Row.TheVariants as rows
use Rattle.comp_model.specs.declared.row.Row.{Row}
use Rattle.comp_model.specs.Model.{Leaf, ref, present, node, nodes, scope, inline, bundle, Leaves, no_leaf, ◌▸◌, row, Nodes, no_node, one_node, Names, Def, define, Defs, no_def, one_def, Scope, scope_of, defs_of}
use Rattle.comp_model.specs.Origins.{Origin, written, inline_type, bundle_of}
use Rattle.comp_scopes.specs.Encoding.{Encoding}
use Rattle.comp_scopes.specs.References.{references, references_leaf}
use Rattle.comp_scopes.specs.Signatures.{reused_signature}
use Rattle.comp_scopes.specs.Reused.{is_shared, Typed, earlier_type, typed_once, typed_inline, typed_within, types_of_leaves, types_of_leaf, types_of_nodes, written_type, types_of_defs, types, as_written, reused}
use Rattle.comp_scopes.proofs.Types.{shared-declares, AllTyped, typed-app, app-assoc, Equal, equal-of, Decided, decided, behind-these}
use Rattle.comp_scopes.proofs.Lookup.{some-same}
use Rattle.comp_expanded.specs.Expansion.{Naming, given, generated_names, given_names, Entry, Expanded, entry, expand_inline, expand_leaves, expand_leaf, expand_nodes, expand_defs}
use Rattle.comp_expanded.specs.Named.{IsGenerated, InlineNamed, LeavesNamed, LeafNamed, NodesNamed, DefsNamed}
use Rattle.comp_expanded.proofs.Ids.{EachListed, each-left, each-right}
use Rattle.comp_expanded.proofs.Ready.{In}
use Rattle.comp_expanded.proofs.ScopeOf.{def_at, SignatureAt, signature-at}

module _ (g : Naming) (c : Scope) (gs : List Entry) where
  -- the definition of an inline node, with the id that is given, which declares in the space
  abbrev pub Generated : Space → Origin → Type 0
  Generated s o = (p : ℕ) × (d : Entry) × (slice_get gs p ≡ Some d) × (d.origin ≡ o) × (d.names ≡ generated_names (given g o)) × IsGenerated (given g o) × (declares_row d.head d.leaves ≡ s ∷ [])

  -- a mark that can be reused
  abbrev pub Stood : Space → Origin → Type 0
  Stood s (written j) = (ns : Names) × (t : Row) × (ls : Leaves) × (def_at (defs_of c) j ≡ Some (define ns (row t ls))) × (declares_row t ls ≡ s ∷ [])
  Stood s (inline_type k u) = Generated s (inline_type k u)
  Stood s o = ⊥

  abbrev StoodOf : Typed → Type 0
  StoodOf x = Stood Ty x.origin

  own-stood : (k u : ℕ) (t : Row) (a : Expanded Leaves) → In gs (entry (inline_type k u) (generated_names (given g (inline_type k u))) t a) → IsGenerated (given g (inline_type k u)) → is_shared t ≡ true → Generated Ty (inline_type k u)
  own-stood k u t a h i f = (h.0, entry (inline_type k u) (generated_names (given g (inline_type k u))) t a, h.1, refl, refl, i, shared-declares t a.here f)

  -- what is generated for a part stands in the list
  abbrev InBoth : {H : Type 0} → Expanded H → Type 0
  InBoth a = EachListed (In gs) a.inlined × EachListed (In gs) a.bundles

  inline-stood : (k u : ℕ) (s : Space) (t : Row) (ls : Leaves) (earlier rest : List Typed) (b : Bool) → is_shared t ≡ b
      → types c ≡ earlier ++ (cond b (typed_inline (record { origin = inline_type k u; tag = t; leaves = ls }) earlier (types_of_leaves c k (u + 1) ls earlier)) (typed_within (reused_signature (c ∷ []) k t ls) (types_of_leaves c k (u + 1) ls earlier)) ++ rest)
      → InlineNamed g c k u (reused (c ∷ []) k u t ls) (LeavesNamed g c (inline_type k u) k (u + 1) ls) → InBoth (expand_inline g c k u s t (reused (c ∷ []) k u t ls) (expand_leaves g c (inline_type k u) k (u + 1) ls))
      → ((more : List Typed) → types c ≡ earlier ++ (types_of_leaves c k (u + 1) ls earlier ++ more) → LeavesNamed g c (inline_type k u) k (u + 1) ls → InBoth (expand_leaves g c (inline_type k u) k (u + 1) ls) → AllTyped StoodOf (types_of_leaves c k (u + 1) ls earlier))
      → AllTyped StoodOf (cond b (typed_inline (record { origin = inline_type k u; tag = t; leaves = ls }) earlier (types_of_leaves c k (u + 1) ls earlier)) (typed_within (reused_signature (c ∷ []) k t ls) (types_of_leaves c k (u + 1) ls earlier)))
  inline-stood k u s t ls earlier rest true f p n i rec = pick (decided [] c k u t ls earlier rest f p)
    where
      a : Expanded Leaves
      a = expand_leaves g c (inline_type k u) k (u + 1) ls

      x : Typed
      x = record { origin = inline_type k u; tag = t; leaves = ls }

      inner : List Typed
      inner = types_of_leaves c k (u + 1) ls earlier

      here : (o : Option Origin) → o ≡ None → InlineNamed g c k u o (LeavesNamed g c (inline_type k u) k (u + 1) ls) → InBoth (expand_inline g c k u s t o a) → types c ≡ earlier ++ (inner ++ x ∷ rest) → AllTyped StoodOf (inner ++ x ∷ [])
      here (Some q) z m j y = absurd (cc)
      here None z m j y =
          let own : List Entry = entry (inline_type k u) (generated_names (given g (inline_type k u))) t a ∷ [] in
          let e : EachListed (In gs) (a.bundles ++ own) = each-right (In gs) a.inlined (a.bundles ++ own) j.0 in
          typed-app StoodOf inner (x ∷ []) (rec (x ∷ rest) y m.1 (each-left (In gs) a.inlined (a.bundles ++ own) j.0, each-left (In gs) a.bundles own e)) (own-stood k u t a (each-right (In gs) a.bundles own e).0 m.0 f, tt)

      pick : Decided [] c k u t ls earlier rest → AllTyped StoodOf (typed_inline x earlier inner)
      pick (inl d) = rw d.1 (here (reused (c ∷ []) k u t ls) d.0 n i d.2)
      pick (inr d) = rw d.3 tt
  inline-stood k u s t ls earlier rest false f p n i rec = go (reused_signature (c ∷ []) k t ls) refl p
    where
      a : Expanded Leaves
      a = expand_leaves g c (inline_type k u) k (u + 1) ls

      here : (o : Option Origin) → o ≡ None → InlineNamed g c k u o (LeavesNamed g c (inline_type k u) k (u + 1) ls) → InBoth (expand_inline g c k u s t o a) → types c ≡ earlier ++ (types_of_leaves c k (u + 1) ls earlier ++ rest) → AllTyped StoodOf (types_of_leaves c k (u + 1) ls earlier)
      here (Some q) z m j y = absurd (cc)
      here None z m j y =
          let own : List Entry = entry (inline_type k u) (generated_names (given g (inline_type k u))) t a ∷ [] in
          let e : EachListed (In gs) (a.bundles ++ own) = each-right (In gs) a.inlined (a.bundles ++ own) j.0 in
          rec rest y m.1 (each-left (In gs) a.inlined (a.bundles ++ own) j.0, each-left (In gs) a.bundles own e)

      go : (o : Option ℕ) → reused_signature (c ∷ []) k t ls ≡ o → types c ≡ earlier ++ (typed_within o (types_of_leaves c k (u + 1) ls earlier) ++ rest) → AllTyped StoodOf (typed_within o (types_of_leaves c k (u + 1) ls earlier))
      go (Some q) h y = tt
      go None h y = here (reused (c ∷ []) k u t ls) (rw (f, h) refl) n i y

  mutual
    leaves-stood : (o : Origin) (k u : ℕ) (ls : Leaves) (earlier rest : List Typed) → types c ≡ earlier ++ (types_of_leaves c k u ls earlier ++ rest) → LeavesNamed g c o k u ls → InBoth (expand_leaves g c o k u ls) → AllTyped StoodOf (types_of_leaves c k u ls earlier)
    leaves-stood o k u no_leaf earlier rest p n i = tt
    leaves-stood o k u (l ▸ ls) earlier rest p n i =
        let a : Expanded Leaf = expand_leaf g c o k u l in
        let b : Expanded Leaves = expand_leaves g c o k (u + references_leaf l) ls in
        let x : List Typed = types_of_leaf c k u l earlier in
        let y : List Typed = types_of_leaves c k (u + references_leaf l) ls (earlier ++ types_of_leaf c k u l earlier) in
        let z : (types c ≡ earlier ++ (x ++ (y ++ rest))) × (types c ≡ (earlier ++ x) ++ (y ++ rest)) = behind-these c earlier x y rest p in
        typed-app StoodOf x y (leaf-stood o k u l earlier (y ++ rest) z.0 n.0 (each-left (In gs) a.inlined b.inlined i.0, each-left (In gs) a.bundles b.bundles i.1))
        (leaves-stood o k (u + references_leaf l) ls (earlier ++ x) rest z.1 n.1 (each-right (In gs) a.inlined b.inlined i.0, each-right (In gs) a.bundles b.bundles i.1))

    leaf-stood : (o : Origin) (k u : ℕ) (l : Leaf) (earlier rest : List Typed) → types c ≡ earlier ++ (types_of_leaf c k u l earlier ++ rest) → LeafNamed g c o k u l → InBoth (expand_leaf g c o k u l) → AllTyped StoodOf (types_of_leaf c k u l earlier)
    leaf-stood o k u (ref s (inline (row t ls))) earlier rest p n i = inline-stood k u s t ls earlier rest (is_shared t) refl p n i (λ more q m j. leaves-stood (inline_type k u) k (u + 1) ls earlier more q m j)
    leaf-stood o k u (ref s (bundle (row t ls))) earlier rest p n i =
        let a : Expanded Leaves = expand_leaves g c (bundle_of k u) k (u + 1) ls in
        leaves-stood (bundle_of k u) k (u + 1) ls earlier rest p n.1 (i.0, each-left (In gs) a.bundles (entry (bundle_of k u) (generated_names (given g (bundle_of k u))) t a ∷ []) i.1)
    leaf-stood o k u (present l) earlier rest p n i = leaf-stood o k u l earlier rest p n i
    leaf-stood o k u (node (row t ls)) earlier rest p n i = leaves-stood o k u ls earlier rest p n i
    leaf-stood o k u (nodes ns) earlier rest p n i = nodes-stood o k u ns earlier rest p n i
    leaf-stood o k u (scope (scope_of kd id label ds)) earlier rest p n i = tt
    leaf-stood o k u l earlier rest p n i = tt

    nodes-stood : (o : Origin) (k u : ℕ) (ns : Nodes) (earlier rest : List Typed) → types c ≡ earlier ++ (types_of_nodes c k u ns earlier ++ rest) → NodesNamed g c o k u ns → InBoth (expand_nodes g c o k u ns) → AllTyped StoodOf (types_of_nodes c k u ns earlier)
    nodes-stood o k u no_node earlier rest p n i = tt
    nodes-stood o k u (one_node (row t ls) ns) earlier rest p n i =
        let a : Expanded Leaves = expand_leaves g c o k u ls in
        let b : Expanded Nodes = expand_nodes g c o k (u + references ls) ns in
        let x : List Typed = types_of_leaves c k u ls earlier in
        let y : List Typed = types_of_nodes c k (u + references ls) ns (earlier ++ types_of_leaves c k u ls earlier) in
        let z : (types c ≡ earlier ++ (x ++ (y ++ rest))) × (types c ≡ (earlier ++ x) ++ (y ++ rest)) = behind-these c earlier x y rest p in
        typed-app StoodOf x y (leaves-stood o k u ls earlier (y ++ rest) z.0 n.0 (each-left (In gs) a.inlined b.inlined i.0, each-left (In gs) a.bundles b.bundles i.1))
        (nodes-stood o k (u + references ls) ns (earlier ++ x) rest z.1 n.1 (each-right (In gs) a.inlined b.inlined i.0, each-right (In gs) a.bundles b.bundles i.1))

  written-stood : (k : ℕ) (ns : Names) (t : Row) (ls : Leaves) → def_at (defs_of c) k ≡ Some (define ns (row t ls)) → AllTyped StoodOf (written_type k t ls)
  written-stood k ns t ls e = go (is_shared t) refl
    where
      go : (b : Bool) → is_shared t ≡ b → AllTyped StoodOf (cond b (record { origin = written k; tag = t; leaves = ls } ∷ []) [])
      go true f = ((ns, t, ls, e, shared-declares t ls f), tt)
      go false f = tt

  defs-stood : (k : ℕ) (ds : Defs) (earlier : List Typed) → types c ≡ earlier ++ types_of_defs c k ds earlier → ((i : ℕ) → def_at (defs_of c) (k + i) ≡ def_at ds i) → DefsNamed g c k ds → EachListed (In gs) (expand_defs g c k ds) → AllTyped StoodOf (types_of_defs c k ds earlier)
  defs-stood k no_def earlier p w n i = tt
  defs-stood k (one_def (define ns (row t ls)) ds) earlier p w n i =
      let a : Expanded Leaves = expand_leaves g c (written k) k 0 ls in
      let own : List Entry = entry (written k) (given_names ns (given g (written k))) t a ∷ [] in
      let more : List Entry = expand_defs g c (k + 1) ds in
      let x : List Typed = types_of_leaves c k 0 ls earlier in
      let new : List Typed = x ++ written_type k t ls in
      let later : List Typed = types_of_defs c (k + 1) ds (earlier ++ new) in
      let z : k + 0 ≡ k = omega arith in
      let d : def_at (defs_of c) k ≡ Some (define ns (row t ls)) = subst (λ j. def_at (defs_of c) j ≡ Some (define ns (row t ls))) z (w 0) in
      let y : (types c ≡ earlier ++ (x ++ (written_type k t ls ++ later))) × (types c ≡ (earlier ++ x) ++ (written_type k t ls ++ later)) = behind-these c earlier x (written_type k t ls) later p in
      let h : EachListed (In gs) (a.inlined ++ (a.bundles ++ own)) = each-left (In gs) (a.inlined ++ (a.bundles ++ own)) more i in
      typed-app StoodOf new later
      (typed-app StoodOf x (written_type k t ls) (leaves-stood (written k) k 0 ls earlier (written_type k t ls ++ later) y.0 n.2 (each-left (In gs) a.inlined (a.bundles ++ own) h, each-left (In gs) a.bundles own (each-right (In gs) a.inlined (a.bundles ++ own) h))) (written-stood k ns t ls d))
      (defs-stood (k + 1) ds (earlier ++ new) (p ∙ sym (app-assoc earlier new later)) (λ j. ap (def_at (defs_of c)) (omega arith) ∙ w (suc j)) n.3 (each-right (In gs) (a.inlined ++ (a.bundles ++ own)) more i))

  -- what is reused, in the space of what reuses it
  pub reused-stood : DefsNamed g c 0 (defs_of c) → EachListed (In gs) (expand_defs g c 0 (defs_of c)) → (k u : ℕ) (t : Row) (ls : Leaves) (o : Origin) → reused (c ∷ []) k u t ls ≡ Some o → (s : Space) × (declares_row t ls ≡ s ∷ []) × Stood s o
  reused-stood n i k u t ls o e = go (is_shared t) refl e
    where
      all : AllTyped StoodOf (types c)
      all = defs-stood 0 (defs_of c) [] refl (λ j. ap (def_at (defs_of c)) (omega arith)) n i

      of_written : (r : Option ℕ) → reused_signature (c ∷ []) k t ls ≡ r → as_written r ≡ Some o → (s : Space) × (declares_row t ls ≡ s ∷ []) × Stood s o
      of_written None f q = absurd (cc)
      of_written (Some j) f q =
          let s : (t ≡ rows.CoreFunctionType) × SignatureAt (defs_of c) j ls = signature-at c k t ls j f in
          (CoreType, ap (λ v. declares_row v ls) s.0, subst (Stood CoreType) (some-same (written j) o q) (s.1.0, rows.CoreFunctionType, s.1.1, s.1.2, refl))

      go : (b : Bool) → is_shared t ≡ b → cond b (earlier_type (inline_type k u) t ls (types c)) (as_written (reused_signature (c ∷ []) k t ls)) ≡ Some o → (s : Space) × (declares_row t ls ≡ s ∷ []) × Stood s o
      go true f q = let x : Equal StoodOf t ls o = equal-of StoodOf (inline_type k u) t ls o (types c) all q in (Ty, shared-declares t ls f, subst (Stood Ty) x.2 x.1)
      go false f q = of_written (reused_signature (c ∷ []) k t ls) refl q

-- ---- without a list

-- a mark that can be reused, of a written definition or of an inline node
abbrev pub Reusable : Scope → Origin → Type 0
Reusable c (written j) = (d : Def) × (def_at (defs_of c) j ≡ Some d)
Reusable c (inline_type k u) = Unit {0}
Reusable c o = ⊥

module _ (c : Scope) where
  abbrev ReusableOf : Typed → Type 0
  ReusableOf x = Reusable c x.origin

  once-reusable : (k u : ℕ) (t : Row) (ls : Leaves) (new : List Typed) (o : Option Origin) → AllTyped ReusableOf new → AllTyped ReusableOf (typed_once (record { origin = inline_type k u; tag = t; leaves = ls }) new o)
  once-reusable k u t ls new (Some o) h = tt
  once-reusable k u t ls new None h = typed-app ReusableOf new (record { origin = inline_type k u; tag = t; leaves = ls } ∷ []) h (tt, tt)

  within-reusable : (o : Option ℕ) (new : List Typed) → AllTyped ReusableOf new → AllTyped ReusableOf (typed_within o new)
  within-reusable (Some j) new h = tt
  within-reusable None new h = h

  inline-reusable : (k u : ℕ) (t : Row) (ls : Leaves) (earlier new : List Typed) (b : Bool) (o : Option ℕ) → AllTyped ReusableOf new → AllTyped ReusableOf (cond b (typed_inline (record { origin = inline_type k u; tag = t; leaves = ls }) earlier new) (typed_within o new))
  inline-reusable k u t ls earlier new true o h = once-reusable k u t ls new (earlier_type (inline_type k u) t ls (earlier ++ new)) h
  inline-reusable k u t ls earlier new false o h = within-reusable o new h

  mutual
    leaves-reusable : (k u : ℕ) (ls : Leaves) (earlier : List Typed) → AllTyped ReusableOf (types_of_leaves c k u ls earlier)
    leaves-reusable k u no_leaf earlier = tt
    leaves-reusable k u (l ▸ ls) earlier = typed-app ReusableOf (types_of_leaf c k u l earlier) _ (leaf-reusable k u l earlier) (leaves-reusable k (u + references_leaf l) ls (earlier ++ types_of_leaf c k u l earlier))

    leaf-reusable : (k u : ℕ) (l : Leaf) (earlier : List Typed) → AllTyped ReusableOf (types_of_leaf c k u l earlier)
    leaf-reusable k u (ref s (inline (row t ls))) earlier = inline-reusable k u t ls earlier (types_of_leaves c k (u + 1) ls earlier) (is_shared t) (reused_signature (c ∷ []) k t ls) (leaves-reusable k (u + 1) ls earlier)
    leaf-reusable k u (ref s (bundle (row t ls))) earlier = leaves-reusable k (u + 1) ls earlier
    leaf-reusable k u (present l) earlier = leaf-reusable k u l earlier
    leaf-reusable k u (node (row t ls)) earlier = leaves-reusable k u ls earlier
    leaf-reusable k u (nodes ns) earlier = nodes-reusable k u ns earlier
    leaf-reusable k u (scope (scope_of kd id label ds)) earlier = tt
    leaf-reusable k u l earlier = tt

    nodes-reusable : (k u : ℕ) (ns : Nodes) (earlier : List Typed) → AllTyped ReusableOf (types_of_nodes c k u ns earlier)
    nodes-reusable k u no_node earlier = tt
    nodes-reusable k u (one_node (row t ls) ns) earlier = typed-app ReusableOf (types_of_leaves c k u ls earlier) _ (leaves-reusable k u ls earlier) (nodes-reusable k (u + references ls) ns (earlier ++ types_of_leaves c k u ls earlier))

  written-reusable : (k : ℕ) (d : Def) (t : Row) (ls : Leaves) → def_at (defs_of c) k ≡ Some d → AllTyped ReusableOf (written_type k t ls)
  written-reusable k d t ls e = go (is_shared t)
    where
      go : (b : Bool) → AllTyped ReusableOf (cond b (record { origin = written k; tag = t; leaves = ls } ∷ []) [])
      go true = ((d, e), tt)
      go false = tt

  defs-reusable : (k : ℕ) (ds : Defs) (earlier : List Typed) → ((i : ℕ) → def_at (defs_of c) (k + i) ≡ def_at ds i) → AllTyped ReusableOf (types_of_defs c k ds earlier)
  defs-reusable k no_def earlier w = tt
  defs-reusable k (one_def (define ns (row t ls)) ds) earlier w =
      let z : k + 0 ≡ k = omega arith in
      let d : def_at (defs_of c) k ≡ Some (define ns (row t ls)) = subst (λ j. def_at (defs_of c) j ≡ Some (define ns (row t ls))) z (w 0) in
      let x : List Typed = types_of_leaves c k 0 ls earlier in
      typed-app ReusableOf (x ++ written_type k t ls) _ (typed-app ReusableOf x (written_type k t ls) (leaves-reusable k 0 ls earlier) (written-reusable k (define ns (row t ls)) t ls d))
      (defs-reusable (k + 1) ds (earlier ++ (x ++ written_type k t ls)) (λ j. ap (def_at (defs_of c)) (omega arith) ∙ w (suc j)))

  pub reused-written : (k u : ℕ) (t : Row) (ls : Leaves) (o : Origin) → reused (c ∷ []) k u t ls ≡ Some o → Reusable c o
  reused-written k u t ls o e = go (is_shared t) e
    where
      of_written : (r : Option ℕ) → reused_signature (c ∷ []) k t ls ≡ r → as_written r ≡ Some o → Reusable c o
      of_written None f q = absurd (cc)
      of_written (Some j) f q =
          let s : SignatureAt (defs_of c) j ls = (signature-at c k t ls j f).1 in
          subst (Reusable c) (some-same (written j) o q) (define s.0 (row rows.CoreFunctionType s.1), s.2)

      go : (b : Bool) → cond b (earlier_type (inline_type k u) t ls (types c)) (as_written (reused_signature (c ∷ []) k t ls)) ≡ Some o → Reusable c o
      go true q = let x : Equal ReusableOf t ls o = equal-of ReusableOf (inline_type k u) t ls o (types c) (defs-reusable 0 (defs_of c) [] (λ j. ap (def_at (defs_of c)) (omega arith))) q in subst (Reusable c) x.2 x.1
      go false q = of_written (reused_signature (c ∷ []) k t ls) refl q
