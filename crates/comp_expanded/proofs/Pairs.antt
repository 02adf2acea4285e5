-- What a scope plans and what its expanded list plans, pair by pair: R holds of each two.
use Rattle.std.proofs.Common.{◌≡◌, ℕ, zero, suc, ◌+◌, List, [], ◌∷◌, ◌++◌, length, slice_get, slice_index, Option, Some, None, refl, sym, ◌∙◌, ap, subst, arith}
use Rattle.std.proofs.lemmas.List.{length-append, append_assoc, append-nil}
use Rattle.std.specs.List.{range_with_len}
use Rattle.comp_model.specs.declared.Space.{Space}
use Rattle.comp_model.specs.declared.row.Row.{Row}
use Rattle.comp_model.specs.Model.{Leaf, core_value, ref, present, node, nodes, scope, numeral, name, path, inline, bundle, Leaves, no_leaf, ◌▸◌, row, Nodes, no_node, one_node, Scope, scope_of}
use Rattle.comp_model.specs.Origins.{Origin, inline_type, outer_alias_of, export_step}
use Rattle.comp_scopes.specs.References.{references, references_leaf, references_nodes}
use Rattle.comp_scopes.specs.Outward.{Planned, plan_nothing, plan_both, plan_own, plan_inline, plan_bundle}
use Rattle.comp_scopes.specs.Reused.{reused}
use Rattle.comp_scopes.proofs.Filled.{at-seam}
use Rattle.comp_scopes.proofs.EachOf.{EachOf, each_of-left, each_of-right}
use Rattle.comp_scopes.proofs.Lookup.{some-same}
use Rattle.comp_expanded.specs.Expansion.{Naming, Entry, Expanded, expand_inline, expand_leaves, expand_leaf, expand_nodes}
use Rattle.comp_expanded.specs.TextNumbers.{origin_at, places_at, definition_of, mark_in_text}
use Rattle.comp_expanded.proofs.Ready.{Seated, seated-left, seated-right}

-- ---- pairs

abbrev pub Pairs : (A : Type 0) → (A → A → Type 0) → List A → List A → Type 0
Pairs A R [] [] = Unit {0}
Pairs A R [] (y ∷ ys) = ⊥
Pairs A R (x ∷ xs) [] = ⊥
Pairs A R (x ∷ xs) (y ∷ ys) = R x y × Pairs A R xs ys

pub pairs-app : (A : Type 0) (R : A → A → Type 0) (xs ys vs ws : List A) → Pairs A R xs ys → Pairs A R vs ws → Pairs A R (xs ++ vs) (ys ++ ws)
pairs-app A R [] [] vs ws a b = b
pairs-app A R [] (y ∷ ys) vs ws a b = absurd a
pairs-app A R (x ∷ xs) [] vs ws a b = absurd a
pairs-app A R (x ∷ xs) (y ∷ ys) vs ws a b = (a.0, pairs-app A R xs ys vs ws a.1 b)

-- ---- where the references of an expanded list stand in the text

pub at-origin : (gs : List Entry) (p : ℕ) (x : Entry) → slice_get gs p ≡ Some x → (origin_at gs p ≡ x.origin) × (places_at gs p ≡ x.places)
at-origin [] p x h = absurd (cc)
at-origin (y ∷ gs) zero x h = let e : y ≡ x = some-same y x h in (ap (λ (v : Entry). v.origin) e, ap (λ (v : Entry). v.places) e)
at-origin (y ∷ gs) (suc p) x h = at-origin gs p x h

-- from reference w on definition j has these places, in definition k of the text
abbrev pub AtPlace : List Entry → ℕ → ℕ → ℕ → List ℕ → Type 0
AtPlace gs j w k ps = (definition_of (origin_at gs j) ≡ k) × (front : List ℕ) × (rest : List ℕ) × (places_at gs j ≡ front ++ (ps ++ rest)) × (length front ≡ w)

pub place-left : (gs : List Entry) (j w k : ℕ) (ps qs : List ℕ) → AtPlace gs j w k (ps ++ qs) → AtPlace gs j w k ps
place-left gs j w k ps qs h = (h.0, h.1, qs ++ h.2, h.3 ∙ ap (λ v. h.1 ++ v) (append_assoc ps qs h.2), h.4)

pub place-right : (gs : List Entry) (j w k n : ℕ) (ps qs : List ℕ) → length ps ≡ n → AtPlace gs j w k (ps ++ qs) → AtPlace gs j (w + n) k qs
place-right gs j w k n ps qs e h =
    let z : length h.1 ≡ w = h.4 in
    (h.0, h.1 ++ ps, h.2, h.3 ∙ ap (λ v. h.1 ++ v) (append_assoc ps qs h.2) ∙ sym (append_assoc h.1 ps (qs ++ h.2)), length-append h.1 ps ∙ omega (arith, z, e))

place-one : (gs : List Entry) (j w k u : ℕ) → AtPlace gs j w k (u ∷ []) → slice_index (places_at gs j) w ≡ u
place-one gs j w k u h = ap (λ v. slice_index v w) h.3 ∙ at-seam h.1 u h.2 w h.4

pub alias-told : (gs : List Entry) (j w k u : ℕ) → AtPlace gs j w k (u ∷ []) → mark_in_text gs (outer_alias_of j w) ≡ outer_alias_of k u
alias-told gs j w k u h = rw (h.0, place-one gs j w k u h) refl

pub step-told : (gs : List Entry) (j w k u i : ℕ) → AtPlace gs j w k (u ∷ []) → mark_in_text gs (export_step j w i) ≡ export_step k u i
step-told gs j w k u i h = rw (h.0, place-one gs j w k u h) refl

-- as many places as references
range-length : (u n : ℕ) → length (range_with_len u n) ≡ n
range-length u zero = refl
range-length u (suc n) = ap suc (range-length (u + 1) n)

module _ (g : Naming) (c : Scope) where
  inline-places : (k u : ℕ) (s : Space) (t : Row) (r : Option Origin) (a : Expanded Leaves) → length (expand_inline g c k u s t r a).places ≡ references_leaf (expand_inline g c k u s t r a).here
  inline-places k u s t (Some o) a = refl
  inline-places k u s t None a = refl

  mutual
    pub leaves-places : (o : Origin) (k u : ℕ) (ls : Leaves) → length (expand_leaves g c o k u ls).places ≡ references (expand_leaves g c o k u ls).here
    leaves-places o k u no_leaf = refl
    leaves-places o k u (l ▸ ls) =
        let a : length (expand_leaf g c o k u l).places ≡ references_leaf (expand_leaf g c o k u l).here = leaf-places o k u l in
        let b : length (expand_leaves g c o k (u + references_leaf l) ls).places ≡ references (expand_leaves g c o k (u + references_leaf l) ls).here = leaves-places o k (u + references_leaf l) ls in
        length-append (expand_leaf g c o k u l).places (expand_leaves g c o k (u + references_leaf l) ls).places ∙ omega (arith, a, b)

    pub leaf-places : (o : Origin) (k u : ℕ) (l : Leaf) → length (expand_leaf g c o k u l).places ≡ references_leaf (expand_leaf g c o k u l).here
    leaf-places o k u (ref s (inline (row t ls))) = inline-places k u s t (reused (c ∷ []) k u t ls) (expand_leaves g c (inline_type k u) k (u + 1) ls)
    leaf-places o k u (ref s (bundle (row t ls))) = refl
    leaf-places o k u (present l) = leaf-places o k u l
    leaf-places o k u (node (row t ls)) = leaves-places o k u ls
    leaf-places o k u (nodes ns) = nodes-places o k u ns
    leaf-places o k u (scope (scope_of kd id label ds)) = refl
    leaf-places o k u (core_value v) = range-length u (references_leaf (core_value v))
    leaf-places o k u (ref s (numeral b n)) = refl
    leaf-places o k u (ref s (name q x)) = refl
    leaf-places o k u (ref s (path p)) = refl
    leaf-places o k u l = refl

    pub nodes-places : (o : Origin) (k u : ℕ) (ns : Nodes) → length (expand_nodes g c o k u ns).places ≡ references_nodes (expand_nodes g c o k u ns).here
    nodes-places o k u no_node = refl
    nodes-places o k u (one_node (row t ls) ns) =
        let a : length (expand_leaves g c o k u ls).places ≡ references (expand_leaves g c o k u ls).here = leaves-places o k u ls in
        let b : length (expand_nodes g c o k (u + references ls) ns).places ≡ references_nodes (expand_nodes g c o k (u + references ls) ns).here = nodes-places o k (u + references ls) ns in
        length-append (expand_leaves g c o k u ls).places (expand_nodes g c o k (u + references ls) ns).places ∙ omega (arith, a, b)

-- ---- what parts ask for, in the text and in the list

module _ (A : Type 0) (R : A → A → Type 0) (gs : List Entry) (lp : ℕ → ℕ → Leaves → Planned A) (lo : ℕ → Entry → List A)
    -- and what is known of what the list asks for in another respect
    (B : Type 0) (I : B → Type 0) (lm : ℕ → ℕ → Leaves → List B) (own-in : (n : ℕ) (x : Entry) → slice_get gs n ≡ Some x → EachOf I (lm n 0 x.leaves)) where
  abbrev pub At : ℕ → ℕ → ℕ → List ℕ → List B → Type 0
  At j w k ps ms = AtPlace gs j w k ps × EachOf I ms

  -- what the definitions of a list ask for, the first of which has number j
  abbrev pub told : ℕ → List Entry → List A
  told j [] = []
  told j (x ∷ xs) = plan_own (lp j 0 x.leaves) (lo j x) ++ told (j + 1) xs

  pub told-app : (j : ℕ) (xs ys : List Entry) → told j (xs ++ ys) ≡ told j xs ++ told (j + length xs) ys
  told-app j [] ys = let z : j + 0 ≡ j = omega arith in rw z refl
  told-app j (x ∷ xs) ys =
      let z : j + 1 + length xs ≡ j + length (x ∷ xs) = omega arith in
      rw (told-app (j + 1) xs ys, z) (sym (append_assoc (plan_own (lp j 0 x.leaves) (lo j x)) (told (j + 1) xs) (told (j + length (x ∷ xs)) ys)))

  -- what a part asks for, beside the definitions that stand for it and what the part itself asks for at its places
  abbrev pub Same : Planned A → List Entry → List Entry → (ℕ → ℕ → Type 0) → (ℕ → ℕ → Planned A) → Type 0
  Same p is bs T q = ((j : ℕ) → Seated gs j is → Pairs A R p.inlined (told j is)) × ((j : ℕ) → Seated gs j bs → Pairs A R p.bundles (told j bs))
      × ((j w : ℕ) → T j w → Pairs A R p.needed (q j w).needed) × ((j w : ℕ) → ((q j w).inlined ≡ []) × ((q j w).bundles ≡ []))

  pub same-plain : (T : ℕ → ℕ → Type 0) → Same plan_nothing [] [] T (λ j w. plan_nothing)
  same-plain T = (λ j h. tt, λ j h. tt, λ j w h. tt, λ j w. (refl, refl))

  pub same-both : (p r : Planned A) (is bs ks cs : List Entry) (k n : ℕ) (ps qs : List ℕ) (mq mv : ℕ → ℕ → List B) (q v : ℕ → ℕ → Planned A) → length ps ≡ n
      → Same p is bs (λ j w. At j w k ps (mq j w)) q → Same r ks cs (λ j w. At j w k qs (mv j w)) v
      → Same (plan_both p r) (is ++ ks) (bs ++ cs) (λ j w. At j w k (ps ++ qs) (mq j w ++ mv j (w + n))) (λ j w. plan_both (q j w) (v j (w + n)))
  same-both p r is bs ks cs k n ps qs mq mv q v e a b = (
    λ j h. subst (Pairs A R (p.inlined ++ r.inlined)) (sym (told-app j is ks)) (pairs-app A R p.inlined (told j is) r.inlined (told (j + length is) ks) (a.0 j (seated-left gs j is ks h)) (b.0 (j + length is) (seated-right gs j is ks h))),
    λ j h. subst (Pairs A R (p.bundles ++ r.bundles)) (sym (told-app j bs cs)) (pairs-app A R p.bundles (told j bs) r.bundles (told (j + length bs) cs) (a.1 j (seated-left gs j bs cs h)) (b.1 (j + length bs) (seated-right gs j bs cs h))),
    λ j w h. pairs-app A R p.needed (q j w).needed r.needed (v j (w + n)).needed (a.2 j w (place-left gs j w k ps qs h.0, each_of-left I (mq j w) (mv j (w + n)) h.1)) (b.2 j (w + n) (place-right gs j w k n ps qs e h.0, each_of-right I (mq j w) (mv j (w + n)) h.1)),
    λ j w. (rw ((a.3 j w).0, (b.3 j (w + n)).0) refl, rw ((a.3 j w).1, (b.3 j (w + n)).1) refl),
  )

  -- the definition itself, which stands at n
  same-own : (p : Planned A) (is bs : List Entry) (k : ℕ) (x : Entry) (own : List A) (n : ℕ) → definition_of x.origin ≡ k → Same p is bs (λ j w. At j w k x.places (lm j w x.leaves)) (λ j w. lp j w x.leaves)
      → ((m : ℕ) → slice_get gs m ≡ Some x → Pairs A R own (lo m x)) → slice_get gs n ≡ Some x → Pairs A R (p.needed ++ own) (told n (x ∷ []))
  same-own p is bs k x own n d h f e =
      let a : (origin_at gs n ≡ x.origin) × (places_at gs n ≡ x.places) = at-origin gs n x e in
      let t : At n 0 k x.places (lm n 0 x.leaves) = ((ap definition_of a.0 ∙ d, [], [], a.1 ∙ sym (append-nil x.places), refl), own-in n x e) in
      rw ((h.3 n 0).0, (h.3 n 0).1, append-nil ((lp n 0 x.leaves).needed ++ lo n x)) (pairs-app A R p.needed (lp n 0 x.leaves).needed own (lo n x) (h.2 n 0 t) (f n e))

  -- a definition or an inline node with what stands in front of it
  pub same-one : (p : Planned A) (is bs : List Entry) (k : ℕ) (x : Entry) (own : List A) (j : ℕ) → definition_of x.origin ≡ k → Same p is bs (λ j w. At j w k x.places (lm j w x.leaves)) (λ j w. lp j w x.leaves)
      → ((m : ℕ) → slice_get gs m ≡ Some x → Pairs A R own (lo m x)) → Seated gs j (is ++ (bs ++ x ∷ [])) → Pairs A R (plan_own p own) (told j (is ++ (bs ++ x ∷ [])))
  same-one p is bs k x own j d h f s =
      let s' : Seated gs (j + length is) (bs ++ x ∷ []) = seated-right gs j is (bs ++ x ∷ []) s in
      let n : ℕ = j + length is + length bs in
      let o : Pairs A R (p.needed ++ own) (told n (x ∷ [])) = same-own p is bs k x own n d h f (seated-right gs (j + length is) bs (x ∷ []) s').0 in
      let b : Pairs A R (p.bundles ++ (p.needed ++ own)) (told (j + length is) bs ++ told n (x ∷ [])) = pairs-app A R p.bundles (told (j + length is) bs) (p.needed ++ own) (told n (x ∷ [])) (h.1 (j + length is) (seated-left gs (j + length is) bs (x ∷ []) s')) o in
      subst (Pairs A R (plan_own p own)) (ap (λ v. told j is ++ v) (sym (told-app (j + length is) bs (x ∷ []))) ∙ sym (told-app j is (bs ++ x ∷ [])))
      (pairs-app A R p.inlined (told j is) (p.bundles ++ (p.needed ++ own)) (told (j + length is) bs ++ told n (x ∷ [])) (h.0 j (seated-left gs j is (bs ++ x ∷ []) s)) b)

  -- an inline node that is not reused
  pub same-inline : (p : Planned A) (is bs : List Entry) (k : ℕ) (x : Entry) (own : List A) (T : ℕ → ℕ → Type 0) → definition_of x.origin ≡ k → Same p is bs (λ j w. At j w k x.places (lm j w x.leaves)) (λ j w. lp j w x.leaves)
      → ((m : ℕ) → slice_get gs m ≡ Some x → Pairs A R own (lo m x)) → Same (plan_inline None p own) (is ++ (bs ++ x ∷ [])) [] T (λ j w. plan_nothing)
  same-inline p is bs k x own T d h f = (λ j s. same-one p is bs k x own j d h f s, λ j s. tt, λ j w s. tt, λ j w. (refl, refl))

  -- a bundle
  pub same-bundle : (p : Planned A) (is bs : List Entry) (k : ℕ) (x : Entry) (own : List A) (T : ℕ → ℕ → Type 0) → definition_of x.origin ≡ k → Same p is bs (λ j w. At j w k x.places (lm j w x.leaves)) (λ j w. lp j w x.leaves)
      → ((m : ℕ) → slice_get gs m ≡ Some x → Pairs A R own (lo m x)) → Same (plan_bundle p own) is (bs ++ x ∷ []) T (λ j w. plan_nothing)
  same-bundle p is bs k x own T d h f = (
    h.0,
    λ j s. subst (Pairs A R (p.bundles ++ (p.needed ++ own))) (sym (told-app j bs (x ∷ [])))
        (pairs-app A R p.bundles (told j bs) (p.needed ++ own) (told (j + length bs) (x ∷ [])) (h.1 j (seated-left gs j bs (x ∷ []) s)) (same-own p is bs k x own (j + length bs) d h f (seated-right gs j bs (x ∷ []) s).0)),
    λ j w s. tt,
    λ j w. (refl, refl),
  )
