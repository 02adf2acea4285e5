-- A search over an expanded list finds what the search over the text finds.
use Rattle.std.proofs.Common.{◌≡◌, ℕ, zero, suc, ◌+◌, ◌<◌, ◌≤◌, ◌⊎◌, inl, inr, Bool, true, false, ◌&&◌, cond, List, [], ◌∷◌, ◌++◌, Option, Some, None, refl, sym, ◌∙◌, ap, arith}
use Rattle.std.proofs.lemmas.Bool.{ltb-false, eq-eqb}
use Rattle.comp_model.specs.declared.Space.{Space}
use Rattle.comp_model.specs.declared.row.Row.TheVariants as rows
use Rattle.comp_model.specs.declared.row.Row.{Row}
use Rattle.comp_model.specs.RowNumbers.{same_row}
use Rattle.comp_model.specs.Core.{outward, own}
use Rattle.comp_model.specs.Model.{Leaves, row, define, Defs, no_def, one_def, Scope, scope_of}
use Rattle.comp_scopes.specs.Names.{Denoted, first_of_two}
use Rattle.comp_scopes.specs.Signatures.{same_written_signature, latest_equal, is_module_type, reused_signature}
use Rattle.comp_scopes.specs.Rule.{may_reach}
use Rattle.comp_scopes.specs.Outward.{leads_out}
use Rattle.comp_scopes.specs.Unmet.{Unmet, Sought, sought, sought_both, sought_one, sought_inline, sought_bundle}
use Rattle.comp_expanded.specs.Expansion.{Entry}
use Rattle.comp_expanded.proofs.Firsts.{first-assoc, first-none}
use Rattle.comp_scopes.proofs.Lookup.{some-same}

-- `F` is a search in the leaves of an expanded definition
module _ (F : Leaves → Sought) where
  -- what it finds in a list
  abbrev pub found : List Entry → Option Unmet
  found [] = None
  found (x ∷ xs) = first_of_two (sought_one (F x.leaves)) (found xs)

  pub found-app : (xs ys : List Entry) → found (xs ++ ys) ≡ first_of_two (found xs) (found ys)
  found-app [] ys = refl
  found-app (x ∷ xs) ys = ap (first_of_two (sought_one (F x.leaves))) (found-app xs ys) ∙ sym (first-assoc (sought_one (F x.leaves)) (found xs) (found ys))

  -- what is found in a part of the text, beside the definitions that stand for it and the expanded part: what is found in inline nodes,
  -- and where this is nothing, the rest; N then holds too
  abbrev pub Finds : Sought → List Entry → List Entry → Sought → Type 0 → Type 0
  Finds a is bs b N = (a.inlined ≡ found is) × (a.inlined ≡ None → (a.bundles ≡ found bs) × (a.roots ≡ b.roots) × (a.direct ≡ b.direct) × N)

  -- the expanded part has no inline nodes and no bundles
  abbrev pub Bare : Sought → Type 0
  Bare b = (b.inlined ≡ None) × (b.bundles ≡ None)

  pub finds-plain : (x : Option Unmet) (N : Type 0) → N → Finds (sought x) [] [] (sought x) N
  finds-plain x N n = (refl, λ z. (refl, refl, refl, n))

  pub finds-weaken : (a : Sought) (is bs : List Entry) (b : Sought) (N M : Type 0) → (N → M) → Finds a is bs b N → Finds a is bs b M
  finds-weaken a is bs b N M f h = (h.0, λ z. ((h.1 z).0, (h.1 z).1, (h.1 z).2, f (h.1 z).3))

  pick : (x y p q : Option Unmet) → x ≡ p → (x ≡ None → y ≡ q) → first_of_two x y ≡ first_of_two p q
  pick None y p q h f = rw (sym h, f refl) refl
  pick (Some v) y p q h f = rw (sym h) refl

  none-second : (x y : Option Unmet) → first_of_two x y ≡ None → (x ≡ None) × (y ≡ None)
  none-second None y h = (refl, h)
  none-second (Some v) y h = absurd (cc)

  pub finds-both : (a c : Sought) (is bs ks cs : List Entry) (b d : Sought) (N M : Type 0) → Finds a is bs b N → (N → Finds c ks cs d M) → Finds (sought_both a c) (is ++ ks) (bs ++ cs) (sought_both b d) (N × M)
  finds-both a c is bs ks cs b d N M h f = (
    pick a.inlined c.inlined (found is) (found ks) h.0 (λ z. (f (h.1 z).3).0) ∙ sym (found-app is ks),
    λ z. let n : (a.inlined ≡ None) × (c.inlined ≡ None) = none-second a.inlined c.inlined z in
        let i : (a.bundles ≡ found bs) × (a.roots ≡ b.roots) × (a.direct ≡ b.direct) × N = h.1 n.0 in
        let j : (c.bundles ≡ found cs) × (c.roots ≡ d.roots) × (c.direct ≡ d.direct) × M = (f i.3).1 n.1 in
        (rw (i.0, j.0) (sym (found-app bs cs)), rw (i.1, j.1) refl, rw (i.2, j.2) refl, (i.3, j.3)),
  )

  -- the definition itself
  own-finds : (b : Sought) (x : Entry) → F x.leaves ≡ b → Bare b → first_of_two b.roots b.direct ≡ found (x ∷ [])
  own-finds b x e h = rw (e, h.0, h.1) (sym (first-none (first_of_two b.roots b.direct)))

  pub finds-one : (a : Sought) (is bs : List Entry) (x : Entry) (N : Type 0) → Finds a is bs (F x.leaves) N → Bare (F x.leaves) → sought_one a ≡ found (is ++ (bs ++ x ∷ []))
  finds-one a is bs x N h w =
      pick a.inlined (first_of_two a.bundles (first_of_two a.roots a.direct)) (found is) (found (bs ++ x ∷ [])) h.0
      (λ z. let i : (a.bundles ≡ found bs) × (a.roots ≡ (F x.leaves).roots) × (a.direct ≡ (F x.leaves).direct) × N = h.1 z in rw (i.0, i.1, i.2) (ap (first_of_two (found bs)) (own-finds (F x.leaves) x refl w) ∙ sym (found-app bs (x ∷ []))))
      ∙ sym (found-app is (bs ++ x ∷ []))

  pub one-holds : (a : Sought) (is bs : List Entry) (b : Sought) (N : Type 0) → Finds a is bs b N → sought_one a ≡ None → N
  one-holds a is bs b N h z = (h.1 (none-second a.inlined (first_of_two a.bundles (first_of_two a.roots a.direct)) z).0).3

  pub finds-inline : (a : Sought) (is bs : List Entry) (x : Entry) (N : Type 0) → Finds a is bs (F x.leaves) N → Bare (F x.leaves) → Finds (sought_inline a) (is ++ (bs ++ x ∷ [])) [] (sought None) (N × (sought_one a ≡ None))
  finds-inline a is bs x N h w = (finds-one a is bs x N h w, λ z. (refl, refl, refl, (one-holds a is bs (F x.leaves) N h z, z)))

  pub finds-bundle : (a : Sought) (is bs : List Entry) (x : Entry) (N : Type 0) → Finds a is bs (F x.leaves) N → Bare (F x.leaves) → Finds (sought_bundle a) is (bs ++ x ∷ []) (sought None) N
  finds-bundle a is bs x N h w = (
    h.0,
    λ z.
        let i : (a.bundles ≡ found bs) × (a.roots ≡ (F x.leaves).roots) × (a.direct ≡ (F x.leaves).direct) × N = h.1 z in
        (rw (i.0, i.1, i.2) (ap (first_of_two (found bs)) (own-finds (F x.leaves) x refl w) ∙ sym (found-app bs (x ∷ []))), refl, refl, i.3),
  )

-- ---- a signature that is reused stands before

latest-less : (n k : ℕ) (ds : Defs) (ms : Leaves) (found : Option ℕ) (j : ℕ) → latest_equal n k ds ms found ≡ Some j → (found ≡ Some j) ⊎ (j < k + n)
latest-less zero k ds ms found j h = inl h
latest-less (suc n) k no_def ms found j h = inl h
latest-less (suc n) k (one_def (define ns (row t ls)) ds) ms found j h = go (latest-less n (k + 1) ds ms (cond (same_row t rows.CoreFunctionType && same_written_signature ls ms) (Some k) found) j h)
  where
    here : (b : Bool) → cond b (Some k) found ≡ Some j → (found ≡ Some j) ⊎ (j < k + suc n)
    here false q = inl q
    here true q = let e : k ≡ j = some-same k j q in inr (omega (arith, e))

    go : (cond (same_row t rows.CoreFunctionType && same_written_signature ls ms) (Some k) found ≡ Some j) ⊎ (j < k + 1 + n) → (found ≡ Some j) ⊎ (j < k + suc n)
    go (inl q) = here (same_row t rows.CoreFunctionType && same_written_signature ls ms) q
    go (inr q) = inr (omega (arith, q))

pub reused-less : (c : Scope) (k : ℕ) (t : Row) (ls : Leaves) (j : ℕ) → reused_signature (c ∷ []) k t ls ≡ Some j → j < k
reused-less (scope_of kd id label ds) k t ls j h = go (is_module_type kd && same_row t rows.CoreFunctionType) h
  where
    at : (None ≡ Some j) ⊎ (j < 0 + k) → j < k
    at (inl q) = absurd (cc)
    at (inr q) = omega (arith, q)

    go : (b : Bool) → cond b (latest_equal k 0 ds ls None) None ≡ Some j → j < k
    go true q = at (latest-less k 0 ds ls None j q)
    go false q = absurd (cc)

-- ---- a name that may be used

-- what leads nowhere else may be reached
pub generated_reach-reached : (b : Bool) (s : Space) (d : Denoted) → leads_out (cond b own outward) (Some d) ≡ false → may_reach (cond b own outward) s d ≡ true
generated_reach-reached true s d h = refl
generated_reach-reached false s d h = let e : d.depth ≤ 0 = ltb-false 0 d.depth h in rw (eq-eqb d.depth 0 (omega (arith, e))) refl
