-- Written definitions by their numbers, and their entries in an expanded list.
use Rattle.std.proofs.Common.{◌≡◌, ℕ, zero, suc, ◌+◌, ◌⊎◌, inl, inr, Bool, true, false, ◌&&◌, cond, List, [], ◌∷◌, ◌++◌, slice_get, Option, Some, None, IsSome, refl, sym, ◌∙◌, ap, subst, arith}
use Rattle.comp_model.specs.declared.Space.{Space}
use Rattle.comp_model.specs.declared.row.Row.TheVariants as rows
use Rattle.comp_model.specs.declared.row.Row.{Row}
use Rattle.comp_model.specs.RowNumbers.{same_row}
use Rattle.comp_model.specs.Core.{Text, Id, label_or_id}
use Rattle.comp_model.specs.Model.{Leaves, row, Names, Def, define, Defs, no_def, one_def, Scope, scope_of, kind_of, defs_of}
use Rattle.comp_model.specs.Spaces.{declares_row}
use Rattle.comp_model.specs.Origins.{written}
use Rattle.comp_model.proofs.Tests.{same_row-true}
use Rattle.comp_scopes.specs.Signatures.{same_written_signature, latest_equal, is_module_type, reused_signature}
use Rattle.comp_model.specs.ItemNames.{has_names}
use Rattle.comp_expanded.specs.Expansion.{Naming, given_to_scope, Entry, given, the_id, first_id, ids_at, with_given, given_names, Expanded, entry, expand_one, expand_leaves, expand_defs, expand}
use Rattle.comp_scopes.proofs.Lookup.{some-same}
use Rattle.comp_expanded.proofs.Parts.{declares-expand}
use Rattle.comp_model.specs.ItemNames.{has_names}
use Rattle.comp_expanded.specs.Named.{MayBeGiven, Named}
use Rattle.comp_scopes.specs.Names.{first_of_two}
use Rattle.comp_expanded.proofs.Ids.{EachListed, each-left, each-right, list-has_names}
use Rattle.comp_expanded.proofs.Ready.{In}
use Rattle.comp_scopes.proofs.Among.{and-both}

-- ---- definitions by their numbers

abbrev pub def_at : Defs → ℕ → Option Def
def_at no_def i = None
def_at (one_def d ds) zero = Some d
def_at (one_def d ds) (suc i) = def_at ds i

pub ids-of : (ds : Defs) (i : ℕ) (ns : Names) (t : Row) (ls : Leaves) → def_at ds i ≡ Some (define ns (row t ls)) → ids_at ds i ≡ ns.ids
ids-of no_def i ns t ls h = absurd (cc)
ids-of (one_def (define ms n) ds) zero ns t ls h = let e : define ms n ≡ define ns (row t ls) = some-same _ _ h in ap ids_in e
  where
    ids_in : Def → List (Option Id)
    ids_in (define vs n) = vs.ids
ids-of (one_def (define ms n) ds) (suc i) ns t ls h = ids-of ds i ns t ls h

-- the entry of a written definition
pub entry-of : (g : Naming) (c : Scope) (gs : List Entry) (k : ℕ) (ds : Defs) (i : ℕ) (ns : Names) (t : Row) (ls : Leaves) → EachListed (In gs) (expand_defs g c k ds) → def_at ds i ≡ Some (define ns (row t ls))
    → In gs (entry (written (k + i)) (given_names ns (given g (written (k + i)))) t (expand_leaves g c (written (k + i)) (k + i) 0 ls))
entry-of g c gs k no_def i ns t ls h e = absurd (cc)
entry-of g c gs k (one_def (define ms (row v vs)) ds) zero ns t ls h e =
    let q : define ms (row v vs) ≡ define ns (row t ls) = some-same _ _ e in
    let z : k + zero ≡ k = omega arith in
    let a : Expanded Leaves = expand_leaves g c (written k) k 0 vs in
    let own : List Entry = entry (written k) (given_names ms (given g (written k))) v a ∷ [] in
    let m : In gs (entry (written k) (given_names ms (given g (written k))) v a) = (each-right (In gs) a.bundles own (each-right (In gs) a.inlined (a.bundles ++ own) (each-left (In gs) (a.inlined ++ (a.bundles ++ own)) (expand_defs g c (k + 1) ds) h))).0 in
    rw z (subst (λ d. In gs (of_def d)) q m)
  where
    of_def : Def → Entry
    of_def (define xs (row y ys)) = entry (written k) (given_names xs (given g (written k))) y (expand_leaves g c (written k) k 0 ys)
entry-of g c gs k (one_def (define ms (row v vs)) ds) (suc i) ns t ls h e =
    let z : k + suc i ≡ k + 1 + i = omega arith in
    rw z (entry-of g c gs (k + 1) ds i ns t ls (each-right (In gs) (expand_one (written k) (given_names ms (given g (written k))) v (expand_leaves g c (written k) k 0 vs)) (expand_defs g c (k + 1) ds) h) e)

-- what a signature reuses
abbrev pub SignatureAt : Defs → ℕ → Leaves → Type 0
SignatureAt ds i ms = (ns : Names) × (ls : Leaves) × (def_at ds i ≡ Some (define ns (row rows.CoreFunctionType ls))) × (same_written_signature ls ms ≡ true)

later-signature : (k i j : ℕ) (d : Def) (ds : Defs) (ms : Leaves) → (j ≡ k + 1 + i) × SignatureAt ds i ms → (w : ℕ) × (j ≡ k + w) × SignatureAt (one_def d ds) w ms
later-signature k i j d ds ms h = (suc i, h.0 ∙ omega arith, h.1)

latest-at : (n k : ℕ) (ds : Defs) (ms : Leaves) (found : Option ℕ) (j : ℕ) → latest_equal n k ds ms found ≡ Some j → (found ≡ Some j) ⊎ ((i : ℕ) × (j ≡ k + i) × SignatureAt ds i ms)
latest-at zero k ds ms found j h = inl h
latest-at (suc n) k no_def ms found j h = inl h
latest-at (suc n) k (one_def (define ns (row t ls)) ds) ms found j h =
    go (latest-at n (k + 1) ds ms (cond (same_row t rows.CoreFunctionType && same_written_signature ls ms) (Some k) found) j h) (same_row t rows.CoreFunctionType && same_written_signature ls ms) refl
  where
    P : Type 0
    P = (found ≡ Some j) ⊎ ((i : ℕ) × (j ≡ k + i) × SignatureAt (one_def (define ns (row t ls)) ds) i ms)

    here : (b : Bool) → (same_row t rows.CoreFunctionType && same_written_signature ls ms) ≡ b → cond b (Some k) found ≡ Some j → P
    here false e q = inl q
    here true e q =
        let a : (same_row t rows.CoreFunctionType ≡ true) × (same_written_signature ls ms ≡ true) = and-both _ _ e in
        let v : t ≡ rows.CoreFunctionType = same_row-true t rows.CoreFunctionType a.0 in
        let z : k ≡ j = some-same k j q in
        inr (zero, sym z ∙ omega arith, (ns, ls, ap (λ y. Some (define ns (row y ls))) v, a.1))

    go : (cond (same_row t rows.CoreFunctionType && same_written_signature ls ms) (Some k) found ≡ Some j) ⊎ ((i : ℕ) × (j ≡ k + 1 + i) × SignatureAt ds i ms) → (b : Bool) → (same_row t rows.CoreFunctionType && same_written_signature ls ms) ≡ b → P
    go (inl q) b e = here b e (subst (λ v. cond v (Some k) found ≡ Some j) e q)
    go (inr q) b e = inr (later-signature k q.0 j (define ns (row t ls)) ds ms (q.1, q.2))

pub signature-at : (c : Scope) (k : ℕ) (t : Row) (ms : Leaves) (j : ℕ) → reused_signature (c ∷ []) k t ms ≡ Some j → (t ≡ rows.CoreFunctionType) × SignatureAt (defs_of c) j ms
signature-at c k t ms j h = go (is_module_type (kind_of c) && same_row t rows.CoreFunctionType) refl h
  where
    at : (None ≡ Some j) ⊎ ((i : ℕ) × (j ≡ 0 + i) × SignatureAt (defs_of c) i ms) → SignatureAt (defs_of c) j ms
    at (inl q) = absurd (cc)
    at (inr q) = let e : q.0 ≡ j = let p : j ≡ 0 + q.0 = q.1 in omega (arith, p) in subst (λ i. SignatureAt (defs_of c) i ms) e q.2

    go : (b : Bool) → (is_module_type (kind_of c) && same_row t rows.CoreFunctionType) ≡ b → cond b (latest_equal k 0 (defs_of c) ms None) None ≡ Some j → (t ≡ rows.CoreFunctionType) × SignatureAt (defs_of c) j ms
    go true e q = (same_row-true t rows.CoreFunctionType (and-both (is_module_type (kind_of c)) (same_row t rows.CoreFunctionType) e).1, at (latest-at k 0 (defs_of c) ms None j q))
    go false e q = absurd (cc)

pub first-with : (ids : List (Option Id)) (y : Option Id) → IsSome (first_id ids y) → (rest : List (Option Id)) × (with_given ids y ≡ Some (the_id (first_id ids y)) ∷ rest)
first-with [] None h = absurd (cc)
first-with (None ∷ ids) None h = absurd (cc)
first-with (Some x ∷ ids) None h = (ids, refl)
first-with [] (Some y) h = ([], refl)
first-with (None ∷ ids) (Some y) h = (ids, refl)
first-with (Some x ∷ ids) (Some y) h = (ids, refl)

-- the entry of a definition whose first part has an id
pub first-found : (g : Naming) (c : Scope) (gs : List Entry) (ds : Defs) (i : ℕ) (ns : Names) (t : Row) (ls : Leaves) → EachListed (In gs) (expand_defs g c 0 ds) → def_at ds i ≡ Some (define ns (row t ls)) → IsSome (first_id (ids_at ds i) (given g (written i)))
    → (p : ℕ) × (x : Entry) × (rest : List (Option Id)) × (slice_get gs p ≡ Some x) × (x.names.ids ≡ Some (the_id (first_id (ids_at ds i) (given g (written i)))) ∷ rest) × (declares_row x.head x.leaves ≡ declares_row t ls) × (x.origin ≡ written i)
first-found g c gs ds i ns t ls h e n =
    let z : 0 + i ≡ i = omega arith in
    let m : In gs (entry (written (0 + i)) (given_names ns (given g (written (0 + i)))) t (expand_leaves g c (written (0 + i)) (0 + i) 0 ls)) = entry-of g c gs 0 ds i ns t ls h e in
    let v : In gs (entry (written i) (given_names ns (given g (written i))) t (expand_leaves g c (written i) i 0 ls)) = subst (λ k. In gs (entry (written k) (given_names ns (given g (written k))) t (expand_leaves g c (written k) k 0 ls))) z m in
    let a : ids_at ds i ≡ ns.ids = ids-of ds i ns t ls e in
    let w : (rest : List (Option Id)) × (with_given ns.ids (given g (written i)) ≡ Some (the_id (first_id ns.ids (given g (written i)))) ∷ rest) = first-with ns.ids (given g (written i)) (subst (λ ids. IsSome (first_id ids (given g (written i)))) a n) in
    (v.0, entry (written i) (given_names ns (given g (written i))) t (expand_leaves g c (written i) i 0 ls), w.0, v.1, subst (λ ids. with_given ns.ids (given g (written i)) ≡ Some (the_id (first_id ids (given g (written i)))) ∷ w.0) (sym a) w.1, declares-expand g c (written i) i 0 t ls, refl)

-- P of the first of these spaces, where there is one and a name is exported
abbrev pub OfFirst : (Space → Type 0) → List Text → List Space → Type 0
OfFirst P [] ss = Unit {0}
OfFirst P (n ∷ ns) [] = Unit {0}
OfFirst P (n ∷ ns) (s ∷ ss) = P s

-- a given id is no name of a scope
pub name-given : (label : Option Text) (id y : Option Id) → MayBeGiven y → label_or_id label (first_of_two id y) ≡ label_or_id label id
name-given label (Some x) y h = refl
name-given label None None h = refl
name-given (Some t) None (Some y) h = refl
name-given None None (Some y) h = rw h refl

-- as many scopes of a kind, under one id and label, have a name where their definitions have
pub expand-names : (g : Naming) (c : Scope) → Named g c → has_names (expand g c) ≡ has_names c
expand-names g (scope_of kd id label ds) h = rw (name-given label id (given_to_scope g) h.2, list-has_names g (scope_of kd id label ds) (declares-expand g (scope_of kd id label ds)) ds h.0) refl

-- Q of the space and the name of each definition with inline exports
abbrev pub EachExport : (ℕ → Space → Id → Type 0) → Naming → ℕ → Defs → Type 0
EachExport Q g k no_def = Unit {0}
EachExport Q g k (one_def (define ns (row t ls)) ds) = OfFirst (λ s. Q k s (the_id (first_id ns.ids (given g (written k))))) ns.exports (declares_row t ls) × EachExport Q g (k + 1) ds
