-- A scope that is opened stands for the one of the model, and its items have indices.
use Rattle.std.proofs.Common.{◌≡◌, ◌<◌, ◌^◌, ℕ, suc, ◌+◌, ◌-◌, refl, sym, ap, ◌∙◌, subst, Bool, true, false, ◌&&◌, cond, List, [], ◌∷◌, ◌++◌, length, take, find, slice_index, Option, Some, None, option_map, arith, ◌⊎◌, inl, inr}
use Rattle.std.proofs.lemmas.List.{take_at, length-append}
use Rattle.comp_model.specs.Core.{Id}
use Rattle.comp_model.specs.CoreModules.{CoreModule}
use Rattle.comp_model.specs.declared.Space.{Space}
use Rattle.comp_model.specs.Model as m
use Rattle.comp_model.specs.Model.{row, define, Defs, no_def, one_def}
use Rattle.comp_model.specs.Spaces.{Declaration, parts, declarations_from, declares_row, same_space, bears}
use Rattle.comp_scopes.specs.Names.{first_of_two}
use Rattle.comp_scopes.specs.Unmet.{Unmet}
use Rattle.comp_tables.specs.Tables.{nothing_registered, all_registered, first_taken, Opened, unmet_kinds_defs}
use Rattle.comp_tables.specs.Built.{half_open, open_scope}
use Rattle.comp_tables.proofs.Names.{registered-declared}
use Rattle.wast_tokens.specs.declared.error.Error.{Error}
use Rattle.comp_tree.specs.declared.tree.Def.{Def}
use Rattle.comp_tree.specs.declared.tree.Scope.{Scope}
use Rattle.comp_tree.specs.declared.tree.Scope as s
use Rattle.comp_tree.specs.Lists.{defs_listed}
use Rattle.comp_tree.specs.Model.{id_of, lent_text, scope_of}
use Rattle.comp_tree.proofs.Leaves.{scope_fields}
use Rattle.open_scopes.specs.Registered.{item_of, Registers}
use Rattle.open_scopes.specs.declared.registry.Registry.{Registry}
use Rattle.open_scopes.specs.declared.scopes.Open.{Open}
use Rattle.open_scopes.specs.Indexed.{index_by, AreIndexed, OpenIndexed}
use Rattle.open_scopes.specs.Refusals.{refusal_of}
use Rattle.open_scopes.specs.Shown.{OpenScopesShow}
use Rattle.open_scopes.proofs.Stacks.{pushed-shows, pushed-indexed}
use Rattle.tree_names.specs.Counted.{Refused}
use Rattle.tree_resolve.specs.Entered.{Entered, unmet_opening}
use Rattle.tree_resolve.specs.Registering.{TakenFirst}
use Rattle.tree_resolve.specs.Tabled.{TableFits, Tabled}

-- ---- stacks

-- the last one of a stack
pub last-of : {A : Type 0} (xs ys : List A) (x y : A) → xs ++ x ∷ [] ≡ ys ++ y ∷ [] → (ys ≡ xs) × (y ≡ x)
last-of [] [] x y h = let a : y ≡ x = cc in (refl, a)
last-of [] (b ∷ []) x y h = absurd (cc)
last-of [] (b ∷ (d ∷ ys)) x y h = absurd (cc)
last-of (a ∷ []) [] x y h = absurd (cc)
last-of (a ∷ (d ∷ xs)) [] x y h = absurd (cc)
last-of (a ∷ xs) (b ∷ ys) x y h =
    let e : b ≡ a = cc in
    let t : xs ++ x ∷ [] ≡ ys ++ y ∷ [] = cc in
    let r = last-of xs ys x y t in
    (ap (λ z. z ∷ ys) e ∙ ap (λ zs. a ∷ zs) r.0, r.1)

-- a stack without it
pub popped : {A : Type 0} (xs ys outer : List A) (o : A) (n : ℕ) → n ≡ length xs → ys ≡ take (n - 1) xs → xs ≡ outer ++ o ∷ [] → ys ≡ outer
popped xs ys outer o n l e h =
    let a : length xs ≡ length outer + 1 = ap length h ∙ length-append outer (o ∷ []) in
    let b : n - 1 ≡ length outer = omega (arith, l, a) in
    e ∙ ap (λ k. take k xs) b ∙ ap (take (length outer)) h ∙ take_at outer (o ∷ []) (length outer) refl

-- ---- what is found among declarations has an index by a table that fits

-- it stands among those of these definitions, the first of which has number k, and there is a number for it
abbrev Fits : List ℕ → ℕ → Declaration → Type 0
Fits T k d = (j : ℕ) × (d.definition ≡ k + j) × (j < length T) × (slice_index T j + d.part < 2 ^ 32)

found-in-parts : (test : Declaration → Bool) (k p : ℕ) (ids : List (Option Id)) (ss : List Space) (more : List Declaration) (d : Declaration) → find test (parts k p ids ss ++ more) ≡ Some d
    → ((d.definition ≡ k) × (d.part < p + length ss)) ⊎ (find test more ≡ Some d)
found-in-parts test k p ids [] more d h = inr h
found-in-parts test k p [] (u ∷ ss) more d h = go test k p u ss more d (test (record { space = u; id = None; definition = k; part = p })) h (found-in-parts test k (p + 1) [] ss more d)
  where
    go : (test : Declaration → Bool) (k p : ℕ) (u : Space) (ss : List Space) (more : List Declaration) (d : Declaration) (b : Bool) → cond b (Some (record { space = u; id = None; definition = k; part = p })) (find test (parts k (p + 1) [] ss ++ more)) ≡ Some d
        → (find test (parts k (p + 1) [] ss ++ more) ≡ Some d → ((d.definition ≡ k) × (d.part < (p + 1) + length ss)) ⊎ (find test more ≡ Some d))
        → ((d.definition ≡ k) × (d.part < p + length (u ∷ ss))) ⊎ (find test more ≡ Some d)
    go test k p u ss more d true e later =
        let a : record { space = u; id = None; definition = k; part = p } ≡ d = cc in
        let q : p ≡ d.part = ap (λ z. z.part) a in
        inl (sym (ap (λ z. z.definition) a), omega (arith, q))
    go test k p u ss more d false e later = elim (later e) [
      | inl r ↦ let l = r.1 in inl (r.0, omega (arith, l))
      | inr r ↦ inr r
    ]
found-in-parts test k p (x ∷ ids) (u ∷ ss) more d h = go test k p x ids u ss more d (test (record { space = u; id = x; definition = k; part = p })) h (found-in-parts test k (p + 1) ids ss more d)
  where
    go : (test : Declaration → Bool) (k p : ℕ) (x : Option Id) (ids : List (Option Id)) (u : Space) (ss : List Space) (more : List Declaration) (d : Declaration) (b : Bool) → cond b (Some (record { space = u; id = x; definition = k; part = p })) (find test (parts k (p + 1) ids ss ++ more)) ≡ Some d
        → (find test (parts k (p + 1) ids ss ++ more) ≡ Some d → ((d.definition ≡ k) × (d.part < (p + 1) + length ss)) ⊎ (find test more ≡ Some d))
        → ((d.definition ≡ k) × (d.part < p + length (u ∷ ss))) ⊎ (find test more ≡ Some d)
    go test k p x ids u ss more d true e later =
        let a : record { space = u; id = x; definition = k; part = p } ≡ d = cc in
        let q : p ≡ d.part = ap (λ z. z.part) a in
        inl (sym (ap (λ z. z.definition) a), omega (arith, q))
    go test k p x ids u ss more d false e later = elim (later e) [
      | inl r ↦ let l = r.1 in inl (r.0, omega (arith, l))
      | inr r ↦ inr r
    ]

found-fits : (test : Declaration → Bool) (k : ℕ) (T : List ℕ) (ds : Defs) (d : Declaration) → TableFits T ds → find test (declarations_from k ds) ≡ Some d → Fits T k d
found-fits test k T no_def d f h = absurd (cc)
found-fits test k [] (one_def (define ns (row t ls)) ds) d f h = absurd f
found-fits test k (i ∷ T) (one_def (define ns (row t ls)) ds) d f h = elim (found-in-parts test k 0 ns.ids (declares_row t ls) (declarations_from (k + 1) ds) d h) [
  | inl r ↦ let a = r.0 in let b = r.1 in let c = f.0 in (0, omega (arith, a), omega arith, omega (arith, b, c))
  | inr r ↦ let q = found-fits test (k + 1) T ds d f.1 r in let a = q.1 in let b = q.2 in (suc q.0, omega (arith, a), omega (arith, b), q.3)
]

indexed : (x : m.Scope) (names : Registry) (T : List ℕ) → Registers names (all_registered nothing_registered (declarations_from 0 (m.defs_of x))) → TableFits T (m.defs_of x) → AreIndexed names T
indexed x names T reg fits u y i h =
    let o : Option Declaration = find (λ d. same_space u d.space && bears y d.id) (declarations_from 0 (m.defs_of x)) in
    go o refl (ap (option_map item_of) (sym (registered-declared x u y)) ∙ sym (reg u y) ∙ h)
  where
    go : (o : Option Declaration) → find (λ d. same_space u d.space && bears y d.id) (declarations_from 0 (m.defs_of x)) ≡ o → option_map item_of o ≡ Some i → (i.definition < length T) × (index_by T i < 2 ^ 32)
    go None f e = absurd (cc)
    go (Some d) f e =
        let q = found-fits (λ d. same_space u d.space && bears y d.id) 0 T (m.defs_of x) d fits f in
        let same : item_of d ≡ i = cc in
        let at : i.definition ≡ q.0 = sym (ap (λ z. z.definition) same) ∙ q.1 ∙ from-zero q.0 in
        let part : d.part ≡ i.part = ap (λ z. z.part) same in
        let below = q.2 in
        (subst (λ (n : ℕ). n < length T) (sym at) below, subst (λ (n : ℕ). slice_index T n + i.part < 2 ^ 32) (sym at) (subst (λ (n : ℕ). slice_index T q.0 + n < 2 ^ 32) part q.3))
      where
        from-zero : (n : ℕ) → 0 + n ≡ n
        from-zero n = omega arith

-- ---- the scope

first-none : (a b : Option Unmet) → a ≡ None → b ≡ None → first_of_two a b ≡ None
first-none a b p q = ap (λ x. first_of_two x b) p ∙ q

module _ (C : List CoreModule) (x : Scope) where
  abbrev ds : List Def
  ds = (s.out-Scope x).defs.now

  abbrev old : m.Scope
  old = m.scope_of (s.out-Scope x).kind (option_map id_of (s.out-Scope x).id) (option_map lent_text (s.out-Scope x).label) (defs_listed C ds)

  abbrev Known : Registry → Type 0
  Known r = Registers r (all_registered nothing_registered (declarations_from 0 (defs_listed C ds))) × (first_taken nothing_registered (declarations_from 0 (defs_listed C ds)) ≡ None)

  half-shows : (outer : List Open) (half : Open) (ms : List Opened) → half.id ≡ (s.out-Scope x).id → half.table.items ≡ [] → Known half.names → OpenScopesShow outer ms → OpenScopesShow (outer ++ half ∷ []) (half_open old ∷ ms)
  half-shows outer half ms i t k h = pushed-shows outer half ms (half_open old) h (record { id = ap (option_map id_of) i; names = k.0; table = t })

  pub entered : (outer opened : List Open) (half new : Open) (served : List (Option ℕ)) → half.id ≡ (s.out-Scope x).id → half.table.items ≡ [] → new.id ≡ half.id → new.names ≡ half.names → opened ≡ outer ++ new ∷ []
      → Known half.names → Tabled C (outer ++ half ∷ []) new.table.items served ds → Entered C outer opened x
  entered outer opened half new served i z j n o k t =
      let names : Known new.names = subst Known (sym n) k in
      record {
        innermost = new;
        one_more = o;
        shown = λ ms w.
            subst (λ q. OpenScopesShow opened (open_scope ms q ∷ ms)) (sym (scope_fields C x))
            (subst (λ q. OpenScopesShow q (open_scope ms old ∷ ms)) (sym o)
            (pushed-shows outer new ms (open_scope ms old) w (record { id = ap (option_map id_of) (j ∙ i); names = names.0; table = t.indices (half_open old ∷ ms) (half-shows outer half ms i z k w) })));
        indexed = λ h. subst OpenIndexed (sym o) (pushed-indexed outer new h (indexed old new.names new.table.items names.0 t.fits));
        known = λ ms w.
            ap (λ q. unmet_opening q ms) (scope_fields C x)
            ∙ first-none (first_taken nothing_registered (declarations_from 0 (defs_listed C ds))) (unmet_kinds_defs (half_open old ∷ ms) (defs_listed C ds)) k.1 (t.known (half_open old ∷ ms) (half-shows outer half ms i z k w));
      }

  -- refused by an id that is borne twice, or by what is counted
  pub taken-refused : (outer : List Open) (r : Error) → TakenFirst (declarations_from 0 (defs_listed C ds)) r → Refused outer (unmet_opening (scope_of C x)) r
  taken-refused outer r (inl h) = inl h
  taken-refused outer r (inr h) = inr (λ ms w. ap (λ q. option_map refusal_of (unmet_opening q ms)) (scope_fields C x) ∙ front (first_taken nothing_registered (declarations_from 0 (defs_listed C ds))) (unmet_kinds_defs (half_open old ∷ ms) (defs_listed C ds)) h)
    where
      front : (a b : Option Unmet) → option_map refusal_of a ≡ Some r → option_map refusal_of (first_of_two a b) ≡ Some r
      front None b h = absurd (cc)
      front (Some y) b h = h

  pub kinds-refused : (outer : List Open) (half : Open) (r : Error) → half.id ≡ (s.out-Scope x).id → half.table.items ≡ [] → Known half.names → Refused (outer ++ half ∷ []) (λ ms. unmet_kinds_defs ms (defs_listed C ds)) r → Refused outer (unmet_opening (scope_of C x)) r
  kinds-refused outer half r i z k (inl h) = inl h
  kinds-refused outer half r i z k (inr h) = inr (λ ms w.
      ap (λ q. option_map refusal_of (unmet_opening q ms)) (scope_fields C x)
      ∙ ap (λ q. option_map refusal_of (first_of_two q (unmet_kinds_defs (half_open old ∷ ms) (defs_listed C ds)))) k.1
      ∙ h (half_open old ∷ ms) (half-shows outer half ms i z k w))
