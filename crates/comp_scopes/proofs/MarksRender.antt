-- The marks of a form are those that its scope asks for.
use Rattle.std.proofs.Common.{◌≡◌, ◌≢◌, ℕ, suc, ◌+◌, ◌≤◌, Bool, true, false, List, [], ◌∷◌, ◌++◌, length, map, slice_get, Some, refl, sym, ◌∙◌, ap, subst, arith}
use Rattle.comp_model.specs.declared.Space.{Space}
use Rattle.comp_model.specs.declared.row.Row.{Row}
use Rattle.comp_model.specs.Core.{Text}
use Rattle.comp_model.specs.Model.{Leaves, Node, row, define, Defs, no_def, one_def, Scope, scope_of, defs_of}
use Rattle.comp_model.specs.Spaces.{declares_row}
use Rattle.comp_model.specs.Origins.{Origin, written, inline_type, bundle_of, inline_export, export_step, outer_alias_of, name_section}
use Rattle.comp_model.proofs.Tests.{same_origin-refl}
use Rattle.comp_scopes.specs.Encoding.{Encoding}
use Rattle.comp_scopes.specs.References.{references}
use Rattle.comp_model.specs.ItemNames.{has_names}
use Rattle.comp_scopes.specs.Plan.{plan_leaves, marks, before}
use Rattle.comp_scopes.specs.Form.{mark_of, spaces_of, Made, Formed, own_made, form_one, form_exports_of, form_exports, form_names, section_payload, coded_node, form_defs, form_leaves, binary_defs, origins_of, built}
use Rattle.comp_scopes.specs.Rowed.{ExportsRowed, DefsRowed}
use Rattle.comp_scopes.specs.Renders.{placed, OneEach, AllMade, item, written_of, written_in, numbered, MarksDistinct, ExportsOfStand, ExportsStand, exports_at, ExportNamed, NameStands, NamesLast, MarksRender}
use Rattle.comp_scopes.proofs.Counting.{hit, times, total, AllIn, Distinct}
use Rattle.comp_scopes.proofs.Marks.{Within, fine-leaves}
use Rattle.comp_scopes.proofs.Formed.{leaves-marks, declares-form, declares-coded}
use Rattle.comp_scopes.proofs.Lookup.{the_item, Sits, made-left, made-right, made-app, made-weaken, built-item, built-distinct}
use Rattle.comp_scopes.proofs.HeldAlone.{built-alone}
use Rattle.comp_scopes.proofs.Each.{Each, one-each, each-one, defs-sit, exports-sit}
use Rattle.comp_scopes.proofs.Uses.{each-used}

pub placed-same : (ms : List Made) → placed (binary_defs ms) (origins_of ms) ≡ ms
placed-same [] = refl
placed-same (m ∷ ms) = ap (λ r. m ∷ r) (placed-same ms)

pub one-mark_each : (ms : List Made) → OneEach (binary_defs ms) (origins_of ms)
one-mark_each [] = tt
one-mark_each (m ∷ ms) = one-mark_each ms

all-distinct : (o : Origin) (ms : List Made) → AllIn (λ q. o ≢ q) (map mark_of ms) → AllMade (λ n. o ≢ n.origin) ms
all-distinct o [] h = tt
all-distinct o (m ∷ ms) h = (h.0, all-distinct o ms h.1)

distinct-marks : (ms : List Made) → Distinct (map mark_of ms) → MarksDistinct ms
distinct-marks [] h = tt
distinct-marks (m ∷ ms) h = (all-distinct m.origin ms h.0, distinct-marks ms h.1)

-- ---- the marks in front of a definition's own lie within it

hit-one : (o : Origin) → 1 ≤ hit o o
hit-one o = rw (same_origin-refl o) (omega arith)

all-within : (P : Origin → Type 0) (ms : List Made) → ((o : Origin) → 1 ≤ times o (map mark_of ms) → P o) → AllMade (λ m. P m.origin) ms
all-within P [] h = tt
all-within P (m ∷ ms) h = (h m.origin (let a : 1 ≤ hit m.origin m.origin = hit-one m.origin in omega (arith, a)), all-within P ms (λ o q. h o (more o q)))
  where
    more : (o : Origin) → 1 ≤ times o (map mark_of ms) → 1 ≤ hit o m.origin + times o (map mark_of ms)
    more o q = omega (arith, q)

module _ (e : Encoding) where
  pub front-within : (st : List Scope) (k u : ℕ) (ls : Leaves) → Each (λ m. Within k u (u + references ls) m.origin) (form_leaves e st k u ls)
  front-within st k u ls = (
    all-within (Within k u (u + references ls)) (form_leaves e st k u ls).inlined (λ o q. (fine-leaves st k u ls o).1 (first o (subst (λ ms. 1 ≤ times o ms) (leaves-marks e st k u ls).0 q))),
    all-within (Within k u (u + references ls)) (form_leaves e st k u ls).bundles (λ o q. (fine-leaves st k u ls o).1 (second o (subst (λ ms. 1 ≤ times o ms) (leaves-marks e st k u ls).1 q))),
    all-within (Within k u (u + references ls)) (form_leaves e st k u ls).needed (λ o q. (fine-leaves st k u ls o).1 (third o (subst (λ ms. 1 ≤ times o ms) (leaves-marks e st k u ls).2 q))),
  )
    where
      first : (o : Origin) → 1 ≤ times o (plan_leaves st k u ls).inlined → 1 ≤ total o (plan_leaves st k u ls)
      first o q = omega (arith, q)

      second : (o : Origin) → 1 ≤ times o (plan_leaves st k u ls).bundles → 1 ≤ total o (plan_leaves st k u ls)
      second o q = omega (arith, q)

      third : (o : Origin) → 1 ≤ times o (plan_leaves st k u ls).needed → 1 ≤ total o (plan_leaves st k u ls)
      third o q = omega (arith, q)

  -- ---- the marks `written` are those of the definitions, in order

  written_in-app : (xs ys : List Made) → written_in (xs ++ ys) ≡ written_in xs ++ written_in ys
  written_in-app [] ys = refl
  written_in-app (x ∷ xs) ys = rw (written_in-app xs ys) (sym (app_assoc (written_of x.origin) (written_in xs) (written_in ys)))
    where
      app_assoc : (a b c : List ℕ) → (a ++ b) ++ c ≡ a ++ (b ++ c)
      app_assoc [] b c = refl
      app_assoc (x ∷ a) b c = ap (λ r. x ∷ r) (app_assoc a b c)

  within-written : (k u v : ℕ) (o : Origin) → Within k u v o → written_of o ≡ []
  within-written k u v (written j) h = absurd h
  within-written k u v o h = refl

  none-written : (k u v : ℕ) (ms : List Made) → AllMade (λ m. Within k u v m.origin) ms → written_in ms ≡ []
  none-written k u v [] h = refl
  none-written k u v (m ∷ ms) h = rw (none-written k u v ms h.1, within-written k u v m.origin h.0) refl

  defs-written : (st : List Scope) (k : ℕ) (ds : Defs) → written_in (form_defs e st k ds) ≡ numbered k ds
  defs-written st k no_def = refl
  defs-written st k (one_def (define names (row t ls)) ds) =
      let a : Formed Leaves = form_leaves e st k 0 ls in
      let m : Made = own_made (written k) (coded_node e t ls) a in
      let h : Each (λ m. Within k 0 (0 + references ls) m.origin) a = front-within st k 0 ls in
      let x : written_in a.inlined ≡ [] = none-written k 0 (0 + references ls) a.inlined h.0 in
      let y : written_in a.bundles ≡ [] = none-written k 0 (0 + references ls) a.bundles h.1 in
      let z : written_in a.needed ≡ [] = none-written k 0 (0 + references ls) a.needed h.2 in
      let q : written_in (form_one (written k) (coded_node e t ls) a) ≡ k ∷ [] =
      written_in-app a.inlined (a.bundles ++ (a.needed ++ m ∷ [])) ∙ rw x (written_in-app a.bundles (a.needed ++ m ∷ []) ∙ rw y (written_in-app a.needed (m ∷ []) ∙ rw z refl)) in
      written_in-app (form_one (written k) (coded_node e t ls) (form_leaves e st k 0 ls)) (form_defs e st (k + 1) ds) ∙ rw (q, defs-written st (k + 1) ds) refl

  exports_of-written : (st : List Scope) (k j : ℕ) (xs : List Text) (ss : List Space) → written_in (form_exports_of st k j xs ss) ≡ []
  exports_of-written st k j [] ss = refl
  exports_of-written st k j (x ∷ xs) [] = refl
  exports_of-written st k j (x ∷ xs) (s ∷ ss) = exports_of-written st k (j + 1) xs (s ∷ ss)

  exports-written : (st : List Scope) (k : ℕ) (ds : Defs) → written_in (form_exports st k ds) ≡ []
  exports-written st k no_def = refl
  exports-written st k (one_def (define names (row t ls)) ds) =
      written_in-app (form_exports_of st k 0 names.exports (declares_row t ls)) (form_exports st (k + 1) ds) ∙ rw (exports_of-written st k 0 names.exports (declares_row t ls), exports-written st (k + 1) ds) refl

  names-written : (st : List Scope) (c : Scope) (b : Bool) → written_in (form_names st c b) ≡ []
  names-written st c true = refl
  names-written st c false = refl

  app-nil : (xs : List ℕ) → xs ++ [] ≡ xs
  app-nil [] = refl
  app-nil (x ∷ xs) = ap (λ r. x ∷ r) (app-nil xs)

  built-written : (st : List Scope) (c : Scope) → written_in (built e st c) ≡ numbered 0 (defs_of c)
  built-written st (scope_of k id label ds) =
      let x : written_in (form_exports (scope_of k id label ds ∷ st) 0 ds ++ form_names st (scope_of k id label ds) (has_names (scope_of k id label ds))) ≡ [] =
      written_in-app (form_exports (scope_of k id label ds ∷ st) 0 ds) (form_names st (scope_of k id label ds) (has_names (scope_of k id label ds)))
      ∙ rw (exports-written (scope_of k id label ds ∷ st) 0 ds, names-written st (scope_of k id label ds) (has_names (scope_of k id label ds))) refl in
      written_in-app (form_defs e (scope_of k id label ds ∷ st) 0 ds) (form_exports (scope_of k id label ds ∷ st) 0 ds ++ form_names st (scope_of k id label ds) (has_names (scope_of k id label ds)))
      ∙ rw (defs-written (scope_of k id label ds ∷ st) 0 ds, x) (app-nil (numbered 0 ds))

  -- ---- inline exports: `p`, `m` are where definition k is written

  exports_of-stand : (st : List Scope) (c : Scope) (k j : ℕ) (xs : List Text) (ss : List Space) (p : ℕ) (m : Made) → slice_get (built e st c) p ≡ Some m → m.origin ≡ written k → spaces_of m.made ≡ ss
      → ExportsRowed xs ss → AllMade (Sits (built e st c)) (form_exports_of (c ∷ st) k j xs ss) → ExportsOfStand (built e st c) k j xs
  exports_of-stand st c k j [] ss p m g f i r h = tt
  exports_of-stand st c k j (x ∷ xs) [] p m g f i r h = absurd r
  exports_of-stand st c k j (x ∷ xs) (s ∷ ss) p m g f i r h =
      let one : spaces_of m.made ≡ s ∷ [] = i ∙ ap (λ q. s ∷ q) r in
      let q : item (built e st c) s (before s (written k) (marks (c ∷ st))) ≡ Some (the_item s p 0) = subst (λ o. item (built e st c) s (before s o (marks (c ∷ st))) ≡ Some (the_item s p 0)) f (built-item e st c p m s g one) in (
        record { position = h.0.0; space = s; index = before s (written k) (marks (c ∷ st)); stands = h.0.1; declaration = the_item s p 0; found = m; declared = q; found_there = g; is_written = f },
        exports_of-stand st c k (j + 1) xs (s ∷ ss) p m g f i (rest xs r) h.1,
      )
    where
      rest : (ys : List Text) → ss ≡ [] → ExportsRowed ys (s ∷ ss)
      rest [] q = tt
      rest (y ∷ ys) q = q

  exports-stand : (st : List Scope) (c : Scope) (k : ℕ) (ds : Defs) → DefsRowed ds → AllMade (Sits (built e st c)) (form_defs e (c ∷ st) k ds) → AllMade (Sits (built e st c)) (form_exports (c ∷ st) k ds) → ExportsStand (built e st c) k ds
  exports-stand st c k no_def r h g = tt
  exports-stand st c k (one_def (define names (row t ls)) ds) r h g =
      let a : Formed Leaves = form_leaves e (c ∷ st) k 0 ls in
      let m : Made = own_made (written k) (coded_node e t ls) a in
      let one : AllMade (Sits (built e st c)) (form_one (written k) (coded_node e t ls) a) = made-left (Sits (built e st c)) (form_one (written k) (coded_node e t ls) a) (form_defs e (c ∷ st) (k + 1) ds) h in
      let mine : Sits (built e st c) m = (one-each (Sits (built e st c)) (written k) (coded_node e t ls) a one).1 in (
        exports_of-stand st c k 0 names.exports (declares_row t ls) mine.0 m mine.1 refl (declares-coded e t ls a.here (declares-form e (c ∷ st) k 0 t ls)) r.0
            (made-left (Sits (built e st c)) (form_exports_of (c ∷ st) k 0 names.exports (declares_row t ls)) (form_exports (c ∷ st) (k + 1) ds) g),
        exports-stand st c (k + 1) ds r.4 (made-right (Sits (built e st c)) (form_one (written k) (coded_node e t ls) a) (form_defs e (c ∷ st) (k + 1) ds) h)
            (made-right (Sits (built e st c)) (form_exports_of (c ∷ st) k 0 names.exports (declares_row t ls)) (form_exports (c ∷ st) (k + 1) ds) g),
      )

  -- there are no others
  within-named : (ds : Defs) (k u v : ℕ) (o : Origin) → Within k u v o → ExportNamed ds o
  within-named ds k u v (inline_export j n) h = absurd h
  within-named ds k u v o h = tt

  named-one : (all : Defs) (st : List Scope) (k : ℕ) (t : Row) (ls : Leaves) → AllMade (λ m. ExportNamed all m.origin) (form_one (written k) (coded_node e t ls) (form_leaves e st k 0 ls))
  named-one all st k t ls =
      let a : Formed Leaves = form_leaves e st k 0 ls in
      let h : Each (λ m. Within k 0 (0 + references ls) m.origin) a = front-within st k 0 ls in
      let f : (m : Made) → Within k 0 (0 + references ls) m.origin → ExportNamed all m.origin = λ m q. within-named all k 0 (0 + references ls) m.origin q in
      each-one (λ m. ExportNamed all m.origin) (written k) (coded_node e t ls) (form_leaves e st k 0 ls) (
        made-weaken (λ m. Within k 0 (0 + references ls) m.origin) (λ m. ExportNamed all m.origin) f a.inlined h.0,
        made-weaken (λ m. Within k 0 (0 + references ls) m.origin) (λ m. ExportNamed all m.origin) f a.bundles h.1,
        made-weaken (λ m. Within k 0 (0 + references ls) m.origin) (λ m. ExportNamed all m.origin) f a.needed h.2,
      ) tt

  named-defs : (all : Defs) (st : List Scope) (k : ℕ) (ds : Defs) → AllMade (λ m. ExportNamed all m.origin) (form_defs e st k ds)
  named-defs all st k no_def = tt
  named-defs all st k (one_def (define names (row t ls)) ds) =
      made-app (λ m. ExportNamed all m.origin) (form_one (written k) (coded_node e t ls) (form_leaves e st k 0 ls)) (form_defs e st (k + 1) ds) (named-one all st k t ls) (named-defs all st (k + 1) ds)

  named-exports_of : (all : Defs) (st : List Scope) (k j : ℕ) (xs : List Text) (ss : List Space) → j + length xs ≡ length (exports_at all k) → AllMade (λ m. ExportNamed all m.origin) (form_exports_of st k j xs ss)
  named-exports_of all st k j [] ss h = tt
  named-exports_of all st k j (x ∷ xs) [] h = tt
  named-exports_of all st k j (x ∷ xs) (s ∷ ss) h = (omega (arith, h), named-exports_of all st k (j + 1) xs (s ∷ ss) (omega (arith, h)))

  named-exports : (all : Defs) (st : List Scope) (k : ℕ) (ds : Defs) → ((i : ℕ) → exports_at all (k + i) ≡ exports_at ds i) → AllMade (λ m. ExportNamed all m.origin) (form_exports st k ds)
  named-exports all st k no_def h = tt
  named-exports all st k (one_def (define names (row t ls)) ds) h =
      let z : k + 0 ≡ k = omega arith in
      let f : exports_at all k ≡ names.exports = subst (λ i. exports_at all i ≡ names.exports) z (h 0) in
      let y : 0 + length names.exports ≡ length names.exports = omega arith in
      made-app (λ m. ExportNamed all m.origin) (form_exports_of st k 0 names.exports (declares_row t ls)) (form_exports st (k + 1) ds)
      (named-exports_of all st k 0 names.exports (declares_row t ls) (y ∙ ap length (sym f)))
      (named-exports all st (k + 1) ds (λ i. (let x : k + 1 + i ≡ k + suc i = omega arith in ap (exports_at all) x ∙ h (suc i))))

  named-names : (all : Defs) (st : List Scope) (c : Scope) (b : Bool) → AllMade (λ m. ExportNamed all m.origin) (form_names st c b)
  named-names all st c true = (tt, tt)
  named-names all st c false = tt

  all-named : (st : List Scope) (c : Scope) → AllMade (λ m. ExportNamed (defs_of c) m.origin) (built e st c)
  all-named st (scope_of k id label ds) =
      made-app (λ m. ExportNamed ds m.origin) (form_defs e (scope_of k id label ds ∷ st) 0 ds) (form_exports (scope_of k id label ds ∷ st) 0 ds ++ form_names st (scope_of k id label ds) (has_names (scope_of k id label ds)))
      (named-defs ds (scope_of k id label ds ∷ st) 0 ds)
      (made-app (λ m. ExportNamed ds m.origin) (form_exports (scope_of k id label ds ∷ st) 0 ds) (form_names st (scope_of k id label ds) (has_names (scope_of k id label ds)))
      (named-exports ds (scope_of k id label ds ∷ st) 0 ds (λ i. (let z : 0 + i ≡ i = omega arith in ap (exports_at ds) z))) (named-names ds st (scope_of k id label ds) (has_names (scope_of k id label ds))))

  -- ---- the name section is last

  abbrev NotNames : Origin → Type 0
  NotNames name_section = ⊥
  NotNames (written k) = Unit {0}
  NotNames (inline_type k u) = Unit {0}
  NotNames (bundle_of k u) = Unit {0}
  NotNames (inline_export k j) = Unit {0}
  NotNames (export_step k u i) = Unit {0}
  NotNames (outer_alias_of k u) = Unit {0}

  within-not_names : (k u v : ℕ) (o : Origin) → Within k u v o → NotNames o
  within-not_names k u v name_section h = h
  within-not_names k u v (inline_export j n) h = absurd h
  within-not_names k u v (written j) h = absurd h
  within-not_names k u v (inline_type j w) h = tt
  within-not_names k u v (bundle_of j w) h = tt
  within-not_names k u v (export_step j w i) h = tt
  within-not_names k u v (outer_alias_of j w) h = tt

  not_names-stands : (c : Scope) (rest : List Made) (n : Node) (o : Origin) → NotNames o → NameStands c rest n o
  not_names-stands c rest n name_section h = absurd h
  not_names-stands c rest n (written k) h = tt
  not_names-stands c rest n (inline_type k u) h = tt
  not_names-stands c rest n (bundle_of k u) h = tt
  not_names-stands c rest n (inline_export k j) h = tt
  not_names-stands c rest n (export_step k u i) h = tt
  not_names-stands c rest n (outer_alias_of k u) h = tt

  names-behind : (c : Scope) (xs ys : List Made) → AllMade (λ m. NotNames m.origin) xs → NamesLast c ys → NamesLast c (xs ++ ys)
  names-behind c [] ys h g = g
  names-behind c (x ∷ xs) ys h g = (not_names-stands c (xs ++ ys) x.made x.origin h.0, names-behind c xs ys h.1 g)

  not_names-defs : (st : List Scope) (k : ℕ) (ds : Defs) → AllMade (λ m. NotNames m.origin) (form_defs e st k ds)
  not_names-defs st k no_def = tt
  not_names-defs st k (one_def (define names (row t ls)) ds) =
      let a : Formed Leaves = form_leaves e st k 0 ls in
      let h : Each (λ m. Within k 0 (0 + references ls) m.origin) a = front-within st k 0 ls in
      let f : (m : Made) → Within k 0 (0 + references ls) m.origin → NotNames m.origin = λ m q. within-not_names k 0 (0 + references ls) m.origin q in
      made-app (λ m. NotNames m.origin) (form_one (written k) (coded_node e t ls) (form_leaves e st k 0 ls)) (form_defs e st (k + 1) ds)
      (each-one (λ m. NotNames m.origin) (written k) (coded_node e t ls) (form_leaves e st k 0 ls) (
        made-weaken (λ m. Within k 0 (0 + references ls) m.origin) (λ m. NotNames m.origin) f a.inlined h.0,
        made-weaken (λ m. Within k 0 (0 + references ls) m.origin) (λ m. NotNames m.origin) f a.bundles h.1,
        made-weaken (λ m. Within k 0 (0 + references ls) m.origin) (λ m. NotNames m.origin) f a.needed h.2,
      ) tt)
      (not_names-defs st (k + 1) ds)

  not_names-exports_of : (st : List Scope) (k j : ℕ) (xs : List Text) (ss : List Space) → AllMade (λ m. NotNames m.origin) (form_exports_of st k j xs ss)
  not_names-exports_of st k j [] ss = tt
  not_names-exports_of st k j (x ∷ xs) [] = tt
  not_names-exports_of st k j (x ∷ xs) (s ∷ ss) = (tt, not_names-exports_of st k (j + 1) xs (s ∷ ss))

  not_names-exports : (st : List Scope) (k : ℕ) (ds : Defs) → AllMade (λ m. NotNames m.origin) (form_exports st k ds)
  not_names-exports st k no_def = tt
  not_names-exports st k (one_def (define names (row t ls)) ds) =
      made-app (λ m. NotNames m.origin) (form_exports_of st k 0 names.exports (declares_row t ls)) (form_exports st (k + 1) ds) (not_names-exports_of st k 0 names.exports (declares_row t ls)) (not_names-exports st (k + 1) ds)

  names-end : (st : List Scope) (c : Scope) (b : Bool) → has_names c ≡ b → NamesLast c (form_names st c b)
  names-end st c true h = (record { is_last = refl; named = h; payload = section_payload st c; is_custom = refl }, tt)
  names-end st c false h = tt

  names-last : (st : List Scope) (c : Scope) → NamesLast c (built e st c)
  names-last st (scope_of k id label ds) =
      names-behind (scope_of k id label ds) (form_defs e (scope_of k id label ds ∷ st) 0 ds) (form_exports (scope_of k id label ds ∷ st) 0 ds ++ form_names st (scope_of k id label ds) (has_names (scope_of k id label ds)))
      (not_names-defs (scope_of k id label ds ∷ st) 0 ds)
      (names-behind (scope_of k id label ds) (form_exports (scope_of k id label ds ∷ st) 0 ds) (form_names st (scope_of k id label ds) (has_names (scope_of k id label ds)))
      (not_names-exports (scope_of k id label ds ∷ st) 0 ds) (names-end st (scope_of k id label ds) (has_names (scope_of k id label ds)) refl))

  -- all that the marks alone say
  pub marks-render : (st : List Scope) (c : Scope) → DefsRowed (defs_of c) → MarksRender c (defs_of c) (built e st c)
  marks-render st c r = record {
    written = built-written st c;
    distinct = distinct-marks (built e st c) (built-distinct e st c);
    exported = exports-stand st c 0 (defs_of c) r (defs-sit e st c) (exports-sit e st c);
    named = all-named st c;
    used = each-used e st c r;
    last = names-last st c;
    held = built-alone e st c r;
  }
