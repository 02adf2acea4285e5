-- A condition on all that a leaf plans: its inline nodes, its bundles and its needs.
use Rattle.std.proofs.Common.{ℕ, List, [], ◌∷◌, ◌++◌}
use Rattle.comp_model.specs.declared.Space.{Space}
use Rattle.comp_model.specs.declared.row.Row.{Row}
use Rattle.comp_model.specs.Model.{Leaves, Node, row, Scope, scope_of, defs_of}
use Rattle.comp_model.specs.Origins.{Origin, bundle_of}
use Rattle.comp_scopes.specs.Encoding.{Encoding}
use Rattle.comp_model.specs.ItemNames.{has_names}
use Rattle.comp_scopes.specs.Form.{Made, Formed, form_both, own_made, form_one, form_bundle, form_defs, form_exports, form_names, built}
use Rattle.comp_scopes.specs.Renders.{AllMade}
use Rattle.comp_scopes.proofs.Lookup.{made-left, made-right, made-app, made-weaken, Sits, sits-self}

abbrev pub Each : (Made → Type 0) → {H : Type 0} → Formed H → Type 0
Each P a = AllMade P a.inlined × AllMade P a.bundles × AllMade P a.needed

pub each-left : (P : Made → Type 0) {F G H : Type 0} (f : F → G → H) (a : Formed F) (b : Formed G) → Each P (form_both f a b) → Each P a
each-left P f a b h = (made-left P a.inlined b.inlined h.0, made-left P a.bundles b.bundles h.1, made-left P a.needed b.needed h.2)

pub each-right : (P : Made → Type 0) {F G H : Type 0} (f : F → G → H) (a : Formed F) (b : Formed G) → Each P (form_both f a b) → Each P b
each-right P f a b h = (made-right P a.inlined b.inlined h.0, made-right P a.bundles b.bundles h.1, made-right P a.needed b.needed h.2)

pub each-both : (P : Made → Type 0) {F G H : Type 0} (f : F → G → H) (a : Formed F) (b : Formed G) → Each P a → Each P b → Each P (form_both f a b)
each-both P f a b x y = (made-app P a.inlined b.inlined x.0 y.0, made-app P a.bundles b.bundles x.1 y.1, made-app P a.needed b.needed x.2 y.2)

pub each-weaken : (P Q : Made → Type 0) → ((m : Made) → P m → Q m) → {H : Type 0} (a : Formed H) → Each P a → Each Q a
each-weaken P Q f a h = (made-weaken P Q f a.inlined h.0, made-weaken P Q f a.bundles h.1, made-weaken P Q f a.needed h.2)

-- bundles, needs and its own
pub last-of : (P : Made → Type 0) (xs ys : List Made) (m : Made) → AllMade P (xs ++ (ys ++ m ∷ [])) → AllMade P xs × AllMade P ys × P m
last-of P xs ys m h = let r : AllMade P (ys ++ m ∷ []) = made-right P xs (ys ++ m ∷ []) h in (made-left P xs (ys ++ m ∷ []) h, made-left P ys (m ∷ []) r, (made-right P ys (m ∷ []) r).0)

pub of-last : (P : Made → Type 0) (xs ys : List Made) (m : Made) → AllMade P xs → AllMade P ys → P m → AllMade P (xs ++ (ys ++ m ∷ []))
of-last P xs ys m x y p = made-app P xs (ys ++ m ∷ []) x (made-app P ys (m ∷ []) y (p, tt))

pub one-each : (P : Made → Type 0) (o : Origin) (n : Leaves → Node) (a : Formed Leaves) → AllMade P (form_one o n a) → Each P a × P (own_made o n a)
one-each P o n a h =
    let r : AllMade P a.bundles × AllMade P a.needed × P (own_made o n a) = last-of P a.bundles a.needed (own_made o n a) (made-right P a.inlined (a.bundles ++ (a.needed ++ own_made o n a ∷ [])) h) in
    ((made-left P a.inlined (a.bundles ++ (a.needed ++ own_made o n a ∷ [])) h, r.0, r.1), r.2)

pub each-one : (P : Made → Type 0) (o : Origin) (n : Leaves → Node) (a : Formed Leaves) → Each P a → P (own_made o n a) → AllMade P (form_one o n a)
each-one P o n a h p = made-app P a.inlined (a.bundles ++ (a.needed ++ own_made o n a ∷ [])) h.0 (of-last P a.bundles a.needed (own_made o n a) h.1 h.2 p)

pub bundle-each : (P : Made → Type 0) (st : List Scope) (k u : ℕ) (s : Space) (t : Row) (a : Formed Leaves) → Each P (form_bundle st k u s t a) → Each P a × P (own_made (bundle_of k u) (row t) a)
bundle-each P st k u s t a h =
    let r : AllMade P a.bundles × AllMade P a.needed × P (own_made (bundle_of k u) (row t) a) = last-of P a.bundles a.needed (own_made (bundle_of k u) (row t) a) h.1 in
    ((h.0, r.0, r.1), r.2)

pub each-bundle : (P : Made → Type 0) (st : List Scope) (k u : ℕ) (s : Space) (t : Row) (a : Formed Leaves) → Each P a → P (own_made (bundle_of k u) (row t) a) → Each P (form_bundle st k u s t a)
each-bundle P st k u s t a h p = (h.0, of-last P a.bundles a.needed (own_made (bundle_of k u) (row t) a) h.1 h.2 p, tt)

module _ (e : Encoding) where
  pub defs-sit : (st : List Scope) (c : Scope) → AllMade (Sits (built e st c)) (form_defs e (c ∷ st) 0 (defs_of c))
  defs-sit st (scope_of k id label ds) =
      made-left (Sits (built e st (scope_of k id label ds))) (form_defs e (scope_of k id label ds ∷ st) 0 ds)
      (form_exports (scope_of k id label ds ∷ st) 0 ds ++ form_names st (scope_of k id label ds) (has_names (scope_of k id label ds))) (sits-self _)

  pub exports-sit : (st : List Scope) (c : Scope) → AllMade (Sits (built e st c)) (form_exports (c ∷ st) 0 (defs_of c))
  exports-sit st (scope_of k id label ds) =
      made-left (Sits (built e st (scope_of k id label ds))) (form_exports (scope_of k id label ds ∷ st) 0 ds) (form_names st (scope_of k id label ds) (has_names (scope_of k id label ds)))
      (made-right (Sits (built e st (scope_of k id label ds))) (form_defs e (scope_of k id label ds ∷ st) 0 ds)
      (form_exports (scope_of k id label ds ∷ st) 0 ds ++ form_names st (scope_of k id label ds) (has_names (scope_of k id label ds))) (sits-self _))
