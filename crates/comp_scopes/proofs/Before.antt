-- What is generated stands before the definition that uses it.
use Rattle.std.proofs.Common.{◌≡◌, ℕ, zero, suc, ◌+◌, ◌<◌, ◌≤◌, Bool, true, false, cond, List, [], ◌∷◌, ◌++◌, length, slice_get, inl, inr, Option, Some, None, refl, sym, ◌∙◌, ap, subst, arith}
use Rattle.std.proofs.lemmas.List.{length-append}
use Rattle.comp_model.specs.declared.Space.{Space}
use Rattle.comp_model.specs.declared.Space.TheVariants.{CoreType}
use Rattle.comp_model.specs.declared.row.Row.TheVariants as rows
use Rattle.comp_model.specs.declared.row.Row.{Row}
use Rattle.comp_model.specs.Core.{Reach, outward, own, at_place, CoreValue, ref_name}
use Rattle.comp_model.specs.Model.{Leaf, core_value, ref, present, node, nodes, name, Path, root_number, root_name, export_of, path, inline, bundle, Leaves, no_leaf, ◌▸◌, row, Nodes, no_node, one_node, define, Defs, no_def, one_def, Scope, scope_of, defs_of}
use Rattle.comp_model.specs.Spaces.{declares_row}
use Rattle.comp_model.specs.Origins.{Origin, written, inline_type, bundle_of, inline_export, export_step, outer_alias_of, name_section}
use Rattle.comp_scopes.specs.Encoding.{Encoding}
use Rattle.comp_scopes.specs.Names.{Denoted, denotes}
use Rattle.comp_scopes.specs.References.{references, references_leaf, steps, instance_space}
use Rattle.comp_scopes.specs.Signatures.{reused_signature}
use Rattle.comp_scopes.specs.Reused.{is_shared, Typed, typed_inline, typed_within, types_of_leaves, types_of_leaf, types_of_nodes, written_type, types_of_defs, types, reused_type, as_written, reused}
use Rattle.comp_scopes.specs.Outward.{Planned, plan_both, plan_own, plan_inline, plan_bundle, Outward, outward_name, outward_leaves, outward_leaf, outward_nodes, outward_defs, outward_names, earlier_alias, served, leads_out}
use Rattle.comp_model.specs.ItemNames.{has_names}
use Rattle.comp_scopes.specs.Plan.{marks, before, item_index}
use Rattle.comp_scopes.specs.Form.{spaces_of, Made, make, Formed, form_both, own_made, form_one, form_inline, form_bundle, form_alias, form_name, form_path, path_index, step_node, alias_node, form_value, form_exports_of, form_exports, form_names, coded_node, form_defs, form_leaves, form_leaf, form_nodes, built}
use Rattle.comp_scopes.specs.Rowed.{Rowed, DefsRowed, LeavesRowed, LeafRowed, NodesRowed}
use Rattle.comp_scopes.specs.Renders.{AllMade, Gives}
use Rattle.comp_scopes.specs.Before.{AliasBefore, MarkBefore, PathBefore, LeavesBefore, LeafBefore, NodesBefore, DefsBefore}
use Rattle.comp_scopes.proofs.Marks.{Within}
use Rattle.comp_scopes.proofs.Formed.{step-declares, declares-form}
use Rattle.comp_scopes.proofs.Lookup.{the_item, some-same, made-app, built-item}
use Rattle.comp_scopes.proofs.Each.{Each, each-one, each-weaken, defs-sit}
use Rattle.comp_scopes.proofs.Places.{At, at-left, at-right, Stand}
use Rattle.comp_scopes.proofs.Aliases.{AllOut, out-app, FirstOf, first-in, NameAt, names-later, EachAt, stand-left, leaves-at, leaf-at, def-at, defs-stand, alias-of-first}
use Rattle.comp_scopes.proofs.Types.{Equal, equal-of, typed-app, TypeAt, types-later, TypesFront, Decided, decided, behind-these, leaves-typed, leaf-typed, def-typed, shared-declares}
use Rattle.comp_scopes.proofs.Reuse.{WrittenSignature, reused-written}
use Rattle.comp_scopes.proofs.MarksRender.{front-within}

-- ---- places in a list

-- the inline nodes, the bundles and the needs stand in this order before p
abbrev Placed : List Made → ℕ → {H : Type 0} → Formed H → Type 0
Placed w p a = (b : ℕ) × (c : ℕ) × (d : ℕ) × At w b a.inlined × At w c a.bundles × At w d a.needed × (b + length a.inlined ≤ c) × (c + length a.bundles ≤ d) × (d + length a.needed ≤ p)

-- of two parts one behind the other, the lengths of both
both-lengths : (w : List Made) (p : ℕ) {F G H : Type 0} (f : F → G → H) (a : Formed F) (g : Formed G) (h : Placed w p (form_both f a g))
    → (h.0 + (length a.inlined + length g.inlined) ≤ h.1) × (h.1 + (length a.bundles + length g.bundles) ≤ h.2) × (h.2 + (length a.needed + length g.needed) ≤ p)
both-lengths w p f a g h =
    let i : h.0 + length (a.inlined ++ g.inlined) ≤ h.1 = h.6 in
    let j : h.1 + length (a.bundles ++ g.bundles) ≤ h.2 = h.7 in
    let k : h.2 + length (a.needed ++ g.needed) ≤ p = h.8 in
    (omega (arith, length-append a.inlined g.inlined, i), omega (arith, length-append a.bundles g.bundles, j), omega (arith, length-append a.needed g.needed, k))

abbrev placed-left : (w : List Made) (p : ℕ) {F G H : Type 0} (f : F → G → H) (a : Formed F) (g : Formed G) → Placed w p (form_both f a g) → Placed w p a
placed-left w p f a g h =
    let l = both-lengths w p f a g h in
    (h.0, h.1, h.2, at-left w h.0 a.inlined g.inlined h.3, at-left w h.1 a.bundles g.bundles h.4, at-left w h.2 a.needed g.needed h.5, omega (arith, l.0), omega (arith, l.1), omega (arith, l.2))

abbrev placed-right : (w : List Made) (p : ℕ) {F G H : Type 0} (f : F → G → H) (a : Formed F) (g : Formed G) → Placed w p (form_both f a g) → Placed w p g
placed-right w p f a g h =
    let l = both-lengths w p f a g h in (
      h.0 + length a.inlined,
      h.1 + length a.bundles,
      h.2 + length a.needed,
      at-right w h.0 a.inlined g.inlined h.3,
      at-right w h.1 a.bundles g.bundles h.4,
      at-right w h.2 a.needed g.needed h.5,
      omega (arith, l.0),
      omega (arith, l.1),
      omega (arith, l.2),
    )

-- bundles, needs and the definition's own, where the inline nodes stand before them
abbrev placed-last : (w : List Made) (p b c : ℕ) (a : Formed Leaves) (m : Made) → At w b a.inlined → b + length a.inlined ≤ c → At w c (a.bundles ++ (a.needed ++ m ∷ [])) → c + length (a.bundles ++ (a.needed ++ m ∷ [])) ≤ p
    → (q : ℕ) × (q < p) × (slice_get w q ≡ Some m) × Placed w q a
placed-last w p b c a m x i y j =
    let r : At w (c + length a.bundles) (a.needed ++ m ∷ []) = at-right w c a.bundles (a.needed ++ m ∷ []) y in
    let o : At w (c + length a.bundles + length a.needed) (m ∷ []) = at-right w (c + length a.bundles) a.needed (m ∷ []) r in
    let e : length (a.bundles ++ (a.needed ++ m ∷ [])) ≡ length a.bundles + length (a.needed ++ m ∷ []) = length-append a.bundles (a.needed ++ m ∷ []) in
    let f : length (a.needed ++ m ∷ []) ≡ length a.needed + 1 = length-append a.needed (m ∷ []) in (
      c + length a.bundles + length a.needed,
      omega (arith, e, f, j),
      o.0,
      (b, c, c + length a.bundles, x, at-left w c a.bundles (a.needed ++ m ∷ []) y, at-left w (c + length a.bundles) a.needed (m ∷ []) r, i, omega arith, omega arith),
    )

abbrev placed-one : (w : List Made) (p b : ℕ) (a : Formed Leaves) (m : Made) → At w b (a.inlined ++ (a.bundles ++ (a.needed ++ m ∷ []))) → b + length (a.inlined ++ (a.bundles ++ (a.needed ++ m ∷ []))) ≤ p
    → (q : ℕ) × (q < p) × (slice_get w q ≡ Some m) × Placed w q a
placed-one w p b a m x i =
    let e : length (a.inlined ++ (a.bundles ++ (a.needed ++ m ∷ []))) ≡ length a.inlined + length (a.bundles ++ (a.needed ++ m ∷ [])) = length-append a.inlined (a.bundles ++ (a.needed ++ m ∷ [])) in
    placed-last w p b (b + length a.inlined) a m (at-left w b a.inlined (a.bundles ++ (a.needed ++ m ∷ [])) x) (omega arith) (at-right w b a.inlined (a.bundles ++ (a.needed ++ m ∷ [])) x) (omega (arith, e, i))

-- ---- the order of definitions

-- the definition for which a mark stands in front of all inline exports
abbrev owner : Origin → Option ℕ
owner (written k) = Some k
owner (inline_type k u) = Some k
owner (bundle_of k u) = Some k
owner (export_step k u i) = Some k
owner (outer_alias_of k u) = Some k
owner (inline_export k j) = None
owner name_section = None

-- from n on, in order
abbrev RisingBy : Option ℕ → ℕ → (ℕ → Type 0) → Type 0
RisingBy None n R = R n
RisingBy (Some k) n R = (n ≤ k) × R k

abbrev Rising : List Made → ℕ → Type 0
Rising [] n = Unit {0}
Rising (m ∷ ms) n = RisingBy (owner m.origin) n (Rising ms)

some-number : (j k : ℕ) → Some j ≡ Some k → j ≡ k
some-number j k h = some-same j k h

rising-least : (ms : List Made) (n p : ℕ) (m : Made) (k : ℕ) → Rising ms n → slice_get ms p ≡ Some m → owner m.origin ≡ Some k → n ≤ k
rising-least [] n p m k r h o = absurd (cc)
rising-least (x ∷ ms) n zero m k r h o = go (owner x.origin) (ap (λ y. owner y.origin) (some-same x m h) ∙ o) r
  where
    go : (v : Option ℕ) → v ≡ Some k → RisingBy v n (Rising ms) → n ≤ k
    go None e r = absurd (cc)
    go (Some j) e r = let z : j ≡ k = some-number j k e in let y : n ≤ j = r.0 in omega (arith, z, y)
rising-least (x ∷ ms) n (suc p) m k r h o = go (owner x.origin) r (λ i q. rising-least ms i p m k q h o)
  where
    go : (v : Option ℕ) → RisingBy v n (Rising ms) → ((i : ℕ) → Rising ms i → i ≤ k) → n ≤ k
    go None r f = f n r
    go (Some j) r f = let z : j ≤ k = f j r.1 in let y : n ≤ j = r.0 in omega (arith, z, y)

rising-order : (ms : List Made) (n p q : ℕ) (a b : Made) (j k : ℕ) → Rising ms n → slice_get ms p ≡ Some a → owner a.origin ≡ Some j → slice_get ms q ≡ Some b → owner b.origin ≡ Some k → j < k → p < q
rising-order [] n p q a b j k r h o g v l = absurd (cc)
rising-order (x ∷ ms) n zero zero a b j k r h o g v l =
    let z : a ≡ b = sym (some-same x a h) ∙ some-same x b g in
    let y : j ≡ k = some-number j k (sym o ∙ ap (λ m. owner m.origin) z ∙ v) in absurd (omega (arith, y, l))
rising-order (x ∷ ms) n zero (suc q) a b j k r h o g v l = omega arith
rising-order (x ∷ ms) n (suc p) zero a b j k r h o g v l = go (owner x.origin) (ap (λ m. owner m.origin) (some-same x b g) ∙ v) r
  where
    go : (w : Option ℕ) → w ≡ Some k → RisingBy w n (Rising ms) → suc p < zero
    go None e r = absurd (cc)
    go (Some i) e r = let z : i ≡ k = some-number i k e in let y : i ≤ j = rising-least ms i p a j r.1 h o in absurd (omega (arith, z, y, l))
rising-order (x ∷ ms) n (suc p) (suc q) a b j k r h o g v l = go (owner x.origin) r (λ i y. rising-order ms i p q a b j k y h o g v l)
  where
    go : (w : Option ℕ) → RisingBy w n (Rising ms) → ((i : ℕ) → Rising ms i → p < q) → suc p < suc q
    go None r f = let z : p < q = f n r in omega (arith, z)
    go (Some i) r f = let z : p < q = f i r.1 in omega (arith, z)

-- marks of definition k alone, with what rises behind them
rising-app : (xs ys : List Made) (n k : ℕ) → n ≤ k → AllMade (λ m. owner m.origin ≡ Some k) xs → ((i : ℕ) → i ≤ k → Rising ys i) → Rising (xs ++ ys) n
rising-app [] ys n k l a r = r n l
rising-app (x ∷ xs) ys n k l a r = subst (λ v. RisingBy v n (Rising (xs ++ ys))) (sym a.0) (l, rising-app xs ys k k (omega arith) a.1 r)

within-owner : (k u v : ℕ) (o : Origin) → Within k u v o → owner o ≡ Some k
within-owner k u v (inline_type j w) h = ap (λ n. Some n) h.0
within-owner k u v (bundle_of j w) h = ap (λ n. Some n) h.0
within-owner k u v (export_step j w i) h = ap (λ n. Some n) h.0
within-owner k u v (outer_alias_of j w) h = ap (λ n. Some n) h.0
within-owner k u v (written j) h = absurd h
within-owner k u v (inline_export j n) h = absurd h
within-owner k u v name_section h = absurd h

nobody-rises : (ms : List Made) (n : ℕ) → AllMade (λ m. owner m.origin ≡ None) ms → Rising ms n
nobody-rises [] n h = tt
nobody-rises (m ∷ ms) n h = subst (λ v. RisingBy v n (Rising ms)) (sym h.0) (nobody-rises ms n h.1)

exports_of-nobody : (st : List Scope) (k j : ℕ) (xs : List (List ℕ)) (ss : List Space) → AllMade (λ m. owner m.origin ≡ None) (form_exports_of st k j xs ss)
exports_of-nobody st k j [] ss = tt
exports_of-nobody st k j (x ∷ xs) [] = tt
exports_of-nobody st k j (x ∷ xs) (s ∷ ss) = (refl, exports_of-nobody st k (j + 1) xs (s ∷ ss))

exports-nobody : (st : List Scope) (k : ℕ) (ds : Defs) → AllMade (λ m. owner m.origin ≡ None) (form_exports st k ds)
exports-nobody st k no_def = tt
exports-nobody st k (one_def (define names (row t ls)) ds) =
    made-app (λ m. owner m.origin ≡ None) (form_exports_of st k 0 names.exports (declares_row t ls)) (form_exports st (k + 1) ds) (exports_of-nobody st k 0 names.exports (declares_row t ls)) (exports-nobody st (k + 1) ds)

module _ (e : Encoding) where
  names-nobody : (st : List Scope) (c : Scope) (b : Bool) → AllMade (λ m. owner m.origin ≡ None) (form_names st c b)
  names-nobody st c true = (refl, tt)
  names-nobody st c false = tt

  def-owned : (st : List Scope) (k : ℕ) (t : Row) (ls : Leaves) → AllMade (λ m. owner m.origin ≡ Some k) (form_one (written k) (coded_node e t ls) (form_leaves e st k 0 ls))
  def-owned st k t ls =
      let h : Each (λ m. Within k 0 (0 + references ls) m.origin) (form_leaves e st k 0 ls) = front-within e st k 0 ls in
      each-one (λ m. owner m.origin ≡ Some k) (written k) (coded_node e t ls) (form_leaves e st k 0 ls)
      (each-weaken (λ m. Within k 0 (0 + references ls) m.origin) (λ m. owner m.origin ≡ Some k) (λ m q. within-owner k 0 (0 + references ls) m.origin q) (form_leaves e st k 0 ls) h) refl

  app-assoc : (xs ys zs : List Made) → (xs ++ ys) ++ zs ≡ xs ++ (ys ++ zs)
  app-assoc [] ys zs = refl
  app-assoc (x ∷ xs) ys zs = ap (λ r. x ∷ r) (app-assoc xs ys zs)

  defs-rise : (st : List Scope) (k n : ℕ) (ds : Defs) (ys : List Made) → n ≤ k → AllMade (λ m. owner m.origin ≡ None) ys → Rising (form_defs e st k ds ++ ys) n
  defs-rise st k n no_def ys l h = nobody-rises ys n h
  defs-rise st k n (one_def (define names (row t ls)) ds) ys l h =
      subst (λ x. Rising x n) (sym (app-assoc (form_one (written k) (coded_node e t ls) (form_leaves e st k 0 ls)) (form_defs e st (k + 1) ds) ys))
      (rising-app (form_one (written k) (coded_node e t ls) (form_leaves e st k 0 ls)) (form_defs e st (k + 1) ds ++ ys) n k l (def-owned st k t ls)
      (λ i m. defs-rise st (k + 1) i ds ys (omega (arith, m)) h))

  built-rises : (st : List Scope) (c : Scope) → Rising (built e st c) 0
  built-rises st (scope_of q id label ds) =
      defs-rise (scope_of q id label ds ∷ st) 0 0 ds (form_exports (scope_of q id label ds ∷ st) 0 ds ++ form_names st (scope_of q id label ds) (has_names (scope_of q id label ds))) (omega arith)
      (made-app (λ m. owner m.origin ≡ None) (form_exports (scope_of q id label ds ∷ st) 0 ds) (form_names st (scope_of q id label ds) (has_names (scope_of q id label ds)))
      (exports-nobody (scope_of q id label ds ∷ st) 0 ds) (names-nobody st (scope_of q id label ds) (has_names (scope_of q id label ds))))

  -- ---- the names and types in front of a part

  -- where a part adds these names, those in front of it have their aliases before n
  abbrev NamesFront : List Scope → Scope → ℕ → List Outward → Type 0
  NamesFront st c n ws = (front : List Outward) × (rest : List Outward) × (outward_names (c ∷ st) ≡ front ++ (ws ++ rest)) × AllOut (NameAt e st c n) front

  out-assoc : (xs ys zs : List Outward) → (xs ++ ys) ++ zs ≡ xs ++ (ys ++ zs)
  out-assoc [] ys zs = refl
  out-assoc (x ∷ xs) ys zs = ap (λ r. x ∷ r) (out-assoc xs ys zs)

  front-left : (st : List Scope) (c : Scope) (n : ℕ) (xs ys : List Outward) → NamesFront st c n (xs ++ ys) → NamesFront st c n xs
  front-left st c n xs ys h = (h.0, ys ++ h.1, h.2 ∙ ap (λ r. h.0 ++ r) (out-assoc xs ys h.1), h.3)

  front-right : (st : List Scope) (c : Scope) (n m : ℕ) (xs ys : List Outward) → n ≤ m → AllOut (NameAt e st c m) xs → NamesFront st c n (xs ++ ys) → NamesFront st c m ys
  front-right st c n m xs ys l a h =
      (h.0 ++ xs, h.1, h.2 ∙ ap (λ r. h.0 ++ r) (out-assoc xs ys h.1) ∙ sym (out-assoc h.0 xs (ys ++ h.1)), out-app (NameAt e st c m) h.0 xs (names-later e st c n m h.0 l h.3) a)

  abbrev Fronts : List Scope → Scope → ℕ → ℕ → ℕ → Planned Outward → Type 0
  Fronts st c i j n p = NamesFront st c i p.inlined × NamesFront st c j p.bundles × NamesFront st c n p.needed

  fronts-left : (st : List Scope) (c : Scope) (i j n : ℕ) (p q : Planned Outward) → Fronts st c i j n (plan_both p q) → Fronts st c i j n p
  fronts-left st c i j n p q h = (front-left st c i p.inlined q.inlined h.0, front-left st c j p.bundles q.bundles h.1, front-left st c n p.needed q.needed h.2)

  fronts-right : (st : List Scope) (c : Scope) (i j n : ℕ) {H : Type 0} (a : Formed H) (p q : Planned Outward) → EachAt e st c i j n a p → Fronts st c i j n (plan_both p q)
      → Fronts st c (i + length a.inlined) (j + length a.bundles) (n + length a.needed) q
  fronts-right st c i j n a p q g h = (
    front-right st c i (i + length a.inlined) p.inlined q.inlined (omega arith) g.0 h.0,
    front-right st c j (j + length a.bundles) p.bundles q.bundles (omega arith) g.1 h.1,
    front-right st c n (n + length a.needed) p.needed q.needed (omega arith) g.2 h.2,
  )

  -- of bundles and needs that stand one behind the other
  last-fronts : (st : List Scope) (c : Scope) (i j : ℕ) (a : Formed Leaves) (p : Planned Outward) → EachAt e st c i j (j + length a.bundles) a p → NamesFront st c i p.inlined → NamesFront st c j (p.bundles ++ (p.needed ++ []))
      → Fronts st c i j (j + length a.bundles) p
  last-fronts st c i j a p g f h = (
    f,
    front-left st c j p.bundles (p.needed ++ []) h,
    front-left st c (j + length a.bundles) p.needed [] (front-right st c j (j + length a.bundles) p.bundles (p.needed ++ []) (omega arith) g.1 h),
  )

  -- and of inline nodes in front of them
  own-fronts : (st : List Scope) (c : Scope) (i : ℕ) (a : Formed Leaves) (p : Planned Outward) → EachAt e st c i (i + length a.inlined) (i + length a.inlined + length a.bundles) a p → NamesFront st c i (p.inlined ++ (p.bundles ++ (p.needed ++ [])))
      → Fronts st c i (i + length a.inlined) (i + length a.inlined + length a.bundles) p
  own-fronts st c i a p g h =
      last-fronts st c i (i + length a.inlined) a p g (front-left st c i p.inlined (p.bundles ++ (p.needed ++ [])) h)
      (front-right st c i (i + length a.inlined) p.inlined (p.bundles ++ (p.needed ++ [])) (omega arith) g.0 h)

  some-none : {A : Type 0} {B : Type 0} (o : Option A) (x : A) → o ≡ None → o ≡ Some x → B
  some-none None x h g = absurd (cc)
  some-none (Some y) x h g = absurd (cc)

  -- the types in an inline node that has a mark
  inner-types : (st : List Scope) (c : Scope) (k u n : ℕ) (s : Space) (t : Row) (ls : Leaves) → reused (c ∷ st) k u t ls ≡ None
      → TypesFront e st c n (λ earlier. types_of_leaf c k u (ref s (inline (row t ls))) earlier) → TypesFront e st c n (λ earlier. types_of_leaves c k (u + 1) ls earlier)
  inner-types st c k u n s t ls z h = go (is_shared t) refl h.2
    where
      earlier : List Typed
      earlier = h.0

      shared : Decided st c k u t ls earlier h.1 → TypesFront e st c n (λ earlier. types_of_leaves c k (u + 1) ls earlier)
      shared (inl d) = (h.0, record { origin = inline_type k u; tag = t; leaves = ls } ∷ h.1, d.2, h.3)
      shared (inr d) = some-none (reused (c ∷ st) k u t ls) d.0 z d.1

      within : (j : Option ℕ) → as_written j ≡ None → types c ≡ earlier ++ (typed_within j (types_of_leaves c k (u + 1) ls earlier) ++ h.1) → TypesFront e st c n (λ earlier. types_of_leaves c k (u + 1) ls earlier)
      within None g p = (h.0, h.1, p, h.3)
      within (Some j) g p = absurd (cc)

      go : (b : Bool) → is_shared t ≡ b
          → types c ≡ earlier ++ (cond b (typed_inline (record { origin = inline_type k u; tag = t; leaves = ls }) earlier (types_of_leaves c k (u + 1) ls earlier)) (typed_within (reused_signature (c ∷ []) k t ls) (types_of_leaves c k (u + 1) ls earlier)) ++ h.1)
          → TypesFront e st c n (λ earlier. types_of_leaves c k (u + 1) ls earlier)
      go true g p = shared (decided st c k u t ls earlier h.1 g p)
      go false g p = within (reused_signature (c ∷ []) k t ls) (unshared g z) p
        where
          unshared : is_shared t ≡ false → cond (is_shared t) (reused_type (c ∷ st) k u t ls) (as_written (reused_signature (c ∷ st) k t ls)) ≡ None → as_written (reused_signature (c ∷ []) k t ls) ≡ None
          unshared g z = subst (λ b. cond b (reused_type (c ∷ st) k u t ls) (as_written (reused_signature (c ∷ st) k t ls)) ≡ None) g z

  -- the type that a shared one reuses stands in front
  reused-front : (st : List Scope) (c : Scope) (k u n : ℕ) (s : Space) (t : Row) (ls : Leaves) (q : Origin) → is_shared t ≡ true → reused (c ∷ st) k u t ls ≡ Some q
      → TypesFront e st c n (λ earlier. types_of_leaf c k u (ref s (inline (row t ls))) earlier) → Equal (TypeAt e st c n) t ls q
  reused-front st c k u n s t ls q g z h = pick (decided st c k u t ls h.0 h.1 g (shared-part g h.2))
    where
      shared-part : is_shared t ≡ true
          → types c ≡ h.0 ++ (cond (is_shared t) (typed_inline (record { origin = inline_type k u; tag = t; leaves = ls }) h.0 (types_of_leaves c k (u + 1) ls h.0)) (typed_within (reused_signature (c ∷ []) k t ls) (types_of_leaves c k (u + 1) ls h.0)) ++ h.1)
          → types c ≡ h.0 ++ (typed_inline (record { origin = inline_type k u; tag = t; leaves = ls }) h.0 (types_of_leaves c k (u + 1) ls h.0) ++ h.1)
      shared-part g p = p ∙ rw g refl

      pick : Decided st c k u t ls h.0 h.1 → Equal (TypeAt e st c n) t ls q
      pick (inl d) = some-none (reused (c ∷ st) k u t ls) q d.0 z
      pick (inr d) = equal-of (TypeAt e st c n) (inline_type k u) t ls q h.0 h.3 (d.2 ∙ sym d.1 ∙ z)

  -- ---- the uses

  -- the definition at p stands for definition k
  abbrev Holder : List Scope → Scope → ℕ → ℕ → Type 0
  Holder st c p k = (m : Made) × (slice_get (built e st c) p ≡ Some m) × (owner m.origin ≡ Some k)

  gives-it : (st : List Scope) (c : Scope) (q : ℕ) (m : Made) (s : Space) → slice_get (built e st c) q ≡ Some m → spaces_of m.made ≡ s ∷ [] → Gives (built e st c) q s (before s m.origin (marks (c ∷ st)))
  gives-it st c q m s h one = record { declaration = the_item s q 0; declared = built-item e st c q m s h one; is_there = refl }

  -- an alias of its own, or an earlier one
  alias-before : (st : List Scope) (c : Scope) (k u p : ℕ) (s : Space) (d : Denoted) (o : Option Origin) → served (c ∷ st) k u s d ≡ o → (h : Placed (built e st c) p (form_alias (c ∷ st) k u s d o))
      → NamesFront st c h.2 (record { origin = outer_alias_of k u; space = s; denoted = d } ∷ []) → AliasBefore (built e st c) p s (form_alias (c ∷ st) k u s d o).here
  alias-before st c k u p s d None v h f =
      let m : Made = make (outer_alias_of k u) (alias_node d.depth s (item_index (c ∷ st) s d)) in
      record {
        definition = k;
        reference = u;
        alias_there = record { position = h.2; found = make (outer_alias_of k u) (alias_node d.depth s (item_index (c ∷ st) s d)); in_front = (let z : h.2 + 1 ≤ p = h.8 in omega (arith, z)); stands = h.5.0; is_marked = refl; gives = gives-it st c h.2 m s h.5.0 refl };
      }
  alias-before st c k u p s d (Some q) v h f =
      let w : Outward = record { origin = outer_alias_of k u; space = s; denoted = d } in
      let there : earlier_alias (outer_alias_of k u) s d (f.0 ++ w ∷ f.1) ≡ Some q = ap (earlier_alias (outer_alias_of k u) s d) (sym f.2) ∙ v in
      let x : FirstOf (NameAt e st c h.2) s d q (f.0 ++ w ∷ f.1) = first-in (NameAt e st c h.2) (outer_alias_of k u) s d q f.0 w f.1 refl f.3 there in
      let y : (k : ℕ) × (u : ℕ) × (p : ℕ) × (q ≡ outer_alias_of k u) × (p < h.2) × (slice_get (built e st c) p ≡ Some (make q (alias_node d.depth s (item_index (c ∷ st) s d)))) =
      alias-of-first e st c s d q h.2 (subst (FirstOf (NameAt e st c h.2) s d q) (sym f.2) x) in
      let m : Made = make q (alias_node d.depth s (item_index (c ∷ st) s d)) in
      record {
        definition = y.0;
        reference = y.1;
        alias_there = record {
          position = y.2;
          found = make q (alias_node d.depth s (item_index (c ∷ st) s d));
          in_front = (let z : h.2 + 0 ≤ p = h.8 in let l : y.2 < h.2 = y.4 in omega (arith, z, l));
          stands = y.5;
          is_marked = y.3;
          gives = gives-it st c y.2 m s y.5 refl;
        };
      }

  name-before : (st : List Scope) (c : Scope) (k u p : ℕ) (s : Space) (r : Reach) (o : Option Denoted) (b : Bool) → (h : Placed (built e st c) p (form_name (c ∷ st) k u s b o)) → leads_out r o ≡ b → b ≡ true
      → Fronts st c h.0 h.1 h.2 (outward_name k u s b o) → AliasBefore (built e st c) p s (form_name (c ∷ st) k u s b o).here
  name-before st c k u p s r o false h v i f = absurd (cc)
  name-before st c k u p s r None true h v i f = absurd (none r v)
    where
      none : (r : Reach) → leads_out r None ≡ true → ⊥
      none outward e = cc
      none own e = cc
      none (at_place q) e = cc
  name-before st c k u p s r (Some d) true h v i f = alias-before st c k u p s d (served (c ∷ st) k u s d) refl h f.2

  path-before : (st : List Scope) (c : Scope) (k u p d : ℕ) (s : Space) (a : Path) → At (built e st c) d (form_path (c ∷ st) k u s a) → d + length (form_path (c ∷ st) k u s a) ≤ p
      → PathBefore (built e st c) p k u s a (path_index (c ∷ st) k u s a)
  path-before st c k u p d s (root_number o n) h l = tt
  path-before st c k u p d s (root_name x) h l = tt
  path-before st c k u p d s (export_of a t) h l =
      let xs : List Made = form_path (c ∷ st) k u (instance_space s) a in
      let m : Made = make (export_step k u (steps a)) (step_node (path_index (c ∷ st) k u (instance_space s) a) t s) in
      let f : length (xs ++ m ∷ []) ≡ length xs + 1 = length-append xs (m ∷ []) in
      let mine : At (built e st c) (d + length xs) (m ∷ []) = at-right (built e st c) d xs (m ∷ []) h in
      record {
        position = d + length (form_path (c ∷ st) k u (instance_space s) a);
        index = path_index (c ∷ st) k u (instance_space s) a;
        in_front = omega (arith, f, l);
        stands = mine.0;
        gives = gives-it st c (d + length (form_path (c ∷ st) k u (instance_space s) a)) m s mine.0 (step-declares (path_index (c ∷ st) k u (instance_space s) a) t s);
        fact = path-before st c k u (d + length (form_path (c ∷ st) k u (instance_space s) a)) d (instance_space s) a (at-left (built e st c) d xs (m ∷ []) h) (omega arith);
      }

  value-before : (st : List Scope) (c : Scope) (k u p : ℕ) (v : CoreValue) → (h : Placed (built e st c) p (form_value (c ∷ st) k u v)) → Fronts st c h.0 h.1 h.2 (outward_leaf (c ∷ st) k u (core_value v))
      → LeafBefore (c ∷ st) (built e st c) p k u (core_value v) (form_value (c ∷ st) k u v).here
  value-before st c k u p (ref_name b r x) h f = λ i. name-before st c k u p CoreType r (denotes (c ∷ st) CoreType r x) (leads_out r (denotes (c ∷ st) CoreType r x)) h refl i f
  value-before st c k u p v h f = tt

  -- what is proved of an inline node or bundle, whose leaves became a and add the names ps and the types ts, of its own part
  abbrev Inside : List Scope → Scope → ℕ → ℕ → Leaves → Formed Leaves → Planned Outward → (List Typed → List Typed) → Type 0
  Inside st c k u ls a ps ts = (q : ℕ) → Holder st c q k → (h : Placed (built e st c) q a) → Fronts st c h.0 h.1 h.2 ps → TypesFront e st c h.0 ts → LeavesBefore (c ∷ st) (built e st c) q k (u + 1) ls a.here

  abbrev PartsAt : List Scope → Scope → Formed Leaves → Planned Outward → Type 0
  PartsAt st c a ps = (i j n : ℕ) → Stand (built e st c) i j n a → EachAt e st c i j n a ps

  inline-before : (st : List Scope) (c : Scope) (k u p : ℕ) (s : Space) (t : Row) (ls : Leaves) (o : Option Origin) (a : Formed Leaves) (ps : Planned Outward) → Holder st c p k → reused (c ∷ st) k u t ls ≡ o → declares_row t ls ≡ s ∷ [] → declares_row t a.here ≡ s ∷ []
      → (h : Placed (built e st c) p (form_inline (c ∷ st) k u s t o a)) → Fronts st c h.0 h.1 h.2 (plan_inline o ps []) → TypesFront e st c h.0 (λ earlier. types_of_leaf c k u (ref s (inline (row t ls))) earlier)
      → PartsAt st c a ps → Inside st c k u ls a ps (λ earlier. types_of_leaves c k (u + 1) ls earlier)
      → LeafBefore (c ∷ st) (built e st c) p k u (ref s (inline (row t ls))) (form_inline (c ∷ st) k u s t o a).here
  inline-before st c k u p s t ls None a ps n z d d' h f g each rec =
      let m : Made = own_made (inline_type k u) (row t) a in
      let x : (q : ℕ) × (q < h.1) × (slice_get (built e st c) q ≡ Some m) × Placed (built e st c) q a = placed-one (built e st c) h.1 h.0 a m h.3 h.6 in
      let l : x.0 < p = (let i : x.0 < h.1 = x.1 in let y : h.1 + 0 ≤ h.2 = h.7 in let v : h.2 + 0 ≤ p = h.8 in omega (arith, i, y, v)) in
      let parts : EachAt e st c x.3.0 x.3.1 x.3.2 a ps = each x.3.0 x.3.1 x.3.2 (x.3.3, x.3.4, x.3.5) in
      record {
        where_reused = λ j g. absurd (none-some j (sym z ∙ g));
        where_own = λ y. record {
          position = x.0;
          held = a.held;
          leaves = a.here;
          in_front = l;
          stands = x.2;
          gives = gives-it st c x.0 m s x.2 d';
          fact = rec x.0 (m, x.2, refl) x.3 (own-fronts st c h.0 a ps parts f.0) (inner-types st c k u h.0 s t ls z g);
        };
      }
    where
      none-some : (j : Origin) → None ≡ Some j → ⊥
      none-some j h = cc
  inline-before st c k u p s t ls (Some o) a ps n z d d' h f g each rec = record {
    where_reused = λ v y. subst (λ v. MarkBefore (built e st c) p v s (before s o (marks (c ∷ st)))) (some-same o v (sym z ∙ y)) there;
    where_own = λ y. some-none (reused (c ∷ st) k u t ls) o y z;
  }
    where
      -- a signature of a module type
      signature : (j : Option ℕ) → reused_signature (c ∷ st) k t ls ≡ j → as_written j ≡ Some o → MarkBefore (built e st c) p o s (before s o (marks (c ∷ st)))
      signature None q y = absurd (cc)
      signature (Some i) q y =
          let x : (t ≡ rows.CoreFunctionType) × WrittenSignature e (c ∷ st) (built e st c) k i ls = reused-written e st c (built e st c) k t ls i (defs-sit e st c) q in
          let m : Made = own_made (written i) (row rows.CoreFunctionType) (form_leaves e (c ∷ st) i 0 x.1.1) in
          let v : CoreType ≡ s = core_type (subst (λ v. declares_row v ls ≡ s ∷ []) x.0 d) in
          let l : x.1.0 < p = rising-order (built e st c) 0 x.1.0 p m n.0 i k (built-rises st c) x.1.3 refl n.1 n.2 x.1.2 in
          let b : MarkBefore (built e st c) p (written i) s (before s (written i) (marks (c ∷ st))) = record { position = x.1.0; found = m; in_front = l; stands = x.1.3; is_marked = refl; gives = gives-it st c x.1.0 m s x.1.3 (ap (λ v. v ∷ []) v) } in
          subst (λ v. MarkBefore (built e st c) p v s (before s v (marks (c ∷ st)))) (some-same (written i) o y) b
        where
          core_type : declares_row rows.CoreFunctionType ls ≡ s ∷ [] → CoreType ≡ s
          core_type h = cc

      -- a shared type
      shared : is_shared t ≡ true → MarkBefore (built e st c) p o s (before s o (marks (c ∷ st)))
      shared y =
          let x : Equal (TypeAt e st c h.0) t ls o = reused-front st c k u h.0 s t ls o y z g in
          let m : Made = own_made x.0.origin (row x.0.tag) (form_leaves e (c ∷ st) x.1.0 x.1.1 x.0.leaves) in
          let one : declares_row x.0.tag (form_leaves e (c ∷ st) x.1.0 x.1.1 x.0.leaves).here ≡ s ∷ [] =
          subst (λ v. declares_row v (form_leaves e (c ∷ st) x.1.0 x.1.1 x.0.leaves).here ≡ s ∷ []) x.3 (shared-declares t (form_leaves e (c ∷ st) x.1.0 x.1.1 x.0.leaves).here y ∙ sym (shared-declares t ls y) ∙ d) in
          let l : x.1.2 < p = (let i : x.1.2 < h.0 = x.1.3 in let b : h.0 + 0 ≤ h.1 = h.6 in let v : h.1 + 0 ≤ h.2 = h.7 in let w : h.2 + 0 ≤ p = h.8 in omega (arith, i, b, v, w)) in
          let b : MarkBefore (built e st c) p x.0.origin s (before s x.0.origin (marks (c ∷ st))) = record { position = x.1.2; found = m; in_front = l; stands = x.1.4; is_marked = refl; gives = gives-it st c x.1.2 m s x.1.4 one } in
          subst (λ v. MarkBefore (built e st c) p v s (before s v (marks (c ∷ st)))) x.2 b

      pick : (b : Bool) → is_shared t ≡ b → cond b (reused_type (c ∷ st) k u t ls) (as_written (reused_signature (c ∷ st) k t ls)) ≡ Some o → MarkBefore (built e st c) p o s (before s o (marks (c ∷ st)))
      pick true y v = shared y
      pick false y v = signature (reused_signature (c ∷ st) k t ls) refl v

      there : MarkBefore (built e st c) p o s (before s o (marks (c ∷ st)))
      there = pick (is_shared t) refl z

  bundle-before : (st : List Scope) (c : Scope) (k u p : ℕ) (s : Space) (t : Row) (ls : Leaves) (a : Formed Leaves) (ps : Planned Outward) → declares_row t a.here ≡ s ∷ [] → (h : Placed (built e st c) p (form_bundle (c ∷ st) k u s t a))
      → Fronts st c h.0 h.1 h.2 (plan_bundle ps []) → TypesFront e st c h.0 (λ earlier. types_of_leaves c k (u + 1) ls earlier) → PartsAt st c a ps → Inside st c k u ls a ps (λ earlier. types_of_leaves c k (u + 1) ls earlier)
      → LeafBefore (c ∷ st) (built e st c) p k u (ref s (bundle (row t ls))) (form_bundle (c ∷ st) k u s t a).here
  bundle-before st c k u p s t ls a ps d h f g each rec =
      let m : Made = own_made (bundle_of k u) (row t) a in
      let x : (q : ℕ) × (q < h.2) × (slice_get (built e st c) q ≡ Some m) × Placed (built e st c) q a = placed-last (built e st c) h.2 h.0 h.1 a m h.3 h.6 h.4 h.7 in
      let l : x.0 < p = (let i : x.0 < h.2 = x.1 in let v : h.2 + 0 ≤ p = h.8 in omega (arith, i, v)) in
      let parts : EachAt e st c x.3.0 x.3.1 x.3.2 a ps = each x.3.0 x.3.1 x.3.2 (x.3.3, x.3.4, x.3.5) in
      record { position = x.0; held = a.held; leaves = a.here; in_front = l; stands = x.2; gives = gives-it st c x.0 m s x.2 d; fact = rec x.0 (m, x.2, refl) x.3 (last-fronts st c h.0 h.1 a ps parts f.0 f.1) g }

  mutual
    leaves-before : (st : List Scope) (c : Scope) (k u p : ℕ) (ls : Leaves) → LeavesRowed ls → Holder st c p k → (h : Placed (built e st c) p (form_leaves e (c ∷ st) k u ls)) → Fronts st c h.0 h.1 h.2 (outward_leaves (c ∷ st) k u ls)
        → TypesFront e st c h.0 (λ earlier. types_of_leaves c k u ls earlier) → LeavesBefore (c ∷ st) (built e st c) p k u ls (form_leaves e (c ∷ st) k u ls).here
    leaves-before st c k u p no_leaf w n h f g = tt
    leaves-before st c k u p (l ▸ ls) w n h f g =
        let a : Formed Leaf = form_leaf e (c ∷ st) k u l in
        let b : Formed Leaves = form_leaves e (c ∷ st) k (u + references_leaf l) ls in
        let ps : Planned Outward = outward_leaf (c ∷ st) k u l in
        let qs : Planned Outward = outward_leaves (c ∷ st) k (u + references_leaf l) ls in
        let x : List Typed = types_of_leaf c k u l g.0 in
        let y : List Typed = types_of_leaves c k (u + references_leaf l) ls (g.0 ++ types_of_leaf c k u l g.0) in
        let z : (types c ≡ g.0 ++ (x ++ (y ++ g.1))) × (types c ≡ (g.0 ++ x) ++ (y ++ g.1)) = behind-these c g.0 x y g.1 g.2 in
        let left : Stand (built e st c) h.0 h.1 h.2 a = stand-left e (built e st c) h.0 h.1 h.2 (λ b bs. b ▸ bs) a b (h.3, h.4, h.5) in (
          leaf-before st c k u p l w.1 n (placed-left (built e st c) p (λ b bs. b ▸ bs) a b h) (fronts-left st c h.0 h.1 h.2 ps qs f) (g.0, y ++ g.1, z.0, g.3),
          leaves-before st c k (u + references_leaf l) p ls w.2 n (placed-right (built e st c) p (λ b bs. b ▸ bs) a b h) (fronts-right st c h.0 h.1 h.2 a ps qs (leaf-at e st c k u l h.0 h.1 h.2 left) f)
              (g.0 ++ x, g.1, z.1, typed-app (TypeAt e st c (h.0 + length a.inlined)) g.0 x (types-later e st c h.0 (h.0 + length a.inlined) g.0 (omega arith) g.3) (leaf-typed e st c k u l g.0 (y ++ g.1) h.0 h.1 h.2 z.0 left)),
        )

    leaf-before : (st : List Scope) (c : Scope) (k u p : ℕ) (l : Leaf) → LeafRowed l → Holder st c p k → (h : Placed (built e st c) p (form_leaf e (c ∷ st) k u l)) → Fronts st c h.0 h.1 h.2 (outward_leaf (c ∷ st) k u l)
        → TypesFront e st c h.0 (λ earlier. types_of_leaf c k u l earlier) → LeafBefore (c ∷ st) (built e st c) p k u l (form_leaf e (c ∷ st) k u l).here
    leaf-before st c k u p (core_value v) w n h f g = value-before st c k u p v h f
    leaf-before st c k u p (ref s (name r x)) w n h f g = λ i. name-before st c k u p s r (denotes (c ∷ st) s r x) (leads_out r (denotes (c ∷ st) s r x)) h refl i f
    leaf-before st c k u p (ref s (path a)) w n h f g = path-before st c k u p h.2 s a h.5 h.8
    leaf-before st c k u p (ref s (inline (row t ls))) w n h f g =
        inline-before st c k u p s t ls (reused (c ∷ st) k u t ls) (form_leaves e (c ∷ st) k (u + 1) ls) (outward_leaves (c ∷ st) k (u + 1) ls) n refl w.0 (declares-form e (c ∷ st) k (u + 1) t ls ∙ w.0) h f g
        (λ i j n y. leaves-at e st c k (u + 1) ls i j n y) (λ q m x y v. leaves-before st c k (u + 1) q ls w.1 m x y v)
    leaf-before st c k u p (ref s (bundle (row t ls))) w n h f g =
        bundle-before st c k u p s t ls (form_leaves e (c ∷ st) k (u + 1) ls) (outward_leaves (c ∷ st) k (u + 1) ls) (declares-form e (c ∷ st) k (u + 1) t ls ∙ w.0) h f g
        (λ i j n y. leaves-at e st c k (u + 1) ls i j n y) (λ q m x y v. leaves-before st c k (u + 1) q ls w.1 m x y v)
    leaf-before st c k u p (present l) w n h f g = leaf-before st c k u p l w n h f g
    leaf-before st c k u p (node (row t ls)) w n h f g = leaves-before st c k u p ls w n h f g
    leaf-before st c k u p (nodes ns) w n h f g = nodes-before st c k u p ns w n h f g
    leaf-before st c k u p l w n h f g = tt

    nodes-before : (st : List Scope) (c : Scope) (k u p : ℕ) (ns : Nodes) → NodesRowed ns → Holder st c p k → (h : Placed (built e st c) p (form_nodes e (c ∷ st) k u ns)) → Fronts st c h.0 h.1 h.2 (outward_nodes (c ∷ st) k u ns)
        → TypesFront e st c h.0 (λ earlier. types_of_nodes c k u ns earlier) → NodesBefore (c ∷ st) (built e st c) p k u ns (form_nodes e (c ∷ st) k u ns).here
    nodes-before st c k u p no_node w n h f g = tt
    nodes-before st c k u p (one_node (row t ls) ns) w n h f g =
        let a : Formed Leaves = form_leaves e (c ∷ st) k u ls in
        let b : Formed Nodes = form_nodes e (c ∷ st) k (u + references ls) ns in
        let ps : Planned Outward = outward_leaves (c ∷ st) k u ls in
        let qs : Planned Outward = outward_nodes (c ∷ st) k (u + references ls) ns in
        let x : List Typed = types_of_leaves c k u ls g.0 in
        let y : List Typed = types_of_nodes c k (u + references ls) ns (g.0 ++ types_of_leaves c k u ls g.0) in
        let z : (types c ≡ g.0 ++ (x ++ (y ++ g.1))) × (types c ≡ (g.0 ++ x) ++ (y ++ g.1)) = behind-these c g.0 x y g.1 g.2 in
        let left : Stand (built e st c) h.0 h.1 h.2 a = stand-left e (built e st c) h.0 h.1 h.2 (λ bs cs. one_node (row t bs) cs) a b (h.3, h.4, h.5) in (
          leaves-before st c k u p ls w.1 n (placed-left (built e st c) p (λ bs cs. one_node (row t bs) cs) a b h) (fronts-left st c h.0 h.1 h.2 ps qs f) (g.0, y ++ g.1, z.0, g.3),
          nodes-before st c k (u + references ls) p ns w.2 n (placed-right (built e st c) p (λ bs cs. one_node (row t bs) cs) a b h) (fronts-right st c h.0 h.1 h.2 a ps qs (leaves-at e st c k u ls h.0 h.1 h.2 left) f)
              (g.0 ++ x, g.1, z.1, typed-app (TypeAt e st c (h.0 + length a.inlined)) g.0 x (types-later e st c h.0 (h.0 + length a.inlined) g.0 (omega arith) g.3) (leaves-typed e st c k u ls g.0 (y ++ g.1) h.0 h.1 h.2 z.0 left)),
        )

  defs-before : (st : List Scope) (c : Scope) (k b : ℕ) (ds : Defs) → DefsRowed ds → At (built e st c) b (form_defs e (c ∷ st) k ds) → NamesFront st c b (outward_defs (c ∷ st) k ds) → TypesFront e st c b (λ earlier. types_of_defs c k ds earlier)
      → DefsBefore e (c ∷ st) (built e st c) k ds
  defs-before st c k b no_def w h f g = tt
  defs-before st c k b (one_def (define names (row t ls)) ds) w h f g =
      let a : Formed Leaves = form_leaves e (c ∷ st) k 0 ls in
      let m : Made = own_made (written k) (coded_node e t ls) a in
      let block : List Made = form_one (written k) (coded_node e t ls) (form_leaves e (c ∷ st) k 0 ls) in
      let ps : Planned Outward = outward_leaves (c ∷ st) k 0 ls in
      let own_names : List Outward = plan_own (outward_leaves (c ∷ st) k 0 ls) [] in
      let more : List Outward = outward_defs (c ∷ st) (k + 1) ds in
      let inner : List Typed = types_of_leaves c k 0 ls g.0 in
      let new : List Typed = types_of_leaves c k 0 ls g.0 ++ written_type k t ls in
      let later : List Typed = types_of_defs c (k + 1) ds (g.0 ++ new) in
      let z : (types c ≡ g.0 ++ (new ++ (later ++ g.1))) × (types c ≡ (g.0 ++ new) ++ (later ++ g.1)) = behind-these c g.0 new later g.1 g.2 in
      let v : (types c ≡ g.0 ++ (inner ++ (written_type k t ls ++ (later ++ g.1)))) × (types c ≡ (g.0 ++ inner) ++ (written_type k t ls ++ (later ++ g.1))) = behind-these c g.0 inner (written_type k t ls) (later ++ g.1) z.0 in
      let one : At (built e st c) b block = at-left (built e st c) b block (form_defs e (c ∷ st) (k + 1) ds) h in
      let x : (q : ℕ) × (q < b + length block) × (slice_get (built e st c) q ≡ Some m) × Placed (built e st c) q a = placed-one (built e st c) (b + length block) b a m one (omega arith) in
      let parts : EachAt e st c x.3.0 x.3.1 x.3.2 a ps = leaves-at e st c k 0 ls x.3.0 x.3.1 x.3.2 (x.3.3, x.3.4, x.3.5) in (
        record {
          position = x.0;
          held = a.held;
          leaves = a.here;
          stands = x.2;
          fact = leaves-before st c k 0 x.0 ls w.3 (m, x.2, refl) x.3 (own-fronts st c b a ps parts (front-left st c b own_names more f)) (g.0, written_type k t ls ++ (later ++ g.1), v.0, g.3);
        },
        defs-before st c (k + 1) (b + length block) ds w.4 (at-right (built e st c) b block (form_defs e (c ∷ st) (k + 1) ds) h)
            (front-right st c b (b + length block) own_names more (omega arith) (def-at e st c k b t ls one) f)
            (g.0 ++ new, g.1, z.1, typed-app (TypeAt e st c (b + length block)) g.0 new (types-later e st c b (b + length block) g.0 (omega arith) g.3) (def-typed e st c k b t ls g.0 (later ++ g.1) z.0 one)),
      )

  out-nil : (ws : List Outward) → ws ≡ [] ++ (ws ++ [])
  out-nil [] = refl
  out-nil (w ∷ ws) = ap (λ r. w ∷ r) (out-nil ws)

  types-nil : (xs : List Typed) → xs ≡ [] ++ (xs ++ [])
  types-nil [] = refl
  types-nil (x ∷ xs) = ap (λ r. x ∷ r) (types-nil xs)

  pub built-before : (st : List Scope) (c : Scope) → Rowed c → DefsBefore e (c ∷ st) (built e st c) 0 (defs_of c)
  built-before st (scope_of k id label ds) w =
      defs-before st (scope_of k id label ds) 0 0 ds w (defs-stand e st (scope_of k id label ds)) ([], [], out-nil (outward_names (scope_of k id label ds ∷ st)), tt) ([], [], types-nil (types (scope_of k id label ds)), tt)
