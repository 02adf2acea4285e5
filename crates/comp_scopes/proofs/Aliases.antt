-- Of the names that denote one item of an enclosing scope the first has the alias, and the alias is of that item.
use Rattle.std.proofs.Common.{◌≡◌, ℕ, ◌+◌, ◌<◌, ◌≤◌, Bool, true, false, ◌&&◌, nat_eq, cond, List, [], ◌∷◌, ◌++◌, length, drop, slice_get, Option, Some, None, refl, sym, ◌∙◌, ap, subst, arith}
use Rattle.std.proofs.lemmas.Bool.{eqb-true}
use Rattle.comp_model.specs.declared.Space.{Space}
use Rattle.comp_model.specs.declared.Space.TheVariants.{CoreType}
use Rattle.comp_model.specs.Core.{CoreValue, ref_name}
use Rattle.comp_model.specs.Model.{Leaf, core_value, ref, present, node, nodes, scope, name, inline, bundle, Leaves, no_leaf, ◌▸◌, row, Nodes, no_node, one_node, define, Defs, no_def, one_def, Scope, scope_of, defs_of}
use Rattle.comp_model.specs.declared.row.Row.{Row}
use Rattle.comp_model.specs.Spaces.{same_space}
use Rattle.comp_model.specs.Origins.{Origin, written, inline_type, bundle_of, outer_alias_of, same_origin}
use Rattle.comp_model.specs.ItemNames.{has_names}
use Rattle.comp_model.proofs.Tests.{same_space-true, same_origin-refl}
use Rattle.comp_scopes.specs.Encoding.{Encoding}
use Rattle.comp_scopes.specs.Names.{Denoted, denotes}
use Rattle.comp_scopes.specs.References.{references, references_leaf}
use Rattle.comp_scopes.specs.Reused.{reused}
use Rattle.comp_scopes.specs.Outward.{Planned, plan_both, plan_own, plan_inline, plan_bundle, Outward, outward_name, outward_leaves, outward_leaf, outward_nodes, outward_defs, outward_names, same_item, earlier_alias, served, leads_out}
use Rattle.comp_scopes.specs.Plan.{marks, before, item_index}
use Rattle.comp_scopes.specs.Form.{Made, make, Formed, form_both, own_made, form_one, form_inline, form_bundle, form_exports, form_names, form_alias, form_name, form_value, alias_node, coded_node, form_defs, form_leaves, form_leaf, form_nodes, built}
use Rattle.comp_scopes.proofs.Lookup.{Sits, some-same}
use Rattle.comp_scopes.proofs.Places.{At, at-left, at-right, at-self, Stand, end-both, LastAt, last-at, OneAt, one-at}
use Rattle.comp_scopes.proofs.Among.{and-both}

-- ---- a condition on each of some names

abbrev pub AllOut : (Outward → Type 0) → List Outward → Type 0
AllOut P [] = Unit {0}
AllOut P (w ∷ ws) = P w × AllOut P ws

pub out-app : (P : Outward → Type 0) (xs ys : List Outward) → AllOut P xs → AllOut P ys → AllOut P (xs ++ ys)
out-app P [] ys a b = b
out-app P (x ∷ xs) ys a b = (a.0, out-app P xs ys a.1 b)

pub out-weaken : (P Q : Outward → Type 0) → ((w : Outward) → P w → Q w) → (ws : List Outward) → AllOut P ws → AllOut Q ws
out-weaken P Q f [] h = tt
out-weaken P Q f (w ∷ ws) h = (f w h.0, out-weaken P Q f ws h.1)

-- ---- the first of those that are alike

pub same-numbers : (d e : Denoted) → same_item d e ≡ true → (d.depth ≡ e.depth) × (d.item.definition ≡ e.item.definition) × (d.item.part ≡ e.item.part)
same-numbers d e h =
    let a : (nat_eq d.depth e.depth ≡ true) × ((nat_eq d.item.definition e.item.definition && nat_eq d.item.part e.item.part) ≡ true) = and-both _ _ h in
    let b : (nat_eq d.item.definition e.item.definition ≡ true) × (nat_eq d.item.part e.item.part ≡ true) = and-both _ _ a.1 in
    (eqb-true d.depth e.depth a.0, eqb-true d.item.definition e.item.definition b.0, eqb-true d.item.part e.item.part b.1)

-- alike names have one first
earlier-same : (o : Origin) (s r : Space) (d e : Denoted) (ws : List Outward) → s ≡ r → same_item d e ≡ true → earlier_alias o s d ws ≡ earlier_alias o r e ws
earlier-same o s r d e [] q h = refl
earlier-same o s r d e (w ∷ ws) q h =
    let n : (d.depth ≡ e.depth) × (d.item.definition ≡ e.item.definition) × (d.item.part ≡ e.item.part) = same-numbers d e h in
    rw (q, n.0, n.1, n.2, earlier-same o s r d e ws q h) refl

-- the first of the names that denote an item
abbrev pub FirstOf : (Outward → Type 0) → Space → Denoted → Origin → List Outward → Type 0
FirstOf P s d q ws = (w : Outward) × P w × (w.origin ≡ q) × (s ≡ w.space) × (same_item d w.denoted ≡ true) × (earlier_alias w.origin w.space w.denoted ws ≡ None)

-- the name v, or one behind it
step-first : (P : Outward → Type 0) (o : Origin) (s : Space) (d : Denoted) (q : Origin) (v : Outward) (vs : List Outward) → P v → earlier_alias o s d (v ∷ vs) ≡ Some q → (earlier_alias o s d vs ≡ Some q → FirstOf P s d q vs) → FirstOf P s d q (v ∷ vs)
step-first P o s d q v vs h e rest-first = go (same_origin o v.origin) (same_space s v.space && same_item d v.denoted) refl e rest-first
  where
    -- one that is not alike is passed over for the found one too
    later : (w : Outward) → (same_space s v.space && same_item d v.denoted) ≡ false → s ≡ w.space → same_item d w.denoted ≡ true → earlier_alias w.origin w.space w.denoted vs ≡ None
        → earlier_alias w.origin w.space w.denoted (v ∷ vs) ≡ None
    later w f z i g = sym (earlier-same w.origin s w.space d w.denoted (v ∷ vs) z i) ∙ pass (same_origin w.origin v.origin)
      where
        pass : (b : Bool) → cond b None (cond (same_space s v.space && same_item d v.denoted) (Some v.origin) (earlier_alias w.origin s d vs)) ≡ None
        pass true = refl
        pass false = rw f (earlier-same w.origin s w.space d w.denoted vs z i ∙ g)

    go : (b c : Bool) → (same_space s v.space && same_item d v.denoted) ≡ c → cond b None (cond c (Some v.origin) (earlier_alias o s d vs)) ≡ Some q
        → (earlier_alias o s d vs ≡ Some q → FirstOf P s d q vs) → FirstOf P s d q (v ∷ vs)
    go true c f g rest = absurd (cc)
    go false true f g rest =
        let a : (same_space s v.space ≡ true) × (same_item d v.denoted ≡ true) = and-both _ _ f in
        (v, h, some-same v.origin q g, same_space-true s v.space a.0, a.1, rw (same_origin-refl v.origin) refl)
    go false false f g rest =
        let w : FirstOf P s d q vs = rest g in (w.0, w.1, w.2, w.3, w.4, later w.0 f w.3 w.4 w.5)

-- among the names in front of the one with the mark o
pub first-in : (P : Outward → Type 0) (o : Origin) (s : Space) (d : Denoted) (q : Origin) (ws : List Outward) (x : Outward) (rest : List Outward) → x.origin ≡ o → AllOut P ws
    → earlier_alias o s d (ws ++ x ∷ rest) ≡ Some q → FirstOf P s d q (ws ++ x ∷ rest)
first-in P o s d q [] x rest z h e = absurd (none-some (subst (λ v. cond (same_origin o v) None (cond (same_space s x.space && same_item d x.denoted) (Some x.origin) (earlier_alias o s d rest)) ≡ Some q) z e))
  where
    none-some : cond (same_origin o o) None (cond (same_space s x.space && same_item d x.denoted) (Some x.origin) (earlier_alias o s d rest)) ≡ Some q → ⊥
    none-some g = let y : None ≡ Some q = sym (rw (same_origin-refl o) refl) ∙ g in cc
first-in P o s d q (v ∷ vs) x rest z h e = step-first P o s d q v (vs ++ x ∷ rest) h.0 e (λ g. first-in P o s d q vs x rest z h.1 g)

-- among all names
first-of : (P : Outward → Type 0) (o : Origin) (s : Space) (d : Denoted) (q : Origin) (ws : List Outward) → AllOut P ws → earlier_alias o s d ws ≡ Some q → FirstOf P s d q ws
first-of P o s d q [] h e = absurd (cc)
first-of P o s d q (v ∷ vs) h e = step-first P o s d q v vs h.0 e (λ g. first-of P o s d q vs h.1 g)

-- ---- in a form

module _ (e : Encoding) where
  -- the alias of the item of these numbers
  abbrev pub alias_made : List Scope → Origin → Space → ℕ → ℕ → ℕ → Made
  alias_made st o s n i p = make o (alias_node n s (before s (written i) (marks (drop n st)) + p))

  -- where a name has no earlier one, its alias stands before position n
  abbrev pub NameAt : List Scope → Scope → ℕ → Outward → Type 0
  NameAt st c n w = (k : ℕ) × (u : ℕ) × (w.origin ≡ outer_alias_of k u)
      × (earlier_alias w.origin w.space w.denoted (outward_names (c ∷ st)) ≡ None
      → (p : ℕ) × (p < n) × (slice_get (built e st c) p ≡ Some (alias_made (c ∷ st) w.origin w.space w.denoted.depth w.denoted.item.definition w.denoted.item.part)))

  pub names-later : (st : List Scope) (c : Scope) (n m : ℕ) (ws : List Outward) → n ≤ m → AllOut (NameAt st c n) ws → AllOut (NameAt st c m) ws
  names-later st c n m ws l h = out-weaken (NameAt st c n) (NameAt st c m) (λ w g. (g.0, g.1, g.2, λ f. earlier w (g.3 f))) ws h
    where
      earlier : (w : Outward) → (p : ℕ) × (p < n) × (slice_get (built e st c) p ≡ Some (alias_made (c ∷ st) w.origin w.space w.denoted.depth w.denoted.item.definition w.denoted.item.part))
          → (p : ℕ) × (p < m) × (slice_get (built e st c) p ≡ Some (alias_made (c ∷ st) w.origin w.space w.denoted.depth w.denoted.item.definition w.denoted.item.part))
      earlier w h = let a : h.0 < n = h.1 in (h.0, omega (arith, a, l), h.2)

  -- the names in a part whose inline nodes stand from i on, its bundles from j on, its needs from n on
  abbrev pub EachAt : List Scope → Scope → ℕ → ℕ → ℕ → {H : Type 0} → Formed H → Planned Outward → Type 0
  EachAt st c i j n a p = AllOut (NameAt st c (i + length a.inlined)) p.inlined × AllOut (NameAt st c (j + length a.bundles)) p.bundles × AllOut (NameAt st c (n + length a.needed)) p.needed

  two-at : (st : List Scope) (c : Scope) (n : ℕ) (xs ys : List Made) (ps qs : List Outward) → AllOut (NameAt st c (n + length xs)) ps → AllOut (NameAt st c (n + length xs + length ys)) qs → AllOut (NameAt st c (n + length (xs ++ ys))) (ps ++ qs)
  two-at st c n xs ys ps qs a b =
      let z : n + length (xs ++ ys) ≡ n + length xs + length ys = end-both n xs ys in
      out-app (NameAt st c (n + length (xs ++ ys))) ps qs (names-later st c (n + length xs) (n + length (xs ++ ys)) ps (omega (arith, z)) a) (names-later st c (n + length xs + length ys) (n + length (xs ++ ys)) qs (omega (arith, z)) b)

  both-at : (st : List Scope) (c : Scope) (i j n : ℕ) {F G H : Type 0} (f : F → G → H) (a : Formed F) (b : Formed G) (p q : Planned Outward) → EachAt st c i j n a p → EachAt st c (i + length a.inlined) (j + length a.bundles) (n + length a.needed) b q
      → EachAt st c i j n (form_both f a b) (plan_both p q)
  both-at st c i j n f a b p q x y = (two-at st c i a.inlined b.inlined p.inlined q.inlined x.0 y.0, two-at st c j a.bundles b.bundles p.bundles q.bundles x.1 y.1, two-at st c n a.needed b.needed p.needed q.needed x.2 y.2)

  pub stand-left : (w : List Made) (i j n : ℕ) {F G H : Type 0} (f : F → G → H) (a : Formed F) (b : Formed G) → Stand w i j n (form_both f a b) → Stand w i j n a
  stand-left w i j n f a b h = (at-left w i a.inlined b.inlined h.0, at-left w j a.bundles b.bundles h.1, at-left w n a.needed b.needed h.2)

  pub stand-right : (w : List Made) (i j n : ℕ) {F G H : Type 0} (f : F → G → H) (a : Formed F) (b : Formed G) → Stand w i j n (form_both f a b) → Stand w (i + length a.inlined) (j + length a.bundles) (n + length a.needed) b
  stand-right w i j n f a b h = (at-right w i a.inlined b.inlined h.0, at-right w j a.bundles b.bundles h.1, at-right w n a.needed b.needed h.2)

  -- what stands before the own mark of a definition or an inline node, which ends at t
  all-own : (st : List Scope) (c : Scope) (i j n t : ℕ) (a : Formed Leaves) (p : Planned Outward) → i + length a.inlined ≤ t → j + length a.bundles ≤ t → n + length a.needed ≤ t → EachAt st c i j n a p → AllOut (NameAt st c t) (p.inlined ++ (p.bundles ++ (p.needed ++ [])))
  all-own st c i j n t a p x y z h =
      out-app (NameAt st c t) p.inlined (p.bundles ++ (p.needed ++ [])) (names-later st c (i + length a.inlined) t p.inlined x h.0)
      (out-app (NameAt st c t) p.bundles (p.needed ++ []) (names-later st c (j + length a.bundles) t p.bundles y h.1)
      (out-app (NameAt st c t) p.needed [] (names-later st c (n + length a.needed) t p.needed z h.2) tt))

  -- the same of bundles and needs
  last-own : (st : List Scope) (c : Scope) (j n t : ℕ) (a : Formed Leaves) (p : Planned Outward) → j + length a.bundles ≤ t → n + length a.needed ≤ t → AllOut (NameAt st c (j + length a.bundles)) p.bundles → AllOut (NameAt st c (n + length a.needed)) p.needed
      → AllOut (NameAt st c t) (p.bundles ++ (p.needed ++ []))
  last-own st c j n t a p y z g h =
      out-app (NameAt st c t) p.bundles (p.needed ++ []) (names-later st c (j + length a.bundles) t p.bundles y g) (out-app (NameAt st c t) p.needed [] (names-later st c (n + length a.needed) t p.needed z h) tt)

  alias-at : (st : List Scope) (c : Scope) (k u : ℕ) (s : Space) (d : Denoted) (n : ℕ) (o : Option Origin) → o ≡ None → At (built e st c) n (form_alias (c ∷ st) k u s d o).needed
      → (p : ℕ) × (p < n + length (form_alias (c ∷ st) k u s d o).needed) × (slice_get (built e st c) p ≡ Some (alias_made (c ∷ st) (outer_alias_of k u) s d.depth d.item.definition d.item.part))
  alias-at st c k u s d n None z h = (n, omega arith, h.0)
  alias-at st c k u s d n (Some q) z h = absurd (cc)

  name-at : (st : List Scope) (c : Scope) (k u : ℕ) (s : Space) (b : Bool) (o : Option Denoted) (i j n : ℕ) → Stand (built e st c) i j n (form_name (c ∷ st) k u s b o) → EachAt st c i j n (form_name (c ∷ st) k u s b o) (outward_name k u s b o)
  name-at st c k u s true None i j n h = (tt, tt, tt)
  name-at st c k u s false None i j n h = (tt, tt, tt)
  name-at st c k u s false (Some d) i j n h = (tt, tt, tt)
  name-at st c k u s true (Some d) i j n h = (tt, tt, ((k, u, refl, λ f. alias-at st c k u s d n (served (c ∷ st) k u s d) f h.2), tt))

  value-at : (st : List Scope) (c : Scope) (k u : ℕ) (v : CoreValue) (i j n : ℕ) → Stand (built e st c) i j n (form_value (c ∷ st) k u v) → EachAt st c i j n (form_value (c ∷ st) k u v) (outward_leaf (c ∷ st) k u (core_value v))
  value-at st c k u (ref_name b r x) i j n h = name-at st c k u CoreType (leads_out r (denotes (c ∷ st) CoreType r x)) (denotes (c ∷ st) CoreType r x) i j n h
  value-at st c k u v i j n h = (tt, tt, tt)

  inline-at : (st : List Scope) (c : Scope) (k u : ℕ) (s : Space) (t : Row) (o : Option Origin) (a : Formed Leaves) (p : Planned Outward) (i j n : ℕ) → Stand (built e st c) i j n (form_inline (c ∷ st) k u s t o a)
      → ((x y z : ℕ) → Stand (built e st c) x y z a → EachAt st c x y z a p) → EachAt st c i j n (form_inline (c ∷ st) k u s t o a) (plan_inline o p [])
  inline-at st c k u s t (Some o) a p i j n h rec = (tt, tt, tt)
  inline-at st c k u s t None a p i j n h rec =
      let m : Made = own_made (inline_type k u) (row t) a in
      let g : OneAt (built e st c) i a m = one-at (built e st c) i a m h.0 in
      let x : ℕ = i + length a.inlined in
      let y : ℕ = i + length a.inlined + length a.bundles in
      let l : i + length a.inlined + length a.bundles + length a.needed + 1 ≡ i + length a.inlined + length (a.bundles ++ (a.needed ++ m ∷ [])) = g.1.3 in
      let r : i + length a.inlined + length (a.bundles ++ (a.needed ++ m ∷ [])) ≡ i + length (a.inlined ++ (a.bundles ++ (a.needed ++ m ∷ []))) = g.2 in
      let each : EachAt st c i x y a p = rec i x y (g.0, g.1.0, g.1.1) in
      (all-own st c i x y (i + length (a.inlined ++ (a.bundles ++ (a.needed ++ m ∷ [])))) a p (omega (arith, l, r)) (omega (arith, l, r)) (omega (arith, l, r)) each, tt, tt)

  bundle-at : (st : List Scope) (c : Scope) (k u : ℕ) (s : Space) (t : Row) (a : Formed Leaves) (p : Planned Outward) (i j n : ℕ) → Stand (built e st c) i j n (form_bundle (c ∷ st) k u s t a)
      → ((x y z : ℕ) → Stand (built e st c) x y z a → EachAt st c x y z a p) → EachAt st c i j n (form_bundle (c ∷ st) k u s t a) (plan_bundle p [])
  bundle-at st c k u s t a p i j n h rec =
      let m : Made = own_made (bundle_of k u) (row t) a in
      let g : LastAt (built e st c) j a m = last-at (built e st c) j a m h.1 in
      let y : ℕ = j + length a.bundles in
      let l : j + length a.bundles + length a.needed + 1 ≡ j + length (a.bundles ++ (a.needed ++ m ∷ [])) = g.3 in
      let each : EachAt st c i j y a p = rec i j y (h.0, g.0, g.1) in
      (each.0, last-own st c j y (j + length (a.bundles ++ (a.needed ++ m ∷ []))) a p (omega (arith, l)) (omega (arith, l)) each.1 each.2, tt)

  mutual
    pub leaves-at : (st : List Scope) (c : Scope) (k u : ℕ) (ls : Leaves) (i j n : ℕ) → Stand (built e st c) i j n (form_leaves e (c ∷ st) k u ls) → EachAt st c i j n (form_leaves e (c ∷ st) k u ls) (outward_leaves (c ∷ st) k u ls)
    leaves-at st c k u no_leaf i j n h = (tt, tt, tt)
    leaves-at st c k u (l ▸ ls) i j n h =
        let a : Formed Leaf = form_leaf e (c ∷ st) k u l in
        let b : Formed Leaves = form_leaves e (c ∷ st) k (u + references_leaf l) ls in
        both-at st c i j n (λ b bs. b ▸ bs) a b (outward_leaf (c ∷ st) k u l) (outward_leaves (c ∷ st) k (u + references_leaf l) ls)
        (leaf-at st c k u l i j n (stand-left (built e st c) i j n (λ b bs. b ▸ bs) a b h))
        (leaves-at st c k (u + references_leaf l) ls (i + length a.inlined) (j + length a.bundles) (n + length a.needed) (stand-right (built e st c) i j n (λ b bs. b ▸ bs) a b h))

    pub leaf-at : (st : List Scope) (c : Scope) (k u : ℕ) (l : Leaf) (i j n : ℕ) → Stand (built e st c) i j n (form_leaf e (c ∷ st) k u l) → EachAt st c i j n (form_leaf e (c ∷ st) k u l) (outward_leaf (c ∷ st) k u l)
    leaf-at st c k u (core_value v) i j n h = value-at st c k u v i j n h
    leaf-at st c k u (ref s (name r x)) i j n h = name-at st c k u s (leads_out r (denotes (c ∷ st) s r x)) (denotes (c ∷ st) s r x) i j n h
    leaf-at st c k u (ref s (inline (row t ls))) i j n h =
        inline-at st c k u s t (reused (c ∷ st) k u t ls) (form_leaves e (c ∷ st) k (u + 1) ls) (outward_leaves (c ∷ st) k (u + 1) ls) i j n h (λ x y z g. leaves-at st c k (u + 1) ls x y z g)
    leaf-at st c k u (ref s (bundle (row t ls))) i j n h = bundle-at st c k u s t (form_leaves e (c ∷ st) k (u + 1) ls) (outward_leaves (c ∷ st) k (u + 1) ls) i j n h (λ x y z g. leaves-at st c k (u + 1) ls x y z g)
    leaf-at st c k u (present l) i j n h = leaf-at st c k u l i j n h
    leaf-at st c k u (node (row t ls)) i j n h = leaves-at st c k u ls i j n h
    leaf-at st c k u (nodes ns) i j n h = nodes-at st c k u ns i j n h
    leaf-at st c k u (scope (scope_of q id label ds)) i j n h = (tt, tt, tt)
    leaf-at st c k u l i j n h = (tt, tt, tt)

    pub nodes-at : (st : List Scope) (c : Scope) (k u : ℕ) (ns : Nodes) (i j n : ℕ) → Stand (built e st c) i j n (form_nodes e (c ∷ st) k u ns) → EachAt st c i j n (form_nodes e (c ∷ st) k u ns) (outward_nodes (c ∷ st) k u ns)
    nodes-at st c k u no_node i j n h = (tt, tt, tt)
    nodes-at st c k u (one_node (row t ls) ns) i j n h =
        let a : Formed Leaves = form_leaves e (c ∷ st) k u ls in
        let b : Formed Nodes = form_nodes e (c ∷ st) k (u + references ls) ns in
        both-at st c i j n (λ bs cs. one_node (row t bs) cs) a b (outward_leaves (c ∷ st) k u ls) (outward_nodes (c ∷ st) k (u + references ls) ns)
        (leaves-at st c k u ls i j n (stand-left (built e st c) i j n (λ bs cs. one_node (row t bs) cs) a b h))
        (nodes-at st c k (u + references ls) ns (i + length a.inlined) (j + length a.bundles) (n + length a.needed) (stand-right (built e st c) i j n (λ bs cs. one_node (row t bs) cs) a b h))

  -- of a definition, from b on
  pub def-at : (st : List Scope) (c : Scope) (k b : ℕ) (t : Row) (ls : Leaves) → At (built e st c) b (form_one (written k) (coded_node e t ls) (form_leaves e (c ∷ st) k 0 ls))
      → AllOut (NameAt st c (b + length (form_one (written k) (coded_node e t ls) (form_leaves e (c ∷ st) k 0 ls)))) (plan_own (outward_leaves (c ∷ st) k 0 ls) [])
  def-at st c k b t ls h =
      let a : Formed Leaves = form_leaves e (c ∷ st) k 0 ls in
      let p : Planned Outward = outward_leaves (c ∷ st) k 0 ls in
      let m : Made = own_made (written k) (coded_node e t ls) a in
      let g : OneAt (built e st c) b a m = one-at (built e st c) b a m h in
      let x : ℕ = b + length a.inlined in
      let y : ℕ = b + length a.inlined + length a.bundles in
      let l : b + length a.inlined + length a.bundles + length a.needed + 1 ≡ b + length a.inlined + length (a.bundles ++ (a.needed ++ m ∷ [])) = g.1.3 in
      let r : b + length a.inlined + length (a.bundles ++ (a.needed ++ m ∷ [])) ≡ b + length (a.inlined ++ (a.bundles ++ (a.needed ++ m ∷ []))) = g.2 in
      all-own st c b x y (b + length (a.inlined ++ (a.bundles ++ (a.needed ++ m ∷ [])))) a p (omega (arith, l, r)) (omega (arith, l, r)) (omega (arith, l, r)) (leaves-at st c k 0 ls b x y (g.0, g.1.0, g.1.1))

  defs-at : (st : List Scope) (c : Scope) (k b : ℕ) (ds : Defs) → At (built e st c) b (form_defs e (c ∷ st) k ds) → AllOut (NameAt st c (b + length (form_defs e (c ∷ st) k ds))) (outward_defs (c ∷ st) k ds)
  defs-at st c k b no_def h = tt
  defs-at st c k b (one_def (define names (row t ls)) ds) h =
      let one : List Made = form_one (written k) (coded_node e t ls) (form_leaves e (c ∷ st) k 0 ls) in
      let more : List Made = form_defs e (c ∷ st) (k + 1) ds in
      two-at st c b one more (plan_own (outward_leaves (c ∷ st) k 0 ls) []) (outward_defs (c ∷ st) (k + 1) ds)
      (def-at st c k b t ls (at-left (built e st c) b one more h)) (defs-at st c (k + 1) (b + length one) ds (at-right (built e st c) b one more h))

  pub defs-stand : (st : List Scope) (c : Scope) → At (built e st c) 0 (form_defs e (c ∷ st) 0 (defs_of c))
  defs-stand st (scope_of k id label ds) =
      at-left (built e st (scope_of k id label ds)) 0 (form_defs e (scope_of k id label ds ∷ st) 0 ds)
      (form_exports (scope_of k id label ds ∷ st) 0 ds ++ form_names st (scope_of k id label ds) (has_names (scope_of k id label ds))) (at-self (built e st (scope_of k id label ds)))

  -- the alias with that mark is of the item that d is
  abbrev pub SharedAlias : List Scope → Scope → Space → Denoted → Origin → Type 0
  SharedAlias st c s d q = (k : ℕ) × (u : ℕ) × (q ≡ outer_alias_of k u) × Sits (built e st c) (make q (alias_node d.depth s (item_index (c ∷ st) s d)))

  -- where the first of those that denote it stands, is the alias of the item
  pub alias-of-first : (st : List Scope) (c : Scope) (s : Space) (d : Denoted) (q : Origin) (n : ℕ) → FirstOf (NameAt st c n) s d q (outward_names (c ∷ st))
      → (k : ℕ) × (u : ℕ) × (p : ℕ) × (q ≡ outer_alias_of k u) × (p < n) × (slice_get (built e st c) p ≡ Some (make q (alias_node d.depth s (item_index (c ∷ st) s d))))
  alias-of-first st c s d q n w =
      let i : (d.depth ≡ w.0.denoted.depth) × (d.item.definition ≡ w.0.denoted.item.definition) × (d.item.part ≡ w.0.denoted.item.part) = same-numbers d w.0.denoted w.4 in
      let there : (p : ℕ) × (p < n) × (slice_get (built e st c) p ≡ Some (alias_made (c ∷ st) w.0.origin w.0.space w.0.denoted.depth w.0.denoted.item.definition w.0.denoted.item.part)) = w.1.3 w.5 in
      let here : alias_made (c ∷ st) w.0.origin w.0.space w.0.denoted.depth w.0.denoted.item.definition w.0.denoted.item.part ≡ alias_made (c ∷ st) q s d.depth d.item.definition d.item.part = rw (w.2, sym w.3, sym i.0, sym i.1, sym i.2) refl in
      (w.1.0, w.1.1, there.0, sym w.2 ∙ w.1.2, there.1, there.2 ∙ ap (λ m. Some m) here)

  -- a name that shares an alias shares one of the item that it denotes
  pub shared-alias : (st : List Scope) (c : Scope) (k u : ℕ) (s : Space) (d : Denoted) (q : Origin) → served (c ∷ st) k u s d ≡ Some q → SharedAlias st c s d q
  shared-alias st c k u s d q h =
      let n : ℕ = 0 + length (form_defs e (c ∷ st) 0 (defs_of c)) in
      let w : FirstOf (NameAt st c n) s d q (outward_names (c ∷ st)) = first-of (NameAt st c n) (outer_alias_of k u) s d q (outward_names (c ∷ st)) (defs-at st c 0 0 (defs_of c) (defs-stand st c)) h in
      let a : (k : ℕ) × (u : ℕ) × (p : ℕ) × (q ≡ outer_alias_of k u) × (p < n) × (slice_get (built e st c) p ≡ Some (make q (alias_node d.depth s (item_index (c ∷ st) s d)))) = alias-of-first st c s d q n w in
      (a.0, a.1, a.3, (a.2, a.5))
