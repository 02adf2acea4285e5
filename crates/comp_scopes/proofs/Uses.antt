-- Each planned mark has the use that it is planned for.
use Rattle.std.proofs.Common.{◌≡◌, ◌≢◌, ℕ, zero, suc, ◌+◌, ◌<◌, ◌⊎◌, inl, inr, Bool, true, false, cond, nat_eq, List, [], ◌∷◌, ◌++◌, map, find, slice_get, Option, Some, None, refl, sym, ◌∙◌, ap, subst, arith}
use Rattle.std.proofs.lemmas.Bool.{eqb-true, eq-eqb, ne_eqb}
use Rattle.comp_model.specs.declared.Space.{Space}
use Rattle.comp_model.specs.declared.Space.TheVariants.{CoreType}
use Rattle.comp_model.specs.declared.row.Row.TheVariants as rows
use Rattle.comp_model.specs.declared.row.Row.{Row}
use Rattle.comp_model.specs.RowNumbers.{same_row}
use Rattle.comp_model.specs.Core.{Text, Id, Reach, outward, CoreValue, ref_name}
use Rattle.comp_model.specs.Model.{Leaf, text, core_value, ref, present, node, nodes, scope, Target, name, Path, root_number, root_name, export_of, path, inline, bundle, Leaves, no_leaf, ◌▸◌, Node, row, Nodes, no_node, one_node, define, Defs, no_def, one_def, Scope, scope_of, defs_of}
use Rattle.comp_model.specs.Spaces.{declares_row}
use Rattle.comp_model.specs.Origins.{Origin, written, inline_type, bundle_of, inline_export, export_step, outer_alias_of, name_section, same_origin}
use Rattle.comp_model.proofs.Tests.{same_origin-refl, same_origin-false}
use Rattle.comp_scopes.specs.Encoding.{Encoding}
use Rattle.comp_scopes.specs.Names.{Denoted, denotes}
use Rattle.comp_scopes.specs.References.{references, references_leaf, steps, instance_space}
use Rattle.comp_scopes.specs.Reused.{reused}
use Rattle.comp_model.specs.ItemNames.{has_names}
use Rattle.comp_scopes.specs.Outward.{served, leads_out}
use Rattle.comp_scopes.specs.Plan.{marks, before}
use Rattle.comp_scopes.specs.Form.{mark_of, spaces_of, Made, make, Formed, form_both, own_made, form_one, form_inline, form_bundle, form_alias, form_name, form_path, path_index, step_node, form_value, form_exports_of, form_exports, form_names, coded_node, form_defs, form_leaves, form_leaf, form_nodes, built}
use Rattle.comp_scopes.specs.Rowed.{Textual, TextualLeaf, TextualNodes, DefsRowed, LeavesRowed, LeafRowed, NodesRowed}
use Rattle.comp_scopes.specs.Renders.{AllMade, item, Use, leaves_of_made, leaves_of_item, uses_in, uses_at, uses_of_nodes, uses_from, UseOf, AskedFor, LastStep, NextStep, StepStands, step_at, OriginStands, Gives, EachUsed}
use Rattle.comp_scopes.proofs.Counting.{Distinct}
use Rattle.comp_scopes.proofs.Formed.{step-declares, declares-form}
use Rattle.comp_scopes.proofs.Lookup.{the_item, Sits, some-same, made-left, made-right, made-app, made-weaken, made-get, all-get, built-item, built-distinct, leads_out-outward}
use Rattle.comp_scopes.proofs.Each.{Each, each-left, each-right, each-both, each-weaken, one-each, each-one, bundle-each, each-bundle, defs-sit}

-- ---- more uses

abbrev Covers : List Use → List Use → Type 0
Covers us vs = (q : ℕ) (x : Use) → slice_get us q ≡ Some x → (r : ℕ) × (slice_get vs r ≡ Some x)

covers-left : (us vs : List Use) → Covers us (us ++ vs)
covers-left [] vs q x e = absurd (cc)
covers-left (u ∷ us) vs zero x e = (zero, e)
covers-left (u ∷ us) vs (suc q) x e = let h : (r : ℕ) × (slice_get (us ++ vs) r ≡ Some x) = covers-left us vs q x e in (suc h.0, h.1)

covers-right : (us vs : List Use) → Covers vs (us ++ vs)
covers-right [] vs q x e = (q, e)
covers-right (u ∷ us) vs q x e = let h : (r : ℕ) × (slice_get (us ++ vs) r ≡ Some x) = covers-right us vs q x e in (suc h.0, h.1)

use-covered : (us vs : List Use) → Covers us vs → (k u : ℕ) (x : Use) → UseOf us k u x → UseOf vs k u x
use-covered us vs f k u x h = let g : (r : ℕ) × (slice_get vs r ≡ Some x) = f h.position x h.stands in record { position = g.0; stands = g.1; of_definition = h.of_definition; of_reference = h.of_reference }

-- a mark stands by more uses, and by a weaker reading of "this definition"
module _ (This That : Space → ℕ → Type 0) (g : (s : Space) (i : ℕ) → This s i → That s i) (ms : List Made) (us vs : List Use) (f : Covers us vs) where
  asked-more : {A : Type 0} (k u : ℕ) (sort : A → Target) → AskedFor This us k u sort → AskedFor That vs k u sort
  asked-more k u sort h = record { asker = h.asker; part = h.part; stands = use-covered us vs f k u h.asker h.stands; asks = h.asks; is_this = g h.asker.space h.asker.index h.is_this }

  leads_on-more : (k u i : ℕ) (p : Path) (x : Use) → LastStep This i p x ⊎ NextStep This ms k u i → LastStep That i p x ⊎ NextStep That ms k u i
  leads_on-more k u i p x (inl a) = inl (record { last = a.last; is_this = g x.space x.index a.is_this })
  leads_on-more k u i p x (inr a) = inr (record { position = a.position; space = a.space; name = a.name; index = a.index; stands = a.stands; is_this = g (instance_space a.space) a.index a.is_this })

  step-more : (k u i : ℕ) (n : Node) → StepStands This ms us k u i n → StepStands That ms vs k u i n
  step-more k u i n h = record {
    asker = h.asker;
    whole = h.whole;
    space = h.space;
    name = h.name;
    index = h.index;
    stands = use-covered us vs f k u h.asker h.stands;
    asks = h.asks;
    is_step = h.is_step;
    is_alias = h.is_alias;
    leads_on = leads_on-more k u i h.whole h.asker h.leads_on;
  }

stands-more : (This That : Space → ℕ → Type 0) → ((s : Space) (i : ℕ) → This s i → That s i) → (ms : List Made) (us vs : List Use) → Covers us vs → (o : Origin) (n : Node) → OriginStands This ms us o n → OriginStands That ms vs o n
stands-more This That g ms us vs f (written k) n h = tt
stands-more This That g ms us vs f (inline_type k u) n h = asked-more This That g ms us vs f k u inline h
stands-more This That g ms us vs f (bundle_of k u) n h = asked-more This That g ms us vs f k u bundle h
stands-more This That g ms us vs f (inline_export k j) n h = tt
stands-more This That g ms us vs f (export_step k u i) n h = step-more This That g ms us vs f k u i n h
stands-more This That g ms us vs f (outer_alias_of k u) n h = asked-more This That g ms us vs f k u (λ x. name outward x) h
stands-more This That g ms us vs f name_section n h = tt

-- texts plan nothing
mutual
  pub textual-each : (e : Encoding) (P : Made → Type 0) (st : List Scope) (k u : ℕ) (ls : Leaves) → Textual ls → Each P (form_leaves e st k u ls)
  textual-each e P st k u no_leaf h = (tt, tt, tt)
  textual-each e P st k u (l ▸ ls) h =
      each-both P (λ b bs. b ▸ bs) (form_leaf e st k u l) (form_leaves e st k (u + references_leaf l) ls) (textual-leaf e P st k u l h.0) (textual-each e P st k (u + references_leaf l) ls h.1)

  textual-leaf : (e : Encoding) (P : Made → Type 0) (st : List Scope) (k u : ℕ) (l : Leaf) → TextualLeaf l → Each P (form_leaf e st k u l)
  textual-leaf e P st k u (text t) h = (tt, tt, tt)
  textual-leaf e P st k u (nodes ns) h = textual-nodes e P st k u ns h
  textual-leaf e P st k u _ h = absurd h

  textual-nodes : (e : Encoding) (P : Made → Type 0) (st : List Scope) (k u : ℕ) (ns : Nodes) → TextualNodes ns → Each P (form_nodes e st k u ns)
  textual-nodes e P st k u no_node h = (tt, tt, tt)
  textual-nodes e P st k u (one_node (row t ls) ns) h =
      each-both P (λ bs cs. one_node (row t bs) cs) (form_leaves e st k u ls) (form_nodes e st k (u + references ls) ns) (textual-each e P st k u ls h.0) (textual-nodes e P st k (u + references ls) ns h.1)

-- ---- the steps of a path

step_at-below : (s : Space) (p : Path) (i : ℕ) (r : Space × Text) → step_at s p i ≡ Some r → i < steps p
step_at-below s (root_number o n) i r h = absurd (cc)
step_at-below s (root_name x) i r h = absurd (cc)
step_at-below s (export_of p t) i r h = go (nat_eq i (steps p)) refl h (step_at-below (instance_space s) p i r)
  where
    go : (b : Bool) → nat_eq i (steps p) ≡ b → cond b (Some (s, t)) (step_at (instance_space s) p i) ≡ Some r → (step_at (instance_space s) p i ≡ Some r → i < steps p) → i < steps p + 1
    go true q g rest = let z : i ≡ steps p = eqb-true i (steps p) q in omega (arith, z)
    go false q g rest = let z : i < steps p = rest g in omega (arith, z)

step_at-last : (s : Space) (p : Path) (t : Text) → step_at s (export_of p t) (steps p) ≡ Some (s, t)
step_at-last s p t = rw (eq-eqb (steps p) (steps p) refl) refl

step_at-front : (s : Space) (p : Path) (t : Text) (i : ℕ) (r : Space × Text) → step_at (instance_space s) p i ≡ Some r → step_at s (export_of p t) i ≡ Some r
step_at-front s p t i r h =
    let b : i < steps p = step_at-below (instance_space s) p i r h in
    let z : nat_eq i (steps p) ≡ false = ne_eqb i (steps p) (λ q. omega (arith, b, q)) in
    rw z h

module _ (e : Encoding) where
  -- the mark stands by these uses, where its own index is its place in the plan
  abbrev Just : List Scope → Scope → List Use → Made → Type 0
  Just st c us m = OriginStands (λ s i. (i ≡ before s m.origin (marks (c ∷ st))) × (spaces_of m.made ≡ s ∷ [])) (built e st c) us m.origin m.made

  just-more : (st : List Scope) (c : Scope) (us vs : List Use) → Covers us vs → (m : Made) → Just st c us m → Just st c vs m
  just-more st c us vs f m h = stands-more (λ s i. (i ≡ before s m.origin (marks (c ∷ st))) × (spaces_of m.made ≡ s ∷ [])) (λ s i. (i ≡ before s m.origin (marks (c ∷ st))) × (spaces_of m.made ≡ s ∷ []))
      (λ s i x. x) (built e st c) us vs f m.origin m.made h

  -- an alias is that of the name for which it stands first
  alias-just : (st : List Scope) (c : Scope) (k u : ℕ) (s : Space) (r : Reach) (x : Id) (d : Denoted) (o : Option Origin) → leads_out r (Some d) ≡ true
      → Each (Just st c (record { definition = k; reference = u; space = s; target = name r x; index = (form_alias (c ∷ st) k u s d o).here } ∷ [])) (form_alias (c ∷ st) k u s d o)
  alias-just st c k u s r x d (Some o) h = (tt, tt, tt)
  alias-just st c k u s r x d None h = (
    tt,
    tt,
    (
      record {
        asker = record { definition = k; reference = u; space = s; target = name r x; index = before s (outer_alias_of k u) (marks (c ∷ st)) };
        part = x;
        stands = record { position = zero; stands = refl; of_definition = refl; of_reference = refl };
        asks = ap (λ q. name q x) (leads_out-outward r d h);
        is_this = (refl, refl);
      },
      tt,
    ),
  )

  name-just : (st : List Scope) (c : Scope) (k u : ℕ) (s : Space) (r : Reach) (x : Id) (o : Option Denoted) (b : Bool) → leads_out r o ≡ b
      → Each (Just st c (record { definition = k; reference = u; space = s; target = name r x; index = (form_name (c ∷ st) k u s b o).here } ∷ [])) (form_name (c ∷ st) k u s b o)
  name-just st c k u s r x None true h = (tt, tt, tt)
  name-just st c k u s r x None false h = (tt, tt, tt)
  name-just st c k u s r x (Some d) false h = (tt, tt, tt)
  name-just st c k u s r x (Some d) true h = alias-just st c k u s r x d (served (c ∷ st) k u s d) h

  -- of the path P to an item of space S, the part p that leads to an item of space s: the whole, or the instance of the next step
  abbrev Next : List Scope → Scope → ℕ → ℕ → Space → Path → Space → Path → Type 0
  Next st c k u S P s p = ((s ≡ S) × (steps p ≡ steps P) × (path_index (c ∷ st) k u S P ≡ path_index (c ∷ st) k u s p))
      ⊎ ((q : ℕ) × (r : Space) × (v : Text) × (i : ℕ) × (slice_get (built e st c) q ≡ Some (make (export_step k u (steps p)) (step_node i v r))) × (instance_space r ≡ s) × (i ≡ path_index (c ∷ st) k u s p))

  -- index i of space r is that of the alias for the last export name of a path
  abbrev IsStepOf : List Scope → Scope → ℕ → ℕ → Space → Path → Text → Space → ℕ → Type 0
  IsStepOf st c k u s p t r i = (i ≡ before r (export_step k u (steps p)) (marks (c ∷ st))) × (spaces_of (step_node (path_index (c ∷ st) k u (instance_space s) p) t s) ≡ r ∷ [])

  steps-just : (st : List Scope) (c : Scope) (k u : ℕ) (S : Space) (P : Path) (s : Space) (p : Path) → AllMade (Sits (built e st c)) (form_path (c ∷ st) k u s p)
      → ((i : ℕ) (r : Space × Text) → step_at s p i ≡ Some r → step_at S P i ≡ Some r) → Next st c k u S P s p
      → AllMade (Just st c (record { definition = k; reference = u; space = S; target = path P; index = path_index (c ∷ st) k u S P } ∷ [])) (form_path (c ∷ st) k u s p)
  steps-just st c k u S P s (root_number o n) h look next = tt
  steps-just st c k u S P s (root_name x) h look next = tt
  steps-just st c k u S P s (export_of p t) h look next =
      let m : Made = make (export_step k u (steps p)) (step_node (path_index (c ∷ st) k u (instance_space s) p) t s) in
      let us : List Use = record { definition = k; reference = u; space = S; target = path P; index = path_index (c ∷ st) k u S P } ∷ [] in
      let mine : Sits (built e st c) m = (made-right (Sits (built e st c)) (form_path (c ∷ st) k u (instance_space s) p) (m ∷ []) h).0 in
      made-app (Just st c us) (form_path (c ∷ st) k u (instance_space s) p) (m ∷ [])
      (steps-just st c k u S P (instance_space s) p (made-left (Sits (built e st c)) (form_path (c ∷ st) k u (instance_space s) p) (m ∷ []) h)
      (λ i r g. look i r (step_at-front s p t i r g))
      (inr (mine.0, s, t, path_index (c ∷ st) k u (instance_space s) p, mine.1, refl, refl))) (
        record {
          asker = record { definition = k; reference = u; space = S; target = path P; index = path_index (c ∷ st) k u S P };
          whole = P;
          space = s;
          name = t;
          index = path_index (c ∷ st) k u (instance_space s) p;
          stands = record { position = zero; stands = refl; of_definition = refl; of_reference = refl };
          asks = refl;
          is_step = look (steps p) (s, t) (step_at-last s p t);
          is_alias = refl;
          leads_on = end next;
        },
        tt,
      )
    where
      -- the step is the last of the whole, or the instance of the one behind it
      end : Next st c k u S P s (export_of p t)
          → LastStep (IsStepOf st c k u s p t) (steps p) P (record { definition = k; reference = u; space = S; target = path P; index = path_index (c ∷ st) k u S P }) ⊎ NextStep (IsStepOf st c k u s p t) (built e st c) k u (steps p)
      end (inl a) = inl (record { last = a.1; is_this = (a.2 ∙ ap (λ x. before x (export_step k u (steps p)) (marks (c ∷ st))) a.0, step-declares (path_index (c ∷ st) k u (instance_space s) p) t s ∙ ap (λ x. x ∷ []) a.0) })
      end (inr a) = inr (record {
        position = a.0;
        space = a.1;
        name = a.2;
        index = a.3;
        stands = a.4;
        is_this = (a.6 ∙ ap (λ x. before x (export_step k u (steps p)) (marks (c ∷ st))) (sym a.5), step-declares (path_index (c ∷ st) k u (instance_space s) p) t s ∙ ap (λ x. x ∷ []) (sym a.5));
      })

  value-just : (st : List Scope) (c : Scope) (k u : ℕ) (v : CoreValue) → Each (Just st c (uses_at (built e st c) k u (core_value v) (form_value (c ∷ st) k u v).here)) (form_value (c ∷ st) k u v)
  value-just st c k u (ref_name b r x) = name-just st c k u CoreType r x (denotes (c ∷ st) CoreType r x) (leads_out r (denotes (c ∷ st) CoreType r x)) refl
  value-just st c k u v = (tt, tt, tt)

  -- what a list of definitions holds, of which the item is the definition at its index
  item-leaves : (st : List Scope) (c : Scope) (s : Space) (m : Made) (bs : Leaves) → Sits (built e st c) m → spaces_of m.made ≡ s ∷ [] → leaves_of_made (Some m) ≡ bs
      → leaves_of_item (built e st c) (item (built e st c) s (before s m.origin (marks (c ∷ st)))) ≡ bs
  item-leaves st c s m bs h one g = ap (leaves_of_item (built e st c)) (built-item e st c h.0 m s h.1 one) ∙ ap leaves_of_made h.1 ∙ g

  both-just : (st : List Scope) (c : Scope) {F G H : Type 0} (f : F → G → H) (a : Formed F) (b : Formed G) (us vs : List Use) → Each (Just st c us) a → Each (Just st c vs) b → Each (Just st c (us ++ vs)) (form_both f a b)
  both-just st c f a b us vs x y = each-both (Just st c (us ++ vs)) f a b (each-weaken (Just st c us) (Just st c (us ++ vs)) (just-more st c us (us ++ vs) (covers-left us vs)) a x)
      (each-weaken (Just st c vs) (Just st c (us ++ vs)) (just-more st c vs (us ++ vs) (covers-right us vs)) b y)

  inline-just : (st : List Scope) (c : Scope) (k u : ℕ) (s : Space) (t : Row) (ls : Leaves) (j : Option Origin) (a : Formed Leaves) → declares_row t a.here ≡ s ∷ [] → Each (Sits (built e st c)) (form_inline (c ∷ st) k u s t j a)
      → (Each (Sits (built e st c)) a → Each (Just st c (uses_in (built e st c) (k) (u + 1) ls a.here)) a)
      → Each (Just st c (uses_at (built e st c) k u (ref s (inline (row t ls))) (form_inline (c ∷ st) k u s t j a).here)) (form_inline (c ∷ st) k u s t j a)
  inline-just st c k u s t ls (Some j) a d h rec = (tt, tt, tt)
  inline-just st c k u s t ls None a d h rec =
      let m : Made = own_made (inline_type k u) (row t) a in
      let x : Each (Sits (built e st c)) a × Sits (built e st c) m = one-each (Sits (built e st c)) (inline_type k u) (row t) a h.0 in
      let i : ℕ = before s (inline_type k u) (marks (c ∷ st)) in
      let v : Use = record { definition = k; reference = u; space = s; target = inline (row t ls); index = before s (inline_type k u) (marks (c ∷ st)) } in
      let f : leaves_of_item (built e st c) (item (built e st c) s (before s (inline_type k u) (marks (c ∷ st)))) ≡ a.here = item-leaves st c s m a.here x.1 d refl in
      let us : List Use = uses_in (built e st c) k (u + 1) ls (leaves_of_item (built e st c) (item (built e st c) s (before s (inline_type k u) (marks (c ∷ st))))) in
      let y : Each (Just st c us) a = subst (λ bs. Each (Just st c (uses_in (built e st c) k (u + 1) ls bs)) a) (sym f) (rec x.0) in (
        each-one (Just st c (v ∷ us)) (inline_type k u) (row t) a (each-weaken (Just st c us) (Just st c (v ∷ us)) (just-more st c us (v ∷ us) (covers-right (v ∷ []) us)) a y)
            (record { asker = v; part = row t ls; stands = record { position = zero; stands = refl; of_definition = refl; of_reference = refl }; asks = refl; is_this = (refl, d) }),
        tt,
        tt,
      )

  bundle-just : (st : List Scope) (c : Scope) (k u : ℕ) (s : Space) (t : Row) (ls : Leaves) (a : Formed Leaves) → declares_row t a.here ≡ s ∷ [] → Each (Sits (built e st c)) (form_bundle (c ∷ st) k u s t a)
      → (Each (Sits (built e st c)) a → Each (Just st c (uses_in (built e st c) (k) (u + 1) ls a.here)) a)
      → Each (Just st c (uses_at (built e st c) k u (ref s (bundle (row t ls))) (form_bundle (c ∷ st) k u s t a).here)) (form_bundle (c ∷ st) k u s t a)
  bundle-just st c k u s t ls a d h rec =
      let m : Made = own_made (bundle_of k u) (row t) a in
      let x : Each (Sits (built e st c)) a × Sits (built e st c) m = bundle-each (Sits (built e st c)) (c ∷ st) k u s t a h in
      let v : Use = record { definition = k; reference = u; space = s; target = bundle (row t ls); index = before s (bundle_of k u) (marks (c ∷ st)) } in
      let f : leaves_of_item (built e st c) (item (built e st c) s (before s (bundle_of k u) (marks (c ∷ st)))) ≡ a.here = item-leaves st c s m a.here x.1 d refl in
      let us : List Use = uses_in (built e st c) k (u + 1) ls (leaves_of_item (built e st c) (item (built e st c) s (before s (bundle_of k u) (marks (c ∷ st))))) in
      let y : Each (Just st c us) a = subst (λ bs. Each (Just st c (uses_in (built e st c) k (u + 1) ls bs)) a) (sym f) (rec x.0) in
      each-bundle (Just st c (v ∷ us)) (c ∷ st) k u s t a (each-weaken (Just st c us) (Just st c (v ∷ us)) (just-more st c us (v ∷ us) (covers-right (v ∷ []) us)) a y)
      (record { asker = v; part = row t ls; stands = record { position = zero; stands = refl; of_definition = refl; of_reference = refl }; asks = refl; is_this = (refl, d) })

  mutual
    leaves-just : (st : List Scope) (c : Scope) (k u : ℕ) (ls : Leaves) → LeavesRowed ls → Each (Sits (built e st c)) (form_leaves e (c ∷ st) k u ls)
        → Each (Just st c (uses_in (built e st c) k u ls (form_leaves e (c ∷ st) k u ls).here)) (form_leaves e (c ∷ st) k u ls)
    leaves-just st c k u no_leaf w h = (tt, tt, tt)
    leaves-just st c k u (l ▸ ls) w h =
        both-just st c (λ b bs. b ▸ bs) (form_leaf e (c ∷ st) k u l) (form_leaves e (c ∷ st) k (u + references_leaf l) ls)
        (uses_at (built e st c) k u l (form_leaf e (c ∷ st) k u l).here) (uses_in (built e st c) k (u + references_leaf l) ls (form_leaves e (c ∷ st) k (u + references_leaf l) ls).here)
        (leaf-just st c k u l w.1 (each-left (Sits (built e st c)) (λ b bs. b ▸ bs) (form_leaf e (c ∷ st) k u l) (form_leaves e (c ∷ st) k (u + references_leaf l) ls) h))
        (leaves-just st c k (u + references_leaf l) ls w.2 (each-right (Sits (built e st c)) (λ b bs. b ▸ bs) (form_leaf e (c ∷ st) k u l) (form_leaves e (c ∷ st) k (u + references_leaf l) ls) h))

    leaf-just : (st : List Scope) (c : Scope) (k u : ℕ) (l : Leaf) → LeafRowed l → Each (Sits (built e st c)) (form_leaf e (c ∷ st) k u l)
        → Each (Just st c (uses_at (built e st c) k u l (form_leaf e (c ∷ st) k u l).here)) (form_leaf e (c ∷ st) k u l)
    leaf-just st c k u (core_value v) w h = value-just st c k u v
    leaf-just st c k u (ref s (name r x)) w h = name-just st c k u s r x (denotes (c ∷ st) s r x) (leads_out r (denotes (c ∷ st) s r x)) refl
    leaf-just st c k u (ref s (path p)) w h = (tt, tt, steps-just st c k u s p s p h.2 (λ i r g. g) (inl (refl, refl, refl)))
    leaf-just st c k u (ref s (inline (row t ls))) w h =
        inline-just st c k u s t ls (reused (c ∷ st) k u t ls) (form_leaves e (c ∷ st) k (u + 1) ls) (declares-form e (c ∷ st) k (u + 1) t ls ∙ w.0) h (λ n. leaves-just st c k (u + 1) ls w.1 n)
    leaf-just st c k u (ref s (bundle (row t ls))) w h =
        bundle-just st c k u s t ls (form_leaves e (c ∷ st) k (u + 1) ls) (declares-form e (c ∷ st) k (u + 1) t ls ∙ w.0) h (λ n. leaves-just st c k (u + 1) ls w.1 n)
    leaf-just st c k u (present l) w h = leaf-just st c k u l w h
    leaf-just st c k u (node (row t ls)) w h = leaves-just st c k u ls w h
    leaf-just st c k u (nodes ns) w h = nodes-just st c k u ns w h
    leaf-just st c k u (scope (scope_of q id label ds)) w h = (tt, tt, tt)
    leaf-just st c k u l w h = (tt, tt, tt)

    nodes-just : (st : List Scope) (c : Scope) (k u : ℕ) (ns : Nodes) → NodesRowed ns → Each (Sits (built e st c)) (form_nodes e (c ∷ st) k u ns)
        → Each (Just st c (uses_of_nodes (built e st c) k u ns (form_nodes e (c ∷ st) k u ns).here)) (form_nodes e (c ∷ st) k u ns)
    nodes-just st c k u no_node w h = (tt, tt, tt)
    nodes-just st c k u (one_node (row t ls) ns) w h =
        both-just st c (λ bs cs. one_node (row t bs) cs) (form_leaves e (c ∷ st) k u ls) (form_nodes e (c ∷ st) k (u + references ls) ns)
        (uses_in (built e st c) k u ls (form_leaves e (c ∷ st) k u ls).here) (uses_of_nodes (built e st c) k (u + references ls) ns (form_nodes e (c ∷ st) k (u + references ls) ns).here)
        (leaves-just st c k u ls w.1 (each-left (Sits (built e st c)) (λ bs cs. one_node (row t bs) cs) (form_leaves e (c ∷ st) k u ls) (form_nodes e (c ∷ st) k (u + references ls) ns) h))
        (nodes-just st c k (u + references ls) ns w.2 (each-right (Sits (built e st c)) (λ bs cs. one_node (row t bs) cs) (form_leaves e (c ∷ st) k u ls) (form_nodes e (c ∷ st) k (u + references ls) ns) h))

  -- ---- all definitions

  found-mark : (ms : List Made) (p : ℕ) (m : Made) → Distinct (map mark_of ms) → slice_get ms p ≡ Some m → find (λ n. same_origin m.origin n.origin) ms ≡ Some m
  found-mark [] p m d h = absurd (cc)
  found-mark (n ∷ ms) zero m d h = let i : n ≡ m = some-same n m h in
      let j : same_origin m.origin n.origin ≡ true = subst (λ x. same_origin m.origin x.origin ≡ true) (sym i) (same_origin-refl m.origin) in rw j h
  found-mark (n ∷ ms) (suc p) m d h = let o : n.origin ≢ m.origin = all-get n.origin ms p m d.0 h in
      let j : same_origin m.origin n.origin ≡ false = same_origin-false m.origin n.origin (λ q. o (sym q)) in rw j (found-mark ms p m d.1 h)

  def-just : (st : List Scope) (c : Scope) (k : ℕ) (t : Row) (ls : Leaves) → (same_row t rows.Producers ≡ true → Textual ls) → LeavesRowed ls
      → AllMade (Sits (built e st c)) (form_one (written k) (coded_node e t ls) (form_leaves e (c ∷ st) k 0 ls))
      → Each (Just st c (uses_in (built e st c) k 0 ls (leaves_of_made (find (λ n. same_origin (written k) n.origin) (built e st c))))) (form_leaves e (c ∷ st) k 0 ls)
  def-just st c k t ls x w h = go (same_row t rows.Producers) refl
    where
      go : (b : Bool) → same_row t rows.Producers ≡ b → Each (Just st c (uses_in (built e st c) k 0 ls (leaves_of_made (find (λ n. same_origin (written k) n.origin) (built e st c))))) (form_leaves e (c ∷ st) k 0 ls)
      go true q = textual-each e _ (c ∷ st) k 0 ls (x q)
      go false q =
          let a : Formed Leaves = form_leaves e (c ∷ st) k 0 ls in
          let m : Made = own_made (written k) (coded_node e t ls) a in
          let y : Each (Sits (built e st c)) a × Sits (built e st c) m = one-each (Sits (built e st c)) (written k) (coded_node e t ls) a h in
          let r : leaves_of_made (Some m) ≡ (form_leaves e (c ∷ st) k 0 ls).here = rw q refl in
          let f : leaves_of_made (find (λ n. same_origin (written k) n.origin) (built e st c)) ≡ (form_leaves e (c ∷ st) k 0 ls).here = ap leaves_of_made (found-mark (built e st c) y.1.0 m (built-distinct e st c) y.1.1) ∙ r in
          subst (λ bs. Each (Just st c (uses_in (built e st c) k 0 ls bs)) (form_leaves e (c ∷ st) k 0 ls)) (sym f) (leaves-just st c k 0 ls w y.0)

  defs-just : (st : List Scope) (c : Scope) (k : ℕ) (ds : Defs) → DefsRowed ds → AllMade (Sits (built e st c)) (form_defs e (c ∷ st) k ds) → AllMade (Just st c (uses_from (built e st c) k ds)) (form_defs e (c ∷ st) k ds)
  defs-just st c k no_def w h = tt
  defs-just st c k (one_def (define names (row t ls)) ds) w h =
      let a : Formed Leaves = form_leaves e (c ∷ st) k 0 ls in
      let us : List Use = uses_in (built e st c) k 0 ls (leaves_of_made (find (λ n. same_origin (written k) n.origin) (built e st c))) in
      let vs : List Use = uses_from (built e st c) (k + 1) ds in
      let one : AllMade (Sits (built e st c)) (form_one (written k) (coded_node e t ls) (form_leaves e (c ∷ st) k 0 ls)) = made-left (Sits (built e st c)) (form_one (written k) (coded_node e t ls) (form_leaves e (c ∷ st) k 0 ls)) (form_defs e (c ∷ st) (k + 1) ds) h in
      let rest : AllMade (Sits (built e st c)) (form_defs e (c ∷ st) (k + 1) ds) = made-right (Sits (built e st c)) (form_one (written k) (coded_node e t ls) (form_leaves e (c ∷ st) k 0 ls)) (form_defs e (c ∷ st) (k + 1) ds) h in
      made-app (Just st c (us ++ vs)) (form_one (written k) (coded_node e t ls) (form_leaves e (c ∷ st) k 0 ls)) (form_defs e (c ∷ st) (k + 1) ds)
      (each-one (Just st c (us ++ vs)) (written k) (coded_node e t ls) (form_leaves e (c ∷ st) k 0 ls)
      (each-weaken (Just st c us) (Just st c (us ++ vs)) (just-more st c us (us ++ vs) (covers-left us vs)) (form_leaves e (c ∷ st) k 0 ls) (def-just st c k t ls w.2 w.3 one)) tt)
      (made-weaken (Just st c vs) (Just st c (us ++ vs)) (just-more st c vs (us ++ vs) (covers-right us vs)) (form_defs e (c ∷ st) (k + 1) ds) (defs-just st c (k + 1) ds w.4 rest))

  exports_of-just : (st : List Scope) (c : Scope) (us : List Use) (k j : ℕ) (xs : List Text) (ss : List Space) → AllMade (Just st c us) (form_exports_of (c ∷ st) k j xs ss)
  exports_of-just st c us k j [] ss = tt
  exports_of-just st c us k j (x ∷ xs) [] = tt
  exports_of-just st c us k j (x ∷ xs) (s ∷ ss) = (tt, exports_of-just st c us k (j + 1) xs (s ∷ ss))

  exports-just : (st : List Scope) (c : Scope) (us : List Use) (k : ℕ) (ds : Defs) → AllMade (Just st c us) (form_exports (c ∷ st) k ds)
  exports-just st c us k no_def = tt
  exports-just st c us k (one_def (define names (row t ls)) ds) = made-app (Just st c us) (form_exports_of (c ∷ st) k 0 names.exports (declares_row t ls)) (form_exports (c ∷ st) (k + 1) ds)
      (exports_of-just st c us k 0 names.exports (declares_row t ls)) (exports-just st c us (k + 1) ds)

  names-just : (st : List Scope) (c : Scope) (us : List Use) (b : Bool) → AllMade (Just st c us) (form_names st c b)
  names-just st c us true = (tt, tt)
  names-just st c us false = tt

  built-just : (st : List Scope) (c : Scope) → DefsRowed (defs_of c) → AllMade (Just st c (uses_from (built e st c) 0 (defs_of c))) (built e st c)
  built-just st (scope_of k id label ds) w =
      let c : Scope = scope_of k id label ds in
      let us : List Use = uses_from (built e st (scope_of k id label ds)) 0 ds in
      made-app (Just st (scope_of k id label ds) us) (form_defs e (scope_of k id label ds ∷ st) 0 ds) (form_exports (scope_of k id label ds ∷ st) 0 ds ++ form_names st (scope_of k id label ds) (has_names (scope_of k id label ds)))
      (defs-just st (scope_of k id label ds) 0 ds w (defs-sit e st (scope_of k id label ds)))
      (made-app (Just st (scope_of k id label ds) us) (form_exports (scope_of k id label ds ∷ st) 0 ds) (form_names st (scope_of k id label ds) (has_names (scope_of k id label ds)))
      (exports-just st (scope_of k id label ds) us 0 ds) (names-just st (scope_of k id label ds) us (has_names (scope_of k id label ds))))

  covers-self : (us : List Use) → Covers us us
  covers-self us q x h = (q, h)

  pub each-used : (st : List Scope) (c : Scope) → DefsRowed (defs_of c) → EachUsed (defs_of c) (built e st c)
  each-used st c w p m h =
      stands-more (λ s i. (i ≡ before s m.origin (marks (c ∷ st))) × (spaces_of m.made ≡ s ∷ [])) (Gives (built e st c) p)
      (λ s i g. record { declaration = the_item s p 0; declared = ap (item (built e st c) s) g.0 ∙ built-item e st c p m s h g.1; is_there = refl })
      (built e st c) (uses_from (built e st c) 0 (defs_of c)) (uses_from (built e st c) 0 (defs_of c)) (covers-self (uses_from (built e st c) 0 (defs_of c))) m.origin m.made
      (made-get (Just st c (uses_from (built e st c) 0 (defs_of c))) (built e st c) p m (built-just st c w) h)
