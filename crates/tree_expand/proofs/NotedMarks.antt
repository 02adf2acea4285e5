-- The marks of the types that a walk notes: which they are, that they are pairwise different, and that their definitions stand in the list.
use Rattle.std.proofs.Common.{◌≡◌, ℕ, zero, suc, ◌+◌, ◌<◌, ◌≤◌, Bool, true, false, cond, List, [], ◌∷◌, ◌++◌, slice_get, Option, Some, None, IsSome, refl, sym, ◌∙◌, ap, subst, arith, append_assoc, append-nil}
use Rattle.comp_model.specs.declared.Space.{Space}
use Rattle.comp_model.specs.declared.row.Row.{Row}
use Rattle.comp_model.specs.Core.{Id}
use Rattle.comp_model.specs.ItemNames.{first_or_none}
use Rattle.comp_model.specs.Model.{Leaf, ref, present, node, nodes, scope, inline, bundle, Leaves, no_leaf, ◌▸◌, row, Nodes, no_node, one_node, Scope, scope_of}
use Rattle.comp_model.specs.Origins.{Origin, inline_type, same_origin}
use Rattle.comp_model.proofs.Tests.{same_origin-refl, same_origin-false}
use Rattle.comp_scopes.specs.References.{references, references_leaf, references_nodes}
use Rattle.comp_scopes.specs.Signatures.{reused_signature}
use Rattle.comp_scopes.specs.Reused.{is_shared, Typed}
use Rattle.comp_expanded.specs.Expansion.{Entry}
use Rattle.type_keys.specs.Keys.{stands_for}
use Rattle.type_keys.specs.Named.{NoneMarked}
use Rattle.tree_expand.specs.Passed.{Noted, types_in, ids_in}
use Rattle.tree_expand.specs.Numbering.{Numbered, id_numbered, number_found, number_inline, number_leaf, number_leaves, number_nodes}
use Rattle.tree_expand.proofs.KeyLists.{types_app}

abbrev pub AllNoted : (Noted → Type 0) → List Noted → Type 0
AllNoted P [] = Unit {0}
AllNoted P (x ∷ xs) = P x × AllNoted P xs

pub noted_app : (P : Noted → Type 0) (xs ys : List Noted) → AllNoted P xs → AllNoted P ys → AllNoted P (xs ++ ys)
noted_app P [] ys a b = b
noted_app P (x ∷ xs) ys a b = (a.0, noted_app P xs ys a.1 b)

pub noted_weaken : (P Q : Noted → Type 0) → ((x : Noted) → P x → Q x) → (xs : List Noted) → AllNoted P xs → AllNoted Q xs
noted_weaken P Q f [] h = tt
noted_weaken P Q f (x ∷ xs) h = (f x h.0, noted_weaken P Q f xs h.1)

-- ---- its definition stands in a list

pub record StandsIn (xs : List Entry) (y : Noted) : Type 0 where
  pub place : ℕ
  pub found : Entry
  pub there : slice_get xs place ≡ Some found
  pub marked : found.origin ≡ y.typed.origin
  pub named : first_or_none found.names.ids ≡ y.id

in-left : (xs ys : List Entry) (e : Entry) (p : ℕ) → slice_get xs p ≡ Some e → slice_get (xs ++ ys) p ≡ Some e
in-left [] ys e p h = absurd (cc)
in-left (x ∷ xs) ys e zero h = h
in-left (x ∷ xs) ys e (suc p) h = in-left xs ys e p h

in-right : (xs ys : List Entry) (e : Entry) (p : ℕ) → slice_get ys p ≡ Some e → (q : ℕ) × (slice_get (xs ++ ys) q ≡ Some e)
in-right [] ys e p h = (p, h)
in-right (x ∷ xs) ys e p h = let r = in-right xs ys e p h in (suc r.0, r.1)

pub stands_left : (xs ys : List Entry) (y : Noted) → StandsIn xs y → StandsIn (xs ++ ys) y
stands_left xs ys y s = record { place = s.place; found = s.found; there = in-left xs ys s.found s.place s.there; marked = s.marked; named = s.named }

pub stands_right : (xs ys : List Entry) (y : Noted) → StandsIn ys y → StandsIn (xs ++ ys) y
stands_right xs ys y s = let r = in-right xs ys s.found s.place s.there in record { place = r.0; found = s.found; there = r.1; marked = s.marked; named = s.named }

pub stands_last : (xs : List Entry) (e : Entry) (y : Noted) → e.origin ≡ y.typed.origin → first_or_none e.names.ids ≡ y.id → StandsIn (xs ++ e ∷ []) y
stands_last xs e y f g = stands_right xs (e ∷ []) y (record { place = 0; found = e; there = refl; marked = f; named = g })

-- ---- the marks of a part

-- of a type inline at a reference from u on and below w, of which a definition stands in the list
pub record InPart (k u w : ℕ) (xs : List Entry) (y : Noted) : Type 0 where
  pub at_place : ℕ
  pub is_marked : y.typed.origin ≡ inline_type k at_place
  pub low : u ≤ at_place
  pub high : at_place < w
  pub given : IsSome y.id
  pub stands : StandsIn xs y

wider : (k u w u' w' : ℕ) (xs ys : List Entry) → u' ≤ u → w ≤ w' → ((y : Noted) → StandsIn xs y → StandsIn ys y) → (zs : List Noted) → AllNoted (InPart k u w xs) zs → AllNoted (InPart k u' w' ys) zs
wider k u w u' w' xs ys l h f zs a =
    noted_weaken (InPart k u w xs) (InPart k u' w' ys) (λ y p. record { at_place = p.at_place; is_marked = p.is_marked; low = omega (arith, l, p.low); high = omega (arith, h, p.high); given = p.given; stands = f y p.stands }) zs a

two-parts : (k u v w : ℕ) (xs ys : List Entry) (a b : List Noted) → u ≤ v → v ≤ w → AllNoted (InPart k u v xs) a → AllNoted (InPart k v w ys) b → AllNoted (InPart k u w (xs ++ ys)) (a ++ b)
two-parts k u v w xs ys a b l h f g =
    noted_app (InPart k u w (xs ++ ys)) a b (wider k u v u w xs (xs ++ ys) (omega arith) h (stands_left xs ys) a f) (wider k v w u w ys (xs ++ ys) l (omega arith) (stands_right xs ys) b g)

module _ (ids : List (Option Id)) (c : Scope) (k : ℕ) where
  inline-marks : (E : List Noted) (u m n : ℕ) (s : Space) (t : Row) (ls : Leaves) (a : Numbered Leaves) (q : Option ℕ) → AllNoted (InPart k (u + 1) (u + 1 + n) a.parts.inlined) a.noted
      → AllNoted (InPart k u (u + (1 + n)) (number_inline ids c k E u m s t ls a q).parts.inlined) (number_inline ids c k E u m s t ls a q).noted
  inline-marks E u m n s t ls a (Some j) h = tt
  inline-marks E u m n s t ls a None h = go (stands_for (types_in (E ++ a.noted)) t ls)
    where
      x : Id
      x = id_numbered (m + a.made + 1)

      own : Entry
      own = Rattle.comp_expanded.specs.Expansion.entry (inline_type k u) (Rattle.comp_expanded.specs.Expansion.generated_names (Some x)) t a.parts

      new : List Entry
      new = a.parts.inlined ++ (a.parts.bundles ++ own ∷ [])

      last : (b : Bool) → AllNoted (InPart k u (u + (1 + n)) new) (cond b (record { typed = record { origin = inline_type k u; tag = t; leaves = ls }; id = Some x } ∷ []) [])
      last true = (record { at_place = u; is_marked = refl; low = omega arith; high = omega arith; given = refl; stands = stands_right a.parts.inlined (a.parts.bundles ++ own ∷ []) _ (stands_last a.parts.bundles own _ refl refl) }, tt)
      last false = tt

      go : (o : Option ℕ) → AllNoted (InPart k u (u + (1 + n)) (number_found c k u m s t ls (ids_in (E ++ a.noted)) a o).parts.inlined) (number_found c k u m s t ls (ids_in (E ++ a.noted)) a o).noted
      go (Some j) = wider k (u + 1) (u + 1 + n) u (u + (1 + n)) a.parts.inlined (a.parts.inlined ++ a.parts.bundles) (omega arith) (omega arith) (stands_left a.parts.inlined a.parts.bundles) a.noted h
      go None = noted_app (InPart k u (u + (1 + n)) new) a.noted _ (wider k (u + 1) (u + 1 + n) u (u + (1 + n)) a.parts.inlined new (omega arith) (omega arith) (stands_left a.parts.inlined (a.parts.bundles ++ own ∷ [])) a.noted h) (last (is_shared t))

  mutual
    pub leaves_marks : (E : List Noted) (u m : ℕ) (ls : Leaves) → AllNoted (InPart k u (u + references ls) (number_leaves ids c k E u m ls).parts.inlined) (number_leaves ids c k E u m ls).noted
    leaves_marks E u m no_leaf = tt
    leaves_marks E u m (l ▸ ls) =
        let a = number_leaf ids c k E u m l in
        let b = number_leaves ids c k (E ++ a.noted) (u + references_leaf l) (m + a.made) ls in
        let z : u + references_leaf l + references ls ≡ u + (references_leaf l + references ls) = omega arith in
        two-parts k u (u + references_leaf l) (u + (references_leaf l + references ls)) a.parts.inlined b.parts.inlined a.noted b.noted (omega arith) (omega arith) (leaf_marks E u m l) (subst (λ w. AllNoted (InPart k (u + references_leaf l) w b.parts.inlined) b.noted) z (leaves_marks (E ++ a.noted) (u + references_leaf l) (m + a.made) ls))

    pub leaf_marks : (E : List Noted) (u m : ℕ) (l : Leaf) → AllNoted (InPart k u (u + references_leaf l) (number_leaf ids c k E u m l).parts.inlined) (number_leaf ids c k E u m l).noted
    leaf_marks E u m (ref s (inline (row t ls))) = inline-marks E u m (references ls) s t ls (number_leaves ids c k E (u + 1) m ls) (reused_signature (c ∷ []) k t ls) (leaves_marks E (u + 1) m ls)
    leaf_marks E u m (ref s (bundle (row t ls))) =
        let a = number_leaves ids c k E (u + 1) m ls in wider k (u + 1) (u + 1 + references ls) u (u + (1 + references ls)) a.parts.inlined a.parts.inlined (omega arith) (omega arith) (λ y h. h) a.noted (leaves_marks E (u + 1) m ls)
    leaf_marks E u m (present l) = leaf_marks E u m l
    leaf_marks E u m (node (row t ls)) = leaves_marks E u m ls
    leaf_marks E u m (nodes ns) = nodes_marks E u m ns
    leaf_marks E u m (scope (scope_of kd id label ds)) = tt
    leaf_marks E u m l = tt

    pub nodes_marks : (E : List Noted) (u m : ℕ) (ns : Nodes) → AllNoted (InPart k u (u + references_nodes ns) (number_nodes ids c k E u m ns).parts.inlined) (number_nodes ids c k E u m ns).noted
    nodes_marks E u m no_node = tt
    nodes_marks E u m (one_node (row t ls) ns) =
        let a = number_leaves ids c k E u m ls in
        let b = number_nodes ids c k (E ++ a.noted) (u + references ls) (m + a.made) ns in
        let z : u + references ls + references_nodes ns ≡ u + (references ls + references_nodes ns) = omega arith in
        two-parts k u (u + references ls) (u + (references ls + references_nodes ns)) a.parts.inlined b.parts.inlined a.noted b.noted (omega arith) (omega arith) (leaves_marks E u m ls) (subst (λ w. AllNoted (InPart k (u + references ls) w b.parts.inlined) b.noted) z (nodes_marks (E ++ a.noted) (u + references ls) (m + a.made) ns))

-- ---- marks that none has

pub none_app : (o : Origin) (xs ys : List Typed) → NoneMarked o xs → NoneMarked o ys → NoneMarked o (xs ++ ys)
none_app o [] ys a b = b
none_app o (x ∷ xs) ys a b = (a.0, none_app o xs ys a.1 b)

abbrev place-of : Origin → ℕ
place-of (inline_type k u) = u
place-of o = 0

apart-one : (k u w v : ℕ) (xs : List Entry) (zs : List Noted) → ((a : ℕ) → u ≤ a → a < w → v ≡ a → ⊥) → AllNoted (InPart k u w xs) zs → NoneMarked (inline_type k v) (types_in zs)
apart-one k u w v xs [] f h = tt
apart-one k u w v xs (z ∷ zs) f h = (same_origin-false (inline_type k v) z.typed.origin (λ e. f h.0.at_place h.0.low h.0.high (ap place-of (e ∙ h.0.is_marked))), apart-one k u w v xs zs f h.1)

-- no type in front has the mark of a reference from u on and below w
abbrev pub Clear : ℕ → ℕ → ℕ → List Noted → Type 0
Clear k u w E = (v : ℕ) → u ≤ v → v < w → NoneMarked (inline_type k v) (types_in E)

pub clear_next : (k u x w : ℕ) (E zs : List Noted) (xs : List Entry) → u ≤ x → Clear k u w E → AllNoted (InPart k u x xs) zs → Clear k x w (E ++ zs)
clear_next k u x w E zs xs l h a = λ v p q. subst (NoneMarked (inline_type k v)) (sym (types_app E zs)) (none_app (inline_type k v) (types_in E) (types_in zs) (h v (omega (arith, l, p)) q) (apart-one k u x v xs zs (λ b i j e. omega (arith, p, j, e)) a))

pub clear_part : (k u w u' w' : ℕ) (E : List Noted) → u ≤ u' → w' ≤ w → Clear k u w E → Clear k u' w' E
clear_part k u w u' w' E l g h = λ v p q. h v (omega (arith, l, p)) (omega (arith, g, q))

-- the mark of the node itself, behind what stands in it
pub clear_own : (k u w n : ℕ) (E zs : List Noted) (xs : List Entry) → u < w → Clear k u w E → AllNoted (InPart k (u + 1) n xs) zs → NoneMarked (inline_type k u) (types_in (E ++ zs))
clear_own k u w n E zs xs l h a = subst (NoneMarked (inline_type k u)) (sym (types_app E zs)) (none_app (inline_type k u) (types_in E) (types_in zs) (h u (omega arith) l) (apart-one k (u + 1) n u xs zs (λ b i j e. omega (arith, i, e)) a))

-- ---- the ids of marks

-- that of the first type of a mark
abbrev pub look : List Noted → Origin → Option Id
look [] o = None
look (x ∷ xs) o = cond (same_origin o x.typed.origin) x.id (look xs o)

pub look_found : (P S : List Noted) (x : Noted) → NoneMarked x.typed.origin (types_in P) → look (P ++ x ∷ S) x.typed.origin ≡ x.id
look_found [] S x h = rw (same_origin-refl x.typed.origin) refl
look_found (p ∷ P) S x h = rw h.0 (look_found P S x h.1)

-- a mark that is looked up is that of a type there
pub look_there : (P : Noted → Type 0) (xs : List Noted) (o : Origin) (x : Id) → AllNoted P xs → look xs o ≡ Some x → (y : Noted) × P y × (same_origin o y.typed.origin ≡ true) × (y.id ≡ Some x)
look_there P [] o x a h = absurd (cc)
look_there P (y ∷ ys) o x a h = go (same_origin o y.typed.origin) refl h (look_there P ys o x a.1)
  where
    go : (b : Bool) → same_origin o y.typed.origin ≡ b → cond b y.id (look ys o) ≡ Some x → (look ys o ≡ Some x → (y : Noted) × P y × (same_origin o y.typed.origin ≡ true) × (y.id ≡ Some x)) → (y : Noted) × P y × (same_origin o y.typed.origin ≡ true) × (y.id ≡ Some x)
    go true e g f = (y, a.0, e, g)
    go false e g f = f g

module _ (ids : List (Option Id)) (c : Scope) (k : ℕ) (N : List Noted) where
  abbrev pub Looked : Noted → Type 0
  Looked y = look N y.typed.origin ≡ y.id

  inline-looked : (E : List Noted) (u m n : ℕ) (s : Space) (t : Row) (ls : Leaves) (a : Numbered Leaves) (q : Option ℕ) (rest : List Noted) → NoneMarked (inline_type k u) (types_in (E ++ a.noted)) → N ≡ (E ++ (number_inline ids c k E u m s t ls a q).noted) ++ rest
      → ((more : List Noted) → N ≡ (E ++ a.noted) ++ more → AllNoted Looked a.noted) → AllNoted Looked (number_inline ids c k E u m s t ls a q).noted
  inline-looked E u m n s t ls a (Some j) rest h e f = tt
  inline-looked E u m n s t ls a None rest h e f = go (stands_for (types_in (E ++ a.noted)) t ls) e
    where
      y : Noted
      y = record { typed = record { origin = inline_type k u; tag = t; leaves = ls }; id = Some (id_numbered (m + a.made + 1)) }

      own : (b : Bool) → N ≡ (E ++ (a.noted ++ cond b (y ∷ []) [])) ++ rest → AllNoted Looked (a.noted ++ cond b (y ∷ []) [])
      own true g =
          let i : N ≡ (E ++ a.noted) ++ y ∷ rest = g ∙ ap (λ v. v ++ rest) (sym (append_assoc E a.noted (y ∷ []))) ∙ append_assoc (E ++ a.noted) (y ∷ []) rest in
          noted_app Looked a.noted (y ∷ []) (f (y ∷ rest) i) (ap (λ v. look v (inline_type k u)) i ∙ look_found (E ++ a.noted) rest y h, tt)
      own false g = noted_app Looked a.noted [] (f rest (g ∙ ap (λ v. (E ++ v) ++ rest) (append-nil a.noted))) tt

      go : (o : Option ℕ) → N ≡ (E ++ (number_found c k u m s t ls (ids_in (E ++ a.noted)) a o).noted) ++ rest → AllNoted Looked (number_found c k u m s t ls (ids_in (E ++ a.noted)) a o).noted
      go (Some j) g = f rest g
      go None g = own (is_shared t) g

  two-looked : (E x y rest : List Noted) → N ≡ (E ++ (x ++ y)) ++ rest → (N ≡ (E ++ x) ++ (y ++ rest)) × (N ≡ ((E ++ x) ++ y) ++ rest)
  two-looked E x y rest e = let f : N ≡ ((E ++ x) ++ y) ++ rest = e ∙ ap (λ v. v ++ rest) (sym (append_assoc E x y)) in (f ∙ append_assoc (E ++ x) y rest, f)

  mutual
    pub leaves_looked : (E : List Noted) (u m : ℕ) (ls : Leaves) (rest : List Noted) → Clear k u (u + references ls) E → N ≡ (E ++ (number_leaves ids c k E u m ls).noted) ++ rest → AllNoted Looked (number_leaves ids c k E u m ls).noted
    leaves_looked E u m no_leaf rest h e = tt
    leaves_looked E u m (l ▸ ls) rest h e =
        let a = number_leaf ids c k E u m l in
        let b = number_leaves ids c k (E ++ a.noted) (u + references_leaf l) (m + a.made) ls in
        let r = two-looked E a.noted b.noted rest e in
        noted_app Looked a.noted b.noted (leaf_looked E u m l (b.noted ++ rest) (clear_part k u (u + (references_leaf l + references ls)) u (u + references_leaf l) E (omega arith) (omega arith) h) r.0)
        (leaves_looked (E ++ a.noted) (u + references_leaf l) (m + a.made) ls rest
        (clear_next k u (u + references_leaf l) (u + references_leaf l + references ls) E a.noted a.parts.inlined (omega arith) (clear_part k u (u + (references_leaf l + references ls)) u (u + references_leaf l + references ls) E (omega arith) (omega arith) h) (leaf_marks ids c k E u m l))
        r.1)

    pub leaf_looked : (E : List Noted) (u m : ℕ) (l : Leaf) (rest : List Noted) → Clear k u (u + references_leaf l) E → N ≡ (E ++ (number_leaf ids c k E u m l).noted) ++ rest → AllNoted Looked (number_leaf ids c k E u m l).noted
    leaf_looked E u m (ref s (inline (row t ls))) rest h e =
        let a = number_leaves ids c k E (u + 1) m ls in
        inline-looked E u m (references ls) s t ls a (reused_signature (c ∷ []) k t ls) rest (clear_own k u (u + (1 + references ls)) (u + 1 + references ls) E a.noted a.parts.inlined (omega arith) h (leaves_marks ids c k E (u + 1) m ls)) e
        (λ more g. leaves_looked E (u + 1) m ls more (clear_part k u (u + (1 + references ls)) (u + 1) (u + 1 + references ls) E (omega arith) (omega arith) h) g)
    leaf_looked E u m (ref s (bundle (row t ls))) rest h e = leaves_looked E (u + 1) m ls rest (clear_part k u (u + (1 + references ls)) (u + 1) (u + 1 + references ls) E (omega arith) (omega arith) h) e
    leaf_looked E u m (present l) rest h e = leaf_looked E u m l rest h e
    leaf_looked E u m (node (row t ls)) rest h e = leaves_looked E u m ls rest h e
    leaf_looked E u m (nodes ns) rest h e = nodes_looked E u m ns rest h e
    leaf_looked E u m (scope (scope_of kd id label ds)) rest h e = tt
    leaf_looked E u m l rest h e = tt

    pub nodes_looked : (E : List Noted) (u m : ℕ) (ns : Nodes) (rest : List Noted) → Clear k u (u + references_nodes ns) E → N ≡ (E ++ (number_nodes ids c k E u m ns).noted) ++ rest → AllNoted Looked (number_nodes ids c k E u m ns).noted
    nodes_looked E u m no_node rest h e = tt
    nodes_looked E u m (one_node (row t ls) ns) rest h e =
        let a = number_leaves ids c k E u m ls in
        let b = number_nodes ids c k (E ++ a.noted) (u + references ls) (m + a.made) ns in
        let r = two-looked E a.noted b.noted rest e in
        noted_app Looked a.noted b.noted (leaves_looked E u m ls (b.noted ++ rest) (clear_part k u (u + (references ls + references_nodes ns)) u (u + references ls) E (omega arith) (omega arith) h) r.0)
        (nodes_looked (E ++ a.noted) (u + references ls) (m + a.made) ns rest
        (clear_next k u (u + references ls) (u + references ls + references_nodes ns) E a.noted a.parts.inlined (omega arith) (clear_part k u (u + (references ls + references_nodes ns)) u (u + references ls + references_nodes ns) E (omega arith) (omega arith) h) (leaves_marks ids c k E u m ls))
        r.1)
