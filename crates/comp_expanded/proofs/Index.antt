-- Indices along the marks of an expanded scope are those along the marks of the scope.
use Rattle.std.proofs.Common.{◌≡◌, ◌≢◌, ℕ, zero, suc, ◌+◌, ◌⊎◌, inl, inr, Bool, true, false, ◌&&◌, cond, List, [], ◌∷◌, ◌++◌, length, drop, map, find, slice_get, Option, Some, None, refl, sym, ◌∙◌, ap, subst, arith, nat_eq, bytes_eq}
use Rattle.std.proofs.lemmas.Slice.Eq.{bytes_eq-Decides}
use Rattle.std.proofs.lemmas.Bool.{eqb-true, eq-eqb}
use Rattle.comp_model.specs.declared.Space.{Space}
use Rattle.comp_model.specs.Core.{Text, Id, is_of_text, same_id, Place, counted, named, Reach, outward, own, at_place}
use Rattle.comp_model.specs.Model.{Defs, Scope, scope_of, id_of}
use Rattle.comp_model.specs.declared.row.ScopeKind.{ScopeKind}
use Rattle.comp_model.specs.Spaces.{same_space, declares_row, count_in, Declaration, parts, declarations_from, bears, declared}
use Rattle.comp_model.specs.Origins.{Origin, written, same_origin}
use Rattle.comp_model.proofs.Tests.{same_space-refl, same_space-true, same_origin-true, same_origin-refl, same_origin-false}
use Rattle.comp_scopes.specs.Names.{Denoted, at_depth, first_of_two, denotes_outward, declared_at, scope_named, depth_of, at_that_depth, denotes}
use Rattle.comp_scopes.specs.Plan.{mark, plan_one, plan_leaves, Mark, plan_defs, export_marks, name_marks, marks, before, item_index}
use Rattle.comp_scopes.specs.Outward.{leads_out, Planned}
use Rattle.comp_model.specs.ItemNames.{has_names}
use Rattle.comp_scopes.specs.Rule.{same_name, clash, ClashesWithNone, AllDistinct}
use Rattle.comp_expanded.specs.Expansion.{Naming, given_to_scope, Entry, entry_defs, expand_exports, expand_list, expand}
use Rattle.comp_expanded.specs.TextNumbers.{mark_in_text}
use Rattle.comp_expanded.specs.OfText.{TextId, TextReach, TextPlace}
use Rattle.comp_expanded.specs.Named.{MayBeGiven, NoneBears, OnceBeside, GeneratedOnce, entry_ids}
use Rattle.comp_expanded.proofs.Stacks.{expand_stack, AllNamed}
use Rattle.comp_scopes.proofs.Counting.{AllIn, Distinct}
use Rattle.comp_scopes.proofs.Marks.{marks-distinct}
use Rattle.comp_scopes.proofs.Lookup.{some-same}
use Rattle.comp_expanded.proofs.Pairs.{at-origin}
use Rattle.comp_expanded.proofs.Kept.{scope-marks}
use Rattle.comp_expanded.proofs.Parts.{declares-expand}
use Rattle.comp_expanded.proofs.Ids.{wanted, text-generated, and-false, Found, Holds, find-defs, exports-bare}
use Rattle.comp_expanded.proofs.Ready.{same_id-refl}

-- ---- marks that occur have one index

abbrev pub OccursIn : List Mark → Origin → Type 0
OccursIn [] o = ⊥
OccursIn (m ∷ ms) o = (o ≡ m.origin) ⊎ OccursIn ms o

all-later : (ms : List Mark) (m : Mark) (ns : List Mark) → AllIn (OccursIn ms) ns → AllIn (OccursIn (m ∷ ms)) ns
all-later ms m [] h = tt
all-later ms m (n ∷ ns) h = (inr h.0, all-later ms m ns h.1)

pub all-occur : (ms : List Mark) → AllIn (OccursIn ms) ms
all-occur [] = tt
all-occur (m ∷ ms) = (inl refl, all-later ms m ms (all-occur ms))

module _ (to : Origin → Origin) where
  abbrev in_text : Mark → Mark
  in_text m = mark (to m.origin) m.spaces

  apart-told : (ms : List Mark) (o p : Origin) → AllIn (λ q. p ≢ q) (map in_text ms) → OccursIn ms o → p ≢ to o
  apart-told [] o p a h = absurd h
  apart-told (m ∷ ms) o p a (inl e) = subst (λ v. p ≢ to v) (sym e) a.0
  apart-told (m ∷ ms) o p a (inr h) = apart-told ms o p a.1 h

  before-told : (s : Space) (o : Origin) (ms : List Mark) → Distinct (map in_text ms) → OccursIn ms o → before s (to o) (map in_text ms) ≡ before s o ms
  before-told s o [] d h = refl
  before-told s o (m ∷ ms) d h = go (same_origin o m.origin) refl (before-told s o ms d.1) h
    where
      go : (b : Bool) → same_origin o m.origin ≡ b → (OccursIn ms o → before s (to o) (map in_text ms) ≡ before s o ms) → (o ≡ m.origin) ⊎ OccursIn ms o
          → cond (same_origin (to o) (to m.origin)) 0 (count_in s m.spaces + before s (to o) (map in_text ms)) ≡ cond b 0 (count_in s m.spaces + before s o ms)
      go true e f h =
          let q : same_origin (to o) (to m.origin) ≡ true = subst (λ v. same_origin (to o) (to v) ≡ true) (same_origin-true o m.origin e) (same_origin-refl (to o)) in rw q refl
      go false e f (inl q) =
          let r : same_origin o m.origin ≡ true = subst (λ v. same_origin o v ≡ true) q (same_origin-refl o) in absurd (cc)
      go false e f (inr q) =
          let r : same_origin (to o) (to m.origin) ≡ false = same_origin-false (to o) (to m.origin) (λ x. apart-told ms o (to m.origin) d.0 q (sym x)) in
          rw (r, f q) refl

-- ---- what is generated is found by its id, and nothing else is

same-sym : (x y : Id) → same_id x y ≡ true → same_id y x ≡ true
same-sym x y h = go (bytes_eq x.name y.name) (nat_eq x.number y.number) refl refl h
  where
    go : (b d : Bool) → bytes_eq x.name y.name ≡ b → nat_eq x.number y.number ≡ d → (b && d) ≡ true → same_id y x ≡ true
    go true true e f q = rw ((bytes_eq-Decides y.name x.name).1 (sym ((bytes_eq-Decides x.name y.name).0 e)), eq-eqb y.number x.number (sym (eqb-true x.number y.number f))) refl
    go true false e f q = absurd (cc)
    go false d e f q = absurd (cc)

pub same-number : (x y : Id) → same_id x y ≡ true → x.number ≡ y.number
same-number x y h = go (bytes_eq x.name y.name) h
  where
    go : (b : Bool) → (b && nat_eq x.number y.number) ≡ true → x.number ≡ y.number
    go true q = eqb-true x.number y.number q
    go false q = absurd (cc)

pub same-generated : (x y : Id) → same_id x y ≡ true → is_of_text x ≡ false → is_of_text y ≡ false
same-generated x y h t = go (bytes_eq x.name y.name) h
  where
    go : (b : Bool) → (b && nat_eq x.number y.number) ≡ true → is_of_text y ≡ false
    go true q = subst (λ n. nat_eq n 0 ≡ false) (eqb-true x.number y.number q) t
    go false q = absurd (cc)

-- one of these is the id
abbrev pub OneBears : Id → List (Option Id) → Type 0
OneBears x [] = ⊥
OneBears x (y ∷ ys) = (bears x y ≡ true) ⊎ OneBears x ys

pub one-right : (x : Id) (xs ys : List (Option Id)) → OneBears x ys → OneBears x (xs ++ ys)
one-right x [] ys h = h
one-right x (y ∷ xs) ys h = inr (one-right x xs ys h)

bears-some : (x : Id) (y : Option Id) → bears x y ≡ true → (z : Id) × (y ≡ Some z) × (same_id x z ≡ true)
bears-some x None h = absurd (cc)
bears-some x (Some z) h = (z, refl, h)

pub one-none : (x y : Id) (ys : List (Option Id)) → same_id x y ≡ true → OneBears x ys → NoneBears y ys → ⊥
one-none x y [] e h n = h
one-none x y (v ∷ ys) e (inl b) n =
    let q : (z : Id) × (v ≡ Some z) × (same_id x z ≡ true) = bears-some x v b in
    let r : bears y (Some q.0) ≡ false = subst (λ w. bears y w ≡ false) q.1 n.0 in
    let s : x.name ≡ y.name = (id-equal x y e).0 in
    let t : x.number ≡ y.number = (id-equal x y e).1 in
    let u : same_id y q.0 ≡ true = subst (λ n. (bytes_eq n q.0.name && nat_eq y.number q.0.number) ≡ true) s (subst (λ n. (bytes_eq x.name q.0.name && nat_eq n q.0.number) ≡ true) t q.2) in
    cc
  where
    id-equal : (x y : Id) → same_id x y ≡ true → (x.name ≡ y.name) × (x.number ≡ y.number)
    id-equal x y h = go (bytes_eq x.name y.name) refl h
      where
        go : (b : Bool) → bytes_eq x.name y.name ≡ b → (b && nat_eq x.number y.number) ≡ true → (x.name ≡ y.name) × (x.number ≡ y.number)
        go true p q = ((bytes_eq-Decides x.name y.name).0 p, eqb-true x.number y.number q)
        go false p q = absurd (cc)
one-none x y (v ∷ ys) e (inr h) n = one-none x y ys e h n.1

-- those in front are not the id either
pub once-front : (x : Id) (xs ys : List (Option Id)) → is_of_text x ≡ false → GeneratedOnce (xs ++ ys) → OneBears x ys → NoneBears x xs
once-front x [] ys t h o = tt
once-front x (v ∷ xs) ys t h o = (go v (bears x v) refl h.0, once-front x xs ys t h.1 o)
  where
    go : (w : Option Id) (b : Bool) → bears x w ≡ b → OnceBeside w (xs ++ ys) → b ≡ false
    go w false e q = refl
    go None true e q = absurd (cc)
    go (Some z) true e q = absurd (one-none x z (xs ++ ys) e (one-right x xs ys o) (q (same-generated x z e t)))

once-later : (xs ys : List (Option Id)) → GeneratedOnce (xs ++ ys) → GeneratedOnce ys
once-later [] ys h = h
once-later (x ∷ xs) ys h = once-later xs ys h.1

find-no_ids : (s : Space) (x : Id) (k p : ℕ) (ss : List Space) (rest : List Declaration) → find (wanted s x) (parts k p [] ss ++ rest) ≡ find (wanted s x) rest
find-no_ids s x k p [] rest = refl
find-no_ids s x k p (t ∷ ts) rest = rw (and-false (same_space s t)) (find-no_ids s x k (p + 1) ts rest)

find-absent : (s : Space) (x : Id) (k p : ℕ) (ids : List (Option Id)) (ss : List Space) (rest : List Declaration) → NoneBears x ids → find (wanted s x) (parts k p ids ss ++ rest) ≡ find (wanted s x) rest
find-absent s x k p ids [] rest h = refl
find-absent s x k p [] (t ∷ ts) rest h = find-no_ids s x k p (t ∷ ts) rest
find-absent s x k p (y ∷ ys) (t ∷ ts) rest h = rw (h.0, and-false (same_space s t)) (find-absent s x k (p + 1) ys ts rest h.1)

entry-bears : (gs : List Entry) (p : ℕ) (x : Entry) (y : Id) (ids : List (Option Id)) → slice_get gs p ≡ Some x → x.names.ids ≡ Some y ∷ ids → OneBears y (entry_ids gs)
entry-bears [] p x y ids e i = absurd (cc)
entry-bears (d ∷ gs) zero x y ids e i = let q : d ≡ x = some-same d x e in subst (λ v. OneBears y (v ++ entry_ids gs)) (sym (ap (λ (w : Entry). w.names.ids) q ∙ i)) (inl (same_id-refl y))
entry-bears (d ∷ gs) (suc p) x y ids e i = one-right y d.names.ids (entry_ids gs) (entry-bears gs p x y ids e i)

-- part 0 of definition k, under that id
abbrev pub part_named : Space → Id → ℕ → Declaration
part_named s y k = record { space = s; id = Some y; definition = k; part = 0 }

pub entry-alone : (j p : ℕ) (gs : List Entry) (x : Entry) (y : Id) (ids : List (Option Id)) (s : Space) (ss : List Space) → slice_get gs p ≡ Some x → x.names.ids ≡ Some y ∷ ids → declares_row x.head x.leaves ≡ s ∷ ss
    → is_of_text y ≡ false → GeneratedOnce (entry_ids gs) → find (wanted s y) (declarations_from j (entry_defs gs)) ≡ Some (part_named s y (j + p))
entry-alone j p [] x y ids s ss e a b t h = absurd (cc)
entry-alone j zero (d ∷ gs) x y ids s ss e a b t h =
    let q : d ≡ x = some-same d x e in
    let z : j + zero ≡ j = omega arith in
    rw (q, a, b, same_space-refl s, same_id-refl y, z) refl
entry-alone j (suc p) (d ∷ gs) x y ids s ss e a b t h =
    let z : j + 1 + p ≡ j + suc p = omega arith in
    let n : NoneBears y d.names.ids = once-front y d.names.ids (entry_ids gs) t h (entry-bears gs p x y ids e a) in
    find-absent s y j 0 d.names.ids (declares_row d.head d.leaves) (declarations_from (j + 1) (entry_defs gs)) n
    ∙ entry-alone (j + 1) p gs x y ids s ss e a b t (once-later d.names.ids (entry_ids gs) h)
    ∙ ap (λ m. Some (part_named s y m)) z

-- ---- stacks that declare the same names of the text with the same indices

abbrev pub SameItem : Space → List Mark → List Mark → Option Declaration → Option Declaration → Type 0
SameItem s ms ns None None = Unit {0}
SameItem s ms ns None (Some b) = ⊥
SameItem s ms ns (Some a) None = ⊥
SameItem s ms ns (Some a) (Some b) = before s (written a.definition) ms + a.part ≡ before s (written b.definition) ns + b.part

abbrev pub Indexed : List Scope → List Scope → Type 0
Indexed [] [] = Unit {0}
Indexed [] (d ∷ su) = ⊥
Indexed (c ∷ st) [] = ⊥
Indexed (c ∷ st) (d ∷ su) = ((x : Id) → TextId x → bears x (id_of d) ≡ bears x (id_of c)) × ((s : Space) (x : Id) → TextId x → SameItem s (marks (c ∷ st)) (marks (d ∷ su)) (declared c s x) (declared d s x)) × Indexed st su

-- the same depth and index, or nothing in both
abbrev pub SameDenoted : List Scope → List Scope → Space → Option Denoted → Option Denoted → Type 0
SameDenoted st su s None None = Unit {0}
SameDenoted st su s None (Some b) = ⊥
SameDenoted st su s (Some a) None = ⊥
SameDenoted st su s (Some a) (Some b) = (b.depth ≡ a.depth) × (item_index st s a ≡ item_index su s b)

drop-next : (n : ℕ) (st : List Scope) (c : Scope) (rest : List Scope) → drop n st ≡ c ∷ rest → drop (n + 1) st ≡ rest
drop-next n st c rest h = let z : n + 1 ≡ suc n = omega arith in rw z (go n st h)
  where
    go : (m : ℕ) (xs : List Scope) → drop m xs ≡ c ∷ rest → drop (suc m) xs ≡ rest
    go zero [] e = absurd (cc)
    go zero (x ∷ xs) e = cc
    go (suc m) [] e = absurd (cc)
    go (suc m) (x ∷ xs) e = go m xs e

level-same : (st su : List Scope) (n : ℕ) (s : Space) (c d : Scope) (rest later : List Scope) → drop n st ≡ c ∷ rest → drop n su ≡ d ∷ later → (a b : Option Declaration) → SameItem s (marks (c ∷ rest)) (marks (d ∷ later)) a b → SameDenoted st su s (at_depth n a) (at_depth n b)
level-same st su n s c d rest later e f None None h = tt
level-same st su n s c d rest later e f None (Some b) h = absurd h
level-same st su n s c d rest later e f (Some a) None h = absurd h
level-same st su n s c d rest later e f (Some a) (Some b) h = (refl, rw (e, f) h)

first-same : (st su : List Scope) (s : Space) (a b v w : Option Denoted) → SameDenoted st su s a b → SameDenoted st su s v w → SameDenoted st su s (first_of_two a v) (first_of_two b w)
first-same st su s None None v w h i = i
first-same st su s None (Some b) v w h i = absurd h
first-same st su s (Some a) None v w h i = absurd h
first-same st su s (Some a) (Some b) v w h i = h

outward-same : (st su : List Scope) (n : ℕ) (sr ur : List Scope) (s : Space) (x : Id) → drop n st ≡ sr → drop n su ≡ ur → Indexed sr ur → TextId x → SameDenoted st su s (denotes_outward n sr s x) (denotes_outward n ur s x)
outward-same st su n [] [] s x e f a t = tt
outward-same st su n [] (d ∷ ur) s x e f a t = absurd a
outward-same st su n (c ∷ sr) [] s x e f a t = absurd a
outward-same st su n (c ∷ sr) (d ∷ ur) s x e f a t =
    first-same st su s (at_depth n (declared c s x)) (at_depth n (declared d s x)) (denotes_outward (n + 1) sr s x) (denotes_outward (n + 1) ur s x)
    (level-same st su n s c d sr ur e f (declared c s x) (declared d s x) (a.1 s x t)) (outward-same st su (n + 1) sr ur s x (drop-next n st c sr e) (drop-next n su d ur f) a.2 t)

at-same : (st su : List Scope) (n : ℕ) (sr ur : List Scope) (i : ℕ) (s : Space) (x : Id) → drop n st ≡ sr → drop n su ≡ ur → Indexed sr ur → TextId x → SameDenoted st su s (declared_at n sr i s x) (declared_at n ur i s x)
at-same st su n [] [] i s x e f a t = tt
at-same st su n [] (d ∷ ur) i s x e f a t = absurd a
at-same st su n (c ∷ sr) [] i s x e f a t = absurd a
at-same st su n (c ∷ sr) (d ∷ ur) zero s x e f a t = level-same st su n s c d sr ur e f (declared c s x) (declared d s x) (a.1 s x t)
at-same st su n (c ∷ sr) (d ∷ ur) (suc i) s x e f a t = at-same st su (n + 1) sr ur i s x (drop-next n st c sr e) (drop-next n su d ur f) a.2 t

pub length-same : (st su : List Scope) → Indexed st su → length st ≡ length su
length-same [] [] a = refl
length-same [] (d ∷ su) a = absurd a
length-same (c ∷ st) [] a = absurd a
length-same (c ∷ st) (d ∷ su) a = ap suc (length-same st su a.2)

pub named-same : (n : ℕ) (st su : List Scope) (x : Id) → TextId x → Indexed st su → scope_named n st x ≡ scope_named n su x
named-same n [] [] x t a = refl
named-same n [] (d ∷ su) x t a = absurd a
named-same n (c ∷ st) [] x t a = absurd a
named-same n (c ∷ st) (d ∷ su) x t a = rw (a.0 x t, named-same (n + 1) st su x t a.2) refl

pub depth-same : (st su : List Scope) (p : Place) → TextPlace p → Indexed st su → depth_of st p ≡ depth_of su p
depth-same st su (counted o d) t a = rw (length-same st su a) refl
depth-same st su (named o x) t a = named-same 0 st su x t a

that-same : (st su : List Scope) (o : Option ℕ) (s : Space) (x : Id) → Indexed st su → TextId x → SameDenoted st su s (at_that_depth st o s x) (at_that_depth su o s x)
that-same st su None s x a t = tt
that-same st su (Some d) s x a t = at-same st su 0 st su d s x refl refl a t

pub denoted-same : (st su : List Scope) (s : Space) (r : Reach) (x : Id) → Indexed st su → TextReach r → TextId x → SameDenoted st su s (denotes st s r x) (denotes su s r x)
denoted-same st su s outward x a r t = outward-same st su 0 st su s x refl refl a t
denoted-same st su s own x a r t = at-same st su 0 st su 0 s x refl refl a t
denoted-same st su s (at_place p) x a r t = rw (depth-same st su p r a) (that-same st su (depth_of su p) s x a t)

-- ---- an expanded scope

found-item : (s : Space) (ms ns : List Mark) (a b : Option Declaration) → Found (λ j k. (t : Space) → before t (written k) ms ≡ before t (written j) ns) a b → SameItem s ms ns a b
found-item s ms ns None None h = tt
found-item s ms ns None (Some b) h = absurd h
found-item s ms ns (Some a) None h = absurd h
found-item s ms ns (Some a) (Some b) h = rw (h.1 s, h.0) refl

module _ (g : Naming) (kd : ScopeKind) (id : Option Id) (label : Option Text) (ds : Defs) (gs : List Naming) (st : List Scope)
    (all : AllNamed (g ∷ gs) (scope_of kd id label ds ∷ st)) where
  abbrev L : List Entry
  L = expand_list g (scope_of kd id label ds)

  abbrev st' : List Scope
  st' = scope_of kd id label ds ∷ st

  abbrev su : List Scope
  su = expand_stack (g ∷ gs) (scope_of kd id label ds ∷ st)

  -- a mark of the expanded scope, and that of the text with the same indices
  abbrev pub Told : Origin → Origin → Type 0
  Told o p = (mark_in_text L o ≡ p) × ((s : Space) → before s p (marks st') ≡ before s o (marks su))

  pub occurs-told : (o : Origin) → OccursIn (marks su) o → Told o (mark_in_text L o)
  occurs-told o h =
      let e : marks st' ≡ map (λ m. mark (mark_in_text L m.origin) m.spaces) (marks su) = scope-marks g kd id label ds gs st all in
      (refl, λ s. ap (before s (mark_in_text L o)) e ∙ before-told (mark_in_text L) s o (marks su) (subst Distinct e (marks-distinct st')) h)

  occurs-left : (xs ys : List Mark) (o : Origin) → OccursIn xs o → OccursIn (xs ++ ys) o
  occurs-left [] ys o h = absurd h
  occurs-left (x ∷ xs) ys o (inl e) = inl e
  occurs-left (x ∷ xs) ys o (inr h) = inr (occurs-left xs ys o h)

  occurs-right : (xs ys : List Mark) (o : Origin) → OccursIn ys o → OccursIn (xs ++ ys) o
  occurs-right [] ys o h = h
  occurs-right (x ∷ xs) ys o h = inr (occurs-right xs ys o h)

  written-occurs : (j p : ℕ) (xs : List Entry) (x : Entry) → slice_get xs p ≡ Some x → OccursIn (plan_defs su j (entry_defs xs)) (written (j + p))
  written-occurs j p [] x e = absurd (cc)
  written-occurs j zero (y ∷ xs) x e =
      let z : j + zero ≡ j = omega arith in
      let q : Planned Mark = plan_leaves su j 0 y.leaves in
      rw z (occurs-left (plan_one q (mark (written j) (declares_row y.head y.leaves))) (plan_defs su (j + 1) (entry_defs xs)) (written j) (occurs-right q.inlined (q.bundles ++ (q.needed ++ mark (written j) (declares_row y.head y.leaves) ∷ [])) (written j)
      (occurs-right q.bundles (q.needed ++ mark (written j) (declares_row y.head y.leaves) ∷ []) (written j) (occurs-right q.needed (mark (written j) (declares_row y.head y.leaves) ∷ []) (written j) (inl refl)))))
  written-occurs j (suc p) (y ∷ xs) x e =
      let z : j + 1 + p ≡ j + suc p = omega arith in
      occurs-right (plan_one (plan_leaves su j 0 y.leaves) (mark (written j) (declares_row y.head y.leaves))) (plan_defs su (j + 1) (entry_defs xs)) (written (j + suc p)) (subst (λ n. OccursIn (plan_defs su (j + 1) (entry_defs xs)) (written n)) z (written-occurs (j + 1) p xs x e))

  pub at-told : (p : ℕ) (x : Entry) → slice_get L p ≡ Some x → Told (written p) x.origin
  at-told p x e =
      let z : 0 + p ≡ p = omega arith in
      let h : OccursIn (marks su) (written p) = occurs-left (plan_defs su 0 (entry_defs L)) (export_marks 0 (entry_defs L) ++ name_marks (has_names (expand g (scope_of kd id label ds)))) (written p) (subst (λ n. OccursIn (plan_defs su 0 (entry_defs L)) (written n)) z (written-occurs 0 p L x e)) in
      subst (Told (written p)) (at-origin L p x e).0 (occurs-told (written p) h)

  holds-told : (s : Space) (x : Id) (t : TextId x) (j : ℕ) (xs : List Entry) → ((i : ℕ) (y : Entry) → slice_get xs i ≡ Some y → slice_get L (j + i) ≡ Some y)
      → Holds s x t (λ i k. (r : Space) → before r (written k) (marks st') ≡ before r (written i) (marks su)) g (scope_of kd id label ds) (declares-expand g (scope_of kd id label ds)) j xs
  holds-told s x t j [] f = tt
  holds-told s x t j (y ∷ ys) f =
      let z : j + 0 ≡ j = omega arith in
      (λ k e. λ r. subst (λ o. before r o (marks st') ≡ before r (written j) (marks su)) e ((at-told j y (subst (λ n. slice_get L n ≡ Some y) z (f 0 y refl))).1 r), holds-told s x t (j + 1) ys (λ i v q. ap (slice_get L) (omega arith) ∙ f (suc i) v q))

  pub expand-item : (s : Space) (x : Id) → TextId x → SameItem s (marks st') (marks su) (declared (scope_of kd id label ds) s x) (declared (expand g (scope_of kd id label ds)) s x)
  expand-item s x t =
      found-item s (marks st') (marks su) (find (wanted s x) (declarations_from 0 ds)) (find (wanted s x) (declarations_from 0 (entry_defs L)))
      (find-defs s x t (λ j k. (r : Space) → before r (written k) (marks st') ≡ before r (written j) (marks su)) g (scope_of kd id label ds) (declares-expand g (scope_of kd id label ds)) 0 0 ds (expand_exports g 0 ds) all.0.2.0 (exports-bare g 0 ds)
      (holds-told s x t 0 L (λ i y q. ap (slice_get L) (omega arith) ∙ q)))

-- a given id of a scope is none of the text
scope-bears : (x : Id) (id y : Option Id) → TextId x → MayBeGiven y → bears x (first_of_two id y) ≡ bears x id
scope-bears x (Some z) y t h = refl
scope-bears x None None t h = refl
scope-bears x None (Some y) t h = text-generated x y t h

pub stack-indexed : (gs : List Naming) (st : List Scope) → AllNamed gs st → Indexed st (expand_stack gs st)
stack-indexed [] [] h = tt
stack-indexed [] (c ∷ st) h = absurd h
stack-indexed (g ∷ gs) [] h = absurd h
stack-indexed (g ∷ gs) (scope_of kd id label ds ∷ st) h = (λ x t. scope-bears x id (given_to_scope g) t h.0.2.2, expand-item g kd id label ds gs st h, stack-indexed gs st h.1)

-- ---- where generated names lead

abbrev pub LeadsNear : List Scope → List Scope → Reach → Space → Id → Origin → Type 0
LeadsNear st su r s x o = (d : Denoted) × (denotes su s r x ≡ Some d) × (leads_out r (Some d) ≡ false) × (item_index su s d ≡ before s o (marks st))

pub here-denoted : (d : Scope) (su : List Scope) (b : Bool) (s : Space) (x : Id) (a : Declaration) → declared d s x ≡ Some a → (denotes (d ∷ su) s (cond b own outward) x ≡ Some (record { depth = 0; item = a })) × (leads_out (cond b own outward) (Some (record { depth = 0; item = a })) ≡ false)
here-denoted d su true s x a e = (rw e refl, refl)
here-denoted d su false s x a e = (rw e refl, refl)

pub some-item : (s : Space) (ms ns : List Mark) (a : Declaration) (b : Option Declaration) → SameItem s ms ns (Some a) b → (v : Declaration) × (b ≡ Some v) × (before s (written a.definition) ms + a.part ≡ before s (written v.definition) ns + v.part)
some-item s ms ns a None h = absurd h
some-item s ms ns a (Some b) h = (b, refl, h)

-- a declaration beside which no other bears its id is found
pub find-distinct : (s : Space) (x : Id) (xs : List Declaration) (d : Declaration) (ys : List Declaration) → wanted s x d ≡ true → d.id ≡ Some x → d.space ≡ s → AllDistinct (xs ++ d ∷ ys) → find (wanted s x) (xs ++ d ∷ ys) ≡ Some d
find-distinct s x [] d ys w i q a = rw w refl
find-distinct s x (y ∷ xs) d ys w i q a = rw (go (wanted s x y) refl (clashes xs a.0)) (find-distinct s x xs d ys w i q a.1)
  where
    clashes : (zs : List Declaration) → ClashesWithNone y (zs ++ d ∷ ys) → clash y d ≡ false
    clashes [] h = h.0
    clashes (z ∷ zs) h = clashes zs h.1

    same : (v : Option Id) (r : Space) → (same_space s r && bears x v) ≡ true → (same_space r s && same_name v (Some x)) ≡ true
    same None r h = let k : same_space s r && false ≡ false = and-false (same_space s r) in absurd (cc)
    same (Some z) r h = two (same_space s r) refl h
      where
        two : (b : Bool) → same_space s r ≡ b → (b && same_id x z) ≡ true → (same_space r s && same_id z x) ≡ true
        two true e k = let q : s ≡ r = same_space-true s r e in rw (sym q, same_space-refl s) (same-sym x z k)
        two false e k = absurd (cc)

    go : (b : Bool) → wanted s x y ≡ b → clash y d ≡ false → b ≡ false
    go false e h = refl
    go true e h = let k : (same_space y.space d.space && same_name y.id d.id) ≡ true = rw (q, i) (same y.id y.space e) in absurd (cc)
