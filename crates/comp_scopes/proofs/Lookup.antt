-- Which definition of a form an index gives.
use Rattle.std.proofs.Common.{◌≡◌, ◌≢◌, ℕ, zero, suc, ◌+◌, ◌<◌, ◌≤◌, ◌⊎◌, inl, inr, Bool, true, false, ◌&&◌, cond, nat_lt, List, [], ◌∷◌, ◌++◌, length, drop, map, filter, find, slice_get, Option, Some, None, refl, sym, ◌∙◌, ap, subst, arith, zero-add}
use Rattle.std.proofs.lemmas.List.Elements.{filter-append}
use Rattle.std.proofs.lemmas.Bool.{ltb-false}
use Rattle.comp_model.specs.declared.Space.{Space}
use Rattle.comp_model.specs.Core.{Id, Reach, outward, own, at_place}
use Rattle.comp_model.specs.Model.{Node, row, define, Defs, no_def, one_def, no_names, Scope, scope_of}
use Rattle.comp_model.specs.Spaces.{same_space, declares_row, Declaration, parts, declarations_from, declared, bears, count_in}
use Rattle.comp_model.specs.Origins.{Origin, written, outer_alias_of, same_origin}
use Rattle.comp_model.proofs.Tests.{same_space-true, same_space-refl, same_origin-refl, same_origin-false}
use Rattle.comp_scopes.specs.Encoding.{Encoding}
use Rattle.comp_scopes.specs.Names.{Denoted, at_depth, first_of_two, denotes_outward, declared_at, depth_of, at_that_depth, denotes}
use Rattle.comp_scopes.specs.Outward.{leads_out}
use Rattle.comp_scopes.specs.Plan.{marks, before, item_index}
use Rattle.comp_model.specs.ItemNames.{has_names}
use Rattle.comp_scopes.specs.Form.{mark_of, spaces_of, Made, binary_defs, alias_node, own_made, form_one, form_defs, form_leaves, form_exports, form_names, coded_node, built}
use Rattle.comp_scopes.specs.Rowed.{EachIs, AllSame, Rowed, AllRowed, DefsRowed}
use Rattle.comp_scopes.specs.Renders.{AllMade, item, binary_at, leads, reach_depth, built_stack}
use Rattle.comp_scopes.proofs.Counting.{Distinct, AllIn}
use Rattle.comp_scopes.proofs.Marks.{marks-distinct}
use Rattle.comp_scopes.proofs.Formed.{built-marks, declares-form, declares-coded}
use Rattle.comp_scopes.proofs.Among.{and-both}

-- ---- lists

pub some-same : {A : Type 0} (a b : A) → Some a ≡ Some b → a ≡ b
some-same a b e = cc

slice_get-app : {A : Type 0} (xs ys : List A) (i : ℕ) → slice_get (xs ++ ys) (length xs + i) ≡ slice_get ys i
slice_get-app [] ys i = rw zero-add refl
slice_get-app (x ∷ xs) ys i = let e : suc (length xs) + i ≡ suc (length xs + i) = omega arith in rw e (slice_get-app xs ys i)

-- ---- item i of a list of planned definitions

-- part q of the definition at p
abbrev pub the_item : Space → ℕ → ℕ → Declaration
the_item s p q = record { space = s; id = None; definition = p; part = q }

count-parts : (s : Space) (k p : ℕ) (ss : List Space) → length (filter (λ d. same_space s d.space) (parts k p [] ss)) ≡ count_in s ss
count-parts s k p [] = refl
count-parts s k p (t ∷ ts) = go (same_space s t) (count-parts s k (p + 1) ts)
  where
    go : (b : Bool) → length (filter (λ d. same_space s d.space) (parts k (p + 1) [] ts)) ≡ count_in s ts
        → length (cond b (record { space = t; id = None; definition = k; part = p } ∷ filter (λ d. same_space s d.space) (parts k (p + 1) [] ts)) (filter (λ d. same_space s d.space) (parts k (p + 1) [] ts))) ≡ length (cond b (t ∷ filter (same_space s) ts) (filter (same_space s) ts))
    go true h = ap suc h
    go false h = h

parts-get : (s : Space) (k p q : ℕ) (ss : List Space) (rest : List Declaration) → EachIs s ss → q < length ss → slice_get (filter (λ d. same_space s d.space) (parts k p [] ss) ++ rest) q ≡ Some (the_item s k (p + q))
parts-get s k p q [] rest h l = absurd (omega (arith, l))
parts-get s k p zero (t ∷ ts) rest h l =
    let z : p + zero ≡ p = omega arith in
    let e : same_space s t ≡ true = rw h.0 (same_space-refl s) in
    rw (e, z, h.0) refl
parts-get s k p (suc q) (t ∷ ts) rest h l =
    let z : p + 1 + q ≡ p + suc q = omega arith in
    let e : same_space s t ≡ true = rw h.0 (same_space-refl s) in
    let ih : slice_get (filter (λ d. same_space s d.space) (parts k (p + 1) [] ts) ++ rest) q ≡ Some (the_item s k (p + 1 + q)) = parts-get s k (p + 1) q ts rest h.1 (omega (arith, l)) in
    rw e (ih ∙ ap (λ n. Some (the_item s k n)) z)

made-declarations : (k : ℕ) (n : Node) (ds : Defs) → declarations_from k (one_def (define no_names n) ds) ≡ parts k 0 [] (spaces_of n) ++ declarations_from (k + 1) ds
made-declarations k (row t ls) ds = refl

pub all-get : (o : Origin) (ms : List Made) (p : ℕ) (m : Made) → AllIn (λ q. o ≢ q) (map mark_of ms) → slice_get ms p ≡ Some m → o ≢ m.origin
all-get o [] p m a e = absurd (cc)
all-get o (n ∷ ms) zero m a e = let h : n ≡ m = some-same n m e in subst (λ x. o ≢ x.origin) h a.0
all-get o (n ∷ ms) (suc p) m a e = all-get o ms p m a.1 e

lookup : (k : ℕ) (ms : List Made) (p : ℕ) (m : Made) (s : Space) (q : ℕ) → slice_get ms p ≡ Some m → Distinct (map mark_of ms) → EachIs s (spaces_of m.made) → q < length (spaces_of m.made)
    → slice_get (filter (λ d. same_space s d.space) (declarations_from k (binary_defs ms))) (before s m.origin (map mark_of ms) + q) ≡ Some (the_item s (k + p) q)
lookup k [] p m s q e d h l = absurd (cc)
lookup k (n ∷ ms) zero m s q e d h l =
    let i : n ≡ m = some-same n m e in
    let g : EachIs s (spaces_of n.made) = subst (λ x. EachIs s (spaces_of x.made)) (sym i) h in
    let b : q < length (spaces_of n.made) = subst (λ x. q < length (spaces_of x.made)) (sym i) l in
    let j : same_origin m.origin n.origin ≡ true = subst (λ x. same_origin m.origin x.origin ≡ true) (sym i) (same_origin-refl m.origin) in
    let z : k + zero ≡ k = omega arith in
    let y : 0 + q ≡ q = omega arith in
    rw (j, made-declarations k n.made (binary_defs ms), filter-append, z, y)
    (parts-get s k 0 q (spaces_of n.made) (filter (λ d. same_space s d.space) (declarations_from (k + 1) (binary_defs ms))) g b ∙ ap (λ v. Some (the_item s k v)) y)
lookup k (n ∷ ms) (suc p) m s q e d h l =
    let o : n.origin ≢ m.origin = all-get n.origin ms p m d.0 e in
    let j : same_origin m.origin n.origin ≡ false = same_origin-false m.origin n.origin (λ x. o (sym x)) in
    let c : length (filter (λ d. same_space s d.space) (parts k 0 [] (spaces_of n.made))) ≡ count_in s (spaces_of n.made) = count-parts s k 0 (spaces_of n.made) in
    let a : k + 1 + p ≡ k + suc p = omega arith in
    let z : (x y : ℕ) → x + y + q ≡ x + (y + q) = λ x y. omega arith in
    let ih : slice_get (filter (λ d. same_space s d.space) (declarations_from (k + 1) (binary_defs ms))) (before s m.origin (map mark_of ms) + q) ≡ Some (the_item s (k + 1 + p) q) = lookup (k + 1) ms p m s q e d.1 h l in
    rw (j, made-declarations k n.made (binary_defs ms), filter-append, z (count_in s (spaces_of n.made)) (before s m.origin (map mark_of ms)), ← c, slice_get-app, ih, a) refl

-- ---- what sits in a list of planned definitions

abbrev pub Sits : List Made → Made → Type 0
Sits w m = (p : ℕ) × (slice_get w p ≡ Some m)

pub made-left : (P : Made → Type 0) (xs ys : List Made) → AllMade P (xs ++ ys) → AllMade P xs
made-left P [] ys h = tt
made-left P (x ∷ xs) ys h = (h.0, made-left P xs ys h.1)

pub made-right : (P : Made → Type 0) (xs ys : List Made) → AllMade P (xs ++ ys) → AllMade P ys
made-right P [] ys h = h
made-right P (x ∷ xs) ys h = made-right P xs ys h.1

pub made-app : (P : Made → Type 0) (xs ys : List Made) → AllMade P xs → AllMade P ys → AllMade P (xs ++ ys)
made-app P [] ys a b = b
made-app P (x ∷ xs) ys a b = (a.0, made-app P xs ys a.1 b)

pub made-weaken : (P Q : Made → Type 0) → ((m : Made) → P m → Q m) → (ms : List Made) → AllMade P ms → AllMade Q ms
made-weaken P Q f [] a = tt
made-weaken P Q f (m ∷ ms) a = (f m a.0, made-weaken P Q f ms a.1)

pub made-get : (P : Made → Type 0) (ms : List Made) (p : ℕ) (m : Made) → AllMade P ms → slice_get ms p ≡ Some m → P m
made-get P [] p m a e = absurd (cc)
made-get P (n ∷ ms) zero m a e = let i : n ≡ m = some-same n m e in subst P i a.0
made-get P (n ∷ ms) (suc p) m a e = made-get P ms p m a.1 e

sits-more : (n : Made) (w xs : List Made) → AllMade (Sits w) xs → AllMade (Sits (n ∷ w)) xs
sits-more n w xs h = made-weaken (Sits w) (Sits (n ∷ w)) (λ m s. (suc s.0, s.1)) xs h

pub sits-self : (w : List Made) → AllMade (Sits w) w
sits-self [] = tt
sits-self (n ∷ w) = ((zero, refl), sits-more n w w (sits-self w))

-- ---- the index that the plan gives to a definition of a form is its own

module _ (e : Encoding) where
  pub built-part : (st : List Scope) (c : Scope) (p : ℕ) (m : Made) (s : Space) (q : ℕ) → slice_get (built e st c) p ≡ Some m → EachIs s (spaces_of m.made) → q < length (spaces_of m.made)
      → item (built e st c) s (before s m.origin (marks (c ∷ st)) + q) ≡ Some (the_item s p q)
  built-part st c p m s q g h l =
      let d : Distinct (map mark_of (built e st c)) = subst Distinct (sym (built-marks e st c)) (marks-distinct (c ∷ st)) in
      let f : slice_get (filter (λ d. same_space s d.space) (declarations_from 0 (binary_defs (built e st c)))) (before s m.origin (map mark_of (built e st c)) + q) ≡ Some (the_item s (0 + p) q) = lookup 0 (built e st c) p m s q g d h l in
      let z : 0 + p ≡ p = omega arith in
      subst (λ x. item (built e st c) s (before s m.origin x + q) ≡ Some (the_item s p q)) (built-marks e st c) (subst (λ x. item (built e st c) s (before s m.origin (map mark_of (built e st c)) + q) ≡ Some (the_item s x q)) z f)

  pub built-item : (st : List Scope) (c : Scope) (p : ℕ) (m : Made) (s : Space) → slice_get (built e st c) p ≡ Some m → spaces_of m.made ≡ s ∷ []
      → item (built e st c) s (before s m.origin (marks (c ∷ st))) ≡ Some (the_item s p 0)
  built-item st c p m s g h =
      let z : before s m.origin (marks (c ∷ st)) + 0 ≡ before s m.origin (marks (c ∷ st)) = omega arith in
      subst (λ x. item (built e st c) s x ≡ Some (the_item s p 0)) z
      (built-part st c p m s 0 g (subst (EachIs s) (sym h) (refl, tt)) (subst (λ ss. 0 < length ss) (sym h) (omega arith)))

  pub built-distinct : (st : List Scope) (c : Scope) → Distinct (map mark_of (built e st c))
  built-distinct st c = subst Distinct (sym (built-marks e st c)) (marks-distinct (c ∷ st))

-- ---- what a declared name is written as

-- s is among them
abbrev Among : Space → List Space → Type 0
Among s [] = ⊥
Among s (t ∷ ts) = (t ≡ s) ⊎ Among s ts

each-among : (s t : Space) (ss : List Space) → EachIs t ss → Among s ss → t ≡ s
each-among s t [] h a = absurd a
each-among s t (r ∷ rs) h (inl e) = sym h.0 ∙ e
each-among s t (r ∷ rs) h (inr a) = each-among s t rs h.1 a

among-each : (s : Space) (ss : List Space) → AllSame ss → Among s ss → EachIs s ss
among-each s [] h a = tt
among-each s (t ∷ ts) h (inl e) = (e, subst (λ r. EachIs r ts) e h)
among-each s (t ∷ ts) h (inr a) = let e : t ≡ s = each-among s t ts h a in (e, subst (λ r. EachIs r ts) e h)

-- d is one of the parts from p on of definition k
abbrev PartOf : Space → ℕ → ℕ → List Space → Declaration → Type 0
PartOf s k p ss d = (d.definition ≡ k) × (p ≤ d.part) × (d.part < p + length ss) × Among s ss

abbrev wanted : Space → Id → Declaration → Bool
wanted s x d = same_space s d.space && bears x d.id

part-later : (s t : Space) (k p : ℕ) (ss : List Space) (d : Declaration) → PartOf s k (p + 1) ss d → PartOf s k p (t ∷ ss) d
part-later s t k p ss d h = let a : p + 1 ≤ d.part = h.1 in let b : d.part < p + 1 + length ss = h.2 in (h.0, omega (arith, a), omega (arith, b), inr h.3)

part-or_later : (s t : Space) (k p : ℕ) (ts : List Space) (R : Type 0) (d : Declaration) → PartOf s k (p + 1) ts d ⊎ R → PartOf s k p (t ∷ ts) d ⊎ R
part-or_later s t k p ts R d (inl a) = inl (part-later s t k p ts d a)
part-or_later s t k p ts R d (inr a) = inr a

this-part : (s : Space) (x : Id) (k p : ℕ) (t : Space) (ts : List Space) (y : Option Id) (R : Type 0) (d : Declaration) (b : Bool) (found : Option Declaration) → wanted s x (record { space = t; id = y; definition = k; part = p }) ≡ b
    → cond b (Some (record { space = t; id = y; definition = k; part = p })) found ≡ Some d → (found ≡ Some d → PartOf s k p (t ∷ ts) d ⊎ R) → PartOf s k p (t ∷ ts) d ⊎ R
this-part s x k p t ts y R d true found g q more =
    inl (subst (PartOf s k p (t ∷ ts)) (some-same (record { space = t; id = y; definition = k; part = p }) d q) (refl, omega arith, omega arith, inl (sym (same_space-true s t (and-both (same_space s t) (bears x y) g).0))))
this-part s x k p t ts y R d false found g q more = more q

find-parts : (s : Space) (x : Id) (k p : ℕ) (ids : List (Option Id)) (ss : List Space) (rest : List Declaration) (d : Declaration)
    → find (wanted s x) (parts k p ids ss ++ rest) ≡ Some d → PartOf s k p ss d ⊎ (find (wanted s x) rest ≡ Some d)
find-parts s x k p ids [] rest d h = inr h
find-parts s x k p [] (t ∷ ts) rest d h =
    this-part s x k p t ts None (find (wanted s x) rest ≡ Some d) d (wanted s x (record { space = t; id = None; definition = k; part = p })) (find (wanted s x) (parts k (p + 1) [] ts ++ rest)) refl h
    (λ g. part-or_later s t k p ts (find (wanted s x) rest ≡ Some d) d (find-parts s x k (p + 1) [] ts rest d g))
find-parts s x k p (y ∷ ys) (t ∷ ts) rest d h =
    this-part s x k p t ts y (find (wanted s x) rest ≡ Some d) d (wanted s x (record { space = t; id = y; definition = k; part = p })) (find (wanted s x) (parts k (p + 1) ys ts ++ rest)) refl h
    (λ g. part-or_later s t k p ts (find (wanted s x) rest ≡ Some d) d (find-parts s x k (p + 1) ys ts rest d g))

-- a planned definition that is written for the declaration
abbrev pub WrittenFor : List Made → Space → Declaration → Type 0
WrittenFor w s d = (p : ℕ) × (m : Made) × (slice_get w p ≡ Some m) × (m.origin ≡ written d.definition) × EachIs s (spaces_of m.made) × (d.part < length (spaces_of m.made))

-- the last of what a definition or an inline node becomes is itself
pub own-made : (P : Made → Type 0) (xs ys zs : List Made) (m : Made) → AllMade P (xs ++ (ys ++ (zs ++ m ∷ []))) → P m
own-made P xs ys zs m h = (made-right P zs (m ∷ []) (made-right P ys (zs ++ m ∷ []) (made-right P xs (ys ++ (zs ++ m ∷ [])) h))).0

module _ (e : Encoding) where
  found-written : (st : List Scope) (w : List Made) (k : ℕ) (ds : Defs) (s : Space) (x : Id) (d : Declaration) → DefsRowed ds → AllMade (Sits w) (form_defs e st k ds)
      → find (wanted s x) (declarations_from k ds) ≡ Some d → WrittenFor w s d
  found-written st w k no_def s x d r h g = absurd (cc)
  found-written st w k (one_def (define names (row t ls)) ds) s x d r h g =
      go (find-parts s x k 0 names.ids (declares_row t ls) (declarations_from (k + 1) ds) d g)
      (found-written st w (k + 1) ds s x d r.4 (made-right (Sits w) (form_one (written k) (coded_node e t ls) (form_leaves e st k 0 ls)) (form_defs e st (k + 1) ds) h))
    where
      m : Made
      m = own_made (written k) (coded_node e t ls) (form_leaves e st k 0 ls)

      mine : (p : ℕ) × (slice_get w p ≡ Some m)
      mine = own-made (Sits w) (form_leaves e st k 0 ls).inlined (form_leaves e st k 0 ls).bundles (form_leaves e st k 0 ls).needed m
          (made-left (Sits w) (form_one (written k) (coded_node e t ls) (form_leaves e st k 0 ls)) (form_defs e st (k + 1) ds) h)

      spaces : spaces_of m.made ≡ declares_row t ls
      spaces = declares-coded e t ls (form_leaves e st k 0 ls).here (declares-form e st k 0 t ls)

      go : PartOf s k 0 (declares_row t ls) d ⊎ (find (wanted s x) (declarations_from (k + 1) ds) ≡ Some d)
          → (find (wanted s x) (declarations_from (k + 1) ds) ≡ Some d → WrittenFor w s d) → WrittenFor w s d
      go (inr f) rest = rest f
      go (inl f) rest =
          let b : d.part < 0 + length (declares_row t ls) = f.2 in
          let z : 0 + length (declares_row t ls) ≡ length (declares_row t ls) = omega arith in
          (mine.0, m, mine.1, ap written (sym f.0), subst (EachIs s) (sym spaces) (among-each s (declares_row t ls) r.1 f.3), subst (λ ss. d.part < length ss) (sym spaces) (subst (λ n. d.part < n) z b))

-- ---- what a name denotes stands in a scope of the stack

abbrev pub StandsAt : List Scope → Space → Id → Denoted → Type 0
StandsAt st s x a = (c : Scope) × (rest : List Scope) × (drop a.depth st ≡ c ∷ rest) × (declared c s x ≡ Some a.item)

-- the same, at e scopes outward of a stack whose first scope has depth d
abbrev StandsFrom : ℕ → List Scope → Space → Id → Denoted → Type 0
StandsFrom d st s x a = (e : ℕ) × (c : Scope) × (rest : List Scope) × (a.depth ≡ d + e) × (drop e st ≡ c ∷ rest) × (declared c s x ≡ Some a.item)

at_depth-some : (d : ℕ) (o : Option Declaration) (a : Denoted) → at_depth d o ≡ Some a → (a.depth ≡ d) × (o ≡ Some a.item)
at_depth-some d None a h = absurd (cc)
at_depth-some d (Some x) a h = let e : record { depth = d; item = x } ≡ a = some-same _ a h in (subst (λ v. v.depth ≡ d) e refl, subst (λ v. Some x ≡ Some v.item) e refl)

first-some : (a b : Option Denoted) (x : Denoted) → first_of_two a b ≡ Some x → (a ≡ Some x) ⊎ (b ≡ Some x)
first-some None b x h = inr h
first-some (Some y) b x h = inl h

outward-stands : (d : ℕ) (st : List Scope) (s : Space) (x : Id) (a : Denoted) → denotes_outward d st s x ≡ Some a → StandsFrom d st s x a
outward-stands d [] s x a h = absurd (cc)
outward-stands d (c ∷ st) s x a h = go (first-some (at_depth d (declared c s x)) (denotes_outward (d + 1) st s x) a h) (outward-stands (d + 1) st s x a)
  where
    go : (at_depth d (declared c s x) ≡ Some a) ⊎ (denotes_outward (d + 1) st s x ≡ Some a) → (denotes_outward (d + 1) st s x ≡ Some a → StandsFrom (d + 1) st s x a) → StandsFrom d (c ∷ st) s x a
    go (inl p) rest = let q : (a.depth ≡ d) × (declared c s x ≡ Some a.item) = at_depth-some d (declared c s x) a p in (zero, c, st, q.0 ∙ omega arith, refl, q.1)
    go (inr p) rest = let q : StandsFrom (d + 1) st s x a = rest p in (suc q.0, q.1, q.2, q.3 ∙ omega arith, q.4, q.5)

at-stands : (d : ℕ) (st : List Scope) (i : ℕ) (s : Space) (x : Id) (a : Denoted) → declared_at d st i s x ≡ Some a → (a.depth ≡ d + i) × StandsFrom d st s x a
at-stands d [] i s x a h = absurd (cc)
at-stands d (c ∷ st) zero s x a h = let q : (a.depth ≡ d) × (declared c s x ≡ Some a.item) = at_depth-some d (declared c s x) a h in (q.0 ∙ omega arith, (zero, c, st, q.0 ∙ omega arith, refl, q.1))
at-stands d (c ∷ st) (suc i) s x a h = let q : (a.depth ≡ d + 1 + i) × StandsFrom (d + 1) st s x a = at-stands (d + 1) st i s x a h in
    (q.0 ∙ omega arith, (suc q.1.0, q.1.1, q.1.2, q.1.3 ∙ omega arith, q.1.4, q.1.5))

stands-at : (st : List Scope) (s : Space) (x : Id) (a : Denoted) → StandsFrom 0 st s x a → StandsAt st s x a
stands-at st s x a h = let e : h.0 ≡ a.depth = let p : a.depth ≡ 0 + h.0 = h.3 in omega (arith, p) in (h.1, h.2, subst (λ n. drop n st ≡ h.1 ∷ h.2) e h.4, h.5)

that-stands : (st : List Scope) (o : Option ℕ) (s : Space) (x : Id) (a : Denoted) → at_that_depth st o s x ≡ Some a → (o ≡ Some a.depth) × StandsFrom 0 st s x a
that-stands st None s x a h = absurd (cc)
that-stands st (Some d) s x a h = let q : (a.depth ≡ 0 + d) × StandsFrom 0 st s x a = at-stands 0 st d s x a h in let e : d ≡ a.depth = let p : a.depth ≡ 0 + d = q.0 in omega (arith, p) in (ap (λ n. Some n) e, q.1)

pub denotes-stands : (st : List Scope) (s : Space) (r : Reach) (x : Id) (a : Denoted) → denotes st s r x ≡ Some a → StandsAt st s x a
denotes-stands st s outward x a h = stands-at st s x a (outward-stands 0 st s x a h)
denotes-stands st s own x a h = stands-at st s x a (at-stands 0 st 0 s x a h).1
denotes-stands st s (at_place p) x a h = stands-at st s x a (that-stands st (depth_of st p) s x a h).1

zero-depth : (n : ℕ) → nat_lt 0 n ≡ false → n ≡ 0
zero-depth n h = let p : n ≤ 0 = ltb-false 0 n h in omega arith

-- where no outer alias is needed, the reach's depth is that of what is denoted
pub denotes-depth : (st : List Scope) (s : Space) (r : Reach) (x : Id) (a : Denoted) → denotes st s r x ≡ Some a → leads_out r (Some a) ≡ false → reach_depth st r ≡ Some a.depth
denotes-depth st s outward x a h f = ap (λ n. Some n) (sym (zero-depth a.depth f))
denotes-depth st s own x a h f = let q : a.depth ≡ 0 + 0 = (at-stands 0 st 0 s x a h).0 in ap (λ n. Some n) (sym q)
denotes-depth st s (at_place p) x a h f = (that-stands st (depth_of st p) s x a h).0

pub own-depth : (st : List Scope) (s : Space) (x : Id) (a : Denoted) → denotes st s own x ≡ Some a → a.depth ≡ 0
own-depth st s x a h = let q : a.depth ≡ 0 + 0 = (at-stands 0 st 0 s x a h).0 in q

pub leads_out-outward : (r : Reach) (a : Denoted) → leads_out r (Some a) ≡ true → r ≡ outward
leads_out-outward outward a h = refl
leads_out-outward own a h = absurd (cc)
leads_out-outward (at_place p) a h = absurd (cc)

-- ---- where the index of a form leads

module _ (e : Encoding) where
  stack-at : (st : List Scope) (d : ℕ) (c : Scope) (rest : List Scope) → drop d st ≡ c ∷ rest → binary_at (built_stack e st) d ≡ built e rest c
  stack-at [] zero c rest h = absurd (cc)
  stack-at [] (suc d) c rest h = absurd (cc)
  stack-at (b ∷ st) zero c rest h = cc
  stack-at (b ∷ st) (suc d) c rest h = stack-at st d c rest h

  stack-rowed : (st : List Scope) (d : ℕ) (c : Scope) (rest : List Scope) → AllRowed st → drop d st ≡ c ∷ rest → Rowed c
  stack-rowed [] zero c rest w h = absurd (cc)
  stack-rowed [] (suc d) c rest w h = absurd (cc)
  stack-rowed (b ∷ st) zero c rest w h = let q : b ≡ c = cc in subst Rowed q w.0
  stack-rowed (b ∷ st) (suc d) c rest w h = stack-rowed st d c rest w.1 h

  -- the definition that is written for what a name denotes
  pub denoted-written : (st : List Scope) (s : Space) (r : Reach) (x : Id) (a : Denoted) → AllRowed st → denotes st s r x ≡ Some a
      → (p : ℕ) × (m : Made) × (slice_get (binary_at (built_stack e st) a.depth) p ≡ Some m) × (m.origin ≡ written a.item.definition)
      × (item (binary_at (built_stack e st) a.depth) s (item_index st s a) ≡ Some (the_item s p a.item.part))
  denoted-written st s r x a w h = go (denotes-stands st s r x a h)
    where
      at_scope : (c : Scope) (rest : List Scope) → Rowed c → declared c s x ≡ Some a.item → WrittenFor (built e rest c) s a.item
      at_scope (scope_of k id label ds) rest v g =
          let c : Scope = scope_of k id label ds in
          found-written e (scope_of k id label ds ∷ rest) (built e rest (scope_of k id label ds)) 0 ds s x a.item v
          (made-left (Sits (built e rest (scope_of k id label ds))) (form_defs e (scope_of k id label ds ∷ rest) 0 ds)
          (form_exports (scope_of k id label ds ∷ rest) 0 ds ++ form_names rest (scope_of k id label ds) (has_names (scope_of k id label ds))) (sits-self _)) g

      go : StandsAt st s x a → (p : ℕ) × (m : Made) × (slice_get (binary_at (built_stack e st) a.depth) p ≡ Some m) × (m.origin ≡ written a.item.definition)
          × (item (binary_at (built_stack e st) a.depth) s (item_index st s a) ≡ Some (the_item s p a.item.part))
      go (c, rest, g, f) =
          let v : WrittenFor (built e rest c) s a.item = at_scope c rest (stack-rowed st a.depth c rest w g) f in
          let b : binary_at (built_stack e st) a.depth ≡ built e rest c = stack-at st a.depth c rest g in
          let i : item (built e rest c) s (before s v.1.origin (marks (c ∷ rest)) + a.item.part) ≡ Some (the_item s v.0 a.item.part) = built-part e rest c v.0 v.1 s a.item.part v.2 v.4 v.5 in
          let j : item_index st s a ≡ before s v.1.origin (marks (c ∷ rest)) + a.item.part = rw (g, v.3) refl in
          (v.0, v.1, rw b v.2, v.3, rw (b, j) i)

  pub leads-plain : (bst : List (List Made)) (d : ℕ) (s : Space) (i k : ℕ) (x : Declaration) (m : Made) → item (binary_at bst d) s i ≡ Some x → slice_get (binary_at bst d) x.definition ≡ Some m → m.origin ≡ written k
      → leads bst d s i ≡ Some (record { depth = d; item = x })
  leads-plain bst d s i k x m g f h = rw (g, f, h) refl

  pub leads-alias : (bst : List (List Made)) (s : Space) (i j k u n : ℕ) (x y : Declaration) (m : Made) → item (binary_at bst 0) s i ≡ Some x → slice_get (binary_at bst 0) x.definition ≡ Some m → m.origin ≡ outer_alias_of k u
      → m.made ≡ alias_node n s j → item (binary_at bst n) s j ≡ Some y → leads bst 0 s i ≡ Some (record { depth = n; item = y })
  leads-alias bst s i j k u n x y m g f h l q = let z : 0 + n ≡ n = omega arith in rw (g, f, h, l, z, q) refl
