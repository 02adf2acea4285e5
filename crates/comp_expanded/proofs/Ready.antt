-- Each generated name leads to the definition that is generated for it, and the numbers of references are right.
use Rattle.std.proofs.Common.{◌≡◌, ℕ, zero, suc, ◌+◌, Bool, true, false, cond, List, [], ◌∷◌, ◌++◌, length, find, is_some, slice_get, Option, Some, None, refl, ◌∙◌, subst, arith}
use Rattle.std.proofs.lemmas.Slice.Eq.{bytes_eq-Decides}
use Rattle.std.proofs.lemmas.Bool.{eq-eqb}
use Rattle.std.proofs.lemmas.List.{length-append, append_assoc}
use Rattle.comp_model.specs.declared.Space.{Space}
use Rattle.comp_model.specs.Core.{Text, Id, same_id, outward, own}
use Rattle.comp_model.specs.Model.{Scope, scope_of}
use Rattle.comp_model.specs.declared.row.ScopeKind.{ScopeKind}
use Rattle.comp_model.specs.Spaces.{declares_row, Declaration, parts, declarations_from}
use Rattle.comp_model.proofs.Tests.{same_space-refl}
use Rattle.comp_scopes.specs.Names.{Denoted, at_depth, first_of_two, denotes_outward, denotes}
use Rattle.comp_scopes.specs.Outward.{leads_out}
use Rattle.comp_expanded.specs.Expansion.{Entry, entry_defs}
use Rattle.comp_expanded.specs.Named.{NoneBears, GeneratedOnce}
use Rattle.comp_scopes.proofs.Lookup.{some-same}
use Rattle.comp_expanded.proofs.Ids.{EachListed, each-weaken, wanted}

-- ---- a definition of a list is found by its id

pub same_id-refl : (x : Id) → same_id x x ≡ true
same_id-refl x = rw ((bytes_eq-Decides x.name x.name).1 refl, eq-eqb x.number x.number refl) refl

abbrev pub In : List Entry → Entry → Type 0
In ys x = (p : ℕ) × (slice_get ys p ≡ Some x)

in-more : (y : Entry) (ys xs : List Entry) → EachListed (In ys) xs → EachListed (In (y ∷ ys)) xs
in-more y ys xs h = each-weaken (In ys) (In (y ∷ ys)) (λ x s. (suc s.0, s.1)) xs h

pub in-self : (ys : List Entry) → EachListed (In ys) ys
in-self [] = tt
in-self (y ∷ ys) = ((zero, refl), in-more y ys ys (in-self ys))

find-later : (P : Declaration → Bool) (xs ys : List Declaration) → is_some (find P ys) ≡ true → is_some (find P (xs ++ ys)) ≡ true
find-later P [] ys h = h
find-later P (x ∷ xs) ys h = go (P x) (find-later P xs ys h)
  where
    go : (b : Bool) → is_some (find P (xs ++ ys)) ≡ true → is_some (cond b (Some x) (find P (xs ++ ys))) ≡ true
    go true r = refl
    go false r = r

pub entry-found : (j p : ℕ) (gs : List Entry) (x : Entry) (y : Id) (ids : List (Option Id)) (s : Space) (ss : List Space) → slice_get gs p ≡ Some x → x.names.ids ≡ Some y ∷ ids → declares_row x.head x.leaves ≡ s ∷ ss
    → is_some (find (wanted s y) (declarations_from j (entry_defs gs))) ≡ true
entry-found j p [] x y ids s ss h a b = absurd (cc)
entry-found j zero (z ∷ gs) x y ids s ss h a b = let e : z ≡ x = some-same z x h in rw (e, a, b, same_space-refl s, same_id-refl y) refl
entry-found j (suc p) (z ∷ gs) x y ids s ss h a b = find-later (wanted s y) (parts j 0 z.names.ids (declares_row z.head z.leaves)) (declarations_from (j + 1) (entry_defs gs)) (entry-found (j + 1) p gs x y ids s ss h a b)

here-generated_reach : (o : Option Declaration) (later : Option Denoted) → is_some o ≡ true → leads_out outward (first_of_two (at_depth 0 o) later) ≡ false
here-generated_reach None later h = absurd (cc)
here-generated_reach (Some d) later h = refl

pub found-generated_reach : (kd : ScopeKind) (id : Option Id) (label : Option Text) (gs : List Entry) (su : List Scope) (b : Bool) (s : Space) (x : Id) → is_some (find (wanted s x) (declarations_from 0 (entry_defs gs))) ≡ true
    → leads_out (cond b own outward) (denotes (scope_of kd id label (entry_defs gs) ∷ su) s (cond b own outward) x) ≡ false
found-generated_reach kd id label gs su true s x h = refl
found-generated_reach kd id label gs su false s x h = here-generated_reach (find (wanted s x) (declarations_from 0 (entry_defs gs))) (denotes_outward (0 + 1) su s x) h

-- none of two runs of ids
none-left : (x : Id) (xs ys : List (Option Id)) → NoneBears x (xs ++ ys) → NoneBears x xs
none-left x [] ys h = tt
none-left x (y ∷ xs) ys h = (h.0, none-left x xs ys h.1)

none-right : (x : Id) (xs ys : List (Option Id)) → NoneBears x (xs ++ ys) → NoneBears x ys
none-right x [] ys h = h
none-right x (y ∷ xs) ys h = none-right x xs ys h.1

once-right : (xs ys : List (Option Id)) → GeneratedOnce (xs ++ ys) → GeneratedOnce ys
once-right [] ys h = h
once-right (x ∷ xs) ys h = once-right xs ys h.1

-- these stand in the list from p on
abbrev pub Seated : List Entry → ℕ → List Entry → Type 0
Seated gs p [] = Unit {0}
Seated gs p (x ∷ xs) = (slice_get gs p ≡ Some x) × Seated gs (p + 1) xs

pub seated-left : (gs : List Entry) (p : ℕ) (xs ys : List Entry) → Seated gs p (xs ++ ys) → Seated gs p xs
seated-left gs p [] ys h = tt
seated-left gs p (x ∷ xs) ys h = (h.0, seated-left gs (p + 1) xs ys h.1)

pub seated-right : (gs : List Entry) (p : ℕ) (xs ys : List Entry) → Seated gs p (xs ++ ys) → Seated gs (p + length xs) ys
seated-right gs p [] ys h = let z : p + 0 ≡ p = omega arith in rw z h
seated-right gs p (x ∷ xs) ys h = let z : p + length (x ∷ xs) ≡ p + 1 + length xs = omega arith in rw z (seated-right gs (p + 1) xs ys h.1)

pub seated-self : (front xs : List Entry) (p : ℕ) → length front ≡ p → Seated (front ++ xs) p xs
seated-self front [] p e = tt
seated-self front (x ∷ xs) p e = (
  subst (λ n. slice_get (front ++ x ∷ xs) n ≡ Some x) e (at front),
  subst (λ v. Seated v (p + 1) xs) (append_assoc front (x ∷ []) xs) (seated-self (front ++ x ∷ []) xs (p + 1) (length-append front (x ∷ []) ∙ omega (arith, e))),
)
  where
    at : (ys : List Entry) → slice_get (ys ++ x ∷ xs) (length ys) ≡ Some x
    at [] = refl
    at (y ∷ ys) = at ys
