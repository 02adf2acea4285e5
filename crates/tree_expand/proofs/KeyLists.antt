-- Keys that are equal to none, and one type more among those that were passed.
use Rattle.std.proofs.Common.{◌≡◌, ℕ, suc, ◌+◌, Bool, true, false, ◌&&◌, bytes_eq, nat_eq, List, [], ◌∷◌, ◌++◌, map, length, is_some, Option, Some, None, option_map, IsSome, refl, sym, ◌∙◌, ap, subst, arith}
use Rattle.std.proofs.lemmas.Bool.{eq-eqb}
use Rattle.std.proofs.lemmas.Slice.Eq.{bytes_eq-Decides}
use Rattle.comp_model.specs.declared.row.Row.{Row}
use Rattle.comp_model.specs.Core.{Text}
use Rattle.comp_model.specs.Model.{Leaves}
use Rattle.comp_model.specs.Origins.{Origin}
use Rattle.comp_scopes.specs.Reused.{Typed}
use Rattle.comp_tree.specs.Model.{id_of}
use Rattle.wast_parser.specs.declared.index.Id as spelled
use Rattle.type_keys.specs.Keys.{Part, part_other, same_key_reach, same_part, same_parts, first_equal, first_key, type_key, keys, LeavesPassed, AllPassed}
use Rattle.type_keys.specs.PartsOf.{part_of, parts_of, reach_of}
use Rattle.type_keys.specs.Shown.{KeysShow}
use Rattle.type_keys.specs.declared.key.KeyReach.{KeyReach}
use Rattle.type_keys.specs.declared.key.KeyReach.TheVariants as reach
use Rattle.type_keys.specs.declared.key.KeyPart.{KeyPart}
use Rattle.type_keys.specs.declared.key.KeyPart.TheVariants as part
use Rattle.type_keys.specs.declared.key.TypeKey.{TypeKey}
use Rattle.type_keys.specs.declared.types.Types.{Types}
use Rattle.type_keys.proofs.Agree.{keys-agree}
use Rattle.type_keys.proofs.First.{none-first}
use Rattle.type_keys.proofs.Search.{found, type-stays, keys-stay, passed-stays}
use Rattle.type_keys.proofs.Noted.{key-one, key-last, equal-shown}
use Rattle.tree_expand.specs.KeyParts.{KeyShows}
use Rattle.tree_expand.specs.Known.{Shows}
use Rattle.tree_expand.specs.Passed.{Noted, types_in, ids_in}
use Rattle.tree_expand.specs.Standing.{ids_of}
use Rattle.tree_expand.specs.declared.known.Known.{Known}
use Rattle.tree_expand.proofs.Ids.{ids_app}

pub not_true : {A : Type 0} → false ≡ true → A
not_true e = absurd (cc)

-- ---- parts that are equal to none

pub odd_front : (ps qs : List Part) → same_parts ps ps ≡ false → same_parts (ps ++ qs) (ps ++ qs) ≡ false
odd_front [] qs h = not_true (sym h)
odd_front (p ∷ ps) qs h = go (same_part p p) h (odd_front ps qs)
  where
    go : (b : Bool) → (b && same_parts ps ps) ≡ false → (same_parts ps ps ≡ false → same_parts (ps ++ qs) (ps ++ qs) ≡ false) → (b && same_parts (ps ++ qs) (ps ++ qs)) ≡ false
    go false h f = refl
    go true h f = f h

pub odd_at : (ps : List Part) (q : Part) (qs : List Part) → same_part q q ≡ false → same_parts (ps ++ q ∷ qs) (ps ++ q ∷ qs) ≡ false
odd_at [] q qs h = rw h refl
odd_at (p ∷ ps) q qs h = go (same_part p p) (odd_at ps q qs h)
  where
    go : (b : Bool) → same_parts (ps ++ q ∷ qs) (ps ++ q ∷ qs) ≡ false → (b && same_parts (ps ++ q ∷ qs) (ps ++ q ∷ qs)) ≡ false
    go false f = refl
    go true f = f

-- a key of code is equal to itself
number-same : (n : ℕ) → nat_eq n n ≡ true
number-same n = eq-eqb n n refl

text-same : (t : Text) → bytes_eq t t ≡ true
text-same t = (bytes_eq-Decides t t).1 refl

reach-same : (r : KeyReach) → same_key_reach (reach_of r) (reach_of r) ≡ true
reach-same reach.Outward = refl
reach-same reach.Own = refl
reach-same (reach.Counted n) = number-same n
reach-same (reach.Named t n) = rw (text-same t.now, number-same n) refl

part-same : (p : KeyPart) → same_part (part_of p) (part_of p) ≡ true
part-same part.End = refl
part-same (part.Row n) = number-same n
part-same (part.Text t) = text-same t.now
part-same (part.Number n) = number-same n
part-same part.Absent = refl
part-same part.Present = refl
part-same part.Nodes = refl
part-same part.NoCase = refl
part-same (part.Case t n) = rw (text-same t.now, number-same n) refl
part-same (part.Space n) = number-same n
part-same (part.Numeral n) = number-same n
part-same (part.Name r t n) = rw (reach-same r, text-same t.now, number-same n) refl
part-same (part.Root n) = number-same n
part-same (part.RootName t n) = rw (text-same t.now, number-same n) refl
part-same (part.Export t) = text-same t.now
part-same (part.Inline n) = number-same n

parts-same : (ps : List KeyPart) → same_parts (map part_of ps) (map part_of ps) ≡ true
parts-same [] = refl
parts-same (p ∷ ps) = rw (part-same p, parts-same ps) refl

pub no_key : (k : Option TypeKey) (ps : List Part) → KeyShows k ps → same_parts ps ps ≡ false → k ≡ None
no_key None ps h o = refl
no_key (Some k) ps h o = not_true (sym o ∙ ap (λ q. same_parts q q) (sym h) ∙ parts-same k.parts.items)

pub some_key : (k : TypeKey) (ps : List Part) → KeyShows (Some k) ps → same_parts ps ps ≡ true
some_key k ps h = subst (λ q. same_parts q q ≡ true) h (parts-same k.parts.items)

pub odd_shows : (k : Option TypeKey) (ps qs : List Part) → KeyShows k ps → same_parts ps ps ≡ false → same_parts qs qs ≡ false → KeyShows k qs
odd_shows k ps qs h o i = subst (λ x. KeyShows x qs) (sym (no_key k ps h o)) i

pub none_shows : (k : Option TypeKey) (ps qs : List Part) → k ≡ None → KeyShows k ps → KeyShows k (ps ++ qs)
none_shows k ps qs e h = subst (λ x. KeyShows x (ps ++ qs)) (sym e) (odd_front ps qs (subst (λ x. KeyShows x ps) e h))

-- ---- lists

pub types_app : (xs ys : List Noted) → types_in (xs ++ ys) ≡ types_in xs ++ types_in ys
types_app [] ys = refl
types_app (x ∷ xs) ys = ap (λ q. x.typed ∷ q) (types_app xs ys)

pub ids_in_app : (xs ys : List Noted) → ids_in (xs ++ ys) ≡ ids_in xs ++ ids_in ys
ids_in_app [] ys = refl
ids_in_app (x ∷ xs) ys = ap (λ q. x.id ∷ q) (ids_in_app xs ys)

keys-app : (zs xs ys : List Typed) → keys zs (xs ++ ys) ≡ keys zs xs ++ keys zs ys
keys-app zs [] ys = refl
keys-app zs (x ∷ xs) ys = ap (λ q. type_key zs x.tag x.leaves ∷ q) (keys-app zs xs ys)

pub passed_app : (zs xs ys : List Typed) → AllPassed zs xs → AllPassed zs ys → AllPassed zs (xs ++ ys)
passed_app zs [] ys a b = b
passed_app zs (x ∷ xs) ys a b = (a.0, passed_app zs xs ys a.1 b)

pub all_stay : (xs zs ys : List Typed) → AllPassed xs ys → AllPassed (xs ++ zs) ys
all_stay xs zs [] h = tt
all_stay xs zs (y ∷ ys) h = (passed-stays xs zs y.leaves h.0, all_stay xs zs ys h.1)

pub keys_long : (zs xs : List Typed) → length (keys zs xs) ≡ length xs
keys_long zs [] = refl
keys_long zs (x ∷ xs) = ap suc (keys_long zs xs)

types-long : (xs : List Noted) → length (types_in xs) ≡ length xs
types-long [] = refl
types-long (x ∷ xs) = ap suc (types-long xs)

ids-long : (is : List (Option spelled.Id)) (xs : List Noted) → ids_of is ≡ ids_in xs → length is ≡ length xs
ids-long [] [] e = refl
ids-long [] (x ∷ xs) e = absurd (cc)
ids-long (i ∷ is) [] e = absurd (cc)
ids-long (i ∷ is) (x ∷ xs) e = ap suc (ids-long is xs (tail e))
  where
    tail : {a b : Option Rattle.comp_model.specs.Core.Id} {us vs : List (Option Rattle.comp_model.specs.Core.Id)} → (a ∷ us) ≡ (b ∷ vs) → us ≡ vs
    tail e = cc

pub number_is : (a : Known) (xs : List Noted) (n : ℕ) → Shows a xs → n ≡ length a.ids.items → n ≡ length xs
number_is a xs n h e = e ∙ ids-long a.ids.items xs h.ids

pub number_of_keys : (a : Known) (xs : List Noted) (n : ℕ) → Shows a xs → n ≡ length a.ids.items → length (keys (types_in xs) (types_in xs)) ≡ n
number_of_keys a xs n h e = keys_long (types_in xs) (types_in xs) ∙ types-long xs ∙ sym (number_is a xs n h e)

-- ---- a look-up

pub found_by_key : (a : Types) (xs : List Noted) (k : TypeKey) (r : Option ℕ) (t : Row) (ls : Leaves) → KeysShow a (keys (types_in xs) (types_in xs)) → AllPassed (types_in xs) (types_in xs) → ((ks : List (List Part)) → KeysShow a ks → r ≡ first_key (parts_of k) ks)
    → parts_of k ≡ type_key (types_in xs) t ls → LeavesPassed (types_in xs) ls → r ≡ first_equal t ls (types_in xs)
found_by_key a xs k r t ls s p f e h = f (keys (types_in xs) (types_in xs)) s ∙ ap (λ q. first_key q (keys (types_in xs) (types_in xs))) e ∙ found (types_in xs) (types_in xs) t ls h p

pub found_by_none : (xs : List Typed) (t : Row) (ls : Leaves) → same_parts (type_key xs t ls) (type_key xs t ls) ≡ false → LeavesPassed xs ls → first_equal t ls xs ≡ None
found_by_none xs t ls h p = none-first t ls xs (sym (keys-agree xs t t ls ls p p) ∙ h)

-- ---- one type more

-- a key that is equal to none is found by none
pub odd_shown : (a : Types) (ks : List (List Part)) (q : List Part) → KeysShow a ks → same_parts q q ≡ false → KeysShow a (ks ++ q ∷ [])
odd_shown a ks q s o k = s k ∙ sym (key-last (parts_of k) q ks (λ h. differ (same_parts (parts_of k) q) refl h) ∙ no (same_parts (parts_of k) q) refl)
  where
    clash : same_parts (parts_of k) q ≡ true → ⊥
    clash h = not_true (sym o ∙ ap (λ x. same_parts x x) (sym (key-one (parts_of k) q h)) ∙ parts-same k.parts.items)

    differ : (b : Bool) → same_parts (parts_of k) q ≡ b → b ≡ true → first_key (parts_of k) ks ≡ None
    differ b e h = absurd (clash (e ∙ h))

    no : (b : Bool) → same_parts (parts_of k) q ≡ b → Rattle.std.proofs.Common.cond b (Some (length ks)) (first_key (parts_of k) ks) ≡ first_key (parts_of k) ks
    no true e = absurd (clash e)
    no false e = refl

one-more : (a : Types) (xs : List Typed) (o : Origin) (t : Row) (ls : Leaves) → KeysShow a (keys xs xs ++ type_key xs t ls ∷ []) → AllPassed xs xs → LeavesPassed xs ls
    → KeysShow a (keys (xs ++ record { origin = o; tag = t; leaves = ls } ∷ []) (xs ++ record { origin = o; tag = t; leaves = ls } ∷ []))
one-more a xs o t ls s p h =
    let x : Typed = record { origin = o; tag = t; leaves = ls } in
    let e : keys (xs ++ x ∷ []) (xs ++ x ∷ []) ≡ keys xs xs ++ type_key xs t ls ∷ [] =
    keys-app (xs ++ x ∷ []) xs (x ∷ []) ∙ ap (λ q. q ++ type_key (xs ++ x ∷ []) t ls ∷ []) (keys-stay xs (x ∷ []) xs p) ∙ ap (λ q. keys xs xs ++ q ∷ []) (type-stays xs (x ∷ []) t ls h) in
    subst (λ q. KeysShow a q) (sym e) s

pub noted_shows : (old new : Known) (xs : List Noted) (o : Origin) (t : Row) (ls : Leaves) (id : Option spelled.Id) → Shows old xs → LeavesPassed (types_in xs) ls
    → KeysShow new.types (keys (types_in xs) (types_in xs) ++ type_key (types_in xs) t ls ∷ []) → new.ids.items ≡ old.ids.items ++ id ∷ []
    → Shows new (xs ++ record { typed = record { origin = o; tag = t; leaves = ls }; id = option_map id_of id } ∷ [])
noted_shows old new xs o t ls id h p s e =
    let y : Noted = record { typed = record { origin = o; tag = t; leaves = ls }; id = option_map id_of id } in
    let x : Typed = record { origin = o; tag = t; leaves = ls } in
    let X : List Typed = types_in xs in record {
      keyed = subst (λ q. KeysShow new.types (keys q q)) (sym (types_app xs (y ∷ []))) (one-more new.types X o t ls s h.passed p);
      passed = subst (λ q. AllPassed q q) (sym (types_app xs (y ∷ []))) (passed_app (X ++ x ∷ []) X (x ∷ []) (all_stay X (x ∷ []) X h.passed) (passed-stays X (x ∷ []) ls p, tt));
      ids = ap ids_of e ∙ ids_app old.ids.items (id ∷ []) ∙ ap (λ q. q ++ option_map id_of id ∷ []) h.ids ∙ sym (ids_in_app xs (y ∷ []));
    }

-- an equal one is there
pub again_shows : (old new : Known) (xs : List Noted) (o : Origin) (t : Row) (ls : Leaves) (id : Option spelled.Id) → Shows old xs → LeavesPassed (types_in xs) ls → IsSome (first_equal t ls (types_in xs))
    → new.types ≡ old.types → new.ids.items ≡ old.ids.items ++ id ∷ []
    → Shows new (xs ++ record { typed = record { origin = o; tag = t; leaves = ls }; id = option_map id_of id } ∷ [])
again_shows old new xs o t ls id h p i f e =
    noted_shows old new xs o t ls id h p
    (subst (λ a. KeysShow a (keys (types_in xs) (types_in xs) ++ type_key (types_in xs) t ls ∷ [])) (sym f) (equal-shown old.types (keys (types_in xs) (types_in xs)) (type_key (types_in xs) t ls) h.keyed (subst IsSome (sym (found (types_in xs) (types_in xs) t ls p h.passed)) i)))
    e

-- ---- a key of which nothing is wanted any more

pub not_some : (k : Option TypeKey) → is_some k ≡ false → k ≡ None
not_some None e = refl
not_some (Some k) e = not_true (sym e)

pub given_up : (k : Option TypeKey) (ps qs rs : List Part) → k ≡ None → qs ≡ rs → same_parts rs rs ≡ false → KeyShows k (ps ++ qs)
given_up k ps qs rs e f o = subst (λ x. KeyShows x (ps ++ qs)) (sym e) (subst (λ x. same_parts (ps ++ x) (ps ++ x) ≡ false) (sym f) (tail ps))
  where
    tail : (ps : List Part) → same_parts (ps ++ rs) (ps ++ rs) ≡ false
    tail [] = o
    tail (p ∷ ps) = go (same_part p p) (tail ps)
      where
        go : (b : Bool) → same_parts (ps ++ rs) (ps ++ rs) ≡ false → (b && same_parts (ps ++ rs) (ps ++ rs)) ≡ false
        go false f = refl
        go true f = f

pub then_other : (p : Part) → same_parts (p ∷ part_other ∷ []) (p ∷ part_other ∷ []) ≡ false
then_other p = go (same_part p p)
  where
    go : (b : Bool) → (b && false) ≡ false
    go true = refl
    go false = refl
