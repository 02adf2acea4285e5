-- The places of ids, as a map from names and numbers keeps them.
use Rattle.std.proofs.Common.{◌≡◌, ℕ, suc, Bool, true, false, cond, ◌&&◌, List, [], ◌∷◌, ◌++◌, length, Option, Some, None, option_map, bytes_eq, nat_eq, map, refl, sym, ◌∙◌, ap, arith, true≢false}
use Rattle.std.proofs.lemmas.Bool.{eqb-true}
use Rattle.std.proofs.lemmas.Bool.Decides.{nat_tests}
use Rattle.std.proofs.lemmas.Cmp.{nat_list_eq_equiv, nat_eq_equiv}
use Rattle.std.proofs.lemmas.Slice.Eq.{bytes_eq-Decides}
use Rattle.std.proofs.lemmas.Map.Text.{is_eq-slice_cmp}
use Rattle.std.specs.Ordering.{is_eq, nat_cmp, ordering_then}
use Rattle.std.specs.Cmp.Lexicographic.{slice_cmp}
use Rattle.comp_model.specs.Core.{Id, same_id}
use Rattle.comp_model.specs.Spaces.{bears}
use Rattle.core_model.specs.Items.{place_of}
use Rattle.core_model.proofs.Lists.{map-append}
use Rattle.name_ends.specs.Endings.{ending}
use Rattle.name_ends.proofs.Keys.{then-equal, numbers-equal}
use Rattle.core_names.specs.Names.{Key, key_cmp, IsKey, Places}

-- ---- one more item

-- the place of the first that bears an id, among some and one more
abbrev pub or_last : Option ℕ → Bool → ℕ → Option ℕ
or_last (Some i) b n = Some i
or_last None true n = Some n
or_last None false n = None

last-suc : (o : Option ℕ) (b : Bool) (n : ℕ) → option_map suc (or_last o b n) ≡ or_last (option_map suc o) b (suc n)
last-suc (Some i) b n = refl
last-suc None true n = refl
last-suc None false n = refl

-- one alone
pub one-last : (b : Bool) → cond b (Some 0) None ≡ or_last None b 0
one-last true = refl
one-last false = refl

-- one in front of others
pub more-last : (a : Bool) (o : Option ℕ) (b : Bool) (n : ℕ) → cond a (Some 0) (option_map suc (or_last o b n)) ≡ or_last (cond a (Some 0) (option_map suc o)) b (suc n)
more-last true o b n = refl
more-last false o b n = last-suc o b n

-- what is last is not found before it
pub none-last : (o : Option ℕ) (n : ℕ) → or_last o false n ≡ o
none-last (Some i) n = refl
none-last None n = refl

pub place_of-push : (x : Id) (ids : List (Option Id)) (y : Option Id) → place_of x (ids ++ y ∷ []) ≡ or_last (place_of x ids) (bears x y) (length ids)
place_of-push x [] y = one-last (bears x y)
place_of-push x (z ∷ ids) y = ap (λ r. cond (bears x z) (Some 0) (option_map suc r)) (place_of-push x ids y) ∙ more-last (bears x z) (place_of x ids) (bears x y) (length ids)

-- an item without an id has no part in it
pub place_of-nameless : (x : Id) (ids : List (Option Id)) → place_of x (ids ++ None ∷ []) ≡ place_of x ids
place_of-nameless x ids = place_of-push x ids None ∙ none-last (place_of x ids) (length ids)

-- ---- ids of one name and number

-- where an id stands has no part in it
pub place_of-elsewhere : (x y : Id) → x.name ≡ y.name → x.number ≡ y.number → (ids : List (Option Id)) → place_of x ids ≡ place_of y ids
place_of-elsewhere x y e d [] = refl
place_of-elsewhere x y e d (None ∷ ids) = ap (λ r. option_map suc r) (place_of-elsewhere x y e d ids)
place_of-elsewhere x y e d (Some z ∷ ids) =
    let p : same_id x z ≡ same_id y z = ap (λ n. bytes_eq n z.name && nat_eq x.number z.number) e ∙ ap (λ k. bytes_eq y.name z.name && nat_eq k z.number) d in
    ap (λ b. cond b (Some 0) (option_map suc (place_of x ids))) p ∙ ap (λ r. cond (same_id y z) (Some 0) (option_map suc r)) (place_of-elsewhere x y e d ids)

-- two keys compare as equal where their parts are one
key_cmp-same : (a b : Key) → is_eq (key_cmp a b) ≡ (nat_eq a.0 b.0 && (nat_eq a.1.0 b.1.0 && bytes_eq a.1.1.now b.1.1.now))
key_cmp-same a b =
    then-equal (nat_cmp a.0 b.0) (ordering_then (nat_cmp a.1.0 b.1.0) (slice_cmp nat_cmp a.1.1.now b.1.1.now)) (nat_eq a.0 b.0) (nat_eq a.1.0 b.1.0 && bytes_eq a.1.1.now b.1.1.now)
    (numbers-equal a.0 b.0)
    (then-equal (nat_cmp a.1.0 b.1.0) (slice_cmp nat_cmp a.1.1.now b.1.1.now) (nat_eq a.1.0 b.1.0) (bytes_eq a.1.1.now b.1.1.now) (numbers-equal a.1.0 b.1.0) (is_eq-slice_cmp a.1.1.now b.1.1.now))

split-and : (a b : Bool) → (a && b) ≡ true → (a ≡ true) × (b ≡ true)
split-and true b e = (refl, e)
split-and false b e = absurd (true≢false (sym e))

same-bytes : (xs ys : List ℕ) → bytes_eq xs ys ≡ true → xs ≡ ys
same-bytes xs ys e = (bytes_eq-Decides xs ys).0 e

-- what is told by the ends of names is told by the names
told : (e n b : Bool) → (b ≡ true → e ≡ true) → (e && (n && b)) ≡ (b && n)
told true true true h = refl
told true true false h = refl
told true false true h = refl
told true false false h = refl
told false n true h = absurd (true≢false (sym (h refl)))
told false n false h = refl

same-end : (x y : List ℕ) → bytes_eq y x ≡ true → nat_eq (ending x) (ending y) ≡ true
same-end x y e = ap (λ t. nat_eq (ending x) (ending t)) (same-bytes y x e) ∙ self (ending x)
  where
    self : (n : ℕ) → nat_eq n n ≡ true
    self n = grind (arith, nat_tests)

-- the keys of two ids compare as equal where the ids are one
same-keys : (k q : Key) (x y : Id) → IsKey k x → IsKey q y → is_eq (key_cmp k q) ≡ same_id y x
same-keys k q x y h g =
    key_cmp-same k q
    ∙ ap (λ e. nat_eq e q.0 && (nat_eq k.1.0 q.1.0 && bytes_eq k.1.1.now q.1.1.now)) h.end
    ∙ ap (λ e. nat_eq (ending x.name) e && (nat_eq k.1.0 q.1.0 && bytes_eq k.1.1.now q.1.1.now)) g.end
    ∙ ap (λ b. nat_eq (ending x.name) (ending y.name) && (b && bytes_eq k.1.1.now q.1.1.now)) (ap (λ n. nat_eq n q.1.0) h.number ∙ ap (nat_eq x.number) g.number ∙ nat_eq_equiv.symm x.number y.number)
    ∙ ap (λ b. nat_eq (ending x.name) (ending y.name) && (nat_eq y.number x.number && b)) (ap (λ t. bytes_eq t q.1.1.now) h.name ∙ ap (bytes_eq x.name) g.name ∙ nat_list_eq_equiv.symm x.name y.name)
    ∙ told (nat_eq (ending x.name) (ending y.name)) (nat_eq y.number x.number) (bytes_eq y.name x.name) (same-end x.name y.name)

-- ids that are one have one place
one-place : (x y : Id) (ids : List (Option Id)) → same_id y x ≡ true → place_of y ids ≡ place_of x ids
one-place x y ids e =
    let h : (bytes_eq y.name x.name ≡ true) × (nat_eq y.number x.number ≡ true) = split-and _ _ e in
    place_of-elsewhere y x (same-bytes y.name x.name h.0) (eqb-true y.number x.number h.1) ids

-- what is found under its key is the place of an id
pub place-found : (find : Key → Option ℕ) (ids now : List (Option Id)) (k : Key) (x : Id) (o : Option ℕ) → Places find ids → ids ≡ now → IsKey k x → find k ≡ o → place_of x now ≡ o
place-found find ids now k x o was seen h e = ap (place_of x) (sym seen) ∙ sym (was k x h) ∙ e

-- Places to which a new id is added with the next one.
pub places-push : (before after : Key → Option ℕ) (k : Key) (ids : List (Option Id)) (x : Id) → IsKey k x → Places before ids
    → before k ≡ None
    → (n : ℕ) → n ≡ length ids
    → ((q : Key) → after q ≡ cond (is_eq (key_cmp k q)) (Some n) (before q))
    → Places after (ids ++ Some x ∷ [])
places-push before after k ids x h was new n last put q y g =
    put q ∙ ap (λ m. cond (is_eq (key_cmp k q)) (Some m) (before q)) last ∙ ap (λ b. cond b (Some (length ids)) (before q)) (same-keys k q x y h g)
    ∙ ap (cond (same_id y x) (Some (length ids))) (was q y g) ∙ go (same_id y x) refl ∙ sym (place_of-push y ids (Some x))
  where
    go : (b : Bool) → same_id y x ≡ b → cond b (Some (length ids)) (place_of y ids) ≡ or_last (place_of y ids) b (length ids)
    go false e = sym (none-last (place_of y ids) (length ids))
    go true e = ap (λ o. or_last o true (length ids)) (sym (one-place x y ids e ∙ sym (was k x h) ∙ new))

-- Places among which one was put, and then what had been there.
pub places-put-back : (before between after : Key → Option ℕ) (k : Key) (ids : List (Option Id)) (x : Id) → IsKey k x → Places before ids
    → (old : Option ℕ) → before k ≡ old
    → (n : ℕ) → ((q : Key) → between q ≡ cond (is_eq (key_cmp k q)) (Some n) (before q))
    → ((q : Key) → after q ≡ cond (is_eq (key_cmp k q)) old (between q))
    → Places after ids
places-put-back before between after k ids x h was old there n put back q y g =
    back q ∙ ap (cond (is_eq (key_cmp k q)) old) (put q) ∙ ap (λ b. cond b old (cond b (Some n) (before q))) (same-keys k q x y h g) ∙ go (same_id y x) refl
  where
    go : (b : Bool) → same_id y x ≡ b → cond b old (cond b (Some n) (before q)) ≡ place_of y ids
    go false e = was q y g
    go true e = sym there ∙ was k x h ∙ sym (one-place x y ids e)

-- the ids of a space behind one more
pub shown-push : {A B : Type 0} (f : A → B) (xs new : List A) (x : A) → new ≡ xs ++ x ∷ [] → map f xs ++ f x ∷ [] ≡ map f new
shown-push f xs new x e = sym (map-append f xs (x ∷ [])) ∙ ap (map f) (sym e)
