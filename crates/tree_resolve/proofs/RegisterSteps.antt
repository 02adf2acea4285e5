-- One declaration more that is registered.
use Rattle.std.proofs.Common.{◌≡◌, ℕ, ◌+◌, ◌<◌, ◌≤◌, refl, sym, ap, ◌∙◌, subst, Bool, true, false, ◌&&◌, cond, List, [], ◌∷◌, ◌++◌, length, drop, map, get_or, slice_index_or, Option, Some, None, option_map, is_some, true≢false, arith}
use Rattle.std.proofs.lemmas.List.{drop_more}
use Rattle.std.proofs.Math.ListN.{drop_of_length-le}
use Rattle.comp_model.specs.declared.Space.{Space}
use Rattle.comp_model.specs.Core as core
use Rattle.comp_model.specs.Core.{same_id}
use Rattle.comp_model.specs.CoreModules.{CoreModule}
use Rattle.comp_model.specs.ItemNames.{first_or_none}
use Rattle.comp_model.specs.Spaces.{Declaration, parts, declarations_from, declares_row, same_space, bears}
use Rattle.comp_scopes.specs.Names.{first_of_two}
use Rattle.comp_scopes.specs.Unmet.{duplicate, unmet}
use Rattle.comp_tables.specs.Tables as tables
use Rattle.comp_tables.specs.Tables.{nothing_registered, registered, all_registered, is_taken, first_taken}
use Rattle.wast_tokens.specs.declared.error.Error.{Error}
use Rattle.wast_tokens.specs.declared.error.ErrorKind.TheVariants.{Duplicate}
use Rattle.comp_tree.specs.declared.tree.Def.{Def}
use Rattle.comp_tree.specs.Lists.{listed, defs_listed}
use Rattle.comp_tree.specs.Model.{id_of}
use Rattle.open_scopes.specs.declared.registry.Item.{Item}
use Rattle.open_scopes.specs.declared.registry.Registry.{Registry}
use Rattle.open_scopes.specs.Refusals.{refusal, refusal_of}
use Rattle.open_scopes.specs.Registered.{found_in, item_of, Registers}
use Rattle.tree_resolve.specs.Registering.{RegisteredUpTo}

and-false : (a : Bool) → (a && false) ≡ false
and-false true = refl
and-false false = refl

map-first : (a : Option Declaration) (b : Bool) (d : Declaration) → option_map item_of (first_of_two a (cond b (Some d) None)) ≡ first_of_two (option_map item_of a) (cond b (Some (item_of d)) None)
map-first (Some x) b d = refl
map-first None true d = refl
map-first None false d = refl

first-none : {A : Type 0} (o : Option A) → first_of_two o None ≡ o
first-none None = refl
first-none (Some i) = refl

none-of : (o : Option Declaration) → option_map item_of o ≡ None → is_some o ≡ false
none-of None h = refl
none-of (Some d) h = absurd (cc)

some-of : (o : Option Declaration) → is_some (option_map item_of o) ≡ true → is_some o ≡ true
some-of None h = absurd (true≢false (sym h))
some-of (Some d) h = refl

step : (r new : Registry) (all more : List Declaration) (d : Declaration) (k : RegisteredUpTo r all (d ∷ more)) → Registers new (registered k.known d) → is_taken k.known d.space d.id ≡ None → RegisteredUpTo new all more
step r new all more d k held free = record { known = registered k.known d; held = held; left = k.left; taken = sym (ap (λ u. first_of_two u (first_taken (registered k.known d) more)) free) ∙ k.taken }

pub nameless_step : (r : Registry) (all more : List Declaration) (d : Declaration) → d.id ≡ None → RegisteredUpTo r all (d ∷ more) → RegisteredUpTo r all more
nameless_step r all more d e k =
    step r r all more d k
    (λ s x. k.held s x ∙ ap (option_map item_of) (sym (first-none (k.known s x)) ∙ ap (λ (b : Bool). first_of_two (k.known s x) (cond b (Some d) None)) (sym (ap (λ i. same_space s d.space && bears x i) e ∙ and-false (same_space s d.space)))))
    (ap (is_taken k.known d.space) e)

pub named_step : (r new : Registry) (all more : List Declaration) (d : Declaration) (u : Space) (y : core.Id) (i : Item) → d.space ≡ u → d.id ≡ Some y → item_of d ≡ i → found_in r u y ≡ None
    → ((s : Space) (x : core.Id) → found_in new s x ≡ first_of_two (found_in r s x) (cond (same_space s u && same_id x y) (Some i) None))
    → RegisteredUpTo r all (d ∷ more) → RegisteredUpTo new all more
named_step r new all more d u y i a b e free added k =
    step r new all more d k
    (λ s x.
    added s x ∙ ap (λ o. first_of_two o (cond (same_space s u && same_id x y) (Some i) None)) (k.held s x)
    ∙ ap (λ z. first_of_two (option_map item_of (k.known s x)) (cond (same_space s u && same_id x y) (Some z) None)) (sym e)
    ∙ ap (λ z. first_of_two (option_map item_of (k.known s x)) (cond (same_space s z && same_id x y) (Some (item_of d)) None)) (sym a)
    ∙ ap (λ z. first_of_two (option_map item_of (k.known s x)) (cond (same_space s d.space && bears x z) (Some (item_of d)) None)) (sym b)
    ∙ sym (map-first (k.known s x) (same_space s d.space && bears x d.id) d))
    (ap (is_taken k.known d.space) b ∙ ap (λ z. is_taken k.known z (Some y)) a ∙ ap (λ (z : Bool). cond z (unmet duplicate y.offset) None) (none-of (k.known u y) (sym (k.held u y) ∙ free)))

pub taken_step : (r : Registry) (all more : List Declaration) (d : Declaration) (u : Space) (y : core.Id) (x : Error) → d.space ≡ u → d.id ≡ Some y → x ≡ refusal Duplicate y.offset → is_some (found_in r u y) ≡ true
    → RegisteredUpTo r all (d ∷ more) → option_map refusal_of (first_taken nothing_registered all) ≡ Some x
taken_step r all more d u y x a b e there k =
    let t : is_taken k.known d.space d.id ≡ unmet duplicate y.offset =
    ap (is_taken k.known d.space) b ∙ ap (λ z. is_taken k.known z (Some y)) a ∙ ap (λ (z : Bool). cond z (unmet duplicate y.offset) None) (some-of (k.known u y) (ap is_some (sym (k.held u y)) ∙ there)) in
    ap (option_map refusal_of) (sym k.taken ∙ ap (λ z. first_of_two z (first_taken (registered k.known d) more)) t) ∙ ap Some (sym e)

-- ---- parts

abbrev behind : {A : Type 0} → List A → List A
behind [] = []
behind (x ∷ xs) = xs

drop_behind : {A : Type 0} (n : ℕ) (xs : List A) → behind (drop n xs) ≡ drop (ℕ.suc n) xs
drop_behind ℕ.zero [] = refl
drop_behind ℕ.zero (x ∷ xs) = refl
drop_behind (ℕ.suc n) [] = refl
drop_behind (ℕ.suc n) (x ∷ xs) = drop_behind n xs

next_part : (k p : ℕ) (ids : List (Option core.Id)) (s : Space) (ss : List Space) → parts k p ids (s ∷ ss) ≡ record { space = s; id = first_or_none ids; definition = k; part = p } ∷ parts k (p + 1) (behind ids) ss
next_part k p [] s ss = refl
next_part k p (x ∷ xs) s ss = refl

pub part_at : (k p : ℕ) (ids : List (Option core.Id)) (spaces : List Space) (w : Space) → p < length spaces
    → parts k p (drop p ids) (drop p spaces) ≡ record { space = get_or spaces p w; id = first_or_none (drop p ids); definition = k; part = p } ∷ parts k (p + 1) (drop (p + 1) ids) (drop (p + 1) spaces)
part_at k p ids spaces w h =
    let n : ℕ.suc p ≡ p + 1 = omega arith in
    ap (parts k p (drop p ids)) (drop_more spaces p w h) ∙ next_part k p (drop p ids) (get_or spaces p w) (drop (p + 1) spaces)
    ∙ ap (λ z. record { space = get_or spaces p w; id = first_or_none (drop p ids); definition = k; part = p } ∷ parts k (p + 1) z (drop (p + 1) spaces)) (drop_behind p ids ∙ ap (λ (z : ℕ). drop z ids) n)

pub part_there : {A B : Type 0} (f : A → B) (xs : List (Option A)) (p : ℕ) → p < length xs → option_map f (slice_index_or xs p None) ≡ first_or_none (drop p (map (option_map f) xs))
part_there f [] p h = absurd (omega (arith, h))
part_there f (x ∷ xs) ℕ.zero h = refl
part_there f (x ∷ xs) (ℕ.suc p) h = part_there f xs p (omega (arith, h))

no_parts : (k p : ℕ) (ids : List (Option core.Id)) → parts k p ids [] ≡ []
no_parts k p ids = refl

pub parts_end : (r : Registry) (all more : List Declaration) (k p : ℕ) (ids : List (Option core.Id)) (spaces : List Space) → length spaces ≤ p → RegisteredUpTo r all (parts k p ids (drop p spaces) ++ more) → RegisteredUpTo r all more
parts_end r all more k p ids spaces h g = subst (λ z. RegisteredUpTo r all (z ++ more)) (ap (parts k p ids) (drop_of_length-le spaces h) ∙ no_parts k p ids) g

-- ---- definitions

pub definition_next : (r : Registry) (C : List CoreModule) (defs : List Def) (n : ℕ) (d : Def) (spaces : List Space) → n < length defs → d ≡ get_or defs n d → spaces ≡ declares_row d.node.row (listed C d.node.leaves.now)
    → RegisteredUpTo r (declarations_from 0 (defs_listed C defs)) (declarations_from n (defs_listed C (drop n defs)))
    → RegisteredUpTo r (declarations_from 0 (defs_listed C defs)) (parts n 0 (map (option_map id_of) d.names.now.ids.now) spaces ++ declarations_from (n + 1) (defs_listed C (drop (n + 1) defs)))
definition_next r C defs n d spaces h a e k =
    subst (λ z. RegisteredUpTo r (declarations_from 0 (defs_listed C defs)) (parts n 0 (map (option_map id_of) d.names.now.ids.now) z ++ declarations_from (n + 1) (defs_listed C (drop (n + 1) defs)))) (sym e)
    (subst (λ z. RegisteredUpTo r (declarations_from 0 (defs_listed C defs)) (declarations_from n (defs_listed C z))) (drop_more defs n d h ∙ ap (λ z. z ∷ drop (n + 1) defs) (sym a)) k)

pub none_yet : (r : Registry) (all : List Declaration) → ((s : Space) (x : core.Id) → found_in r s x ≡ None) → RegisteredUpTo r all all
none_yet r all h = record { known = nothing_registered; held = h; left = refl; taken = refl }

pub registered_all : (r : Registry) (C : List CoreModule) (defs : List Def) (n : ℕ) → length defs ≤ n → RegisteredUpTo r (declarations_from 0 (defs_listed C defs)) (declarations_from n (defs_listed C (drop n defs)))
    → Registers r (all_registered nothing_registered (declarations_from 0 (defs_listed C defs))) × (first_taken nothing_registered (declarations_from 0 (defs_listed C defs)) ≡ None)
registered_all r C defs n h g =
    let k : RegisteredUpTo r (declarations_from 0 (defs_listed C defs)) [] = subst (λ z. RegisteredUpTo r (declarations_from 0 (defs_listed C defs)) (declarations_from n (defs_listed C z))) (drop_of_length-le defs h) g in
    (λ s x. k.held s x ∙ ap (λ (f : tables.Registry). option_map item_of (f s x)) k.left, sym k.taken)
