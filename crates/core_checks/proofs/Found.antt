-- What names mean, one behind the other.
use Rattle.std.proofs.Common.{◌≡◌, ℕ, ◌≤◌, length, drop, cond, Option, Some, None, List, [], ◌∷◌, ◌++◌, map, flat_map, is_some, Result, Ok, Err, refl, sym, ◌∙◌, ap}
use Rattle.std.specs.Prelude.{OnOk, IfErr}
use Rattle.std.proofs.lemmas.List.{drop_all}
use Rattle.comp_model.specs.Core.{Id, core_unknown, CoreRefusal}
use Rattle.comp_model.specs.CoreModules.{Index, number, named}
use Rattle.wast_tokens.specs.declared.error.Error.{Error}
use Rattle.wast_tokens.specs.declared.error.ErrorKind.TheVariants.{NoMemory}
use Rattle.core_model.specs.Items.{meant}
use Rattle.core_model.specs.Rule.{refuse, unknown}
use Rattle.core_model.proofs.Lists.{append-assoc, map-append}
use Rattle.core_names.specs.Names.{refusal}
use Rattle.core_names.specs.ModuleIds.{place_named}
use Rattle.core_checks.specs.Refusals.{by_memory, TellsOrFails}

-- a name that means something is known
pub known : (ids : List (Option Id)) (i : Index) (n : ℕ) → Some n ≡ meant ids i → unknown ids i ≡ None
known ids (number o m) n e = refl
known ids (named x) n e = ap (λ o. cond (is_some o) None (refuse core_unknown x.offset)) (sym e)

-- where nothing is broken, only memory can run out
pub memory-alone : {T : Type 0} (r : Option CoreRefusal) (result : Result T Error) → r ≡ None → IfErr result (λ e. e ≡ refusal NoMemory 0) → TellsOrFails r result
memory-alone r (Ok x) e h = e
memory-alone r (Err x) e h = by_memory h

-- one more place
pub named-place : (ids : List (Option Id)) (i : Index) (x : Id) (n : ℕ) → i ≡ named x → Some n ≡ meant ids i → place_named ids i ≡ Some n ∷ []
named-place ids i x n e h = ap (place_named ids) e ∙ ap (λ o. o ∷ []) (sym (h ∙ ap (meant ids) e))

pub one-added : {T : Type 0} (result : Result T Error) (new old : List ℕ) (n : ℕ) (ps : List (Option ℕ)) → ps ≡ Some n ∷ [] → OnOk result (new ≡ old ++ n ∷ [])
    → OnOk result ((behind : List (Option ℕ)) → map Some new ++ behind ≡ map Some old ++ (ps ++ behind))
one-added (Ok x) new old n ps d e = λ behind.
    ap (λ xs. map Some xs ++ behind) e ∙ ap (λ xs. xs ++ behind) (map-append Some old (n ∷ [])) ∙ append-assoc (map Some old) (Some n ∷ []) behind
    ∙ ap (λ qs. map Some old ++ (qs ++ behind)) (sym d)
one-added (Err x) new old n ps d e = tt

-- a turn of a loop
pub places-turn : {A : Type 0} (f : A → List (Option ℕ)) (x : A) (xs ys : List A) (new old start whole : List (Option ℕ)) → ys ≡ x ∷ xs
    → ((behind : List (Option ℕ)) → new ++ behind ≡ old ++ (f x ++ behind))
    → ((behind : List (Option ℕ)) → old ++ (flat_map f ys ++ behind) ≡ start ++ (whole ++ behind))
    → (behind : List (Option ℕ)) → new ++ (flat_map f xs ++ behind) ≡ start ++ (whole ++ behind)
places-turn f x xs ys new old start whole e turn left behind =
    turn (flat_map f xs ++ behind) ∙ ap (λ zs. old ++ zs) (sym (append-assoc (f x) (flat_map f xs) behind)) ∙ ap (λ zs. old ++ (flat_map f zs ++ behind)) (sym e)
    ∙ left behind

-- the end of a loop
pub places-end : {A B : Type 0} (f : B → List (Option ℕ)) (g : A → B) (xs : List A) (i : ℕ) (new start whole : List (Option ℕ)) → length xs ≤ i
    → ((behind : List (Option ℕ)) → new ++ (flat_map f (map g (drop i xs)) ++ behind) ≡ start ++ (whole ++ behind))
    → (behind : List (Option ℕ)) → new ++ behind ≡ start ++ (whole ++ behind)
places-end {A} f g xs i new start whole end left behind = ap (λ ys. new ++ (flat_map f (map g ys) ++ behind)) (sym (drop_all i xs end)) ∙ left behind
