-- The ids of cases that were seen.
use Rattle.std.proofs.Common.{◌≡◌, Bool, true, false, ◌&&◌, cond, is_some, ℕ, ◌+◌, ◌-◌, ◌<◌, refl, sym, ap, ◌∙◌, subst, List, ◌∷◌, ◌++◌, length, drop, Option, Some, None, option_map, arith, rules}
use Rattle.std.specs.Prelude.{get_or}
use Rattle.std.proofs.lemmas.List.{drop_more}
use Rattle.comp_model.specs.declared.Space.{Space}
use Rattle.comp_model.specs.declared.Space.TheVariants.{Ty}
use Rattle.comp_model.specs.Spaces.{same_space}
use Rattle.comp_model.specs.Core as core
use Rattle.comp_model.specs.Core.{same_id}
use Rattle.comp_model.specs.CoreModules.{CoreModule}
use Rattle.comp_model.specs.Model as m
use Rattle.comp_model.specs.Model.{◌▸◌}
use Rattle.comp_scopes.specs.Rule.{case_ids, is_among}
use Rattle.comp_scopes.specs.Unmet.{unmet, duplicate, unmet_cases}
use Rattle.wast_parser.specs.declared.index.Id as spelled
use Rattle.wast_tokens.specs.declared.error.ErrorKind.TheVariants.{Duplicate}
use Rattle.comp_tree.specs.declared.tree.Leaf.{Leaf}
use Rattle.comp_tree.specs.Lists.{listed}
use Rattle.comp_tree.specs.Model.{leaf_of, core_at}
use Rattle.open_scopes.specs.declared.registry.Item.{Item}
use Rattle.open_scopes.specs.declared.registry.Registry.{Registry}
use Rattle.open_scopes.specs.Registered.{found_in}
use Rattle.open_scopes.specs.Refusals.{refusal, refusal_of}
use Rattle.tree_names.specs.Cases.{CasesHold, id_before}
use Rattle.tree_names.proofs.CoreLeaves.{by_core}

pub core_case : (C : List CoreModule) (n : ℕ) (l : m.Leaf) (ls : m.Leaves) → l ≡ core_at C n → case_ids (l ▸ ls) ≡ case_ids ls
core_case C n l ls h = ap (λ z. case_ids (z ▸ ls)) h ∙ by_core (λ k. case_ids (k ▸ ls) ≡ case_ids ls) refl (λ c. refl) C n

pub id_new : (earlier xs : List core.Id) (x : core.Id) → is_among earlier x ≡ false → unmet_cases earlier (x ∷ xs) ≡ unmet_cases earlier xs
id_new earlier xs x h = ap (λ b. cond b (unmet duplicate x.offset) (unmet_cases earlier xs)) h

pub id_again : (earlier xs : List core.Id) (x : core.Id) (o : ℕ) → is_among earlier x ≡ true → o ≡ x.offset → option_map refusal_of (unmet_cases earlier (x ∷ xs)) ≡ Some (refusal Duplicate o)
id_again earlier xs x o h e = ap (λ b. option_map refusal_of (cond b (unmet duplicate x.offset) (unmet_cases earlier xs))) h ∙ ap (λ (z : ℕ). Some (refusal Duplicate z)) (sym e)

kept_or : (b : Bool) (i : Item) (o : Option Item) (y x : core.Id) (ys : List core.Id) → same_id x y ≡ b → is_some o ≡ is_among ys x → is_some (cond b (Some i) o) ≡ is_among (y ∷ ys) x
kept_or true i o y x ys h k = search (rules, h, k)
kept_or false i o y x ys h k = search (rules, h, k)

-- one more is kept
pub id_kept : (old new : Registry) (y : core.Id) (i : Item) (ys : List core.Id) → CasesHold old ys → ((s : Space) (x : core.Id) → found_in new s x ≡ cond (same_space s Ty && same_id x y) (Some i) (found_in old s x)) → CasesHold new (y ∷ ys)
id_kept old new y i ys h put x = ap is_some (put Ty x) ∙ kept_or (same_id x y) i (found_in old Ty x) y x ys refl (h x)

before_append : (i : Option spelled.Id) (xs ys : List core.Id) → id_before i (xs ++ ys) ≡ id_before i xs ++ ys
before_append None xs ys = refl
before_append (Some x) xs ys = refl

-- one leaf more, from the end
pub kept_more : (s : Registry) (C : List CoreModule) (xs : List Leaf) (n i : ℕ) (y : Leaf) (o : Option spelled.Id) (earlier : List core.Id) → n < length xs → i ≡ (length xs - 1) - n → y ≡ get_or xs i y
    → ((C : List CoreModule) (ls : m.Leaves) → case_ids (leaf_of C y ▸ ls) ≡ id_before o (case_ids ls))
    → CasesHold s (id_before o (case_ids (listed C (drop (length xs - n) xs)) ++ earlier)) → CasesHold s (case_ids (listed C (drop (length xs - (n + 1)) xs)) ++ earlier)
kept_more s C xs n i y o earlier h e q k g =
    let j : length xs - (n + 1) ≡ i = omega (arith, h, e) in
    let b : length xs - n ≡ i + 1 = omega (arith, h, e) in
    let r : case_ids (listed C (drop (length xs - (n + 1)) xs)) ++ earlier ≡ id_before o (case_ids (listed C (drop (length xs - n) xs)) ++ earlier) =
    ap (λ (z : ℕ). case_ids (listed C (drop z xs)) ++ earlier) j ∙ ap (λ z. case_ids (listed C z) ++ earlier) (drop_more xs i y (omega (arith, h, e)))
    ∙ ap (λ z. case_ids (leaf_of C z ▸ listed C (drop (i + 1) xs)) ++ earlier) (sym q)
    ∙ ap (λ z. z ++ earlier) (k C (listed C (drop (i + 1) xs))) ∙ sym (before_append o (case_ids (listed C (drop (i + 1) xs))) earlier)
    ∙ ap (λ (z : ℕ). id_before o (case_ids (listed C (drop z xs)) ++ earlier)) (sym b) in
    subst (λ zs. CasesHold s zs) (sym r) g
