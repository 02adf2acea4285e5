-- An inline type to which no earlier one is equal, among the types that were passed.
use Rattle.std.proofs.Common.{◌≡◌, ℕ, suc, ◌+◌, Bool, true, false, ◌&&◌, cond, List, [], ◌∷◌, ◌++◌, length, is_some, Option, Some, None, option_map, refl, sym, ◌∙◌, ap, subst, arith}
use Rattle.comp_model.specs.declared.row.Row.{Row}
use Rattle.comp_model.specs.RowNumbers.{same_row}
use Rattle.comp_model.specs.Core.{Id}
use Rattle.comp_model.specs.Model.{Leaves}
use Rattle.comp_model.specs.Origins.{Origin, inline_type, written}
use Rattle.comp_scopes.specs.Reused.{is_shared, same_leaves, Typed}
use Rattle.type_keys.specs.Keys.{part_end, first_equal, stands_for, type_key, LeavesPassed}
use Rattle.type_keys.specs.declared.key.TypeKey.{TypeKey}
use Rattle.type_keys.proofs.Agree.{keys-agree}
use Rattle.tree_expand.specs.KeyParts.{begun_parts, leaves_parts, KeyShows}
use Rattle.tree_expand.specs.Passed.{Noted, types_in}
use Rattle.tree_expand.specs.Numbering.{noted_inline, noted_written}
use Rattle.tree_expand.specs.Known.{Shows}
use Rattle.tree_expand.specs.declared.known.Known.{Known}
use Rattle.tree_expand.proofs.KeyLists.{not_true, types_app, some_key}
use Rattle.tree_expand.proofs.KeyWhole.{type_whole}
use Rattle.tree_expand.proofs.Passing.{some_none, shared_stands}

first-last : (t : Row) (ls : Leaves) (o : Origin) (xs : List Typed) → first_equal t ls xs ≡ None → first_equal t ls (xs ++ record { origin = o; tag = t; leaves = ls } ∷ []) ≡ cond (same_row t t && same_leaves ls ls) (Some (length xs)) None
first-last t ls o [] e = refl
first-last t ls o (x ∷ xs) e = go (same_row t x.tag && same_leaves ls x.leaves) e (first-last t ls o xs)
  where
    none : (v : Option ℕ) → option_map (λ n. n + 1) v ≡ None → v ≡ None
    none None e = refl
    none (Some n) e = some_none (n + 1) e

    up : (b : Bool) → option_map (λ n. n + 1) (cond b (Some (length xs)) None) ≡ cond b (Some (suc (length xs))) None
    up true = let z : length xs + 1 ≡ suc (length xs) = omega arith in ap Some z
    up false = refl

    go : (b : Bool) → cond b (Some 0) (option_map (λ n. n + 1) (first_equal t ls xs)) ≡ None → (first_equal t ls xs ≡ None → first_equal t ls (xs ++ record { origin = o; tag = t; leaves = ls } ∷ []) ≡ cond (same_row t t && same_leaves ls ls) (Some (length xs)) None)
        → cond b (Some 0) (option_map (λ n. n + 1) (first_equal t ls (xs ++ record { origin = o; tag = t; leaves = ls } ∷ []))) ≡ cond (same_row t t && same_leaves ls ls) (Some (suc (length xs))) None
    go true e f = some_none 0 e
    go false e f = ap (option_map (λ n. n + 1)) (f (none (first_equal t ls xs) e)) ∙ up (same_row t t && same_leaves ls ls)

types-long : (xs : List Noted) → length (types_in xs) ≡ length xs
types-long [] = refl
types-long (x ∷ xs) = ap suc (types-long xs)

own-stands : (xs : List Noted) (k u : ℕ) (t : Row) (ls : Leaves) (id : Id) → is_shared t ≡ true → first_equal t ls (types_in xs) ≡ None
    → stands_for (types_in (xs ++ noted_inline k u t ls id)) t ls ≡ cond (same_row t t && same_leaves ls ls) (Some (length xs)) None
own-stands xs k u t ls id h e =
    ap (λ b. stands_for (types_in (xs ++ cond b (record { typed = record { origin = inline_type k u; tag = t; leaves = ls }; id = Some id } ∷ []) [])) t ls) h
    ∙ shared_stands (types_in (xs ++ record { typed = record { origin = inline_type k u; tag = t; leaves = ls }; id = Some id } ∷ [])) t ls h
    ∙ ap (first_equal t ls) (types_app xs (record { typed = record { origin = inline_type k u; tag = t; leaves = ls }; id = Some id } ∷ []))
    ∙ first-last t ls (inline_type k u) (types_in xs) e
    ∙ ap (λ n. cond (same_row t t && same_leaves ls ls) (Some n) None) (types-long xs)

equal-by-key : (key : Option TypeKey) (xs : List Typed) (t : Row) (ls : Leaves) → KeyShows key (type_key xs t ls) → LeavesPassed xs ls → is_some key ≡ (same_row t t && same_leaves ls ls)
equal-by-key None xs t ls k p = sym k ∙ keys-agree xs t t ls ls p p
equal-by-key (Some q) xs t ls k p = sym (some_key q (type_key xs t ls) k) ∙ keys-agree xs t t ls ls p p

pub own_number : (key : Option TypeKey) (xs : List Noted) (k u n : ℕ) (t : Row) (ls : Leaves) (id : Id) → is_some key ≡ true → is_shared t ≡ true → KeyShows key (type_key (types_in xs) t ls) → LeavesPassed (types_in xs) ls → first_equal t ls (types_in xs) ≡ None → n ≡ length xs
    → Some n ≡ stands_for (types_in (xs ++ noted_inline k u t ls id)) t ls
own_number key xs k u n t ls id i h s p e f =
    ap Some f ∙ ap (λ b. cond b (Some (length xs)) None) (sym (sym (equal-by-key key (types_in xs) t ls s p) ∙ i)) ∙ sym (own-stands xs k u t ls id h e)

pub own_none : (key : Option TypeKey) (xs : List Noted) (k u : ℕ) (t : Row) (ls : Leaves) (id : Id) → is_some key ≡ false → is_shared t ≡ true → KeyShows key (type_key (types_in xs) t ls) → LeavesPassed (types_in xs) ls → first_equal t ls (types_in xs) ≡ None
    → None ≡ stands_for (types_in (xs ++ noted_inline k u t ls id)) t ls
own_none key xs k u t ls id i h s p e =
    ap (λ b. cond b (Some (length xs)) None) (sym (sym (equal-by-key key (types_in xs) t ls s p) ∙ i)) ∙ sym (own-stands xs k u t ls id h e)

pub first_none : (xs : List Typed) (t : Row) (ls : Leaves) → is_shared t ≡ true → stands_for xs t ls ≡ None → first_equal t ls xs ≡ None
first_none xs t ls h e = sym (shared_stands xs t ls h) ∙ e

-- the key that is to be looked up
pub whole_shows : (key : Option TypeKey) (xs : List Typed) (t : Row) (ls : Leaves) → is_shared t ≡ true → KeyShows key ((begun_parts true t ++ leaves_parts xs ls) ++ part_end ∷ []) → KeyShows key (type_key xs t ls)
whole_shows key xs t ls h s = subst (KeyShows key) (type_whole xs t ls h) s

pub noted_shared : (a : Known) (xs : List Noted) (k u : ℕ) (t : Row) (ls : Leaves) (id : Id) → is_shared t ≡ true → Shows a (xs ++ record { typed = record { origin = inline_type k u; tag = t; leaves = ls }; id = Some id } ∷ []) → Shows a (xs ++ noted_inline k u t ls id)
noted_shared a xs k u t ls id h s = subst (λ b. Shows a (xs ++ cond b (record { typed = record { origin = inline_type k u; tag = t; leaves = ls }; id = Some id } ∷ []) [])) (sym h) s

pub written_shared : (a : Known) (xs : List Noted) (b : Bool) (k : ℕ) (t : Row) (ls : Leaves) (y : Option Id) → b ≡ true → is_shared t ≡ true → Shows a (xs ++ record { typed = record { origin = written k; tag = t; leaves = ls }; id = y } ∷ []) → Shows a (xs ++ noted_written b k t ls y)
written_shared a xs true k t ls y e h s = subst (λ b. Shows a (xs ++ cond b (record { typed = record { origin = written k; tag = t; leaves = ls }; id = y } ∷ []) [])) (sym h) s
written_shared a xs false k t ls y e h s = not_true e
