-- The places of types, as a map from signatures keeps them.
use Rattle.std.proofs.Common.{◌≡◌, ℕ, suc, Bool, true, false, cond, List, [], ◌∷◌, ◌++◌, length, Option, Some, None, option_map, is_some, refl, sym, ◌∙◌, ap, true≢false}
use Rattle.std.specs.Ordering.{is_eq}
use Rattle.core_model.specs.Types.{Signature, same_signature, is_type, type_place}
use Rattle.core_names.proofs.Places.{or_last, one-last, more-last, none-last}
use Rattle.core_names.proofs.SameTypes.{signatures-equal}
use Rattle.core_resolve.specs.declared.signature.Signature.{Signature as Key}
use Rattle.core_resolve.specs.Signatures.{signature}
use Rattle.core_resolve.specs.Order.{order}
use Rattle.core_resolve.proofs.Keys.{order-same}

-- ---- one more type

place-push : (s : Signature) (ts : List (Option Signature)) (t : Option Signature) → type_place s (ts ++ t ∷ []) ≡ or_last (type_place s ts) (is_type s t) (length ts)
place-push s [] t = one-last (is_type s t)
place-push s (u ∷ ts) t = ap (λ r. cond (is_type s u) (Some 0) (option_map suc r)) (place-push s ts t) ∙ more-last (is_type s u) (type_place s ts) (is_type s t) (length ts)

-- one that is no function type has no part in it
pub place-other : (q : Signature) (ts : List (Option Signature)) → type_place q (ts ++ None ∷ []) ≡ type_place q ts
place-other q ts = place-push q ts None ∙ none-last (type_place q ts) (length ts)

-- nor has one that is there already
pub place-again : (q s : Signature) (ts : List (Option Signature)) → is_some (type_place s ts) ≡ true → type_place q (ts ++ Some s ∷ []) ≡ type_place q ts
place-again q s ts there = place-push q ts (Some s) ∙ go (same_signature q s) refl
  where
    first : (o : Option ℕ) (b : Bool) → is_some o ≡ true → or_last o b (length ts) ≡ o
    first (Some i) b e = refl
    first None b e = absurd (true≢false (sym e))

    go : (b : Bool) → same_signature q s ≡ b → or_last (type_place q ts) b (length ts) ≡ type_place q ts
    go false e = none-last (type_place q ts) (length ts)
    go true e = first (type_place q ts) true (ap (λ t. is_some (type_place t ts)) (signatures-equal q s e) ∙ there)

-- a new one is the last
pub place-new : (q s : Signature) (ts : List (Option Signature)) → type_place s ts ≡ None → type_place q (ts ++ Some s ∷ []) ≡ cond (same_signature s q) (Some (length ts)) (type_place q ts)
place-new q s ts absent = place-push q ts (Some s) ∙ go (same_signature q s) (same_signature s q) refl refl
  where
    go : (a b : Bool) → same_signature q s ≡ a → same_signature s q ≡ b → or_last (type_place q ts) a (length ts) ≡ cond b (Some (length ts)) (type_place q ts)
    go true true e d = ap (λ o. or_last o true (length ts)) (ap (λ t. type_place t ts) (signatures-equal q s e) ∙ absent)
    go false false e d = none-last (type_place q ts) (length ts)
    go true false e d =
        let same : q ≡ s = signatures-equal q s e in
        absurd (true≢false (sym e ∙ ap (λ t. same_signature t s) same ∙ ap (λ t. same_signature s t) (sym same) ∙ d))
    go false true e d =
        let same : s ≡ q = signatures-equal s q d in
        absurd (true≢false (sym d ∙ ap (λ t. same_signature t q) same ∙ ap (λ t. same_signature q t) (sym same) ∙ e))

-- A map of places to which a new signature is added with the next place.
pub places-push : (before after : Key → Option ℕ) (k : Key) (s : Signature) (ts : List (Option Signature)) → signature k ≡ s
    → ((q : Key) → before q ≡ type_place (signature q) ts)
    → type_place s ts ≡ None
    → (n : ℕ) → n ≡ length ts
    → ((q : Key) → after q ≡ cond (is_eq (order k q)) (Some n) (before q))
    → (q : Key) → after q ≡ type_place (signature q) (ts ++ Some s ∷ [])
places-push before after k s ts shown was absent n last put q =
    put q ∙ ap (λ b. cond b (Some n) (before q)) (order-same k q ∙ ap (λ t. same_signature t (signature q)) shown)
    ∙ ap (λ m. cond (same_signature s (signature q)) (Some m) (before q)) last
    ∙ ap (λ o. cond (same_signature s (signature q)) (Some (length ts)) o) (was q) ∙ sym (place-new (signature q) s ts absent)
