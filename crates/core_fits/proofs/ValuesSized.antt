-- The sizes of value types one behind the other.
use Rattle.std.proofs.Common.{◌≡◌, ℕ, ◌+◌, ◌<◌, ◌≤◌, ◌^◌, Bool, true, false, true≢false, cond, List, [], ◌∷◌, ◌++◌, map, length, length-append, refl, sym, arith}
use Rattle.comp_model.specs.Core as core
use Rattle.comp_model.specs.Core.{CoreValue}
use Rattle.comp_model.specs.Payloads.{joined}
use Rattle.comp_wire.specs.Spelled.{core_bytes}
use Rattle.core_model.specs.Types.{Signature}
use Rattle.core_model.specs.Bytes.{counted, has_bytes, values, value, function_type_bytes}
use Rattle.core_model.proofs.Lists.{Each}
use Rattle.core_syntax.specs.Measures.{capped}
use Rattle.core_fits.specs.declared.size.Size.{Size}
use Rattle.core_fits.specs.Sizes.{IsSize}
use Rattle.core_fits.proofs.Counted.{Filled, filled-count}

abbrev pub bytes_of : List CoreValue → List (List ℕ)
bytes_of vs = map core_bytes (values vs)

pub value_first : (v : CoreValue) (vs : List CoreValue) → bytes_of (v ∷ vs) ≡ bytes_of (v ∷ []) ++ bytes_of vs
value_first v vs = go (has_bytes v)
  where
    go : (b : Bool) → map core_bytes (cond b (v ∷ values vs) (values vs)) ≡ map core_bytes (cond b (v ∷ []) []) ++ bytes_of vs
    go true = refl
    go false = refl

pub value_with : (size : Size) (v : CoreValue) → has_bytes v ≡ true → size.count ≡ 1 → size.bytes ≡ length (core_bytes v) → size.bytes < 2 ^ 64 → size.fits ≡ true → IsSize size (bytes_of (v ∷ [])) true
value_with size v e n b w f = rw e (record { count = n; bytes = let d = length-append (core_bytes v) [] in omega (arith, b, d, w); fits = f })

pub value_without : (size : Size) (v : CoreValue) → has_bytes v ≡ false → size.count ≡ 0 → size.bytes ≡ 0 → size.fits ≡ true → IsSize size (bytes_of (v ∷ [])) true
value_without size v e n b f = rw e (record { count = n; bytes = b; fits = f })

-- what has bytes has at least one

filled_reference : (b : Bool) (n : ℕ) → Filled (core_bytes (core.ref_index b n))
filled_reference true n = omega arith
filled_reference false n = omega arith

filled_value : (v : CoreValue) → has_bytes (value [] v) ≡ true → Filled (core_bytes (value [] v))
filled_value (core.ref_index b n) e = filled_reference b n
filled_value (core.ref_numeral b o n) e = filled_reference b n
filled_value (core.ref_name b r x) e = absurd (true≢false (sym e))
filled_value core.other_value e = absurd (true≢false (sym e))
filled_value (core.ref_func true) e = omega arith
filled_value (core.ref_extern true) e = omega arith
filled_value _ e = omega arith

filled_values : {A : Type 0} (g : A → CoreValue) (xs : List A) → Each Filled (bytes_of (map (λ x. value [] (g x)) xs))
filled_values g [] = tt
filled_values g (x ∷ xs) = go (has_bytes (value [] (g x))) refl (filled_values g xs)
  where
    go : (b : Bool) → has_bytes (value [] (g x)) ≡ b → Each Filled (bytes_of (map (λ y. value [] (g y)) xs))
        → Each Filled (map core_bytes (cond b (value [] (g x) ∷ values (map (λ y. value [] (g y)) xs)) (values (map (λ y. value [] (g y)) xs))))
    go true e p = (filled_value (g x) e, p)
    go false e p = p

pub few_values : {A : Type 0} (g : A → CoreValue) (xs : List A) → length (bytes_of (map (λ x. value [] (g x)) xs)) ≤ length (joined (bytes_of (map (λ x. value [] (g x)) xs)))
few_values g xs = filled-count (bytes_of (map (λ x. value [] (g x)) xs)) (filled_values g xs)

pub type_long : (s : Signature) (p r k : ℕ) → p ≡ capped (length (counted (bytes_of s.params))) → r ≡ capped (length (counted (bytes_of s.results))) → k ≡ capped (1 + capped (p + r)) → k ≡ capped (length (function_type_bytes s))
type_long s p r k a b e = let d = length-append (counted (bytes_of s.params)) (counted (bytes_of s.results)) in omega (arith, a, b, e, d)
