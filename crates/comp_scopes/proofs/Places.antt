-- Where planned definitions stand in the list of a form.
use Rattle.std.proofs.Common.{◌≡◌, ℕ, zero, suc, ◌+◌, List, [], ◌∷◌, ◌++◌, length, slice_get, Some, refl, subst, arith}
use Rattle.std.proofs.lemmas.List.{length-append}
use Rattle.comp_model.specs.Model.{Leaves}
use Rattle.comp_scopes.specs.Form.{Made, Formed}
use Rattle.comp_scopes.specs.Renders.{AllMade}
use Rattle.comp_scopes.proofs.Lookup.{Sits}

-- ms stand in w from b on
abbrev pub At : List Made → ℕ → List Made → Type 0
At w b [] = Unit {0}
At w b (m ∷ ms) = (slice_get w b ≡ Some m) × At w (b + 1) ms

pub at-left : (w : List Made) (b : ℕ) (xs ys : List Made) → At w b (xs ++ ys) → At w b xs
at-left w b [] ys h = tt
at-left w b (x ∷ xs) ys h = (h.0, at-left w (b + 1) xs ys h.1)

pub at-right : (w : List Made) (b : ℕ) (xs ys : List Made) → At w b (xs ++ ys) → At w (b + length xs) ys
at-right w b [] ys h = let z : b ≡ b + zero = omega arith in subst (λ n. At w n ys) z h
at-right w b (x ∷ xs) ys h = let z : b + 1 + length xs ≡ b + suc (length xs) = omega arith in subst (λ n. At w n ys) z (at-right w (b + 1) xs ys h.1)

at-more : (n : Made) (w : List Made) (b : ℕ) (xs : List Made) → At w b xs → At (n ∷ w) (suc b) xs
at-more n w b [] h = tt
at-more n w b (x ∷ xs) h = let z : suc (b + 1) ≡ suc b + 1 = omega arith in (h.0, subst (λ v. At (n ∷ w) v xs) z (at-more n w (b + 1) xs h.1))

pub at-self : (w : List Made) → At w 0 w
at-self [] = tt
at-self (n ∷ w) = let z : suc 0 ≡ 0 + 1 = omega arith in (refl, subst (λ v. At (n ∷ w) v w) z (at-more n w 0 w (at-self w)))

pub at-sits : (w : List Made) (b : ℕ) (xs : List Made) → At w b xs → AllMade (Sits w) xs
at-sits w b [] h = tt
at-sits w b (x ∷ xs) h = ((b, h.0), at-sits w (b + 1) xs h.1)

-- the inline nodes from i on, the bundles from j on, the needs from n on
abbrev pub Stand : List Made → ℕ → ℕ → ℕ → {H : Type 0} → Formed H → Type 0
Stand w i j n a = At w i a.inlined × At w j a.bundles × At w n a.needed

-- ends in a list of two parts
pub end-both : (b : ℕ) (xs ys : List Made) → b + length (xs ++ ys) ≡ b + length xs + length ys
end-both b xs ys = omega (arith, length-append xs ys)

-- bundles, needs and the definition's own, from b on
abbrev pub LastAt : List Made → ℕ → Formed Leaves → Made → Type 0
LastAt w b a m = At w b a.bundles × At w (b + length a.bundles) a.needed × (slice_get w (b + length a.bundles + length a.needed) ≡ Some m) × (b + length a.bundles + length a.needed + 1 ≡ b + length (a.bundles ++ (a.needed ++ m ∷ [])))

pub last-at : (w : List Made) (b : ℕ) (a : Formed Leaves) (m : Made) → At w b (a.bundles ++ (a.needed ++ m ∷ [])) → LastAt w b a m
last-at w b a m y =
    let r : At w (b + length a.bundles) (a.needed ++ m ∷ []) = at-right w b a.bundles (a.needed ++ m ∷ []) y in
    let o : At w (b + length a.bundles + length a.needed) (m ∷ []) = at-right w (b + length a.bundles) a.needed (m ∷ []) r in
    let e : length (a.bundles ++ (a.needed ++ m ∷ [])) ≡ length a.bundles + length (a.needed ++ m ∷ []) = length-append a.bundles (a.needed ++ m ∷ []) in
    let f : length (a.needed ++ m ∷ []) ≡ length a.needed + 1 = length-append a.needed (m ∷ []) in
    (at-left w b a.bundles (a.needed ++ m ∷ []) y, at-left w (b + length a.bundles) a.needed (m ∷ []) r, o.0, omega (arith, e, f))

-- the inline nodes in front of these
abbrev pub OneAt : List Made → ℕ → Formed Leaves → Made → Type 0
OneAt w b a m = At w b a.inlined × LastAt w (b + length a.inlined) a m × (b + length a.inlined + length (a.bundles ++ (a.needed ++ m ∷ [])) ≡ b + length (a.inlined ++ (a.bundles ++ (a.needed ++ m ∷ []))))

pub one-at : (w : List Made) (b : ℕ) (a : Formed Leaves) (m : Made) → At w b (a.inlined ++ (a.bundles ++ (a.needed ++ m ∷ []))) → OneAt w b a m
one-at w b a m y =
    let e : length (a.inlined ++ (a.bundles ++ (a.needed ++ m ∷ []))) ≡ length a.inlined + length (a.bundles ++ (a.needed ++ m ∷ [])) = length-append a.inlined (a.bundles ++ (a.needed ++ m ∷ [])) in (
      at-left w b a.inlined (a.bundles ++ (a.needed ++ m ∷ [])) y,
      last-at w (b + length a.inlined) a m (at-right w b a.inlined (a.bundles ++ (a.needed ++ m ∷ [])) y),
      omega (arith, e),
    )
