-- Types that are one are equal.
use Rattle.std.proofs.Common.{◌≡◌, Bool, true, false, true≢false, ◌==◌, List, [], ◌∷◌, refl, sym, ◌∙◌, ap}
use Rattle.std.proofs.lemmas.Bool.{eqb-true}
use Rattle.comp_model.specs.Core as c
use Rattle.comp_model.specs.Core.{CoreValue}
use Rattle.core_model.specs.Types.{Signature, same_bool, same_value, same_values, same_signature}
use Rattle.core_model.proofs.ResolvedFields.{and-left, and-right}

bools-equal : (a b : Bool) → same_bool a b ≡ true → a ≡ b
bools-equal true true e = refl
bools-equal true false e = sym e
bools-equal false true e = e
bools-equal false false e = refl

pub values-equal : (v w : CoreValue) → same_value v w ≡ true → v ≡ w
values-equal c.i32 c.i32 e = refl
values-equal c.i64 c.i64 e = refl
values-equal c.f32 c.f32 e = refl
values-equal c.f64 c.f64 e = refl
values-equal c.v128 c.v128 e = refl
values-equal (c.ref_func a) (c.ref_func b) e = ap c.ref_func (bools-equal a b e)
values-equal (c.ref_extern a) (c.ref_extern b) e = ap c.ref_extern (bools-equal a b e)
values-equal (c.ref_index a i) (c.ref_index b j) e =
    ap (λ x. c.ref_index x i) (bools-equal a b (and-left _ _ e)) ∙ ap (c.ref_index b) (eqb-true i j (and-right (same_bool a b) (i == j) e))
values-equal c.other_value c.other_value e = refl
values-equal _ _ e = absurd (true≢false (sym e))

lists-equal : (vs ws : List CoreValue) → same_values vs ws ≡ true → vs ≡ ws
lists-equal [] [] e = refl
lists-equal [] (w ∷ ws) e = absurd (true≢false (sym e))
lists-equal (v ∷ vs) [] e = absurd (true≢false (sym e))
lists-equal (v ∷ vs) (w ∷ ws) e =
    ap (λ x. x ∷ vs) (values-equal v w (and-left _ _ e)) ∙ ap (λ xs. w ∷ xs) (lists-equal vs ws (and-right (same_value v w) _ e))

pub signatures-equal : (s t : Signature) → same_signature s t ≡ true → s ≡ t
signatures-equal s t e =
    ap (λ ps. record { params = ps; results = s.results }) (lists-equal s.params t.params (and-left _ _ e))
    ∙ ap (λ rs. record { params = t.params; results = rs }) (lists-equal s.results t.results (and-right (same_values s.params t.params) _ e))
