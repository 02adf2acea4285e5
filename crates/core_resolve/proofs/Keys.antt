-- Two keys compare as equal where the signatures are one.
use Rattle.std.proofs.Common.{◌≡◌, Bool, true, false, List, [], ◌∷◌, map, refl}
use Rattle.std.specs.declared.cmp.Ordering.{Ordering}
use Rattle.std.specs.Ordering.{is_eq, nat_cmp, bool_cmp}
use Rattle.std.specs.Cmp.Lexicographic.{slice_cmp}
use Rattle.core_model.specs.Types.{same_bool, same_value, same_values, same_signature}
use Rattle.name_ends.proofs.Keys.{then-equal, numbers-equal}
use Rattle.core_names.specs.declared.resolved.ResolvedType.{ResolvedType}
use Rattle.core_names.specs.declared.resolved.ResolvedType.TheVariants.{I32, I64, F32, F64, V128, Func, Extern, Concrete, Other}
use Rattle.core_resolve.specs.declared.signature.Signature.{Signature}
use Rattle.core_names.specs.contracts.resolved.ResolvedTypeOrd.TheImpl as value_ord
use Rattle.core_names.specs.ResolvedTypes.{value}
use Rattle.core_resolve.specs.Signatures.{signature}
use Rattle.core_resolve.specs.Order.{order}

abbrev value_order : ResolvedType → ResolvedType → Ordering
value_order = (value_ord.ghosts).cmp

bools : (a b : Bool) → is_eq (bool_cmp a b) ≡ same_bool a b
bools true true = refl
bools true false = refl
bools false true = refl
bools false false = refl

values : (v w : ResolvedType) → is_eq (value_order v w) ≡ same_value (value v) (value w)
values I32 I32 = refl
values I64 I64 = refl
values F32 F32 = refl
values F64 F64 = refl
values V128 V128 = refl
values Other Other = refl
values (Func a) (Func b) = bools a b
values (Extern a) (Extern b) = bools a b
values (Concrete a i) (Concrete b j) = then-equal (bool_cmp a b) (nat_cmp i j) _ _ (bools a b) (numbers-equal i j)
values _ _ = refl

lists : (vs ws : List ResolvedType) → is_eq (slice_cmp value_order vs ws) ≡ same_values (map value vs) (map value ws)
lists [] [] = refl
lists [] (w ∷ ws) = refl
lists (v ∷ vs) [] = refl
lists (v ∷ vs) (w ∷ ws) = then-equal (value_order v w) (slice_cmp value_order vs ws) _ _ (values v w) (lists vs ws)

pub order-same : (s t : Signature) → is_eq (order s t) ≡ same_signature (signature s) (signature t)
order-same s t = then-equal (slice_cmp value_order s.params.items t.params.items) (slice_cmp value_order s.results.items t.results.items) _ _ (lists s.params.items t.params.items) (lists s.results.items t.results.items)
