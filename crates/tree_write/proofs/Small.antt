-- Numbers that stand in one byte.
use Rattle.std.proofs.Common.{◌≡◌, ℕ, ◌<◌, inl, inr, arith, subst}
use Rattle.comp_model.specs.Model.{number}
use Rattle.comp_wire.specs.Spelled.{IsPrimitive, FitsLeaf}
use Rattle.byte_table.specs.Lines.{field_of}
use Rattle.byte_table.specs.declared.line.Field.{Field}
use Rattle.byte_table.specs.declared.line.Field.TheVariants as field
use Rattle.tree_write.specs.Wire.{Asked}

primitive_small : (n : ℕ) → IsPrimitive n → n < 256
primitive_small n (inl e) = omega (arith, e)
primitive_small n (inr h) = omega (arith, h.1)

pub small_primitive : (f : Field) (n : ℕ) → Asked (field_of f) (FitsLeaf (number n) (field_of f)) → f ≡ field.PrimitiveByte → n < 256
small_primitive f n h e = primitive_small n (subst (λ x. Asked (field_of x) (FitsLeaf (number n) (field_of x))) e h)

pub small_value : (f : Field) (n : ℕ) → Asked (field_of f) (FitsLeaf (number n) (field_of f)) → f ≡ field.Value → n < 256
small_value f n h e = primitive_small n (subst (λ x. Asked (field_of x) (FitsLeaf (number n) (field_of x))) e h)

pub small_flag : (f : Field) (n : ℕ) → Asked (field_of f) (FitsLeaf (number n) (field_of f)) → f ≡ field.Flag → n < 256
small_flag f n h e = let k : n < 2 = subst (λ x. Asked (field_of x) (FitsLeaf (number n) (field_of x))) e h in omega (arith, k)
