-- A number of some bits, read as one with a sign, has the same bits.
use Rattle.std.proofs.Common.{◌≡◌, ℕ, ◌<◌, ◌^◌}
use Rattle.std.specs.Int.{w32, w64, cast_unsigned, cast_signed}
use Rattle.std.proofs.lemmas.Int.{of_z-to_z}

pub same_bits_32 : (n : ℕ) → n < 2 ^ 32 → cast_unsigned w32 (cast_signed w32 n) ≡ n
same_bits_32 n h = of_z-to_z w32 n h

pub same_bits_64 : (n : ℕ) → n < 2 ^ 64 → cast_unsigned w64 (cast_signed w64 n) ≡ n
same_bits_64 n h = of_z-to_z w64 n h
