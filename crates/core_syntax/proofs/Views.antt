-- What the views of values tell.
use Rattle.std.proofs.Common.{◌≡◌, ℕ, true, nat_eq, eq-eqb, refl}

pub same_offset : (n : ℕ) → nat_eq n n ≡ true
same_offset n = eq-eqb n n refl
