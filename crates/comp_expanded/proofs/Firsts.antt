-- The first of two refusals, and of more.
use Rattle.std.proofs.Common.{◌≡◌, Option, Some, None, refl}
use Rattle.comp_scopes.specs.Names.{first_of_two}

pub first-assoc : {A : Type 0} (a b c : Option A) → first_of_two (first_of_two a b) c ≡ first_of_two a (first_of_two b c)
first-assoc None b c = refl
first-assoc (Some x) b c = refl

pub first-none : {A : Type 0} (a : Option A) → first_of_two a None ≡ a
first-none None = refl
first-none (Some x) = refl
