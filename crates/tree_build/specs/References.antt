-- Leaves that are references, kinds or numbers.
use Rattle.std.specs.Prelude.{ℕ, Bool, false, nat_eq, Option, Some, None}
use Rattle.comp_model.specs.declared.Space.{Space}
use Rattle.comp_model.specs.Model as m

-- what a reference names
abbrev pub target_in : m.Leaf → Option m.Target
target_in (m.ref u t) = Some t
target_in x = None

abbrev pub kind_in : m.Leaf → Option Space
kind_in (m.kind k) = Some k
kind_in x = None

-- whether it is this number
abbrev pub is_number : ℕ → m.Leaf → Bool
is_number k (m.number n) = nat_eq n k
is_number k x = false
