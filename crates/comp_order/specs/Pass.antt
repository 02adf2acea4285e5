-- Verdicts one after the other, as code passes them.
use Rattle.std.specs.Prelude.{ℕ, ◌+◌, List, [], ◌∷◌, Result, Ok, Err}
use Rattle.comp_order.specs.declared.verdict.Verdict.{Verdict}
use Rattle.comp_order.specs.declared.verdict.Verdict.TheVariants.{InOrder, Early, OutOfRange}
use Rattle.comp_order.specs.declared.verdict.Order.{Order}
use Rattle.comp_order.specs.declared.verdict.Order.TheVariants.{Ordered, Index, Outer}
use Rattle.comp_order.specs.Counts.{capped}

-- from the number of the first of these lines to that behind the last, or to the first that isn't in order
abbrev pub pass : ℕ → List Verdict → Result ℕ Order
pass n [] = Ok n
pass n (InOrder ∷ vs) = pass (capped (n + 1)) vs
pass n (Early ∷ vs) = Err (Index n)
pass n (OutOfRange ∷ vs) = Err (Outer n)

-- an order of which every number from 2 ^ 64 on is the greatest of 64 bits
abbrev pub capped_order : Order → Order
capped_order Ordered = Ordered
capped_order (Index n) = Index (capped n)
capped_order (Outer n) = Outer (capped n)
