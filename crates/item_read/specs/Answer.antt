-- What bytes are read as, or why they aren't.
use Rattle.std.specs.Prelude.{ℕ, ◌≤◌, List, length, Result, MatchResult}
use Rattle.comp_wire.specs.Read.{Reads}
use Rattle.wire_read.specs.Answer.{bytes_limit, IsShallow, RefusedAs}
use Rattle.wire_read.specs.declared.read.ReadError.{ReadError}
use Rattle.item_tree.specs.declared.tree.Tree.{Tree}
use Rattle.item_tree.specs.Model.{component_of}

-- The tree stands for the component that the bytes, within the limit, are read as, in which no scope is inside 100 others; or there is no
-- such component, and the refusal says why.
abbrev pub TreeAnswer : List ℕ → Result Tree ReadError → Type 0
TreeAnswer bytes r =
    MatchResult r (λ t. (length bytes ≤ bytes_limit) × Reads bytes (component_of t) × IsShallow (component_of t)) (λ e. RefusedAs bytes e.kind e.offset)
