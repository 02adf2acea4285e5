-- What bytes are read as, or why they aren't.
use Rattle.std.specs.Prelude.{◌≡◌, ℕ, ◌≤◌, ◌<◌, List, length, Result, MatchResult}
use Rattle.comp_model.specs.Model as m
use Rattle.comp_wire.specs.Read.{Reads}
use Rattle.wire_tree.specs.Model.{scope_of}
use Rattle.wire_tree.specs.declared.tree.Scope as s
use Rattle.wire_read.specs.Within.{WithinScope}
use Rattle.wire_read.specs.Depth.{BeginsInside}
use Rattle.wire_read.specs.declared.read.ReadKind.{ReadKind}
use Rattle.wire_read.specs.declared.read.ReadKind.TheVariants as kind
use Rattle.wire_read.specs.declared.read.ReadError.{ReadError}

abbrev pub bytes_limit : ℕ
bytes_limit = 8388608

-- No scope of the component is inside 100 others: at most 99 stand in each other in the outermost.
abbrev pub IsShallow : m.Scope → Type 0
IsShallow b = WithinScope b 99

-- What each refusal says of the bytes: that they are too many; that they are read as no component; that a scope inside 100 others begins at
-- the offset, and that they are read as no component without such a scope.
abbrev pub RefusedAs : List ℕ → ReadKind → ℕ → Type 0
RefusedAs bytes (kind.TooBig found limit) offset = (found ≡ length bytes) × (limit ≡ bytes_limit) × (bytes_limit < length bytes) × (offset ≡ 0)
RefusedAs bytes kind.NotComponent offset = (length bytes ≤ bytes_limit) × ((b : m.Scope) → Reads bytes b → ⊥)
RefusedAs bytes kind.TooDeep offset = (length bytes ≤ bytes_limit) × ((b : m.Scope) → Reads bytes b → IsShallow b → ⊥) × BeginsInside 100 bytes offset
RefusedAs bytes kind.NoMemory offset = length bytes ≤ bytes_limit

-- The tree stands for the component that the bytes, within the limit, are read as, in which no scope is inside 100 others; or there is no
-- such component, and the refusal says why.
abbrev pub ReadAnswer : List ℕ → Result s.Scope ReadError → Type 0
ReadAnswer bytes r =
    MatchResult r (λ x. (length bytes ≤ bytes_limit) × Reads bytes (scope_of x) × IsShallow (scope_of x)) (λ e. RefusedAs bytes e.kind e.offset)
