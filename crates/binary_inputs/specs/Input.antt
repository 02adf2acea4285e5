-- An input that has the binary of a component, and what is told of it.
use Rattle.std.specs.Prelude.{◌≡◌, ◌-◌, ◌≤◌, ◌==◌, ℕ, List, length, take, cond, slice_index, codes, Bool, true, false, Option, Some, None, Ok, Err, string_bytes}
use Rattle.hex.specs.Hex.{decode_of}
use Rattle.hex.specs.declared.error.FromHexError.TheVariants.{InvalidHexCharacter, OddLength}
use Rattle.comp_model.specs.Model.{Scope}
use Rattle.comp_wire.specs.Read.{Reads}
use Rattle.wire_read.specs.Answer.{bytes_limit, IsShallow, RefusedAs}
use Rattle.wire_read.specs.declared.read.ReadError.{ReadError}
use Rattle.wire_read.specs.declared.read.ReadKind.{ReadKind}
use Rattle.wire_read.specs.declared.read.ReadKind.TheVariants as kind
use Rattle.wast_refusals.specs.Line.{refusal_line}
use Rattle.binary_inputs.specs.declared.source.HexRefusal.{HexRefusal}
use Rattle.binary_inputs.specs.declared.source.HexRefusal.TheVariants.{At, NoMemory}
use Rattle.binary_inputs.specs.declared.told.Told.{Told}
use Rattle.binary_inputs.specs.declared.told.Told.TheVariants.{Output, Refusal}

-- the name of a kind; want of memory has none, since it says nothing of the bytes
abbrev pub read_kind_name : ReadKind → Option (List ℕ)
read_kind_name (kind.TooBig found limit) = Some (codes "Read-TooBig")
read_kind_name kind.NotComponent = Some (codes "Read-NotComponent")
read_kind_name kind.TooDeep = Some (codes "Read-TooDeep")
read_kind_name kind.NoMemory = None

-- an input without one line feed at its end
abbrev pub digits_of : List ℕ → List ℕ
digits_of input = cond (slice_index input (length input - 1) == 10) (take (length input - 1) input) input

-- where digits aren't hexadecimal: at their end where they are an odd number, else at the first that is none
pub data HexRefuses (digits : List ℕ) : ℕ → Type 0 where
  odd : decode_of digits ≡ Err OddLength → HexRefuses digits (length digits)
  bad_digit : (c i : ℕ) → decode_of digits ≡ Err (InvalidHexCharacter c i) → HexRefuses digits i

abbrev pub IsHexRefusal : List ℕ → HexRefusal → Type 0
IsHexRefusal digits (At offset) = HexRefuses digits offset
IsHexRefusal digits NoMemory = Unit {0}

-- the bytes of a binary that an input has, as they are or in hexadecimal
pub data HasBinary (input : List ℕ) : Bool → List ℕ → Type 0 where
  raw : HasBinary input true input
  in_digits : (bytes : List ℕ) → decode_of (digits_of input) ≡ Ok bytes → HasBinary input false bytes

-- the bytes, within the limit, are read as the component, in which no scope is inside 100 others
pub record IsRead (bytes : List ℕ) (component : Scope) : Type 0 where
  pub small : length bytes ≤ bytes_limit
  pub reads : Reads bytes component
  pub shallow : IsShallow component

-- why bytes are read as no such component, by the name of the kind and the offset
pub data NotRead (bytes : List ℕ) : List ℕ → ℕ → Type 0 where
  not_read : (k : ReadKind) (name : List ℕ) (offset : ℕ) → RefusedAs bytes k offset → read_kind_name k ≡ Some name → NotRead bytes name offset

-- why an input is refused, by what refuses the bytes of a binary
pub data InputRefused (Refuses : List ℕ → List ℕ → ℕ → Type 0) (input : List ℕ) : Bool → List ℕ → ℕ → Type 0 where
  not_hex : (offset : ℕ) → HexRefuses (digits_of input) offset → InputRefused Refuses input false (codes "hex") offset
  bytes_refused : (r : Bool) (bytes name : List ℕ) (offset : ℕ) → HasBinary input r bytes → Refuses bytes name offset → InputRefused Refuses input r name offset

-- the line of a refusal whose kind has a name
abbrev pub IsReadLine : ReadError → List ℕ → Type 0
IsReadLine e line = (name : List ℕ) × (read_kind_name e.kind ≡ Some name) × (line ≡ refusal_line name e.offset)

-- this is told
abbrev pub IsOutput : List ℕ → Told → Type 0
IsOutput bytes (Output out) = string_bytes out ≡ bytes
IsOutput bytes (Refusal line) = ⊥

-- the line of a refusal is told
abbrev pub IsRefusal : List ℕ → ℕ → Told → Type 0
IsRefusal name offset (Output out) = ⊥
IsRefusal name offset (Refusal line) = string_bytes line ≡ refusal_line name offset

-- the line of a refusal of bytes is told
abbrev pub IsReadRefusal : ReadError → Told → Type 0
IsReadRefusal e (Output out) = ⊥
IsReadRefusal e (Refusal line) = IsReadLine e (string_bytes line)

-- what is told of bytes, by what answers them and what refuses them
abbrev pub TellsOfBytes : (List ℕ → List ℕ → Type 0) → (List ℕ → List ℕ → ℕ → Type 0) → List ℕ → Told → Type 0
TellsOfBytes Answers Refuses bytes (Output out) = Answers bytes (string_bytes out)
TellsOfBytes Answers Refuses bytes (Refusal line) = (name : List ℕ) × (offset : ℕ) × Refuses bytes name offset × (string_bytes line ≡ refusal_line name offset)

-- what is told of an input, by what answers the bytes of its binary and what refuses them
abbrev pub Tells : (List ℕ → List ℕ → Type 0) → (List ℕ → List ℕ → ℕ → Type 0) → List ℕ → Bool → Told → Type 0
Tells Answers Refuses input r (Output out) = (bytes : List ℕ) × HasBinary input r bytes × Answers bytes (string_bytes out)
Tells Answers Refuses input r (Refusal line) = (name : List ℕ) × (offset : ℕ) × InputRefused Refuses input r name offset × (string_bytes line ≡ refusal_line name offset)
