-- What a read and a write do to the bytes of the outside, where it tells them, and to its count of faults.
use Rattle.std.specs.Prelude.{◌≡◌, ◌<◌, ◌≤◌, ◌⊎◌, ◌^◌, ◌-◌, ℕ, List, ◌++◌, length, take, None, Some, Result, Ok, Err}
use Rattle.std.specs.declared.option.Option.{Option}
use Rattle.byte_streams.specs.declared.transfer.ReadError.{ReadError}
use Rattle.byte_streams.specs.declared.transfer.ReadError.TheVariants.{Failed, NoMemory}
use Rattle.byte_streams.specs.declared.outside.SinkError.{SinkError}
use Rattle.std.specs.Io.KnownBytes.{Appends, Consumes, IsAtEnd}
use Rattle.byte_streams.specs.Limits.{read_limit}

-- a count of faults rose, or stands at the last value of a `u64`
abbrev pub Rose : ℕ → ℕ → Type 0
Rose before after = (before < after) ⊎ (after ≡ 2 ^ 64 - 1)

-- a sink took the first `count` bytes of the piece, and some where there are some
pub record Takes (old new : Option (List ℕ)) (piece : List ℕ) (count : ℕ) : Type 0 where
  pub bound : count ≤ length piece
  pub some : 0 < length piece → 0 < count
  pub bytes : Appends old new (take count piece)

-- a sink took a front of the piece
abbrev pub TakesFront : Option (List ℕ) → Option (List ℕ) → List ℕ → Type 0
TakesFront old new piece = (count : ℕ) × (count ≤ length piece) × Appends old new (take count piece)

-- at most this many bytes were read off the front of a source
abbrev pub ReadsFront : Option (List ℕ) → Option (List ℕ) → ℕ → Type 0
ReadsFront old new most = (read : List ℕ) × (length read ≤ most) × Consumes old new read

-- reads in a row that all gave bytes or found the end, each on the source that the last one left
pub data Reads {S : Type 0} (gives : S → Option ℕ → S → Type 0) : S → S → Type 0 where
  none : {source : S} → Reads gives source source
  more : {old source new : S} (count : ℕ) → Reads gives old source → gives source (Some count) new → Reads gives old new

-- reads in a row, of which the last failed, and no other
abbrev pub ReadsToFault : {S : Type 0} → (S → Option ℕ → S → Type 0) → S → S → Type 0
ReadsToFault {S} gives old new = (last : S) × Reads gives old last × gives last None new

-- one read, that failed or gave bytes; without memory for them it gave some
abbrev pub ReadsOnce : {S : Type 0} → (S → Option ℕ → S → Type 0) → S → S → Result ℕ ReadError → Type 0
ReadsOnce gives old new (Ok count) = gives old (Some count) new
ReadsOnce gives old new (Err Failed) = gives old None new
ReadsOnce gives old new (Err NoMemory) = (count : ℕ) × gives old (Some count) new

-- reads in a row, by why no more were made
abbrev pub ReadsUntil : {S : Type 0} → (S → Option ℕ → S → Type 0) → S → S → ReadError → Type 0
ReadsUntil gives old new Failed = ReadsToFault gives old new
ReadsUntil gives old new NoMemory = Reads gives old new

-- writes in a row that all took bytes, each by the sink that the last one left
pub data Writes {S : Type 0} (gives : S → Result ℕ SinkError → S → Type 0) : S → S → Type 0 where
  unwritten : {sink : S} → Writes gives sink sink
  written : {old sink new : S} (count : ℕ) → Writes gives old sink → gives sink (Ok count) new → Writes gives old new

-- writes in a row, of which the last gave this error, and no other gave one
abbrev pub WritesToError : {S : Type 0} → (S → Result ℕ SinkError → S → Type 0) → S → S → SinkError → Type 0
WritesToError {S} gives old new error = (last : S) × Writes gives old last × gives last (Err error) new

-- these bytes were read off the front of a source: all of them, or as many as are read at most
pub record ReadsAll (old new : Option (List ℕ)) (bytes : List ℕ) : Type 0 where
  pub consumes : Consumes old new bytes
  pub bound : length bytes ≤ read_limit
  pub end : length bytes < read_limit → IsAtEnd new

-- `count` bytes were read off the front of a source and added, and none at its end alone
pub record AddsPiece (old new : Option (List ℕ)) (room : ℕ) (before after : List ℕ) (count : ℕ) : Type 0 where
  pub read : List ℕ
  pub consumes : Consumes old new read
  pub adds : after ≡ before ++ read
  pub counted : length read ≡ count
  pub bound : count ≤ room
  pub end : count ≡ 0 → IsAtEnd new
