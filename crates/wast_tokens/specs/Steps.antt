-- What the lexer finds at a place.
use Rattle.std.specs.Prelude.{◌≡◌, ℕ, ◌+◌, ◌<◌, List, slice_index}
use Rattle.wast_tokens.specs.declared.error.Error.{Error}
use Rattle.wast_tokens.specs.declared.error.ErrorKind.TheVariants as kinds
use Rattle.wast_tokens.specs.declared.error.ErrorKind.TheVariants.{Lex}
use Rattle.wast_tokens.specs.declared.lexer.Step.{Step}
use Rattle.wast_tokens.specs.declared.lexer.Step.TheVariants.{Gap, Whole}
use Rattle.wast_tokens.specs.declared.runs.Classified.{Classified}
use Rattle.wast_tokens.specs.declared.runs.Stop.{Stop}
use Rattle.wast_tokens.specs.declared.runs.Stop.TheVariants.{Fault, NoMemory}
use Rattle.wast_tokens.specs.Tiling.{IsGap, IsToken, IsFault, TakesMemory}
use Rattle.wast_tokens.specs.Strings.{IsString}
use Rattle.wast_tokens.specs.Runs.{IsRun, IsBrokenRun, IsOfKind}

-- the run that begins at a place
abbrev pub IsRunOfKind : List ℕ → ℕ → Classified → Type 0
IsRunOfKind text at r = IsRun text at r.end × IsOfKind text at r.end r.kind

-- why no run is found that begins at a place: a fault in it, or want of memory for the name of an id in quotes
abbrev pub IsStoppedRun : List ℕ → ℕ → Stop → Type 0
IsStoppedRun text at (Fault f) = IsBrokenRun text at f.fault f.place
IsStoppedRun text at NoMemory = (b : ℕ) × IsRun text at b × (slice_index text at ≡ 36) × IsString text (at + 1) b

-- the lexeme that begins at a place
abbrev pub IsStep : List ℕ → ℕ → Step → Type 0
IsStep text at (Gap end) = IsGap text at end
IsStep text at (Whole t) = (t.start ≡ at) × IsToken text t.kind at t.end

-- why none does
abbrev pub IsStop : List ℕ → ℕ → Stop → Type 0
IsStop text at (Fault f) = IsFault text at f.fault f.place
IsStop text at NoMemory = TakesMemory text at

-- a fault shows before a place
abbrev pub HasPlaceBelow : ℕ → Stop → Type 0
HasPlaceBelow n (Fault f) = f.place < n
HasPlaceBelow n NoMemory = Unit {0}

-- how it is told
abbrev pub refusal_of : Stop → Error
refusal_of (Fault f) = record { kind = Lex f.fault; offset = f.place }
refusal_of NoMemory = record { kind = kinds.NoMemory; offset = 0 }
