-- What `lex` answers, the places of its tokens, and the laws of the cut.
use Rattle.std.specs.Prelude.{◌≡◌, ◌⊎◌, ℕ, ◌<◌, ◌≤◌, List, [], ◌∷◌, length}
use Rattle.std.specs.Str.{IsCharBoundary}
use Rattle.wast_tokens.specs.declared.token.Token.{Token}
use Rattle.wast_tokens.specs.declared.error.ErrorKind.{ErrorKind}
use Rattle.wast_tokens.specs.declared.error.ErrorKind.TheVariants.{TooBig, Lex, NoMemory}
use Rattle.wast_tokens.specs.declared.error.LexFault.{LexFault}
use Rattle.wast_tokens.specs.Tiling.{IsTiling, StopsAt, HasToken}

-- why a text is refused, and where: for its length, for a fault, or for want of memory for a token
abbrev pub LexRefuses : List ℕ → ErrorKind → ℕ → Type 0
LexRefuses text (TooBig found limit) offset = (67_108_864 < length text) × (found ≡ length text) × (limit ≡ 67_108_864) × (offset ≡ 0)
LexRefuses text (Lex fault) offset = (length text ≤ 67_108_864) × StopsAt text fault offset
LexRefuses text NoMemory offset = (length text ≤ 67_108_864) × HasToken text × (offset ≡ 0)
LexRefuses text kind offset = ⊥

-- a token's bytes: at least one, within the text, between characters
pub record IsPlaced (text : List ℕ) (t : Token) : Type 0 where
  pub some : t.start < t.end
  pub within : t.end ≤ length text
  pub starts : IsCharBoundary text t.start
  pub ends : IsCharBoundary text t.end

-- each token is placed, and begins no sooner than the one before it ends, the first no sooner than place a
abbrev pub ArePlaced : List ℕ → ℕ → List Token → Type 0
ArePlaced text a [] = Unit {0}
ArePlaced text a (t ∷ ts) = (a ≤ t.start) × IsPlaced text t × ArePlaced text t.end ts

-- a text is cut in one way at most
abbrev pub IsCutOnce : Type 0
IsCutOnce = (text : List ℕ) (ts us : List Token) → IsTiling text ts → IsTiling text us → ts ≡ us

-- a text that is cut has no fault
abbrev pub IsNeverBoth : Type 0
IsNeverBoth = (text : List ℕ) (ts : List Token) (fault : LexFault) (place : ℕ) → IsTiling text ts → StopsAt text fault place → ⊥

-- a text has one first fault at most, at one place
abbrev pub HasOneFault : Type 0
HasOneFault = (text : List ℕ) (f g : LexFault) (p q : ℕ) → StopsAt text f p → StopsAt text g q → (f ≡ g) × (p ≡ q)

-- a text is cut, or it has a first fault
abbrev pub IsOneOfBoth : Type 0
IsOneOfBoth = (text : List ℕ) → ((ts : List Token) × IsTiling text ts) ⊎ ((fault : LexFault) × (place : ℕ) × StopsAt text fault place)
