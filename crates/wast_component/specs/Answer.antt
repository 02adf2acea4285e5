-- What the encoder answers for a text.
use Rattle.std.specs.Prelude.{◌≡◌, ◌<◌, ◌≤◌, ℕ, List, Bool, length, Option, Some, Result, Ok, Err, ◌⊎◌}
use Rattle.comp_model.specs.Origins.{Origins}
use Rattle.comp_wire.specs.declared.origin.ScopeOrigins.{ScopeOrigins}
use Rattle.open_scopes.specs.Refusals.{refusal}
use Rattle.wast_tokens.specs.declared.error.Error.{Error}
use Rattle.wast_tokens.specs.declared.error.ErrorKind.{ErrorKind}
use Rattle.wast_tokens.specs.declared.error.ErrorKind.TheVariants as kinds
use Rattle.wast_tokens.specs.declared.error.LexFault.{LexFault}
use Rattle.wast_tokens.specs.Tiling.{StopsAt}
use Rattle.wast_grammar.specs.Tokens.{Text}
use Rattle.wast_grammar.specs.Stand.{Stand}
use Rattle.wast_grammar.specs.Read.{start_of, read, FailsAs}
use Rattle.wast_grammar.specs.Answers.{ReaderRefuses}
use Rattle.wast_parser.specs.View.{IsTextOf}
use Rattle.wast_component.specs.Encodable.{CanBeEncoded, IsEncodedAs, whole_refusal}
use Rattle.wast_component.specs.Shown.{Shows}
use Rattle.wast_component.specs.Whole.{Whole, wat, SpellsWhole}

-- the most bytes that a text has
abbrev pub text_limit : ℕ
text_limit = 67_108_864

-- The text is that of a component that can be encoded: it isn't too long, and its tokens spell the component.
pub record IsValid (text : List ℕ) (legacy : Bool) (component : Whole) : Type 0 where
  pub small : length text ≤ text_limit
  pub spelled : SpellsWhole text legacy component
  pub encodable : CanBeEncoded component

-- The bytes and the origins are an encoding of the text: it is valid, and they are an encoding of its component.
pub record IsEncoding (text : List ℕ) (legacy : Bool) (bytes : List ℕ) (origins : Origins) : Type 0 where
  pub component : Whole
  pub valid : IsValid text legacy component
  pub encoded : IsEncodedAs component bytes origins

-- the bytes are an encoding of the text, under origins of which that is given
abbrev pub EncodesWith : List ℕ → Bool → List ℕ → Option ScopeOrigins → Type 0
EncodesWith text legacy bytes given = (origins : Origins) × Shows given origins × IsEncoding text legacy bytes origins

-- the bytes are an encoding of the text, under some origins
abbrev pub Encodes : List ℕ → Bool → List ℕ → Type 0
Encodes text legacy bytes = (origins : Origins) × IsEncoding text legacy bytes origins

-- the text's tokens refute the grammar of a text, or spell one with a checked item that is too deep, at the place of the text to which
-- reading them comes: a token, or the end
pub record TokensRefute (text : List ℕ) (legacy : Bool) (kind : ErrorKind) (offset : ℕ) : Type 0 where
  pub tokens : Text
  pub cut : IsTextOf text legacy tokens
  pub at : Stand
  pub within : at.text ≡ tokens
  pub comes : FailsAs kind offset at (read wat (start_of tokens))
  pub refuses : ReaderRefuses kind offset wat (start_of tokens) at

-- Why a text is refused, and where, in the order in which causes are looked for.
pub data TextRefuses (text : List ℕ) (legacy : Bool) : ErrorKind → ℕ → Type 0 where
  -- it has more bytes than a text may have
  too_long : text_limit < length text → TextRefuses text legacy (kinds.TooBig (length text) text_limit) 0
  -- it can't be cut into tokens: its first fault
  not_cut : (fault : LexFault) (offset : ℕ) → length text ≤ text_limit → StopsAt text fault offset → TextRefuses text legacy (kinds.Lex fault) offset
  -- its tokens spell neither a component nor a core module
  not_spelled : (offset : ℕ) → length text ≤ text_limit → TokensRefute text legacy kinds.Parse offset → TextRefuses text legacy kinds.Parse offset
  -- they spell one whose first checked item so deep stands below more than 100 open parentheses
  too_deep : (offset : ℕ) → length text ≤ text_limit → TokensRefute text legacy kinds.TooDeep offset → TextRefuses text legacy kinds.TooDeep offset
  -- they spell a core module, or a component that is refused
  not_encodable : (whole : Whole) (kind : ErrorKind) (offset : ℕ) → length text ≤ text_limit → SpellsWhole text legacy whole → whole_refusal whole ≡ Some (refusal kind offset) → TextRefuses text legacy kind offset

-- why the encoder refuses a text: for one of these causes, or for want of memory
abbrev pub EncoderRefuses : List ℕ → Bool → ErrorKind → ℕ → Type 0
EncoderRefuses text legacy kind offset = ((kind ≡ kinds.NoMemory) × (offset ≡ 0)) ⊎ TextRefuses text legacy kind offset

-- the tokens of a text spell one thing at most
abbrev pub IsSpelledOnce : Type 0
IsSpelledOnce = (text : List ℕ) (legacy : Bool) (a b : Whole) → SpellsWhole text legacy a → SpellsWhole text legacy b → a ≡ b

-- a call answered this refusal, or ran out of memory
abbrev pub IsRefusedAs : {X : Type 0} → Result X Error → ErrorKind → ℕ → Type 0
IsRefusedAs (Ok x) kind offset = ⊥
IsRefusedAs (Err e) kind offset = ((e.kind ≡ kind) × (e.offset ≡ offset)) ⊎ (e.kind ≡ kinds.NoMemory)
