-- What crosses of the encoder's answers.
use Rattle.std.specs.Prelude.{◌≡◌, ◌≢◌, ◌<◌, ◌≤◌, ◌++◌, ◌⊎◌, ◌^◌, ℕ, List, [], length, drop, Bool}
use Rattle.std.specs.Str.{IsUtf8, IsValidUpTo}
use Rattle.comp_model.specs.Origins.{Origins}
use Rattle.wast_tokens.specs.declared.error.Error.{Error}
use Rattle.wast_tokens.specs.declared.error.ErrorKind.{ErrorKind}
use Rattle.wast_tokens.specs.declared.error.ErrorKind.TheVariants as kinds
use Rattle.wast_component.specs.Answer.{IsEncoding, TextRefuses}
use Rattle.origin_lines.specs.Lines.{lines_behind}
use Rattle.wast_c.specs.declared.refusal.WastRefusal.{WastRefusal}
use Rattle.wast_c.specs.Kinds.{kind_number}
use Rattle.wast_c.specs.Status as status

-- the length or weight of what is too big, and 0 of another kind
abbrev pub found_of : ErrorKind → ℕ
found_of (kinds.TooBig found limit) = found
found_of _ = 0

-- the limit that it passes
abbrev pub limit_of : ErrorKind → ℕ
limit_of (kinds.TooBig found limit) = limit
limit_of _ = 0

-- a refusal, as C has it
abbrev pub Tells : WastRefusal → ErrorKind → ℕ → Type 0
Tells why kind offset = (why.kind ≡ kind_number kind) × (why.offset ≡ offset) × (why.found ≡ found_of kind) × (why.limit ≡ limit_of kind)

-- a call that answered an error says so: for want of memory by its status alone
abbrev pub IsTold : Error → ℕ → WastRefusal → WastRefusal → Type 0
IsTold e answer old new = ((e.kind ≡ kinds.NoMemory) × (answer ≡ status.out_of_memory) × (new ≡ old)) ⊎ ((e.kind ≢ kinds.NoMemory) × (answer ≡ status.refused) × Tells new e.kind e.offset)

-- the lines of the origins of a text's encoding
abbrev pub IsLinesOf : List ℕ → Bool → List ℕ → Type 0
IsLinesOf text legacy lines = (bytes : List ℕ) × (origins : Origins) × IsEncoding text legacy bytes origins × (lines ≡ lines_behind [] origins)

-- What a call for a text answers, by what it found in the buffer, in the length and in the refusal: its status, and what it leaves in them.
pub data TextAnswers (Makes : List ℕ → Type 0) (text : List ℕ) (flags : ℕ) (out : List ℕ) (needed : ℕ) (why : WastRefusal) : ℕ → List ℕ → ℕ → WastRefusal → Type 0 where
  -- what is made of the text stands at the beginning of the buffer
  written : (bytes : List ℕ) → flags ≤ 1 → IsUtf8 text → Makes bytes → length bytes ≤ length out → TextAnswers Makes text flags out needed why status.done (bytes ++ drop (length bytes) out) (length bytes) why
  -- it has no room there
  no_room : (bytes : List ℕ) → flags ≤ 1 → IsUtf8 text → Makes bytes → length out < length bytes → TextAnswers Makes text flags out needed why status.too_short out (length bytes) why
  -- the text is refused
  not_made : (kind : ErrorKind) (offset : ℕ) (told : WastRefusal) → flags ≤ 1 → IsUtf8 text → TextRefuses text (status.legacy flags) kind offset → Tells told kind offset → TextAnswers Makes text flags out needed why status.refused out needed told
  -- its bytes are UTF-8 up to an offset alone
  no_text : (told : WastRefusal) → flags ≤ 1 → ¬ (IsUtf8 text) → IsValidUpTo text told.offset → told.kind ≡ 0 → told.found ≡ 0 → told.limit ≡ 0 → TextAnswers Makes text flags out needed why status.not_utf8 out needed told
  -- memory ran out
  no_memory : flags ≤ 1 → IsUtf8 text → TextAnswers Makes text flags out needed why status.out_of_memory out needed why
  -- the flags aren't defined
  not_asked : 1 < flags → TextAnswers Makes text flags out needed why status.bad_flags out needed why

-- no refusal has this kind or this offset
abbrev pub IsNoRefusal : WastRefusal → Type 0
IsNoRefusal why = (2 ^ 32 ≤ why.offset) ⊎ ((kind : ErrorKind) → kind_number kind ≢ why.kind)
