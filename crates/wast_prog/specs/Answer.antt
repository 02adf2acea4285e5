-- What the program answers: a status, and the bytes for its two sinks.
use Rattle.std.specs.Prelude.{◌≡◌, ◌<◌, ◌≤◌, ℕ, List, [], ◌∷◌, ◌++◌, length, Bool, false, Option, Some, None, codes, string_bytes, ⊤}
use Rattle.std.specs.Fmt.{decimal}
use Rattle.std.specs.Str.{IsUtf8, IsValidUpTo}
use Rattle.hex.specs.Hex.{encode_lower}
use Rattle.comp_model.specs.Origins.{Origins}
use Rattle.wast_tokens.specs.declared.error.Error.{Error}
use Rattle.wast_tokens.specs.declared.error.ErrorKind.{ErrorKind}
use Rattle.wast_component.specs.Answer.{text_limit, IsEncoding, EncoderRefuses}
use Rattle.wast_refusals.specs.Kinds.{kind_name}
use Rattle.wast_refusals.specs.Line.{refusal_line}
use Rattle.origin_lines.specs.Lines.{lines_behind}
use Rattle.origin_lines.specs.Count.{marks_in, outer_aliases_in}
use Rattle.sample_text.specs.Sample.{sample_text}
use Rattle.compose_replies.specs.Answer.{IsTold as IsComposedTold, IsRefusal as IsPlanRefusal}
use Rattle.binary_inputs.specs.Input.{HasBinary}
use Rattle.list_replies.specs.Answer.{IsTold, BinaryRefused}
use Rattle.list_replies.specs.declared.reply.Ask.{Ask}
use Rattle.print_replies.specs.Answer.{IsTold as IsTextTold, PrintRefused}
use Rattle.wast_prog.specs.declared.run.Status.{Status}
use Rattle.wast_prog.specs.declared.run.Status.TheVariants.{Done, Refused, Usage}
use Rattle.wast_prog.specs.declared.reply.Reply.{Reply}
use Rattle.wast_prog.specs.declared.reply.Reply.TheVariants.{Output, Faults}
use Rattle.wast_prog.specs.declared.command.Print.{Print}
use Rattle.wast_prog.specs.declared.command.Print.TheVariants.{Hex, Raw, Origins as Marks}
use Rattle.wast_prog.specs.declared.command.Command.{Command}
use Rattle.wast_prog.specs.declared.command.Command.TheVariants.{Encode, Sample, Binary, Text, Compose}
use Rattle.wast_prog.specs.Command.{command}

-- the bytes in lower-case hexadecimal, and a line feed
abbrev pub hex_line : List ℕ → List ℕ
hex_line bytes = encode_lower bytes ++ 10 ∷ []

-- what is printed of an encoding: its bytes as that line, its bytes alone, or a line for each of its origins
abbrev pub printed : Print → List ℕ → Origins → List ℕ
printed Hex bytes marks = hex_line bytes
printed Raw bytes marks = bytes
printed Marks bytes marks = lines_behind [] marks

-- a word, a space, a number in decimal, and a line feed
abbrev pub number_line : List ℕ → ℕ → List ℕ
number_line word number = word ++ (32 ∷ (decimal number ++ 10 ∷ []))

-- the numbers of a sample: the lengths of its text and of its binary, and how many marks there are in all its scopes, and how many of them are outer aliases
abbrev pub sample_lines : List ℕ → List ℕ → Origins → List ℕ
sample_lines text bytes origins =
    number_line (codes "text") (length text)
    ++ number_line (codes "binary") (length bytes)
    ++ number_line (codes "marks") (marks_in origins)
    ++ number_line (codes "outer-aliases") (outer_aliases_in origins)

-- the line for words that are no command
abbrev pub usage_line : List ℕ
usage_line = codes "usage: encode [--legacy] [--raw] | origins [--legacy] | gen N | list [--raw] | order [--raw] | print [--raw] | compose [--raw]" ++ 10 ∷ []

-- why an input is refused, by the name of the kind and the offset: it has more bytes than a text may have, or isn't UTF-8 behind its longest front that is, or is the text of no component that can be encoded
pub data RunRefuses (input : List ℕ) (legacy : Bool) : List ℕ → ℕ → Type 0 where
  too_big : text_limit < length input → RunRefuses input legacy (codes "TooBig") 0
  not_utf8 : (offset : ℕ) → length input ≤ text_limit → IsValidUpTo input offset → RunRefuses input legacy (codes "utf-8") offset
  not_encoded : (kind : ErrorKind) (name : List ℕ) (offset : ℕ) → length input ≤ text_limit → IsUtf8 input → EncoderRefuses input legacy kind offset → kind_name kind ≡ Some name → RunRefuses input legacy name offset

-- the answer to a command and the whole input: the status, and what is written to the output and to the faults
pub data CommandAnswers (input : List ℕ) : Command → Status → List ℕ → List ℕ → Type 0 where
  -- the input is the text of a component that is encoded
  encoded : (legacy : Bool) (print : Print) (bytes : List ℕ) (origins : Origins) → length input ≤ text_limit → IsUtf8 input → IsEncoding input legacy bytes origins → CommandAnswers input (Encode legacy print) Done (printed print bytes origins) []
  -- it is refused
  refused : (legacy : Bool) (print : Print) (name : List ℕ) (offset : ℕ) → RunRefuses input legacy name offset → CommandAnswers input (Encode legacy print) Refused [] (refusal_line name offset)
  -- the sample of a number is encoded, whatever the input is
  sampled : (count : ℕ) (bytes : List ℕ) (origins : Origins) → IsEncoding (sample_text count) false bytes origins → CommandAnswers input (Sample count) Done (sample_lines (sample_text count) bytes origins) []
  -- it is refused, as a text is
  sample_refused : (count : ℕ) (kind : ErrorKind) (name : List ℕ) (offset : ℕ) → EncoderRefuses (sample_text count) false kind offset → kind_name kind ≡ Some name → CommandAnswers input (Sample count) Refused [] (refusal_line name offset)
  -- the input has the binary of a component, of which this is printed
  read : (raw : Bool) (ask : Ask) (bytes out : List ℕ) → length input ≤ text_limit → HasBinary input raw bytes → IsTold ask bytes out → CommandAnswers input (Binary raw ask) Done out []
  -- it has none, or one that isn't read
  unread : (raw : Bool) (ask : Ask) (name : List ℕ) (offset : ℕ) → length input ≤ text_limit → BinaryRefused input raw name offset → CommandAnswers input (Binary raw ask) Refused [] (refusal_line name offset)
  -- it has more bytes than a text may have
  unread_big : (raw : Bool) (ask : Ask) → text_limit < length input → CommandAnswers input (Binary raw ask) Refused [] (refusal_line (codes "TooBig") 0)
  -- the input has the binary of a component, of which this is the text with a line feed
  printed_text : (raw : Bool) (bytes out : List ℕ) → length input ≤ text_limit → HasBinary input raw bytes → IsTextTold bytes out → CommandAnswers input (Text raw) Done out []
  -- it has none, or one that isn't read, or isn't printed
  unprinted : (raw : Bool) (name : List ℕ) (offset : ℕ) → length input ≤ text_limit → PrintRefused input raw name offset → CommandAnswers input (Text raw) Refused [] (refusal_line name offset)
  -- it has more bytes than a text may have
  unprinted_big : (raw : Bool) → text_limit < length input → CommandAnswers input (Text raw) Refused [] (refusal_line (codes "TooBig") 0)
  -- the input is a plan, whose binary this is
  composed : (raw : Bool) (out : List ℕ) → length input ≤ text_limit → IsComposedTold input raw out → CommandAnswers input (Compose raw) Done out []
  -- it is a plan that is refused
  uncomposed : (raw : Bool) (line : List ℕ) → length input ≤ text_limit → IsPlanRefusal input line → CommandAnswers input (Compose raw) Refused [] line
  -- it has more bytes than a text may have
  uncomposed_big : (raw : Bool) → text_limit < length input → CommandAnswers input (Compose raw) Refused [] (refusal_line (codes "TooBig") 0)

-- the answer to the words and the whole input
pub data RunAnswers (words : List (List ℕ)) (input : List ℕ) : Status → List ℕ → List ℕ → Type 0 where
  usage : command words ≡ None → RunAnswers words input Usage [] usage_line
  asked : (what : Command) (status : Status) (out err : List ℕ) → command words ≡ Some what → CommandAnswers input what status out err → RunAnswers words input status out err

-- what is printed of the encoding of a text
abbrev pub IsPrinted : List ℕ → Bool → Print → List ℕ → Type 0
IsPrinted text legacy print out = (bytes : List ℕ) × (origins : Origins) × IsEncoding text legacy bytes origins × (out ≡ printed print bytes origins)

-- the line of a refusal whose kind has a name
abbrev pub IsRefusalLine : Error → List ℕ → Type 0
IsRefusalLine refusal line = (name : List ℕ) × (kind_name refusal.kind ≡ Some name) × (line ≡ refusal_line name refusal.offset)

-- what is to be written is the answer to a command and the whole input
abbrev pub Replies : List ℕ → Command → Reply → Type 0
Replies input what (Output out) = CommandAnswers input what Done out.items []
Replies input what (Faults line) = CommandAnswers input what Refused [] (string_bytes line)

-- the whole input, where the source tells it
abbrev pub IsWhole : Option (List ℕ) → List ℕ → Type 0
IsWhole None whole = ⊤
IsWhole (Some bytes) whole = bytes ≡ whole

-- the same of all that the source held
abbrev pub RepliesAfter : Option (List ℕ) → Command → Reply → Type 0
RepliesAfter held what reply = (whole : List ℕ) × IsWhole held whole × Replies whole what reply
