-- Answers to commands, from what is said of their parts.
use Rattle.std.proofs.Common.{◌≡◌, ◌≤◌, ◌<◌, ℕ, List, [], length, Bool, false, sym, ap, subst, ◌∙◌, codes, String as Str, Vec, Global, string_bytes}
use Rattle.compose_replies.specs.Answer.{Tells as TellsOfPlan}
use Rattle.compose_replies.specs.declared.reply.Told.{Told as Composition}
use Rattle.compose_replies.specs.declared.reply.Told.TheVariants.{Output, Refusal as NoComposition}
use Rattle.binary_inputs.specs.declared.told.Told.{Told}
use Rattle.binary_inputs.specs.declared.told.Told.TheVariants.{Output as Answered, Refusal}
use Rattle.list_replies.specs.Answer.{Tells}
use Rattle.list_replies.specs.declared.reply.Ask.{Ask}
use Rattle.print_replies.specs.Answer.{Tells as TellsOfText}
use Rattle.wast_prog.specs.Command.{ReadsInput}
use Rattle.std.specs.Str.{IsUtf8}
use Rattle.comp_model.specs.Origins.{Origins}
use Rattle.wast_tokens.specs.declared.error.Error.{Error}
use Rattle.wast_component.specs.Answer.{text_limit, IsEncoding, EncoderRefuses}
use Rattle.wast_refusals.specs.Line.{refusal_line}
use Rattle.sample_text.specs.Sample.{sample_text}
use Rattle.wast_prog.specs.declared.run.Status.TheVariants.{Done, Refused}
use Rattle.wast_prog.specs.declared.command.Print.{Print}
use Rattle.wast_prog.specs.declared.command.Command.{Command}
use Rattle.wast_prog.specs.declared.command.Command.TheVariants.{Encode, Sample, Binary, Text, Compose}
use Rattle.wast_prog.specs.Answer.{RunRefuses, CommandAnswers, IsPrinted, IsRefusalLine, sample_lines}
use Rattle.wast_prog.specs.Answer.RunRefuses.{not_encoded, too_big}
use Rattle.wast_prog.specs.Answer.CommandAnswers.{encoded, refused, sampled, sample_refused, read, unread, unread_big, printed_text, unprinted, unprinted_big, composed, uncomposed, uncomposed_big}

-- a text is encoded
pub text_done : (input text out : List ℕ) (legacy : Bool) (print : Print) → length input ≤ text_limit → text ≡ input → IsUtf8 input → IsPrinted text legacy print out → CommandAnswers input (Encode legacy print) Done out []
text_done input text out legacy print small same valid p =
    subst (λ o. CommandAnswers input (Encode legacy print) Done o []) (sym p.3) (encoded legacy print p.0 p.1 small valid (subst (λ t. IsEncoding t legacy p.0 p.1) same p.2))

-- an input is refused
pub text_refused : (input line name : List ℕ) (offset : ℕ) (legacy : Bool) (print : Print) → RunRefuses input legacy name offset → line ≡ refusal_line name offset → CommandAnswers input (Encode legacy print) Refused [] line
text_refused input line name offset legacy print h is = subst (CommandAnswers input (Encode legacy print) Refused []) (sym is) (refused legacy print name offset h)

-- a text is refused by the encoder
pub text_not_encoded : (input text line : List ℕ) (e : Error) (legacy : Bool) (print : Print) → length input ≤ text_limit → text ≡ input → IsUtf8 input → EncoderRefuses text legacy e.kind e.offset → IsRefusalLine e line → CommandAnswers input (Encode legacy print) Refused [] line
text_not_encoded input text line e legacy print small same valid h r =
    text_refused input line r.0 e.offset legacy print (not_encoded e.kind r.0 e.offset small valid (subst (λ t. EncoderRefuses t legacy e.kind e.offset) same h) r.1) r.2

-- a sample is encoded
pub sample_done : (input text again out bytes : List ℕ) (origins : Origins) (count : ℕ) → text ≡ sample_text count → again ≡ sample_text count → IsEncoding text false bytes origins → out ≡ sample_lines again bytes origins → CommandAnswers input (Sample count) Done out []
sample_done input text again out bytes origins count same too e is =
    subst (λ o. CommandAnswers input (Sample count) Done o []) (sym (is ∙ ap (λ t. sample_lines t bytes origins) too)) (sampled count bytes origins (subst (λ t. IsEncoding t false bytes origins) same e))

-- a sample is refused by the encoder
pub sample_not_encoded : (input text line : List ℕ) (e : Error) (count : ℕ) → text ≡ sample_text count → EncoderRefuses text false e.kind e.offset → IsRefusalLine e line → CommandAnswers input (Sample count) Refused [] line
sample_not_encoded input text line e count same h r =
    subst (CommandAnswers input (Sample count) Refused []) (sym r.2) (sample_refused count e.kind r.0 e.offset (subst (λ t. EncoderRefuses t false e.kind e.offset) same h) r.1)

-- a command that reads an input refuses one that is too big
pub input_too_big : (input line : List ℕ) (what : Command) → ReadsInput what → text_limit < length input → line ≡ refusal_line (codes "TooBig") 0 → CommandAnswers input what Refused [] line
input_too_big input line (Encode legacy print) r much is = text_refused input line (codes "TooBig") 0 legacy print (too_big much) is
input_too_big input line (Sample count) r much is = absurd r
input_too_big input line (Binary raw ask) r much is = subst (CommandAnswers input (Binary raw ask) Refused []) (sym is) (unread_big raw ask much)
input_too_big input line (Text raw) r much is = subst (CommandAnswers input (Text raw) Refused []) (sym is) (unprinted_big raw much)
input_too_big input line (Compose raw) r much is = subst (CommandAnswers input (Compose raw) Refused []) (sym is) (uncomposed_big raw much)

-- what is printed of a binary
pub binary_read : (input out : List ℕ) (raw : Bool) (ask : Ask) (told : Told) (text : Str Global) → length input ≤ text_limit → Tells input raw ask told → told ≡ Answered text → out ≡ string_bytes text → CommandAnswers input (Binary raw ask) Done out []
binary_read input out raw ask told text small t is same =
    let h : Tells input raw ask (Answered text) = subst (Tells input raw ask) is t in
    subst (λ o. CommandAnswers input (Binary raw ask) Done o []) (sym same) (read raw ask h.0 (string_bytes text) small h.1 h.2)

-- why it is refused
pub binary_unread : (input : List ℕ) (raw : Bool) (ask : Ask) (told : Told) (line : Str Global) → length input ≤ text_limit → Tells input raw ask told → told ≡ Refusal line → CommandAnswers input (Binary raw ask) Refused [] (string_bytes line)
binary_unread input raw ask told line small t is =
    let h : Tells input raw ask (Refusal line) = subst (Tells input raw ask) is t in
    subst (CommandAnswers input (Binary raw ask) Refused []) (sym h.3) (unread raw ask h.0 h.1 small h.2)

-- the text of a binary
pub binary_printed : (input out : List ℕ) (raw : Bool) (told : Told) (text : Str Global) → length input ≤ text_limit → TellsOfText input raw told → told ≡ Answered text → out ≡ string_bytes text → CommandAnswers input (Text raw) Done out []
binary_printed input out raw told text small t is same =
    let h : TellsOfText input raw (Answered text) = subst (TellsOfText input raw) is t in
    subst (λ o. CommandAnswers input (Text raw) Done o []) (sym same) (printed_text raw h.0 (string_bytes text) small h.1 h.2)

-- why it has none
pub binary_unprinted : (input : List ℕ) (raw : Bool) (told : Told) (line : Str Global) → length input ≤ text_limit → TellsOfText input raw told → told ≡ Refusal line → CommandAnswers input (Text raw) Refused [] (string_bytes line)
binary_unprinted input raw told line small t is =
    let h : TellsOfText input raw (Refusal line) = subst (TellsOfText input raw) is t in
    subst (CommandAnswers input (Text raw) Refused []) (sym h.3) (unprinted raw h.0 h.1 small h.2)

-- what is told of a plan
pub plan_composed : (input : List ℕ) (raw : Bool) (told : Composition) (out : Vec ℕ Global) → length input ≤ text_limit → TellsOfPlan input raw told → told ≡ Output out → CommandAnswers input (Compose raw) Done out.items []
plan_composed input raw told out small t is = composed raw out.items small (subst (TellsOfPlan input raw) is t)

pub plan_refused : (input : List ℕ) (raw : Bool) (told : Composition) (line : Str Global) → length input ≤ text_limit → TellsOfPlan input raw told → told ≡ NoComposition line → CommandAnswers input (Compose raw) Refused [] (string_bytes line)
plan_refused input raw told line small t is = uncomposed raw (string_bytes line) small (subst (TellsOfPlan input raw) is t)
