-- The words of the command, and what they ask for.
use Rattle.std.specs.Prelude.{◌≡◌, ℕ, List, [], ◌∷◌, Bool, true, false, ◌&&◌, cond, codes, Option, Some, None, ⊤}
use Rattle.std.specs.Str.{bytes_eq}
use Rattle.sample_text.specs.Count.{count_of}
use Rattle.list_replies.specs.declared.reply.Ask.TheVariants.{List as ToList, Order as ToOrder}
use Rattle.wast_prog.specs.declared.command.Print.TheVariants.{Hex, Raw, Origins}
use Rattle.wast_prog.specs.declared.command.Command.{Command}
use Rattle.wast_prog.specs.declared.command.Command.TheVariants.{Encode, Sample, Binary, Text, Compose}

-- the words behind `encode`, and what they ask for: each at most once, in any order
abbrev pub encode_words : List (List (List ℕ) × Command)
encode_words =
    ([], Encode false Hex)
    ∷ (codes "--legacy" ∷ [], Encode true Hex)
    ∷ (codes "--raw" ∷ [], Encode false Raw)
    ∷ (codes "--legacy" ∷ codes "--raw" ∷ [], Encode true Raw)
    ∷ (codes "--raw" ∷ codes "--legacy" ∷ [], Encode true Raw)
    ∷ []

-- the words behind `origins`
abbrev pub origins_words : List (List (List ℕ) × Command)
origins_words =
    ([], Encode false Origins)
    ∷ (codes "--legacy" ∷ [], Encode true Origins)
    ∷ []

-- the words after a command that takes `--raw` alone, and what they ask for without it and with it
abbrev pub raw_words : Command → Command → List (List (List ℕ) × Command)
raw_words bare raw =
    ([], bare)
    ∷ (codes "--raw" ∷ [], raw)
    ∷ []

-- the same words in the same order
abbrev pub are_same : List (List ℕ) → List (List ℕ) → Bool
are_same [] [] = true
are_same [] (y ∷ ys) = false
are_same (x ∷ xs) [] = false
are_same (x ∷ xs) (y ∷ ys) = are_same xs ys && bytes_eq x y

-- what a table has beside these words
abbrev pub asked_by : List (List (List ℕ) × Command) → List (List ℕ) → Option Command
asked_by [] words = None
asked_by (r ∷ rs) words = cond (are_same words r.0) (Some r.1) (asked_by rs words)

-- a sample of so many types
abbrev pub sample_of : Option ℕ → Option Command
sample_of None = None
sample_of (Some count) = Some (Sample count)

-- the words behind `gen`: one numeral
abbrev pub sample_asked : List (List ℕ) → Option Command
sample_asked [] = None
sample_asked (word ∷ []) = sample_of (count_of word)
sample_asked (word ∷ more ∷ words) = None

-- what the words behind the name of a command ask for
abbrev pub named : List ℕ → List (List ℕ) → Option Command
named name words =
    cond (bytes_eq name (codes "encode")) (asked_by encode_words words)
    (cond (bytes_eq name (codes "origins")) (asked_by origins_words words)
    (cond (bytes_eq name (codes "gen")) (sample_asked words)
    (cond (bytes_eq name (codes "list")) (asked_by (raw_words (Binary false ToList) (Binary true ToList)) words)
    (cond (bytes_eq name (codes "order")) (asked_by (raw_words (Binary false ToOrder) (Binary true ToOrder)) words)
    (cond (bytes_eq name (codes "print")) (asked_by (raw_words (Text false) (Text true)) words)
    (cond (bytes_eq name (codes "compose")) (asked_by (raw_words (Compose false) (Compose true)) words)
    None))))))

-- what the words of a command ask for; no other words are one
abbrev pub command : List (List ℕ) → Option Command
command [] = None
command (name ∷ words) = named name words

-- the words are a command
abbrev pub IsCommand : List (List ℕ) → Type 0
IsCommand words = (asked : Command) × (command words ≡ Some asked)

-- a command reads its input
abbrev pub ReadsInput : Command → Type 0
ReadsInput (Encode legacy print) = ⊤
ReadsInput (Sample count) = ⊥
ReadsInput (Binary raw ask) = ⊤
ReadsInput (Text raw) = ⊤
ReadsInput (Compose raw) = ⊤

-- the words are a command that reads its input
abbrev pub AskForInput : List (List ℕ) → Type 0
AskForInput words = (asked : Command) × (command words ≡ Some asked) × ReadsInput asked
