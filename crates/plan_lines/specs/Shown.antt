-- Words of the code as words.
use Rattle.std.specs.Prelude.{ℕ, ◌+◌, ◌<◌, ◌≤◌, ◌≡◌, Bool, List, [], length, Option, Some, None}
use Rattle.plan_lines.specs.Words as w
use Rattle.plan_lines.specs.Lines as l
use Rattle.plan_lines.specs.declared.line.Argument.{Argument}
use Rattle.plan_lines.specs.declared.line.Kind.{Kind}
use Rattle.plan_lines.specs.declared.line.Kind.TheVariants as kind
use Rattle.plan_lines.specs.declared.line.Line.{Line}
use Rattle.plan_lines.specs.declared.line.Line.TheVariants as code
use Rattle.plan_lines.specs.Words.{pieces}
use Rattle.plan_lines.specs.declared.words.Word.{Word}

abbrev pub word_of : Word → w.Word
word_of x = w.word x.at x.bytes.now

-- where a word ends
abbrev pub span : Word → ℕ
span x = x.at + length x.bytes.now

-- the pieces of what is left, where there is something
abbrev pub rest_of : ℕ → Option Word → List w.Word
rest_of c None = []
rest_of c (Some x) = pieces c (word_of x)

-- what is left ends below this
abbrev pub SpansBelow : Option Word → ℕ → Type 0
SpansBelow None n = Unit {0}
SpansBelow (Some x) n = span x < n

abbrev pub Within : Option Word → ℕ → Type 0
Within None n = Unit {0}
Within (Some x) n = span x ≤ n

-- the bytes of a kind of word
abbrev pub test_of : Kind → ℕ → Bool
test_of kind.Name = l.is_name_byte
test_of kind.Text = l.is_text_byte
test_of kind.Digits = l.is_digit_byte

abbrev pub words_of : Word × Word → w.Word × w.Word
words_of p = (word_of p.0, word_of p.1)

abbrev pub argument_of : Argument → l.Argument
argument_of x = record { text = word_of x.text; instance = word_of x.instance }

-- what a line of the code says, where its arguments are arguments
abbrev pub line_of : Line → Option l.Line
line_of (code.Part name digits) = Some (l.a_part (word_of name) (word_of digits))
line_of (code.Instance name part rest) = l.instance_with (word_of name) (word_of part) (l.arguments (rest_of 32 rest))
line_of (code.Export text instance) = Some (l.an_export (word_of text) (word_of instance))

-- how much is left, by one more than the bytes
abbrev pub size : Option Word → ℕ
size None = 0
size (Some x) = length x.bytes.now + 1

-- a line of the code says this
abbrev pub Says : Option Line → Option l.Line → Type 0
Says None y = y ≡ None
Says (Some x) y = (z : l.Line) × (line_of x ≡ Some z) × (y ≡ Some z)

-- the words of a line end by here
abbrev pub WordsWithin : Line → ℕ → Type 0
WordsWithin (code.Part name digits) n = (span name ≤ n) × (span digits ≤ n)
WordsWithin (code.Instance name part rest) n = (span name ≤ n) × (span part ≤ n) × Within rest n
WordsWithin (code.Export text instance) n = (span text ≤ n) × (span instance ≤ n)

abbrev pub LineWithin : Option Line → ℕ → Type 0
LineWithin None n = Unit {0}
LineWithin (Some x) n = WordsWithin x n

-- the lines of what is left of a plan
abbrev pub lines_left : Option Word → List w.Word
lines_left left = w.without_empty_end (rest_of 10 left)
