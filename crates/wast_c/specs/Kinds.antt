-- The number of each kind of refusal, as C has it: `enum wast_kind` of include/wast.h has the same lines.
use Rattle.std.specs.Prelude.{◌≡◌, ℕ, List, Some}
use Rattle.wast_tokens.specs.declared.error.LexFault.{LexFault}
use Rattle.wast_tokens.specs.declared.error.LexFault.TheVariants.{UnclosedString, BadStringChar, BadEscape, UnclosedComment, BadChar, EmptyId, BadIdText, Glued}
use Rattle.wast_tokens.specs.declared.error.FormKind.{FormKind}
use Rattle.wast_tokens.specs.declared.error.FormKind.TheVariants.{U1, U2, U3, U4, U5, U6, U7}
use Rattle.wast_tokens.specs.declared.error.CoreRule.{CoreRule}
use Rattle.wast_tokens.specs.declared.error.CoreRule.TheVariants.{Duplicate as CoreDuplicate, Unknown as CoreUnknown, ImportOrder, TypeMismatch}
use Rattle.wast_tokens.specs.declared.error.ErrorKind.{ErrorKind}
use Rattle.wast_tokens.specs.declared.error.ErrorKind.TheVariants.{TooBig, Lex, Parse, TooDeep, Module, Form, Duplicate, Unknown, OuterKind, OuterComponent, OuterCount, CoreExportKind, Core, Failed, NoMemory}
use Rattle.wast_refusals.specs.Kinds.{kind_name}

-- the number of a fault of the lexical grammar
abbrev pub lex_number : LexFault → ℕ
lex_number UnclosedString = 17
lex_number BadStringChar = 18
lex_number BadEscape = 19
lex_number UnclosedComment = 20
lex_number BadChar = 21
lex_number EmptyId = 22
lex_number BadIdText = 23
lex_number Glued = 24

-- the number of a form that is read and not written
abbrev pub form_number : FormKind → ℕ
form_number U1 = 33
form_number U2 = 34
form_number U3 = 35
form_number U4 = 36
form_number U5 = 37
form_number U6 = 38
form_number U7 = 39

-- the number of a rule that a core module breaks
abbrev pub core_number : CoreRule → ℕ
core_number CoreDuplicate = 49
core_number CoreUnknown = 50
core_number ImportOrder = 51
core_number TypeMismatch = 52

-- the number of a kind; want of memory has 0, as it says nothing of the text
abbrev pub kind_number : ErrorKind → ℕ
kind_number (TooBig found limit) = 1
kind_number (Lex fault) = lex_number fault
kind_number Parse = 2
kind_number TooDeep = 3
kind_number Module = 4
kind_number (Form form) = form_number form
kind_number Duplicate = 5
kind_number Unknown = 6
kind_number OuterKind = 7
kind_number OuterComponent = 8
kind_number OuterCount = 9
kind_number CoreExportKind = 10
kind_number (Core rule) = core_number rule
kind_number Failed = 11
kind_number NoMemory = 0

-- the printed name of the kind with a number
abbrev pub HasName : ℕ → List ℕ → Type 0
HasName number name = (kind : ErrorKind) × (kind_number kind ≡ number) × (kind_name kind ≡ Some name)
