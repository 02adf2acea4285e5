-- The printed name of each kind of refusal.
use Rattle.std.specs.Prelude.{ℕ, List, Option, None, Some, codes}
use Rattle.wast_tokens.specs.declared.error.LexFault.{LexFault}
use Rattle.wast_tokens.specs.declared.error.LexFault.TheVariants.{UnclosedString, BadStringChar, BadEscape, UnclosedComment, BadChar, EmptyId, BadIdText, Glued}
use Rattle.wast_tokens.specs.declared.error.FormKind.{FormKind}
use Rattle.wast_tokens.specs.declared.error.FormKind.TheVariants.{U1, U2, U3, U4, U5, U6, U7}
use Rattle.wast_tokens.specs.declared.error.CoreRule.{CoreRule}
use Rattle.wast_tokens.specs.declared.error.CoreRule.TheVariants.{Duplicate as CoreDuplicate, Unknown as CoreUnknown, ImportOrder, TypeMismatch}
use Rattle.wast_tokens.specs.declared.error.ErrorKind.{ErrorKind}
use Rattle.wast_tokens.specs.declared.error.ErrorKind.TheVariants.{TooBig, Lex, Parse, TooDeep, Module, Form, Duplicate, Unknown, OuterKind, OuterComponent, OuterCount, CoreExportKind, Core, Failed, NoMemory}

-- the name of a fault of the lexical grammar
abbrev pub lex_name : LexFault → List ℕ
lex_name UnclosedString = codes "Lex-UnclosedString"
lex_name BadStringChar = codes "Lex-BadStringChar"
lex_name BadEscape = codes "Lex-BadEscape"
lex_name UnclosedComment = codes "Lex-UnclosedComment"
lex_name BadChar = codes "Lex-BadChar"
lex_name EmptyId = codes "Lex-EmptyId"
lex_name BadIdText = codes "Lex-BadIdText"
lex_name Glued = codes "Lex-Glued"

-- the name of a form that is read and not written
abbrev pub form_name : FormKind → List ℕ
form_name U1 = codes "Form-U1"
form_name U2 = codes "Form-U2"
form_name U3 = codes "Form-U3"
form_name U4 = codes "Form-U4"
form_name U5 = codes "Form-U5"
form_name U6 = codes "Form-U6"
form_name U7 = codes "Form-U7"

-- the name of a rule that a core module breaks
abbrev pub core_name : CoreRule → List ℕ
core_name CoreDuplicate = codes "Core-Duplicate"
core_name CoreUnknown = codes "Core-Unknown"
core_name ImportOrder = codes "Core-ImportOrder"
core_name TypeMismatch = codes "Core-TypeMismatch"

-- the name of a kind; want of memory has none, since it says nothing of the text
abbrev pub kind_name : ErrorKind → Option (List ℕ)
kind_name (TooBig found limit) = Some (codes "TooBig")
kind_name (Lex fault) = Some (lex_name fault)
kind_name Parse = Some (codes "Parse")
kind_name TooDeep = Some (codes "TooDeep")
kind_name Module = Some (codes "Module")
kind_name (Form form) = Some (form_name form)
kind_name Duplicate = Some (codes "Duplicate")
kind_name Unknown = Some (codes "Unknown")
kind_name OuterKind = Some (codes "OuterKind")
kind_name OuterComponent = Some (codes "OuterComponent")
kind_name OuterCount = Some (codes "OuterCount")
kind_name CoreExportKind = Some (codes "CoreExportKind")
kind_name (Core rule) = Some (core_name rule)
kind_name Failed = Some (codes "Failed")
kind_name NoMemory = None
