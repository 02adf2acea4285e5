-- A number has one printed name.
use Rattle.std.proofs.Common.{◌≡◌, refl, sym, ◌∙◌, ap, ℕ, List, [], ◌∷◌, ◌++◌, replicate, get_or, Option}
use Rattle.wast_tokens.specs.declared.error.LexFault.TheVariants.{UnclosedString, BadStringChar, BadEscape, UnclosedComment, BadChar, EmptyId, BadIdText, Glued}
use Rattle.wast_tokens.specs.declared.error.FormKind.TheVariants.{U1, U2, U3, U4, U5, U6, U7}
use Rattle.wast_tokens.specs.declared.error.CoreRule.TheVariants.{Duplicate as CoreDuplicate, Unknown as CoreUnknown, ImportOrder, TypeMismatch}
use Rattle.wast_tokens.specs.declared.error.ErrorKind.{ErrorKind}
use Rattle.wast_tokens.specs.declared.error.ErrorKind.TheVariants.{TooBig, Lex, Parse, TooDeep, Module, Form, Duplicate, Unknown, OuterKind, OuterComponent, OuterCount, CoreExportKind, Core, Failed, NoMemory}
use Rattle.wast_refusals.specs.Kinds.{kind_name}
use Rattle.wast_c.specs.Kinds.{kind_number}

-- the kinds by their numbers
abbrev kinds : List ErrorKind
kinds =
    (NoMemory ∷ TooBig 0 0 ∷ Parse ∷ TooDeep ∷ Module ∷ Duplicate ∷ Unknown ∷ OuterKind ∷ OuterComponent ∷ OuterCount ∷ CoreExportKind ∷ Failed ∷ [])
    ++ replicate 5 NoMemory
    ++ (Lex UnclosedString ∷ Lex BadStringChar ∷ Lex BadEscape ∷ Lex UnclosedComment ∷ Lex BadChar ∷ Lex EmptyId ∷ Lex BadIdText ∷ Lex Glued ∷ [])
    ++ replicate 8 NoMemory
    ++ (Form U1 ∷ Form U2 ∷ Form U3 ∷ Form U4 ∷ Form U5 ∷ Form U6 ∷ Form U7 ∷ [])
    ++ replicate 9 NoMemory
    ++ (Core CoreDuplicate ∷ Core CoreUnknown ∷ Core ImportOrder ∷ Core TypeMismatch ∷ [])

-- the name of the kind with a number
abbrev name_of : ℕ → Option (List ℕ)
name_of number = kind_name (get_or kinds number NoMemory)

named : (kind : ErrorKind) → name_of (kind_number kind) ≡ kind_name kind
named (TooBig found limit) = refl
named (Lex UnclosedString) = refl
named (Form U1) = refl
named (Core CoreDuplicate) = refl
named _ = refl

pub one_name : (a b : ErrorKind) → kind_number a ≡ kind_number b → kind_name a ≡ kind_name b
one_name a b e = sym (named a) ∙ ap name_of e ∙ named b
