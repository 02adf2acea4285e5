-- Instructions by their words.
use Rattle.std.specs.Prelude.{ℕ, List, codes}
use Rattle.wast_grammar.specs.Stand.{Stand}
use Rattle.wast_grammar.specs.Grammar.{num, both, left, right}
use Rattle.wast_grammar.specs.Read.{Outcome, reads, andthen, read}
use Rattle.wast_grammar.specs.Rows.{reference}
use Rattle.wast_grammar.specs.CoreRows.{integer_32, integer_64}
use Rattle.core_parts.specs.declared.operation_words.Plain.{Plain}
use Rattle.core_parts.specs.declared.operation_words.Plain.TheVariants as plain
use Rattle.core_parts.specs.declared.operation_words.Indexed.{Indexed}
use Rattle.core_parts.specs.declared.operation_words.Indexed.TheVariants as indexed
use Rattle.core_parts.specs.declared.operation_words.Kind.{Kind}
use Rattle.core_parts.specs.declared.operation_words.Kind.TheVariants as kind

-- the numbers of instructions without an operand of their own in the table of their words
abbrev pub plain_number : Plain → ℕ
plain_number plain.Unreachable = 0
plain_number plain.Nop = 1
plain_number plain.Return = 2
plain_number plain.Drop = 3
plain_number plain.I32Add = 4
plain_number plain.I32Sub = 5
plain_number plain.I32Mul = 6

-- and those of instructions with an index
abbrev pub indexed_number : Indexed → ℕ
indexed_number indexed.Call = 0
indexed_number indexed.LocalGet = 1
indexed_number indexed.LocalSet = 2
indexed_number indexed.LocalTee = 3
indexed_number indexed.GlobalGet = 4
indexed_number indexed.GlobalSet = 5

-- the words
abbrev pub plain_word : Plain → List ℕ
plain_word plain.Unreachable = codes "unreachable"
plain_word plain.Nop = codes "nop"
plain_word plain.Return = codes "return"
plain_word plain.Drop = codes "drop"
plain_word plain.I32Add = codes "i32.add"
plain_word plain.I32Sub = codes "i32.sub"
plain_word plain.I32Mul = codes "i32.mul"

abbrev pub indexed_word : Indexed → List ℕ
indexed_word indexed.Call = codes "call"
indexed_word indexed.LocalGet = codes "local.get"
indexed_word indexed.LocalSet = codes "local.set"
indexed_word indexed.LocalTee = codes "local.tee"
indexed_word indexed.GlobalGet = codes "global.get"
indexed_word indexed.GlobalSet = codes "global.set"

abbrev pub word_of : Kind → List ℕ
word_of (kind.Plain p) = plain_word p
word_of (kind.Indexed i) = indexed_word i
word_of kind.I32Const = codes "i32.const"
word_of kind.I64Const = codes "i64.const"

-- what reading comes to behind the word
abbrev pub operands_of : Kind → Stand → Outcome
operands_of (kind.Plain p) s = reads (left (num (plain_number p))) s
operands_of (kind.Indexed i) s = andthen (read reference s) (λ v r. reads (right (left (both (num (indexed_number i)) v))) r)
operands_of kind.I32Const s = andthen (read integer_32 s) (λ v r. reads (right (right (left v))) r)
operands_of kind.I64Const s = andthen (read integer_64 s) (λ v r. reads (right (right (right v))) r)
