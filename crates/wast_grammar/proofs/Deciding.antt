-- The tests of a grammar, computed on the rows that have names.
use Rattle.std.proofs.Common.{◌≡◌, true, []}
use Rattle.wast_grammar.specs.Grammar.{Row, Test}
use Rattle.wast_grammar.specs.Rows.{text_row}
use Rattle.wast_grammar.specs.Clear.{clear, tests_of, heads, row_heads, always, always_row, never, never_row}
use Rattle.wast_grammar.proofs.NamedRows.{named_row}

pub clear_row : (r : Row) → clear (text_row r) ≡ true
clear_row r = (named_row r).4

pub settled_row : (r : Row) → tests_of (text_row r) ≡ []
settled_row r = (named_row r).5

pub heads_row : (r : Row) → heads (text_row r) ≡ row_heads r
heads_row r = (named_row r).6

pub always_row_is : (r : Row) (q : Test) → always (text_row r) q ≡ always_row r q
always_row_is r = (named_row r).7

pub never_row_is : (r : Row) (q : Test) → never (text_row r) q ≡ never_row r q
never_row_is r = (named_row r).8
