-- How a reader of rules goes down: the tokens that are left, and the parts of a rule.
use Rattle.std.specs.Prelude.{◌≡◌, ℕ, true, ◌≤◌, ◌+◌, ◌*◌, cond}
use Rattle.wast_grammar.specs.Shape.{guarded, sound}
use Rattle.wast_grammar.specs.Stand.{Stand}
use Rattle.wast_grammar.specs.Read.{left_of}
use Rattle.text_rules.specs.Rule.{Rule, nothing, before, after, placed, keeps, reference, told, pair, either, by_test, many, many_by, case, no_case, row, checked, also, wraps, outside, marks, silent, skipping, reads}

-- how many parts a rule has
abbrev pub size : Rule → ℕ
size nothing = 1
size (before c r) = size r + 1
size (after r c) = size r + 1
size (placed b c) = 1
size (keeps k) = 1
size (reference u r) = 1
size (told ws ns) = 1
size (pair a b) = size a + size b + 1
size (either t a b) = size a + size b + 1
size (by_test t a b) = size a + size b + 1
size (many t a) = size a + 3
size (many_by t a) = size a + 3
size (case n t a b) = size a + size b + 1
size no_case = 1
size (row r) = 1
size (checked a) = size a + 1
size (also r x) = size r + 1
size (wraps w r) = size r + 3
size (outside o) = 1
size (marks r) = size r + 1
size (silent k) = 1
size (skipping r) = size r + 1

-- the most parts that a rule may have, which those of the table keep
abbrev pub most : ℕ
most = 2000

-- What falls with each step of a reader: the tokens that are left, and then the parts of the rule; a rule that may come to a row before its
-- first token is above each that doesn't.
abbrev pub rank : Rule → Stand → ℕ
rank r s = 4002 * left_of s + (size r + cond (guarded (reads r)) 0 2001)

-- a rule that a reader takes
pub record Fit (r : Rule) : Type 0 where
  pub sound : sound (reads r) ≡ true
  pub small : size r ≤ most
