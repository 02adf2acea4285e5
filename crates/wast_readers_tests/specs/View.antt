-- What a value that was read stands for: a value of its row.
use Rattle.wast_grammar.specs.Grammar.{Value, both, none, num, text, left, right, numbered}
use Rattle.wast_parser.specs.View.{option_view}
use Rattle.wast_readers_tests.specs.declared.any_order.Attributes.{Attributes}
use Rattle.wast_readers_tests.specs.declared.by_second.Part.{Part}
use Rattle.wast_readers_tests.specs.declared.by_second.Part.TheVariants.{Param, Result}
use Rattle.wast_readers_tests.specs.declared.several.Setting.{Setting}
use Rattle.wast_readers_tests.specs.declared.several.Setting.TheVariants.{Size, Name, Off}
use Rattle.wast_readers_tests.specs.declared.older.Limit.{Limit}
use Rattle.wast_readers_tests.specs.declared.older.Limit.TheVariants.{Grouped, Plain}

-- a parameter is the first of the choice
abbrev pub part_view : Part → Value
part_view (Param n) = left (num n)
part_view (Result n) = right (num n)

-- a setting, by its number
abbrev pub setting_view : Setting → Value
setting_view (Size n) = numbered 0 (num n)
setting_view (Name n) = numbered 1 (text n.now)
setting_view Off = numbered 2 none

-- a limit in parentheses is the first of the choice
abbrev pub limit_view : Limit → Value
limit_view (Grouped n) = left (num n)
limit_view (Plain n) = right (num n)

-- each attribute, or none
abbrev pub attributes_view : Attributes → Value
attributes_view a = both (option_view num a.align) (both (option_view num a.offset) (both (option_view num a.page) none))
