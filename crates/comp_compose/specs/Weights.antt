-- How many bytes of a plan a line takes at least, by its words; and that its texts are texts.
use Rattle.std.specs.Prelude.{◌≡◌, ℕ, ◌+◌, ◌≤◌, true, List, [], ◌∷◌, length}
use Rattle.plan_lines.specs.Words.{Word}
use Rattle.plan_lines.specs.Lines.{Argument, Line, a_part, an_instance, an_export, made_of, is_text_byte}

abbrev pub weight : List Argument → ℕ
weight [] = 0
weight (a ∷ as') = length a.text.bytes + 3 + weight as'

abbrev pub IsText : Word → Type 0
IsText w = made_of is_text_byte w ≡ true

abbrev pub AreTexts : List Argument → Type 0
AreTexts [] = Unit {0}
AreTexts (a ∷ as') = IsText a.text × AreTexts as'

-- the line takes no more bytes than these
abbrev pub Takes : Line → ℕ → Type 0
Takes (a_part name digits) n = length digits.bytes + 1 ≤ n
Takes (an_instance name part as') n = (weight as' + 4 ≤ n) × AreTexts as'
Takes (an_export text instance) n = (length text.bytes + 3 ≤ n) × IsText text
