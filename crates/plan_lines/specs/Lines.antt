-- The plan of a composition: its lines, the words of a line, and what a line says.
--
--     line = "part" name digits
--          | "instance" name part ( text "=" instance )*
--          | "export" text instance
--
-- A line ends with a line feed, which the last one may lack; exactly one space stands between two words.
use Rattle.std.specs.Prelude.{ℕ, ◌==◌, Bool, ◌&&◌, ◌||◌, ◌≤◌, nat_le, true, false, not, List, [], ◌∷◌, codes, bytes_eq, Option, Some, None, if◌then◌else◌}
use Rattle.std.specs.List.{list_all}
use Rattle.plan_lines.specs.Words.{Word, word, split, pieces, without_empty_end}

-- an argument of an instance: the text that names it, and the name of the instance that is passed
pub record Argument : Type 0 where
  pub text : Word
  pub instance : Word

pub data Line : Type 0 where
  -- a component by its bytes in hexadecimal
  a_part : (name digits : Word) → Line
  -- a part instantiated
  an_instance : (name part : Word) → List Argument → Line
  -- an instance exported
  an_export : (text instance : Word) → Line

abbrev pub is_between : ℕ → ℕ → ℕ → Bool
is_between first b last = nat_le first b && nat_le b last

-- a letter from `a` to `z`, a digit or `-`
abbrev pub is_name_byte : ℕ → Bool
is_name_byte b = is_between 97 b 122 || (is_between 48 b 57 || b == 45)

-- a character of ASCII that is printed, without the space and `=`
abbrev pub is_text_byte : ℕ → Bool
is_text_byte b = is_between 33 b 126 && not (b == 61)

-- a hexadecimal digit of either case
abbrev pub is_digit_byte : ℕ → Bool
is_digit_byte b = is_between 48 b 57 || (is_between 65 b 70 || is_between 97 b 102)

abbrev pub is_empty : List ℕ → Bool
is_empty [] = true
is_empty (b ∷ bs) = false

-- one or more bytes that pass
abbrev pub made_of : (ℕ → Bool) → Word → Bool
made_of test w = not (is_empty w.bytes) && list_all test w.bytes

-- two words of these kinds, and no other
abbrev pub two_of : (ℕ → Bool) → (ℕ → Bool) → List Word → Option (Word × Word)
two_of first second [] = None
two_of first second (v ∷ []) = None
two_of first second (v ∷ w ∷ []) = if made_of first v && made_of second w then Some (v, w) else None
two_of first second (v ∷ w ∷ x ∷ ws) = None

-- TEXT=INSTANCE
abbrev pub argument_with : Option (Word × Word) → Option Argument
argument_with None = None
argument_with (Some p) = Some (record { text = p.0; instance = p.1 })

abbrev pub argument : Word → Option Argument
argument w = argument_with (two_of is_text_byte is_name_byte (pieces 61 w))

abbrev pub more : Option Argument → Option (List Argument) → Option (List Argument)
more None as' = None
more (Some a) None = None
more (Some a) (Some as') = Some (a ∷ as')

-- each of these words is an argument
abbrev pub arguments : List Word → Option (List Argument)
arguments [] = Some []
arguments (w ∷ ws) = more (argument w) (arguments ws)

-- what follows the first word of each sort of line
abbrev pub part_with : Option (Word × Word) → Option Line
part_with None = None
part_with (Some p) = Some (a_part p.0 p.1)

abbrev pub export_with : Option (Word × Word) → Option Line
export_with None = None
export_with (Some p) = Some (an_export p.0 p.1)

abbrev pub instance_with : Word → Word → Option (List Argument) → Option Line
instance_with name part None = None
instance_with name part (Some as') = Some (an_instance name part as')

abbrev pub part_line : List Word → Option Line
part_line ws = part_with (two_of is_name_byte is_digit_byte ws)

abbrev pub export_line : List Word → Option Line
export_line ws = export_with (two_of is_text_byte is_name_byte ws)

abbrev pub instance_line : List Word → Option Line
instance_line [] = None
instance_line (name ∷ []) = None
instance_line (name ∷ part ∷ ws) = if made_of is_name_byte name && made_of is_name_byte part then instance_with name part (arguments ws) else None

-- what these words say; none where they are no line
abbrev pub line_of : List Word → Option Line
line_of [] = None
line_of (w ∷ ws) =
    if bytes_eq w.bytes (codes "part") then part_line ws else if bytes_eq w.bytes (codes "instance") then instance_line ws
    else if bytes_eq w.bytes (codes "export") then export_line ws else None

-- what a line says
abbrev pub line : Word → Option Line
line w = line_of (pieces 32 w)

-- the lines of a plan, each without its line feed
abbrev pub lines : List ℕ → List Word
lines plan = without_empty_end (split 10 0 plan)

-- the offset of the first that says nothing
abbrev pub or_later : ℕ → Option Line → Option ℕ → Option ℕ
or_later at None later = Some at
or_later at (Some l) later = later

abbrev pub first_bad : List Word → Option ℕ
first_bad [] = None
first_bad (w ∷ ws) = or_later w.at (line w) (first_bad ws)

-- what lines say, those aside that say nothing
abbrev pub in_front : Option Line → List Line → List Line
in_front None ls = ls
in_front (Some l) ls = l ∷ ls

abbrev pub said : List Word → List Line
said [] = []
said (w ∷ ws) = in_front (line w) (said ws)
