-- The class of a byte, by which it is told what begins with it.
use Rattle.std.specs.Prelude.{ℕ, ◌==◌, cond}
use Rattle.wast_tokens.specs.declared.chars.Class.{Class}
use Rattle.wast_tokens.specs.declared.chars.Class.TheVariants as class
use Rattle.wast_tokens.specs.declared.chars.Beginning.{Beginning}
use Rattle.wast_tokens.specs.declared.chars.Beginning.TheVariants.{Space, LineComment, BlockComment, Annotation, Opening, Closing, Run, Nothing}
use Rattle.wast_tokens.specs.Chars.{is_id_char, is_space, is_reserved_mark}

-- the class of a byte
unfoldable pub class_of : ℕ → Class
class_of b =
    cond (is_id_char b) class.Id
    (cond (b == 34) class.Quote
    (cond (is_space b) class.Space
    (cond (b == 40) class.Opening
    (cond (b == 41) class.Closing
    (cond (b == 59) class.Semicolon
    (cond (is_reserved_mark b) class.Mark class.Other))))))

-- what begins with a byte of a class, given the byte behind it
unfoldable pub begun_in : Class → ℕ → Beginning
begun_in class.Id next = Run
begun_in class.Quote next = Run
begun_in class.Space next = Space
begun_in class.Opening next = cond (next == 59) BlockComment (cond (next == 64) Annotation Opening)
begun_in class.Closing next = Closing
begun_in class.Semicolon next = cond (next == 59) LineComment Run
begun_in class.Mark next = Run
begun_in class.Other next = Nothing
