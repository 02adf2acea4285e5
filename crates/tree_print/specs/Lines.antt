-- The table of printed lines by rows: what the types of code are in the table of the definitions.
use Rattle.std.specs.Prelude.{List, [], ◌∷◌, ◌++◌, map, codes}
use Rattle.print_table.specs.Tokens as printed
use Rattle.print_table.specs.Lines as t
use Rattle.tree_print.specs.Words.{word_text}
use Rattle.tree_print.specs.declared.line.Part.{Part}
use Rattle.tree_print.specs.declared.line.Part.TheVariants as part
use Rattle.tree_print.specs.declared.line.Field.{Field}
use Rattle.tree_print.specs.declared.line.Field.TheVariants as field
use Rattle.tree_print.specs.declared.line.Piece.{Piece}
use Rattle.tree_print.specs.declared.line.Piece.TheVariants as piece
use Rattle.tree_print.specs.declared.line.Frame.{Frame}
use Rattle.tree_print.specs.declared.line.Frame.TheVariants as frame
use Rattle.tree_print.specs.declared.line.Line.{Line}

abbrev pub part_of : Part → t.Field
part_of part.Value = t.value
part_of part.Number = t.number
part_of part.One = t.one

abbrev pub field_of : Field → t.Field
field_of field.Number = t.number
field_of field.Text = t.string
field_of field.Payload = t.payload
field_of field.Primitive = t.primitive
field_of field.Value = t.value
field_of field.CoreValue = t.core_value
field_of field.Element = t.element
field_of (field.Flag x) = t.flag (word_text x)
field_of field.OpensMutable = t.opens_mutable
field_of field.ClosesMutable = t.closes_mutable
field_of field.Kind = t.kind
field_of field.CoreKind = t.core_kind
field_of field.OuterKind = t.outer_kind
field_of field.Item = t.item
field_of field.CoreItem = t.core_item
field_of (field.Optional p) = t.optional (part_of p)
field_of (field.OptionalIn x p) = t.optional_in (word_text x) (part_of p)
field_of field.One = t.one
field_of field.Each = t.each
field_of (field.EachIn x) = t.each_in (word_text x)
field_of field.Results = t.results
field_of field.Definitions = t.definitions

abbrev pub piece_of : Piece → t.Piece
piece_of piece.Open = t.token printed.opening
piece_of piece.Close = t.token printed.closing
piece_of (piece.Word x) = t.token (printed.word (codes (word_text x)))
piece_of (piece.Leaf i f) = t.leaf i (field_of f)

-- the tokens in front of the pieces of a line, and behind them
abbrev pub head_of : Frame → List printed.PrintedToken
head_of frame.Bare = []
head_of (frame.Group x) = printed.opening ∷ printed.word (codes (word_text x)) ∷ []
head_of frame.Custom = printed.note (codes "(@custom") ∷ []
head_of (frame.TypeOf x) = printed.opening ∷ printed.word (codes "type") ∷ printed.opening ∷ printed.word (codes (word_text x)) ∷ []
head_of (frame.BuiltIn x) = printed.opening ∷ printed.word (codes "canon") ∷ printed.word (codes (word_text x)) ∷ []

abbrev pub tail_of : Frame → List printed.PrintedToken
tail_of frame.Bare = []
tail_of (frame.Group x) = printed.closing ∷ []
tail_of frame.Custom = printed.closing ∷ []
tail_of (frame.TypeOf x) = printed.closing ∷ printed.closing ∷ []
tail_of (frame.BuiltIn x) = printed.opening ∷ printed.word (codes "core") ∷ printed.word (codes "func") ∷ printed.closing ∷ printed.closing ∷ []

abbrev pub all_tokens : List printed.PrintedToken → List t.Piece
all_tokens xs = map t.token xs

-- a line in the table of the definitions
abbrev pub line_pieces : Line → List t.Piece
line_pieces l = all_tokens (head_of l.frame) ++ (map piece_of l.pieces.now ++ all_tokens (tail_of l.frame))
