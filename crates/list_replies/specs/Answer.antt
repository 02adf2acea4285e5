-- What the words `list` and `order` answer, by the whole input.
use Rattle.std.specs.Prelude.{◌≡◌, ℕ, List, Bool}
use Rattle.comp_model.specs.Model.{Scope}
use Rattle.comp_list.specs.Listing.{listing}
use Rattle.comp_order.specs.Order.{order}
use Rattle.list_lines.specs.Lines.{list_lines, order_line}
use Rattle.binary_inputs.specs.Input.{IsRead, NotRead, InputRefused, Tells as TellsOf, TellsOfBytes as TellsBytesOf}
use Rattle.binary_inputs.specs.declared.told.Told.{Told}
use Rattle.list_replies.specs.declared.reply.Ask.{Ask}
use Rattle.list_replies.specs.declared.reply.Ask.TheVariants.{List as Listed, Order as Ordered}

-- what is printed of a component
abbrev pub lines_of : Scope → Ask → List ℕ
lines_of b Listed = list_lines (listing b)
lines_of b Ordered = order_line (order b)

-- the bytes are read as a component of which this is printed
pub record IsTold (ask : Ask) (bytes out : List ℕ) : Type 0 where
  pub component : Scope
  pub read : IsRead bytes component
  pub printed : out ≡ lines_of component ask

-- why an input is refused: it isn't hexadecimal, or its bytes aren't read
abbrev pub BinaryRefused : List ℕ → Bool → List ℕ → ℕ → Type 0
BinaryRefused = InputRefused NotRead

-- what is told of bytes
abbrev pub TellsOfBytes : List ℕ → Ask → Told → Type 0
TellsOfBytes bytes ask told = TellsBytesOf (IsTold ask) NotRead bytes told

-- what is told of an input
abbrev pub Tells : List ℕ → Bool → Ask → Told → Type 0
Tells input r ask told = TellsOf (IsTold ask) NotRead input r told
