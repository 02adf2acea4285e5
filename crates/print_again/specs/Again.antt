-- A component that is printed and encoded again.
use Rattle.std.specs.Prelude.{◌≡◌, false, [], None}
use Rattle.comp_model.specs.Model.{Scope}
use Rattle.comp_scopes.specs.Form.{form}
use Rattle.comp_wire.specs.Read.{FitsComponent}
use Rattle.print_table.specs.Printable.{IsPrintable}
use Rattle.print_table.specs.TextOf.{unnamed, text_of}
use Rattle.tree_print.specs.Cause.{cause}
use Rattle.tree_write.specs.Wire.{the_encoding}
use Rattle.wast_component.specs.Answer.{IsValid}
use Rattle.wast_component.specs.Whole.{in_text}

-- A component of a binary that is printed: it can be written, as all that is read can, it has a text, and nothing is against its being printed.
pub record IsPrinted (binary : Scope) : Type 0 where
  pub fits : FitsComponent binary
  pub printable : IsPrintable (unnamed binary)
  pub admitted : cause binary ≡ None

-- Its text is valid: that of a component which can be encoded, and whose binary form is the one that was printed, without its custom sections
-- of names.
pub record IsValidPrint (binary : Scope) : Type 0 where
  pub source : Scope
  pub valid : IsValid (text_of binary) false (in_text source)
  pub formed : form the_encoding [] source ≡ unnamed binary
