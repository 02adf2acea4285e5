-- The place of a type as the rows have it: in a signature, or in a field of its own.
use Rattle.wast_grammar.specs.CoreRows.{Place, Signature, Field}
use Rattle.core_parts.specs.declared.type_place.Place.{Place as Read}
use Rattle.core_parts.specs.declared.type_place.Place.TheVariants as read

abbrev pub place_of : Read → Place
place_of read.Signature = Signature
place_of read.Field = Field
