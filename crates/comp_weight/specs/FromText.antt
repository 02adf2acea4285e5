-- What a text gives: a component that is written by the table of rows, with names where the text format has them, in UTF-8, and with
-- numbers as its tokens hold them.
use Rattle.comp_model.specs.Model.{Scope}
use Rattle.comp_model.specs.Rows.{FitsRows}
use Rattle.comp_model.specs.Utf8Names.{NamesAreUtf8}
use Rattle.comp_model.specs.Written.{IsWritten}
use Rattle.comp_model.specs.NamesFit.{NamesFit}
use Rattle.comp_weight.specs.Numerals.{NumeralsShort}

pub record FromText (s : Scope) : Type 0 where
  pub rows : FitsRows s
  pub written : IsWritten s
  pub names : NamesFit s
  pub utf8 : NamesAreUtf8 s
  pub numerals : NumeralsShort s
