-- A scope with its marks, and the component of the text to which they fold back.
use Rattle.comp_model.specs.Model.{Scope}
use Rattle.comp_scopes.specs.Rowed.{Rowed}
use Rattle.comp_expanded.specs.OfText.{OfText}
use Rattle.comp_expanded.specs.Expands.{Expands}
use Rattle.comp_expanded.specs.ListMarks.{ListMarks}
use Rattle.tree_resolve.specs.Alone.{ScopesAlone}

-- `expanded` with the marks `origins` is an expansion of `source`, a component of the text
pub record IsSource (source expanded : Scope) (origins : ListMarks) : Type 0 where
  pub rowed : Rowed source
  pub alone : ScopesAlone source
  pub of_text : OfText source
  pub expands : Expands source expanded origins
