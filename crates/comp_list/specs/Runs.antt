-- Items of one space in a row, as code has them.
use Rattle.std.specs.Prelude.{List, [], ◌∷◌, replicate}
use Rattle.comp_model.specs.declared.Space.{Space}
use Rattle.comp_model.specs.declared.declares.Declares.{Declares}
use Rattle.comp_model.specs.declared.declares.Declares.TheVariants.{ByReference}
use Rattle.comp_list.specs.declared.runs.Run.{Run}

-- the space of items, once for each
abbrev pub run_of : Run → List Space
run_of r = replicate r.count r.space

-- what a reference gives
abbrev pub reference_spaces : Space → Declares → List Space
reference_spaces s ByReference = s ∷ []
reference_spaces s _ = []
