-- What a visitor has found, as the definition has it.
use Rattle.comp_walks.specs.Sought.{Sought, nothing, own, inner, form_number, uncovered_of}
use Rattle.comp_walks.specs.declared.uncovered.Found.{Found}
use Rattle.comp_walks.specs.declared.uncovered.Found.TheVariants as found

abbrev pub sought_of : Found → Sought
sought_of found.Nothing = nothing
sought_of (found.Own f) = own (form_number f)
sought_of (found.Inner u) = inner (uncovered_of u)
