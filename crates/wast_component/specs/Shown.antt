-- What is given of a component's marks: all of them, or nothing, where nobody asks for them.
use Rattle.std.specs.Prelude.{◌≡◌, Option, Some, None, ⊤}
use Rattle.comp_model.specs.Origins.{Origins}
use Rattle.comp_wire.specs.Origins.{origins_of}
use Rattle.comp_wire.specs.declared.origin.ScopeOrigins.{ScopeOrigins}

abbrev pub Shows : Option ScopeOrigins → Origins → Type 0
Shows None marks = ⊤
Shows (Some given) marks = origins_of given ≡ marks
