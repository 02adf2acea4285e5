-- A group of the annotation of producers can be read from left to right.
use Rattle.std.specs.Prelude.{◌≡◌, true, refl}
use Rattle.wast_grammar.specs.Grammar.{group}
use Rattle.wast_grammar.specs.Shape.{sound}
use Rattle.wast_grammar.specs.CoreRows.{producer}

pub sound_producer_group : sound (group producer) ≡ true
unfolding producer
sound_producer_group = refl
