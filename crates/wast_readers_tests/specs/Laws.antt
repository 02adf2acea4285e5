-- The rows can be read from left to right, and their tests decide.
use Rattle.std.specs.Prelude.{◌≡◌, true, refl}
use Rattle.wast_grammar.specs.Grammar.{whole}
use Rattle.wast_grammar.specs.Shape.{sound}
use Rattle.wast_grammar.specs.Clear.{clear}
use Rattle.wast_readers_tests.specs.Rows.{attributes}

pub sound_attributes : sound attributes ≡ true
unfolding attributes
sound_attributes = refl

pub clear_attributes : clear (whole attributes) ≡ true
unfolding attributes
clear_attributes = refl
