-- The numbers in the text of the references that are left in a definition, as code keeps them.
use Rattle.std.specs.Prelude.{ℕ, List}
use Rattle.comp_tree.specs.Marks.{places_of}
use Rattle.tree_expand.specs.declared.places.Places.{Places}

-- those that stand there, or else so many, from 0 on
abbrev pub places_now : Places → List ℕ
places_now p = places_of p.list.items p.count
