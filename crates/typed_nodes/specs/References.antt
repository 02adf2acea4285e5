-- The two parts of a leaf that is a reference: its root, and the names of exports behind it.
use Rattle.std.specs.Prelude.{List, [], ◌∷◌, Option, Some, None}
use Rattle.std.proofs.Common.{Bor}
use Rattle.comp_model.specs.Core.{Text}
use Rattle.comp_tree.specs.declared.tree.Leaf as l
use Rattle.wast_parser.specs.declared.index.Index.{Index}
use Rattle.wast_parser.specs.declared.index.Index.TheVariants.{Num, Id}

abbrev pub root_at : l.Leaf → Index
root_at (l.Numeral u n o) = Num n o
root_at (l.Name u r i) = Id i.now
root_at (l.Path u p) = p.now.root
root_at _ = Num 0 (record { offset = 0 })

abbrev pub steps_at : l.Leaf → List (Bor Text)
steps_at (l.Path u p) = p.now.exports.now
steps_at _ = []

-- a name that may be missing
abbrev pub lone_name : Option (Bor Text) → List (Bor Text)
lone_name None = []
lone_name (Some t) = t ∷ []
