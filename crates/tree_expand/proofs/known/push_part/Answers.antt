use Rattle.std.proofs.Common.{[], ◌∷◌}
use Rattle.type_keys.specs.PartsOf.{part_of}
use Rattle.tree_expand.proofs.KeyLists.{none_shows}
use Rattle.tree_expand.proofs.known.push_part.Goals as goal

pub returns-in-None : goal.returns-in-None
returns-in-None c = λ ps h. none_shows c.args.key.now ps (part_of c.args.part ∷ []) c.in-None.is h
