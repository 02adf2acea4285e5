use Rattle.std.proofs.Common.{◌≡◌, List, [], ◌++◌, take}
use Rattle.comp_tree.specs.Model.{path_from, root_of}
use Rattle.type_keys.specs.Keys.{Part, path_key}
use Rattle.tree_expand.specs.KeyParts.{KeyShows}
use Rattle.tree_expand.proofs.key.push_path.Given as goal

abbrev pub invariant-loop-i : goal.invariant-loop-i
invariant-loop-i l = (ps : List Part) → KeyShows l.initial.key ps → (qs : List Part) × KeyShows l.key qs × (qs ++ path_key (path_from (root_of l.path.root) (take l.i l.path.exports.now)) [] ≡ ps ++ path_key (path_from (root_of l.path.root) l.path.exports.now) [])
