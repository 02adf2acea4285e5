-- What the names of parts of a definition denote among open scopes, in the order in which they stand there: those of references, and the
-- roots of paths.
use Rattle.std.specs.Prelude.{◌≡◌, List, [], ◌∷◌, ◌++◌, Option, option_map}
use Rattle.comp_model.specs.declared.Space.{Space}
use Rattle.comp_model.specs.declared.Space.TheVariants.{CoreType}
use Rattle.comp_model.specs.Core.{Id, Reach, own, ref_name}
use Rattle.comp_model.specs.Model.{Leaf, core_value, ref, present, node, nodes, name, Path, root_number, root_name, export_of, path, Leaves, no_leaf, ◌▸◌, row, Nodes, no_node, one_node, define, Defs, no_def, one_def}
use Rattle.comp_scopes.specs.References.{instance_space}
use Rattle.comp_tables.specs.Tables.{Opened, found}
use Rattle.open_scopes.specs.declared.lookup.Found.{Found}
use Rattle.open_scopes.specs.declared.scopes.Open.{Open}
use Rattle.open_scopes.specs.Shown.{OpenScopesShow, found_of}

module _ (os : List Opened) where
  abbrev pub name_found : Space → Reach → Id → Option Found
  name_found s r x = option_map found_of (found os s r x)

  -- the root of a path to an item of a space, if it is a name
  abbrev pub root_found : Space → Path → List (Option Found)
  root_found s (root_number o n) = []
  root_found s (root_name x) = name_found s own x ∷ []
  root_found s (export_of p t) = root_found (instance_space s) p

  abbrev mutual
    pub all_found : Leaves → List (Option Found)
    all_found no_leaf = []
    all_found (l ▸ ls) = leaf_found l ++ all_found ls

    pub leaf_found : Leaf → List (Option Found)
    leaf_found (core_value (ref_name b r x)) = name_found CoreType r x ∷ []
    leaf_found (ref s (name r x)) = name_found s r x ∷ []
    leaf_found (ref s (path p)) = root_found s p
    leaf_found (present l) = leaf_found l
    leaf_found (node (row t ls)) = all_found ls
    leaf_found (nodes ns) = nodes_found ns
    leaf_found _ = []

    pub nodes_found : Nodes → List (Option Found)
    nodes_found no_node = []
    nodes_found (one_node (row t ls) ns) = all_found ls ++ nodes_found ns

  -- those of a list of definitions
  abbrev pub defs_found : Defs → List (Option Found)
  defs_found no_def = []
  defs_found (one_def (define names (row t ls)) ds) = all_found ls ++ defs_found ds

-- a list has grown by them
abbrev pub FoundBehind : List Open → (List Opened → List (Option Found)) → List (Option Found) → List (Option Found) → Type 0
FoundBehind os f old new = (ms : List Opened) → OpenScopesShow os ms → (behind : List (Option Found)) → new ++ behind ≡ old ++ (f ms ++ behind)

-- a list holds them and nothing else
abbrev pub FoundAll : List Open → (List Opened → List (Option Found)) → List (Option Found) → Type 0
FoundAll os f xs = (ms : List Opened) → OpenScopesShow os ms → xs ≡ f ms

-- a list has grown from `first` to `now`, by those of all parts and those of the parts that are left
abbrev pub FoundSoFar : List Open → (List Opened → List (Option Found)) → (List Opened → List (Option Found)) → List (Option Found) → List (Option Found) → Type 0
FoundSoFar os all rest first now = (ms : List Opened) → OpenScopesShow os ms → (behind : List (Option Found)) → now ++ (rest ms ++ behind) ≡ first ++ (all ms ++ behind)

-- they stand in front of what is left of a list
abbrev pub FoundFirst : List Open → (List Opened → List (Option Found)) → List (Option Found) → Type 0
FoundFirst os f left = (ms : List Opened) → OpenScopesShow os ms → (more : List (Option Found)) × (left ≡ f ms ++ more)

-- and were taken from there
abbrev pub FoundTaken : List Open → (List Opened → List (Option Found)) → List (Option Found) → List (Option Found) → Type 0
FoundTaken os f old new = (ms : List Opened) → OpenScopesShow os ms → old ≡ f ms ++ new
