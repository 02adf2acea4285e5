-- What stands loose, in the model.
use Rattle.std.specs.Prelude.{ℕ, List, map, option_map, Option, Some, None}
use Rattle.comp_model.specs.CoreModules.{CoreModule, Field}
use Rattle.core_model.specs.Module.{module_with}
use Rattle.comp_model.specs.Model as m
use Rattle.text_rules.specs.Made.{Made}
use Rattle.comp_tree.specs.Model.{leaf_of, id_of, lent_text}
use Rattle.comp_tree.specs.Lists.{node_of, def_of}
use Rattle.comp_tree.specs.declared.tree.Leaf.{Leaf}
use Rattle.comp_tree.specs.declared.tree.Leaf as l
use Rattle.tree_build.specs.Cores.{fields_at, no_naming}
use Rattle.tree_build.specs.declared.scratch.Scratch.{Scratch}

-- the number of a leaf that is a core module
abbrev pub core_number : Leaf → Option ℕ
core_number (l.Core n) = Some n
core_number x = None

-- a core module that has no names yet, by the number of its fields; any other leaf as it is
abbrev pub unnamed : List (List Field) → Option ℕ → m.Leaf → m.Leaf
unnamed fs None x = x
unnamed fs (Some n) x = m.core_source (module_with no_naming (fields_at fs n))

module _ (fs : List (List Field)) (cs : List CoreModule) where
  -- a loose leaf
  abbrev pub loose : Leaf → m.Leaf
  loose x = unnamed fs (core_number x) (leaf_of cs x)

  abbrev pub held : Scratch → Made
  held s = record {
    rows = s.rows.items;
    leaves = map loose s.leaves.items;
    nodes = map (node_of cs) s.nodes.items;
    ids = map (option_map id_of) s.ids.items;
    labels = map (option_map lent_text) s.labels.items;
    exports = map lent_text s.exports.items;
    places = s.places.items;
    defs = map (def_of cs) s.defs.items;
  }
