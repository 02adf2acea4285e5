-- Room below 2 ^ 32 for what parts of a definition need at most: as many more items of each space, and as many references.
use Rattle.std.specs.Prelude.{ℕ, ◌+◌, ◌<◌, ◌^◌, List, Option}
use Rattle.comp_model.specs.declared.Space.{Space}
use Rattle.comp_model.specs.Model.{Leaf, Leaves, Nodes}
use Rattle.comp_scopes.specs.References.{references, references_leaf, references_nodes}
use Rattle.comp_tables.specs.Bounds.{most_needs, most_needs_leaf, most_needs_nodes}
use Rattle.comp_tables.specs.Tables.{Counters, Opened}
use Rattle.comp_tables.specs.Walks.{counters_in}
use Rattle.open_scopes.specs.declared.scopes.Open.{Open}
use Rattle.open_scopes.specs.Shown.{OpenScopesShow}
use Rattle.tree_names.specs.declared.reading.Reading.{Reading}
use Rattle.tree_names.specs.declared.sums.Sums.{Sums}
use Rattle.tree_names.specs.Counted.{SumsShow}
use Rattle.tree_names.specs.Read.{ReadsFrom}
use Rattle.tree_names.specs.Served.{ServedBy, all_served, leaf_served, nodes_served}

-- for so many more items of any space
abbrev pub CountersHaveRoom : List ℕ → ℕ → Type 0
CountersHaveRoom counts n = (s : Space) → counters_in counts s + n < 2 ^ 32

-- in what was counted, which stands for some counters and aliases
pub record SumsHaveRoom (a : Sums) (n : ℕ) : Type 0 where
  pub counters : Counters
  pub shown : SumsShow a counters
  pub room : CountersHaveRoom a.counters n

-- in what was read, for so many more references as well
pub record HasRoom (a : Reading) (needs refs : ℕ) : Type 0 where
  pub counters : CountersHaveRoom a.counters needs
  pub place : a.place + refs < 2 ^ 32

abbrev pub RoomForLeaf : Reading → Leaf → Type 0
RoomForLeaf a l = HasRoom a (most_needs_leaf l) (references_leaf l)

-- where this serves the names of the part that lead out, among some open scopes that are shown
pub record ReadsInRoom (os : List Open) (a : Reading) (served : ServedBy) (needs refs : ℕ) : Type 0 where
  pub scopes : List Opened
  pub shown : OpenScopesShow os scopes
  pub counters : Counters
  pub more : List (Option ℕ)
  pub from : ReadsFrom a counters (served scopes counters) more
  pub room : HasRoom a needs refs

abbrev pub LeafInRoom : List Open → Reading → Leaf → Type 0
LeafInRoom os a l = ReadsInRoom os a (λ ms. leaf_served ms l) (most_needs_leaf l) (references_leaf l)

abbrev pub LeavesInRoom : List Open → Reading → Leaves → Type 0
LeavesInRoom os a ls = ReadsInRoom os a (λ ms. all_served ms ls) (most_needs ls) (references ls)

abbrev pub NodesInRoom : List Open → Reading → Nodes → Type 0
NodesInRoom os a ns = ReadsInRoom os a (λ ms. nodes_served ms ns) (most_needs_nodes ns) (references_nodes ns)
