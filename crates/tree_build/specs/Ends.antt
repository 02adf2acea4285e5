-- Where lists end, behind which the parts of a definition stand.
use Rattle.std.specs.Prelude.{◌≡◌, ℕ, ◌≤◌, length, take}
use Rattle.text_rules.specs.Made.{Made}
use Rattle.tree_build.specs.declared.definitions.DefEnds.{DefEnds}
use Rattle.tree_build.specs.declared.scratch.Scratch.{Scratch}

-- no list is shorter
pub record HasDefEnds (n : DefEnds) (s : Scratch) : Type 0 where
  pub leaves : n.leaves ≤ length s.leaves.items
  pub ids : n.ids ≤ length s.ids.items
  pub labels : n.labels ≤ length s.labels.items
  pub exports : n.exports ≤ length s.exports.items

-- the ends of what is held now
pub record AtDefEnds (n : DefEnds) (s : Scratch) : Type 0 where
  pub rows : n.rows ≡ length s.rows.items
  pub leaves : n.leaves ≡ length s.leaves.items
  pub ids : n.ids ≡ length s.ids.items
  pub labels : n.labels ≡ length s.labels.items
  pub exports : n.exports ≡ length s.exports.items
  pub places : n.places ≡ length s.places.items

-- these parts have those ends
pub record IsAtDefEnds (n : DefEnds) (a : Made) : Type 0 where
  pub rows : length a.rows ≡ n.rows
  pub leaves : length a.leaves ≡ n.leaves
  pub ids : length a.ids ≡ n.ids
  pub labels : length a.labels ≡ n.labels
  pub exports : length a.exports ≡ n.exports
  pub places : length a.places ≡ n.places

-- no names stand behind the ends
pub record Nameless (n : DefEnds) (s : Scratch) : Type 0 where
  pub ids : length s.ids.items ≤ n.ids
  pub labels : length s.labels.items ≤ n.labels
  pub exports : length s.exports.items ≤ n.exports

-- the names behind the ends go, and all else stays
pub record NamesGo (n : DefEnds) (p q : Scratch) : Type 0 where
  pub ids : q.ids.items ≡ take n.ids p.ids.items
  pub labels : q.labels.items ≡ take n.labels p.labels.items
  pub exports : q.exports.items ≡ take n.exports p.exports.items
  pub rows : q.rows ≡ p.rows
  pub leaves : q.leaves ≡ p.leaves
  pub nodes : q.nodes ≡ p.nodes
  pub places : q.places ≡ p.places
  pub defs : q.defs ≡ p.defs
  pub cores : q.cores ≡ p.cores
