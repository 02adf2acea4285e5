-- Where all lists end.
use Rattle.std.specs.Prelude.{◌≡◌, ◌≤◌, length}
use Rattle.text_rules.specs.Made.{Made}
use Rattle.tree_build.specs.declared.rare.Ends.{Ends}
use Rattle.tree_build.specs.declared.scratch.Scratch.{Scratch}

-- no list is shorter
pub record HasEnds (n : Ends) (s : Scratch) : Type 0 where
  pub rows : n.rows ≤ length s.rows.items
  pub leaves : n.leaves ≤ length s.leaves.items
  pub nodes : n.nodes ≤ length s.nodes.items
  pub ids : n.ids ≤ length s.ids.items
  pub labels : n.labels ≤ length s.labels.items
  pub exports : n.exports ≤ length s.exports.items
  pub places : n.places ≤ length s.places.items
  pub defs : n.defs ≤ length s.defs.items

-- the ends of what is held now
pub record AtEnds (n : Ends) (s : Scratch) : Type 0 where
  pub rows : n.rows ≡ length s.rows.items
  pub leaves : n.leaves ≡ length s.leaves.items
  pub nodes : n.nodes ≡ length s.nodes.items
  pub ids : n.ids ≡ length s.ids.items
  pub labels : n.labels ≡ length s.labels.items
  pub exports : n.exports ≡ length s.exports.items
  pub places : n.places ≡ length s.places.items
  pub defs : n.defs ≡ length s.defs.items

-- these parts have those ends
pub record IsAtEnds (n : Ends) (a : Made) : Type 0 where
  pub rows : length a.rows ≡ n.rows
  pub leaves : length a.leaves ≡ n.leaves
  pub nodes : length a.nodes ≡ n.nodes
  pub ids : length a.ids ≡ n.ids
  pub labels : length a.labels ≡ n.labels
  pub exports : length a.exports ≡ n.exports
  pub places : length a.places ≡ n.places
  pub defs : length a.defs ≡ n.defs
