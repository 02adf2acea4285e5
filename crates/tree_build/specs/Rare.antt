-- What is rarely made of loose parts.
use Rattle.std.specs.Prelude.{◌≡◌, List, take}
use Rattle.comp_model.specs.CoreModules.{CoreModule, Field}
use Rattle.text_rules.specs.Made.{Made, join, front, behind}
use Rattle.text_rules.specs.Rule.{Wraps}
use Rattle.text_rules.specs.Makes.{wrapped}
use Rattle.tree_build.specs.Cores.{Final, Grows}
use Rattle.tree_build.specs.Held.{held}
use Rattle.tree_build.specs.declared.rare.Ends.{Ends}
use Rattle.tree_build.specs.declared.scratch.Scratch.{Scratch}

-- of what stands behind these ends, something is made, which never fails
abbrev pub Makes : Wraps → (Made → Type 0) → Scratch → Scratch → Type 0
Makes w At p q = Grows p.cores q.cores × ((fs : List (List Field)) (cs : List CoreModule) → Final fs cs q.cores → (a : Made) → At a → held fs cs q ≡ join (front a (held fs cs p)) (wrapped w (behind a (held fs cs p))))

-- what stands behind the ends goes
pub record Cut (n : Ends) (p q : Scratch) : Type 0 where
  pub rows : q.rows.items ≡ take n.rows p.rows.items
  pub leaves : q.leaves.items ≡ take n.leaves p.leaves.items
  pub nodes : q.nodes.items ≡ take n.nodes p.nodes.items
  pub ids : q.ids.items ≡ take n.ids p.ids.items
  pub labels : q.labels.items ≡ take n.labels p.labels.items
  pub exports : q.exports.items ≡ take n.exports p.exports.items
  pub places : q.places.items ≡ take n.places p.places.items
  pub defs : q.defs.items ≡ take n.defs p.defs.items
  pub cores : q.cores ≡ p.cores
