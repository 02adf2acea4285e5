-- What is made of a row and leaves, as a leaf.
use Rattle.comp_model.specs.Model as m
use Rattle.text_rules.specs.Rule.{Wraps, a_node, inline, bundle}
use Rattle.tree_build.specs.declared.wraps.Making.{Making}
use Rattle.tree_build.specs.declared.wraps.Making.TheVariants as making

abbrev pub wraps_of : Making → Wraps
wraps_of making.Node = a_node
wraps_of (making.Inline u) = inline u
wraps_of (making.Bundle u) = bundle u

-- the leaf of the node that they are
abbrev pub leaf_made : Making → m.Node → m.Leaf
leaf_made making.Node n = m.node n
leaf_made (making.Inline u) n = m.ref u (m.inline n)
leaf_made (making.Bundle u) n = m.ref u (m.bundle n)
