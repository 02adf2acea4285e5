-- What reading leaves, rows and lists of rows answers, where no scope stands in them.
use Rattle.std.specs.Prelude.{◌≡◌, ℕ, List, Bool, true, false, Result}
use Rattle.std.proofs.Common.{Bor}
use Rattle.comp_model.specs.Model as m
use Rattle.comp_model.specs.Model.{count_nodes}
use Rattle.comp_wire.specs.Table as t
use Rattle.comp_wire.specs.Table.{Field, Family}
use Rattle.comp_wire.specs.Spelled.{spell_leaf, FitsLeaf, spell_node, FitsNode, spell_nodes, FitsNodes}
use Rattle.wire_tree.specs.Model.{leaf_of}
use Rattle.wire_tree.specs.Lists.{node_of, nodes_listed}
use Rattle.wire_tree.specs.declared.tree.Leaf.{Leaf}
use Rattle.wire_tree.specs.declared.tree.Node.{Node}
use Rattle.wire_read.specs.Place.{Place}
use Rattle.wire_read.specs.Plain.{is_plain}
use Rattle.wire_read.specs.Within.{WithinLeaf, WithinNode, WithinNodes}
use Rattle.wire_read.specs.Stops.{Outcome}
use Rattle.wire_read.specs.declared.stop.Fault.{Fault}

-- the families whose rows show their end
abbrev pub is_closed : Family → Bool
is_closed t.components = false
is_closed t.core_modules = false
is_closed t.customs = false
is_closed _ = true

-- the fields whose leaves can be told by their bytes, and show their end
abbrev pub is_readable : Field → Bool
is_readable (t.optional f) = is_readable f
is_readable (t.result f) = is_readable f
is_readable (t.one g) = is_closed g
is_readable (t.each g) = is_closed g
is_readable (t.type_scope k) = true
is_readable f = is_plain f

abbrev pub OutcomeLeaf : Field → ℕ → Place → Place → Result Leaf Fault → Type 0
OutcomeLeaf f left old new r = Outcome leaf_of (λ (x : m.Leaf). FitsLeaf x f) (λ x. WithinLeaf x left) (λ x. spell_leaf x f) old new r

-- the same, of a leaf in the arena
abbrev pub OutcomeInner : Field → ℕ → Place → Place → Result (Bor Leaf) Fault → Type 0
OutcomeInner f left old new r = Outcome (λ (p : Bor Leaf). leaf_of p.now) (λ (x : m.Leaf). FitsLeaf x f) (λ x. WithinLeaf x left) (λ x. spell_leaf x f) old new r

abbrev pub OutcomeNode : Family → ℕ → Place → Place → Result Node Fault → Type 0
OutcomeNode f left old new r = Outcome node_of (λ (x : m.Node). FitsNode x f) (λ x. WithinNode x left) (λ x. spell_node x f) old new r

-- so many rows of a family
abbrev pub FitsMany : ℕ → Family → m.Nodes → Type 0
FitsMany n f ks = (count_nodes ks ≡ n) × FitsNodes ks f

abbrev pub OutcomeRows : ℕ → Family → ℕ → Place → Place → Result (Bor (List Node)) Fault → Type 0
OutcomeRows n f left old new r = Outcome (λ (p : Bor (List Node)). nodes_listed p.now) (FitsMany n f) (λ x. WithinNodes x left) (λ x. spell_nodes x f) old new r
