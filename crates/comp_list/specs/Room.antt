-- Whether each number of a listing has room in 32 bits.
use Rattle.std.specs.Prelude.{ℕ, ◌+◌, length}
use Rattle.comp_model.specs.Model as m
use Rattle.comp_model.specs.Model.{Leaf, Leaves, no_leaf, ◌▸◌, Node, row, Nodes, no_node, one_node, define, Defs, no_def, one_def, Scope, scope_of}
use Rattle.comp_wire.specs.Sections.{Word}
use Rattle.comp_list.specs.Places.{row_references, row_spaces}

-- those of the definition of number n at this level: its own number, the level of a scope in it, and those of its references and parts
abbrev pub NumbersFit : Node → ℕ → ℕ → Type 0
NumbersFit d level n = Word (n + 1) × Word (level + 1) × Word (length (row_references d)) × Word (length (row_spaces d))

-- those of the scopes in a part, and in each definition from number n on
abbrev mutual
  pub ScopeFits : Scope → ℕ → Type 0
  ScopeFits (scope_of k id label ds) level = DefsFit ds level 0

  pub DefsFit : Defs → ℕ → ℕ → Type 0
  DefsFit no_def level n = Unit {0}
  DefsFit (one_def (define names d) ds) level n = NumbersFit d level n × RowFits d (level + 1) × DefsFit ds level (n + 1)

  pub RowFits : Node → ℕ → Type 0
  RowFits (row t ls) level = LeavesFit ls level

  pub LeafFits : Leaf → ℕ → Type 0
  LeafFits (m.scope s) level = ScopeFits s level
  LeafFits (m.present l) level = LeafFits l level
  LeafFits (m.node n) level = RowFits n level
  LeafFits (m.nodes ns) level = NodesFit ns level
  LeafFits _ level = Unit {0}

  pub LeavesFit : Leaves → ℕ → Type 0
  LeavesFit no_leaf level = Unit {0}
  LeavesFit (l ▸ ls) level = LeafFits l level × LeavesFit ls level

  pub NodesFit : Nodes → ℕ → Type 0
  NodesFit no_node level = Unit {0}
  NodesFit (one_node n ns) level = RowFits n level × NodesFit ns level

-- Each number of the lines of a component has room.
abbrev pub NumbersHaveRoom : Scope → Type 0
NumbersHaveRoom b = ScopeFits b 0
