-- The references of a definition of a binary component (Component Model, binary format): its indices, in the order of its leaves.
use Rattle.std.specs.Prelude.{ℕ, List, [], ◌∷◌, ◌++◌, Option, Some, None}
use Rattle.comp_model.specs.declared.Space.{Space}
use Rattle.comp_model.specs.declared.Space.TheVariants.{CoreType}
use Rattle.comp_model.specs.declared.row.Row.TheVariants as rows
use Rattle.comp_model.specs.declared.row.Row.{Row}
use Rattle.comp_model.specs.Core.{CoreValue, counted, ref_index}
use Rattle.comp_model.specs.Model as m
use Rattle.comp_model.specs.Model.{Leaf, Leaves, no_leaf, ◌▸◌, row, Nodes, no_node, one_node}
use Rattle.comp_list.specs.declared.reference.Reference.{Reference}

abbrev pub reference : Space → ℕ → Reference
reference s i = record { space = s; index = i }

-- an index in a core value type is one of a core type
abbrev pub value_references : CoreValue → List Reference
value_references (ref_index nullable i) = reference CoreType i ∷ []
value_references _ = []

-- the references of a part in leaf order, those of the scopes in it left out
abbrev mutual
  pub leaf_references : Leaf → List Reference
  leaf_references (m.ref s (m.index i)) = reference s i ∷ []
  leaf_references (m.core_value v) = value_references v
  leaf_references (m.present l) = leaf_references l
  leaf_references (m.node (row t ls)) = references ls
  leaf_references (m.nodes ns) = node_references ns
  leaf_references _ = []

  pub references : Leaves → List Reference
  references no_leaf = []
  references (l ▸ ls) = leaf_references l ++ references ls

  pub node_references : Nodes → List Reference
  node_references no_node = []
  node_references (one_node (row t ls) ns) = references ls ++ node_references ns

-- at most one reference
abbrev pub maybe_reference : Option Reference → List Reference
maybe_reference None = []
maybe_reference (Some r) = r ∷ []

-- how many scopes outward an outer alias refers
abbrev pub outer_count : Row → Leaves → Option ℕ
outer_count rows.AliasOuter (m.place (counted o c) ▸ ls) = Some c
outer_count _ _ = None
