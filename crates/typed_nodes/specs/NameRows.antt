-- A list of names alone, as flags and enumerations have it.
use Rattle.std.specs.Prelude.{List}
use Rattle.std.proofs.Common.{Bor}
use Rattle.comp_model.specs.Core.{Text}
use Rattle.comp_model.specs.declared.row.Row.TheVariants as rows
use Rattle.comp_model.specs.Model.{text, no_leaf, ◌▸◌, Nodes}
use Rattle.typed_nodes.specs.Lists.{entries}

abbrev pub name_nodes : List (Bor Text) → Nodes
name_nodes names = entries rows.LoneName (λ t. text t.now ▸ no_leaf) names
