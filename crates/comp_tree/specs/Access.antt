-- What a leaf holds, if it is a text, a list or a scope.
use Rattle.std.specs.Prelude.{Option, Some, None}
use Rattle.std.proofs.Common.{Bor}
use Rattle.comp_model.specs.Core.{Text}
use Rattle.comp_model.specs.Model as m
use Rattle.comp_tree.specs.declared.tree.Leaf.{Leaf}
use Rattle.comp_tree.specs.declared.tree.Leaf as l

-- a text in one piece
abbrev pub text_in : Leaf → Option (Bor Text)
text_in (l.Text t) = Some t
text_in _ = None

abbrev pub nodes_in : m.Leaf → Option m.Nodes
nodes_in (m.nodes ns) = Some ns
nodes_in _ = None

abbrev pub scope_in : m.Leaf → Option m.Scope
scope_in (m.scope s) = Some s
scope_in _ = None
