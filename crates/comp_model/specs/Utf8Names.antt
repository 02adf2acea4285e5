-- Which texts of a component are names, in UTF-8 (Component Model, binary format; WebAssembly binary format, Names), and which are bytes: the payload of
-- a custom section. What is written in a text has names in UTF-8; bytes are read as a component whatever its names are, so this is no part of `FitsRows`.
use Rattle.std.specs.Prelude.{Bool, true, IsTrue, List, [], ◌∷◌, ⊤}
use Rattle.std.specs.Str.{is_utf8}
use Rattle.comp_model.specs.Core.{Text}
use Rattle.comp_model.specs.Model.{Leaf, text, ref, present, node, nodes, scope, Target, path, inline, bundle, Path, export_of, Leaves, no_leaf, ◌▸◌, row, Nodes, no_node, one_node, define, Defs, no_def, one_def, Scope, scope_of}
use Rattle.comp_model.specs.Rows.{Shape, a_payload, leaves_of, the_option}

-- a payload has any bytes
abbrev pub is_spelled : Shape → Text → Bool
is_spelled a_payload t = true
is_spelled s t = is_utf8 t

-- the names of exports that a path goes by, and those of inline exports
abbrev pub Utf8Path : Path → Type 0
Utf8Path (export_of p x) = IsTrue (is_utf8 x) × Utf8Path p
Utf8Path p = ⊤

abbrev pub Utf8Texts : List Text → Type 0
Utf8Texts [] = ⊤
Utf8Texts (x ∷ xs) = IsTrue (is_utf8 x) × Utf8Texts xs

abbrev mutual
  pub Utf8Leaf : Leaf → Shape → Type 0
  Utf8Leaf (text t) s = IsTrue (is_spelled s t)
  Utf8Leaf (ref r t) s = Utf8Target t
  Utf8Leaf (present l) s = Utf8Leaf l (the_option s)
  Utf8Leaf (node (row t ls)) s = Utf8Leaves ls (leaves_of t)
  Utf8Leaf (nodes ns) s = Utf8Nodes ns
  Utf8Leaf (scope (scope_of k id label ds)) s = Utf8Defs ds
  Utf8Leaf l s = ⊤

  pub Utf8Target : Target → Type 0
  Utf8Target (path p) = Utf8Path p
  Utf8Target (inline (row t ls)) = Utf8Leaves ls (leaves_of t)
  Utf8Target (bundle (row t ls)) = Utf8Leaves ls (leaves_of t)
  Utf8Target t = ⊤

  -- leaves behind those of the row are none, by `FitsRows`
  pub Utf8Leaves : Leaves → List Shape → Type 0
  Utf8Leaves no_leaf ss = ⊤
  Utf8Leaves (l ▸ ls) [] = ⊤
  Utf8Leaves (l ▸ ls) (s ∷ ss) = Utf8Leaf l s × Utf8Leaves ls ss

  pub Utf8Nodes : Nodes → Type 0
  Utf8Nodes no_node = ⊤
  Utf8Nodes (one_node (row t ls) ns) = Utf8Leaves ls (leaves_of t) × Utf8Nodes ns

  pub Utf8Defs : Defs → Type 0
  Utf8Defs no_def = ⊤
  Utf8Defs (one_def (define names (row t ls)) ds) = Utf8Texts names.exports × Utf8Leaves ls (leaves_of t) × Utf8Defs ds

-- each name of a definition, of an entry and of a step of a path is UTF-8
abbrev pub NamesAreUtf8 : Scope → Type 0
NamesAreUtf8 (scope_of k id label ds) = Utf8Defs ds
