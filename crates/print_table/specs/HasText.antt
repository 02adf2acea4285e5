-- Which components have a text, as a test by the table: a text is UTF-8 but for the bytes of a custom section, a kind has words, the
-- element of a table is a reference, and each row has a line.
use Rattle.std.specs.Prelude.{ℕ, zero, suc, nat_lt, Bool, true, false, ◌&&◌, ◌||◌, List, [], ◌∷◌}
use Rattle.std.specs.List.{list_all}
use Rattle.std.specs.Str.{is_utf8}
use Rattle.comp_model.specs.declared.row.Row.TheVariants as rows
use Rattle.comp_model.specs.declared.row.Row.{Row}
use Rattle.comp_model.specs.Core as c
use Rattle.comp_model.specs.Core.{CoreValue}
use Rattle.comp_model.specs.Model as m
use Rattle.comp_model.specs.Model.{Leaf, Leaves, no_leaf, ◌▸◌, Node, row, Nodes, no_node, one_node, define, Defs, no_def, one_def, Scope, scope_of}
use Rattle.comp_model.specs.declared.row.ScopeKind.{ScopeKind}
use Rattle.print_table.specs.Tokens.{PrintedToken}
use Rattle.print_table.specs.Lines as line
use Rattle.print_table.specs.Lines.{Field, Piece, token, leaf, definition_in, inner_line}
use Rattle.print_table.specs.TextOf.{kind_words, core_kind_words, outer_kind_words}

abbrev pub has_words : List PrintedToken → Bool
has_words [] = false
has_words (x ∷ xs) = true

abbrev pub is_reference : CoreValue → Bool
is_reference (c.ref_func b) = true
is_reference (c.ref_extern b) = true
is_reference (c.ref_index b i) = true
is_reference _ = false

-- the test of the leaf at a place
abbrev pub has_at : ℕ → Field → List (Field → Bool) → Bool
has_at i f [] = false
has_at zero f (g ∷ gs) = g f
has_at (suc i) f (g ∷ gs) = has_at i f gs

abbrev pub pieces_have : List Piece → List (Field → Bool) → Bool
pieces_have [] gs = true
pieces_have (token x ∷ ps) gs = pieces_have ps gs
pieces_have (leaf i f ∷ ps) gs = has_at i f gs && pieces_have ps gs

abbrev pub line_has : List Piece → List (Field → Bool) → Bool
line_has [] gs = false
line_has (p ∷ ps) gs = pieces_have (p ∷ ps) gs

abbrev mutual
  pub leaf_has : Leaf → Field → Bool
  leaf_has (m.text x) line.string = is_utf8 x
  leaf_has (m.kind s) line.kind = has_words (kind_words s)
  leaf_has (m.kind s) line.core_kind = has_words (core_kind_words s)
  leaf_has (m.kind s) line.outer_kind = has_words (outer_kind_words s)
  leaf_has (m.ref s t) line.item = has_words (kind_words s)
  leaf_has (m.ref s t) line.core_item = has_words (core_kind_words s)
  leaf_has (m.core_value v) line.element = is_reference v
  leaf_has (m.present l) (line.optional f) = leaf_has l f
  leaf_has (m.present l) (line.optional_in x f) = leaf_has l f
  leaf_has (m.node n) line.one = node_has n
  leaf_has (m.nodes ns) line.each = nodes_have ns
  leaf_has (m.nodes ns) (line.each_in x) = nodes_have ns
  leaf_has (m.scope (scope_of k id label ds)) line.definitions = definitions_have k ds
  leaf_has _ _ = true

  pub leaves_have : Leaves → List (Field → Bool)
  leaves_have no_leaf = []
  leaves_have (l ▸ ls) = leaf_has l ∷ leaves_have ls

  pub node_has : Node → Bool
  node_has (row t ls) = line_has (inner_line t) (leaves_have ls)

  pub nodes_have : Nodes → Bool
  nodes_have no_node = true
  nodes_have (one_node n ns) = node_has n && nodes_have ns

  pub definition_has : ScopeKind → Node → Bool
  definition_has k (row t ls) = line_has (definition_in k t) (leaves_have ls)

  pub definitions_have : ScopeKind → Defs → Bool
  definitions_have k no_def = true
  definitions_have k (one_def (define names n) ds) = definition_has k n && definitions_have k ds

-- whether a component has a text; its custom sections of names are no part of it
abbrev pub has_text : Scope → Bool
has_text (scope_of k id label ds) = definitions_have k ds

abbrev pub is_core_module : Row → Bool
is_core_module rows.CoreModule = true
is_core_module _ = false

-- whether a core module is defined in it, or in a component in it
abbrev mutual
  pub leaf_holds_module : Leaf → Bool
  leaf_holds_module (m.scope (scope_of k id label ds)) = definitions_hold_module ds
  leaf_holds_module _ = false

  pub leaves_hold_module : Leaves → Bool
  leaves_hold_module no_leaf = false
  leaves_hold_module (l ▸ ls) = leaf_holds_module l || leaves_hold_module ls

  pub definition_holds_module : Node → Bool
  definition_holds_module (row t ls) = is_core_module t || leaves_hold_module ls

  pub definitions_hold_module : Defs → Bool
  definitions_hold_module no_def = false
  definitions_hold_module (one_def (define names n) ds) = definition_holds_module n || definitions_hold_module ds

abbrev pub holds_module : Scope → Bool
holds_module (scope_of k id label ds) = definitions_hold_module ds

-- whether the texts of definitions are of bytes, as all are that stand in a file
abbrev mutual
  pub leaf_has_bytes : Leaf → Bool
  leaf_has_bytes (m.text x) = list_all (λ b. nat_lt b 256) x
  leaf_has_bytes (m.scope (scope_of k id label ds)) = definitions_have_bytes ds
  leaf_has_bytes _ = true

  pub leaves_have_bytes : Leaves → Bool
  leaves_have_bytes no_leaf = true
  leaves_have_bytes (l ▸ ls) = leaf_has_bytes l && leaves_have_bytes ls

  pub definition_has_bytes : Node → Bool
  definition_has_bytes (row t ls) = leaves_have_bytes ls

  pub definitions_have_bytes : Defs → Bool
  definitions_have_bytes no_def = true
  definitions_have_bytes (one_def (define names n) ds) = definition_has_bytes n && definitions_have_bytes ds

abbrev pub has_bytes : Scope → Bool
has_bytes (scope_of k id label ds) = definitions_have_bytes ds
