-- The text of a component: the table applied to rows and leaves.
use Rattle.std.specs.Prelude.{ℕ, zero, suc, Bool, true, false, cond, nat_eq, bytes_eq, List, [], ◌∷◌, ◌++◌, codes}
use Rattle.comp_model.specs.declared.Space.{Space}
use Rattle.comp_model.specs.declared.Space.TheVariants.{CoreFunc, CoreTable, CoreMemory, CoreGlobal, CoreTag, CoreType, CoreModule, Func, Value, Ty, Component, Instance}
use Rattle.comp_model.specs.declared.row.Row.TheVariants as rows
use Rattle.comp_model.specs.declared.row.Row.{Row}
use Rattle.comp_model.specs.RowNumbers.{same_row}
use Rattle.comp_model.specs.Core as c
use Rattle.comp_model.specs.Core.{CoreValue}
use Rattle.comp_model.specs.Model as m
use Rattle.comp_model.specs.Model.{Leaf, Leaves, no_leaf, ◌▸◌, Node, row, Nodes, no_node, one_node, Def, define, Defs, no_def, one_def, Scope, scope_of}
use Rattle.comp_model.specs.declared.row.ScopeKind.{ScopeKind}
use Rattle.print_table.specs.Tokens as printed
use Rattle.print_table.specs.Tokens.{PrintedToken, opening, closing, numeral, text_of_tokens}
use Rattle.print_table.specs.Lines as line
use Rattle.print_table.specs.Lines.{Field, Piece, token, leaf, definition_in, inner_line}
use Prim.Native.String.{String}

abbrev pub a_word : String → List PrintedToken
a_word x = printed.word (codes x) ∷ []

abbrev pub words : String → String → List PrintedToken
words x y = printed.word (codes x) ∷ printed.word (codes y) ∷ []

-- ---- words

-- the words of primitive types by their bytes (Component Model, text format, Type Definitions)
abbrev pub primitive_in : List (ℕ × String) → ℕ → List PrintedToken
primitive_in [] n = []
primitive_in (x ∷ xs) n = cond (nat_eq x.0 n) (a_word x.1) (primitive_in xs n)

abbrev pub primitive_words : List (ℕ × String)
primitive_words =
    (0x7f, "bool") ∷ (0x7e, "s8") ∷ (0x7d, "u8") ∷ (0x7c, "s16") ∷ (0x7b, "u16") ∷ (0x7a, "s32") ∷ (0x79, "u32") ∷ (0x78, "s64") ∷ (0x77, "u64") ∷ (0x76, "f32") ∷ (0x75, "f64")
    ∷ (0x74, "char") ∷ (0x73, "string") ∷ (0x64, "error-context") ∷ []

-- ekind: the words of an item that a component exports; other core items have none (Component Model, text format, Instance Definitions)
abbrev pub kind_words : Space → List PrintedToken
kind_words CoreModule = words "core" "module"
kind_words Func = a_word "func"
kind_words Value = a_word "value"
kind_words Ty = a_word "type"
kind_words Component = a_word "component"
kind_words Instance = a_word "instance"
kind_words _ = []

-- ckind: those of an item that a core module exports
abbrev pub core_kind_words : Space → List PrintedToken
core_kind_words CoreFunc = a_word "func"
core_kind_words CoreTable = a_word "table"
core_kind_words CoreMemory = a_word "memory"
core_kind_words CoreGlobal = a_word "global"
core_kind_words CoreTag = a_word "tag"
core_kind_words _ = []

-- okind: those of an item that is aliased from an enclosing scope
abbrev pub outer_kind_words : Space → List PrintedToken
outer_kind_words CoreModule = words "core" "module"
outer_kind_words CoreType = words "core" "type"
outer_kind_words Ty = a_word "type"
outer_kind_words Component = a_word "component"
outer_kind_words _ = []

-- (ref X), or (ref null X)
abbrev pub reference : Bool → List PrintedToken → List PrintedToken
reference true xs = opening ∷ printed.word (codes "ref") ∷ printed.word (codes "null") ∷ (xs ++ closing ∷ [])
reference false xs = opening ∷ printed.word (codes "ref") ∷ (xs ++ closing ∷ [])

-- a core value type (WebAssembly text format, Value Types)
abbrev pub value_tokens : CoreValue → List PrintedToken
value_tokens c.i32 = a_word "i32"
value_tokens c.i64 = a_word "i64"
value_tokens c.f32 = a_word "f32"
value_tokens c.f64 = a_word "f64"
value_tokens c.v128 = a_word "v128"
value_tokens (c.ref_func true) = a_word "funcref"
value_tokens (c.ref_func false) = reference false (a_word "func")
value_tokens (c.ref_extern true) = a_word "externref"
value_tokens (c.ref_extern false) = reference false (a_word "extern")
value_tokens (c.ref_index b i) = reference b (numeral i ∷ [])
value_tokens _ = []

-- ---- rows and leaves

abbrev pub in_group : String → List PrintedToken → List PrintedToken
in_group x xs = opening ∷ printed.word (codes x) ∷ (xs ++ closing ∷ [])

-- (result (value)), so many times
abbrev pub results_tokens : ℕ → List PrintedToken
results_tokens zero = []
results_tokens (suc n) = opening ∷ printed.word (codes "result") ∷ opening ∷ printed.word (codes "value") ∷ closing ∷ closing ∷ results_tokens n

-- the tokens of the leaf at a place
abbrev pub printed_at : ℕ → Field → List (Field → List PrintedToken) → List PrintedToken
printed_at i f [] = []
printed_at zero f (g ∷ gs) = g f
printed_at (suc i) f (g ∷ gs) = printed_at i f gs

abbrev pub assemble : List Piece → List (Field → List PrintedToken) → List PrintedToken
assemble [] gs = []
assemble (token x ∷ ps) gs = x ∷ assemble ps gs
assemble (leaf i f ∷ []) gs = printed_at i f gs
assemble (leaf i f ∷ (p ∷ ps)) gs = printed_at i f gs ++ assemble (p ∷ ps) gs

abbrev pub number_tokens : ℕ → Field → List PrintedToken
number_tokens n line.number = numeral n ∷ []
number_tokens n line.primitive = primitive_in primitive_words n
number_tokens n line.value = primitive_in primitive_words n
number_tokens n (line.flag x) = cond (nat_eq n 1) (a_word x) []
number_tokens n line.opens_mutable = cond (nat_eq n 1) (opening ∷ a_word "mut") []
number_tokens n line.closes_mutable = cond (nat_eq n 1) (closing ∷ []) []
number_tokens n _ = []

abbrev pub index_tokens : Space → ℕ → Field → List PrintedToken
index_tokens s i line.number = numeral i ∷ []
index_tokens s i line.value = numeral i ∷ []
index_tokens s i line.item = kind_words s ++ numeral i ∷ []
index_tokens s i line.core_item = core_kind_words s ++ numeral i ∷ []
index_tokens s i _ = []

abbrev mutual
  pub leaf_tokens : Leaf → Field → List PrintedToken
  leaf_tokens (m.number n) f = number_tokens n f
  leaf_tokens (m.ref s (m.index i)) f = index_tokens s i f
  leaf_tokens (m.text x) line.string = printed.string x ∷ []
  leaf_tokens (m.text x) line.payload = printed.string x ∷ []
  leaf_tokens (m.core_value v) line.core_value = value_tokens v
  leaf_tokens (m.core_value v) line.element = value_tokens v
  leaf_tokens (m.place (c.counted o n)) line.number = numeral n ∷ []
  leaf_tokens (m.kind s) line.kind = kind_words s
  leaf_tokens (m.kind s) line.core_kind = core_kind_words s
  leaf_tokens (m.kind s) line.outer_kind = outer_kind_words s
  leaf_tokens (m.present l) (line.optional f) = leaf_tokens l f
  leaf_tokens (m.present l) (line.optional_in x f) = in_group x (leaf_tokens l f)
  leaf_tokens (m.node n) line.one = node_tokens n
  leaf_tokens (m.nodes ns) line.each = nodes_tokens ns
  leaf_tokens (m.nodes ns) (line.each_in x) = groups_tokens x ns
  leaf_tokens (m.result_count n) line.results = results_tokens n
  leaf_tokens (m.scope (scope_of k id label ds)) line.definitions = definitions_tokens k ds
  leaf_tokens _ _ = []

  pub leaves_tokens : Leaves → List (Field → List PrintedToken)
  leaves_tokens no_leaf = []
  leaves_tokens (l ▸ ls) = leaf_tokens l ∷ leaves_tokens ls

  pub node_tokens : Node → List PrintedToken
  node_tokens (row t ls) = assemble (inner_line t) (leaves_tokens ls)

  pub nodes_tokens : Nodes → List PrintedToken
  nodes_tokens no_node = []
  nodes_tokens (one_node n ns) = node_tokens n ++ nodes_tokens ns

  pub groups_tokens : String → Nodes → List PrintedToken
  groups_tokens x no_node = []
  groups_tokens x (one_node n ns) = in_group x (node_tokens n) ++ groups_tokens x ns

  pub definitions_tokens : ScopeKind → Defs → List PrintedToken
  definitions_tokens k no_def = []
  definitions_tokens k (one_def (define names (row t ls)) ds) = assemble (definition_in k t) (leaves_tokens ls) ++ definitions_tokens k ds

-- the tokens of a component
abbrev pub component_tokens : Scope → List PrintedToken
component_tokens (scope_of k id label ds) = in_group "component" (definitions_tokens k ds)

-- ---- without name sections

-- a custom section of names
abbrev pub is_name_section : Row → Leaves → Bool
is_name_section rows.Custom (m.text x ▸ ls) = bytes_eq x (codes "component-name")
is_name_section _ _ = false

abbrev pub unless_names : Bool → Def → Defs → Defs
unless_names true d ds = ds
unless_names false d ds = one_def d ds

-- without the custom sections of names that stand in it and in its components; other leaves hold none
abbrev mutual
  pub unnamed_leaf : Leaf → Leaf
  unnamed_leaf (m.scope (scope_of k id label ds)) = m.scope (scope_of k id label (unnamed_defs ds))
  unnamed_leaf l = l

  pub unnamed_leaves : Leaves → Leaves
  unnamed_leaves no_leaf = no_leaf
  unnamed_leaves (l ▸ ls) = unnamed_leaf l ▸ unnamed_leaves ls

  pub unnamed_defs : Defs → Defs
  unnamed_defs no_def = no_def
  unnamed_defs (one_def (define names (row t ls)) ds) = unless_names (is_name_section t ls) (define names (row t (unnamed_leaves ls))) (unnamed_defs ds)

abbrev pub unnamed : Scope → Scope
unnamed (scope_of k id label ds) = scope_of k id label (unnamed_defs ds)

-- the text of a component: that of its tokens, without the custom sections of names
abbrev pub text_of : Scope → List ℕ
text_of b = text_of_tokens (component_tokens (unnamed b))
