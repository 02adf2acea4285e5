-- What a component is, written or encoded: scopes of definitions, each with one node (Component Model, "Components").
use Rattle.std.specs.Prelude.{ℕ, ◌+◌, List, [], Option}
use Rattle.comp_model.specs.declared.Space.{Space}
use Rattle.comp_model.specs.declared.row.Row.{Row}
use Rattle.comp_model.specs.declared.row.ScopeKind.{ScopeKind}
use Rattle.comp_model.specs.Core.{Text, Id, Place, Reach, CoreValue}
use Rattle.comp_model.specs.CoreModules.{CoreModule}

infixr 50 ◌▸◌
-- a root, by numeral or name, or the export of that name of what a path leads to
pub data Path : Type 0 where
  root_number : (offset : ℕ) → ℕ → Path
  root_name : Id → Path
  export_of : Path → Text → Path

-- the names of one definition: an id and a label for each of its parts, and its inline exports; and where it stands: the offset of
-- its first word, behind the parenthesis, which no comparison reads, and 0 where it was generated
pub record Names : Type 0 where
  pub ids : List (Option Id)
  pub labels : List (Option Text)
  pub exports : List Text
  pub offset : ℕ

-- a definition of the text without names
abbrev pub nameless_at : ℕ → Names
nameless_at o = record { ids = []; labels = []; exports = []; offset = o }

-- what a definition of the binary has
abbrev pub no_names : Names
no_names = nameless_at 0

mutual
  -- a part of a node
  pub data Leaf : Type 0 where
    text : Text → Leaf
    number : ℕ → Leaf
    kind : Space → Leaf
    core_value : CoreValue → Leaf
    ref : Space → Target → Leaf
    -- the first part of an outer alias
    place : Place → Leaf
    -- an optional part
    absent : Leaf
    present : Leaf → Leaf
    node : Node → Leaf
    nodes : Nodes → Leaf
    case_id : Option Id → Leaf
    -- the results of a start function: their ids as written, their count in binary
    result_ids : List (Option Id) → Leaf
    result_count : ℕ → Leaf
    -- a core module: as written, its bytes in binary
    core_source : CoreModule → Leaf
    module_bytes : List ℕ → Leaf
    scope : Scope → Leaf

  -- what a reference names: an index of the binary, or one of the written forms
  pub data Target : Type 0 where
    index : ℕ → Target
    numeral : (offset : ℕ) → ℕ → Target
    name : Reach → Id → Target
    path : Path → Target
    inline : Node → Target
    bundle : Node → Target

  -- the parts of a node, in the order in which they are visited
  pub data Leaves : Type 0 where
    no_leaf : Leaves
    ◌▸◌ : Leaf → Leaves → Leaves

  -- a row of the tables with its leaves
  pub data Node : Type 0 where
    row : Row → Leaves → Node

  -- the entries of a list
  pub data Nodes : Type 0 where
    no_node : Nodes
    one_node : Node → Nodes → Nodes

  -- a definition: its names and its node
  pub data Def : Type 0 where
    define : Names → Node → Def

  -- the definitions of a scope, in order
  pub data Defs : Type 0 where
    no_def : Defs
    one_def : Def → Defs → Defs

  -- a kind, an id and a label, definitions
  pub data Scope : Type 0 where
    scope_of : ScopeKind → Option Id → Option Text → Defs → Scope

-- how many entries a list has
abbrev pub count_nodes : Nodes → ℕ
count_nodes no_node = 0
count_nodes (one_node n ns) = count_nodes ns + 1

-- how many definitions there are
abbrev pub count_defs : Defs → ℕ
count_defs no_def = 0
count_defs (one_def d ds) = count_defs ds + 1

-- the parts of a scope
abbrev pub kind_of : Scope → ScopeKind
kind_of (scope_of k id label ds) = k

abbrev pub id_of : Scope → Option Id
id_of (scope_of k id label ds) = id

abbrev pub label_of : Scope → Option Text
label_of (scope_of k id label ds) = label

abbrev pub defs_of : Scope → Defs
defs_of (scope_of k id label ds) = ds
