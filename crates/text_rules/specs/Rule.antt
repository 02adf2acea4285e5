-- Rules of the text format: a grammar that says what it leaves. `Makes` says what each leaves of what was read.
use Rattle.std.specs.Prelude.{ℕ, List, Bool}
use Rattle.comp_model.specs.declared.Space.{Space}
use Rattle.comp_model.specs.Core as core
use Rattle.comp_model.specs.declared.row.ScopeKind.{ScopeKind}
use Rattle.comp_model.specs.declared.row.Row.{Row}
use Rattle.wast_grammar.specs.Classes.{Class}
use Rattle.wast_grammar.specs.Grammar as g
use Rattle.wast_grammar.specs.Grammar.{Grammar, Test, Row as GrammarRow}
use Rattle.wast_grammar.specs.Rows as rows
use Rattle.wast_grammar.specs.FieldRows as fields

-- what stands for no token
pub data Adds : Type 0 where
  -- the row of a node
  a_row : Row → Adds
  a_number : ℕ → Adds
  a_core_value : core.CoreValue → Adds
  a_kind : Space → Adds
  no_part : Adds
  -- the id of a case, an id and a label of one of several parts, that aren't written
  no_case_id : Adds
  no_id : Adds
  no_label : Adds

-- a token that is kept, and as what
pub data Keeps : Type 0 where
  a_text : Keeps
  -- a string that isn't UTF-8, as a text
  a_string : Keeps
  a_count : Keeps
  an_id : Keeps
  a_case : Keeps
  a_label : Keeps
  an_export : Keeps

-- what is made of all that a part leaves
pub data Wraps : Type 0 where
  -- a reference in whose place a node of its row and leaves stands, and one in whose place it stands as a list of exports
  inline : Space → Wraps
  bundle : Space → Wraps
  -- a node as a leaf, as an entry of a list, and entries as a leaf
  a_node : Wraps
  an_entry : Wraps
  a_list : Wraps
  -- a leaf as an optional part that is there
  a_part : Wraps
  -- a definition, and definitions as a scope
  a_def : Wraps
  a_scope : ScopeKind → Wraps
  -- the last leaf in front of the one before it, and in front of all others
  swapped : Wraps
  last_first : Wraps
  -- two references and the kind of an outer alias, as it holds them
  outer : Wraps
  -- nothing of it
  dropped : Wraps
  -- a reference and the texts behind it: the path from its index by these names, or the reference alone
  path : Wraps
  -- a reference as a core value type, which is nullable or not
  heap : Bool → Wraps
  -- the ids so far as a leaf; they stay
  results : Wraps
  -- texts as one
  joined : Wraps
  -- entries in so many lists, by the number that is the first leaf of each, which goes
  by_number : ℕ → Wraps
  -- of parts with this row, the row alone
  alone : Row → Wraps

-- parts that are read by a row of their own
pub data Outside : Type 0 where
  an_extern_name : Outside
  a_plain_name : Outside
  -- the fields of a core module, and of one that is not in a group
  core_fields : Outside
  some_core_fields : Outside

-- a rule
pub data Rule : Type 0 where
  nothing : Rule
  -- a token of a class in front of the rest or behind it, which isn't kept
  before : Class → Rule → Rule
  after : Rule → Class → Rule
  -- such a token with its offset, which is that of a definition, or isn't kept
  placed : Bool → Class → Rule
  keeps : Keeps → Rule
  -- an index into a space, whose name is looked for where it says
  reference : Space → core.Reach → Rule
  -- a word of a table, and for its number a number of another
  told : List (List ℕ × ℕ) → List ℕ → Rule
  pair : Rule → Rule → Rule
  -- the first where the test holds, else the second; `by_test` and `many_by` take a test of more than one token
  either : Test → Rule → Rule → Rule
  by_test : Test → Rule → Rule → Rule
  many : Test → Rule → Rule
  many_by : Test → Rule → Rule
  -- one of several, with its number
  case : ℕ → Test → Rule → Rule → Rule
  no_case : Rule
  -- a row by its name
  row : GrammarRow → Rule
  -- what may not stand below too many parentheses
  checked : Rule → Rule
  -- the rest, and behind it what stands for no token
  also : Rule → Adds → Rule
  wraps : Wraps → Rule → Rule
  outside : Outside → Rule
  -- the rest, and the offset of its first token as that of a definition
  marks : Rule → Rule
  -- a token that is told by more than its class, and isn't kept
  silent : g.Special → Rule
  -- the rest, then all that is left of the group, unread
  skipping : Rule → Rule

-- the token of a part that is kept
abbrev pub kept : Keeps → g.Leaf
kept a_text = g.a_text
kept a_string = g.a_binary
kept a_count = g.a_number
kept an_id = g.an_id
kept a_case = g.an_id
kept a_label = g.a_text
kept an_export = g.a_text

abbrev pub outside_row : Outside → Grammar
outside_row an_extern_name = rows.extern_name
outside_row a_plain_name = rows.plain_name
outside_row core_fields = fields.core_fields
outside_row some_core_fields = fields.some_core_fields

-- what a rule reads
abbrev pub reads : Rule → Grammar
reads nothing = g.nothing
reads (before c r) = g.before c (reads r)
reads (after r c) = g.after (reads r) c
reads (placed b c) = g.placed (g.before c g.nothing)
reads (keeps k) = g.leaf (kept k)
reads (reference u r) = rows.reference
reads (told ws ns) = g.words ws
reads (pair a b) = g.pair (reads a) (reads b)
reads (either t a b) = g.either t (reads a) (reads b)
reads (by_test t a b) = g.by_test t (reads a) (reads b)
reads (many t a) = g.many t (reads a)
reads (many_by t a) = g.many_by t (reads a)
reads (case n t a b) = g.case n t (reads a) (reads b)
reads no_case = g.no_case
reads (row r) = g.row r
reads (checked a) = g.checked (reads a)
reads (also r x) = reads r
reads (wraps w r) = reads r
reads (outside o) = outside_row o
reads (marks r) = g.placed (reads r)
reads (silent k) = g.special k
reads (skipping r) = g.skipping (reads r)
