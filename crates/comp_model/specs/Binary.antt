-- What is binary: indices alone, no ids, labels or inline exports, core modules as bytes, results as a count.
use Rattle.std.specs.Prelude.{◌≡◌, ◌≢◌, None}
use Rattle.comp_model.specs.declared.row.Row.TheVariants as rows
use Rattle.comp_model.specs.Core.{Place, counted, named, CoreValue, ref_numeral, ref_name}
use Rattle.comp_model.specs.Model as m
use Rattle.comp_model.specs.Model.{Leaf, Target, Leaves, no_leaf, ◌▸◌, Node, row, Nodes, no_node, one_node, Names, no_names, Def, define, Defs, no_def, one_def, Scope, scope_of}

-- a count without an offset
abbrev pub IsBinaryPlace : Place → Type 0
IsBinaryPlace (counted o d) = o ≡ 0
IsBinaryPlace (named o x) = ⊥

-- no name and no numeral of the text in a core value type
abbrev pub IsBinaryValue : CoreValue → Type 0
IsBinaryValue (ref_numeral b o n) = ⊥
IsBinaryValue (ref_name b r x) = ⊥
IsBinaryValue _ = Unit {0}

-- a reference of the binary
abbrev pub IsIndex : Target → Type 0
IsIndex (m.index i) = Unit {0}
IsIndex _ = ⊥

abbrev mutual
  pub IsBinaryLeaf : Leaf → Type 0
  IsBinaryLeaf (m.text t) = Unit {0}
  IsBinaryLeaf (m.number n) = Unit {0}
  IsBinaryLeaf (m.kind s) = Unit {0}
  IsBinaryLeaf (m.core_value v) = IsBinaryValue v
  IsBinaryLeaf (m.ref s t) = IsIndex t
  IsBinaryLeaf (m.place p) = IsBinaryPlace p
  IsBinaryLeaf m.absent = Unit {0}
  IsBinaryLeaf (m.present l) = IsBinaryLeaf l
  IsBinaryLeaf (m.node n) = IsBinaryNode n
  IsBinaryLeaf (m.nodes ns) = AreBinaryNodes ns
  IsBinaryLeaf (m.case_id i) = i ≡ None
  IsBinaryLeaf (m.result_ids is) = ⊥
  IsBinaryLeaf (m.result_count n) = Unit {0}
  IsBinaryLeaf (m.core_source c) = ⊥
  IsBinaryLeaf (m.module_bytes bs) = Unit {0}
  IsBinaryLeaf (m.scope s) = IsBinary s

  pub AreBinaryLeaves : Leaves → Type 0
  AreBinaryLeaves no_leaf = Unit {0}
  AreBinaryLeaves (l ▸ ls) = IsBinaryLeaf l × AreBinaryLeaves ls

  pub IsBinaryNode : Node → Type 0
  IsBinaryNode (row t ls) = AreBinaryLeaves ls

  pub AreBinaryNodes : Nodes → Type 0
  AreBinaryNodes no_node = Unit {0}
  AreBinaryNodes (one_node n ns) = IsBinaryNode n × AreBinaryNodes ns

  -- both rows of section 0 are custom sections
  pub AreBinaryDefs : Defs → Type 0
  AreBinaryDefs no_def = Unit {0}
  AreBinaryDefs (one_def (define names (row t ls)) ds) = (names ≡ no_names) × (t ≢ rows.Producers) × AreBinaryLeaves ls × AreBinaryDefs ds

  pub IsBinary : Scope → Type 0
  IsBinary (scope_of k id label ds) = (id ≡ None) × (label ≡ None) × AreBinaryDefs ds
