-- Counting and reading as steps of a visitor.
use Rattle.std.specs.Prelude.{ℕ, List, [], ◌∷◌, Option, Some, ◌⊎◌, ⊤}
use Rattle.comp_model.specs.Core.{Id}
use Rattle.comp_model.specs.Model.{Leaf, ref, present, node, nodes, case_id, inline, bundle, Leaves, no_leaf, ◌▸◌, row, Nodes, no_node, one_node}
use Rattle.comp_model.specs.Model as m
use Rattle.comp_scopes.specs.Encoding.{Encoding}
use Rattle.comp_scopes.specs.Names.{first_of_two}
use Rattle.comp_scopes.specs.Unmet.{Unmet, unmet_cases}
use Rattle.comp_tables.specs.Tables.{Opened}
use Rattle.comp_tables.specs.Built.{missing_roots_leaf}
use Rattle.comp_tables.specs.Walks.{CountState, count_one, ReadState, refusing, read_one}
use Rattle.comp_model.specs.Events.{Event, leaf, list}

-- ---- counting

abbrev pub count_step : List Opened → CountState → Event → CountState
count_step os q (leaf l) = count_one os l q
count_step os q _ = q

-- the roots of the paths of a definition: the first that is missing
abbrev pub root_step : List Opened → Option Unmet → Event → Option Unmet
root_step os x (leaf l) = first_of_two x (missing_roots_leaf os l)
root_step os x _ = x

-- ---- reading, with the ids of the earlier cases of the list at hand

pub record VisitState : Type 0 where
  pub reading : ReadState
  pub earlier : List Id

module _ (e : Encoding) (os : List Opened) (j : ℕ) where
  abbrev pub read_step_leaf : VisitState → Leaf → VisitState
  read_step_leaf w (case_id (Some x)) = record { reading = refusing (unmet_cases w.earlier (x ∷ [])) w.reading; earlier = x ∷ w.earlier }
  read_step_leaf w l = record { reading = read_one e os j l w.reading; earlier = w.earlier }

  abbrev pub read_step : VisitState → Event → VisitState
  read_step w (leaf l) = read_step_leaf w l
  read_step w list = record { reading = w.reading; earlier = [] }
  read_step w _ = w

-- ---- where the ids of cases stand, so that those of earlier cases are at hand: each first in its row, whose other leaves hold no list,
-- in a list of such rows; scopes, inline nodes and bundles there are none

abbrev mutual
  pub NoListInLeaves : Leaves → Type 0
  NoListInLeaves no_leaf = ⊤
  NoListInLeaves (l ▸ ls) = NoListInLeaf l × NoListInLeaves ls

  pub NoListInLeaf : Leaf → Type 0
  NoListInLeaf (ref s (inline n)) = ⊥
  NoListInLeaf (ref s (bundle n)) = ⊥
  NoListInLeaf (present l) = NoListInLeaf l
  NoListInLeaf (node (row t ls)) = NoListInLeaves ls
  NoListInLeaf (nodes ns) = ⊥
  NoListInLeaf (case_id x) = ⊥
  NoListInLeaf (m.scope s) = ⊥
  NoListInLeaf _ = ⊤

abbrev pub CaseRow : Leaves → Type 0
CaseRow (case_id x ▸ ls) = NoListInLeaves ls
CaseRow _ = ⊥

abbrev pub CaseRows : Nodes → Type 0
CaseRows no_node = ⊤
CaseRows (one_node (row t ls) ns) = CaseRow ls × CaseRows ns

abbrev mutual
  pub CasesFirst : Leaves → Type 0
  CasesFirst no_leaf = ⊤
  CasesFirst (l ▸ ls) = CasesFirstInLeaf l × CasesFirst ls

  pub CasesFirstInLeaf : Leaf → Type 0
  CasesFirstInLeaf (ref s (inline n)) = ⊥
  CasesFirstInLeaf (ref s (bundle n)) = ⊥
  CasesFirstInLeaf (present l) = CasesFirstInLeaf l
  CasesFirstInLeaf (node (row t ls)) = CasesFirst ls
  CasesFirstInLeaf (nodes ns) = CaseRows ns ⊎ CasesFirstInNodes ns
  CasesFirstInLeaf (case_id x) = ⊥
  CasesFirstInLeaf (m.scope s) = ⊥
  CasesFirstInLeaf _ = ⊤

  pub CasesFirstInNodes : Nodes → Type 0
  CasesFirstInNodes no_node = ⊤
  CasesFirstInNodes (one_node (row t ls) ns) = CasesFirst ls × CasesFirstInNodes ns
