-- The kinds of sections by their numbers, and rows behind a count.
use Rattle.std.specs.Prelude.{◌≢◌, ℕ, ◌==◌, List, ◌++◌, Option, Some, None, Result, if◌then◌else◌}
use Rattle.std.proofs.Common.{Bor}
use Rattle.comp_model.specs.Leb.{uleb}
use Rattle.comp_model.specs.Model.{Nodes, count_nodes}
use Rattle.comp_wire.specs.declared.sections.SectionKind.TheVariants as section_kinds
use Rattle.comp_wire.specs.declared.sections.SectionKind.{SectionKind}
use Rattle.comp_wire.specs.Sections.{Word}
use Rattle.comp_wire.specs.Table.{Family}
use Rattle.comp_wire.specs.Spelled.{spell_nodes, FitsNodes}
use Rattle.wire_tree.specs.Lists.{nodes_listed}
use Rattle.wire_tree.specs.declared.tree.Node as tree
use Rattle.wire_read.specs.Place.{Place, Takes}
use Rattle.wire_read.specs.Deep.{RowsDeep}
use Rattle.wire_read.specs.Nodes.{FitsMany}
use Rattle.wire_read.specs.Within.{WithinNodes}
use Rattle.wire_read.specs.Runs.{Whole}
use Rattle.wire_read.specs.declared.stop.Stop.{Stop}

abbrev pub kind_at : ℕ → Option SectionKind
kind_at n =
    if n == 0 then Some section_kinds.Custom else if n == 1 then Some section_kinds.CoreModule else if n == 2 then Some section_kinds.CoreInstance
    else if n == 3 then Some section_kinds.CoreType else if n == 4 then Some section_kinds.Component else if n == 5 then Some section_kinds.Instance
    else if n == 6 then Some section_kinds.Alias else if n == 7 then Some section_kinds.Type else if n == 8 then Some section_kinds.Canon
    else if n == 9 then Some section_kinds.Start else if n == 10 then Some section_kinds.Import else if n == 11 then Some section_kinds.Export else None

-- some rows of a family, fewer than 2 ^ 32
abbrev pub FitsSome : Family → Nodes → Type 0
FitsSome f ks = (count_nodes ks ≢ 0) × Word (count_nodes ks) × FitsNodes ks f

abbrev pub counted_bytes : Family → Nodes → List ℕ
counted_bytes f ks = uleb (count_nodes ks) ++ spell_nodes ks f

-- so many rows that fill the bytes
abbrev pub WholeRows : ℕ → Family → ℕ → Place → Result (Bor (List tree.Node)) Stop → Type 0
WholeRows n f left old r = Whole (RowsDeep f left old) (λ (p : Bor (List tree.Node)). nodes_listed p.now) (FitsMany n f) (λ ks. WithinNodes ks left) (λ ks. spell_nodes ks f) old r

-- where a scope begins that is too deep, in rows behind a count
pub record CountedDeep (f : Family) (left : ℕ) (old : Place) (at : ℕ) : Type 0 where
  pub count : ℕ
  pub behind : Place
  pub read : Word count × Takes old behind (uleb count)
  pub deep : RowsDeep f left behind at

abbrev pub WholeCounted : Family → ℕ → Place → Result (Bor (List tree.Node)) Stop → Type 0
WholeCounted f left old r = Whole (CountedDeep f left old) (λ (p : Bor (List tree.Node)). nodes_listed p.now) (FitsSome f) (λ ks. WithinNodes ks left) (counted_bytes f) old r
