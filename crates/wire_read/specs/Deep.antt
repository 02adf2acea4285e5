-- Where a scope begins that is too deep, seen from the parts that hold it.
use Rattle.std.specs.Prelude.{◌≡◌, ℕ, suc, ◌+◌, List, ◌∷◌, ◌++◌, length}
use Rattle.comp_model.specs.Leb.{uleb}
use Rattle.comp_model.specs.Model.{Nodes}
use Rattle.comp_model.specs.declared.row.ScopeKind.{ScopeKind}
use Rattle.comp_model.specs.declared.row.ScopeKind.TheVariants as kinds
use Rattle.comp_wire.specs.Table.{Family}
use Rattle.comp_wire.specs.declared.sections.SectionKind.{SectionKind}
use Rattle.comp_wire.specs.Sections.{section_number, Word}
use Rattle.comp_wire.specs.Spelled.{spell_nodes, FitsNodes}
use Rattle.wire_read.specs.Depth.{TypeBytes, InSection, Reaches}
use Rattle.wire_read.specs.Place.{Place, rest}

-- these bytes stand at a place, in front of this offset
pub record Ahead (p : Place) (at : ℕ) (front : List ℕ) : Type 0 where
  pub same : at ≡ p.at + length front
  pub behind : List ℕ
  pub there : front ++ behind ≡ rest p

-- from the beginning of a scope
pub record ScopeDeep (k : ScopeKind) (inside : ℕ) (old : Place) (at : ℕ) : Type 0 where
  pub front : List ℕ
  pub reached : Reaches k inside front
  pub there : Ahead old at front

-- in rows, behind whole ones
pub record RowsDeep (f : Family) (left : ℕ) (old : Place) (at : ℕ) : Type 0 where
  pub before : Nodes
  pub kind : ScopeKind
  pub lead : List ℕ
  pub more : List ℕ
  pub fit : FitsNodes before f
  pub opens : TypeBytes f kind lead
  pub reached : Reaches kind left more
  pub there : Ahead old at (spell_nodes before f ++ (lead ++ more))

-- in a section, behind its length
pub record BodyDeep (s : SectionKind) (left : ℕ) (old : Place) (at : ℕ) : Type 0 where
  pub kind : ScopeKind
  pub front : List ℕ
  pub more : List ℕ
  pub opens : InSection s kind front
  pub reached : Reaches kind left more
  pub there : Ahead old at (front ++ more)

-- in a section
pub record SectionDeep (left : ℕ) (old : Place) (at : ℕ) : Type 0 where
  pub section : SectionKind
  pub kind : ScopeKind
  pub length : ℕ
  pub front : List ℕ
  pub more : List ℕ
  pub short : Word length
  pub opens : InSection section kind front
  pub reached : Reaches kind left more
  pub there : Ahead old at (section_number section ∷ (uleb length ++ (front ++ more)))

abbrev pub ComponentDeep : ℕ → Place → ℕ → Type 0
ComponentDeep left old at = ScopeDeep kinds.Component (suc left) old at
