-- Where a scope begins that is inside so many others, in bytes that need not be those of a component.
--
-- The outermost scope is a component, which begins at 0. From where a scope begins to where one directly in it does there are: the
-- preamble of a component, or the count of the declarations of a type; whole sections, or declarations; and what opens the inner scope.
use Rattle.std.specs.Prelude.{ℕ, zero, suc, ◌≤◌, List, [], ◌∷◌, ◌++◌, length, take}
use Rattle.comp_model.specs.Leb.{uleb}
use Rattle.comp_model.specs.Model.{Nodes, Defs}
use Rattle.comp_model.specs.declared.row.ScopeKind.{ScopeKind}
use Rattle.comp_model.specs.declared.row.ScopeKind.TheVariants as kinds
use Rattle.comp_wire.specs.Table.{Family, core_types, types, component_declarations, instance_declarations, module_declarations}
use Rattle.comp_wire.specs.declared.sections.SectionKind.{SectionKind}
use Rattle.comp_wire.specs.declared.sections.SectionKind.TheVariants as section_kinds
use Rattle.comp_wire.specs.Sections.{section_number, rows_of, groups, sections, preamble, Word}
use Rattle.comp_wire.specs.Spelled.{spell_nodes, FitsNodes, FitsDefinitions, items_of, declarations_of}

-- the bytes in front of the scope of a type, in a row of a family (Component Model, binary format, Type Definitions)
pub data TypeBytes : Family → ScopeKind → List ℕ → Type 0 where
  component_type_defined : TypeBytes types kinds.ComponentType (0x41 ∷ [])
  instance_type_defined : TypeBytes types kinds.InstanceType (0x42 ∷ [])
  module_type_defined : TypeBytes core_types kinds.ModuleType (0x50 ∷ [])
  component_type_in_component_type : TypeBytes component_declarations kinds.ComponentType (0x01 ∷ 0x41 ∷ [])
  instance_type_in_component_type : TypeBytes component_declarations kinds.InstanceType (0x01 ∷ 0x42 ∷ [])
  module_type_in_component_type : TypeBytes component_declarations kinds.ModuleType (0x00 ∷ 0x50 ∷ [])
  component_type_in_instance_type : TypeBytes instance_declarations kinds.ComponentType (0x01 ∷ 0x41 ∷ [])
  instance_type_in_instance_type : TypeBytes instance_declarations kinds.InstanceType (0x01 ∷ 0x42 ∷ [])
  module_type_in_instance_type : TypeBytes instance_declarations kinds.ModuleType (0x00 ∷ 0x50 ∷ [])
  module_type_in_module_type : TypeBytes module_declarations kinds.ModuleType (0x01 ∷ 0x50 ∷ [])

-- what stands in a section, behind its length, in front of a scope
pub data InSection : SectionKind → ScopeKind → List ℕ → Type 0 where
  whole_section : InSection section_kinds.Component kinds.Component []
  in_row : (s : SectionKind) (k : ScopeKind) (count : ℕ) (before : Nodes) (lead : List ℕ) → Word count → FitsNodes before (rows_of s) → TypeBytes (rows_of s) k lead
      → InSection s k (uleb count ++ (spell_nodes before (rows_of s) ++ lead))

abbrev pub IsType : ScopeKind → Type 0
IsType kinds.Component = ⊥
IsType _ = Unit {0}

-- These bytes lead from the beginning of a scope of the first kind to that of one of the second directly in it.
pub data Opens : ScopeKind → ScopeKind → List ℕ → Type 0 where
  in_component : (ds : Defs) (s : SectionKind) (k : ScopeKind) (n : ℕ) (front : List ℕ) → FitsDefinitions ds → Word n → InSection s k front
      → Opens kinds.Component k (preamble ++ (sections (groups (items_of ds)) ++ section_number s ∷ (uleb n ++ front)))
  in_type : (outer k : ScopeKind) (count : ℕ) (before : Nodes) (lead : List ℕ) → IsType outer → Word count → FitsNodes before (declarations_of outer) → TypeBytes (declarations_of outer) k lead
      → Opens outer k (uleb count ++ (spell_nodes before (declarations_of outer) ++ lead))

-- These bytes lead from the beginning of a scope of this kind to that of one inside so many others from there.
pub data Reaches : ScopeKind → ℕ → List ℕ → Type 0 where
  itself : (k : ScopeKind) → Reaches k zero []
  further : (k l : ScopeKind) (n : ℕ) (front more : List ℕ) → Opens k l front → Reaches l n more → Reaches k (suc n) (front ++ more)

-- A scope that is inside so many others begins at this offset.
pub record BeginsInside (n : ℕ) (bytes : List ℕ) (offset : ℕ) : Type 0 where
  pub within : offset ≤ length bytes
  pub reached : Reaches kinds.Component n (take offset bytes)
