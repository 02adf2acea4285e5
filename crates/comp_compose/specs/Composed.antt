-- The component that a plan composes.
use Rattle.std.specs.Prelude.{◌≡◌, ℕ, List, [], ◌∷◌, ◌++◌, Some, None, Ok}
use Rattle.hex.specs.Hex.{decode_of}
use Rattle.comp_model.specs.declared.Space.TheVariants as space
use Rattle.comp_model.specs.Makers as make
use Rattle.comp_model.specs.Model as m
use Rattle.comp_model.specs.Model.{Scope, Def, Defs, no_def, one_def, Node, Nodes, no_node, one_node}
use Rattle.comp_wire.specs.declared.sections.SectionKind.TheVariants as section_kinds
use Rattle.comp_wire.specs.Sections.{item}
use Rattle.comp_wire.specs.Spelled.{item_of_def}
use Rattle.comp_wire.specs.Definitions.{plain_def, component_of_defs}
use Rattle.comp_wire.specs.Read.{Reads}
use Rattle.plan_lines.specs.Lines.{Argument, Line, a_part, an_instance, an_export, lines, said}
use Rattle.comp_compose.specs.Meanings.{declared}
use Rattle.comp_compose.specs.Parts.{IsPart}
use Rattle.comp_compose.specs.Refused.{NotRefused}
use Rattle.comp_compose.specs.declared.names.Item.TheVariants as item

-- each argument is the instance of its name, under its text, in order
abbrev pub AreArguments : List Line → List Argument → Nodes → Type 0
AreArguments before [] no_node = Unit {0}
AreArguments before [] (one_node n ns) = ⊥
AreArguments before (a ∷ as') no_node = ⊥
AreArguments before (a ∷ as') (one_node n ns) =
    (i : ℕ) × (declared before a.instance.bytes ≡ Some (item.Instance i)) × (n ≡ make.argument a.text.bytes space.Instance (m.index i)) × AreArguments before as' ns

-- A part is the component that its bytes are read as, and they are the body of its section, unchanged.
pub record IsComponent (digits : List ℕ) (d : Def) : Type 0 where
  pub bytes : List ℕ
  pub component : Scope
  pub decoded : decode_of digits ≡ Ok bytes
  pub part : IsPart bytes component
  pub same : d ≡ plain_def (make.component component)
  pub unchanged : item_of_def d ≡ item section_kinds.Component bytes

-- An instance is the component of its part, instantiated with its arguments.
pub record IsInstance (before : List Line) (part : List ℕ) (as' : List Argument) (d : Def) : Type 0 where
  pub index : ℕ
  pub arguments : Nodes
  pub names : declared before part ≡ Some (item.Component index)
  pub passed : AreArguments before as' arguments
  pub same : d ≡ plain_def (make.instantiate (m.index index) arguments)

-- An export is the instance of its name, under its text, without a description.
pub record IsExport (before : List Line) (text instance : List ℕ) (d : Def) : Type 0 where
  pub index : ℕ
  pub names : declared before instance ≡ Some (item.Instance index)
  pub same : d ≡ plain_def (make.export_row (m.text text) m.absent space.Instance (m.index index))

-- the definition of a line, behind these
abbrev pub IsDefinition : List Line → Line → Def → Type 0
IsDefinition before (a_part name digits) d = IsComponent digits.bytes d
IsDefinition before (an_instance name part as') d = IsInstance before part.bytes as' d
IsDefinition before (an_export text instance) d = IsExport before text.bytes instance.bytes d

-- a definition for each line, in order, and no other
abbrev pub AreDefinitions : List Line → List Line → Defs → Type 0
AreDefinitions before [] no_def = Unit {0}
AreDefinitions before [] (one_def d ds) = ⊥
AreDefinitions before (l ∷ ls) no_def = ⊥
AreDefinitions before (l ∷ ls) (one_def d ds) = IsDefinition before l d × AreDefinitions (before ++ l ∷ []) ls ds

-- Nothing refuses the plan, and the bytes are read as the component of the definitions of its lines.
pub record IsComposed (plan out : List ℕ) : Type 0 where
  pub definitions : Defs
  pub accepted : NotRefused plan
  pub of_lines : AreDefinitions [] (said (lines plan)) definitions
  pub reads : Reads out (component_of_defs definitions)
