-- What is passed to an instance, as the writers have it.
use Rattle.std.specs.Prelude.{◌≡◌, ℕ, List, Some}
use Rattle.std.specs.Borrow.{Bor}
use Rattle.comp_model.specs.declared.Space.TheVariants as space
use Rattle.comp_model.specs.Makers as make
use Rattle.comp_model.specs.Model as m
use Rattle.comp_model.specs.Core.{Text}
use Rattle.comp_model.specs.Model.{Def}
use Rattle.comp_wire.specs.Definitions.{plain_def}
use Rattle.comp_wire.specs.Values.{argument_row, rows_of_list}
use Rattle.comp_wire.specs.declared.kinds.ComponentExportKind.{ComponentExportKind}
use Rattle.plan_lines.specs.Lines.{Line, Argument}
use Rattle.comp_compose.specs.Meanings.{declared}
use Rattle.comp_compose.specs.declared.names.Item.TheVariants as item

-- the row is that of the argument
abbrev pub IsPassed : List Line → Argument → Bor Text × ComponentExportKind × ℕ → Type 0
IsPassed before a p = (i : ℕ) × (declared before a.instance.bytes ≡ Some (item.Instance i)) × (argument_row p ≡ make.argument a.text.bytes space.Instance (m.index i))

-- an instance with what is passed to it; an export of an instance
abbrev pub instance_def : ℕ → List (Bor Text × ComponentExportKind × ℕ) → Def
instance_def component passed = plain_def (make.instantiate (m.index component) (rows_of_list argument_row passed))

abbrev pub export_def : Text → ℕ → Def
export_def name instance = plain_def (make.export_row (m.text name) m.absent space.Instance (m.index instance))
