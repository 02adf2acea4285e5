-- How a demand of the rule that is unmet is refused: by its kind, at its offset.
use Rattle.std.specs.Prelude.{ℕ}
use Rattle.comp_model.specs.Core.{CoreFault, import_order, core_duplicate, core_unknown, type_mismatch}
use Rattle.comp_scopes.specs.Unmet.{Cause, duplicate, unknown, outer_kind, outer_component, outer_count, core_export_kind, core_rule, Unmet}
use Rattle.wast_tokens.specs.declared.error.Error.{Error}
use Rattle.wast_tokens.specs.declared.error.ErrorKind.{ErrorKind}
use Rattle.wast_tokens.specs.declared.error.ErrorKind.TheVariants as kinds
use Rattle.wast_tokens.specs.declared.error.CoreRule.{CoreRule}
use Rattle.wast_tokens.specs.declared.error.CoreRule.TheVariants as rules

-- the rules of core modules
abbrev pub rule_of : CoreFault → CoreRule
rule_of import_order = rules.ImportOrder
rule_of core_duplicate = rules.Duplicate
rule_of core_unknown = rules.Unknown
rule_of type_mismatch = rules.TypeMismatch

-- the kind of each cause
abbrev pub kind_of_cause : Cause → ErrorKind
kind_of_cause duplicate = kinds.Duplicate
kind_of_cause unknown = kinds.Unknown
kind_of_cause outer_kind = kinds.OuterKind
kind_of_cause outer_component = kinds.OuterComponent
kind_of_cause outer_count = kinds.OuterCount
kind_of_cause core_export_kind = kinds.CoreExportKind
kind_of_cause (core_rule f) = kinds.Core (rule_of f)

-- a refusal
abbrev pub refusal : ErrorKind → ℕ → Error
refusal kind offset = record { kind = kind; offset = offset }

abbrev pub refusal_of : Unmet → Error
refusal_of u = refusal (kind_of_cause u.cause) u.offset

-- want of memory
abbrev pub no_memory : Error
no_memory = refusal kinds.NoMemory 0
