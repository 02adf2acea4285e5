-- How a broken rule of a core module is refused: by its kind, at its offset.
use Rattle.std.specs.Prelude.{◌≡◌, Option, Some, None, option_map, Result, MatchResult}
use Rattle.comp_model.specs.Core.{CoreFault, import_order, core_duplicate, core_unknown, type_mismatch, CoreRefusal}
use Rattle.wast_tokens.specs.declared.error.Error.{Error}
use Rattle.wast_tokens.specs.declared.error.ErrorKind.{ErrorKind}
use Rattle.wast_tokens.specs.declared.error.ErrorKind.TheVariants.{Core, Duplicate, NoMemory}
use Rattle.wast_tokens.specs.declared.error.CoreRule.{CoreRule}
use Rattle.wast_tokens.specs.declared.error.CoreRule.TheVariants as rules
use Rattle.core_names.specs.Names.{refusal}

-- the rules
abbrev pub rule_of : CoreFault → CoreRule
rule_of import_order = rules.ImportOrder
rule_of core_duplicate = rules.Duplicate
rule_of core_unknown = rules.Unknown
rule_of type_mismatch = rules.TypeMismatch

-- the refusal of a broken rule
abbrev pub error_of : CoreRefusal → Error
error_of r = refusal (Core (rule_of r.fault)) r.offset

-- the refusal by the rule that is broken first, where one is
abbrev pub IsBroken : Option CoreRefusal → Error → Type 0
IsBroken r e = Some e ≡ option_map error_of r

-- why there is no answer: memory ran out, or a rule is broken
pub data IsRefused (r : Option CoreRefusal) (e : Error) : Type 0 where
  by_memory : e ≡ refusal NoMemory 0 → IsRefused r e
  by_rule : Some e ≡ option_map error_of r → IsRefused r e

-- a search that takes no memory tells what is broken, if anything
abbrev pub Tells : {T : Type 0} → Option CoreRefusal → Result T Error → Type 0
Tells r result = MatchResult result (λ _. r ≡ None) (IsBroken r)

-- a search tells what is broken, if anything, or memory ran out
abbrev pub TellsOrFails : {T : Type 0} → Option CoreRefusal → Result T Error → Type 0
TellsOrFails r result = MatchResult result (λ _. r ≡ None) (IsRefused r)

-- the refusal of a namespace as that of a module: another item has the id
abbrev pub kind_in_module : ErrorKind → ErrorKind
kind_in_module Duplicate = Core rules.Duplicate
kind_in_module k = k

abbrev pub as_core_rule : Error → Error
as_core_rule e = refusal (kind_in_module e.kind) e.offset
