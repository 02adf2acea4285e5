-- The parts of a function: its type use, its parameters and locals, its instructions.
use Rattle.std.proofs.Common.{◌≡◌, [], ◌++◌, List, Option, None, map, ap, sym, ◌∙◌}
use Rattle.comp_model.specs.declared.Space.TheVariants.{CoreType}
use Rattle.comp_model.specs.Core.{Id, CoreRefusal}
use Rattle.comp_model.specs.CoreModules.{Local, TypeUse, Instruction, Field}
use Rattle.wast_tokens.specs.declared.error.Error.{Error}
use Rattle.core_model.specs.Items.{ids_in, each_behind}
use Rattle.core_model.specs.Types.{ids_of}
use Rattle.core_model.specs.Rule.{first_broken, broken_local, broken_use, unknown_in_instruction}
use Rattle.core_checks.specs.Refusals.{IsBroken, IsRefused, by_rule}
use Rattle.core_checks.proofs.First.{broken-list, refused-as, refused-second, left-of-three}

module _ (fs : List Field) (u : TypeUse) (xs : List Local) (is : List Instruction) where
  abbrev locals : List (Option CoreRefusal)
  locals = each_behind (broken_local (ids_in CoreType fs)) [] xs

  abbrev body : List (Option CoreRefusal)
  body = map (unknown_in_instruction fs (ids_of xs)) is

  abbrev whole : Option CoreRefusal
  whole = first_broken (broken_use fs u ++ (locals ++ body))

  pub refused-in-use : (e : Error) → IsBroken (first_broken (broken_use fs u)) e → IsRefused whole e
  refused-in-use e h = by_rule (broken-list (broken_use fs u) (locals ++ body) e h)

  -- the ids of the types, by another name
  module _ (types : List (Option Id)) (same : types ≡ ids_in CoreType fs) (used : first_broken (broken_use fs u) ≡ None) where
    named : first_broken (each_behind (broken_local types) [] xs) ≡ first_broken locals
    named = ap (λ ids. first_broken (each_behind (broken_local ids) [] xs)) same

    pub refused-in-locals : (e : Error) → IsRefused (first_broken (each_behind (broken_local types) [] xs)) e → IsRefused whole e
    refused-in-locals e h = refused-second (broken_use fs u) locals body e used (refused-as _ _ e named h)

    pub left-of-body : (names : List (Option Id)) → names ≡ ids_of xs → first_broken (each_behind (broken_local types) [] xs) ≡ None → first_broken (map (unknown_in_instruction fs names) is) ≡ whole
    left-of-body names d none =
        ap (λ n. first_broken (map (unknown_in_instruction fs n) is)) d ∙ left-of-three (broken_use fs u) locals body used (sym named ∙ none)
