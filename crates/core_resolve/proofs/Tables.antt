-- Tables of types: those that fields write, and behind them those that their type uses need.
use Rattle.std.proofs.Common.{◌≡◌, ◌≤◌, List, length, map, Option, Some, ◌∙◌, ap, arith, length-append}
use Rattle.comp_model.specs.declared.Space.TheVariants.{CoreType}
use Rattle.comp_model.specs.Core.{Id}
use Rattle.comp_model.specs.CoreModules.{Field}
use Rattle.core_model.specs.Items.{ids_in}
use Rattle.core_model.specs.Types.{Signature, added, written_types, all_types}
use Rattle.core_resolve.specs.Tables.{written_in, needed_in, with_needed}

pub length-with : (ts : List (Option Signature)) (ss : List Signature) → length ts ≤ length (with_needed ts ss)
length-with ts ss = let e = length-append ts (map Some (added ts ss)) in omega (arith, e)

-- the written types, of fields that are lent
pub written-types : (ids : List (Option Id)) (fs gs : List Field) (ts : List (Option Signature)) → ids ≡ ids_in CoreType fs → gs ≡ fs → ts ≡ written_in ids gs → ts ≡ written_types fs
written-types ids fs gs ts named same written = written ∙ ap (written_in ids) same ∙ ap (λ x. written_in x fs) named

-- the whole table, of fields that are lent twice
pub all-types : (ids : List (Option Id)) (fs gs hs : List Field) (ts us : List (Option Signature)) → ids ≡ ids_in CoreType fs → gs ≡ fs → hs ≡ fs → ts ≡ written_in ids gs → us ≡ with_needed ts (needed_in ids hs) → us ≡ all_types fs
all-types ids fs gs hs ts us named first second written whole =
    whole ∙ ap (λ x. with_needed x (needed_in ids hs)) (written ∙ ap (written_in ids) first) ∙ ap (λ x. with_needed (written_in ids fs) (needed_in ids x)) second
    ∙ ap (λ x. with_needed (written_in x fs) (needed_in x fs)) named
