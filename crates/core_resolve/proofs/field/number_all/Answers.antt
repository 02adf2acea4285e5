use Rattle.std.proofs.Common.{◌≡◌, ◌<◌, ◌^◌, ℕ, List, Option, Some, None, map, flat_map, subst, sym, ap, ◌∙◌}
use Rattle.comp_model.specs.Weight.{weight_of_all}
use Rattle.core_model.specs.Types.{Signature, all_types}
use Rattle.core_model.specs.Rule.{first_broken, broken_parts, core_rule}
use Rattle.core_model.specs.Weight.{weight_of_field, core_weight}
use Rattle.core_syntax.specs.declared.fields.ModuleField.{ModuleField}
use Rattle.core_syntax.specs.Fields.{fields_of}
use Rattle.core_names.specs.declared.module_names.ModuleNames.{ModuleNames}
use Rattle.core_names.specs.ModuleIds.{AreNamesOf, places_in}
use Rattle.core_resolve.specs.LocalIds.{FewParams}
use Rattle.core_resolve.proofs.Counts.{few-params}
use Rattle.core_resolve.proofs.Kept.{kept-parts}
use Rattle.core_resolve.proofs.field.number_all.Goals as goal

-- what is asked of fields by what is known of equal ones
asked : (names : ModuleNames) (xs ys : List ModuleField) (types : List (Option Signature)) (places : List ℕ) → xs ≡ ys → places ≡ names.places.items
    → AreNamesOf names (fields_of xs) → types ≡ all_types (fields_of xs) → core_rule (fields_of xs) ≡ None → core_weight (fields_of xs) < 2 ^ 31
    → AreNamesOf names (fields_of ys) × ((types ≡ all_types (fields_of ys)) × (FewParams types × ((first_broken (flat_map (broken_parts (fields_of ys)) (fields_of ys)) ≡ None) × ((weight_of_all weight_of_field (fields_of ys) < 2 ^ 31) × (map Some places ≡ flat_map (places_in (fields_of ys)) (fields_of ys))))))
asked names xs ys types places same slice named typed kept light =
    let P : List ModuleField → Type 0 = λ zs. AreNamesOf names (fields_of zs) × ((types ≡ all_types (fields_of zs)) × (FewParams types × ((first_broken (flat_map (broken_parts (fields_of zs)) (fields_of zs)) ≡ None) × ((weight_of_all weight_of_field (fields_of zs) < 2 ^ 31) × (map Some places ≡ flat_map (places_in (fields_of zs)) (fields_of zs)))))) in
    let few : FewParams types = subst FewParams (sym typed) (few-params (fields_of xs) light) in
    subst P same (named, (typed, (few, (kept-parts (fields_of xs) kept, (light, ap (map Some) slice ∙ named.places)))))

pub number_each-requires : goal.number_each-requires
number_each-requires c =
    asked c.args.names.now c.args.fields.now.items c.as_mut_slice.result.now c.args.types.now c.as_slice.result.now (sym c.as_mut_slice.ensures.value) c.as_slice.ensures.value c.requires.named c.requires.typed c.requires.kept c.requires.light
