use Rattle.std.proofs.Common.{◌≡◌, length, refl, ◌∙◌, ap, arith}
use Rattle.comp_model.specs.declared.Space.TheVariants.{CoreType}
use Rattle.core_model.specs.Items.{ids_in}
use Rattle.core_model.specs.Types.{all_types, written_types}
use Rattle.core_model.proofs.Lists.{both}
use Rattle.core_syntax.specs.Fields.{fields_of}
use Rattle.core_names.proofs.Outcomes.{on-ok}
use Rattle.core_resolve.specs.Tables.{needed_in}
use Rattle.core_resolve.proofs.Counts.{few-types}
use Rattle.core_resolve.proofs.Tables.{length-with, all-types, written-types}
use Rattle.core_resolve.proofs.AddedFields.{added-behind}
use Rattle.core_resolve.proofs.module.number_fields.Goals as goal

pub defined_types-requires : goal.defined_types-requires
defined_types-requires c =
    let fs = fields_of c.args.fields.now.items in
    let a = ap length (written-types c.args.names.now.types fs _ _ c.requires.named.types (ap fields_of c.as_slice.ensures.value) refl) in
    let d = length-with (written_types fs) (needed_in (ids_in CoreType fs) fs) in
    let e = few-types fs c.requires.light in
    record { room = omega (arith, a, d, e) }

pub add_all_needed-requires : goal.add_all_needed-requires
add_all_needed-requires c =
    let fs = fields_of c.args.fields.now.items in
    let a = ap length (all-types c.args.names.now.types fs _ _ c.in_ok-types.types _ c.requires.named.types (ap fields_of c.as_slice.ensures.value) (ap fields_of c.as_slice-2.ensures.value) c.in_ok-types.ensures refl) in
    let e = few-types fs c.requires.light in
    record { room = omega (arith, a, e) }

pub number_all-requires-clause-typed : goal.number_all-requires-clause-typed
number_all-requires-clause-typed c =
    all-types c.args.names.now.types (fields_of c.args.fields.now.items) _ _ c.in_ok-types.types _ c.requires.named.types (ap fields_of c.as_slice.ensures.value) (ap fields_of c.as_slice-2.ensures.value)
    c.in_ok-types.ensures c.in_ok-add_all_needed.ensures

pub returns : goal.returns
returns c =
    let fs = fields_of c.args.fields.now.items in
    let written : c.in_ok-types.types ≡ written_types fs =
    written-types c.args.names.now.types fs _ _ c.requires.named.types (ap fields_of c.as_slice.ensures.value) c.in_ok-types.ensures in
    let typed : c.add_all_needed.new.table ≡ all_types fs =
    all-types c.args.names.now.types fs _ _ c.in_ok-types.types _ c.requires.named.types (ap fields_of c.as_slice.ensures.value) (ap fields_of c.as_slice-2.ensures.value) c.in_ok-types.ensures c.in_ok-add_all_needed.ensures in
    on-ok c.push_types.result c.push_types.ensures
    (λ e. e ∙ both c.in_ok-number_all.ensures (added-behind fs c.add_all_needed.new.table c.len-written.result typed (c.len-written.ensures ∙ ap length written)))
