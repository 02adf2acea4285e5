use Rattle.std.proofs.Common.{◌<◌, ◌≤◌, ◌+◌, Some, length, map, flat_map, drop, sym, ◌∙◌, arith}
use Rattle.core_model.specs.Rule.{broken_parts}
use Rattle.core_model.specs.Weight.{weight_of_field}
use Rattle.core_model.specs.Resolved.{numbered_field}
use Rattle.core_syntax.specs.Fields.{field_of}
use Rattle.core_names.specs.ModuleIds.{places_in}
use Rattle.core_resolve.proofs.Changed.{changed-turn, changed-end}
use Rattle.core_resolve.proofs.Kept.{kept-next, kept-later, light-next, light-later}
use Rattle.core_resolve.proofs.PlacesLeft.{next-alone, later-places}
use Rattle.core_resolve.proofs.field.number_each.Goals as goal

pub number_field-requires : goal.number_field-requires
number_field-requires g c =
    let below : c.loop-field.field-index < length c.loop-field.fields = omega arith in
    let kept = kept-next (broken_parts g.source) field_of c.loop-field.field-index c.loop-field.fields c.field-item.result below c.loop-field.invariant.kept in
    let light = light-next weight_of_field field_of c.loop-field.field-index c.loop-field.fields c.field-item.result below c.loop-field.invariant.light in
    (c.requires.0, (c.requires.1.0, (c.requires.1.1.0, (kept, light))))

pub loop-field-preserved : goal.loop-field-preserved
loop-field-preserved g c =
    let below : c.loop-field.field-index < length c.loop-field.fields = omega arith in
    let i = c.loop-field.field-index in
    let xs = c.loop-field.fields in
    let front = next-alone (places_in g.source) field_of i xs (map Some c.loop-field.left.now) c.field-item.result below c.loop-field.invariant.places in
    record {
      changed = changed-turn field_of (numbered_field g.source) c.loop-field.field-index c.loop-field.fields _ _ below
          (c.in_ok-left.ensures.numbered (flat_map (places_in g.source) (map field_of (drop (i + 1) xs))) front) ∙ c.loop-field.invariant.changed;
      kept = kept-later (broken_parts g.source) field_of c.loop-field.field-index c.loop-field.fields c.number_field.new.field c.loop-field.invariant.kept;
      light = light-later weight_of_field field_of c.loop-field.field-index c.loop-field.fields c.number_field.new.field c.loop-field.invariant.light;
      places = c.in_ok-left.ensures.left (flat_map (places_in g.source) (map field_of (drop (i + 1) xs))) front ∙ later-places (places_in g.source) field_of i xs c.number_field.new.field;
    }

pub returns : goal.returns
returns g c =
    let end : length c.loop-field.fields ≤ c.loop-field.field-index = omega arith in
    sym (changed-end field_of (numbered_field g.source) c.loop-field.field-index c.loop-field.fields end) ∙ c.loop-field.invariant.changed
