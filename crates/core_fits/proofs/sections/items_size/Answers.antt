use Rattle.std.proofs.Common.{◌≡◌, List, ◌∷◌, map, drop, drop_of_length-le, ◌+◌, ap}
use Rattle.comp_model.specs.CoreModules.{Field}
use Rattle.core_syntax.specs.Fields.{field_of}
use Rattle.core_write.specs.Written.{items_of}
use Rattle.core_write.specs.Module.{items_in_part}
use Rattle.core_fits.specs.Tests.{fits_item, fits_items}
use Rattle.core_fits.proofs.Sizes.{so_far_none, so_far_more, so_far_all}
use Rattle.core_bounds.proofs.Turns.{left}
use Rattle.core_fits.proofs.sections.items_size.Goals as goal

pub loop-field-init : goal.loop-field-init
loop-field-init c = so_far_none c.none-size.result _ _ c.none-size.ensures.count c.none-size.ensures.bytes c.none-size.ensures.fits

pub loop-field-preserved : goal.loop-field-preserved
loop-field-preserved c =
    let p = c.args.part in
    let f : Field = field_of c.field-item.result in
    let rest : List Field = map field_of (drop (c.loop-field.field-index + 1) c.args.fields.now) in
    let split : map field_of (drop c.loop-field.field-index c.args.fields.now) ≡ f ∷ rest = ap (map field_of) (left c.args.fields.now c.loop-field.field-index c.field-item.result c.loop-field-test.true c.field-item.is) in
    so_far_more c.loop-field.size c.item_size.result c.and-size.result (items_of p f) (items_in_part p rest) _ _ (fits_item p f) (fits_items p rest) _ _
    (ap (items_in_part p) split) (ap (fits_items p) split) c.item_size.ensures c.and-size.ensures.count c.and-size.ensures.bytes c.and-size.ensures.fits c.loop-field.invariant

pub returns : goal.returns
returns c =
    let gone = drop_of_length-le c.args.fields.now c.loop-field-test.false in
    so_far_all c.loop-field.size _ _ _ _ (ap (λ fs. items_in_part c.args.part (map field_of fs)) gone) (ap (λ fs. fits_items c.args.part (map field_of fs)) gone) c.loop-field.invariant
