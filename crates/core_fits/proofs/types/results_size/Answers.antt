use Rattle.std.proofs.Common.{true, [], map, drop, drop_of_length-le, get_or, ◌+◌, refl, ap, ◌∙◌}
use Rattle.core_syntax.specs.declared.types.ValType.TheVariants.{I32}
use Rattle.comp_wire.specs.Spelled.{core_bytes}
use Rattle.core_model.specs.Bytes.{value, values}
use Rattle.core_syntax.specs.Fields.{value_of}
use Rattle.core_fits.proofs.Sizes.{so_far_none, so_far_more, so_far_all}
use Rattle.core_bounds.proofs.Turns.{left-at}
use Rattle.core_fits.proofs.ValuesSized.{value_first}
use Rattle.core_fits.proofs.types.results_size.Goals as goal

pub loop-ty-init : goal.loop-ty-init
loop-ty-init c = so_far_none _ _ true c.none-size.ensures.count c.none-size.ensures.bytes c.none-size.ensures.fits

pub loop-ty-preserved : goal.loop-ty-preserved
loop-ty-preserved c =
    let d = get_or c.args.results.now c.loop-ty.ty-index (I32) in
    so_far_more c.loop-ty.size c.value_size.result c.and-size.result _ _ _ _ true true true true
    (ap (λ ps. map core_bytes (values (map (value []) (map value_of ps)))) (left-at c.args.results.now c.loop-ty.ty-index _ c.loop-ty-test.true)
    ∙ value_first (value [] (value_of d)) (map (value []) (map value_of (drop (c.loop-ty.ty-index + 1) c.args.results.now))))
    refl c.value_size.ensures c.and-size.ensures.count c.and-size.ensures.bytes c.and-size.ensures.fits c.loop-ty.invariant

pub returns : goal.returns
returns c = so_far_all c.loop-ty.size _ _ true true (ap (λ ps. map core_bytes (values (map (value []) (map value_of ps)))) (drop_of_length-le c.args.results.now c.loop-ty-test.false)) refl c.loop-ty.invariant
