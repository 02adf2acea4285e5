use Rattle.std.proofs.Common.{true, None, [], map, drop, drop_of_length-le, get_or, ◌+◌, refl, ap, ◌∙◌}
use Rattle.core_syntax.specs.declared.types.ValType.TheVariants.{I32}
use Rattle.comp_wire.specs.Spelled.{core_bytes}
use Rattle.core_model.specs.Bytes.{value}
use Rattle.core_syntax.specs.Fields.{param_of, value_of}
use Rattle.core_write.specs.Written.{values_of}
use Rattle.core_fits.proofs.Sizes.{so_far_none, so_far_more, so_far_all}
use Rattle.core_bounds.proofs.Turns.{left-at}
use Rattle.core_fits.proofs.ValuesSized.{value_first}
use Rattle.core_fits.proofs.types.params_size.Goals as goal

pub loop-param-init : goal.loop-param-init
loop-param-init c = so_far_none _ _ true c.none-size.ensures.count c.none-size.ensures.bytes c.none-size.ensures.fits

pub loop-param-preserved : goal.loop-param-preserved
loop-param-preserved c =
    let d = get_or c.args.params.now c.loop-param.param-index (record { id = None; name = None; ty = I32 }) in
    so_far_more c.loop-param.size c.value_size.result c.and-size.result _ _ _ _ true true true true
    (ap (λ ps. map core_bytes (values_of (map param_of ps))) (left-at c.args.params.now c.loop-param.param-index _ c.loop-param-test.true)
    ∙ value_first (value [] (value_of d.ty)) (map (λ l. value [] l.value) (map param_of (drop (c.loop-param.param-index + 1) c.args.params.now))))
    refl c.value_size.ensures c.and-size.ensures.count c.and-size.ensures.bytes c.and-size.ensures.fits c.loop-param.invariant

pub returns : goal.returns
returns c = so_far_all c.loop-param.size _ _ true true (ap (λ ps. map core_bytes (values_of (map param_of ps))) (drop_of_length-le c.args.params.now c.loop-param-test.false)) refl c.loop-param.invariant
