use Rattle.std.proofs.Common.{[], ◌+◌, map, drop, drop_of_length-le, ap, ◌∙◌}
use Rattle.core_model.specs.Bytes.{export_item}
use Rattle.comp_wire.specs.Fits.{is_word}
use Rattle.core_fits.specs.Tests.{fits_inline}
use Rattle.core_fits.proofs.Sizes.{size_one, so_far_none, so_far_more, so_far_all}
use Rattle.core_bounds.proofs.Turns.{left-at}
use Rattle.core_fits.proofs.exports.inline_size.Goals as goal

pub loop-name-init : goal.loop-name-init
loop-name-init c = λ s. so_far_none c.none-size.result _ _ c.none-size.ensures.count c.none-size.ensures.bytes c.none-size.ensures.fits

pub loop-name-preserved : goal.loop-name-preserved
loop-name-preserved c =
    let split = left-at c.args.names.now c.loop-name.name-index _ c.loop-name-test.true in
    λ s. so_far_more c.loop-name.size c.one.result c.and-size.result _ (map (export_item [] s c.args.index) (map (λ x. x.now) (drop (c.loop-name.name-index + 1) c.args.names.now))) _ _
    (is_word c.args.index) (fits_inline c.args.index (map (λ x. x.now) (drop (c.loop-name.name-index + 1) c.args.names.now))) _ _
    (ap (λ ys. map (export_item [] s c.args.index) (map (λ x. x.now) ys)) split) (ap (λ ys. fits_inline c.args.index (map (λ x. x.now) ys)) split)
    (size_one c.one.result _ _ c.one.ensures.count (c.one.ensures.bytes ∙ c.export_length.ensures s) (c.one.ensures.fits ∙ c.is_word.ensures))
    c.and-size.ensures.count c.and-size.ensures.bytes c.and-size.ensures.fits (c.loop-name.invariant s)

pub returns : goal.returns
returns c =
    let gone = drop_of_length-le c.args.names.now c.loop-name-test.false in
    λ s. so_far_all c.loop-name.size _ _ _ _ (ap (λ ys. map (export_item [] s c.args.index) (map (λ x. x.now) ys)) gone) (ap (λ ys. fits_inline c.args.index (map (λ x. x.now) ys)) gone) (c.loop-name.invariant s)
