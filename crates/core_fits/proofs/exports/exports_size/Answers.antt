use Rattle.std.proofs.Common.{◌≡◌, ◌+◌, ◌∷◌, ◌++◌, ◌&&◌, List, map, drop, drop_of_length-le, ap, sym, subst, ◌∙◌}
use Rattle.comp_model.specs.CoreModules.{Field}
use Rattle.core_model.specs.Items.{declares}
use Rattle.core_syntax.specs.Fields.{field_of}
use Rattle.core_write.specs.Exports.{counted_in, exports_at, exports_from}
use Rattle.core_write.proofs.Exported.{Below, one-more}
use Rattle.core_fits.specs.Tests.{fits_exports_at, fits_exports}
use Rattle.core_fits.proofs.Sizes.{so_far_more, so_far_all}
use Rattle.core_bounds.proofs.Turns.{left}
use Rattle.core_fits.proofs.exports.exports_size.Goals as goal

pub loop-field-preserved : goal.loop-field-preserved
loop-field-preserved c =
    let n = c.loop-field.counts in
    let m = c.count_in-counts.result in
    let f : Field = field_of c.field-item.result in
    let rest : List Field = map field_of (drop (c.loop-field.field-index + 1) c.args.fields.now) in
    let split : map field_of (drop c.loop-field.field-index c.args.fields.now) ≡ f ∷ rest = ap (map field_of) (left c.args.fields.now c.loop-field.field-index c.field-item.result c.loop-field-test.true c.field-item.is) in
    let counted : m ≡ counted_in (declares f) n = c.count_in-counts.ensures ∙ ap (λ s. counted_in s n) c.space_of.ensures in
    record {
      size = so_far_more c.loop-field.size c.exports_at_size.result c.and-size.result (exports_at n f) (exports_from m rest) _ _ (fits_exports_at n f) (fits_exports m rest) _ _
          (ap (exports_from n) split ∙ ap (λ k. exports_at n f ++ exports_from k rest) (sym counted)) (ap (fits_exports n) split ∙ ap (λ k. fits_exports_at n f && fits_exports k rest) (sym counted))
          c.exports_at_size.ensures c.and-size.ensures.count c.and-size.ensures.bytes c.and-size.ensures.fits c.loop-field.invariant.size;
      below = subst (λ k. Below k (c.loop-field.field-index + 1)) (sym counted) (one-more (declares f) n c.loop-field.field-index c.loop-field.invariant.below);
    }

pub returns : goal.returns
returns c =
    let gone = drop_of_length-le c.args.fields.now c.loop-field-test.false in
    so_far_all c.loop-field.size _ _ _ _ (ap (λ fs. exports_from c.loop-field.counts (map field_of fs)) gone) (ap (λ fs. fits_exports c.loop-field.counts (map field_of fs)) gone) c.loop-field.invariant.size
