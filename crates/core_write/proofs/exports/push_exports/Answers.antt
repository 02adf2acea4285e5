use Rattle.std.proofs.Common.{◌≡◌, ◌+◌, ◌∷◌, List, drop, map, ap, sym, subst, ◌∙◌}
use Rattle.comp_model.specs.CoreModules.{Field}
use Rattle.core_model.specs.Items.{declares}
use Rattle.core_syntax.specs.Fields.{field_of}
use Rattle.core_write.specs.Exports.{counted_in}
use Rattle.core_write.proofs.Steps.{dropped}
use Rattle.core_write.proofs.Exported.{Below, one-more, exports-appended, exports-counted, exports-fit}
use Rattle.core_write.proofs.exports.push_exports.Goals as goal

pub loop-field-preserved : goal.loop-field-preserved
loop-field-preserved c =
    let n = c.loop-field.counts in
    let m = c.count_in-counts.result in
    let f : Field = field_of c.field-item.result in
    let fs : List Field = map field_of (drop c.loop-field.field-index c.args.fields.now) in
    let rest : List Field = map field_of (drop (c.loop-field.field-index + 1) c.args.fields.now) in
    let split : fs ≡ f ∷ rest = ap (map field_of) (dropped c.args.fields.now c.loop-field.field-index c.field-item.result c.loop-field-test.true c.field-item.is) in
    let counted : m ≡ counted_in (declares f) n = c.count_in-counts.ensures ∙ ap (λ s. counted_in s n) c.space_of.ensures in
    record {
      appended = exports-appended n m f fs rest split counted c.loop-field.out.items c.push_exports_at.new.out.items _ c.in_ok-count.ensures.appended c.loop-field.invariant.appended;
      number = exports-counted n m f fs rest split counted c.loop-field.count c.in_ok-count.field-0 _ c.in_ok-count.ensures.number c.loop-field.invariant.number;
      fits = exports-fit n m f fs rest split counted c.loop-field.invariant.fits;
      below = subst (λ k. Below k (c.loop-field.field-index + 1)) (sym counted) (one-more (declares f) n c.loop-field.field-index c.loop-field.invariant.below);
    }
