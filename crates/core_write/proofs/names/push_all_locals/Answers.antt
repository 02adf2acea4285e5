use Rattle.std.proofs.Common.{◌≡◌, ◌+◌, ◌∷◌, ◌++◌, List, true, drop, map, ap, sym, subst, ◌∙◌, arith}
use Rattle.comp_model.specs.declared.Space.TheVariants.{CoreFunc}
use Rattle.comp_model.specs.CoreModules.{Field}
use Rattle.core_model.specs.Items.{is_space, declares, items_in}
use Rattle.core_syntax.specs.Fields.{field_of}
use Rattle.core_write.specs.NamesWritten.{local_items, local_items_from, FitsLocalsFrom}
use Rattle.core_write.proofs.Steps.{dropped, turn-appended, turn-counted}
use Rattle.core_write.proofs.Named.{item-first}
use Rattle.core_write.proofs.names.push_all_locals.Goals as goal

pub loop-field-preserved : goal.loop-field-preserved
loop-field-preserved c =
    let k = c.loop-field.place in
    let n = c.args.counts.now in
    let f : Field = field_of c.field-item.result in
    let fs : List Field = map field_of (drop c.loop-field.field-index c.args.fields.now) in
    let rest : List Field = map field_of (drop (c.loop-field.field-index + 1) c.args.fields.now) in
    let split : fs ≡ f ∷ rest = ap (map field_of) (dropped c.args.fields.now c.loop-field.field-index c.field-item.result c.loop-field-test.true c.field-item.is) in
    let inside : is_space CoreFunc (declares f) ≡ true = sym c.is_in.ensures ∙ c.if-not-is_in.false in
    let first : items_in CoreFunc fs ≡ f ∷ items_in CoreFunc rest = item-first CoreFunc f fs rest k split inside in
    let step : local_items_from n k (items_in CoreFunc fs) ≡ local_items n k f ++ local_items_from n (k + 1) (items_in CoreFunc rest) = ap (local_items_from n k) first in
    let fits : FitsLocalsFrom n k (f ∷ items_in CoreFunc rest) = subst (FitsLocalsFrom n k) first c.loop-field.invariant.fits in
    record {
      appended = turn-appended (local_items n k f) (local_items_from n (k + 1) (items_in CoreFunc rest)) _ c.loop-field.out.items c.push_local_item.new.out.items _ step c.in_ok-count.ensures.appended c.loop-field.invariant.appended;
      number = turn-counted (local_items n k f) (local_items_from n (k + 1) (items_in CoreFunc rest)) _ c.loop-field.count c.in_ok-count.field-0 _ step c.in_ok-count.ensures.number c.loop-field.invariant.number;
      fits = fits.1;
      within = omega (arith, c.loop-field.invariant.within);
    }
