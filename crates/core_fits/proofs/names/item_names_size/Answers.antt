use Rattle.std.proofs.Common.{◌≡◌, ◌+◌, ◌∷◌, List, true, map, drop, ap, sym, ◌∙◌, arith}
use Rattle.comp_model.specs.CoreModules.{Naming, Field}
use Rattle.core_model.specs.Items.{naming_of, is_space, declares, items_in}
use Rattle.core_model.specs.NameSection.{names_from}
use Rattle.core_syntax.specs.Fields.{field_of}
use Rattle.core_fits.specs.Tests.{fits_names}
use Rattle.core_fits.proofs.Sizes.{so_far_more}
use Rattle.core_bounds.proofs.Turns.{left}
use Rattle.core_fits.proofs.NamesSized.{names_first, fits_first, item_here}
use Rattle.core_fits.proofs.names.item_names_size.Goals as goal

pub loop-field-preserved : goal.loop-field-preserved
loop-field-preserved c =
    let s = c.args.space in
    let k = c.loop-field.place in
    let f : Field = field_of c.field-item.result in
    let fs : List Field = map field_of (drop (c.loop-field.field-index + 1) c.args.fields.now) in
    let rest : List Naming = map naming_of (items_in s fs) in
    let inside : is_space s (declares f) ≡ true = sym c.is_in.ensures ∙ c.if-not-is_in.false in
    let split : map naming_of (items_in s (map field_of (drop c.loop-field.field-index c.args.fields.now))) ≡ naming_of f ∷ rest =
    ap (λ ys. map naming_of (items_in s (map field_of ys))) (left c.args.fields.now c.loop-field.field-index c.field-item.result c.loop-field-test.true c.field-item.is) ∙ ap (map naming_of) (item_here s f fs inside) in
    record {
      size = so_far_more c.loop-field.size c.name_size.result c.and-size.result _ _ _ _ _ _ _ _
          (ap (names_from (0 + k)) split ∙ names_first 0 k (naming_of f) rest _ c.name_of_field.ensures) (ap (fits_names (0 + k)) split ∙ fits_first 0 k (naming_of f) rest _ c.name_of_field.ensures)
          c.name_size.ensures c.and-size.ensures.count c.and-size.ensures.bytes c.and-size.ensures.fits c.loop-field.invariant.size;
      within = omega (arith, c.loop-field.invariant.within);
    }
