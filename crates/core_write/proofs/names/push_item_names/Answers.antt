use Rattle.std.proofs.Common.{◌≡◌, ◌+◌, ◌∷◌, List, Option, true, drop, map, option_map, ap, sym, ◌∙◌, arith}
use Rattle.comp_model.specs.CoreModules.{Field}
use Rattle.comp_model.specs.Core.{Text}
use Rattle.core_model.specs.Items.{naming_of, is_space, declares, items_in}
use Rattle.core_model.specs.NameSection.{named_at, names_from}
use Rattle.core_syntax.specs.Fields.{field_of}
use Rattle.core_write.proofs.Steps.{dropped, turn-appended, turn-counted}
use Rattle.core_write.proofs.Named.{name-first, names-fit}
use Rattle.core_write.proofs.names.push_item_names.Goals as goal

pub loop-field-preserved : goal.loop-field-preserved
loop-field-preserved c =
    let k = c.loop-field.place in
    let f : Field = field_of c.field-item.result in
    let fs : List Field = map field_of (drop c.loop-field.field-index c.args.fields.now) in
    let rest : List Field = map field_of (drop (c.loop-field.field-index + 1) c.args.fields.now) in
    let split : fs ≡ f ∷ rest = ap (map field_of) (dropped c.args.fields.now c.loop-field.field-index c.field-item.result c.loop-field-test.true c.field-item.is) in
    let inside : is_space c.args.space (declares f) ≡ true = sym c.is_in.ensures ∙ c.if-not-is_in.false in
    let x : Option Text = option_map (λ y. y.now) c.name_of_field.result in
    let step = name-first c.args.space f fs rest k split inside x c.name_of_field.ensures in
    record {
      appended = turn-appended (named_at (0 + k) x) (names_from (0 + (k + 1)) (map naming_of (items_in c.args.space rest))) _ c.loop-field.out.items c.push_name.new.out.items _ step c.in_ok-count.ensures.appended c.loop-field.invariant.appended;
      number = turn-counted (named_at (0 + k) x) (names_from (0 + (k + 1)) (map naming_of (items_in c.args.space rest))) _ c.loop-field.count c.in_ok-count.field-0 _ step c.in_ok-count.ensures.number c.loop-field.invariant.number;
      fits = names-fit c.args.space f fs rest k split inside c.loop-field.invariant.fits;
      within = omega (arith, c.loop-field.invariant.within);
    }
