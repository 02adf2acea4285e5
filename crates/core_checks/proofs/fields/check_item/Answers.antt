use Rattle.std.proofs.Common.{ap, sym, ◌∙◌}
use Rattle.core_model.specs.Items.{ids_in}
use Rattle.core_model.specs.Rule.{unknown}
use Rattle.core_syntax.specs.Ids.{reference_of}
use Rattle.core_syntax.specs.Fields.{space_of}
use Rattle.core_checks.proofs.First.{told-as}
use Rattle.core_names.proofs.Tags.{no-tags}
use Rattle.core_checks.proofs.fields.check_item.Goals as goal

pub returns-in-Tag : goal.returns-in-Tag
returns-in-Tag c =
    told-as _ _ c.check_name-in-Tag.result
    (ap (λ ids. unknown ids (reference_of c.args.item.now)) (c.new-tags.ensures ∙ sym (no-tags c.args.scope.now))
    ∙ ap (λ k. unknown (ids_in (space_of k) c.args.scope.now) (reference_of c.args.item.now)) (sym c.in-Tag.is))
    c.check_name-in-Tag.ensures
