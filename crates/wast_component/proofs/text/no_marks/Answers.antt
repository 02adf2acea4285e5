use Rattle.std.proofs.Common.{◌∙◌, ap}
use Rattle.comp_wire.specs.Origins.{origins_of_list}
use Rattle.comp_wire.proofs.Marks.{origins_rolled}
use Rattle.wast_component.proofs.text.no_marks.Goals as goal

pub returns-then-recorded-clause-shown : goal.returns-then-recorded-clause-shown
returns-then-recorded-clause-shown c = origins_rolled c.from_vec.result ∙ ap origins_of_list (c.from_vec.ensures.same_items ∙ c.new.ensures.items)
