use Rattle.printed_text.proofs.TooDeep.{deep_by_rows}
use Rattle.printed_text.proofs.laws.printed_text_is_deep.Goals as goal

pub returns : goal.returns
returns c = deep_by_rows c.text_is_component.ensures.spelled
