use Rattle.text_rules.proofs.Whole.{component_is_of_text, text_is_whole, read_text_is_whole}
use Rattle.text_rules.proofs.laws.text_is_component.Goals as goal

pub returns-clause-component : goal.returns-clause-component
returns-clause-component c = component_is_of_text

pub returns-clause-spelled : goal.returns-clause-spelled
returns-clause-spelled c = text_is_whole

pub returns-clause-read : goal.returns-clause-read
returns-clause-read c = read_text_is_whole
