use Rattle.wast_component.proofs.LightTexts.{light_plan}
use Rattle.wast_component.proofs.laws.encodings_are_light.Goals as goal

pub returns : goal.returns
returns c = light_plan c.text_is_component.ensures.read
