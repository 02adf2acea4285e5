use Rattle.std.proofs.Common.{◌∙◌}
use Rattle.type_keys.proofs.types.Types.find.Goals as goal

pub returns : goal.returns
returns c = λ ks h. c.copied.ensures ∙ c.get.ensures.value ∙ h c.args.key.now
