use Rattle.std.proofs.Common.{refl}
use Rattle.comp_canon.specs.Lines.{error_context_debug_message}
use Rattle.comp_canon.proofs.errors.CanonErrorContextDebugMessageOfLeaves.rule.Goals as goal

pub returns : goal.returns
returns c = c.built_in.ensures error_context_debug_message refl
