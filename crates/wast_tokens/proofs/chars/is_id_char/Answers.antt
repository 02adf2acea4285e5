use Rattle.std.proofs.Common.{◌∙◌, sym}
use Rattle.wast_tokens.proofs.Classes.{class_id, class_no_id}
use Rattle.wast_tokens.proofs.chars.is_id_char.Goals as goal

pub returns-in-Id : goal.returns-in-Id
returns-in-Id c = record { class = sym (class_id c.args.b (sym c.in-Id.ensures.class)) }

pub returns-in_default : goal.returns-in_default
returns-in_default c = record { class = sym (class_no_id c.args.b (λ e. c.in_default.not-Id (c.class_of.ensures.class ∙ e))) }
