use Rattle.std.proofs.Common.{◌≡◌, [], ℕ, Bool, List, ap, ◌∙◌}
use Rattle.comp_model.specs.Core.{CoreValue}
use Rattle.comp_model.specs.CoreModules.{Naming, Inline, Instruction, global_field}
use Rattle.core_model.specs.Resolved.{numbered_value}
use Rattle.core_syntax.specs.Fields.{value_of}
use Rattle.core_resolve.proofs.LocalIds.{none_in_front}
use Rattle.core_resolve.proofs.field.number_global.Goals as goal

same-global : (o : ℕ) (n : Naming) (i : Inline) (v w : CoreValue) (m : Bool) (is js : List Instruction) → v ≡ w → is ≡ js → global_field o n i v m is ≡ global_field o n i w m js
same-global o n i v w m is js a b = ap (λ x. global_field o n i x m is) a ∙ ap (global_field o n i w m) b

pub returns-clause-numbered : goal.returns-clause-numbered
returns-clause-numbered g c = λ rest e.
    same-global _ _ _ _ _ _ _ _ (c.numbered_value-global.ensures ∙ ap (λ ts. numbered_value ts (value_of c.args.global.now.ty)) c.requires.types)
    (c.number_body.ensures.numbered g.source [] rest (none_in_front []) e)

pub returns-clause-left : goal.returns-clause-left
returns-clause-left g c = λ rest e. c.number_body.ensures.left g.source [] rest e
