use Rattle.std.proofs.Common.{◌≡◌, ◌++◌, subst, sym, ◌∙◌, ap}
use Rattle.std.specs.Prelude.{OnOk}
use Rattle.core_model.specs.Resolved.{numbered_field}
use Rattle.core_syntax.specs.Fields.{func_of, field_of}
use Rattle.core_names.specs.ModuleIds.{places_in}
use Rattle.core_resolve.proofs.field.number_field.Goals as goal

pub returns-in-Func-clause-numbered : goal.returns-in-Func-clause-numbered
returns-in-Func-clause-numbered g c = λ rest e.
    subst (λ f. OnOk c.number_func.result (func_of c.number_func.new.func ≡ numbered_field g.source (field_of f))) (sym c.in-Func.is)
    (c.number_func.ensures.numbered rest (e ∙ ap (λ f. places_in g.source (field_of f) ++ rest) c.in-Func.is))

pub returns-in-Global-clause-numbered : goal.returns-in-Global-clause-numbered
returns-in-Global-clause-numbered g c = λ rest e.
    c.number_global.ensures.numbered rest (e ∙ ap (λ f. places_in g.source (field_of f) ++ rest) c.in-Global.is) ∙ ap (λ f. numbered_field g.source (field_of f)) (sym c.in-Global.is)

pub returns-in-Global-clause-left : goal.returns-in-Global-clause-left
returns-in-Global-clause-left g c = λ rest e. c.number_global.ensures.left rest (e ∙ ap (λ f. places_in g.source (field_of f) ++ rest) c.in-Global.is)
