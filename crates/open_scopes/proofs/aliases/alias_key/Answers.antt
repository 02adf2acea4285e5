use Rattle.std.proofs.Common.{ℕ, ap, ◌∙◌}
use Rattle.comp_model.specs.Spaces.{code_of_space}
use Rattle.open_scopes.specs.declared.lookup.Found.{Found}
use Rattle.open_scopes.proofs.aliases.alias_key.Goals as goal

pub returns : goal.returns
returns c = λ d h.
    ap (λ (n : ℕ). ((c.args.found.depth, c.args.found.item.definition), (c.args.found.item.part, n))) c.space_number.ensures.number
    ∙ ap (λ (f : Found). ((f.depth, f.item.definition), (f.item.part, code_of_space c.args.space))) h
