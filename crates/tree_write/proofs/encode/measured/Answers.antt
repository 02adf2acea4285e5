use Rattle.std.proofs.Common.{[], sym, ◌∙◌, append-nil}
use Rattle.comp_wire.proofs.Fit.{fits_sections}
use Rattle.tree_write.proofs.encode.measured.Goals as goal

pub returns : goal.returns
returns g c = λ fits e. (c.write_component.ensures [] (fits_sections _ fits) (e ∙ sym (append-nil _))).0
