use Rattle.std.proofs.Common.{[]}
use Rattle.comp_scopes.proofs.RowsRowed.{scope-rowed}
use Rattle.comp_scopes.proofs.FormBinary.{form-binary}
use Rattle.comp_scopes.proofs.Agree.{form-renders}
use Rattle.comp_scopes.proofs.laws.component_renders.Goals as goal

pub returns-clause-binary : goal.returns-clause-binary
returns-clause-binary c = λ e s f w. form-binary e [] s (scope-rowed s f w)

pub returns-clause-renders : goal.returns-clause-renders
returns-clause-renders c = λ e s f w r. form-renders e [] s (scope-rowed s f w, tt) r
