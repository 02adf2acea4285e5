use Rattle.std.proofs.Common.{◌∙◌}
use Rattle.comp_scopes.specs.Filled.{indices}
use Rattle.comp_walks.proofs.Forming.{leaves-filled, leaves-renumbered, leaves-resolved}
use Rattle.comp_walks.proofs.laws.numbered_is_formed.Goals as goal

pub returns : goal.returns
returns c = record {
  filled = λ e st table u ls h. leaves-filled e st table ls u h;
  renumbered = λ e os table u ls h. leaves-renumbered e os table ls u h;
  formed = λ e st k ls h. leaves-filled e st (indices st k 0 ls) ls 0 h ∙ c.definition_is_filled.ensures.whole e st k ls;
  resolved = λ table u ls h. leaves-resolved table ls u h;
}
