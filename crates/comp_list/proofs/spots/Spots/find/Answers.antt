use Rattle.std.proofs.Common.{ap, ◌∙◌, slice_get, Vec, Global}
use Rattle.comp_list.specs.declared.spots.Parts.{Parts}
use Rattle.comp_list.proofs.Tables.{chain_found, spots_found}
use Rattle.comp_list.proofs.spots.Spots.find.Goals as goal

pub find_in-requires : goal.find_in-requires
find_in-requires c = record {
  chain = chain_found (λ (v : Vec Parts Global). v.items) c.self.inside.chains.items c.space_number.result c.self.invariant c.space_number.ensures.few c.index.result.now c.deref.result.now c.index.ensures c.deref.ensures.value;
}

pub returns : goal.returns
returns c =
    c.find_in.ensures
    ∙ ap (λ q. slice_get q c.args.index) (spots_found (λ (v : Vec Parts Global). v.items) c.self.inside.chains.items c.space_number.result c.self.invariant c.space_number.ensures.few c.index.result.now c.deref.result.now c.args.self.now c.args.space c.index.ensures c.deref.ensures.value c.space_number.ensures.number c.self.view_is)
