use Rattle.std.proofs.Common.{Vec, Global, refl, ap, length, arith}
use Rattle.std.proofs.lemmas.Result.{on_ok_weaker}
use Rattle.comp_list.specs.declared.spots.Parts.{Parts}
use Rattle.comp_list.proofs.Tables.{chain_found, spots_found, chains_stay, spots_more}
use Rattle.comp_list.proofs.spots.Spots.push.Goals as goal

pub invariant_of-self : goal.invariant_of-self
invariant_of-self c = chains_stay (λ (v : Vec Parts Global). v.items) c.self.inside.chains.items c.space_number.result c.self.invariant c.space_number.ensures.few c.push_parts.new.chain c.push_parts.ensures.chain

pub returns : goal.returns
returns c =
    on_ok_weaker c.push_parts.result
    (λ h s. spots_more (λ (v : Vec Parts Global). v.items) c.self.inside.chains.items c.space_number.result c.self.invariant c.space_number.ensures.few c.index_mut.result.now c.push_parts.new.chain c.args.self.now s c.args.space c.args.def c.args.part c.args.count c.index_mut.ensures.value c.space_number.ensures.number c.self.view_is h)
    c.push_parts.ensures.items

pub push_parts-requires-clause-chain : goal.push_parts-requires-clause-chain
push_parts-requires-clause-chain c =
    chain_found (λ (v : Vec Parts Global). v.items) c.self.inside.chains.items c.space_number.result c.self.invariant c.space_number.ensures.few c.index_mut.result.now c.index_mut.result.now.items c.index_mut.ensures.value refl

pub push_parts-requires-clause-room : goal.push_parts-requires-clause-room
push_parts-requires-clause-room c =
    omega (
      arith,
      ap length (spots_found (λ (v : Vec Parts Global). v.items) c.self.inside.chains.items c.space_number.result c.self.invariant c.space_number.ensures.few c.index_mut.result.now c.index_mut.result.now.items c.args.self.now c.args.space c.index_mut.ensures.value refl c.space_number.ensures.number c.self.view_is),
      c.requires.room,
    )
