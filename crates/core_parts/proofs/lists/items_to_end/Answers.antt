use Rattle.std.proofs.Common.{◌<◌, not, arith, refl, ◌∙◌, ap, sym}
use Rattle.wast_grammar.specs.Grammar.{going}
use Rattle.wast_grammar.specs.Read.{left_of}
use Rattle.wast_grammar.specs.Shape.{consumes}
use Rattle.wast_grammar.proofs.Fuel.{read_moves}
use Rattle.wast_grammar.proofs.Moves.{Ahead}
use Rattle.wast_parser.proofs.Many.{goes_on, is_done, sound_many}
use Rattle.core_parts.proofs.lists.items_to_end.Goals as goal

pub items-smaller : goal.items-smaller
items-smaller g c =
    let row = g.T.GroupItem.item_row in
    let a : Ahead (consumes row) c.items.parser c.item.new.parser = read_moves row c.items.parser _ c.item.new.parser g.T.GroupItem.is_sound c.in_ok-item.ensures.gives in
    let l : left_of c.item.new.parser < left_of c.items.parser = a.falls g.T.GroupItem.has_token in l

pub items-preserved : goal.items-preserved
items-preserved g c =
    let p = c.items.invariant in
    let q = c.in_ok-item.ensures in
    let row = g.T.GroupItem.item_row in
    let z = sound_many going row refl g.T.GroupItem.has_token g.T.GroupItem.is_sound in
    record {
      gives = rw c.in_ok-push.ensures.items (goes_on g.T.GroupItem.view going row c.items.items.items c.in_ok-item.item c.items.parser c.item.new.parser _ z (ap not (sym c.is_empty.ensures.ends ∙ c.items-test.true)) q.gives p.gives);
      text = q.text ∙ p.text;
      forward = omega (arith, q.forward, p.forward);
    }

pub returns-clause-gives : goal.returns-clause-gives
returns-clause-gives g c = is_done g.T.GroupItem.view going g.T.GroupItem.item_row c.items.items.items c.items.parser _ (ap not (sym c.is_empty.ensures.ends ∙ c.items-test.false)) c.items.invariant.gives
