use Rattle.std.proofs.Common.{◌≡◌, ◌<◌, [], ◌∷◌, ◌++◌, arith, refl, sym, ap, ◌∙◌}
use Rattle.wast_grammar.specs.Read.{read, left_of}
use Rattle.wast_grammar.specs.Shape.{consumes}
use Rattle.wast_grammar.proofs.Fuel.{read_moves}
use Rattle.wast_grammar.proofs.Moves.{Ahead}
use Rattle.wast_parser.proofs.Many.{with_front}
use Rattle.wast_grammar.specs.CoreForms.{goes_on, next_item, next_items}
use Rattle.wast_grammar.specs.CoreRows.{is_value_type}
use Rattle.core_parts.specs.PartViews.{items_behind, next_item_view}
use Rattle.core_parts.proofs.ManyBy as many
use Rattle.core_parts.proofs.GroupLoops.{sound_next_item, sound_next_items, has_token, behind_pushed, begins_pushed, nothing_before}
use Rattle.core_parts.proofs.word_groups.next_items.Goals as goal

pub items-init : goal.items-init
items-init g c =
    let e : c.push_short.new.items.items ≡ c.args.first ∷ [] = c.in_ok-push_short.ensures ∙ ap (λ xs. xs ++ c.args.first ∷ []) c.requires.none in
    let f = next_item_view g.T.GroupItem.view in
    let o = read (next_items c.args.word.now is_value_type g.T.GroupItem.item_row) c.args.parser.now in
    record {
      begins = e ∙ ap (λ xs. c.args.first ∷ items_behind xs) (sym e);
      gives = ap (λ xs. with_front f (items_behind xs) o) e ∙ nothing_before f o;
      text = refl;
      forward = omega arith;
    }

pub items-smaller : goal.items-smaller
items-smaller g c =
    let row = next_item c.args.word.now g.T.GroupItem.item_row in
    let a : Ahead (consumes row) c.items.parser c.next_item.new.parser = read_moves row c.items.parser _ c.next_item.new.parser (sound_next_item c.args.word.now g.T.GroupItem.item_row g.T.GroupItem.is_sound g.T.GroupItem.has_token) c.in_ok-item.ensures.gives in
    let l : left_of c.next_item.new.parser < left_of c.items.parser = a.falls (has_token c.args.word.now g.T.GroupItem.item_row g.T.GroupItem.has_token) in l

pub items-preserved : goal.items-preserved
items-preserved g c =
    let p = c.items.invariant in
    let q = c.in_ok-item.ensures in
    let z = sound_next_items c.args.word.now g.T.GroupItem.item_row g.T.GroupItem.is_sound g.T.GroupItem.has_token in
    let e = c.in_ok-push_short-2.ensures in
    let b = behind_pushed c.args.first c.in_ok-item.item c.items.items.items p.begins in
    let f = next_item_view g.T.GroupItem.view in
    let o = read (next_items c.args.word.now is_value_type g.T.GroupItem.item_row) c.next_item.new.parser in
    record {
      begins = e ∙ (begins_pushed c.args.first c.in_ok-item.item c.items.items.items p.begins ∙ ap (λ xs. c.args.first ∷ items_behind xs) (sym e));
      gives = ap (λ xs. with_front f (items_behind xs) o) e ∙ (ap (λ xs. with_front f xs o) b ∙ many.goes_on f (goes_on c.args.word.now is_value_type) (next_item c.args.word.now g.T.GroupItem.item_row) (items_behind c.items.items.items) c.in_ok-item.item c.items.parser c.next_item.new.parser _ z (sym c.goes_on.ensures.next ∙ c.items-test.true) q.gives p.gives);
      text = q.text ∙ p.text;
      forward = omega (arith, q.forward, p.forward);
    }

pub returns-clause-gives : goal.returns-clause-gives
returns-clause-gives g c =
    many.is_done (next_item_view g.T.GroupItem.view) (goes_on c.args.word.now is_value_type) (next_item c.args.word.now g.T.GroupItem.item_row) (items_behind c.items.items.items) c.items.parser _ (sym c.goes_on.ensures.next ∙ c.items-test.false) c.items.invariant.gives
