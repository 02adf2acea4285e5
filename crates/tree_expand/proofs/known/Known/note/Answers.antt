use Rattle.std.proofs.Common.{◌∙◌}
use Rattle.type_keys.specs.Keys.{keys, type_key}
use Rattle.type_keys.proofs.Search.{found}
use Rattle.tree_expand.specs.Passed.{types_in}
use Rattle.tree_expand.specs.declared.known.Known.{Known}
use Rattle.tree_expand.proofs.KeyLists.{noted_shows, number_is, number_of_keys}
use Rattle.tree_expand.proofs.known.Known.note.Goals as goal

pub returns-clause-number : goal.returns-clause-number
returns-clause-number c = λ xs h. number_is c.args.self.now xs c.in_ok-number.number h (c.in_ok-number.ensures ∙ Rattle.std.proofs.Common.ap Rattle.std.proofs.Common.length c.deref.ensures.value)

pub returns-clause-noted : goal.returns-clause-noted
returns-clause-noted c = λ xs o t ls h k p f.
    let new : Known = record { types = c.note_key.new.types; ids = c.push.new.self } in
    noted_shows c.args.self.now new xs o t ls c.args.id h p
    (c.in_ok-note_key.ensures (keys (types_in xs) (types_in xs)) (type_key (types_in xs) t ls) h.keyed k (found (types_in xs) (types_in xs) t ls p h.passed ∙ f) (number_of_keys c.args.self.now xs c.in_ok-number.number h (c.in_ok-number.ensures ∙ Rattle.std.proofs.Common.ap Rattle.std.proofs.Common.length c.deref.ensures.value)))
    c.in_ok-push.ensures.items
