use Rattle.std.proofs.Common.{◌∙◌, sym, subst}
use Rattle.comp_model.specs.Origins.{inline_type}
use Rattle.comp_tree.specs.Model.{id_of}
use Rattle.type_keys.specs.Keys.{type_key}
use Rattle.tree_expand.specs.KeyParts.{KeyShows}
use Rattle.tree_expand.specs.Passed.{types_in}
use Rattle.tree_expand.proofs.OwnTypes.{whole_shows, first_none, noted_shared, own_number, own_none}
use Rattle.tree_expand.proofs.inline.note_own.Goals as goal

pub returns-then-keyed : goal.returns-then-keyed
returns-then-keyed c = λ xs ls k u s q p e.
    let h = sym c.is_shared.ensures ∙ c.if-not-is_shared.false in
    let w = whole_shows c.args.key.now (types_in xs) c.args.row ls h q in
    let f = first_none (types_in xs) c.args.row ls h e in
    (noted_shared c.note.new.self xs k u c.args.row ls (id_of c.args.id) h (c.in_ok-number.ensures.noted xs (inline_type k u) c.args.row ls s (subst (λ x. KeyShows x (type_key (types_in xs) c.args.row ls)) (sym c.replace-taken.ensures.value) w) p f), own_number c.args.key.now xs k u c.in_ok-number.number c.args.row ls (id_of c.args.id) (sym c.is_some-keyed.ensures ∙ c.if-keyed.true) h w p f (c.in_ok-number.ensures.number xs s))

pub returns-else-keyed : goal.returns-else-keyed
returns-else-keyed c = λ xs ls k u s q p e.
    let h = sym c.is_shared.ensures ∙ c.if-not-is_shared.false in
    let w = whole_shows c.args.key.now (types_in xs) c.args.row ls h q in
    let f = first_none (types_in xs) c.args.row ls h e in
    (noted_shared c.note.new.self xs k u c.args.row ls (id_of c.args.id) h (c.in_ok-number.ensures.noted xs (inline_type k u) c.args.row ls s (subst (λ x. KeyShows x (type_key (types_in xs) c.args.row ls)) (sym c.replace-taken.ensures.value) w) p f), own_none c.args.key.now xs k u c.args.row ls (id_of c.args.id) (sym c.is_some-keyed.ensures ∙ c.if-keyed.false) h w p f)
