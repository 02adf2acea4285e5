use Rattle.std.proofs.Common.{◌∙◌, sym, subst, ◌++◌, option_map}
use Rattle.comp_model.specs.Origins.{written}
use Rattle.comp_tree.specs.Model.{id_of}
use Rattle.type_keys.specs.Keys.{type_key}
use Rattle.tree_expand.specs.KeyParts.{begun_parts, leaves_parts, KeyShows}
use Rattle.tree_expand.specs.Passed.{types_in}
use Rattle.tree_expand.proofs.FirstSpace.{ok-then}
use Rattle.tree_expand.proofs.OwnTypes.{whole_shows, written_shared}
use Rattle.tree_expand.proofs.ended.note_written.Goals as goal

pub returns : goal.returns
returns c = λ xs ls k s q p.
    let h = sym c.is_shared.ensures ∙ c.if-not-is_shared.false in
    let b = subst (λ w. KeyShows c.args.key.now (begun_parts w c.args.row ++ leaves_parts (types_in xs) ls)) c.if-not-wanted.false q in
    let w = whole_shows c.push_part.new.key (types_in xs) c.args.row ls h (c.in_ok-push_part.ensures _ b) in
    ok-then c.add.result (written_shared c.add.new.self xs c.args.wanted k c.args.row ls (option_map id_of c.args.id) c.if-not-wanted.false h) (c.add.ensures xs (written k) c.args.row ls s (subst (λ x. KeyShows x (type_key (types_in xs) c.args.row ls)) (sym c.replace-taken.ensures.value) w) p)
