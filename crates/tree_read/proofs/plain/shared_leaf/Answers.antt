use Rattle.std.proofs.Common.{ap, map, ◌∙◌, arith, ◌≡◌, ◌-◌, [], ◌∷◌, take, drop}
use Rattle.comp_model.specs.Model as m
use Rattle.comp_tree.specs.Model.{leaf_of}
use Rattle.tree_read.proofs.PlainTypes.{number_down}
use Rattle.tree_build.proofs.Slices.{take_map, drop_map}
use Rattle.tree_read.proofs.plain.shared_leaf.Goals as goal

pub returns : goal.returns
returns c = λ cs.
    let i = 127 - c.args.number in
    let e : 127 - i ≡ c.args.number = omega (arith, c.requires.first, c.requires.last) in
    ap (map (leaf_of cs)) c.leaf_at.ensures
    ∙ (take_map (leaf_of cs) 1 (drop i c.bytes.result.now)
    ∙ (ap (take 1) (drop_map (leaf_of cs) i c.bytes.result.now ∙ ap (drop i) (c.bytes.ensures.numbers cs))
    ∙ (number_down 13 127 i (omega (arith, c.requires.first)) ∙ ap (λ n. m.number n ∷ []) e)))
