use Rattle.std.proofs.Common.{◌∙◌, ◌∷◌, [], arith, ap}
use Rattle.comp_model.specs.Core.{outward}
use Rattle.comp_model.specs.Model as m
use Rattle.text_rules.specs.Made.{heap_of}
use Rattle.tree_build.specs.Held.{loose}
use Rattle.tree_build.proofs.Indices.{heap_index, made_heap, no_steps}
use Rattle.tree_build.proofs.outer.path_type.Goals as goal

pub returns-else-path-gt0 : goal.returns-else-path-gt0
returns-else-path-gt0 c = λ fs cs. made_heap (loose fs cs) c.concrete.result _ _
    (heap_index c.args.nullable c.args.space outward c.args.path.now.root
    ∙ ap (λ t. heap_of c.args.nullable (m.ref c.args.space t ∷ [])) (no_steps c.args.path.now.root c.args.path.now.exports.now (omega (arith, c.if-path-gt0.false))))
    (c.concrete.ensures fs cs)
