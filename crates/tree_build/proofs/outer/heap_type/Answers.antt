use Rattle.std.proofs.Common.{◌∙◌, ◌∷◌, [], ap, sym}
use Rattle.comp_model.specs.Core.{outward}
use Rattle.comp_tree.specs.Model.{reach_of}
use Rattle.wast_parser.specs.declared.index.Index.TheVariants.{Num, Id}
use Rattle.text_rules.specs.Made.{heap_of}
use Rattle.tree_build.specs.Held.{loose}
use Rattle.tree_build.proofs.Indices.{heap_index, made_heap}
use Rattle.tree_build.proofs.LeafKinds.{no_heap}
use Rattle.tree_build.proofs.outer.heap_type.Goals as goal

pub returns-in_default : goal.returns-in_default
returns-in_default c = λ fs cs. no_heap fs cs c.args.nullable c.args.leaf c.in_default.not-Numeral c.in_default.not-Name c.in_default.not-Path

pub returns-in-Numeral : goal.returns-in-Numeral
returns-in-Numeral c = λ fs cs. made_heap (loose fs cs) c.concrete.result _ _
    (heap_index c.args.nullable c.in-Numeral.field-0 outward (Num c.in-Numeral.number c.in-Numeral.span) ∙ ap (λ x. heap_of c.args.nullable (loose fs cs x ∷ [])) (sym c.in-Numeral.is)) (c.concrete.ensures fs cs)

pub returns-in-Name : goal.returns-in-Name
returns-in-Name c = λ fs cs. made_heap (loose fs cs) c.concrete-in-Name.result _ _
    (heap_index c.args.nullable c.in-Name.field-0 (reach_of c.in-Name.reach.now) (Id c.in-Name.id.now) ∙ ap (λ x. heap_of c.args.nullable (loose fs cs x ∷ [])) (sym c.in-Name.is)) (c.concrete-in-Name.ensures fs cs)
