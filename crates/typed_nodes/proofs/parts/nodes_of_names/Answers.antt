use Rattle.std.proofs.Common.{refl, ap, ◌∙◌, arith}
use Rattle.comp_model.specs.Model as m
use Rattle.comp_model.specs.Model.{◌▸◌, no_leaf}
use Rattle.comp_model.specs.declared.row.Row.TheVariants as rows
use Rattle.comp_tree.specs.Lists.{node_of, nodes_listed}
use Rattle.typed_nodes.specs.NameRows.{name_nodes}
use Rattle.typed_nodes.proofs.Loops.{turn, turned}
use Rattle.typed_nodes.proofs.Made.{weaken}
use Rattle.typed_nodes.proofs.parts.nodes_of_names.Goals as goal

pub loop-i-preserved : goal.loop-i-preserved
loop-i-preserved c = λ cores. turn (node_of cores) (nodes_listed cores) refl (λ x xs. refl) (λ t. m.row rows.LoneName (m.text t.now ▸ no_leaf)) name_nodes (λ x xs. refl) _ _ c.in_ok-node_of_one.field-0 _ c.loop-i.i _ (omega (arith, c.loop-i-test.true)) c.in_ok-push.ensures.items (c.in_ok-node_of_one.ensures cores) (c.loop-i.invariant cores)

pub returns : goal.returns
returns c = λ cores. weaken _ _ c.place_all.result (λ ns e. ap (nodes_listed cores) (e ∙ c.as_slice.ensures.value) ∙ turned _ name_nodes refl _ c.loop-i.i (omega (arith, c.loop-i-test.false)) (c.loop-i.invariant cores)) c.place_all.ensures
