use Rattle.std.proofs.Common.{◌∙◌, ap, [], ◌∷◌, refl, not}
use Rattle.comp_model.specs.Spaces.{code_of_space}
use Rattle.comp_tree.specs.Model.{leaf_of}
use Rattle.comp_tree.proofs.Leaves.{leaf_node, leaf_bundle}
use Rattle.type_keys.specs.Keys.{part_other, part_space}
use Rattle.tree_expand.specs.KeyParts.{head_parts}
use Rattle.tree_expand.proofs.FirstSpace.{ok-any}
use Rattle.tree_expand.proofs.KeyLists.{given_up, none_shows, not_some, then_other}
use Rattle.tree_expand.proofs.key.push_leaf.Goals as goal

pub returns-then-is_none : goal.returns-then-is_none
returns-then-is_none c = λ cores ps h. none_shows c.args.key.now ps _ (not_some c.args.key.now (c.is_none.ensures ∙ ap not c.if-is_none.true)) h

pub returns-in-Kind : goal.returns-in-Kind
returns-in-Kind c = λ cores ps h. ok-any c.give_up.result (given_up c.give_up.new.key ps _ (part_other ∷ []) c.give_up.ensures.none (ap (λ q. head_parts (leaf_of cores q)) c.in-Kind.is) refl)

pub returns-in-CoreValue : goal.returns-in-CoreValue
returns-in-CoreValue c = λ cores ps h. ok-any c.give_up-in-CoreValue.result (given_up c.give_up-in-CoreValue.new.key ps _ (part_other ∷ []) c.give_up-in-CoreValue.ensures.none (ap (λ q. head_parts (leaf_of cores q)) c.in-CoreValue.is) refl)

pub returns-in-Place : goal.returns-in-Place
returns-in-Place c = λ cores ps h. ok-any c.give_up-in-Place.result (given_up c.give_up-in-Place.new.key ps _ (part_other ∷ []) c.give_up-in-Place.ensures.none (ap (λ q. head_parts (leaf_of cores q)) c.in-Place.is) refl)

pub returns-in-Node : goal.returns-in-Node
returns-in-Node c = λ cores ps h. ok-any c.give_up-in-Node.result (given_up c.give_up-in-Node.new.key ps _ (part_other ∷ []) c.give_up-in-Node.ensures.none (ap (λ q. head_parts (leaf_of cores q)) c.in-Node.is ∙ ap head_parts (leaf_node cores c.in-Node.field-0)) refl)

pub returns-in-Bundle : goal.returns-in-Bundle
returns-in-Bundle c = λ cores ps h. ok-any c.give_up-in-Bundle.result (given_up c.give_up-in-Bundle.new.key ps _ (part_space (code_of_space c.in-Bundle.field-0) ∷ part_other ∷ []) c.give_up-in-Bundle.ensures.none (ap (λ q. head_parts (leaf_of cores q)) c.in-Bundle.is ∙ ap head_parts (leaf_bundle cores c.in-Bundle.field-0 c.in-Bundle.field-1)) (then_other (part_space (code_of_space c.in-Bundle.field-0))))

pub returns-in-Results : goal.returns-in-Results
returns-in-Results c = λ cores ps h. ok-any c.give_up-in-Results.result (given_up c.give_up-in-Results.new.key ps _ (part_other ∷ []) c.give_up-in-Results.ensures.none (ap (λ q. head_parts (leaf_of cores q)) c.in-Results.is) refl)

pub returns-in-Scope : goal.returns-in-Scope
returns-in-Scope c = λ cores ps h. ok-any c.give_up-in-Scope.result (given_up c.give_up-in-Scope.new.key ps _ (part_other ∷ []) c.give_up-in-Scope.ensures.none (ap (λ q. head_parts (leaf_of cores q)) c.in-Scope.is) refl)
