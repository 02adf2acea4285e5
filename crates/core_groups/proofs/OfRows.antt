-- The rows of parameters, results and locals are groups of one word.
use Rattle.std.proofs.Common.{◌≡◌, ℕ, List, [], ◌∷◌, true, None, codes, refl}
use Rattle.wast_grammar.specs.Classes.{closing}
use Rattle.wast_grammar.specs.Clear.{never, no}
use Rattle.wast_grammar.specs.Shape.{sound, consumes}
use Rattle.wast_grammar.specs.Grammar.{Grammar, Test, next}
use Rattle.wast_grammar.specs.Rows.{reference, name}
use Rattle.wast_grammar.specs.CoreForms.{groups_of}
use Rattle.core_syntax.specs.CoreLaws.{sound_parameter_item, sound_value_type}
use Rattle.wast_grammar.specs.CoreRows.{params, results, locals, is_value_type, parameter_item, value_type, with_id, with_name, reference_type, other_reference, reference_parts, optional_null, heap_type}
use Rattle.core_groups.specs.Groups.{SpellsGroups}
use Rattle.core_groups.proofs.Joined.{joined}
use Rattle.core_groups.proofs.Split.{split}

pub spells-groups : (w : List ℕ) (q : Test) (g : Grammar) → sound g ≡ true → consumes g ≡ true → never g (next (closing ∷ [])) ≡ true → no q closing None ≡ true → SpellsGroups (groups_of w q g) w q g
spells-groups w q g z k n m s r v = (joined w q g, λ x. rw x.1 (split w q g z k n m x.2 x.3))

item_consumes : consumes parameter_item ≡ true
unfolding parameter_item with_id with_name value_type reference_type other_reference reference_parts optional_null heap_type reference name
item_consumes = refl

item_apart : never parameter_item (next (closing ∷ [])) ≡ true
unfolding parameter_item with_id with_name value_type reference_type other_reference reference_parts optional_null heap_type reference name
item_apart = refl

value_consumes : consumes value_type ≡ true
unfolding value_type reference_type other_reference reference_parts optional_null heap_type reference
value_consumes = refl

value_apart : never value_type (next (closing ∷ [])) ≡ true
unfolding value_type reference_type other_reference reference_parts optional_null heap_type reference
value_apart = refl

pub params-groups : SpellsGroups params (codes "param") is_value_type parameter_item
unfolding params
params-groups = spells-groups (codes "param") is_value_type parameter_item sound_parameter_item item_consumes item_apart refl

pub results-groups : SpellsGroups results (codes "result") is_value_type value_type
unfolding results
results-groups = spells-groups (codes "result") is_value_type value_type sound_value_type value_consumes value_apart refl

pub locals-groups : SpellsGroups locals (codes "local") is_value_type parameter_item
unfolding locals
locals-groups = spells-groups (codes "local") is_value_type parameter_item sound_parameter_item item_consumes item_apart refl
