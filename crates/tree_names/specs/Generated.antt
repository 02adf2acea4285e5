-- Generated definitions as planned ones.
use Rattle.std.specs.Prelude.{ℕ, List, drop}
use Rattle.comp_model.specs.Origins.{outer_alias_of, export_step}
use Rattle.comp_scopes.specs.Form.{Made, make, alias_node, step_node}
use Rattle.comp_tables.specs.Tables.{next_place}
use Rattle.tree_names.specs.declared.generated.Generated.{Generated}
use Rattle.tree_names.specs.declared.generated.Generated.TheVariants.{Outer, Step}

-- the number in the text of reference u of a definition, whose references have these numbers there
abbrev pub number_at : List ℕ → ℕ → ℕ
number_at vs u = next_place (drop u vs)

-- before a definition that is part of definition j of the text, by the number there of each of its references
abbrev pub generated_made : (ℕ → ℕ) → ℕ → Generated → Made
generated_made number j (Outer d s i u) = make (outer_alias_of j (number u)) (alias_node d s i)
generated_made number j (Step s i t u k) = make (export_step j (number u) k) (step_node i t.now s)
