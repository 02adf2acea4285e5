-- Expanded components resolved with tables, by computation: the form and the plan of what they stand for, or its first unmet demand.
use Rattle.std.proofs.Common.{◌≡◌, ℕ, [], ◌∷◌, Option, Some, None, refl}
use Rattle.comp_model.specs.declared.Space.TheVariants.{Ty}
use Rattle.comp_model.specs.Model.{no_def, Scope, scope_of, kind_of}
use Rattle.comp_model.specs.Origins.{written, Origins}
use Rattle.comp_scopes.specs.Form.{binary_defs, origins_of, form, plan}
use Rattle.comp_scopes.specs.Unmet.{Cause, unknown, outer_kind}
use Rattle.comp_expanded.specs.Expansion.{expand, expand_marks}
use Rattle.comp_tables.specs.Built.{open_scope, table_for, Outcome, refused, done}
use Rattle.comp_tables.specs.Walks.{run}
use Rattle.comp_scopes.proofs.Worked.{app}
use Rattle.comp_scopes.proofs.Shared.{one_alias, one_type, pair, written_first, inline_first, alias_within}
use Rattle.comp_scopes.proofs.SharedApart.{two_scopes, two_spaces, beside_a_written_alias, behind_a_reused_list, first_of_equal, later_equal, ids_of_cases, numerals, component_types}
use Rattle.comp_scopes.proofs.EachOf.{EachOf}
use Rattle.comp_scopes.proofs.Shorthands.{plain_encoding, def_at, bare, component, nested, u8, named, list_of}
use Rattle.comp_scopes.proofs.Letters.{c, t, i}
use Rattle.comp_expanded.proofs.Samples.{refusals, by_marks, import_as, export_func, example, example_inside, nested_types, outward_inside, behind_parameters, shadowed, component_type_deep, bundled, two_steps, both_kinds, exported_inline, reused_signature, outer_by_names}

abbrev run_of : Scope → Outcome
run_of s = run plain_encoding [] (expand by_marks s) (expand_marks by_marks s)

-- the scope and the marks that are given
abbrev scope_given : Scope → Outcome → Option Scope
scope_given s (refused x) = None
scope_given s (done ms) = Some (scope_of (kind_of s) None None (binary_defs ms))

abbrev marks_given : Outcome → Option Origins
marks_given (refused x) = None
marks_given (done ms) = Some (origins_of ms)

-- ---- tables

-- the inner scope of the example: behind the alias the list, and the inline function, which takes that list
example_table : table_for (open_scope [] (expand by_marks example) ∷ []) (expand (λ p. by_marks (written 1 ∷ p)) example_inside) ≡ 1 ∷ 2 ∷ 0 ∷ []
example_table = refl

-- a component, an instance, and behind the alias and the bundle the second and third instance
bundled_table : table_for [] (expand by_marks bundled) ≡ 0 ∷ 0 ∷ 1 ∷ 2 ∷ []
bundled_table = refl

-- ---- what is given

-- the form and the plan
abbrev IsGiven : Scope → Type 0
IsGiven s = (scope_given s (run_of s) ≡ Some (form plain_encoding [] s)) × (marks_given (run_of s) ≡ Some (plan plain_encoding [] s))

given : EachOf IsGiven (example ∷ nested_types ∷ outward_inside ∷ behind_parameters ∷ shadowed ∷ component_type_deep ∷ bundled ∷ two_steps ∷ both_kinds ∷ exported_inline ∷ reused_signature ∷ outer_by_names ∷ app ∷ [])
given = ((refl, refl), ((refl, refl), ((refl, refl), ((refl, refl), ((refl, refl), ((refl, refl), ((refl, refl), ((refl, refl), ((refl, refl), ((refl, refl), ((refl, refl), ((refl, refl), ((refl, refl), tt)))))))))))))

-- of what shares aliases and types, and of what shares none
sharing_given : EachOf IsGiven (one_alias ∷ one_type ∷ pair ∷ written_first ∷ inline_first ∷ alias_within ∷ two_scopes ∷ two_spaces ∷ beside_a_written_alias ∷ behind_a_reused_list ∷ first_of_equal ∷ later_equal ∷ ids_of_cases ∷ numerals ∷ component_types ∷ [])
sharing_given = ((refl, refl), ((refl, refl), ((refl, refl), ((refl, refl), ((refl, refl), ((refl, refl), ((refl, refl), ((refl, refl), ((refl, refl), ((refl, refl), ((refl, refl), ((refl, refl), ((refl, refl), ((refl, refl), ((refl, refl), tt)))))))))))))))

-- ---- refusals

abbrev at : Cause → ℕ → Outcome
at x o = refused (record { cause = x; offset = o })

refusals_are : EachOf (λ e. run_of e.0 ≡ at e.1.0 e.1.1) refusals
refusals_are = (refl, (refl, (refl, (refl, (refl, (refl, tt))))))

-- (component (import "c" (func $i (type $c))) (component (type (list $c)) (export "u" (func $i)))): the outer scope's third search
-- comes before the inner scope's second
outer_first : run_of (component (def_at 5 i (import_as (named 10 Ty c)) (bare (nested (bare (list_of (named 20 Ty c)) (bare (export_func 30 i) no_def))) no_def))) ≡ at unknown 10
outer_first = refl

-- with $c declared outside and $t nowhere: what leads out too far comes before the unknown name in front of it
kind_first : run_of (component (def_at 3 c u8 (def_at 5 i (import_as (named 10 Ty c)) (bare (nested (bare (list_of (named 20 Ty t)) (bare (export_func 30 i) no_def))) no_def)))) ≡ at outer_kind 30
kind_first = refl
