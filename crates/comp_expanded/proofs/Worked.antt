-- Expanded components, by computation: their form, plan and first unmet demand are those of what they stand for.
use Rattle.std.proofs.Common.{◌≡◌, ℕ, List, [], ◌∷◌, Option, Some, refl}
use Rattle.comp_model.specs.declared.Space.{Space}
use Rattle.comp_model.specs.declared.Space.TheVariants.{Ty}
use Rattle.comp_model.specs.Core.{outward}
use Rattle.comp_model.specs.Model.{Leaf, number, ref, name, inline, Node, define, Defs, no_def, one_def, Scope, defs_of}
use Rattle.comp_model.specs.Origins.{Origin, written, inline_type, outer_alias_of, name_section, Origins, no_origins}
use Rattle.comp_scopes.specs.Form.{form, plan}
use Rattle.comp_scopes.specs.Unmet.{Unmet, unmet, first_unmet}
use Rattle.comp_expanded.specs.ListMarks.{ListMarks, no_marks, mark_then, nothing_inside, inside_are}
use Rattle.comp_expanded.specs.Expansion.{expand, expand_marks}
use Rattle.comp_expanded.specs.TextNumbers.{entries, marks_in_text}
use Rattle.comp_scopes.proofs.EachOf.{EachOf}
use Rattle.comp_scopes.proofs.Shorthands.{plain_encoding, def, bare, component, nested, u8, named, list_of, mark, mark_with}
use Rattle.comp_scopes.proofs.Letters.{t}
use Rattle.comp_expanded.proofs.Samples.{refusals, id_by, by_marks, tuple_of, takes, list_type, import_as, example, nested_types, outward_inside, behind_parameters, shadowed, component_type_deep, bundled, two_steps, both_kinds, exported_inline, reused_signature, outer_by_names}

-- a definition with the id of its mark in the component itself, and a name of it
abbrev given_id : Origin → Node → Defs → Defs
given_id o n ds = one_def (define (record { ids = Some (id_by (o ∷ [])) ∷ []; labels = []; exports = []; offset = 0 }) n) ds

abbrev name_of : Origin → Space → Leaf
name_of o s = ref s (name outward (id_by (o ∷ [])))

abbrev listed : Origin → List ℕ → ListMarks → ListMarks
listed o ps ms = mark_then o ps nothing_inside ms

-- the form of an expanded component, and its plan in the numbers of the text
abbrev form_of : Scope → Scope
form_of s = form plain_encoding [] (expand by_marks s)

abbrev plan_of : Scope → Origins
plan_of s = marks_in_text (entries (defs_of (expand by_marks s)) (expand_marks by_marks s)) (plan plain_encoding [] (expand by_marks s))

-- ---- a list

-- (component (type $t u8) (type (tuple (list u8) (list (list u8)) $t)) (import "c" (func (param "u" (list (list u8))))) (type (list u8))): the list of
-- u8 in the second reuses the first, the import both; a written type is never left out
abbrev twice : Scope
twice = component (def t u8 (bare (tuple_of (list_type (number 0x7d)) (list_type (list_type (number 0x7d))) (named 0 Ty t))
    (bare (import_as (ref Ty (inline (takes (list_type (list_type (number 0x7d))))))) (bare (list_of (number 0x7d)) no_def))))

twice-list : expand by_marks twice
    ≡ component (def t u8
    (given_id (inline_type 1 0) (list_of (number 0x7d))
    (given_id (inline_type 1 1) (list_of (name_of (inline_type 1 0) Ty))
    (given_id (written 1) (tuple_of (name_of (inline_type 1 0) Ty) (name_of (inline_type 1 1) Ty) (named 0 Ty t))
    (given_id (inline_type 2 0) (takes (name_of (inline_type 1 1) Ty))
    (given_id (written 2) (import_as (name_of (inline_type 2 0) Ty))
    (given_id (written 3) (list_of (number 0x7d)) no_def)))))))
twice-list = refl

-- the places: in `inline_type 1 1` the reused list is reference 2; in the tuple 0, 1 and, behind the two in it, 3; in `inline_type 2 0` the
-- reused list of lists is reference 1
twice-marks : expand_marks by_marks twice
    ≡ listed (written 0) [] (listed (inline_type 1 0) [] (listed (inline_type 1 1) (2 ∷ []) (listed (written 1) (0 ∷ 1 ∷ 3 ∷ []) (listed (inline_type 2 0) (1 ∷ []) (listed (written 2) (0 ∷ []) (listed (written 3) [] no_marks))))))
twice-marks = refl

-- (component (type $t u8) (component (type $u (list $t)) (type (tuple (list $t) $u (list $t))) (type $t))): a written type of the text stands for
-- two inline ones, so that its name stands in three places of one definition: two of them are inline nodes with one reference each
abbrev by_name : Scope
by_name = component (def t u8 (bare (nested (def (0x75 ∷ []) (list_of (named 0 Ty t)) (bare (tuple_of (list_type (named 0 Ty t)) (named 0 Ty (0x75 ∷ [])) (list_type (named 0 Ty t))) (bare (tuple_of (named 0 Ty t) (named 0 Ty t) (named 0 Ty (0x75 ∷ []))) no_def)))) no_def))

by_name-marks : expand_marks by_marks by_name ≡ listed (written 0) [] (mark_then (written 1) [] (inside_are (listed (written 0) (0 ∷ []) (listed (written 1) (0 ∷ 2 ∷ 3 ∷ []) (listed (written 2) (0 ∷ 1 ∷ 2 ∷ []) no_marks)))) no_marks)
by_name-marks = refl

by_name-plan : plan plain_encoding [] by_name ≡ mark (written 0) (mark_with (written 1) (mark (outer_alias_of 0 0) (mark (written 0) (mark (written 1) (mark (written 2) (mark name_section no_origins))))) (mark name_section no_origins))
by_name-plan = refl

-- ---- forms and plans are those of what is expanded

same_forms : EachOf (λ s. form_of s ≡ form plain_encoding [] s)
    (twice ∷ by_name ∷ example ∷ nested_types ∷ outward_inside ∷ behind_parameters ∷ shadowed ∷ component_type_deep ∷ bundled ∷ two_steps ∷ both_kinds ∷ exported_inline ∷ reused_signature ∷ outer_by_names ∷ [])
same_forms = (refl, (refl, (refl, (refl, (refl, (refl, (refl, (refl, (refl, (refl, (refl, (refl, (refl, (refl, tt))))))))))))))

same_plans : EachOf (λ s. plan_of s ≡ plan plain_encoding [] s)
    (twice ∷ by_name ∷ example ∷ nested_types ∷ outward_inside ∷ behind_parameters ∷ shadowed ∷ component_type_deep ∷ bundled ∷ two_steps ∷ both_kinds ∷ exported_inline ∷ reused_signature ∷ outer_by_names ∷ [])
same_plans = (refl, (refl, (refl, (refl, (refl, (refl, (refl, (refl, (refl, (refl, (refl, (refl, (refl, (refl, tt))))))))))))))

-- ---- refusals: the source's, and that of its list

abbrev refused_of : Scope → Option Unmet
refused_of s = first_unmet plain_encoding [] (expand by_marks s)

refusals_are : EachOf (λ e. (first_unmet plain_encoding [] e.0 ≡ unmet e.1.0 e.1.1) × (refused_of e.0 ≡ unmet e.1.0 e.1.1)) refusals
refusals_are = ((refl, refl), ((refl, refl), ((refl, refl), ((refl, refl), ((refl, refl), ((refl, refl), tt))))))

-- (component (type (tuple (list $t) (list $t) $t))): the first of two equal nodes is refused, at its own name
abbrev unmet_twice : Scope
unmet_twice = component (bare (tuple_of (list_type (named 30 Ty t)) (list_type (named 40 Ty t)) (named 50 Ty t)) no_def)

unmet_twice-same : (first_unmet plain_encoding [] unmet_twice ≡ unmet Rattle.comp_scopes.specs.Unmet.unknown 30) × (refused_of unmet_twice ≡ unmet Rattle.comp_scopes.specs.Unmet.unknown 30)
unmet_twice-same = (refl, refl)
