-- What shares nothing, and which of several types stands for an equal one, by computation.
use Rattle.std.proofs.Common.{◌≡◌, ℕ, [], ◌∷◌, Some, None, refl}
use Rattle.comp_model.specs.declared.Space.TheVariants.{Ty, Component}
use Rattle.comp_model.specs.declared.row.Row.TheVariants as rows
use Rattle.comp_model.specs.Makers as make
use Rattle.comp_model.specs.Core.{Text, Id, outward, counted, at_place}
use Rattle.comp_model.specs.Model.{Leaf, text, number, ref, absent, node, nodes, case_id, scope, numeral, name, inline, no_leaf, ◌▸◌, Node, row, no_node, one_node, define, Defs, no_def, one_def, Scope, scope_of}
use Rattle.comp_model.specs.declared.row.ScopeKind.TheVariants as kinds
use Rattle.comp_model.specs.Origins.{written, inline_type, outer_alias_of, name_section, no_origins}
use Rattle.comp_scopes.specs.Form.{plan, form}
use Rattle.comp_scopes.proofs.Shorthands.{plain_encoding, def, bare, component, nested, u8, named, list_of, list_at, mark, mark_with}
use Rattle.comp_scopes.proofs.Shared.{tuple_of, list_u8}
use Rattle.comp_scopes.proofs.Letters.{a, b, t, u}

-- ---- outer aliases

-- (component (type $t u8) (component (type $u u8) (component (type (list $t)) (type (list $u))))): the first type of each of two scopes
abbrev pub two_scopes : Scope
two_scopes = component (def t u8 (bare (nested (def u u8 (bare (nested (bare (list_of (named 0 Ty t)) (bare (list_of (named 0 Ty u)) no_def))) no_def))) no_def))

two_scopes-plan : plan plain_encoding [] two_scopes
    ≡ mark (written 0) (mark_with (written 1) (mark (written 0) (mark_with (written 1) (mark (outer_alias_of 0 0) (mark (written 0) (mark (outer_alias_of 1 0) (mark (written 1) no_origins)))) (mark name_section no_origins))) (mark name_section no_origins))
two_scopes-plan = refl

-- (component (type $t u8) (component $t) (component (type (list $t)) (instance (instantiate $t)))): one name in two spaces
abbrev pub two_spaces : Scope
two_spaces = component (def t u8 (def t (nested no_def) (bare (nested (bare (list_of (named 0 Ty t)) (bare (row rows.Instantiate (named 0 Component t ▸ nodes no_node ▸ no_leaf)) no_def))) no_def)))

two_spaces-plan : plan plain_encoding [] two_spaces
    ≡ mark (written 0) (mark_with (written 1) no_origins (mark_with (written 2) (mark (outer_alias_of 0 0) (mark (written 0) (mark (outer_alias_of 1 0) (mark (written 1) no_origins)))) (mark name_section no_origins)))
two_spaces-plan = refl

-- (component (type $t u8) (component (alias outer 1 $t (type)) (type (list $t)))): what a written alias names needs no other, and it serves no
-- other name
abbrev pub beside_a_written_alias : Scope
beside_a_written_alias = component (def t u8 (bare (nested (bare (make.alias_outer (counted 0 1) (name (at_place (counted 0 1)) (record { name = t; number = 0; offset = 0 })) Ty) (bare (list_of (named 0 Ty t)) no_def))) no_def))

beside_a_written_alias-plan : plan plain_encoding [] beside_a_written_alias
    ≡ mark (written 0) (mark_with (written 1) (mark (written 0) (mark (outer_alias_of 1 0) (mark (written 1) no_origins))) (mark name_section no_origins))
beside_a_written_alias-plan = refl

-- (component (type $t u8) (type $u u8) (component (type (list $t)) (type (tuple (list $t) $u)))): behind a reused list the references in it
-- count
abbrev pub behind_a_reused_list : Scope
behind_a_reused_list = component (def t u8 (def u u8 (bare (nested (bare (list_of (named 0 Ty t)) (bare (tuple_of (ref Ty (inline (list_of (named 0 Ty t)))) (named 0 Ty u)) no_def))) no_def)))

behind_a_reused_list-plan : plan plain_encoding [] behind_a_reused_list
    ≡ mark (written 0) (mark (written 1) (mark_with (written 2) (mark (outer_alias_of 0 0) (mark (written 0) (mark (outer_alias_of 1 2) (mark (written 1) no_origins)))) (mark name_section no_origins)))
behind_a_reused_list-plan = refl

-- ---- types

-- (component (type (list u8)) (type (list u8)) (type (list (list u8)))): the first of two
abbrev pub first_of_equal : Scope
first_of_equal = component (bare list_u8 (bare list_u8 (bare (list_of (ref Ty (inline list_u8))) no_def)))

first_of_equal-form : form plain_encoding [] first_of_equal ≡ component (bare list_u8 (bare list_u8 (bare (list_at 0) no_def)))
first_of_equal-form = refl

-- (component (type (list (list u8))) (type (list u8))): none that stands later
abbrev pub later_equal : Scope
later_equal = component (bare (list_of (ref Ty (inline list_u8))) (bare list_u8 no_def))

later_equal-plan : plan plain_encoding [] later_equal ≡ mark (inline_type 0 0) (mark (written 0) (mark (written 1) no_origins))
later_equal-plan = refl

-- (component (type (tuple (variant (case $a "t")) (variant (case $b "t"))))): ids of cases
abbrev variant_of : Text → Node
variant_of x = make.variant_type (one_node (row rows.CaseType (case_id (Some (record { name = x; number = 0; offset = 0 })) ▸ text t ▸ absent ▸ no_leaf)) no_node)

abbrev pub ids_of_cases : Scope
ids_of_cases = component (bare (tuple_of (ref Ty (inline (variant_of a))) (ref Ty (inline (variant_of b)))) no_def)

ids_of_cases-plan : plan plain_encoding [] ids_of_cases ≡ mark (inline_type 0 0) (mark (inline_type 0 1) (mark (written 0) no_origins))
ids_of_cases-plan = refl

-- with two ids of one name and different numbers, lists of these
abbrev id_of : ℕ → Id
id_of n = record { name = t; number = n; offset = 0 }

abbrev numbered : ℕ → Node → Defs → Defs
numbered n x ds = one_def (define (record { ids = Some (id_of n) ∷ []; labels = []; exports = []; offset = 0 }) x) ds

numbers_of_names : plan plain_encoding [] (component (numbered 1 u8 (numbered 2 u8 (bare (tuple_of (ref Ty (inline (list_of (ref Ty (name outward (id_of 1)))))) (ref Ty (inline (list_of (ref Ty (name outward (id_of 2))))))) no_def))))
    ≡ mark (written 0) (mark (written 1) (mark (inline_type 2 0) (mark (inline_type 2 2) (mark (written 2) no_origins))))
numbers_of_names = refl

-- (component (type u8) (type u8) (type (tuple (list 0) (list 1)))): numerals, though both lead to a type of bytes
abbrev pub numerals : Scope
numerals = component (bare u8 (bare u8 (bare (tuple_of (ref Ty (inline (list_of (ref Ty (numeral 0 0))))) (ref Ty (inline (list_of (ref Ty (numeral 0 1)))))) no_def)))

numerals-plan : plan plain_encoding [] numerals ≡ mark (written 0) (mark (written 1) (mark (inline_type 2 0) (mark (inline_type 2 2) (mark (written 2) no_origins))))
numerals-plan = refl

-- (component (import "a" (component)) (import "b" (component))): types that hold a scope
abbrev import_component : Text → Node
import_component y = row rows.Import (text y ▸ node (row rows.ComponentDescription (ref Ty (inline (row rows.ComponentType (scope (scope_of kinds.ComponentType None None no_def) ▸ no_leaf))) ▸ no_leaf)) ▸ no_leaf)

abbrev pub component_types : Scope
component_types = component (bare (import_component a) (bare (import_component b) no_def))

component_types-plan : plan plain_encoding [] component_types ≡ mark_with (inline_type 0 0) no_origins (mark (written 0) (mark_with (inline_type 1 0) no_origins (mark (written 1) no_origins)))
component_types-plan = refl
