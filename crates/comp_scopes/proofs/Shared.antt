-- Shared outer aliases and inline types, by computation.
use Rattle.std.proofs.Common.{◌≡◌, [], ◌∷◌, None, refl}
use Rattle.comp_model.specs.declared.Space.TheVariants.{Ty}
use Rattle.comp_model.specs.declared.row.Row.TheVariants as rows
use Rattle.comp_model.specs.Makers as make
use Rattle.comp_model.specs.Core.{Text}
use Rattle.comp_model.specs.Model.{Leaf, text, number, ref, absent, node, nodes, scope, index, inline, no_leaf, ◌▸◌, Node, row, no_node, one_node, no_def, Scope, scope_of, Defs}
use Rattle.comp_model.specs.declared.row.ScopeKind.TheVariants as kinds
use Rattle.comp_model.specs.Origins.{written, inline_type, outer_alias_of, name_section, no_origins}
use Rattle.comp_model.specs.Leb.{leb}
use Rattle.comp_scopes.specs.Form.{plan, form, alias_node}
use Rattle.comp_scopes.proofs.Shorthands.{plain_encoding, names, at, with_id, bare, component, nested, u8, named, list_of, list_at, mark, mark_with}
use Rattle.comp_scopes.proofs.Letters.{a, b, i, t}

-- (component (type $t u8) (component (type (list $t)) (type (list $t)))): one alias for both names
abbrev pub one_alias : Scope
one_alias = component (with_id 12 17 t u8 (at 25 (nested (at 36 (list_of (named 47 Ty t)) (at 53 (list_of (named 64 Ty t)) no_def))) no_def))

one_alias-plan : plan plain_encoding [] one_alias ≡ mark (written 0) (mark_with (written 1) (mark (outer_alias_of 0 0) (mark (written 0) (mark (written 1) no_origins))) (mark name_section no_origins))
one_alias-plan = refl

one_alias-form : form plain_encoding [] one_alias
    ≡ component (bare u8 (bare (nested (bare (alias_node 1 Ty 0) (bare (list_at 0) (bare (list_at 0) no_def)))) (names (0x01 ∷ 0x05 ∷ 0x03 ∷ 0x01 ∷ 0x00 ∷ 0x01 ∷ 0x74 ∷ []) no_def)))
unfolding leb
one_alias-form = refl

-- (component (import "a" (func)) (import "b" (func))): one type for both
abbrev func : Node
func = make.function_type 0 no_node absent

abbrev import_func : Text → Leaf → Node
import_func y l = row rows.Import (text y ▸ node (row rows.FuncDescription (l ▸ no_leaf)) ▸ no_leaf)

abbrev pub one_type : Scope
one_type = component (at 12 (import_func a (ref Ty (inline func))) (at 32 (import_func b (ref Ty (inline func))) no_def))

one_type-plan : plan plain_encoding [] one_type ≡ mark (inline_type 0 0) (mark (written 0) (mark (written 1) no_origins))
one_type-plan = refl

one_type-form : form plain_encoding [] one_type ≡ component (bare func (bare (import_func a (ref Ty (index 0))) (bare (import_func b (ref Ty (index 0))) no_def)))
one_type-form = refl

-- (component (type (tuple (list u8) (list u8))))
abbrev pub list_u8 : Node
list_u8 = list_of (number 0x7d)

abbrev pub tuple_of : Leaf → Leaf → Node
tuple_of l m = row rows.TupleType (nodes (one_node (row rows.LoneType (l ▸ no_leaf)) (one_node (row rows.LoneType (m ▸ no_leaf)) no_node)) ▸ no_leaf)

abbrev pub pair : Scope
pair = component (at 12 (tuple_of (ref Ty (inline list_u8)) (ref Ty (inline list_u8))) no_def)

pair-plan : plan plain_encoding [] pair ≡ mark (inline_type 0 0) (mark (written 0) no_origins)
pair-plan = refl

pair-form : form plain_encoding [] pair ≡ component (bare list_u8 (bare (tuple_of (ref Ty (index 0)) (ref Ty (index 0))) no_def))
pair-form = refl

-- (component (type (list u8)) (import "i" (func (param "a" (list u8))))): a written type stands for a later inline one
abbrev func_of : Leaf → Node
func_of l = make.function_type 0 (one_node (row rows.NamedType (text a ▸ l ▸ no_leaf)) no_node) absent

abbrev pub written_first : Scope
written_first = component (at 12 list_u8 (at 29 (import_func i (ref Ty (inline (func_of (ref Ty (inline list_u8)))))) no_def))

written_first-plan : plan plain_encoding [] written_first ≡ mark (written 0) (mark (inline_type 1 0) (mark (written 1) no_origins))
written_first-plan = refl

written_first-form : form plain_encoding [] written_first ≡ component (bare list_u8 (bare (func_of (ref Ty (index 0))) (bare (import_func i (ref Ty (index 1))) no_def)))
written_first-form = refl

-- (component (import "i" (func (param "a" (list u8)))) (type (list u8)) (import "b" (func (param "a" (list u8))))): a written type is never
-- left out, and the earlier inline one stands for the last; what stands in a reused node has no marks either
abbrev pub inline_first : Scope
inline_first = component (at 12 (import_func i (ref Ty (inline (func_of (ref Ty (inline list_u8)))))) (at 55 list_u8 (at 72 (import_func b (ref Ty (inline (func_of (ref Ty (inline list_u8)))))) no_def)))

inline_first-plan : plan plain_encoding [] inline_first ≡ mark (inline_type 0 1) (mark (inline_type 0 0) (mark (written 0) (mark (written 1) (mark (written 2) no_origins))))
inline_first-plan = refl

inline_first-form : form plain_encoding [] inline_first
    ≡ component (bare list_u8 (bare (func_of (ref Ty (index 0))) (bare (import_func i (ref Ty (index 1))) (bare list_u8 (bare (import_func b (ref Ty (index 1))) no_def)))))
inline_first-form = refl

-- (component (type $t u8) (component (type (tuple $t (list $t))) (type (list (list $t))))): the name in the inline list comes first along the
-- marks, so its alias is the one that both share, and the second list reuses the first with its alias
abbrev pub alias_within : Scope
alias_within = component (with_id 12 17 t u8 (at 25 (nested (at 36 (tuple_of (named 48 Ty t) (ref Ty (inline (list_of (named 57 Ty t))))) (at 63 (list_of (ref Ty (inline (list_of (named 80 Ty t))))) no_def))) no_def))

alias_within-plan : plan plain_encoding [] alias_within
    ≡ mark (written 0) (mark_with (written 1) (mark (outer_alias_of 0 2) (mark (inline_type 0 1) (mark (written 0) (mark (written 1) no_origins)))) (mark name_section no_origins))
alias_within-plan = refl

alias_within-form : form plain_encoding [] alias_within
    ≡ component (bare u8 (bare (nested (bare (alias_node 1 Ty 0) (bare (list_at 0) (bare (tuple_of (ref Ty (index 0)) (ref Ty (index 1))) (bare (list_at 1) no_def)))))
    (names (0x01 ∷ 0x05 ∷ 0x03 ∷ 0x01 ∷ 0x00 ∷ 0x01 ∷ 0x74 ∷ []) no_def)))
unfolding leb
alias_within-form = refl

-- (component (type (component (import "a" (func)) (import "b" (func))))): in a type as in a component
abbrev typed : Defs → Node
typed ds = row rows.ComponentType (scope (scope_of kinds.ComponentType None None ds) ▸ no_leaf)

in_a_type-plan : plan plain_encoding [] (component (at 12 (typed (at 29 (import_func a (ref Ty (inline func))) (at 49 (import_func b (ref Ty (inline func))) no_def))) no_def))
    ≡ mark_with (written 0) (mark (inline_type 0 0) (mark (written 0) (mark (written 1) no_origins))) no_origins
in_a_type-plan = refl
