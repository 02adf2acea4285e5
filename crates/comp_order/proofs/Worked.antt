-- Worked orders of small components.
use Rattle.std.proofs.Common.{◌≡◌, ℕ, refl, true, None}
use Rattle.comp_model.specs.declared.Space.TheVariants.{Ty}
use Rattle.comp_model.specs.declared.row.Row.TheVariants as rows
use Rattle.comp_model.specs.Core.{counted, ref_index}
use Rattle.comp_model.specs.Model as m
use Rattle.comp_model.specs.declared.row.ScopeKind.TheVariants as kinds
use Rattle.comp_model.specs.Model.{Node, Nodes, no_node, one_node, row, no_leaf, ◌▸◌, no_names, Def, define, no_def, one_def, Scope, scope_of}
use Rattle.comp_order.specs.declared.verdict.Order.TheVariants.{Ordered, Index, Outer}
use Rattle.comp_order.specs.Order.{order}

plain : Node → Def
plain n = define no_names n

index_of_type : ℕ → m.Leaf
index_of_type i = m.ref Ty (m.index i)

list_of : ℕ → Node
list_of i = row rows.ListType (index_of_type i ▸ no_leaf)

u8 : Node
u8 = row rows.Primitive (m.number 0x7d ▸ no_leaf)

outer_type : ℕ → ℕ → Node
outer_type c i = row rows.AliasOuter (m.place (counted 0 c) ▸ index_of_type i ▸ m.kind Ty ▸ no_leaf)

-- (component (type (list 1)) (type u8))
forward : Scope
forward = scope_of kinds.Component None None (one_def (plain (list_of 1)) (one_def (plain u8) no_def))

-- (component (type u8) (component (alias outer C 0 (type)) (type (list 0))))
nested : ℕ → Scope
nested c =
    let inner = scope_of kinds.Component None None (one_def (plain (outer_type c 0)) (one_def (plain (list_of 0)) no_def)) in
    scope_of kinds.Component None None (one_def (plain u8) (one_def (plain (row rows.Component (m.scope inner ▸ no_leaf))) no_def))

-- a core function type with one parameter, which may be null, a reference to core type I
core_function : ℕ → Node
core_function i = row rows.CoreFunctionType (m.nodes (one_node (row rows.CoreValueType (m.core_value (ref_index true i) ▸ no_leaf)) no_node) ▸ m.nodes no_node ▸ no_leaf)

alone : Node → Scope
alone n = scope_of kinds.Component None None (one_def (plain n) no_def)

forward_order : order forward ≡ Index 0
unfolding forward plain list_of u8 index_of_type
forward_order = refl

nested_order : order (nested 1) ≡ Ordered
unfolding nested plain list_of u8 outer_type index_of_type
nested_order = refl

-- the alias is to its own scope, in which nothing stands before it
own_order : order (nested 0) ≡ Index 0
unfolding nested plain list_of u8 outer_type index_of_type
own_order = refl

-- as many scopes are open as the alias counts
too_far_order : order (nested 2) ≡ Outer 0
unfolding nested plain list_of u8 outer_type index_of_type
too_far_order = refl

-- a core function type may refer to itself, and to none behind it
itself_order : order (alone (core_function 0)) ≡ Ordered
unfolding alone plain core_function
itself_order = refl

behind_order : order (alone (core_function 1)) ≡ Index 0
unfolding alone plain core_function
behind_order = refl

-- in a group of two each may refer to the other
group_order : order (alone (row rows.CoreRec (m.nodes (one_node (core_function 1) (one_node (core_function 0) no_node)) ▸ no_leaf))) ≡ Ordered
unfolding alone plain core_function
group_order = refl
