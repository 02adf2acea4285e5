-- Worked listings of small components.
use Rattle.std.proofs.Common.{◌≡◌, ℕ, [], ◌∷◌, refl, Some, None}
use Rattle.comp_model.specs.declared.Space.TheVariants.{Ty}
use Rattle.comp_model.specs.declared.row.Row.TheVariants as rows
use Rattle.comp_model.specs.Core.{counted}
use Rattle.comp_model.specs.Model as m
use Rattle.comp_model.specs.declared.row.ScopeKind.TheVariants as kinds
use Rattle.comp_model.specs.Model.{Node, row, no_leaf, ◌▸◌, no_names, Def, define, no_def, one_def, Scope, scope_of}
use Rattle.comp_list.specs.declared.line.Spot.{Spot}
use Rattle.comp_list.specs.declared.line.Led.TheVariants.{Not, Nowhere, To}
use Rattle.comp_list.specs.Listing.{listing}

plain : Node → Def
plain n = define no_names n

index_of_type : ℕ → m.Leaf
index_of_type i = m.ref Ty (m.index i)

list_of : ℕ → Node
list_of i = row rows.ListType (index_of_type i ▸ no_leaf)

u8 : Node
u8 = row rows.Primitive (m.number 0x7d ▸ no_leaf)

outer_type : ℕ → ℕ → Node
outer_type c i = row rows.AliasOuter (m.place (counted 0 c) ▸ index_of_type i ▸ m.kind Ty ▸ no_leaf)

spot : ℕ → ℕ → Spot
spot d p = record { def = d; part = p }

-- (component (type (list 1)) (type u8))
forward : Scope
forward = scope_of kinds.Component None None (one_def (plain (list_of 1)) (one_def (plain u8) no_def))

-- (component (type u8) (component (alias outer 1 0 (type)) (type (list 0))))
inner : Scope
inner = scope_of kinds.Component None None (one_def (plain (outer_type 1 0)) (one_def (plain (list_of 0)) no_def))

nested : Scope
nested = scope_of kinds.Component None None (one_def (plain u8) (one_def (plain (row rows.Component (m.scope inner ▸ no_leaf))) no_def))

-- (component (alias outer 1 0 (type)) (type (list 0)))
too_far : Scope
too_far = scope_of kinds.Component None None (one_def (plain (outer_type 1 0)) (one_def (plain (list_of 0)) no_def))

forward_listed : listing forward ≡ record { level = 0; def = 0; place = 0; space = Ty; index = 1; up = None; at = Some (spot 1 0); led = Not } ∷ []
unfolding forward plain list_of u8 index_of_type spot
forward_listed = refl

nested_listed : listing nested
    ≡ record { level = 1; def = 0; place = 0; space = Ty; index = 0; up = Some 1; at = Some (spot 0 0); led = Not }
    ∷ record { level = 1; def = 1; place = 0; space = Ty; index = 0; up = None; at = Some (spot 0 0); led = To 1 (spot 0 0) }
    ∷ []
unfolding nested inner plain list_of u8 outer_type index_of_type spot
nested_listed = refl

too_far_listed : listing too_far
    ≡ record { level = 0; def = 0; place = 0; space = Ty; index = 0; up = Some 1; at = None; led = Not }
    ∷ record { level = 0; def = 1; place = 0; space = Ty; index = 0; up = None; at = Some (spot 0 0); led = Nowhere }
    ∷ []
unfolding too_far plain list_of outer_type index_of_type spot
too_far_listed = refl
