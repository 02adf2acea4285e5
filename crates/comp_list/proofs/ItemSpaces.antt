-- The items that the definitions of a tree declare.
use Rattle.std.proofs.Common.{◌≡◌, ℕ, refl, ap, ◌∙◌, List, [], ◌∷◌, ◌++◌, length, replicate, append-nil, Option, Some, None}
use Rattle.comp_model.specs.declared.Space.TheVariants.{CoreType, Value, Ty}
use Rattle.comp_model.specs.declared.declares.Declares.TheVariants.{ByDescription, ByReference}
use Rattle.comp_model.specs.Model as m
use Rattle.comp_model.specs.Model.{Node, row, Leaf}
use Rattle.comp_model.specs.Spaces.{described, leaf_spaces}
use Rattle.comp_model.specs.Makers as make
use Rattle.comp_wire.specs.Values.{rows_of_list, function_row, optional_of, description_leaf}
use Rattle.comp_wire.specs.declared.externs.ComponentTypeRef.{ComponentTypeRef}
use Rattle.comp_wire.specs.declared.values.WireFunc.{WireFunc}
use Rattle.comp_wire.proofs.Lists.{counted}
use Rattle.item_tree.specs.declared.tree.ItemType.{ItemType}
use Rattle.item_tree.specs.declared.tree.ItemType as ty
use Rattle.item_tree.specs.Model.{type_row}
use Rattle.comp_list.specs.Places.{row_spaces, row_of}

pub type_declares : (t : ItemType) → row_spaces (type_row t) ≡ Ty ∷ []
type_declares (ty.Primitive p) = refl
type_declares _ = refl

pub description_declares : (n : Node) → leaf_spaces (m.node n) ByDescription ++ [] ≡ described (row_of n)
description_declares (row t ls) = append-nil (described t)

pub export_declares : (d : Option ComponentTypeRef) → leaf_spaces (optional_of description_leaf d) ByReference ≡ []
export_declares None = refl
export_declares (Some d) = refl

pub results_declare : (n : ℕ) → replicate n Value ++ [] ≡ replicate n Value
results_declare n = append-nil (replicate n Value)

-- a group of core types declares as many as it has
pub group_declares : (fs : List WireFunc) → row_spaces (make.core_rec (rows_of_list function_row fs)) ≡ replicate (length fs) CoreType
group_declares fs = append-nil _ ∙ ap (λ n. replicate n CoreType) (counted function_row fs)
