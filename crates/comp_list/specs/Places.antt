-- The references of a definition place by place, as code has them.
use Rattle.std.specs.Prelude.{List, [], ◌∷◌, ◌++◌, map}
use Rattle.comp_model.specs.declared.Space.{Space}
use Rattle.comp_model.specs.declared.row.Row.{Row}
use Rattle.comp_model.specs.Spaces.{declares_row}
use Rattle.comp_model.specs.Model.{Leaves, Node, row}
use Rattle.comp_wire.specs.Values.{rows_of_list, core_value_row, named_type_row, case_row, lone_type_row, core_argument_row, start_argument_row, option_row, function_row}
use Rattle.item_tree.specs.Model.{argument_row}
use Rattle.comp_list.specs.declared.places.Places.{Places}
use Rattle.comp_list.specs.declared.places.Places.TheVariants as p
use Rattle.comp_list.specs.declared.item_places.ItemPlaces.{ItemPlaces}
use Rattle.comp_list.specs.declared.reference.Reference.{Reference}
use Rattle.comp_list.specs.References.{references, node_references, maybe_reference}

abbrev pub row_of : Node → Row
row_of (row t ls) = t

abbrev pub row_leaves : Node → Leaves
row_leaves (row t ls) = ls

-- the spaces in which a definition of a row declares
abbrev pub row_spaces : Node → List Space
row_spaces (row t ls) = declares_row t ls

-- the references of a row
abbrev pub row_references : Node → List Reference
row_references (row t ls) = references ls

-- the references at each place: those of the entry of a list that stands there
abbrev pub each_place : Places → List (List Reference)
each_place (p.One r) = maybe_reference r ∷ []
each_place (p.Named xs) = map (λ x. row_references (argument_row x)) xs.now
each_place (p.Instances xs) = map (λ x. row_references (core_argument_row x)) xs.now
each_place (p.Passed xs) = map (λ x. row_references (start_argument_row x)) xs.now
each_place (p.Options xs) = map (λ x. row_references (option_row x)) xs.now
each_place (p.CoreValues xs) = map (λ x. row_references (core_value_row x)) xs.now
each_place (p.Fields xs) = map (λ x. row_references (named_type_row x)) xs.now
each_place (p.Cases xs) = map (λ x. row_references (case_row x)) xs.now
each_place (p.Values xs) = map (λ x. row_references (lone_type_row x)) xs.now

-- one list behind the other
abbrev pub joined : List (List Reference) → List Reference
joined [] = []
joined (rs ∷ rests) = rs ++ joined rests

abbrev pub references_at : Places → List Reference
references_at ps = joined (each_place ps)

-- all references of a definition
abbrev pub references_in : ItemPlaces → List Reference
references_in ps = references_at ps.first ++ (references_at ps.second ++ (references_at ps.third ++ node_references (rows_of_list function_row ps.functions.now)))
