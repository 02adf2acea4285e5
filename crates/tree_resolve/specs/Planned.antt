-- The marks of a resolved tree: those of its definitions, and in a component with a name that of the name section behind them.
use Rattle.std.specs.Prelude.{Bool, true, false, List, [], ◌∷◌, option_map}
use Rattle.comp_model.specs.CoreModules.{CoreModule}
use Rattle.comp_model.specs.ItemNames.{has_names}
use Rattle.comp_model.specs.Model as m
use Rattle.comp_model.specs.Origins.{Origins, no_origins, origin_then, name_section, Held, holds_none, holds}
use Rattle.comp_scopes.specs.Form.{held_first}
use Rattle.comp_wire.specs.Origins.{origin_of}
use Rattle.comp_tree.specs.Model.{id_of, lent_text, defs_of}
use Rattle.comp_tree.specs.declared.tree.Leaf.{Leaf}
use Rattle.comp_tree.specs.declared.tree.Leaf as l
use Rattle.comp_tree.specs.declared.tree.Node.{Node}
use Rattle.comp_tree.specs.declared.tree.Def.{Def}
use Rattle.comp_tree.specs.declared.tree.Scope as s

-- the mark of the name section, where it is due
abbrev pub section_mark : Bool → Origins
section_mark true = origin_then name_section holds_none no_origins
section_mark false = no_origins

module _ (cores : List CoreModule) where
  abbrev mutual
    pub planned_in : Leaf → Held
    planned_in (l.Present' p x) = planned_in x
    planned_in (l.Node' p r v q h xs) = planned_in_leaves xs
    planned_in (l.Nodes' p h xs) = planned_in_nodes xs
    planned_in (l.Scope' p x) = holds (planned_of x)
    planned_in x = holds_none

    pub planned_of : s.Scope → Origins
    planned_of (s.Scope' k id label q h ds) = planned_of_defs (section_mark (has_names (m.scope_of k (option_map id_of id) (option_map lent_text label) (defs_of cores ds)))) ds

    pub planned_in_leaves : {k : _} → l.Row_of-Leaf k → Held
    planned_in_leaves l.end_of-Leaf = holds_none
    planned_in_leaves (l.more_of-Leaf x xs) = held_first (planned_in x) (planned_in_leaves xs)

    pub planned_in_nodes : {k : _} → l.Row_of-Node k → Held
    planned_in_nodes l.end_of-Node = holds_none
    planned_in_nodes (l.more_of-Node r v q h xs rest) = held_first (planned_in_leaves xs) (planned_in_nodes rest)

    -- with these behind them
    pub planned_of_defs : {k : _} → Origins → s.Row_of-Def k → Origins
    planned_of_defs more s.end_of-Def = more
    planned_of_defs more (s.more_of-Def origin places span names r v q h xs rest) = origin_then (origin_of origin) (planned_in_leaves xs) (planned_of_defs more rest)

  -- the same of lists, as goals show the slices of a tree
  abbrev pub planned_listed : List Leaf → Held
  planned_listed [] = holds_none
  planned_listed (x ∷ xs) = held_first (planned_in x) (planned_listed xs)

  abbrev pub planned_nodes : List Node → Held
  planned_nodes [] = holds_none
  planned_nodes (x ∷ xs) = held_first (planned_listed x.leaves.now) (planned_nodes xs)

  abbrev pub planned_defs : Origins → List Def → Origins
  planned_defs more [] = more
  planned_defs more (d ∷ ds) = origin_then (origin_of d.origin) (planned_listed d.node.leaves.now) (planned_defs more ds)
