-- Lists of the model, and what a tree has for them.
use Rattle.std.proofs.Common.{◌≡◌, refl, ap, ◌∙◌, sym, List, [], ◌∷◌, map}
use Rattle.comp_model.specs.CoreModules.{CoreModule}
use Rattle.comp_model.specs.Model as m
use Rattle.comp_model.specs.Model.{◌▸◌}
use Rattle.text_rules.specs.Made.{leaves_from, nodes_from, defs_from}
use Rattle.comp_tree.specs.Model.{leaf_of}
use Rattle.comp_tree.specs.Lists.{listed, nodes_listed, node_of, defs_listed, def_of}
use Rattle.comp_tree.specs.declared.tree.Leaf.{Leaf}
use Rattle.comp_tree.specs.declared.tree.Node.{Node}
use Rattle.comp_tree.specs.declared.tree.Def.{Def}

pub leaves_listed : (cs : List CoreModule) (xs : List Leaf) → leaves_from (map (leaf_of cs) xs) ≡ listed cs xs
leaves_listed cs [] = refl
leaves_listed cs (x ∷ xs) = ap (λ ls. leaf_of cs x ▸ ls) (leaves_listed cs xs)

pub nodes_are_listed : (cs : List CoreModule) (xs : List Node) → nodes_from (map (node_of cs) xs) ≡ nodes_listed cs xs
nodes_are_listed cs [] = refl
nodes_are_listed cs (x ∷ xs) = ap (m.one_node (node_of cs x)) (nodes_are_listed cs xs)

pub defs_are_listed : (cs : List CoreModule) (xs : List Def) → defs_from (map (def_of cs) xs) ≡ defs_listed cs xs
defs_are_listed cs [] = refl
defs_are_listed cs (x ∷ xs) = ap (m.one_def (def_of cs x)) (defs_are_listed cs xs)
