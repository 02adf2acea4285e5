use Rattle.std.proofs.Common.{◌≡◌, map}
use Rattle.std.specs.Prelude.{option_map}
use Rattle.comp_tree.specs.Model.{id_of, lent_text}
use Rattle.tree_resolve.proofs.NamedItems.{any_behind}
use Rattle.tree_resolve.proofs.naming.names_item.Given as goal

abbrev pub invariant-loop-part : goal.invariant-loop-part
invariant-loop-part l =
    any_behind (map (option_map id_of) l.def.names.now.ids.now) (map (option_map lent_text) l.def.names.now.labels.now) l.spaces.items l.part
    ≡ any_behind (map (option_map id_of) l.def.names.now.ids.now) (map (option_map lent_text) l.def.names.now.labels.now) l.spaces.items 0
