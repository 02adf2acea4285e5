use Rattle.std.proofs.Common.{◌≡◌, ◌+◌, ◌≤◌, ◌++◌, ℕ, List, length, map, take, drop}
use Rattle.comp_wire.specs.Sections.{Item, groups, sections}
use Rattle.comp_tree.specs.Lists.{defs_listed}
use Rattle.tree_write.specs.Along.{payload_by}
use Rattle.tree_write.specs.Kept.{Kept, put}
use Rattle.tree_write.specs.OpenSection.{BeginsAlone, Holds}
use Rattle.tree_write.specs.Plans.{payloads_of_defs}
use Rattle.tree_write.specs.Wire.{wire_items, ItemsFit}
use Rattle.tree_write.proofs.component.+components.Given as goal

-- the sections hold the items from here on, and the name sections of the definitions in front are still to be written
abbrev pub invariant-write_sections-loop-i : goal.invariant-write_sections-loop-i
invariant-write_sections-loop-i g l =
    ((before : Kept) (named : List Item) (rest : List (List ℕ)) → ItemsFit (map g.M.CoreBytes.core_module l.modules) l.defs → BeginsAlone (groups named) → g.S.Sink.kept l.initial.sink ≡ put (sections (groups named)) before
    → map payload_by (drop l.initial.next l.plans) ≡ payloads_of_defs (defs_listed (map g.M.CoreBytes.core_module l.modules) l.defs) ++ rest
    → Holds before (g.S.Sink.kept l.sink) l.front (wire_items (map g.M.CoreBytes.core_module l.modules) (drop l.i l.defs) ++ named)
    × (map payload_by (drop l.next l.plans) ≡ payloads_of_defs (defs_listed (map g.M.CoreBytes.core_module l.modules) (take l.i l.defs)) ++ rest))
    × (l.front.count + l.i ≤ length l.defs)
