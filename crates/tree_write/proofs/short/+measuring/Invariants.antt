use Rattle.std.proofs.Common.{◌++◌, List, true, drop, map}
use Rattle.comp_wire.specs.Sections.{Item}
use Rattle.tree_write.specs.Measured.{IsMeasured, items_fit}
use Rattle.tree_write.specs.Wire.{wire_items}
use Rattle.tree_write.proofs.short.+measuring.Given as goal

-- the items from here on are measured
abbrev pub invariant-sections_size-loop-i : goal.invariant-sections_size-loop-i
invariant-sections_size-loop-i g l =
    (items : List Item) → IsMeasured l.fn.named items true → IsMeasured l.front (wire_items (map g.M.CoreBytes.core_module l.modules) (drop l.i l.defs) ++ items) (items_fit (map g.M.CoreBytes.core_module l.modules) (drop l.i l.defs))
