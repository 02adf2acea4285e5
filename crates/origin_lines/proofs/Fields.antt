-- The origins of a scope, as those of the list of its items.
use Rattle.std.proofs.Common.{◌≡◌, sym, ap, ◌∙◌}
use Rattle.comp_wire.specs.Origins.{origins_of, origins_of_list}
use Rattle.comp_wire.specs.declared.origin.ScopeOrigins.{ScopeOrigins, out-ScopeOrigins, roll-out-ScopeOrigins}
use Rattle.comp_wire.proofs.Marks.{origins_rolled}

pub origins_by_items : (s : ScopeOrigins) → origins_of s ≡ origins_of_list (out-ScopeOrigins s).items
origins_by_items s = ap origins_of (sym (roll-out-ScopeOrigins s)) ∙ origins_rolled (out-ScopeOrigins s).items
