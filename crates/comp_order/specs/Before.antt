-- What stands before a reference, as code has it.
use Rattle.std.specs.Prelude.{◌≡◌, ℕ, List, [], ◌∷◌}
use Rattle.comp_model.specs.declared.Space.{Space}
use Rattle.comp_model.specs.Model.{Defs, Leaves}
use Rattle.comp_model.specs.declared.row.Row.{Row}
use Rattle.comp_order.specs.declared.before.Around.{Around}
use Rattle.comp_order.specs.declared.before.Around as a
use Rattle.comp_order.specs.Counts.{capped, counted, HasCounts}
use Rattle.comp_order.specs.Order.{own_items}

-- of each open scope, the innermost first, the items of these definitions are counted
abbrev pub AllCounted : Around → List Defs → Type 0
AllCounted a.Nothing [] = Unit {0}
AllCounted a.Nothing (ds ∷ befores) = ⊥
AllCounted (a.Scope' p counts outer) [] = ⊥
AllCounted (a.Scope' p counts outer) (ds ∷ befores) = HasCounts counts.now ds × AllCounted outer befores

-- the items of its own that a definition's references may be to are counted
abbrev pub HasOwn : List ℕ → Row → Leaves → Type 0
HasOwn cs t ls = (s : Space) → capped (counted cs s) ≡ capped (own_items t ls s)
