-- Components that declare fewer than 2 ^ 64 items, each.
use Rattle.std.specs.Prelude.{ℕ, ◌+◌, ◌<◌, ◌^◌, length, Option, Some, None}
use Rattle.comp_model.specs.Model as m
use Rattle.comp_model.specs.Model.{Leaves, ◌▸◌, row, Defs, no_def, one_def, define, Scope, scope_of}
use Rattle.comp_model.specs.Spaces.{declares_row}
use Rattle.comp_model.specs.declared.row.Row.{Row}
use Rattle.comp_model.specs.declared.row.Row.TheVariants as rows

-- how many items these definitions declare
abbrev pub count_declared : Defs → ℕ
count_declared no_def = 0
count_declared (one_def (define names (row u ls)) ds) = length (declares_row u ls) + count_declared ds

abbrev mutual
  -- a component declares fewer, and so do those in it
  pub FewItems : Scope → Type 0
  FewItems (scope_of k id label ds) = (count_declared ds < 2 ^ 64) × FewInDefs ds

  pub FewInDefs : Defs → Type 0
  FewInDefs no_def = Unit {0}
  FewInDefs (one_def (define names (row u ls)) ds) = FewInRow u ls × FewInDefs ds

  pub FewInRow : Row → Leaves → Type 0
  FewInRow rows.Component (m.scope s ▸ ls) = FewItems s
  FewInRow _ _ = Unit {0}

-- the component that a definition holds, if it holds one
abbrev pub FewIn : Option Scope → Type 0
FewIn None = Unit {0}
FewIn (Some s) = FewItems s
