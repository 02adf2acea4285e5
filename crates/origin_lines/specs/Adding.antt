-- Counts with the marks of origins added to them.
use Rattle.std.specs.Prelude.{◌≡◌, ◌+◌, ◌^◌, ◌≤◌, Option, None, Some}
use Rattle.comp_model.specs.Origins.{Origins}
use Rattle.origin_lines.specs.declared.count.Counts.{Counts}
use Rattle.origin_lines.specs.Count.{marks_in, outer_aliases_in}

-- the counts with the marks of these origins, or none where the marks are too many for a `u64`
abbrev pub AddsUp : Counts → Origins → Option Counts → Type 0
AddsUp counts os None = 2 ^ 64 ≤ counts.marks + marks_in os
AddsUp counts os (Some all) = (all.marks ≡ counts.marks + marks_in os) × (all.outer_aliases ≡ counts.outer_aliases + outer_aliases_in os) × (all.outer_aliases ≤ all.marks)
