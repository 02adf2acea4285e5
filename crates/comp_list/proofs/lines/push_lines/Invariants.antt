use Rattle.std.proofs.Common.{◌≡◌, ◌++◌, drop}
use Rattle.comp_list.specs.Open.{scopes_of, AllFound}
use Rattle.comp_list.specs.Listing.{lines_of}
use Rattle.comp_list.proofs.lines.push_lines.Given as goal

abbrev pub invariant-loop-reference : goal.invariant-loop-reference
invariant-loop-reference l =
    (l.place ≡ l.reference-index)
    × (AllFound l.around →
    l.lines.items ++ lines_of l.stand.level (scopes_of l.around) l.stand.def l.stand.up l.place (drop l.reference-index l.references)
    ≡ l.initial.lines.items ++ lines_of l.stand.level (scopes_of l.around) l.stand.def l.stand.up 0 l.references)
