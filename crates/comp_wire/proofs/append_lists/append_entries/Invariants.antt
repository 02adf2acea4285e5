use Rattle.std.proofs.Common.{◌≡◌, ◌++◌, drop}
use Rattle.comp_wire.specs.Spelled.{spell_nodes, FitsNodes}
use Rattle.comp_wire.specs.Values.{rows_of_list}
use Rattle.comp_wire.proofs.append_lists.append_entries.Given as goal

-- what is left completes the list, and fits
abbrev pub invariant-loop-entry : goal.invariant-loop-entry
invariant-loop-entry g l = record {
  written : l.out.items ++ spell_nodes (rows_of_list g.T.Entry.entry_row (drop l.entry-index l.entries)) g.T.Entry.family ≡ l.initial.out.items ++ spell_nodes (rows_of_list g.T.Entry.entry_row l.entries) g.T.Entry.family;
  fits : FitsNodes (rows_of_list g.T.Entry.entry_row (drop l.entry-index l.entries)) g.T.Entry.family;
}
