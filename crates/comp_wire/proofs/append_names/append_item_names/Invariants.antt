use Rattle.std.proofs.Common.{◌≡◌, ◌++◌, drop, length}
use Rattle.comp_wire.specs.Sections.{Word}
use Rattle.comp_model.specs.Payloads.{item_name_bytes}
use Rattle.comp_wire.specs.NameSection.{item_names_of}
use Rattle.comp_wire.proofs.append_names.append_item_names.Given as goal

-- what is left completes the names, and is short
abbrev pub invariant-loop-index : goal.invariant-loop-index
invariant-loop-index l = record {
  written : l.out.items ++ item_name_bytes (item_names_of (drop l.index-index l.items)) ≡ l.initial.out.items ++ item_name_bytes (item_names_of l.items);
  short : Word (length (item_name_bytes (item_names_of (drop l.index-index l.items))));
}
