use Rattle.std.proofs.Common.{◌≡◌, ◌+◌, ◌++◌, drop, map, flat_map, length}
use Rattle.comp_model.specs.Payloads.{joined}
use Rattle.core_syntax.specs.Fields.{field_of}
use Rattle.core_write.specs.Written.{items_of}
use Rattle.core_write.specs.Fits.{FitsItems}
use Rattle.core_write.proofs.sections.push_items.Given as goal

-- what is left completes the items
abbrev pub invariant-loop-field : goal.invariant-loop-field
invariant-loop-field l = record {
  appended : l.out.items ++ joined (flat_map (items_of l.part) (map field_of (drop l.field-index l.fields))) ≡ l.initial.out.items ++ joined (flat_map (items_of l.part) (map field_of l.fields));
  number : l.count + length (flat_map (items_of l.part) (map field_of (drop l.field-index l.fields))) ≡ length (flat_map (items_of l.part) (map field_of l.fields));
  fits : FitsItems l.part (map field_of (drop l.field-index l.fields));
}
