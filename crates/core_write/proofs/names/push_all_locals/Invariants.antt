use Rattle.std.proofs.Common.{◌≡◌, ◌+◌, ◌≤◌, ◌++◌, drop, map, length}
use Rattle.comp_model.specs.declared.Space.TheVariants.{CoreFunc}
use Rattle.comp_model.specs.Payloads.{joined}
use Rattle.core_model.specs.Items.{items_in}
use Rattle.core_syntax.specs.Fields.{field_of}
use Rattle.core_write.specs.NamesWritten.{local_items_from, FitsLocalsFrom}
use Rattle.core_write.proofs.names.push_all_locals.Given as goal

-- what is left completes the names
abbrev pub invariant-loop-field : goal.invariant-loop-field
invariant-loop-field l = record {
  appended : l.out.items ++ joined (local_items_from l.counts l.place (items_in CoreFunc (map field_of (drop l.field-index l.fields)))) ≡ l.initial.out.items ++ joined (local_items_from l.counts 0 (items_in CoreFunc (map field_of l.fields)));
  number : l.count + length (local_items_from l.counts l.place (items_in CoreFunc (map field_of (drop l.field-index l.fields)))) ≡ length (local_items_from l.counts 0 (items_in CoreFunc (map field_of l.fields)));
  fits : FitsLocalsFrom l.counts l.place (items_in CoreFunc (map field_of (drop l.field-index l.fields)));
  within : l.place ≤ l.field-index;
}
