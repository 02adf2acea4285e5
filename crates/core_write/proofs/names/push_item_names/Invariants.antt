use Rattle.std.proofs.Common.{◌≡◌, ◌+◌, ◌≤◌, ◌++◌, drop, map, length}
use Rattle.comp_model.specs.Payloads.{joined}
use Rattle.core_model.specs.Items.{naming_of, items_in}
use Rattle.core_model.specs.NameSection.{names_from, names_in}
use Rattle.core_syntax.specs.Fields.{field_of}
use Rattle.core_write.specs.NamesWritten.{FitsNamesFrom}
use Rattle.core_write.proofs.names.push_item_names.Given as goal

-- what is left completes the names
abbrev pub invariant-loop-field : goal.invariant-loop-field
invariant-loop-field l = record {
  appended : l.out.items ++ joined (names_from (0 + l.place) (map naming_of (items_in l.space (map field_of (drop l.field-index l.fields))))) ≡ l.initial.out.items ++ joined (names_in l.space (map field_of l.fields));
  number : l.count + length (names_from (0 + l.place) (map naming_of (items_in l.space (map field_of (drop l.field-index l.fields))))) ≡ length (names_in l.space (map field_of l.fields));
  fits : FitsNamesFrom (0 + l.place) (map naming_of (items_in l.space (map field_of (drop l.field-index l.fields))));
  within : l.place ≤ l.field-index;
}
