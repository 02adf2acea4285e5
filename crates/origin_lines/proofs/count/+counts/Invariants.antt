use Rattle.std.proofs.Common.{◌≡◌, ◌+◌, ◌≤◌, drop}
use Rattle.comp_wire.specs.Origins.{origins_of_list}
use Rattle.origin_lines.specs.Count.{marks_in, outer_aliases_in}
use Rattle.origin_lines.proofs.count.+counts.Given as goal

abbrev pub invariant-add_marks-loop-item : goal.invariant-add_marks-loop-item
invariant-add_marks-loop-item l = record {
  marks : l.all.marks + marks_in (origins_of_list (drop l.item-index l.item-items)) ≡ l.fn.counts.marks + marks_in (origins_of_list l.item-items);
  outer_aliases : l.all.outer_aliases + outer_aliases_in (origins_of_list (drop l.item-index l.item-items)) ≡ l.fn.counts.outer_aliases + outer_aliases_in (origins_of_list l.item-items);
  fewer : l.all.outer_aliases ≤ l.all.marks;
}
