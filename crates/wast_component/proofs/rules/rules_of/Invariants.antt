use Rattle.std.proofs.Common.{◌≡◌, ◌++◌, length}
use Rattle.std.specs.Vec.Iter.{into_iter_items, into_iter_len}
use Rattle.wast_component.specs.Modules.{all_fields, all_light, ruled_fields, AreRuled}
use Rattle.wast_component.proofs.rules.rules_of.Given as goal

-- what is left completes the list
abbrev pub invariant-loop-fields : goal.invariant-loop-fields
invariant-loop-fields l = record {
  done : ruled_fields l.ruled.items ++ all_light (all_fields (into_iter_items l.fields-iterator)) ≡ all_light (all_fields (into_iter_items l.initial.fields-iterator));
  ruled : AreRuled l.ruled.items;
  left : into_iter_len l.fields-iterator ≡ length (into_iter_items l.fields-iterator);
}
