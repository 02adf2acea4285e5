use Rattle.std.proofs.Common.{◌≡◌, ◌++◌, length}
use Rattle.std.specs.Vec.Iter.{into_iter_items, into_iter_len}
use Rattle.wast_component.specs.Modules.{all_fields, ruled_fields, all_numbered, AreRuled}
use Rattle.wast_component.proofs.rules.number_modules.Given as goal

-- what is left completes the list
abbrev pub invariant-loop-ruled : goal.invariant-loop-ruled
invariant-loop-ruled l = record {
  done : all_fields l.numbered.items ++ all_numbered (ruled_fields (into_iter_items l.ruled-iterator)) ≡ all_numbered (ruled_fields (into_iter_items l.initial.ruled-iterator));
  ruled : AreRuled (into_iter_items l.ruled-iterator);
  left : into_iter_len l.ruled-iterator ≡ length (into_iter_items l.ruled-iterator);
}
