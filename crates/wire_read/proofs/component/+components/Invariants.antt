use Rattle.std.proofs.Common.{◌+◌, ◌*◌, length}
use Rattle.wire_read.specs.Place.{rest}
use Rattle.wire_read.proofs.Components.{RunsSoFar}
use Rattle.wire_read.proofs.component.+components.Given as goal

abbrev pub decreases-read_nested : goal.decreases-read_nested
decreases-read_nested l = l.left * 8 + 1

abbrev pub decreases-read_body : goal.decreases-read_body
decreases-read_body l = l.left * 8 + 2

abbrev pub decreases-read_section : goal.decreases-read_section
decreases-read_section l = l.left * 8 + 3

abbrev pub decreases-read_component : goal.decreases-read_component
decreases-read_component l = l.left * 8 + 4

abbrev pub invariant-read_component-loop-alloc : goal.invariant-read_component-loop-alloc
invariant-read_component-loop-alloc l = RunsSoFar l.left l.initial.input l.input l.last l.items.items

abbrev pub decreases-read_component-loop-alloc : goal.decreases-read_component-loop-alloc
decreases-read_component-loop-alloc l = length (rest l.input)
