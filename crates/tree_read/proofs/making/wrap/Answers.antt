use Rattle.std.proofs.Common.{ap}
use Rattle.text_rules.specs.Rule.{an_entry, swapped, last_first, outer, dropped, heap, results, joined, by_number, alone}
use Rattle.text_table.specs.Code.{wrap_of}
use Rattle.tree_build.specs.AllEnds.{IsAtEnds}
use Rattle.tree_build.proofs.Wrapping.{narrower}
use Rattle.tree_read.proofs.making.wrap.Goals as goal

pub returns-in-Entry : goal.returns-in-Entry
returns-in-Entry c = narrower (wrap_of c.args.kind) an_entry (IsAtEnds c.args.ends) _ c.wrap_entry.result c.args.scratch.now c.wrap_entry.new.scratch (ap wrap_of c.in-Entry.is) (λ a l. (l.rows, l.leaves)) c.wrap_entry.ensures

pub returns-in-LastFirst : goal.returns-in-LastFirst
returns-in-LastFirst c = narrower (wrap_of c.args.kind) last_first (IsAtEnds c.args.ends) _ c.wrap_last_first.result c.args.scratch.now c.wrap_last_first.new.scratch (ap wrap_of c.in-LastFirst.is) (λ a l. l.leaves) c.wrap_last_first.ensures

pub returns-in-Outer : goal.returns-in-Outer
returns-in-Outer c = narrower (wrap_of c.args.kind) outer (IsAtEnds c.args.ends) _ c.wrap_outer.result c.args.scratch.now c.wrap_outer.new.scratch (ap wrap_of c.in-Outer.is) (λ a l. (l.leaves, l.places)) c.wrap_outer.ensures

pub returns-in-Heap : goal.returns-in-Heap
returns-in-Heap c = narrower (wrap_of c.args.kind) (heap c.in-Heap.nullable) (IsAtEnds c.args.ends) _ c.wrap_heap.result c.args.scratch.now c.wrap_heap.new.scratch (ap wrap_of c.in-Heap.is) (λ a l. l.leaves) c.wrap_heap.ensures

pub returns-in-Results : goal.returns-in-Results
returns-in-Results c = narrower (wrap_of c.args.kind) results (IsAtEnds c.args.ends) _ c.wrap_results.result c.args.scratch.now c.wrap_results.new.scratch (ap wrap_of c.in-Results.is) (λ a l. l.ids) c.wrap_results.ensures

pub returns-in-Joined : goal.returns-in-Joined
returns-in-Joined c = narrower (wrap_of c.args.kind) joined (IsAtEnds c.args.ends) _ c.wrap_joined.result c.args.scratch.now c.wrap_joined.new.scratch (ap wrap_of c.in-Joined.is) (λ a l. l.leaves) c.wrap_joined.ensures

pub returns-in-ByNumber : goal.returns-in-ByNumber
returns-in-ByNumber c = narrower (wrap_of c.args.kind) (by_number c.in-ByNumber.lists) (IsAtEnds c.args.ends) _ c.wrap_by_number.result c.args.scratch.now c.wrap_by_number.new.scratch (ap wrap_of c.in-ByNumber.is) (λ a l. l.nodes) c.wrap_by_number.ensures
