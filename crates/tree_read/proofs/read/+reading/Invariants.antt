use Rattle.std.proofs.Common.{◌≡◌, ◌+◌, ◌*◌, ◌≤◌, Result}
use Rattle.std.specs.Prelude.{⊤}
use Rattle.wast_grammar.specs.Classes.{closing}
use Rattle.wast_grammar.specs.Stand.{Stand}
use Rattle.wast_grammar.specs.Read.{left_of}
use Rattle.text_rules.specs.Rule.{after, also, pair, either, by_test, case, checked, marks, row, many, many_by, wraps, skipping, a_list, a_part, a_def, a_scope}
use Rattle.text_rules.specs.Forms.{of_row, entry, named}
use Rattle.text_rules.specs.Measure.{rank}
use Rattle.text_table.specs.Code.{rule_of, test_of, add_of, step_of, row_of, choice_of, a_word, a_note, a_placed, wrap_of, uses}
use Rattle.tree_read.specs.Comes.{Reads}
use Rattle.tree_build.specs.Making.{wraps_of}
use Rattle.tree_read.specs.Parts.{before_last, behind_first}
use Rattle.tree_read.specs.declared.fault.Fault.{Fault}
use Rattle.tree_build.specs.declared.scratch.Scratch.{Scratch}
use Rattle.tree_read.proofs.read.+reading.Given as goal

abbrev pub decreases-read : goal.decreases-read
decreases-read l = 4 * rank (rule_of l.rule.now) l.reader.now + (2 * uses l.rule.now + 1)

abbrev pub decreases-read_before : goal.decreases-read_before
decreases-read_before l = 4 * rank (before_last l.last (rule_of l.rest.now)) l.reader.now

abbrev pub decreases-read_behind : goal.decreases-read_behind
decreases-read_behind l = 4 * rank (behind_first l.first (rule_of l.rest.now)) l.reader.now

abbrev pub decreases-read_of : goal.decreases-read_of
decreases-read_of l = 4 * rank (of_row l.row (rule_of l.rest.now)) l.reader.now

abbrev pub decreases-read_word : goal.decreases-read_word
decreases-read_word l = 4 * rank (a_word l.code (rule_of l.rest.now)) l.reader.now

abbrev pub decreases-read_then : goal.decreases-read_then
decreases-read_then l = 4 * rank (pair (rule_of l.one.now) (rule_of l.rest.now)) l.reader.now

abbrev pub decreases-read_choice : goal.decreases-read_choice
decreases-read_choice l = 4 * rank (choice_of l.choice) l.reader.now

abbrev pub decreases-read_many : goal.decreases-read_many
decreases-read_many l = 4 * rank (many (test_of l.test.now) (rule_of l.item.now)) l.reader.now

abbrev pub decreases-read_many_then : goal.decreases-read_many_then
decreases-read_many_then l = 4 * rank (pair (many_by (test_of l.test.now) (rule_of l.item.now)) (rule_of l.rest.now)) l.reader.now

abbrev pub decreases-read_group : goal.decreases-read_group
decreases-read_group l = 4 * rank (a_note l.code (rule_of l.rest.now)) l.reader.now

abbrev pub decreases-read_row : goal.decreases-read_row
decreases-read_row l = 4 * rank (row (row_of l.name)) l.reader.now

abbrev pub decreases-read_list : goal.decreases-read_list
decreases-read_list l = 4 * rank (wraps a_list (many (test_of l.test.now) (rule_of l.item.now))) l.reader.now

abbrev pub decreases-read_entry : goal.decreases-read_entry
decreases-read_entry l = 4 * rank (entry l.row (rule_of l.rest.now)) l.reader.now

abbrev pub decreases-read_made : goal.decreases-read_made
decreases-read_made l = 4 * rank (wraps (wraps_of l.making) (rule_of l.rest.now)) l.reader.now

abbrev pub decreases-read_made_of : goal.decreases-read_made_of
decreases-read_made_of l = 4 * rank (wraps (wraps_of l.making) (of_row l.row (rule_of l.rest.now))) l.reader.now

abbrev pub decreases-read_part : goal.decreases-read_part
decreases-read_part l = 4 * rank (wraps a_part (rule_of l.rest.now)) l.reader.now

abbrev pub decreases-read_def : goal.decreases-read_def
decreases-read_def l = 4 * rank (wraps a_def (rule_of l.rest.now)) l.reader.now

abbrev pub decreases-read_def_of : goal.decreases-read_def_of
decreases-read_def_of l = 4 * rank (wraps a_def (of_row l.row (rule_of l.rest.now))) l.reader.now

abbrev pub decreases-read_scope : goal.decreases-read_scope
decreases-read_scope l = 4 * rank (wraps (a_scope l.kind) (rule_of l.rest.now)) l.reader.now

abbrev pub decreases-read_wraps : goal.decreases-read_wraps
decreases-read_wraps l = 4 * rank (wraps (wrap_of l.kind) (rule_of l.rest.now)) l.reader.now

abbrev pub invariant-read_many-items : goal.invariant-read_many-items
invariant-read_many-items l = record {
  same : (res : Result ⊤ Fault) (t : Stand) (q : Scratch) → Reads (many (test_of l.test) (rule_of l.item)) res l.reader t l.scratch q → Reads (many (test_of l.fn.test) (rule_of l.fn.item)) res l.fn.reader t l.fn.scratch q;
  by_test : (res : Result ⊤ Fault) (t : Stand) (q : Scratch) → Reads (many_by (test_of l.test) (rule_of l.item)) res l.reader t l.scratch q → Reads (many_by (test_of l.fn.test) (rule_of l.fn.item)) res l.fn.reader t l.fn.scratch q;
  left : left_of l.reader ≤ left_of l.fn.reader;
}

abbrev pub decreases-read_many-items : goal.decreases-read_many-items
decreases-read_many-items l = left_of l.reader
