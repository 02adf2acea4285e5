use Rattle.std.specs.Prelude.{⊤}
use Rattle.std.proofs.Common.{◌≡◌, ◌<◌, ◌∙◌, arith, ap, sym, subst, refl, true, Ok, Err, length}
use Rattle.comp_model.specs.declared.row.Row.TheVariants as rows
use Rattle.wast_grammar.specs.Classes.{closing}
use Rattle.wast_grammar.specs.Stand.{offset_of}
use Rattle.wast_grammar.specs.Read.{left_of}
use Rattle.text_rules.specs.Rule.{nothing, after, also, pair, either, by_test, case, no_case, checked, marks, row, many, many_by, wraps, skipping, a_row, a_list, an_entry, a_part, a_def, a_scope}
use Rattle.text_rules.specs.Forms.{of_row, entry, named, optional_id, optional_name}
use Rattle.text_rules.specs.Makes.{a_place_made}
use Rattle.text_rules.specs.Measure.{rank, Fit}
use Rattle.text_rules.specs.Table.{table}
use Rattle.text_rules.proofs.TableReads.{rows_fit}
use Rattle.text_rules.specs.ValueRules.{prim}
use Rattle.rule_runs.specs.Run.{run}
use Rattle.rule_runs.proofs.Runs.{run_row, run_no_case}
use Rattle.rule_runs.proofs.Ranks.{fit_after, fit_first, fit_second, fit_one, fit_other, fit_one_by, fit_other_by, fit_case, fit_later, fit_many, fit_many_by, fit_checked, fit_also, fit_wraps, fit_marks, fit_skipping, rank_first, rank_one, rank_other, rank_one_by, rank_other_by, rank_case, rank_later, rank_after, rank_marks, rank_skipping, rank_checked, rank_also, rank_wraps, rank_row, many_falls, many_by_falls}
use Rattle.text_table.specs.Code.{rule_of, test_of, add_of, step_of, row_of, choice_of, a_word, a_note, a_placed, wrap_of, path_rule, uses}
use Rattle.text_table.specs.declared.rule.Step.TheVariants as one
use Rattle.comp_tree.specs.Lists.{node_of, def_of}
use Rattle.tree_read.specs.Comes.{Reads, Stored, as_fault, as_result}
use Rattle.tree_build.specs.Held.{loose}
use Rattle.tree_build.specs.Making.{wraps_of}
use Rattle.tree_read.specs.Parts.{before_last, behind_first}
use Rattle.tree_read.specs.declared.parts.First.TheVariants as first
use Rattle.tree_read.specs.declared.parts.Last.TheVariants as last
use Rattle.tree_build.specs.declared.wraps.Making.TheVariants as making
use Rattle.tree_read.proofs.FirstAndLast.{called, has_number, last_fit, last_below, last_stops, either_is, by_test_is, case_is, one_is, one_reads}
use Rattle.tree_read.proofs.Formers.{all_read, goes, halts, then_reads, then_stops, word_reads, word_stops, closes_reads, closes_stops, also_reads, also_stops, wraps_reads, wraps_stops, many_reads, many_stops, many_ends, many_by_reads, many_by_stops, many_by_ends, nothing_reads, checked_reads, checked_stops, marks_reads, marks_stops, skipping_reads, skipping_stops, placed_then, placed_refused, either_one, either_other, by_test_one, by_test_other, case_one, case_other}
use Rattle.tree_read.proofs.Ranking.{ran_so, second_below, word_below, word_positive, note_below, note_positive, placed_below, placed_positive, item_below, item_below_by}
use Rattle.tree_build.proofs.Longer.{same_length, def_ends, all_ends, has_def_ends, has_ends, still_there}
use Rattle.tree_read.proofs.Growing.{uses_bound, chosen_takes, none_chosen, longer_behind}
use Rattle.tree_read.proofs.Values.{run_prim, run_primitive}
use Rattle.tree_read.proofs.read.+reading.Goals as goal

pub read_of-returns-in_default : goal.read_of-returns-in_default
read_of-returns-in_default t c =
    halts c.read.result (rule_of c.args.rest.now) (of_row c.args.row (rule_of c.args.rest.now)) c.args.reader.now c.args.reader.now c.read.new.reader c.args.scratch.now c.read.new.scratch c.args.scratch.now c.read.new.scratch c.in_default.not-Done
    (λ e h. also_stops (rule_of c.args.rest.now) (a_row c.args.row) e c.args.reader.now c.read.new.reader h) c.read.ensures

pub read_of-returns-in-Done : goal.read_of-returns-in-Done
read_of-returns-in-Done t c =
    subst (λ r. Reads (of_row c.args.row (rule_of c.args.rest.now)) r c.args.reader.now c.read.new.reader c.args.scratch.now c.row.new.self) (sym c.made.ensures)
    (also_reads (rule_of c.args.rest.now) (a_row c.args.row) all_read c.row.result c.args.reader.now c.read.new.reader c.args.scratch.now c.read.new.scratch c.row.new.self c.in-Done.ensures c.row.ensures)

pub read_word-read-requires : goal.read_word-read-requires
read_word-read-requires t c =
    let k = word_below c.args.code (rule_of c.args.rest.now) c.in-Ok.field-0 c.args.reader.now c.take.new.self c.requires.fit c.in-Ok.ensures in
    (omega (arith, c.decreases, k.1, uses_bound c.args.rest.now), k.0)

pub read_word-returns-in-Err : goal.read_word-returns-in-Err
read_word-returns-in-Err t c =
    subst (λ r. Reads (a_word c.args.code (rule_of c.args.rest.now)) r c.args.reader.now c.take.new.self c.args.scratch.now c.args.scratch.now) (sym c.stopped.ensures)
    (word_stops ⊤ c.args.code (rule_of c.args.rest.now) c.in-Err.fault c.args.reader.now c.take.new.self c.in-Err.ensures)

pub read_word-returns-in-Ok : goal.read_word-returns-in-Ok
read_word-returns-in-Ok t c = word_reads c.args.code (rule_of c.args.rest.now) c.in-Ok.field-0 (as_result c.read.result) c.args.reader.now c.take.new.self c.read.new.reader c.args.scratch.now c.read.new.scratch c.in-Ok.ensures c.read.ensures

pub read_then-read-requires-in-Done : goal.read_then-read-requires-in-Done
read_then-read-requires-in-Done t c =
    let k = second_below (rule_of c.args.one.now) (rule_of c.args.rest.now) all_read c.args.reader.now c.read.new.reader c.args.scratch.now c.read.new.scratch c.requires.fit c.in-Done.ensures in
    (omega (arith, c.decreases, k, uses_bound c.args.rest.now), fit_second (rule_of c.args.one.now) (rule_of c.args.rest.now) c.requires.fit)

pub read_then-returns-in_default : goal.read_then-returns-in_default
read_then-returns-in_default t c =
    halts c.read.result (rule_of c.args.one.now) (pair (rule_of c.args.one.now) (rule_of c.args.rest.now)) c.args.reader.now c.args.reader.now c.read.new.reader c.args.scratch.now c.read.new.scratch c.args.scratch.now c.read.new.scratch c.in_default.not-Done
    (λ e h. then_stops (rule_of c.args.one.now) (rule_of c.args.rest.now) e c.args.reader.now c.read.new.reader h) c.read.ensures

pub read_then-returns-in-Done : goal.read_then-returns-in-Done
read_then-returns-in-Done t c = then_reads (rule_of c.args.one.now) (rule_of c.args.rest.now) all_read (as_result c.read-in-Done.result) c.args.reader.now c.read.new.reader c.read-in-Done.new.reader c.args.scratch.now c.read.new.scratch c.read-in-Done.new.scratch c.in-Done.ensures c.read-in-Done.ensures

pub read_group-read-requires : goal.read_group-read-requires
read_group-read-requires t c =
    let k = note_below c.args.code (rule_of c.args.rest.now) c.in-Ok.field-0 c.args.reader.now c.take.new.self c.requires.fit c.in-Ok.ensures in
    (omega (arith, c.decreases, k.1, uses_bound c.args.rest.now), k.0)

pub read_group-returns-in-Err : goal.read_group-returns-in-Err
read_group-returns-in-Err t c =
    subst (λ r. Reads (a_note c.args.code (rule_of c.args.rest.now)) r c.args.reader.now c.take.new.self c.args.scratch.now c.args.scratch.now) (sym c.stopped.ensures)
    (word_stops ⊤ c.args.code (after (rule_of c.args.rest.now) closing) c.in-Err.fault c.args.reader.now c.take.new.self c.in-Err.ensures)

pub read_group-returns-in_default : goal.read_group-returns-in_default
read_group-returns-in_default t c =
    halts c.read.result (rule_of c.args.rest.now) (a_note c.args.code (rule_of c.args.rest.now)) c.take.new.self c.args.reader.now c.read.new.reader c.args.scratch.now c.read.new.scratch c.args.scratch.now c.read.new.scratch c.in_default.not-Done
    (λ e h. word_reads {Y = ⊤} c.args.code (after (rule_of c.args.rest.now) closing) c.in-Ok.field-0 (Err e) c.args.reader.now c.take.new.self c.read.new.reader c.args.scratch.now c.read.new.scratch c.in-Ok.ensures (closes_stops (rule_of c.args.rest.now) e c.take.new.self c.read.new.reader h)) c.read.ensures

pub read_group-returns-in-Done : goal.read_group-returns-in-Done
read_group-returns-in-Done t c =
    subst (λ r. Reads (a_note c.args.code (rule_of c.args.rest.now)) r c.args.reader.now c.take-in-Done.new.self c.args.scratch.now c.read.new.scratch) (sym c.answered.ensures)
    (word_reads c.args.code (after (rule_of c.args.rest.now) closing) c.in-Ok.field-0 c.take-in-Done.result c.args.reader.now c.take.new.self c.take-in-Done.new.self c.args.scratch.now c.read.new.scratch c.in-Ok.ensures (closes_reads (rule_of c.args.rest.now) all_read c.take-in-Done.result c.take.new.self c.read.new.reader c.take-in-Done.new.self c.args.scratch.now c.read.new.scratch c.in-Done.ensures c.take-in-Done.ensures))

pub read_row-read-requires : goal.read_row-read-requires
read_row-read-requires t c =
    let e : rule_of c.row_rule.result.now ≡ table (row_of c.args.name) = c.row_rule.ensures.rule in
    let k = rank_row (row_of c.args.name) c.args.reader.now c.row_rule.ensures.named in
    (omega (arith, c.decreases, k, ap (λ r. rank r c.args.reader.now) e, uses_bound c.row_rule.result.now), subst Fit (sym e) (rows_fit (row_of c.args.name) c.row_rule.ensures.named))

pub read_row-returns-in-Val : goal.read_row-returns-in-Val
read_row-returns-in-Val t c =
    subst (λ r. Reads (row (row_of c.args.name)) r c.args.reader.now c.read_told.new.reader c.args.scratch.now c.read_told.new.scratch) (sym c.answered.ensures)
    (goes (row (row_of c.args.name)) prim c.read_told.result c.args.reader.now c.args.reader.now c.read_told.new.reader c.args.scratch.now c.read_told.new.scratch
    (λ a. ap (λ n. run (row (row_of n)) c.args.reader.now a) c.in-Val.is ∙ run_prim c.args.reader.now a (sym c.is_prim-is_word.ensures ∙ c.if-is_word.true)) c.read_told.ensures)

pub read_row-returns-in-TypeDefinition : goal.read_row-returns-in-TypeDefinition
read_row-returns-in-TypeDefinition t c =
    subst (λ r. Reads (row (row_of c.args.name)) r c.args.reader.now c.read_primitive.new.reader c.args.scratch.now c.read_primitive.new.scratch) (sym c.answered-in-TypeDefinition.ensures)
    (goes (row (row_of c.args.name)) (of_row rows.Primitive prim) c.read_primitive.result c.args.reader.now c.args.reader.now c.read_primitive.new.reader c.args.scratch.now c.read_primitive.new.scratch
    (λ a. ap (λ n. run (row (row_of n)) c.args.reader.now a) c.in-TypeDefinition.is ∙ run_primitive c.args.reader.now a (sym c.is_prim-is_word.ensures ∙ c.if-is_word-2.true)) c.read_primitive.ensures)

pub read_row-read-requires-in_default : goal.read_row-read-requires-in_default
read_row-read-requires-in_default t c =
    let e : rule_of c.row_rule-in_default.result.now ≡ table (row_of c.args.name) = c.row_rule-in_default.ensures.rule in
    let k = rank_row (row_of c.args.name) c.args.reader.now c.row_rule-in_default.ensures.named in
    (omega (arith, c.decreases, k, ap (λ r. rank r c.args.reader.now) e, uses_bound c.row_rule-in_default.result.now), subst Fit (sym e) (rows_fit (row_of c.args.name) c.row_rule-in_default.ensures.named))

pub read_row-returns-in-Some : goal.read_row-returns-in-Some
read_row-returns-in-Some t c =
    subst (λ r. Reads (row (row_of c.args.name)) r c.args.reader.now c.read_plain.new.reader c.args.scratch.now c.read_plain.new.scratch) (sym c.made.ensures)
    (subst (λ n. Reads (row (row_of n)) (as_fault c.read_plain.result) c.args.reader.now c.read_plain.new.reader c.args.scratch.now c.read_plain.new.scratch) (sym c.in-ComponentItem.is) c.read_plain.ensures)

pub read_row-returns-in-None : goal.read_row-returns-in-None
read_row-returns-in-None t c = goes (row (row_of c.args.name)) (rule_of c.row_rule.result.now) (as_result c.read.result) c.args.reader.now c.args.reader.now c.read.new.reader c.args.scratch.now c.read.new.scratch (λ a. run_row (row_of c.args.name) c.args.reader.now a c.row_rule.ensures.named ∙ ap (λ r. run r c.args.reader.now a) (sym c.row_rule.ensures.rule)) c.read.ensures

pub read_row-returns-in_default : goal.read_row-returns-in_default
read_row-returns-in_default t c = goes (row (row_of c.args.name)) (rule_of c.row_rule-in_default.result.now) (as_result c.read-in_default.result) c.args.reader.now c.args.reader.now c.read-in_default.new.reader c.args.scratch.now c.read-in_default.new.scratch (λ a. run_row (row_of c.args.name) c.args.reader.now a c.row_rule-in_default.ensures.named ∙ ap (λ r. run r c.args.reader.now a) (sym c.row_rule-in_default.ensures.rule)) c.read-in_default.ensures

pub read_entry-wrap_entry-requires : goal.read_entry-wrap_entry-requires
read_entry-wrap_entry-requires t c = still_there c.args.scratch.now.leaves.items c.read_of.new.scratch.leaves.items c.as_slice-leaves.result.now c.as_slice-leaves.ensures.value (longer_behind (of_row c.args.row (rule_of c.args.rest.now)) all_read c.args.reader.now c.read_of.new.reader c.args.scratch.now c.read_of.new.scratch c.in-Done.ensures).leaves

pub read_entry-returns-in_default : goal.read_entry-returns-in_default
read_entry-returns-in_default t c =
    halts c.read_of.result (of_row c.args.row (rule_of c.args.rest.now)) (wraps an_entry (of_row c.args.row (rule_of c.args.rest.now))) c.args.reader.now c.args.reader.now c.read_of.new.reader c.args.scratch.now c.read_of.new.scratch c.args.scratch.now c.read_of.new.scratch c.in_default.not-Done
    (λ e h. wraps_stops an_entry (of_row c.args.row (rule_of c.args.rest.now)) e c.args.reader.now c.read_of.new.reader h) c.read_of.ensures

pub read_entry-returns-in-Done : goal.read_entry-returns-in-Done
read_entry-returns-in-Done t c =
    subst (λ r. Reads (wraps an_entry (of_row c.args.row (rule_of c.args.rest.now))) r c.args.reader.now c.read_of.new.reader c.args.scratch.now c.wrap_entry.new.scratch) (sym c.made.ensures)
    (wraps_reads an_entry _ (of_row c.args.row (rule_of c.args.rest.now)) all_read c.wrap_entry.result c.args.reader.now c.read_of.new.reader c.args.scratch.now c.read_of.new.scratch c.wrap_entry.new.scratch c.in-Done.ensures c.wrap_entry.ensures (λ fs cs. (ap length (sym c.as_slice-rows.ensures.value), same_length (loose fs cs) c.args.scratch.now.leaves.items _ c.as_slice-leaves.ensures.value)))

pub read_made-wrap_made-requires : goal.read_made-wrap_made-requires
read_made-wrap_made-requires t c = still_there c.args.scratch.now.leaves.items c.read.new.scratch.leaves.items c.as_slice-leaves.result.now c.as_slice-leaves.ensures.value (longer_behind (rule_of c.args.rest.now) all_read c.args.reader.now c.read.new.reader c.args.scratch.now c.read.new.scratch c.in-Done.ensures).leaves

pub read_made-returns-in_default : goal.read_made-returns-in_default
read_made-returns-in_default t c =
    halts c.read.result (rule_of c.args.rest.now) (wraps (wraps_of c.args.making) (rule_of c.args.rest.now)) c.args.reader.now c.args.reader.now c.read.new.reader c.args.scratch.now c.read.new.scratch c.args.scratch.now c.read.new.scratch c.in_default.not-Done
    (λ e h. wraps_stops (wraps_of c.args.making) (rule_of c.args.rest.now) e c.args.reader.now c.read.new.reader h) c.read.ensures

pub read_made-returns-in-Done : goal.read_made-returns-in-Done
read_made-returns-in-Done t c =
    subst (λ r. Reads (wraps (wraps_of c.args.making) (rule_of c.args.rest.now)) r c.args.reader.now c.read.new.reader c.args.scratch.now c.wrap_made.new.scratch) (sym c.made.ensures)
    (wraps_reads (wraps_of c.args.making) _ (rule_of c.args.rest.now) all_read c.wrap_made.result c.args.reader.now c.read.new.reader c.args.scratch.now c.read.new.scratch c.wrap_made.new.scratch c.in-Done.ensures c.wrap_made.ensures (λ fs cs. (ap length (sym c.as_slice-rows.ensures.value), same_length (loose fs cs) c.args.scratch.now.leaves.items _ c.as_slice-leaves.ensures.value)))

pub read_made_of-wrap_made-requires : goal.read_made_of-wrap_made-requires
read_made_of-wrap_made-requires t c = still_there c.args.scratch.now.leaves.items c.read_of.new.scratch.leaves.items c.as_slice-leaves.result.now c.as_slice-leaves.ensures.value (longer_behind (of_row c.args.row (rule_of c.args.rest.now)) all_read c.args.reader.now c.read_of.new.reader c.args.scratch.now c.read_of.new.scratch c.in-Done.ensures).leaves

pub read_made_of-returns-in_default : goal.read_made_of-returns-in_default
read_made_of-returns-in_default t c =
    halts c.read_of.result (of_row c.args.row (rule_of c.args.rest.now)) (wraps (wraps_of c.args.making) (of_row c.args.row (rule_of c.args.rest.now))) c.args.reader.now c.args.reader.now c.read_of.new.reader c.args.scratch.now c.read_of.new.scratch c.args.scratch.now c.read_of.new.scratch c.in_default.not-Done
    (λ e h. wraps_stops (wraps_of c.args.making) (of_row c.args.row (rule_of c.args.rest.now)) e c.args.reader.now c.read_of.new.reader h) c.read_of.ensures

pub read_made_of-returns-in-Done : goal.read_made_of-returns-in-Done
read_made_of-returns-in-Done t c =
    subst (λ r. Reads (wraps (wraps_of c.args.making) (of_row c.args.row (rule_of c.args.rest.now))) r c.args.reader.now c.read_of.new.reader c.args.scratch.now c.wrap_made.new.scratch) (sym c.made.ensures)
    (wraps_reads (wraps_of c.args.making) _ (of_row c.args.row (rule_of c.args.rest.now)) all_read c.wrap_made.result c.args.reader.now c.read_of.new.reader c.args.scratch.now c.read_of.new.scratch c.wrap_made.new.scratch c.in-Done.ensures c.wrap_made.ensures (λ fs cs. (ap length (sym c.as_slice-rows.ensures.value), same_length (loose fs cs) c.args.scratch.now.leaves.items _ c.as_slice-leaves.ensures.value)))

pub read_part-wrap_part-requires : goal.read_part-wrap_part-requires
read_part-wrap_part-requires t c = still_there c.args.scratch.now.leaves.items c.read.new.scratch.leaves.items c.as_slice-leaves.result.now c.as_slice-leaves.ensures.value (longer_behind (rule_of c.args.rest.now) all_read c.args.reader.now c.read.new.reader c.args.scratch.now c.read.new.scratch c.in-Done.ensures).leaves

pub read_part-returns-in_default : goal.read_part-returns-in_default
read_part-returns-in_default t c =
    halts c.read.result (rule_of c.args.rest.now) (wraps a_part (rule_of c.args.rest.now)) c.args.reader.now c.args.reader.now c.read.new.reader c.args.scratch.now c.read.new.scratch c.args.scratch.now c.read.new.scratch c.in_default.not-Done
    (λ e h. wraps_stops a_part (rule_of c.args.rest.now) e c.args.reader.now c.read.new.reader h) c.read.ensures

pub read_part-returns-in-Done : goal.read_part-returns-in-Done
read_part-returns-in-Done t c =
    subst (λ r. Reads (wraps a_part (rule_of c.args.rest.now)) r c.args.reader.now c.read.new.reader c.args.scratch.now c.wrap_part.new.scratch) (sym c.made.ensures)
    (wraps_reads a_part _ (rule_of c.args.rest.now) all_read c.wrap_part.result c.args.reader.now c.read.new.reader c.args.scratch.now c.read.new.scratch c.wrap_part.new.scratch c.in-Done.ensures c.wrap_part.ensures (λ fs cs. same_length (loose fs cs) c.args.scratch.now.leaves.items _ c.as_slice-leaves.ensures.value))

pub read_def-wrap_def-requires : goal.read_def-wrap_def-requires
read_def-wrap_def-requires t c = has_def_ends c.of-ends.result c.args.scratch.now c.read.new.scratch c.of-ends.ensures (longer_behind (rule_of c.args.rest.now) all_read c.args.reader.now c.read.new.reader c.args.scratch.now c.read.new.scratch c.in-Done.ensures)

pub read_def-returns-in_default : goal.read_def-returns-in_default
read_def-returns-in_default t c =
    halts c.read.result (rule_of c.args.rest.now) (wraps a_def (rule_of c.args.rest.now)) c.args.reader.now c.args.reader.now c.read.new.reader c.args.scratch.now c.read.new.scratch c.args.scratch.now c.read.new.scratch c.in_default.not-Done
    (λ e h. wraps_stops a_def (rule_of c.args.rest.now) e c.args.reader.now c.read.new.reader h) c.read.ensures

pub read_def-returns-in-Done : goal.read_def-returns-in-Done
read_def-returns-in-Done t c =
    subst (λ r. Reads (wraps a_def (rule_of c.args.rest.now)) r c.args.reader.now c.read.new.reader c.args.scratch.now c.wrap_def.new.scratch) (sym c.made.ensures)
    (wraps_reads a_def _ (rule_of c.args.rest.now) all_read c.wrap_def.result c.args.reader.now c.read.new.reader c.args.scratch.now c.read.new.scratch c.wrap_def.new.scratch c.in-Done.ensures c.wrap_def.ensures (λ fs cs. def_ends fs cs c.of-ends.result c.args.scratch.now c.of-ends.ensures))

pub read_def_of-wrap_def-requires : goal.read_def_of-wrap_def-requires
read_def_of-wrap_def-requires t c = has_def_ends c.of-ends.result c.args.scratch.now c.read_of.new.scratch c.of-ends.ensures (longer_behind (of_row c.args.row (rule_of c.args.rest.now)) all_read c.args.reader.now c.read_of.new.reader c.args.scratch.now c.read_of.new.scratch c.in-Done.ensures)

pub read_def_of-returns-in_default : goal.read_def_of-returns-in_default
read_def_of-returns-in_default t c =
    halts c.read_of.result (of_row c.args.row (rule_of c.args.rest.now)) (wraps a_def (of_row c.args.row (rule_of c.args.rest.now))) c.args.reader.now c.args.reader.now c.read_of.new.reader c.args.scratch.now c.read_of.new.scratch c.args.scratch.now c.read_of.new.scratch c.in_default.not-Done
    (λ e h. wraps_stops a_def (of_row c.args.row (rule_of c.args.rest.now)) e c.args.reader.now c.read_of.new.reader h) c.read_of.ensures

pub read_def_of-returns-in-Done : goal.read_def_of-returns-in-Done
read_def_of-returns-in-Done t c =
    subst (λ r. Reads (wraps a_def (of_row c.args.row (rule_of c.args.rest.now))) r c.args.reader.now c.read_of.new.reader c.args.scratch.now c.wrap_def.new.scratch) (sym c.made.ensures)
    (wraps_reads a_def _ (of_row c.args.row (rule_of c.args.rest.now)) all_read c.wrap_def.result c.args.reader.now c.read_of.new.reader c.args.scratch.now c.read_of.new.scratch c.wrap_def.new.scratch c.in-Done.ensures c.wrap_def.ensures (λ fs cs. def_ends fs cs c.of-ends.result c.args.scratch.now c.of-ends.ensures))

pub read_scope-wrap_scope-requires : goal.read_scope-wrap_scope-requires
read_scope-wrap_scope-requires t c = still_there c.args.scratch.now.defs.items c.read.new.scratch.defs.items c.as_slice-defs.result.now c.as_slice-defs.ensures.value (longer_behind (rule_of c.args.rest.now) all_read c.args.reader.now c.read.new.reader c.args.scratch.now c.read.new.scratch c.in-Done.ensures).defs

pub read_scope-returns-in_default : goal.read_scope-returns-in_default
read_scope-returns-in_default t c =
    halts c.read.result (rule_of c.args.rest.now) (wraps (a_scope c.args.kind) (rule_of c.args.rest.now)) c.args.reader.now c.args.reader.now c.read.new.reader c.args.scratch.now c.read.new.scratch c.args.scratch.now c.read.new.scratch c.in_default.not-Done
    (λ e h. wraps_stops (a_scope c.args.kind) (rule_of c.args.rest.now) e c.args.reader.now c.read.new.reader h) c.read.ensures

pub read_scope-returns-in-Done : goal.read_scope-returns-in-Done
read_scope-returns-in-Done t c =
    subst (λ r. Reads (wraps (a_scope c.args.kind) (rule_of c.args.rest.now)) r c.args.reader.now c.read.new.reader c.args.scratch.now c.wrap_scope.new.scratch) (sym c.made.ensures)
    (wraps_reads (a_scope c.args.kind) _ (rule_of c.args.rest.now) all_read c.wrap_scope.result c.args.reader.now c.read.new.reader c.args.scratch.now c.read.new.scratch c.wrap_scope.new.scratch c.in-Done.ensures c.wrap_scope.ensures (λ fs cs. same_length (def_of cs) c.args.scratch.now.defs.items _ c.as_slice-defs.ensures.value))

pub read_wraps-wrap-requires : goal.read_wraps-wrap-requires
read_wraps-wrap-requires t c = has_ends c.of-ends.result c.args.scratch.now c.read.new.scratch c.of-ends.ensures (longer_behind (rule_of c.args.rest.now) all_read c.args.reader.now c.read.new.reader c.args.scratch.now c.read.new.scratch c.in-Done.ensures)

pub read_wraps-returns-in_default : goal.read_wraps-returns-in_default
read_wraps-returns-in_default t c =
    halts c.read.result (rule_of c.args.rest.now) (wraps (wrap_of c.args.kind) (rule_of c.args.rest.now)) c.args.reader.now c.args.reader.now c.read.new.reader c.args.scratch.now c.read.new.scratch c.args.scratch.now c.read.new.scratch c.in_default.not-Done
    (λ e h. wraps_stops (wrap_of c.args.kind) (rule_of c.args.rest.now) e c.args.reader.now c.read.new.reader h) c.read.ensures

pub read_wraps-returns-in-Done : goal.read_wraps-returns-in-Done
read_wraps-returns-in-Done t c =
    subst (λ r. Reads (wraps (wrap_of c.args.kind) (rule_of c.args.rest.now)) r c.args.reader.now c.read.new.reader c.args.scratch.now c.wrap.new.scratch) (sym c.made.ensures)
    (wraps_reads (wrap_of c.args.kind) _ (rule_of c.args.rest.now) all_read c.wrap.result c.args.reader.now c.read.new.reader c.args.scratch.now c.read.new.scratch c.wrap.new.scratch c.in-Done.ensures c.wrap.ensures (λ fs cs. all_ends fs cs c.of-ends.result c.args.scratch.now c.of-ends.ensures))

pub read-returns-in-End : goal.read-returns-in-End
read-returns-in-End t c =
    let e : rule_of c.args.rule.now ≡ nothing = ap rule_of c.in-End.is in
    subst (λ r. Reads {X = ⊤} r (Ok tt) c.args.reader.now c.args.reader.now c.args.scratch.now c.args.scratch.now) (sym e) (nothing_reads {X = ⊤} tt c.args.reader.now c.args.scratch.now)

pub read-returns-in-Adds : goal.read-returns-in-Adds
read-returns-in-Adds t c =
    let e : rule_of c.args.rule.now ≡ also nothing (add_of c.in-Adds.unwritten) = ap rule_of c.in-Adds.is in
    subst (λ r. Reads r (as_result c.made.result) c.args.reader.now c.args.reader.now c.args.scratch.now c.add.new.scratch) (sym e)
    (subst (λ k. Reads (also nothing (add_of c.in-Adds.unwritten)) k c.args.reader.now c.args.reader.now c.args.scratch.now c.add.new.scratch) (sym c.made.ensures)
    (also_reads {X = ⊤} nothing (add_of c.in-Adds.unwritten) tt c.add.result c.args.reader.now c.args.reader.now c.args.scratch.now c.args.scratch.now c.add.new.scratch (nothing_reads {X = ⊤} tt c.args.reader.now c.args.scratch.now) c.add.ensures))

pub read-returns-in-NoCase : goal.read-returns-in-NoCase
read-returns-in-NoCase t c =
    let e : rule_of c.args.rule.now ≡ no_case = ap rule_of c.in-NoCase.is in
    λ a. ap (λ r. run r c.args.reader.now a) e ∙ run_no_case c.args.reader.now a

pub read-returns-in-Alone : goal.read-returns-in-Alone
read-returns-in-Alone t c =
    let e : rule_of c.args.rule.now ≡ step_of c.in-Alone.alone = ap rule_of c.in-Alone.is in
    subst (λ r. Reads r (as_result c.answered.result) c.args.reader.now c.step.new.reader c.args.scratch.now c.step.new.scratch) (sym e)
    (subst (λ k. Reads (step_of c.in-Alone.alone) k c.args.reader.now c.step.new.reader c.args.scratch.now c.step.new.scratch) (sym c.answered.ensures) c.step.ensures)

pub read-returns-in-Path : goal.read-returns-in-Path
read-returns-in-Path t c =
    let e : rule_of c.args.rule.now ≡ path_rule c.in-Path.space c.in-Path.steps = ap rule_of c.in-Path.is in
    subst (λ r. Reads r (as_result c.answered-in-Path.result) c.args.reader.now c.read_path.new.reader c.args.scratch.now c.read_path.new.scratch) (sym e)
    (subst (λ k. Reads (path_rule c.in-Path.space c.in-Path.steps) k c.args.reader.now c.read_path.new.reader c.args.scratch.now c.read_path.new.scratch) (sym c.answered-in-Path.ensures) c.read_path.ensures)

pub read_before-read-requires : goal.read_before-read-requires
read_before-read-requires t c = (omega (arith, c.decreases, last_below c.args.last (rule_of c.args.rest.now) c.args.reader.now, uses_bound c.args.rest.now), last_fit c.args.last (rule_of c.args.rest.now) c.requires.fit)

pub read_before-returns-in_default : goal.read_before-returns-in_default
read_before-returns-in_default t c =
    halts c.read.result (rule_of c.args.rest.now) (before_last c.args.last (rule_of c.args.rest.now)) c.args.reader.now c.args.reader.now c.read.new.reader c.args.scratch.now c.read.new.scratch c.args.scratch.now c.read.new.scratch c.in_default.not-Done
    (λ e h. last_stops c.args.last (rule_of c.args.rest.now) e c.args.reader.now c.read.new.reader h) c.read.ensures

pub read_before-returns-in-Done : goal.read_before-returns-in-Done
read_before-returns-in-Done t c = c.read_last.ensures (rule_of c.args.rest.now) c.args.reader.now c.args.scratch.now c.in-Done.ensures

pub read_behind-read_first-requires : goal.read_behind-read_first-requires
read_behind-read_first-requires t c = has_number c.args.first (rule_of c.args.rest.now) c.requires.fit

pub read_behind-read-requires : goal.read_behind-read-requires
read_behind-read-requires t c =
    let k = c.in-Ok.ensures.below (rule_of c.args.rest.now) c.requires.fit in
    (omega (arith, c.decreases, k.1, uses_bound c.args.rest.now), k.0)

pub read_behind-returns-in-Err : goal.read_behind-returns-in-Err
read_behind-returns-in-Err t c =
    subst (λ r. Reads (behind_first c.args.first (rule_of c.args.rest.now)) r c.args.reader.now c.read_first.new.reader c.args.scratch.now c.read_first.new.scratch) (sym c.stopped.ensures) (c.in-Err.ensures (rule_of c.args.rest.now))

pub read_behind-returns-in-Ok : goal.read_behind-returns-in-Ok
read_behind-returns-in-Ok t c = c.in-Ok.ensures.reads (rule_of c.args.rest.now) (as_result c.read.result) c.read.new.reader c.read.new.scratch c.read.ensures

pub read-read-requires : goal.read-read-requires
read-read-requires t c =
    let e : rule_of c.args.rule.now ≡ either (test_of c.in-Either.test.now) (rule_of c.in-Either.one.now) (rule_of c.in-Either.other.now) = ap rule_of c.in-Either.is in
    let o = one_is (rule_of c.args.rule.now) (either (test_of c.in-Either.test.now) (rule_of c.in-Either.one.now) (rule_of c.in-Either.other.now)) (rule_of c.one_of.result.now) c.args.reader.now e (either_is (test_of c.in-Either.test.now) (rule_of c.in-Either.one.now) (rule_of c.in-Either.other.now) (rule_of c.one_of.result.now) c.args.reader.now (subst Fit e c.requires.fit) c.one_of.ensures) in
    (omega (arith, c.decreases, o.below, uses_bound c.one_of.result.now), o.fit)

pub read-returns-in-Either : goal.read-returns-in-Either
read-returns-in-Either t c =
    let e : rule_of c.args.rule.now ≡ either (test_of c.in-Either.test.now) (rule_of c.in-Either.one.now) (rule_of c.in-Either.other.now) = ap rule_of c.in-Either.is in
    let o = one_is (rule_of c.args.rule.now) (either (test_of c.in-Either.test.now) (rule_of c.in-Either.one.now) (rule_of c.in-Either.other.now)) (rule_of c.one_of.result.now) c.args.reader.now e (either_is (test_of c.in-Either.test.now) (rule_of c.in-Either.one.now) (rule_of c.in-Either.other.now) (rule_of c.one_of.result.now) c.args.reader.now (subst Fit e c.requires.fit) c.one_of.ensures) in
    one_reads (rule_of c.args.rule.now) (rule_of c.one_of.result.now) (as_result c.read.result) c.args.reader.now c.read.new.reader c.args.scratch.now c.read.new.scratch o c.read.ensures

pub read-read-requires-in-ByTest : goal.read-read-requires-in-ByTest
read-read-requires-in-ByTest t c =
    let e : rule_of c.args.rule.now ≡ by_test (test_of c.in-ByTest.test.now) (rule_of c.in-ByTest.one.now) (rule_of c.in-ByTest.other.now) = ap rule_of c.in-ByTest.is in
    let o = one_is (rule_of c.args.rule.now) (by_test (test_of c.in-ByTest.test.now) (rule_of c.in-ByTest.one.now) (rule_of c.in-ByTest.other.now)) (rule_of c.one_of-in-ByTest.result.now) c.args.reader.now e (by_test_is (test_of c.in-ByTest.test.now) (rule_of c.in-ByTest.one.now) (rule_of c.in-ByTest.other.now) (rule_of c.one_of-in-ByTest.result.now) c.args.reader.now (subst Fit e c.requires.fit) c.one_of-in-ByTest.ensures) in
    (omega (arith, c.decreases, o.below, uses_bound c.one_of-in-ByTest.result.now), o.fit)

pub read-returns-in-ByTest : goal.read-returns-in-ByTest
read-returns-in-ByTest t c =
    let e : rule_of c.args.rule.now ≡ by_test (test_of c.in-ByTest.test.now) (rule_of c.in-ByTest.one.now) (rule_of c.in-ByTest.other.now) = ap rule_of c.in-ByTest.is in
    let o = one_is (rule_of c.args.rule.now) (by_test (test_of c.in-ByTest.test.now) (rule_of c.in-ByTest.one.now) (rule_of c.in-ByTest.other.now)) (rule_of c.one_of-in-ByTest.result.now) c.args.reader.now e (by_test_is (test_of c.in-ByTest.test.now) (rule_of c.in-ByTest.one.now) (rule_of c.in-ByTest.other.now) (rule_of c.one_of-in-ByTest.result.now) c.args.reader.now (subst Fit e c.requires.fit) c.one_of-in-ByTest.ensures) in
    one_reads (rule_of c.args.rule.now) (rule_of c.one_of-in-ByTest.result.now) (as_result c.read-in-ByTest.result) c.args.reader.now c.read-in-ByTest.new.reader c.args.scratch.now c.read-in-ByTest.new.scratch o c.read-in-ByTest.ensures

pub read-read-requires-in-Case : goal.read-read-requires-in-Case
read-read-requires-in-Case t c =
    let e : rule_of c.args.rule.now ≡ case c.in-Case.field-0 (test_of c.in-Case.test.now) (rule_of c.in-Case.one.now) (rule_of c.in-Case.other.now) = ap rule_of c.in-Case.is in
    let o = one_is (rule_of c.args.rule.now) (case c.in-Case.field-0 (test_of c.in-Case.test.now) (rule_of c.in-Case.one.now) (rule_of c.in-Case.other.now)) (rule_of c.one_of-in-Case.result.now) c.args.reader.now e (case_is c.in-Case.field-0 (test_of c.in-Case.test.now) (rule_of c.in-Case.one.now) (rule_of c.in-Case.other.now) (rule_of c.one_of-in-Case.result.now) c.args.reader.now (subst Fit e c.requires.fit) c.one_of-in-Case.ensures) in
    (omega (arith, c.decreases, o.below, uses_bound c.one_of-in-Case.result.now), o.fit)

pub read-returns-in-Case : goal.read-returns-in-Case
read-returns-in-Case t c =
    let e : rule_of c.args.rule.now ≡ case c.in-Case.field-0 (test_of c.in-Case.test.now) (rule_of c.in-Case.one.now) (rule_of c.in-Case.other.now) = ap rule_of c.in-Case.is in
    let o = one_is (rule_of c.args.rule.now) (case c.in-Case.field-0 (test_of c.in-Case.test.now) (rule_of c.in-Case.one.now) (rule_of c.in-Case.other.now)) (rule_of c.one_of-in-Case.result.now) c.args.reader.now e (case_is c.in-Case.field-0 (test_of c.in-Case.test.now) (rule_of c.in-Case.one.now) (rule_of c.in-Case.other.now) (rule_of c.one_of-in-Case.result.now) c.args.reader.now (subst Fit e c.requires.fit) c.one_of-in-Case.ensures) in
    one_reads (rule_of c.args.rule.now) (rule_of c.one_of-in-Case.result.now) (as_result c.read-in-Case.result) c.args.reader.now c.read-in-Case.new.reader c.args.scratch.now c.read-in-Case.new.scratch o c.read-in-Case.ensures

pub read_many-items-init : goal.read_many-items-init
read_many-items-init t c = record { same = λ res t q h. h; by_test = λ res t q h. h; left = omega arith }

pub read_many-read-requires : goal.read_many-read-requires
read_many-read-requires t c = (omega (arith, c.decreases, item_below (test_of c.args.test.now) (rule_of c.args.item.now) c.args.reader.now c.items.reader c.items.invariant.left, uses_bound c.args.item.now), fit_many (test_of c.args.test.now) (rule_of c.args.item.now) c.requires.fit)

pub read_many-items-smaller : goal.read_many-items-smaller
read_many-items-smaller t c = many_falls (test_of c.args.test.now) (rule_of c.args.item.now) c.items.reader c.read.new.reader _ _ c.requires.fit (ran_so (rule_of c.args.item.now) all_read c.items.reader c.read.new.reader c.items.scratch c.read.new.scratch c.in-Done.ensures)

pub read_many-items-preserved : goal.read_many-items-preserved
read_many-items-preserved t c =
    let fewer : left_of c.read.new.reader < left_of c.items.reader = many_falls (test_of c.args.test.now) (rule_of c.args.item.now) c.items.reader c.read.new.reader _ _ c.requires.fit (ran_so (rule_of c.args.item.now) all_read c.items.reader c.read.new.reader c.items.scratch c.read.new.scratch c.in-Done.ensures) in
    record {
      same = λ res u q h. c.items.invariant.same res u q (many_reads (test_of c.args.test.now) (rule_of c.args.item.now) all_read res c.items.reader c.read.new.reader u c.items.scratch c.read.new.scratch q c.requires.fit (sym c.holds.ensures ∙ c.items-test.true) c.in-Done.ensures h);
      by_test = λ res u q h. c.items.invariant.by_test res u q (many_by_reads (test_of c.args.test.now) (rule_of c.args.item.now) all_read res c.items.reader c.read.new.reader u c.items.scratch c.read.new.scratch q (record { sound = c.requires.fit.sound; small = c.requires.fit.small }) (sym c.holds.ensures ∙ c.items-test.true) c.in-Done.ensures h);
      left = omega (arith, fewer, c.items.invariant.left);
    }

pub read_many-returns-in_default-clause-items : goal.read_many-returns-in_default-clause-items
read_many-returns-in_default-clause-items t c =
    halts c.read.result (rule_of c.args.item.now) (many (test_of c.args.test.now) (rule_of c.args.item.now)) c.items.reader c.args.reader.now c.read.new.reader c.items.scratch c.read.new.scratch c.args.scratch.now c.read.new.scratch c.in_default.not-Done
    (λ e h. c.items.invariant.same (Err e) c.read.new.reader c.read.new.scratch (many_stops (test_of c.args.test.now) (rule_of c.args.item.now) e c.items.reader c.read.new.reader c.requires.fit (sym c.holds.ensures ∙ c.items-test.true) h)) c.read.ensures

pub read_many-returns-in_default-clause-by_test : goal.read_many-returns-in_default-clause-by_test
read_many-returns-in_default-clause-by_test t c =
    halts c.read.result (rule_of c.args.item.now) (many_by (test_of c.args.test.now) (rule_of c.args.item.now)) c.items.reader c.args.reader.now c.read.new.reader c.items.scratch c.read.new.scratch c.args.scratch.now c.read.new.scratch c.in_default.not-Done
    (λ e h. c.items.invariant.by_test (Err e) c.read.new.reader c.read.new.scratch (many_by_stops (test_of c.args.test.now) (rule_of c.args.item.now) e c.items.reader c.read.new.reader (record { sound = c.requires.fit.sound; small = c.requires.fit.small }) (sym c.holds.ensures ∙ c.items-test.true) h)) c.read.ensures

pub read_many-returns-clause-items : goal.read_many-returns-clause-items
read_many-returns-clause-items t c = c.items.invariant.same (Ok tt) c.items.reader c.items.scratch (many_ends {X = ⊤} (test_of c.args.test.now) (rule_of c.args.item.now) tt c.items.reader c.items.scratch c.requires.fit (sym c.holds.ensures ∙ c.items-test.false))

pub read_many-returns-clause-by_test : goal.read_many-returns-clause-by_test
read_many-returns-clause-by_test t c = c.items.invariant.by_test (Ok tt) c.items.reader c.items.scratch (many_by_ends {X = ⊤} (test_of c.args.test.now) (rule_of c.args.item.now) tt c.items.reader c.items.scratch (record { sound = c.requires.fit.sound; small = c.requires.fit.small }) (sym c.holds.ensures ∙ c.items-test.false))

pub read_many_then-read-requires : goal.read_many_then-read-requires
read_many_then-read-requires t c =
    let k = second_below (many_by (test_of c.args.test.now) (rule_of c.args.item.now)) (rule_of c.args.rest.now) all_read c.args.reader.now c.read_many.new.reader c.args.scratch.now c.read_many.new.scratch c.requires.fit c.in-Done.ensures.by_test in
    (omega (arith, c.decreases, k, uses_bound c.args.rest.now), fit_second (many_by (test_of c.args.test.now) (rule_of c.args.item.now)) (rule_of c.args.rest.now) c.requires.fit)

pub read_many_then-returns-in_default : goal.read_many_then-returns-in_default
read_many_then-returns-in_default t c =
    halts c.read_many.result (many_by (test_of c.args.test.now) (rule_of c.args.item.now)) (pair (many_by (test_of c.args.test.now) (rule_of c.args.item.now)) (rule_of c.args.rest.now)) c.args.reader.now c.args.reader.now c.read_many.new.reader c.args.scratch.now c.read_many.new.scratch c.args.scratch.now c.read_many.new.scratch c.in_default.not-Done
    (λ e h. then_stops (many_by (test_of c.args.test.now) (rule_of c.args.item.now)) (rule_of c.args.rest.now) e c.args.reader.now c.read_many.new.reader h) c.read_many.ensures.by_test

pub read_many_then-returns-in-Done : goal.read_many_then-returns-in-Done
read_many_then-returns-in-Done t c = then_reads (many_by (test_of c.args.test.now) (rule_of c.args.item.now)) (rule_of c.args.rest.now) all_read (as_result c.read.result) c.args.reader.now c.read_many.new.reader c.read.new.reader c.args.scratch.now c.read_many.new.scratch c.read.new.scratch c.in-Done.ensures.by_test c.read.ensures

pub read_many_then-read_many-requires : goal.read_many_then-read_many-requires
read_many_then-read_many-requires t c =
    let f = fit_first (many_by (test_of c.args.test.now) (rule_of c.args.item.now)) (rule_of c.args.rest.now) c.requires.fit in
    (omega (arith, c.decreases, rank_first (many_by (test_of c.args.test.now) (rule_of c.args.item.now)) (rule_of c.args.rest.now) c.args.reader.now), record { sound = f.sound; small = f.small })

pub read_list-wrap_list-requires : goal.read_list-wrap_list-requires
read_list-wrap_list-requires t c = still_there c.args.scratch.now.nodes.items c.read_many.new.scratch.nodes.items c.as_slice-nodes.result.now c.as_slice-nodes.ensures.value (longer_behind (many (test_of c.args.test.now) (rule_of c.args.item.now)) all_read c.args.reader.now c.read_many.new.reader c.args.scratch.now c.read_many.new.scratch c.in-Done.ensures.items).nodes

pub read_list-returns-in_default : goal.read_list-returns-in_default
read_list-returns-in_default t c =
    halts c.read_many.result (many (test_of c.args.test.now) (rule_of c.args.item.now)) (wraps a_list (many (test_of c.args.test.now) (rule_of c.args.item.now))) c.args.reader.now c.args.reader.now c.read_many.new.reader c.args.scratch.now c.read_many.new.scratch c.args.scratch.now c.read_many.new.scratch c.in_default.not-Done
    (λ e h. wraps_stops a_list (many (test_of c.args.test.now) (rule_of c.args.item.now)) e c.args.reader.now c.read_many.new.reader h) c.read_many.ensures.items

pub read_list-returns-in-Done : goal.read_list-returns-in-Done
read_list-returns-in-Done t c =
    subst (λ r. Reads (wraps a_list (many (test_of c.args.test.now) (rule_of c.args.item.now))) r c.args.reader.now c.read_many.new.reader c.args.scratch.now c.wrap_list.new.scratch) (sym c.made.ensures)
    (wraps_reads a_list _ (many (test_of c.args.test.now) (rule_of c.args.item.now)) all_read c.wrap_list.result c.args.reader.now c.read_many.new.reader c.args.scratch.now c.read_many.new.scratch c.wrap_list.new.scratch c.in-Done.ensures.items c.wrap_list.ensures (λ fs cs. same_length (node_of cs) c.args.scratch.now.nodes.items _ c.as_slice-nodes.ensures.value))

pub read-read_before-requires : goal.read-read_before-requires
read-read_before-requires t c = called c.args.rule.now (before_last (last.Add c.in-Also.add) (rule_of c.in-Also.rest.now)) c.args.reader.now t (ap rule_of c.in-Also.is) c.decreases c.requires.fit

pub read-returns-in-Also : goal.read-returns-in-Also
read-returns-in-Also t c = subst (λ r. Reads r (as_result c.read_before.result) c.args.reader.now c.read_before.new.reader c.args.scratch.now c.read_before.new.scratch) (sym (ap rule_of c.in-Also.is)) c.read_before.ensures

pub read-read_of-requires : goal.read-read_of-requires
read-read_of-requires t c = called c.args.rule.now (of_row c.in-Of.row (rule_of c.in-Of.rest.now)) c.args.reader.now t (ap rule_of c.in-Of.is) c.decreases c.requires.fit

pub read-returns-in-Of : goal.read-returns-in-Of
read-returns-in-Of t c = subst (λ r. Reads r (as_result c.read_of.result) c.args.reader.now c.read_of.new.reader c.args.scratch.now c.read_of.new.scratch) (sym (ap rule_of c.in-Of.is)) c.read_of.ensures

pub read-read_word-requires : goal.read-read_word-requires
read-read_word-requires t c = called c.args.rule.now (a_word c.in-Word.code (rule_of c.in-Word.rest.now)) c.args.reader.now t (ap rule_of c.in-Word.is) c.decreases c.requires.fit

pub read-returns-in-Word : goal.read-returns-in-Word
read-returns-in-Word t c = subst (λ r. Reads r (as_result c.read_word.result) c.args.reader.now c.read_word.new.reader c.args.scratch.now c.read_word.new.scratch) (sym (ap rule_of c.in-Word.is)) c.read_word.ensures

pub read-read_behind-requires : goal.read-read_behind-requires
read-read_behind-requires t c = called c.args.rule.now (behind_first (first.Placed c.in-Placed.first c.in-Placed.code) (rule_of c.in-Placed.rest.now)) c.args.reader.now t (ap rule_of c.in-Placed.is) c.decreases c.requires.fit

pub read-returns-in-Placed : goal.read-returns-in-Placed
read-returns-in-Placed t c = subst (λ r. Reads r (as_result c.read_behind.result) c.args.reader.now c.read_behind.new.reader c.args.scratch.now c.read_behind.new.scratch) (sym (ap rule_of c.in-Placed.is)) c.read_behind.ensures

pub read-read_behind-requires-in-Keep : goal.read-read_behind-requires-in-Keep
read-read_behind-requires-in-Keep t c = called c.args.rule.now (behind_first (first.Keep c.in-Keep.kept) (rule_of c.in-Keep.rest.now)) c.args.reader.now t (ap rule_of c.in-Keep.is) c.decreases c.requires.fit

pub read-returns-in-Keep : goal.read-returns-in-Keep
read-returns-in-Keep t c = subst (λ r. Reads r (as_result c.read_behind-in-Keep.result) c.args.reader.now c.read_behind-in-Keep.new.reader c.args.scratch.now c.read_behind-in-Keep.new.scratch) (sym (ap rule_of c.in-Keep.is)) c.read_behind-in-Keep.ensures

pub read-read_behind-requires-in-Reference : goal.read-read_behind-requires-in-Reference
read-read_behind-requires-in-Reference t c = called c.args.rule.now (behind_first (first.Reference c.in-Reference.space c.in-Reference.reach) (rule_of c.in-Reference.rest.now)) c.args.reader.now t (ap rule_of c.in-Reference.is) c.decreases c.requires.fit

pub read-returns-in-Reference : goal.read-returns-in-Reference
read-returns-in-Reference t c = subst (λ r. Reads r (as_result c.read_behind-in-Reference.result) c.args.reader.now c.read_behind-in-Reference.new.reader c.args.scratch.now c.read_behind-in-Reference.new.scratch) (sym (ap rule_of c.in-Reference.is)) c.read_behind-in-Reference.ensures

pub read-read_behind-requires-in-Told : goal.read-read_behind-requires-in-Told
read-read_behind-requires-in-Told t c = called c.args.rule.now (behind_first (first.Told c.in-Told.table) (rule_of c.in-Told.rest.now)) c.args.reader.now t (ap rule_of c.in-Told.is) c.decreases c.requires.fit

pub read-returns-in-Told : goal.read-returns-in-Told
read-returns-in-Told t c = subst (λ r. Reads r (as_result c.read_behind-in-Told.result) c.args.reader.now c.read_behind-in-Told.new.reader c.args.scratch.now c.read_behind-in-Told.new.scratch) (sym (ap rule_of c.in-Told.is)) c.read_behind-in-Told.ensures

pub read-read_behind-requires-in-Outside : goal.read-read_behind-requires-in-Outside
read-read_behind-requires-in-Outside t c = called c.args.rule.now (behind_first (first.Outside c.in-Outside.part) (rule_of c.in-Outside.rest.now)) c.args.reader.now t (ap rule_of c.in-Outside.is) c.decreases c.requires.fit

pub read-returns-in-Outside : goal.read-returns-in-Outside
read-returns-in-Outside t c = subst (λ r. Reads r (as_result c.read_behind-in-Outside.result) c.args.reader.now c.read_behind-in-Outside.new.reader c.args.scratch.now c.read_behind-in-Outside.new.scratch) (sym (ap rule_of c.in-Outside.is)) c.read_behind-in-Outside.ensures

pub read-read_behind-requires-in-Named : goal.read-read_behind-requires-in-Named
read-read_behind-requires-in-Named t c = called c.args.rule.now (behind_first first.Named (rule_of c.in-Named.rest.now)) c.args.reader.now t (ap rule_of c.in-Named.is) c.decreases c.requires.fit

pub read-returns-in-Named : goal.read-returns-in-Named
read-returns-in-Named t c = subst (λ r. Reads r (as_result c.read_behind-in-Named.result) c.args.reader.now c.read_behind-in-Named.new.reader c.args.scratch.now c.read_behind-in-Named.new.scratch) (sym (ap rule_of c.in-Named.is)) c.read_behind-in-Named.ensures

pub read-read_then-requires : goal.read-read_then-requires
read-read_then-requires t c = called c.args.rule.now (pair (rule_of c.in-Then.one.now) (rule_of c.in-Then.rest.now)) c.args.reader.now t (ap rule_of c.in-Then.is) c.decreases c.requires.fit

pub read-returns-in-Then : goal.read-returns-in-Then
read-returns-in-Then t c = subst (λ r. Reads r (as_result c.read_then.result) c.args.reader.now c.read_then.new.reader c.args.scratch.now c.read_then.new.scratch) (sym (ap rule_of c.in-Then.is)) c.read_then.ensures

pub read-read_choice-requires : goal.read-read_choice-requires
read-read_choice-requires t c = called c.args.rule.now (choice_of c.in-Choice.choice) c.args.reader.now t (ap rule_of c.in-Choice.is) c.decreases c.requires.fit

pub read-returns-in-Choice : goal.read-returns-in-Choice
read-returns-in-Choice t c = subst (λ r. Reads r (as_result c.read_choice.result) c.args.reader.now c.read_choice.new.reader c.args.scratch.now c.read_choice.new.scratch) (sym (ap rule_of c.in-Choice.is)) c.read_choice.ensures

pub read-read_many-requires : goal.read-read_many-requires
read-read_many-requires t c = called c.args.rule.now (many (test_of c.in-Many.test.now) (rule_of c.in-Many.item.now)) c.args.reader.now t (ap rule_of c.in-Many.is) c.decreases c.requires.fit

pub read-returns-in-Many : goal.read-returns-in-Many
read-returns-in-Many t c = subst (λ r. Reads r (as_result c.read_many.result) c.args.reader.now c.read_many.new.reader c.args.scratch.now c.read_many.new.scratch) (sym (ap rule_of c.in-Many.is)) c.read_many.ensures.items

pub read-read_many_then-requires : goal.read-read_many_then-requires
read-read_many_then-requires t c = called c.args.rule.now (pair (many_by (test_of c.in-ManyBy.test.now) (rule_of c.in-ManyBy.item.now)) (rule_of c.in-ManyBy.rest.now)) c.args.reader.now t (ap rule_of c.in-ManyBy.is) c.decreases c.requires.fit

pub read-returns-in-ManyBy : goal.read-returns-in-ManyBy
read-returns-in-ManyBy t c = subst (λ r. Reads r (as_result c.read_many_then.result) c.args.reader.now c.read_many_then.new.reader c.args.scratch.now c.read_many_then.new.scratch) (sym (ap rule_of c.in-ManyBy.is)) c.read_many_then.ensures

pub read-read_before-requires-in-Closes : goal.read-read_before-requires-in-Closes
read-read_before-requires-in-Closes t c = called c.args.rule.now (before_last last.Closing (rule_of c.in-Closes.rest.now)) c.args.reader.now t (ap rule_of c.in-Closes.is) c.decreases c.requires.fit

pub read-returns-in-Closes : goal.read-returns-in-Closes
read-returns-in-Closes t c = subst (λ r. Reads r (as_result c.read_before-in-Closes.result) c.args.reader.now c.read_before-in-Closes.new.reader c.args.scratch.now c.read_before-in-Closes.new.scratch) (sym (ap rule_of c.in-Closes.is)) c.read_before-in-Closes.ensures

pub read-read_behind-requires-in-Marks : goal.read-read_behind-requires-in-Marks
read-read_behind-requires-in-Marks t c = called c.args.rule.now (behind_first first.Offset (rule_of c.in-Marks.rest.now)) c.args.reader.now t (ap rule_of c.in-Marks.is) c.decreases c.requires.fit

pub read-returns-in-Marks : goal.read-returns-in-Marks
read-returns-in-Marks t c = subst (λ r. Reads r (as_result c.read_behind-in-Marks.result) c.args.reader.now c.read_behind-in-Marks.new.reader c.args.scratch.now c.read_behind-in-Marks.new.scratch) (sym (ap rule_of c.in-Marks.is)) c.read_behind-in-Marks.ensures

pub read-read_behind-requires-in-Checked : goal.read-read_behind-requires-in-Checked
read-read_behind-requires-in-Checked t c = called c.args.rule.now (behind_first first.Depth (rule_of c.in-Checked.rest.now)) c.args.reader.now t (ap rule_of c.in-Checked.is) c.decreases c.requires.fit

pub read-returns-in-Checked : goal.read-returns-in-Checked
read-returns-in-Checked t c = subst (λ r. Reads r (as_result c.read_behind-in-Checked.result) c.args.reader.now c.read_behind-in-Checked.new.reader c.args.scratch.now c.read_behind-in-Checked.new.scratch) (sym (ap rule_of c.in-Checked.is)) c.read_behind-in-Checked.ensures

pub read-read_before-requires-in-Skipping : goal.read-read_before-requires-in-Skipping
read-read_before-requires-in-Skipping t c = called c.args.rule.now (before_last last.Skipping (rule_of c.in-Skipping.rest.now)) c.args.reader.now t (ap rule_of c.in-Skipping.is) c.decreases c.requires.fit

pub read-returns-in-Skipping : goal.read-returns-in-Skipping
read-returns-in-Skipping t c = subst (λ r. Reads r (as_result c.read_before-in-Skipping.result) c.args.reader.now c.read_before-in-Skipping.new.reader c.args.scratch.now c.read_before-in-Skipping.new.scratch) (sym (ap rule_of c.in-Skipping.is)) c.read_before-in-Skipping.ensures

pub read-read_list-requires : goal.read-read_list-requires
read-read_list-requires t c = called c.args.rule.now (wraps a_list (many (test_of c.in-List.test.now) (rule_of c.in-List.item.now))) c.args.reader.now t (ap rule_of c.in-List.is) c.decreases c.requires.fit

pub read-returns-in-List : goal.read-returns-in-List
read-returns-in-List t c = subst (λ r. Reads r (as_result c.read_list.result) c.args.reader.now c.read_list.new.reader c.args.scratch.now c.read_list.new.scratch) (sym (ap rule_of c.in-List.is)) c.read_list.ensures

pub read-read_entry-requires : goal.read-read_entry-requires
read-read_entry-requires t c = called c.args.rule.now (entry c.in-Entry.row (rule_of c.in-Entry.rest.now)) c.args.reader.now t (ap rule_of c.in-Entry.is) c.decreases c.requires.fit

pub read-returns-in-Entry : goal.read-returns-in-Entry
read-returns-in-Entry t c = subst (λ r. Reads r (as_result c.read_entry.result) c.args.reader.now c.read_entry.new.reader c.args.scratch.now c.read_entry.new.scratch) (sym (ap rule_of c.in-Entry.is)) c.read_entry.ensures

pub read-read_made-requires : goal.read-read_made-requires
read-read_made-requires t c = called c.args.rule.now (wraps (wraps_of (making.Inline c.in-Inline.space)) (rule_of c.in-Inline.rest.now)) c.args.reader.now t (ap rule_of c.in-Inline.is) c.decreases c.requires.fit

pub read-returns-in-Inline : goal.read-returns-in-Inline
read-returns-in-Inline t c = subst (λ r. Reads r (as_result c.read_made.result) c.args.reader.now c.read_made.new.reader c.args.scratch.now c.read_made.new.scratch) (sym (ap rule_of c.in-Inline.is)) c.read_made.ensures

pub read-read_made_of-requires : goal.read-read_made_of-requires
read-read_made_of-requires t c = called c.args.rule.now (wraps (wraps_of (making.Inline c.in-InlineOf.space)) (of_row c.in-InlineOf.row (rule_of c.in-InlineOf.rest.now))) c.args.reader.now t (ap rule_of c.in-InlineOf.is) c.decreases c.requires.fit

pub read-returns-in-InlineOf : goal.read-returns-in-InlineOf
read-returns-in-InlineOf t c = subst (λ r. Reads r (as_result c.read_made_of.result) c.args.reader.now c.read_made_of.new.reader c.args.scratch.now c.read_made_of.new.scratch) (sym (ap rule_of c.in-InlineOf.is)) c.read_made_of.ensures

pub read-read_made_of-requires-in-Bundle : goal.read-read_made_of-requires-in-Bundle
read-read_made_of-requires-in-Bundle t c = called c.args.rule.now (wraps (wraps_of (making.Bundle c.in-Bundle.space)) (of_row c.in-Bundle.row (rule_of c.in-Bundle.rest.now))) c.args.reader.now t (ap rule_of c.in-Bundle.is) c.decreases c.requires.fit

pub read-returns-in-Bundle : goal.read-returns-in-Bundle
read-returns-in-Bundle t c = subst (λ r. Reads r (as_result c.read_made_of-in-Bundle.result) c.args.reader.now c.read_made_of-in-Bundle.new.reader c.args.scratch.now c.read_made_of-in-Bundle.new.scratch) (sym (ap rule_of c.in-Bundle.is)) c.read_made_of-in-Bundle.ensures

pub read-read_made-requires-in-Node : goal.read-read_made-requires-in-Node
read-read_made-requires-in-Node t c = called c.args.rule.now (wraps (wraps_of making.Node) (rule_of c.in-Node.rest.now)) c.args.reader.now t (ap rule_of c.in-Node.is) c.decreases c.requires.fit

pub read-returns-in-Node : goal.read-returns-in-Node
read-returns-in-Node t c = subst (λ r. Reads r (as_result c.read_made-in-Node.result) c.args.reader.now c.read_made-in-Node.new.reader c.args.scratch.now c.read_made-in-Node.new.scratch) (sym (ap rule_of c.in-Node.is)) c.read_made-in-Node.ensures

pub read-read_made_of-requires-in-NodeOf : goal.read-read_made_of-requires-in-NodeOf
read-read_made_of-requires-in-NodeOf t c = called c.args.rule.now (wraps (wraps_of making.Node) (of_row c.in-NodeOf.row (rule_of c.in-NodeOf.rest.now))) c.args.reader.now t (ap rule_of c.in-NodeOf.is) c.decreases c.requires.fit

pub read-returns-in-NodeOf : goal.read-returns-in-NodeOf
read-returns-in-NodeOf t c = subst (λ r. Reads r (as_result c.read_made_of-in-NodeOf.result) c.args.reader.now c.read_made_of-in-NodeOf.new.reader c.args.scratch.now c.read_made_of-in-NodeOf.new.scratch) (sym (ap rule_of c.in-NodeOf.is)) c.read_made_of-in-NodeOf.ensures

pub read-read_part-requires : goal.read-read_part-requires
read-read_part-requires t c = called c.args.rule.now (wraps a_part (rule_of c.in-Part.rest.now)) c.args.reader.now t (ap rule_of c.in-Part.is) c.decreases c.requires.fit

pub read-returns-in-Part : goal.read-returns-in-Part
read-returns-in-Part t c = subst (λ r. Reads r (as_result c.read_part.result) c.args.reader.now c.read_part.new.reader c.args.scratch.now c.read_part.new.scratch) (sym (ap rule_of c.in-Part.is)) c.read_part.ensures

pub read-read_def-requires : goal.read-read_def-requires
read-read_def-requires t c = called c.args.rule.now (wraps a_def (rule_of c.in-Def.rest.now)) c.args.reader.now t (ap rule_of c.in-Def.is) c.decreases c.requires.fit

pub read-returns-in-Def : goal.read-returns-in-Def
read-returns-in-Def t c = subst (λ r. Reads r (as_result c.read_def.result) c.args.reader.now c.read_def.new.reader c.args.scratch.now c.read_def.new.scratch) (sym (ap rule_of c.in-Def.is)) c.read_def.ensures

pub read-read_def_of-requires : goal.read-read_def_of-requires
read-read_def_of-requires t c = called c.args.rule.now (wraps a_def (of_row c.in-DefOf.row (rule_of c.in-DefOf.rest.now))) c.args.reader.now t (ap rule_of c.in-DefOf.is) c.decreases c.requires.fit

pub read-returns-in-DefOf : goal.read-returns-in-DefOf
read-returns-in-DefOf t c = subst (λ r. Reads r (as_result c.read_def_of.result) c.args.reader.now c.read_def_of.new.reader c.args.scratch.now c.read_def_of.new.scratch) (sym (ap rule_of c.in-DefOf.is)) c.read_def_of.ensures

pub read-read_scope-requires : goal.read-read_scope-requires
read-read_scope-requires t c = called c.args.rule.now (wraps (a_scope c.in-Scope.kind) (rule_of c.in-Scope.rest.now)) c.args.reader.now t (ap rule_of c.in-Scope.is) c.decreases c.requires.fit

pub read-returns-in-Scope : goal.read-returns-in-Scope
read-returns-in-Scope t c = subst (λ r. Reads r (as_result c.read_scope.result) c.args.reader.now c.read_scope.new.reader c.args.scratch.now c.read_scope.new.scratch) (sym (ap rule_of c.in-Scope.is)) c.read_scope.ensures

pub read-read_wraps-requires : goal.read-read_wraps-requires
read-read_wraps-requires t c = called c.args.rule.now (wraps (wrap_of c.in-Wraps.kind) (rule_of c.in-Wraps.rest.now)) c.args.reader.now t (ap rule_of c.in-Wraps.is) c.decreases c.requires.fit

pub read-returns-in-Wraps : goal.read-returns-in-Wraps
read-returns-in-Wraps t c = subst (λ r. Reads r (as_result c.read_wraps.result) c.args.reader.now c.read_wraps.new.reader c.args.scratch.now c.read_wraps.new.scratch) (sym (ap rule_of c.in-Wraps.is)) c.read_wraps.ensures
