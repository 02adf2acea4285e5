use Rattle.text_rules.specs.Rule.{reads, outside, core_fields}
use Rattle.wast_grammar.specs.Read.{read}
use Rattle.wast_parser.proofs.Many.{with_front}
use Rattle.wast_parser.specs.View.{many_view}
use Rattle.tree_read.specs.FieldParts.{grouped, fields_row}
use Rattle.tree_read.proofs.FieldsAdded.{first_of_all, first_refused, gives_as, none_of_all}
use Rattle.tree_read.proofs.fields.all_fields.Goals as goal

pub returns-in-Err : goal.returns-in-Err
returns-in-Err g c = first_refused c.args.at_least_one c.in-Err.fault c.args.reader.now c.one_field.new.reader c.if-at_least_one.true c.in-Err.ensures

pub returns-in-Ok : goal.returns-in-Ok
returns-in-Ok g c =
    gives_as (λ _. many_view (grouped g.T.ParseView.view) c.more_fields.new.fields.items) c.more_fields.result c.more_fields.new.reader (read (reads (outside (fields_row c.args.at_least_one))) c.args.reader.now)
    (with_front (grouped g.T.ParseView.view) c.one_field.new.fields.items (read (reads (outside core_fields)) c.one_field.new.reader))
    (first_of_all c.args.at_least_one (grouped g.T.ParseView.view) c.args.reader.now c.one_field.new.reader c.args.fields.now.items c.one_field.new.fields.items c.if-at_least_one.true c.in-Ok.ensures c.requires.none) c.more_fields.ensures

pub returns-else-at_least_one : goal.returns-else-at_least_one
returns-else-at_least_one g c =
    gives_as (λ _. many_view (grouped g.T.ParseView.view) c.more_fields-else-at_least_one.new.fields.items) c.more_fields-else-at_least_one.result c.more_fields-else-at_least_one.new.reader (read (reads (outside (fields_row c.args.at_least_one))) c.args.reader.now)
    (with_front (grouped g.T.ParseView.view) c.args.fields.now.items (read (reads (outside core_fields)) c.args.reader.now))
    (none_of_all c.args.at_least_one (grouped g.T.ParseView.view) c.args.reader.now c.args.fields.now.items c.if-at_least_one.false c.requires.none) c.more_fields-else-at_least_one.ensures
