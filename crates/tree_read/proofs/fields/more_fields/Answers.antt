use Rattle.std.proofs.Common.{◌≡◌, ◌<◌, ◌∙◌, sym, subst}
use Rattle.core_syntax.specs.CoreLaws.{sound_field_group, has_token_field_group}
use Rattle.text_rules.specs.Rule.{reads, outside, core_fields}
use Rattle.wast_grammar.specs.CoreRows.{field_group}
use Rattle.wast_grammar.specs.Grammar.{row, CoreField, going}
use Rattle.wast_grammar.specs.Read.{read, left_of}
use Rattle.wast_grammar.specs.Shape.{consumes}
use Rattle.wast_grammar.proofs.Fuel.{read_moves}
use Rattle.wast_grammar.proofs.Moves.{Ahead}
use Rattle.wast_parser.proofs.Many.{with_front, goes_on, is_done}
use Rattle.tree_read.specs.FieldParts.{grouped}
use Rattle.tree_read.proofs.FieldsAdded.{field_is, sound_fields, item_fails, front_fails, fails_as, goes_by}
use Rattle.tree_read.proofs.fields.more_fields.Goals as goal

pub returns-in-Err : goal.returns-in-Err
returns-in-Err g c =
    fails_as c.in-Err.fault c.one_field.new.reader _ (with_front (grouped g.T.ParseView.view) c.fields.fields.items (read (reads (outside core_fields)) c.fields.reader)) (sym c.fields.invariant)
    (front_fails (grouped g.T.ParseView.view) c.in-Err.fault c.fields.fields.items c.one_field.new.reader (read (reads (outside core_fields)) c.fields.reader)
    (item_fails c.in-Err.fault c.fields.reader c.one_field.new.reader (goes_by c.fields.reader c.parser.result.now _ _ c.parser.ensures c.is_empty.ensures.ends c.fields-test.true) c.in-Err.ensures))

pub fields-smaller : goal.fields-smaller
fields-smaller g c =
    let r = c.in-Ok.ensures in
    let a : Ahead (consumes field_group) c.fields.reader c.one_field.new.reader = read_moves field_group c.fields.reader (grouped g.T.ParseView.view r.item) c.one_field.new.reader sound_field_group r.read in
    let l : left_of c.one_field.new.reader < left_of c.fields.reader = a.falls has_token_field_group in l

pub fields-preserved : goal.fields-preserved
fields-preserved g c =
    let r = c.in-Ok.ensures in
    subst (λ xs. with_front (grouped g.T.ParseView.view) xs (read (reads (outside core_fields)) c.one_field.new.reader) ≡ with_front (grouped g.T.ParseView.view) c.args.fields.now.items (read (reads (outside core_fields)) c.args.reader.now)) (sym r.items)
    (goes_on (grouped g.T.ParseView.view) going (row CoreField) c.fields.fields.items r.item c.fields.reader c.one_field.new.reader _ sound_fields (goes_by c.fields.reader c.parser.result.now _ _ c.parser.ensures c.is_empty.ensures.ends c.fields-test.true) (field_is c.fields.reader ∙ r.read) c.fields.invariant)

pub returns : goal.returns
returns g c = is_done (grouped g.T.ParseView.view) going (row CoreField) c.fields.fields.items c.fields.reader _ (goes_by c.fields.reader c.parser.result.now _ _ c.parser.ensures c.is_empty.ensures.ends c.fields-test.false) c.fields.invariant
