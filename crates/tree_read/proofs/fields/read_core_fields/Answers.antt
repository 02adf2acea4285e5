use Rattle.std.proofs.Common.{◌∙◌, sym, subst}
use Rattle.text_rules.specs.Rule.{outside}
use Rattle.tree_read.specs.Comes.{Reads}
use Rattle.tree_read.specs.FieldParts.{fields_row}
use Rattle.tree_read.proofs.Added.{not_added}
use Rattle.tree_read.proofs.FieldsAdded.{module_read, of_both, spelled, sound_rows}
use Rattle.tree_read.proofs.fields.read_core_fields.Goals as goal

pub returns-in-Err : goal.returns-in-Err
returns-in-Err c = not_added (outside (fields_row c.args.at_least_one)) c.in-Err.fault c.args.reader.now c.read_fields.new.reader c.in-Err.ensures

pub returns-in-Ok : goal.returns-in-Ok
returns-in-Ok c =
    let r = c.in-Ok.ensures in
    let o = fields_row c.args.at_least_one in
    let w = c.read_last_numerals.ensures c.args.scratch.now.cores.fields.items r.list (c.as_slice.ensures.value ∙ r.lists) r.number in
    subst (λ k. Reads (outside o) k c.args.reader.now c.read_fields.new.reader c.args.scratch.now c.leaf.new.self) (sym c.stored.ensures)
    (module_read o c.args.reader.now c.read_fields.new.reader c.args.scratch.now c.leaf.new.self c.read_fields.new.lists c.in-Ok.number c.leaf.result r
    (of_both c.args.at_least_one c.args.reader.now c.read_fields.new.reader r.list.items c.made_of_text_is_meant.ensures.module_fields c.made_of_text_is_meant.ensures.fields_alone
    (spelled r.list.items o c.args.reader.now c.read_fields.new.reader (sound_rows c.args.at_least_one) r.read) w)
    c.leaf.ensures)
