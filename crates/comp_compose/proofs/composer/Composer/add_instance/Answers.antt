use Rattle.std.proofs.Common.{List, sym}
use Rattle.comp_wire.specs.Values.{argument_row, rows_of_list}
use Rattle.plan_lines.specs.Shown.{word_of}
use Rattle.comp_compose.proofs.Adding.{instance_room, instance_added}
use Rattle.comp_compose.proofs.composer.Composer.add_instance.Goals as goal

pub put_instance-requires-clause-number : goal.put_instance-requires-clause-number
put_instance-requires-clause-number c =
    let r = c.requires.room in
    let p = c.in-Ok-passed_to.ensures r.0 r.3 r.4.names r.5 in
    (instance_room c.args.self.now r.0 r.1 r.2 c.args.part.bytes.now r.3 c.in-Ok-passed_to.component (rows_of_list argument_row c.in-Ok-passed_to.passed.items) r.4 r.6.0 r.7 p.0 p.1).0.instances

pub put_instance-requires-clause-fits : goal.put_instance-requires-clause-fits
put_instance-requires-clause-fits c =
    let r = c.requires.room in
    let p = c.in-Ok-passed_to.ensures r.0 r.3 r.4.names r.5 in
    (instance_room c.args.self.now r.0 r.1 r.2 c.args.part.bytes.now r.3 c.in-Ok-passed_to.component (rows_of_list argument_row c.in-Ok-passed_to.passed.items) r.4 r.6.0 r.7 p.0 p.1).1

pub put_instance-requires-clause-room : goal.put_instance-requires-clause-room
put_instance-requires-clause-room c =
    let r = c.requires.room in
    let p = c.in-Ok-passed_to.ensures r.0 r.3 r.4.names r.5 in
    let x = (instance_room c.args.self.now r.0 r.1 r.2 c.args.part.bytes.now r.3 c.in-Ok-passed_to.component (rows_of_list argument_row c.in-Ok-passed_to.passed.items) r.4 r.6.0 r.7 p.0 p.1).0 in
    (x.items, x.written, x.light)

pub returns-in-Ok-put_instance : goal.returns-in-Ok-put_instance
returns-in-Ok-put_instance c =
    λ ls spent n bs g e h k.
    let p = c.in-Ok-passed_to.ensures ls bs g.names e in
    let o = c.in-Ok-put_instance.ensures in
    instance_added c.args.self.now c.put_instance.new.self ls spent n (word_of c.args.name) (word_of c.args.part) bs c.in-Ok-passed_to.component (rows_of_list argument_row c.in-Ok-passed_to.passed.items) g h.0 k
    (c.in-Ok.ensures ls g.names) p.0 p.1 (λ xs w. o.written xs w) o.named o.components o.instances
