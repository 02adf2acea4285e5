use Rattle.std.proofs.Common.{List, ◌++◌, ◌∷◌, [], sym, subst, ◌<◌, ◌+◌, ◌^◌, length}
use Rattle.comp_wire.specs.Sections.{Item}
use Rattle.comp_wire.specs.Sink.{bulk}
use Rattle.comp_wire.specs.Spelled.{item_of_def, FitsDefinition}
use Rattle.plan_lines.specs.Shown.{word_of}
use Rattle.comp_compose.specs.Passed.{export_def}
use Rattle.comp_compose.specs.Written.{Writes}
use Rattle.comp_compose.proofs.Adding.{export_room, export_added}
use Rattle.comp_compose.proofs.composer.Composer.add_export.Goals as goal

pub put_export-requires-clause-number : goal.put_export-requires-clause-number
put_export-requires-clause-number c =
    let r = c.requires in
    (export_room c.args.self.now r.0 r.1 r.2 (word_of c.args.text) c.args.instance.bytes.now c.in-Ok.index r.3 r.4.0 r.4.1 r.5 (c.in-Ok.ensures r.0 r.3.names)).0.instances

pub put_export-requires-clause-fits : goal.put_export-requires-clause-fits
put_export-requires-clause-fits c =
    let r = c.requires in
    subst (λ x. FitsDefinition (export_def x c.in-Ok.index)) (sym c.text_of.ensures)
    (export_room c.args.self.now r.0 r.1 r.2 (word_of c.args.text) c.args.instance.bytes.now c.in-Ok.index r.3 r.4.0 r.4.1 r.5 (c.in-Ok.ensures r.0 r.3.names)).1

pub put_export-requires-clause-room : goal.put_export-requires-clause-room
put_export-requires-clause-room c =
    let r = c.requires in
    let x = (export_room c.args.self.now r.0 r.1 r.2 (word_of c.args.text) c.args.instance.bytes.now c.in-Ok.index r.3 r.4.0 r.4.1 r.5 (c.in-Ok.ensures r.0 r.3.names)).0 in
    (x.items, x.written, subst (λ y. bulk x.items + (length (item_of_def (export_def y c.in-Ok.index)).content + 1) < 2 ^ 32) (sym c.text_of.ensures) x.light)

pub returns-in-Ok-put_export : goal.returns-in-Ok-put_export
returns-in-Ok-put_export c =
    λ ls spent n g h k.
    let o = c.in-Ok-put_export.ensures in
    export_added c.args.self.now c.put_export.new.self ls spent n (word_of c.args.text) (word_of c.args.instance) c.in-Ok.index g h.0 h.1 k (c.in-Ok.ensures ls g.names)
    (subst (λ x. (xs : List Item) → Writes c.args.self.now.writer xs → Writes c.put_export.new.self.writer (xs ++ item_of_def (export_def x c.in-Ok.index) ∷ [])) c.text_of.ensures (λ xs w. o.written xs w)) o.named o.components o.instances
