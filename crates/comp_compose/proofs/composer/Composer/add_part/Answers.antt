use Rattle.std.proofs.Common.{List, ◌++◌, ◌∷◌, [], sym, subst, ◌<◌, ◌+◌, ◌^◌, length}
use Rattle.comp_wire.specs.declared.sections.SectionKind.TheVariants as section_kinds
use Rattle.comp_wire.specs.Sections.{Item, item}
use Rattle.comp_wire.specs.Sink.{bulk}
use Rattle.plan_lines.specs.Shown.{word_of}
use Rattle.comp_compose.specs.Written.{Writes}
use Rattle.comp_compose.proofs.Adding.{part_room, part_added}
use Rattle.comp_compose.proofs.composer.Composer.add_part.Goals as goal

pub put_component-requires-clause-number : goal.put_component-requires-clause-number
put_component-requires-clause-number c =
    let r = c.requires in
    let p = c.in-Ok-part_bytes.ensures in
    (part_room c.args.self.now r.0 r.1 r.2 c.args.digits.bytes.now c.in-Ok-part_bytes.bytes.items p.0 r.3 r.4 r.5 p.1 p.2).0

pub put_component-requires-clause-room : goal.put_component-requires-clause-room
put_component-requires-clause-room c =
    let r = c.requires in
    let p = c.in-Ok-part_bytes.ensures in
    let x = (part_room c.args.self.now r.0 r.1 r.2 c.args.digits.bytes.now c.in-Ok-part_bytes.bytes.items p.0 r.3 r.4 r.5 p.1 p.2).1 in
    (x.0, x.1, subst (λ bs. bulk x.0 + (length bs + 1) < 2 ^ 32) (sym c.as_slice.ensures.value) x.2)

pub returns-in-Ok-put_component : goal.returns-in-Ok-put_component
returns-in-Ok-put_component c =
    λ ls spent n g h k.
    let p = c.in-Ok-part_bytes.ensures in
    let o = c.in-Ok-put_component.ensures in
    part_added c.args.self.now c.put_component.new.self ls spent n (word_of c.args.name) (word_of c.args.digits) c.in-Ok-part_bytes.bytes.items p.0 g h (c.in-Ok.ensures ls g.names) p.1 p.2
    (subst (λ bs. (xs : List Item) → Writes c.args.self.now.writer xs → Writes c.put_component.new.self.writer (xs ++ item section_kinds.Component bs ∷ [])) c.as_slice.ensures.value (λ xs w. o.written xs w)) o.named o.components o.instances
