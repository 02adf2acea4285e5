use Rattle.std.proofs.Common.{refl}
use Rattle.comp_model.specs.Payloads.{framed}
use Rattle.comp_wire.specs.declared.sections.SectionKind.TheVariants as section_kinds
use Rattle.comp_wire.specs.Sections.{item}
use Rattle.std.proofs.Common.{◌++◌}
use Rattle.comp_wire.proofs.Steps.{added}
use Rattle.comp_wire.proofs.sink.ComponentSink.put_custom.Goals as goal

pub returns : goal.returns
returns c = λ items h. added c.open.new.self _ section_kinds.Custom items (item section_kinds.Custom (framed c.args.name.now ++ c.args.payload.now)) (c.in_ok-open.ensures.takes items h) refl refl refl refl c.in_ok-append_custom.ensures
