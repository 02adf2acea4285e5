use Rattle.std.proofs.Common.{◌≢◌, ◌∷◌, [], ◌++◌, length, sym, ◌∙◌, ap, subst, OnOk}
use Rattle.comp_model.specs.Payloads.{framed, name_payload, name_of_section}
use Rattle.comp_wire.specs.declared.sections.SectionKind.TheVariants as section_kinds
use Rattle.comp_wire.specs.Sections.{item}
use Rattle.comp_wire.specs.NameSection.{maps_of}
use Rattle.comp_wire.specs.Sink.{Holds}
use Rattle.comp_wire.proofs.Component.{payload_items}
use Rattle.comp_wire.proofs.sink.ComponentSink.names.Goals as goal

pub returns : goal.returns
returns c = λ items h.
    let payload = name_payload (maps_of c.args.names.now) in
    let some : length payload ≢ 0 = λ e. c.if-len-eq0.false (c.len.ensures ∙ sym c.as_slice.ensures.len ∙ ap length (c.as_slice.ensures.value ∙ c.in_ok-payload.ensures) ∙ e) in
    let same = ap (λ p. item section_kinds.Custom (framed name_of_section ++ p) ∷ []) (c.as_slice.ensures.value ∙ c.in_ok-payload.ensures) ∙ sym (payload_items payload some) in
    subst (λ is. OnOk c.put_custom.result (Holds c.put_custom.new.self (items ++ is))) same (c.put_custom.ensures items h)
