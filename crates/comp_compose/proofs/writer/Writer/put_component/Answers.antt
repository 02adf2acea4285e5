use Rattle.std.proofs.Common.{[], ◌++◌, ◌∷◌, ◌+◌, ◌<◌, ◌^◌, List, arith, ap, sym, subst, ◌∙◌}
use Rattle.std.proofs.lemmas.Result.{on_ok_weaker}
use Rattle.comp_model.specs.Payloads.{framed}
use Rattle.comp_wire.specs.Sections.{Item}
use Rattle.comp_wire.specs.Sink.{Holds, IsShort, bulk}
use Rattle.comp_compose.proofs.Runs.{can_close, part_written}
use Rattle.comp_compose.proofs.writer.Writer.put_component.Goals as goal

pub append_run-requires-clause-short : goal.append_run-requires-clause-short
append_run-requires-clause-short c =
    let r = c.requires.room in
    let light : bulk r.0 < 2 ^ 32 = omega (arith, r.2) in
    subst IsShort (sym c.replace-run.ensures.value) (can_close c.args.self.now r.0 r.1 light)

pub append_run-requires-clause-held : goal.append_run-requires-clause-held
append_run-requires-clause-held c = let w = c.requires.room.1 in (w.back, subst (λ x. Holds x w.back) (sym c.replace-run.ensures.value) w.held)

pub returns : goal.returns
returns c =
    λ items w.
    let sections_in = c.in_ok-append_run.ensures w.back (subst (λ x. Holds x w.back) (sym c.replace-run.ensures.value) w.held) in
    let empty = subst (λ x. Holds x []) (sym c.replace-run.ensures.after) c.in_ok-new.ensures.empty in
    on_ok_weaker c.append_component.result (λ e. part_written c.args.self.now items w _ c.args.bytes.now (e ∙ ap (λ x. x ++ 4 ∷ framed c.args.bytes.now) sections_in) empty) c.append_component.ensures
