use Rattle.std.proofs.Common.{◌++◌, ap, ◌∙◌}
use Rattle.std.proofs.lemmas.Result.{on_ok_weaker}
use Rattle.comp_wire.specs.Sections.{groups, sections}
use Rattle.comp_compose.proofs.Runs.{behind_preamble}
use Rattle.comp_compose.proofs.writer.append_run.Goals as goal

pub behind_preamble-requires : goal.behind_preamble-requires
behind_preamble-requires c =
    let held = c.requires.held in
    (behind_preamble c.as_slice.result.now (sections (groups held.0)) (c.as_slice.ensures.value ∙ c.in_ok-bytes.ensures.bytes held.0 held.1)).0

pub returns : goal.returns
returns c =
    λ items h.
    let rest = behind_preamble c.as_slice.result.now (sections (groups items)) (c.as_slice.ensures.value ∙ c.in_ok-bytes.ensures.bytes items h) in
    on_ok_weaker c.append.result (λ e. e ∙ ap (λ x. c.args.out.now.items ++ x) (c.behind_preamble.ensures ∙ rest.1)) c.append.ensures
