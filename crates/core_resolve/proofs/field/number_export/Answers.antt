use Rattle.std.proofs.Common.{◌≡◌, sym, ◌∙◌, ap}
use Rattle.comp_model.specs.CoreModules.{export_field}
use Rattle.core_model.specs.Items.{ids_in}
use Rattle.core_model.specs.Resolved.{numbered}
use Rattle.core_syntax.specs.Ids.{reference_of}
use Rattle.core_syntax.specs.Fields.{space_of}
use Rattle.core_names.proofs.Tags.{no-tags}
use Rattle.core_resolve.proofs.field.number_export.Goals as goal
use Rattle.core_resolve.proofs.field.number_export.Goals.{in-Func, in-Table, in-Memory, in-Global, in-Tag}

pub returns : goal.returns
returns g c =
    let item : reference_of c.match-export.export ≡ numbered (ids_in (space_of c.args.export.now.kind) g.source) (reference_of c.args.export.now.item) =
    elim c.match-export.branch [
      | in-Func w ↦ ap reference_of w.export-is ∙ w.numbered-export.ensures ∙ ap (λ ids. numbered ids (reference_of c.args.export.now.item)) (c.requires.funcs ∙ ap (λ k. ids_in (space_of k) g.source) (sym w.in-Func.is))
      | in-Table w ↦ ap reference_of w.export-is ∙ w.numbered-export-in-Table.ensures ∙ ap (λ ids. numbered ids (reference_of c.args.export.now.item)) (c.requires.tables ∙ ap (λ k. ids_in (space_of k) g.source) (sym w.in-Table.is))
      | in-Memory w ↦ ap reference_of w.export-is ∙ w.numbered-export-in-Memory.ensures ∙ ap (λ ids. numbered ids (reference_of c.args.export.now.item)) (c.requires.memories ∙ ap (λ k. ids_in (space_of k) g.source) (sym w.in-Memory.is))
      | in-Global w ↦ ap reference_of w.export-is ∙ w.numbered-export-in-Global.ensures ∙ ap (λ ids. numbered ids (reference_of c.args.export.now.item)) (c.requires.globals ∙ ap (λ k. ids_in (space_of k) g.source) (sym w.in-Global.is))
      | in-Tag w ↦ ap reference_of w.export-is ∙ w.numbered_alone-export.ensures ∙ ap (λ ids. numbered ids (reference_of c.args.export.now.item)) (sym (no-tags g.source) ∙ ap (λ k. ids_in (space_of k) g.source) (sym w.in-Tag.is))
    ] in
    ap (export_field c.args.export.now.span.offset c.args.export.now.name.now (space_of c.args.export.now.kind)) item
