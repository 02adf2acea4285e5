use Rattle.std.proofs.Common.{◌∙◌, sym}
use Rattle.core_syntax.specs.Fields.{fields_of}
use Rattle.wast_component.proofs.Forms.{form_seen}
use Rattle.wast_component.proofs.module.ModuleCoreSource.first_uncovered.Goals as goal

pub returns-in-Form : goal.returns-in-Form
returns-in-Form c = form_seen (fields_of c.args.self.now.fields.now) c.in-Some.refusal c.in-Form.form (sym c.in-Some.is ∙ c.core_uncovered.ensures) c.in-Form.is
