use Rattle.std.proofs.Common.{ap, sym, subst}
use Rattle.comp_model.specs.CoreModules.{Naming}
use Rattle.core_syntax.specs.Fields.{fields_of}
use Rattle.core_write.specs.Module.{FitsModule}
use Rattle.wast_tokens.specs.declared.error.Error.{Error}
use Rattle.wast_component.proofs.Modules.{same_naming}
use Rattle.wast_component.proofs.coded.coded_module.Goals as goal

pub encode_module-requires-clause-fits : goal.encode_module-requires-clause-fits
encode_module-requires-clause-fits c = subst (λ (n : Naming). FitsModule n (fields_of c.args.parsed.fields.now)) (sym (same_naming c.args.parsed.id c.args.parsed.label c.annotation-name.result c.annotation-name.ensures)) c.requires.fits

pub unreachable-requires : goal.unreachable-requires
unreachable-requires c = c.in_default.not-NoMemory (ap (λ (e : Error). e.kind) c.in-Err.ensures.refused)
