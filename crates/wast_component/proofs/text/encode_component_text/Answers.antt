use Rattle.std.proofs.Common.{Ok, Err}
use Rattle.wast_component.specs.declared.component.Written.{Written}
use Rattle.wast_component.proofs.Exact.{exact, complete}
use Rattle.wast_component.proofs.text.encode_component_text.Goals as goal

pub returns-in-Err-clause-exact : goal.returns-in-Err-clause-exact
returns-in-Err-clause-exact c = exact c.args.text.now c.args.legacy (λ (w : Written). w.bytes.items) (Err c.in-Err.refusal) tt c.in-Err.ensures.refused

pub returns-in-Err-clause-complete : goal.returns-in-Err-clause-complete
returns-in-Err-clause-complete c = complete c.args.text.now c.args.legacy {X = Written} (Err c.in-Err.refusal) c.in-Err.ensures.refused

pub returns-clause-exact : goal.returns-clause-exact
returns-clause-exact c = let e = c.in-Ok.ensures.encoding in exact c.args.text.now c.args.legacy (λ (w : Written). w.bytes.items) (Ok c.in-Ok.written) (e.0, e.2) tt
