use Rattle.std.proofs.Common.{◌≡◌, sym, ◌∙◌, subst, Some}
use Rattle.wast_refusals.specs.Kinds.{kind_name}
use Rattle.wast_c.specs.Buffer.{IsHandedOut}
use Rattle.wast_c.proofs.Names.{one_name}
use Rattle.wast_c.proofs.refusal.wast_kind_name.Goals as goal

pub returns-in-Some-kind_name-clause-named : goal.returns-in-Some-kind_name-clause-named
returns-in-Some-kind_name-clause-named c = λ name has.
    let told : Some c.in-Some-kind_name.name.now ≡ kind_name c.in-Some.kind = c.in-Some-kind_name.ensures in
    let same : Some c.in-Some-kind_name.name.now ≡ Some name = told ∙ one_name c.in-Some.kind has.0 (c.in-Some.ensures ∙ sym has.1) ∙ has.2 in
    let is : c.as_bytes.result.now ≡ name = c.as_bytes.ensures.value ∙ cc in
    subst (λ n. IsHandedOut n c.hand_out.result c.args.out.now c.hand_out.new.out c.hand_out.new.needed) is c.hand_out.ensures

pub returns-in-Some-kind_name-clause-nameless : goal.returns-in-Some-kind_name-clause-nameless
returns-in-Some-kind_name-clause-nameless c = λ no. absurd (no c.in-Some-kind_name.name.now (c.in-Some.kind, c.in-Some.ensures, sym c.in-Some-kind_name.ensures))
