use Rattle.std.proofs.Common.{subst, sym, ℕ, List, IfOk, IfErr}
use Rattle.wast_component.specs.Answer.{IsValid, Encodes, TextRefuses, EncoderRefuses}
use Rattle.wast_c.specs.declared.refusal.WastRefusal.{WastRefusal}
use Rattle.wast_c.specs.Answer.{TextAnswers}
use Rattle.wast_c.specs.Status.{legacy}
use Rattle.wast_c.proofs.Answers.{answered, unasked, exact, complete}
use Rattle.wast_c.proofs.encode.wast_encode.Goals as goal

pub returns-in-Ok-clause-answers : goal.returns-in-Ok-clause-answers
returns-in-Ok-clause-answers c =
    let text = c.in-Ok.ensures.ok in
    subst (λ (w : WastRefusal). TextAnswers (Encodes c.args.text.now (legacy c.args.flags)) c.args.text.now c.args.flags c.args.out.now c.args.needed.now w c.answer.result c.answer.new.out c.answer.new.needed c.answer.new.why) text.3
    (answered (Encodes c.args.text.now (legacy c.args.flags)) c.args.text.now c.args.flags c.args.out.now c.args.needed.now c.characters_of.new.why (λ v. v.items) c.component_binary.result _ _ _ _ text.2 text.1
    (subst (λ (t : List ℕ). IfOk c.component_binary.result (λ v. Encodes t (legacy c.args.flags) v.items)) text.0 c.component_binary.ensures.encodes)
    (subst (λ (t : List ℕ). IfErr c.component_binary.result (λ e. EncoderRefuses t (legacy c.args.flags) e.kind e.offset)) text.0 c.component_binary.ensures.refused)
    c.answer.ensures.made
    c.answer.ensures.told)

pub returns-in-Err-clause-answers : goal.returns-in-Err-clause-answers
returns-in-Err-clause-answers c = unasked (Encodes c.args.text.now (legacy c.args.flags)) c.args.text.now c.args.flags c.args.out.now c.args.needed.now c.args.why.now c.in-Err.status c.characters_of.new.why c.in-Err.ensures.err

pub returns-in-Ok-clause-exact : goal.returns-in-Ok-clause-exact
returns-in-Ok-clause-exact c = λ kind offset small utf8 cause.
    exact c.component_binary.result kind offset c.answer.result c.characters_of.new.why c.answer.new.why _ _
    (c.component_binary.ensures.exact kind offset (subst (λ (t : List ℕ). TextRefuses t (legacy c.args.flags) kind offset) (sym c.in-Ok.ensures.ok.0) cause)) c.answer.ensures.told

pub returns-in-Ok-clause-complete : goal.returns-in-Ok-clause-complete
returns-in-Ok-clause-complete c = λ component small utf8 valid.
    complete (λ v. v.items) c.component_binary.result c.answer.result c.args.out.now c.answer.new.out c.answer.new.needed c.characters_of.new.why c.answer.new.why _ _ _
    (c.component_binary.ensures.complete component (subst (λ (t : List ℕ). IsValid t (legacy c.args.flags) component) (sym c.in-Ok.ensures.ok.0) valid)) c.answer.ensures.made c.answer.ensures.told
