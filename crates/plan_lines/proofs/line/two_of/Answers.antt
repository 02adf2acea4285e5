use Rattle.std.proofs.Common.{◌∷◌, ap, ◌∙◌}
use Rattle.plan_lines.specs.Words.{pieces}
use Rattle.plan_lines.specs.Shown.{word_of, rest_of, test_of}
use Rattle.plan_lines.proofs.Read.{no_third}
use Rattle.plan_lines.proofs.line.two_of.Goals as goal

pub returns-in-Some-more-clause-words : goal.returns-in-Some-more-clause-words
returns-in-Some-more-clause-words c =
    let v = word_of c.cut.result.0 in
    let w = word_of c.cut-in-Some.result.0 in
    let sep = c.args.value in
    no_third (test_of c.args.first_kind) (test_of c.args.second_kind) sep v w (word_of c.in-Some-more.field-0) (pieces sep (word_of c.args.word))
    (c.cut.ensures.pieces ∙ ap (λ x. v ∷ rest_of sep x) c.in-Some.is ∙ ap (λ x. v ∷ x) (ap (λ x. pieces sep (word_of x)) c.in-Some.rest-is ∙ c.cut-in-Some.ensures.pieces ∙ ap (λ x. w ∷ rest_of sep x) c.in-Some-more.is))
