use Rattle.std.proofs.Common.{◌≡◌, length, map, arith}
use Rattle.std.proofs.lemmas.Bool.Decides.{nat_tests}
use Rattle.std.proofs.lemmas.List.{length-map}
use Rattle.core_model.specs.Types.{resolved_value}
use Rattle.core_syntax.specs.Fields.{param_of}
use Rattle.core_checks.proofs.Differ.{differ}
use Rattle.core_checks.proofs.signatures.are_same_params.Goals as goal

pub returns-then-a-b : goal.returns-then-a-b
returns-then-a-b c =
    differ (map (λ p. resolved_value c.args.types.now p.value) (map param_of c.args.a.now)) (map (λ p. resolved_value c.args.types.now p.value) (map param_of c.args.b.now))
    (λ e. let a = length-map (map param_of c.args.a.now) (λ p. resolved_value c.args.types.now p.value) in let b = length-map (map param_of c.args.b.now) (λ p. resolved_value c.args.types.now p.value) in
    let d : length c.args.a.now ≡ length c.args.b.now = omega (arith, a, b, e, length-map c.args.a.now param_of, length-map c.args.b.now param_of) in
    grind (arith, nat_tests, d, c.if-a-b.true))
