use Rattle.std.proofs.Common.{◌≡◌, length, map, arith}
use Rattle.std.proofs.lemmas.Bool.Decides.{nat_tests}
use Rattle.std.proofs.lemmas.List.{length-map}
use Rattle.core_model.specs.Types.{resolved_value}
use Rattle.core_syntax.specs.Fields.{value_of}
use Rattle.core_checks.proofs.Differ.{differ}
use Rattle.core_checks.proofs.signatures.are_same_results.Goals as goal

pub returns-then-a-b : goal.returns-then-a-b
returns-then-a-b c =
    differ (map (resolved_value c.args.types.now) (map value_of c.args.a.now)) (map (resolved_value c.args.types.now) (map value_of c.args.b.now))
    (λ e. let a = length-map (map value_of c.args.a.now) (resolved_value c.args.types.now) in let b = length-map (map value_of c.args.b.now) (resolved_value c.args.types.now) in
    let d : length c.args.a.now ≡ length c.args.b.now = omega (arith, a, b, e, length-map c.args.a.now value_of, length-map c.args.b.now value_of) in
    grind (arith, nat_tests, d, c.if-a-b.true))
