use Rattle.std.proofs.Common.{◌+◌, refl}
use Rattle.plan_lines.proofs.Splits.{there_behind}
use Rattle.plan_lines.proofs.words.cut.Goals as goal

pub returns-in-Some-clause-pieces : goal.returns-in-Some-clause-pieces
returns-in-Some-clause-pieces c =
    let e = c.in-Some.end in
    let at = c.args.word.at in
    let h = c.in-Some.ensures in
    there_behind c.args.value c.args.word.bytes.now at e (at + e + 1) (e + 1) refl refl h.0.high h.0.before h.1
