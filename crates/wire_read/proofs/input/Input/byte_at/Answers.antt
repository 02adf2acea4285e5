use Rattle.std.proofs.Common.{◌∙◌, ◌+◌, ap, arith}
use Rattle.wire_read.specs.Place.{Place, rest}
use Rattle.wire_read.specs.RowAt.{byte_ahead}
use Rattle.wire_read.proofs.Places.{ahead_there, ahead_behind, any_default}
use Rattle.wire_read.proofs.input.Input.byte_at.Goals as goal

pub returns-then-ahead-self : goal.returns-then-ahead-self
returns-then-ahead-self c =
    let p : Place = record { bytes = c.self.inside.bytes.now; at = c.self.inside.at; end = c.self.inside.end } in
    ahead_there p c.args.ahead _ c.self.invariant c.if-ahead-self.true (any_default p.bytes (p.at + c.args.ahead) 0 _ (omega (arith, c.self.invariant.0, c.self.invariant.1, c.if-ahead-self.true)))
    ∙ ap (λ q. byte_ahead (rest q) c.args.ahead) c.self.view_is

pub returns-else-ahead-self : goal.returns-else-ahead-self
returns-else-ahead-self c =
    let p : Place = record { bytes = c.self.inside.bytes.now; at = c.self.inside.at; end = c.self.inside.end } in
    ahead_behind p c.args.ahead c.self.invariant c.if-ahead-self.false ∙ ap (λ q. byte_ahead (rest q) c.args.ahead) c.self.view_is
