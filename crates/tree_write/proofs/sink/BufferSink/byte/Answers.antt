use Rattle.std.proofs.Common.{arith}
use Rattle.tree_write.proofs.Puts.{byte_lost, byte_put}
use Rattle.tree_write.proofs.sink.BufferSink.byte.Goals as goal

pub returns-then-at-len : goal.returns-then-at-len
returns-then-at-len c = let b = c.args.self.now in byte_lost b.bytes.items b.at c.place_before-at.result b.full c.args.byte c.place_before-at.ensures.some (omega (arith, c.if-at-len.true, c.len.ensures, b.bytes.ok.0))

pub returns : goal.returns
returns c =
    let b = c.args.self.now in
    byte_put b.bytes.items b.at c.place_before-at.result b.full c.args.byte c.place_before-at.ensures.none c.place_before-at.ensures.some (omega (arith, c.len.type_inv, c.len.ensures, b.bytes.ok.0)) (omega (arith, c.if-at-len.false, c.len.ensures, b.bytes.ok.0))
