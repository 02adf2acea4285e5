use Rattle.std.proofs.Common.{◌≡◌, ◌+◌, ◌*◌, ◌^◌, length, ap, arith}
use Rattle.comp_model.specs.Leb.{uleb}
use Rattle.tree_write.proofs.SpaceSums.{less_bits}
use Rattle.tree_write.proofs.name_lengths.items_length.Goals as goal

pub loop-high-preserved : goal.loop-high-preserved
loop-high-preserved c = less_bits c.loop-high.high c.loop-high.low c.loop-high.bytes c.saturating_add-bytes.result _ c.loop-high-test.true c.saturating_add-bytes.ensures c.loop-high.invariant

pub returns : goal.returns
returns c =
    let none : c.loop-high.high * 2 ^ 64 + c.loop-high.low ≡ c.loop-high.low = omega (arith, c.loop-high-test.false) in
    let same = ap (λ k. length (uleb k)) none in
    omega (arith, same, c.loop-high.invariant, c.uleb_length.ensures.bytes, c.saturating_add.ensures)
