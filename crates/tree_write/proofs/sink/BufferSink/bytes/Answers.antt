use Rattle.std.proofs.Common.{ℕ, List, refl, ◌++◌, ◌∙◌, ap, arith, ◌≡◌, ◌+◌, ◌-◌, take, drop, ◌≤◌, length}
use borrow.Rule.Slice.PartMut.{put_mid}
use Rattle.tree_write.specs.Kept.{buffer_kept}
use Rattle.tree_write.proofs.Puts.{buffer_short, buffer_passed, buffer_put, overwritten, same_size, lent_back}
use Rattle.tree_write.proofs.sink.BufferSink.bytes.Goals as goal

pub returns-then-self-len : goal.returns-then-self-len
returns-then-self-len c = let b = c.args.self.now in buffer_passed b.bytes.items b.at b.full c.args.bytes.now (omega (arith, c.if-self-len.true, c.len.ensures, b.bytes.ok.0))

pub returns-then-self-bytes : goal.returns-then-self-bytes
returns-then-self-bytes c = let b = c.args.self.now in buffer_short b.bytes.items b.at b.full c.args.bytes.now (omega (arith, c.if-self-bytes.true))

pub returns : goal.returns
returns c =
    let b = c.args.self.now in
    let items = b.bytes.items in
    let xs = c.args.bytes.now in
    let less = b.at - length xs in
    let n = b.at - less in
    let inside : b.at ≤ length items = omega (arith, c.if-self-len.false, c.len.ensures, b.bytes.ok.0) in
    let fits : b.at - length xs + length xs ≡ b.at = omega (arith, c.if-self-bytes.false) in
    let whole : List ℕ → List ℕ → List ℕ = λ r ys. take b.bytes.len (put_mid less n r ys ++ drop (length (put_mid less n r ys)) items) in
    let size = same_size items xs b.at less n inside fits refl in
    ap (λ q. buffer_kept q less b.full) (ap (λ r. whole r c.copy_from_slice.new.self) c.deref_mut.ensures.value ∙ ap (whole items) c.copy_from_slice.ensures.after ∙ lent_back items (put_mid less n items xs) b.bytes.len b.bytes.ok.0 size)
    ∙ buffer_put items (put_mid less n items xs) b.at less b.full xs inside size fits (overwritten items xs b.at less n inside fits refl)
