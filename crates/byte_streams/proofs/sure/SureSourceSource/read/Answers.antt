use Rattle.std.proofs.Common.{◌≡◌, ◌≤◌, ◌-◌, ◌++◌, ◌+◌, drop, take, length, arith, ap, sym, ◌∙◌, length-append, length-drop}
use Rattle.byte_streams.proofs.Transfers.{copied, at_end}
use Rattle.byte_streams.proofs.sure.SureSourceSource.read.Goals as goal

pub returns-clause-bytes : goal.returns-clause-bytes
returns-clause-bytes c =
    let bytes = c.self.inside.bytes.items in
    let at = c.self.inside.at in
    let n = c.min-count.result in
    let room : n ≤ length bytes - at = omega (arith, c.min-count.ensures, c.len.ensures, c.self.inside.bytes.ok) in (
      sym c.self.view_is ∙ copied bytes c.copy_from_slice.new.self c.args.buf.now at n room (c.copy_from_slice.ensures.after ∙ ap (λ b. take (at + n - at) (drop at b)) c.deref.ensures.value),
      λ zero some. at_end bytes at n (
          let all : length (c.copy_from_slice.new.self ++ drop n c.args.buf.now) ≡ length c.copy_from_slice.new.self + (length c.args.buf.now - n) = length-append c.copy_from_slice.new.self (drop n c.args.buf.now) ∙ ap (λ k. length c.copy_from_slice.new.self + k) (length-drop n c.args.buf.now) in
          omega (arith, all, c.copy_from_slice.ensures.len, c.min-count.ensures, c.len.ensures, c.self.inside.bytes.ok)
          ),
    )
