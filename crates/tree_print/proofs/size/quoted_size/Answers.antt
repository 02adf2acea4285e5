use Rattle.std.proofs.Common.{◌≡◌, ◌+◌, length, subst, arith}
use Rattle.std.proofs.lemmas.List.{drop_all}
use Rattle.print_table.specs.Tokens.{escaped}
use Rattle.tree_print.specs.Taken.{capped}
use Rattle.tree_print.proofs.Sizes.{quoted_length}
use Rattle.tree_print.proofs.size.quoted_size.Goals as goal

pub returns : goal.returns
returns c =
    let all = c.args.bytes.now in
    let kept : capped (c.loop-byte.size + 0) ≡ capped (2 + length (escaped all)) =
    subst (λ bs. capped (c.loop-byte.size + length (escaped bs)) ≡ capped (2 + length (escaped all))) (drop_all c.loop-byte.byte-index all c.loop-byte-test.false) c.loop-byte.invariant.0 in
    omega (arith, kept, c.loop-byte.invariant.1, quoted_length all)
