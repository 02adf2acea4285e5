use Rattle.std.proofs.Common.{◌≡◌, true, ◌++◌, sym, subst, ap, ◌∙◌, arith}
use Rattle.std.proofs.lemmas.List.{drop_all}
use Rattle.std.proofs.lemmas.Str.{IsUtf8-from_is_utf8}
use Rattle.std.specs.Str.{is_utf8}
use Rattle.comp_tree.specs.Model.{joined}
use Rattle.typed_nodes.proofs.Loops.{nothing_behind}
use Rattle.typed_nodes.proofs.taken.text_of_pieces.Goals as goal

pub unreachable-requires : goal.unreachable-requires
unreachable-requires c =
    let whole : c.in_ok-placed.placed.now ≡ joined c.args.pieces.now =
    c.in_ok-placed.ensures ∙ c.as_slice.ensures.value ∙ sym (nothing_behind c.pieces.bytes.items)
    ∙ ap (λ q. c.pieces.bytes.items ++ joined q) (sym (drop_all c.pieces.piece-index c.args.pieces.now (omega (arith, c.pieces-test.false)))) ∙ c.pieces.invariant in
    c.in-Err.ensures.cases.0 (IsUtf8-from_is_utf8 _ (subst (λ q. is_utf8 q ≡ true) (sym whole) c.requires))
