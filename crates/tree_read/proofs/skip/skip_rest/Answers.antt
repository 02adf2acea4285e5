use Rattle.std.proofs.Common.{◌≡◌, ◌+◌, ◌<◌, true, false, arith, ap, sym, subst, ◌∙◌}
use Rattle.std.specs.Bool.{MatchBool}
use Rattle.core_parts.specs.Over.{OneOver, stops}
use Rattle.core_parts.proofs.OneByOne.{over_goes, over_falls, over_few, over_stuck, over_done}
use Rattle.wast_grammar.specs.Classes.{among}
use Rattle.wast_grammar.specs.Grammar.{group_ends}
use Rattle.wast_grammar.specs.Read.{left_of}
use Rattle.wast_grammar.specs.Skips.{bracket}
use Rattle.wast_grammar.specs.Stand.{Stand, class_at}
use Rattle.wast_grammar.proofs.Skipping.{skip_rest_is}
use Rattle.wast_parser.specs.View.{stand_of}
use Rattle.tree_read.proofs.skip.skip_rest.Goals as goal

pub tokens-init : goal.tokens-init
tokens-init c = record { gives = sym (skip_rest_is c.args.reader.now); few = omega arith }

pub tokens-smaller : goal.tokens-smaller
tokens-smaller c =
    let over : OneOver c.tokens.count c.in-Some.behind c.tokens.reader = subst (OneOver c.tokens.count c.in-Some.behind) (c.cursor.ensures.place ∙ c.parser.ensures) c.in-Some.ensures in
    let l : left_of c.pass.new.self < left_of c.tokens.reader = subst (λ r. left_of r < left_of c.tokens.reader) (sym c.pass.ensures) (over_falls over) in l

pub tokens-preserved : goal.tokens-preserved
tokens-preserved c =
    let p = c.tokens.invariant in
    let over : OneOver c.tokens.count c.in-Some.behind (stand_of c.cursor.result) = c.in-Some.ensures in
    let at : c.pass.new.self.at ≡ c.tokens.reader.at + 1 = ap (λ (x : Stand). x.at) c.pass.ensures in
    record {
      gives = over_goes c.tokens.count c.in-Some.behind c.tokens.reader (stand_of c.cursor.result) c.pass.new.self _ (c.cursor.ensures.place ∙ c.parser.ensures) over c.pass.ensures p.gives;
      few = omega (arith, at, over_few over, p.few);
    }

pub returns-in-None : goal.returns-in-None
returns-in-None c =
    sym c.tokens.invariant.gives
    ∙ over_stuck c.tokens.count c.tokens.reader (subst (λ (x : Stand). stops c.tokens.count (bracket (class_at x)) ≡ true) (c.cursor.ensures.place ∙ c.parser.ensures) c.in-None.ensures)
    (subst (λ b. MatchBool b ((c.tokens.count ≡ 0) × (among group_ends (class_at c.tokens.reader) ≡ true)) (c.tokens.count ≡ 0 → among group_ends (class_at c.tokens.reader) ≡ false)) c.tokens-test.true c.is_done.ensures)

pub returns : goal.returns
returns c =
    let d = subst (λ b. MatchBool b ((c.tokens.count ≡ 0) × (among group_ends (class_at c.tokens.reader) ≡ true)) (c.tokens.count ≡ 0 → among group_ends (class_at c.tokens.reader) ≡ false)) c.tokens-test.false c.is_done.ensures in
    sym c.tokens.invariant.gives ∙ over_done c.tokens.count c.tokens.reader d.0 d.1
