use Rattle.std.proofs.Common.{◌≡◌, ◌+◌, true, false, arith, refl, sym, ap, subst, ◌∙◌}
use Rattle.std.specs.Bool.{MatchBool}
use Rattle.wast_grammar.specs.Classes.{among}
use Rattle.wast_grammar.specs.Stand.{Stand, class_at, moved}
use Rattle.wast_grammar.specs.Grammar.{group_ends}
use Rattle.wast_grammar.proofs.Skipping.{skip_rest_is}
use Rattle.wast_parser.specs.View.{stand_of}
use Rattle.core_parts.proofs.OneByOne.{goes_over, over_goes, over_few, over_fails, over_done}
use Rattle.core_parts.proofs.unread.skip_rest.Goals as goal

pub tokens-init : goal.tokens-init
tokens-init c = record { gives = sym (skip_rest_is c.args.parser.now); few = omega arith; text = refl; forward = omega arith }

pub tokens-preserved : goal.tokens-preserved
tokens-preserved c =
    let p = c.tokens.invariant in
    let over = c.in-Some.ensures.over in
    let z : c.advance.new.self ≡ moved c.tokens.parser 1 = goes_over c.tokens.parser (stand_of c.cursor.result) (stand_of c.in-Some.behind) c.advance.new.self c.cursor.ensures.place c.in-Some.ensures.next c.advance.ensures.place in
    let at : c.advance.new.self.at ≡ c.tokens.parser.at + 1 = ap (λ (x : Stand). x.at) z in
    record {
      gives = over_goes c.tokens.count c.in-Some.left c.tokens.parser (stand_of c.cursor.result) c.advance.new.self _ c.cursor.ensures.place over z p.gives;
      few = omega (arith, at, over_few over, p.few);
      text = ap (λ (x : Stand). x.text) z ∙ p.text;
      forward = omega (arith, at, p.forward);
    }

pub returns-in-None-clause-gives : goal.returns-in-None-clause-gives
returns-in-None-clause-gives c =
    over_fails c.tokens.count c.tokens.parser (stand_of c.cursor.result) _ _ _ c.cursor.ensures.place c.in-None.ensures.over
    (subst (λ b. MatchBool b ((c.tokens.count ≡ 0) × (among group_ends (class_at c.tokens.parser) ≡ true)) (c.tokens.count ≡ 0 → among group_ends (class_at c.tokens.parser) ≡ false)) c.tokens-test.true c.is_done.ensures.done)
    c.tokens.invariant.gives c.error.ensures.kind c.error.ensures.offset

pub returns-clause-gives : goal.returns-clause-gives
returns-clause-gives c =
    let d = subst (λ b. MatchBool b ((c.tokens.count ≡ 0) × (among group_ends (class_at c.tokens.parser) ≡ true)) (c.tokens.count ≡ 0 → among group_ends (class_at c.tokens.parser) ≡ false)) c.tokens-test.false c.is_done.ensures.done in
    sym c.tokens.invariant.gives ∙ over_done c.tokens.count c.tokens.parser d.0 d.1
