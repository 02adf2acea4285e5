use Rattle.std.proofs.Common.{◌≡◌, ◌+◌, ◌<◌, true, arith, sym, ap, subst, ◌∙◌}
use Rattle.wast_grammar.specs.Stand.{Stand}
use Rattle.wast_grammar.specs.Grammar.{holds}
use Rattle.wast_grammar.specs.Read.{read, left_of}
use Rattle.wast_parser.specs.View.{stand_of}
use Rattle.wast_grammar.specs.CoreForms.{is_empty_behind, empty_behind}
use Rattle.core_parts.proofs.GroupLoops.{past_three, goes_over, past_joint, joint_falls}
use Rattle.core_parts.proofs.word_groups.skip_empty_behind.Goals as goal

pub groups-smaller : goal.groups-smaller
groups-smaller c =
    let over : c.advance.new.self ≡ past_three c.groups.parser = goes_over c.groups.parser (stand_of c.cursor.result) (stand_of c.in-Some.behind) c.advance.new.self c.cursor.ensures.place c.in-Some.ensures.next.1 c.advance.ensures.place in
    let t : holds (is_empty_behind c.args.word.now) c.groups.parser ≡ true = sym (ap (λ (s : Stand). holds (is_empty_behind c.args.word.now) s) c.cursor.ensures.place) ∙ c.in-Some.ensures.next.0 in
    let l : left_of c.advance.new.self < left_of c.groups.parser = subst (λ (s : Stand). left_of s < left_of c.groups.parser) (sym over) (joint_falls c.args.word.now c.groups.parser t) in l

pub groups-preserved : goal.groups-preserved
groups-preserved c =
    let p = c.groups.invariant in
    let over : c.advance.new.self ≡ past_three c.groups.parser = goes_over c.groups.parser (stand_of c.cursor.result) (stand_of c.in-Some.behind) c.advance.new.self c.cursor.ensures.place c.in-Some.ensures.next.1 c.advance.ensures.place in
    let t : holds (is_empty_behind c.args.word.now) c.groups.parser ≡ true = sym (ap (λ (s : Stand). holds (is_empty_behind c.args.word.now) s) c.cursor.ensures.place) ∙ c.in-Some.ensures.next.0 in
    let at : c.advance.new.self.at ≡ c.groups.parser.at + 1 + 1 + 1 = ap (λ (s : Stand). s.at) over in
    record {
      gives = ap (λ (s : Stand). read (empty_behind c.args.word.now) s) over ∙ past_joint c.args.word.now c.groups.parser _ t p.gives;
      text = ap (λ (s : Stand). s.text) over ∙ p.text;
      forward = omega (arith, at, p.forward);
    }
