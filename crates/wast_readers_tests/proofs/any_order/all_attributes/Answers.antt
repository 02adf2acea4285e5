use Rattle.std.proofs.Common.{◌<◌, true, arith, refl, sym, ◌∙◌}
use Rattle.wast_grammar.specs.Grammar.{num}
use Rattle.wast_grammar.specs.Read.{left_of}
use Rattle.wast_grammar.proofs.Fuel.{read_moves}
use Rattle.wast_grammar.proofs.Moves.{Ahead}
use Rattle.wast_grammar.proofs.ThreeParts.{starts, takes_upper, takes_middle, takes_lower}
use Rattle.wast_parser.proofs.ThreeOptions.{all_read}
use Rattle.wast_readers_tests.specs.Rows.{attributes, align, offset, page}
use Rattle.wast_readers_tests.proofs.any_order.all_attributes.Goals as goal

pub parts-init : goal.parts-init
unfolding attributes
parts-init c = record { gives = starts align offset page num c.args.parser.now; text = refl; forward = omega arith }

pub parts-smaller-then-begins : goal.parts-smaller-then-begins
parts-smaller-then-begins c =
    let a : Ahead true c.parts.parser c.group_of.new.parser = read_moves align.1 c.parts.parser _ c.group_of.new.parser refl c.in_ok-group_of.ensures.gives in
    let l : left_of c.group_of.new.parser < left_of c.parts.parser = a.falls refl in l

pub parts-preserved-then-begins : goal.parts-preserved-then-begins
parts-preserved-then-begins c =
    let p = c.parts.invariant in
    let q = c.in_ok-group_of.ensures in
    record {
      gives = takes_upper align offset page num c.parts.align c.parts.offset c.parts.page _ c.parts.parser c.group_of.new.parser _ p.gives (sym c.begins.ensures.next ∙ c.if-begins.true) q.gives;
      text = q.text ∙ p.text;
      forward = omega (arith, q.forward, p.forward);
    }

pub parts-smaller-then-begins-2 : goal.parts-smaller-then-begins-2
parts-smaller-then-begins-2 c =
    let a : Ahead true c.parts.parser c.group_of-then-begins-2.new.parser = read_moves offset.1 c.parts.parser _ c.group_of-then-begins-2.new.parser refl c.in_ok-group_of-2.ensures.gives in
    let l : left_of c.group_of-then-begins-2.new.parser < left_of c.parts.parser = a.falls refl in l

pub parts-preserved-then-begins-2 : goal.parts-preserved-then-begins-2
parts-preserved-then-begins-2 c =
    let p = c.parts.invariant in
    let q = c.in_ok-group_of-2.ensures in
    record {
      gives = takes_middle align offset page num c.parts.align c.parts.offset c.parts.page _ c.parts.parser c.group_of-then-begins-2.new.parser _ p.gives (sym c.begins.ensures.next ∙ c.if-begins.false) (sym c.begins-else-begins.ensures.next ∙ c.if-begins-2.true) q.gives;
      text = q.text ∙ p.text;
      forward = omega (arith, q.forward, p.forward);
    }

pub parts-smaller : goal.parts-smaller
parts-smaller c =
    let a : Ahead true c.parts.parser c.group_of-then-begins-3.new.parser = read_moves page.1 c.parts.parser _ c.group_of-then-begins-3.new.parser refl c.in_ok-group_of-3.ensures.gives in
    let l : left_of c.group_of-then-begins-3.new.parser < left_of c.parts.parser = a.falls refl in l

pub parts-preserved : goal.parts-preserved
parts-preserved c =
    let p = c.parts.invariant in
    let q = c.in_ok-group_of-3.ensures in
    record {
      gives = takes_lower align offset page num c.parts.align c.parts.offset c.parts.page _ c.parts.parser c.group_of-then-begins-3.new.parser _ p.gives (sym c.begins.ensures.next ∙ c.if-begins.false) (sym c.begins-else-begins.ensures.next ∙ c.if-begins-2.false) (sym c.begins-else-begins-2.ensures.next ∙ c.if-begins-3.true) q.gives;
      text = q.text ∙ p.text;
      forward = omega (arith, q.forward, p.forward);
    }

pub returns-else-begins-3-clause-gives : goal.returns-else-begins-3-clause-gives
returns-else-begins-3-clause-gives c =
    all_read align offset page num c.parts.align c.parts.offset c.parts.page c.parts.parser _ c.parts.invariant.gives (sym c.begins.ensures.next ∙ c.if-begins.false) (sym c.begins-else-begins.ensures.next ∙ c.if-begins-2.false) (sym c.begins-else-begins-2.ensures.next ∙ c.if-begins-3.false)
