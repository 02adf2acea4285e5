use Rattle.std.proofs.Common.{◌≤◌, ◌+◌, length, rules, arith, refl, sym, ◌∙◌}
use Rattle.wast_tokens.specs.Along.Along.{done}
use Rattle.wast_tokens.proofs.Classes.{some_within}
use Rattle.wast_tokens.proofs.Steps.{along_more}
use Rattle.wast_tokens.proofs.Quotes.{plain_more, escape_character, escape_within}
use Rattle.wast_tokens.proofs.strings.string_end.Goals as goal

pub loop-k-init : goal.loop-k-init
loop-k-init c =
    let lt = some_within c.args.text.now c.args.at 34 c.requires.opened (omega arith) in
    record { from = omega arith; within = omega (arith, lt); characters = done _ _ refl }

pub loop-k-preserved-then-is_plain : goal.loop-k-preserved-then-is_plain
loop-k-preserved-then-is_plain c = record {
  from = omega (arith, c.loop-k.invariant.from);
  within = omega (arith, c.loop-k-test.true);
  characters = plain_more _ _ _ c.loop-k.invariant.characters (sym c.if-is_plain.ensures.class);
}

pub overflow_add-k-in-Some : goal.overflow_add-k-in-Some
overflow_add-k-in-Some c =
    let w = escape_within c.args.text.now c.loop-k.k c.in-Some.c (sym c.in-Some.ensures.escape) in
    let le : c.loop-k.k + c.in-Some.c.len ≤ length c.args.text.now = w.1 in
    search (rules, le)

pub loop-k-smaller : goal.loop-k-smaller
loop-k-smaller c =
    let w = escape_within c.args.text.now c.loop-k.k c.in-Some.c (sym c.in-Some.ensures.escape) in
    omega (arith, w.0, w.1)

pub loop-k-preserved : goal.loop-k-preserved
loop-k-preserved c =
    let w = escape_within c.args.text.now c.loop-k.k c.in-Some.c (sym c.in-Some.ensures.escape) in
    record {
      from = omega (arith, c.loop-k.invariant.from);
      within = w.1;
      characters = along_more _ _ _ _ c.loop-k.invariant.characters (c.in-Some.c, escape_character _ _ c.if-b-eq92.true ∙ sym c.in-Some.ensures.escape, refl);
    }
