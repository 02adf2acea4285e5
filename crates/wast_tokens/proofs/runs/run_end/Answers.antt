use Rattle.std.proofs.Common.{arith, refl}
use Rattle.wast_tokens.specs.Along.Along.{done}
use Rattle.wast_tokens.specs.Runs.IsPart.{character, string}
use Rattle.wast_tokens.proofs.Steps.{along_more}
use Rattle.wast_tokens.proofs.Quotes.{string_within}
use Rattle.wast_tokens.proofs.Parts.{run_within}
use Rattle.wast_tokens.proofs.runs.run_end.Goals as goal

pub loop-end-init : goal.loop-end-init
loop-end-init c = record { from = omega arith; within = c.requires.here; parts = done _ _ refl }

pub bounds-text-end : goal.bounds-text-end
bounds-text-end c = run_within _ _ c.loop-end-test.ensures.goes_on

pub loop-end-smaller-then-text-end-eq34 : goal.loop-end-smaller-then-text-end-eq34
loop-end-smaller-then-text-end-eq34 c = let w = string_within _ _ _ c.in_ok-end.ensures.string in omega (arith, w.0, w.1)

pub loop-end-preserved-then-text-end-eq34 : goal.loop-end-preserved-then-text-end-eq34
loop-end-preserved-then-text-end-eq34 c =
    let w = string_within _ _ _ c.in_ok-end.ensures.string in
    record {
      from = omega (arith, w.0, c.loop-end.invariant.from);
      within = w.1;
      parts = along_more _ _ _ _ c.loop-end.invariant.parts (string c.in_ok-end.ensures.string);
    }

pub loop-end-smaller : goal.loop-end-smaller
loop-end-smaller c = let lt = run_within c.args.text.now c.loop-end.end c.loop-end-test.ensures.goes_on in omega (arith, lt)

pub loop-end-preserved : goal.loop-end-preserved
loop-end-preserved c =
    let lt = run_within c.args.text.now c.loop-end.end c.loop-end-test.ensures.goes_on in
    record {
      from = omega (arith, c.loop-end.invariant.from);
      within = omega (arith, lt);
      parts = along_more _ _ _ _ c.loop-end.invariant.parts (character c.loop-end-test.ensures.goes_on c.if-text-end-eq34.false refl);
    }
