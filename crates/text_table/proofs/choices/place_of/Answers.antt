use Rattle.std.proofs.Common.{◌∙◌, sym, arith}
use Rattle.text_table.proofs.Places.{found_at, found_later, never_found}
use Rattle.text_table.proofs.choices.place_of.Goals as goal

pub returns-then-is_between : goal.returns-then-is_between
returns-then-is_between c = found_at c.args.words.now c.places.place c.args.code (omega (arith, c.places-test.true)) (sym c.is_between.ensures ∙ c.if-is_between.true) c.places.invariant

pub places-preserved : goal.places-preserved
places-preserved c = found_later c.args.words.now c.places.place c.args.code (omega (arith, c.places-test.true)) (sym c.is_between.ensures ∙ c.if-is_between.false) c.places.invariant

pub returns : goal.returns
returns c = never_found c.args.words.now c.places.place c.args.code (omega (arith, c.places-test.false)) c.places.invariant
