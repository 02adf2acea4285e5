use Rattle.std.specs.Prelude.{⊤}
use Rattle.std.proofs.Common.{Ok, sym, subst, true}
use Rattle.wast_grammar.specs.Stand.{offset_of}
use Rattle.text_rules.specs.Makes.{a_place_made}
use Rattle.tree_read.specs.Comes.{Stored}
use Rattle.tree_read.proofs.Formers.{placed_reads, placed_stops, none_stored}
use Rattle.tree_read.proofs.steps.placed.Goals as goal

pub returns-then-first : goal.returns-then-first
returns-then-first c = placed_reads c.args.first c.args.code c.in-Ok.field-0 c.keep_place.result c.args.reader.now c.take.new.self c.args.scratch.now c.keep_place.new.scratch c.in-Ok.ensures
    (subst (λ b. Stored c.keep_place.result c.args.scratch.now c.keep_place.new.scratch (λ fs ms. a_place_made b (offset_of c.args.reader.now))) (sym c.if-first.true)
    (subst (λ n. Stored c.keep_place.result c.args.scratch.now c.keep_place.new.scratch (λ fs ms. a_place_made true n)) c.offset-offset.ensures c.keep_place.ensures))

pub returns-else-first : goal.returns-else-first
returns-else-first c = placed_reads c.args.first c.args.code c.in-Ok.field-0 (Ok c.in-Ok.field-0) c.args.reader.now c.take.new.self c.args.scratch.now c.args.scratch.now c.in-Ok.ensures
    (subst (λ b. Stored (Ok c.in-Ok.field-0) c.args.scratch.now c.args.scratch.now (λ fs ms. a_place_made b (offset_of c.args.reader.now))) (sym c.if-first.false)
    (none_stored c.in-Ok.field-0 (offset_of c.args.reader.now) c.args.scratch.now))

pub returns-in-Err : goal.returns-in-Err
returns-in-Err c = placed_stops ⊤ c.args.first c.args.code c.in-Err.fault c.args.reader.now c.take.new.self c.in-Err.ensures
