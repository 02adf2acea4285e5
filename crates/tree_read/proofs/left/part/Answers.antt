use Rattle.std.specs.Prelude.{⊤}
use Rattle.std.proofs.Common.{ap, sym}
use Rattle.text_table.specs.Code.{rule_of}
use Rattle.tree_read.proofs.Further.{place_in}
use Rattle.tree_read.proofs.Leaving.{given_at, part_read, part_refused, part_stopped}
use Rattle.tree_read.proofs.left.part.Goals as goal
use Rattle.tree_read.specs.declared.fault.Fault.TheVariants as fault

pub returns-in-Done : goal.returns-in-Done
returns-in-Done c = given_at _ _ c.behind-reader.result _ c.read.new.reader _ (sym c.behind-reader.ensures) c.into_parser.ensures
    (part_read {X = ⊤} (rule_of c.args.rule.now) c.left_parts.result tt c.behind-reader.result c.read.new.reader c.new-scratch.result c.read.new.scratch c.new-scratch.ensures c.in-Done.ensures c.left_parts.ensures)

pub returns-in-Parse : goal.returns-in-Parse
returns-in-Parse c = given_at _ _ c.behind-reader.result _ c.read.new.reader _ (sym c.behind-reader.ensures) c.refused.ensures.place
    (part_refused (rule_of c.args.rule.now) fault.Parse c.refused.result c.behind-reader.result c.read.new.reader (λ p h. ap place_in h) c.in-Parse.ensures c.refused.ensures.refusal)

pub returns-in-TooDeep : goal.returns-in-TooDeep
returns-in-TooDeep c = given_at _ _ c.behind-reader.result _ c.read.new.reader _ (sym c.behind-reader.ensures) c.refused-in-TooDeep.ensures.place
    (part_refused (rule_of c.args.rule.now) fault.TooDeep c.refused-in-TooDeep.result c.behind-reader.result c.read.new.reader (λ p h. ap place_in h) c.in-TooDeep.ensures c.refused-in-TooDeep.ensures.refusal)

pub returns : goal.returns
returns c = part_stopped (rule_of c.args.rule.now) c.args.parser.now
