use Rattle.std.proofs.Common.{refl, sym, subst, true}
use Rattle.text_rules.specs.Makes.{a_place_made}
use Rattle.text_table.specs.Code.{step_of}
use Rattle.text_table.specs.declared.rule.Step.TheVariants as step
use Rattle.tree_read.specs.Comes.{Stored}
use Rattle.tree_read.specs.declared.parts.First.TheVariants as first
use Rattle.tree_read.specs.Parts.{HasNumber, ReadsFirst}
use Rattle.tree_read.proofs.FirstAndLast.{part_first, placed_first, offset_first, depth_first}
use Rattle.tree_read.proofs.parts.read_first.Goals as goal

pub placed-requires : goal.placed-requires
placed-requires c = subst HasNumber c.in-Placed.is c.requires

pub returns-in-Keep : goal.returns-in-Keep
returns-in-Keep c =
    subst (λ x. ReadsFirst x c.keep.result c.args.reader.now c.keep.new.reader c.args.scratch.now c.keep.new.scratch) (sym c.in-Keep.is)
    (part_first (first.Keep c.in-Keep.kept) (step_of (step.Keep c.in-Keep.kept)) c.keep.result c.args.reader.now c.keep.new.reader c.args.scratch.now c.keep.new.scratch (λ y. refl) c.keep.ensures)

pub returns-in-Reference : goal.returns-in-Reference
returns-in-Reference c =
    subst (λ x. ReadsFirst x c.reference.result c.args.reader.now c.reference.new.reader c.args.scratch.now c.reference.new.scratch) (sym c.in-Reference.is)
    (part_first (first.Reference c.in-Reference.space c.in-Reference.reach) (step_of (step.Reference c.in-Reference.space c.in-Reference.reach)) c.reference.result c.args.reader.now c.reference.new.reader c.args.scratch.now c.reference.new.scratch (λ y. refl) c.reference.ensures)

pub returns-in-Told : goal.returns-in-Told
returns-in-Told c =
    subst (λ x. ReadsFirst x c.read_told.result c.args.reader.now c.read_told.new.reader c.args.scratch.now c.read_told.new.scratch) (sym c.in-Told.is)
    (part_first (first.Told c.in-Told.table) (step_of (step.Told c.in-Told.table)) c.read_told.result c.args.reader.now c.read_told.new.reader c.args.scratch.now c.read_told.new.scratch (λ y. refl) c.read_told.ensures)

pub returns-in-Outside : goal.returns-in-Outside
returns-in-Outside c =
    subst (λ x. ReadsFirst x c.outside.result c.args.reader.now c.outside.new.reader c.args.scratch.now c.outside.new.scratch) (sym c.in-Outside.is)
    (part_first (first.Outside c.in-Outside.part) (step_of (step.Outside c.in-Outside.part)) c.outside.result c.args.reader.now c.outside.new.reader c.args.scratch.now c.outside.new.scratch (λ y. refl) c.outside.ensures)

pub returns-in-Placed : goal.returns-in-Placed
returns-in-Placed c =
    subst (λ x. ReadsFirst x c.placed.result c.args.reader.now c.placed.new.reader c.args.scratch.now c.placed.new.scratch) (sym c.in-Placed.is)
    (placed_first c.in-Placed.first c.in-Placed.code c.placed.result c.args.reader.now c.placed.new.reader c.args.scratch.now c.placed.new.scratch c.placed.ensures)

pub returns-in-Named : goal.returns-in-Named
returns-in-Named c = subst (λ x. ReadsFirst x c.read_names.result c.args.reader.now c.read_names.new.reader c.args.scratch.now c.read_names.new.scratch) (sym c.in-Named.is) c.read_names.ensures

pub returns-in-Offset : goal.returns-in-Offset
returns-in-Offset c =
    subst (λ x. ReadsFirst x c.keep_place.result c.args.reader.now c.args.reader.now c.args.scratch.now c.keep_place.new.scratch) (sym c.in-Offset.is)
    (offset_first c.keep_place.result c.args.reader.now c.args.scratch.now c.keep_place.new.scratch (subst (λ n. Stored c.keep_place.result c.args.scratch.now c.keep_place.new.scratch (λ fs cs. a_place_made true n)) c.offset.ensures c.keep_place.ensures))

pub returns-in-Depth : goal.returns-in-Depth
returns-in-Depth c =
    subst (λ x. ReadsFirst x c.depth_check.result c.args.reader.now c.args.reader.now c.args.scratch.now c.args.scratch.now) (sym c.in-Depth.is)
    (depth_first c.depth_check.result c.args.reader.now c.args.scratch.now c.depth_check.ensures)
