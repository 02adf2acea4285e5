use Rattle.std.proofs.Common.{Bool, sym, ◌∙◌, ap}
use Rattle.comp_model.specs.Origins.{name_section, holds_none}
use Rattle.comp_tree.specs.OriginMarks.{marks_after, marks_of_items, without_places}
use Rattle.tree_resolve.specs.Planned.{section_mark}
use Rattle.tree_resolve.proofs.PlannedMarks.{mark_behind, no_mark_behind}
use Rattle.tree_resolve.proofs.origins.push_section.Goals as goal

pub returns-in_ok-push : goal.returns-in_ok-push
returns-in_ok-push c =
    mark_behind c.args.items.now.items c.push.new.self.items c.bare.result name_section holds_none c.in_ok-push.ensures.items c.bare.ensures
    ∙ ap (λ (b : Bool). marks_after (marks_of_items c.args.items.now.items) (without_places (section_mark b))) (sym c.if-due.true)

pub returns-else-due : goal.returns-else-due
returns-else-due c = no_mark_behind c.args.items.now.items ∙ ap (λ (b : Bool). marks_after (marks_of_items c.args.items.now.items) (without_places (section_mark b))) (sym c.if-due.false)
