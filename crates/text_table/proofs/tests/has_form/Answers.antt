use Rattle.std.proofs.Common.{◌∙◌, ◌+◌, sym, map, false}
use Rattle.wast_grammar.specs.Classes.{among}
use Rattle.wast_grammar.specs.Stand.{class_at, class_after}
use Rattle.wast_grammar.specs.Grammar.{fits}
use Rattle.wast_parser.specs.View.{stand_of}
use Rattle.text_table.specs.Code.{classes_of, lent_classes}
use Rattle.text_table.proofs.Testing.{form_told, three_are}
use Rattle.text_table.proofs.tests.has_form.Goals as goal

pub returns-then-are_among : goal.returns-then-are_among
returns-then-are_among c =
    let cs = classes_of c.args.first.now in
    let ds = classes_of c.args.second.now in
    let ps = map lent_classes c.args.rest.now in
    let s = stand_of c.args.cursor in
    let told = sym (c.are_among.ensures (class_at s) (class_after s) c.requires.next c.requires.behind) ∙ c.if-are_among.true in
    form_told cs ds ps s (stand_of c.past.result) (stand_of c.past-then-are_among.result) c.is_form.result c.past.ensures.text c.past.ensures.on c.past-then-are_among.ensures.text c.past-then-are_among.ensures.on c.is_form.ensures told

pub returns-else-are_among : goal.returns-else-are_among
returns-else-are_among c =
    let s = stand_of c.args.cursor in
    let told = sym (c.are_among.ensures (class_at s) (class_after s) c.requires.next c.requires.behind) ∙ c.if-are_among.false in
    sym (three_are (among (classes_of c.args.first.now) (class_at s)) (among (classes_of c.args.second.now) (class_after s)) (fits (map lent_classes c.args.rest.now) s.text.tokens (s.at + 1 + 1)) false told)
