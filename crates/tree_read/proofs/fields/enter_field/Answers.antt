use Rattle.std.proofs.Common.{◌≡◌, ◌∙◌, sym, subst, ap, Bool}
use Rattle.std.specs.Prelude.{⊤}
use Rattle.wast_grammar.specs.Classes.{among}
use Rattle.wast_grammar.specs.CoreRows.{other_field_notes}
use Rattle.wast_grammar.specs.Stand.{Stand, class_at}
use Rattle.tree_read.specs.FieldParts.{EntersField}
use Rattle.tree_read.proofs.FieldForms.{noted_group_is, no_opening, note_behind, word_behind}
use Rattle.tree_read.proofs.Refusals.{passed}
use Rattle.tree_read.proofs.fields.enter_field.Goals as goal

told : (s t u : Stand) (r b : Bool) → t ≡ u → u ≡ s → r ≡ among other_field_notes (class_at t) → r ≡ b → among other_field_notes (class_at s) ≡ b
told s t u r b e f h z = ap (λ (x : Stand). among other_field_notes (class_at x)) (sym (e ∙ f)) ∙ (sym h ∙ z)

pub returns-then-is_noted : goal.returns-then-is_noted
returns-then-is_noted c = noted_group_is c.args.reader.now (told c.args.reader.now _ _ _ _ c.cursor.ensures.place c.parser.ensures c.is_noted.ensures c.if-is_noted.true)

pub returns-in_err-take : goal.returns-in_err-take
returns-in_err-take c =
    subst (λ r. EntersField r c.args.reader.now c.take.new.self)
    (sym (passed c.from_residual.result c.in_err-take.field-0.0 c.from_residual.ensures.1 (λ y z. z)))
    (no_opening ⊤ c.in_err-take.field-0.0 c.args.reader.now c.take.new.self (told c.args.reader.now _ _ _ _ c.cursor.ensures.place c.parser.ensures c.is_noted.ensures c.if-is_noted.false) c.in_err-take.ensures)

pub returns-then-is_noted-2 : goal.returns-then-is_noted-2
returns-then-is_noted-2 c =
    note_behind c.args.reader.now c.take.new.self (told c.args.reader.now _ _ _ _ c.cursor.ensures.place c.parser.ensures c.is_noted.ensures c.if-is_noted.false) c.in_ok-take.ensures.0 c.in_ok-take.ensures.1
    (told c.take.new.self _ _ _ _ c.cursor-2.ensures.place c.parser-2.ensures c.is_noted-2.ensures c.if-is_noted-2.true)

pub returns : goal.returns
returns c =
    word_behind c.args.reader.now c.take.new.self (told c.args.reader.now _ _ _ _ c.cursor.ensures.place c.parser.ensures c.is_noted.ensures c.if-is_noted.false) c.in_ok-take.ensures.0 c.in_ok-take.ensures.1
    (told c.take.new.self _ _ _ _ c.cursor-2.ensures.place c.parser-2.ensures c.is_noted-2.ensures c.if-is_noted-2.false)
