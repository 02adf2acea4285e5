use Rattle.std.proofs.Common.{◌∙◌, ap, sym, arith, refl, slice_index}
use Rattle.wast_grammar.specs.ValueRows.{prim_words}
use Rattle.wast_grammar.specs.FieldRows.{producer_words}
use Rattle.text_table.specs.declared.rule.Told.TheVariants.{Primitive, Producer}
use Rattle.text_table.specs.Code.{numbers_told}
use Rattle.text_table.specs.Choice.{at_number, told_in}
use Rattle.text_table.proofs.Choosing.{numbers_in, told_words}
use Rattle.text_table.proofs.choices.number_told.Goals as goal

pub returns-in-Primitive : goal.returns-in-Primitive
returns-in-Primitive c = λ d e. c.number_at.ensures ∙ (ap (at_number (numbers_in prim_words (slice_index (numbers_told Primitive))) 11) e ∙ (told_words prim_words (slice_index (numbers_told Primitive)) 11 d (omega arith) (refl, (refl, (refl, (refl, (refl, (refl, (refl, (refl, (refl, (refl, (refl, (refl, (refl, (refl, (refl, (refl, tt)))))))))))))))) ∙ ap (λ t. told_in t d) (sym c.in-Primitive.is)))

pub returns-in-Producer : goal.returns-in-Producer
returns-in-Producer c = λ d e. c.number_at-in-Producer.ensures ∙ (ap (at_number (numbers_in producer_words (slice_index (numbers_told Producer))) 55) e ∙ (told_words producer_words (slice_index (numbers_told Producer)) 55 d (omega arith) (refl, (refl, (refl, tt))) ∙ ap (λ t. told_in t d) (sym c.in-Producer.is)))
