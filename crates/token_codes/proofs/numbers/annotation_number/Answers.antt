use Rattle.std.proofs.Common.{◌∙◌, sym, codes}
use Rattle.std.proofs.lemmas.Slice.Eq.{bytes_eq-Decides}
use Rattle.token_codes.proofs.Words.{note_is_name, note_is_custom, note_is_producers, note_is_not}
use Rattle.token_codes.proofs.numbers.annotation_number.Goals as goal

pub returns-then-eq : goal.returns-then-eq
returns-then-eq c = record { number = note_is_name c.args.name.now ((bytes_eq-Decides c.args.name.now (codes "name")).0 (sym c.eq.ensures ∙ c.if-eq.true)) }

pub returns-then-eq-2 : goal.returns-then-eq-2
returns-then-eq-2 c = record { number = note_is_custom c.args.name.now ((bytes_eq-Decides c.args.name.now (codes "custom")).0 (sym c.eq-else-eq.ensures ∙ c.if-eq-2.true)) }

pub returns-then-eq-3 : goal.returns-then-eq-3
returns-then-eq-3 c = record { number = note_is_producers c.args.name.now ((bytes_eq-Decides c.args.name.now (codes "producers")).0 (sym c.eq-else-eq-2.ensures ∙ c.if-eq-3.true)) }

pub returns-else-eq-3 : goal.returns-else-eq-3
returns-else-eq-3 c = record { number = note_is_not c.args.name.now (sym c.eq.ensures ∙ c.if-eq.false) (sym c.eq-else-eq.ensures ∙ c.if-eq-2.false) (sym c.eq-else-eq-2.ensures ∙ c.if-eq-3.false) }
