use Rattle.std.proofs.Common.{◌≤◌, sym, subst}
use Rattle.token_codes.proofs.Words.{slots_are_words}
use Rattle.token_codes.proofs.numbers.slot_of.Goals as goal

pub returns-clause-least : goal.returns-clause-least
returns-clause-least c = subst (λ n. 11 ≤ n) (sym c.slot_at.ensures) (slots_are_words c.hash_of.result c.hash_of.ensures.within).0

pub returns-clause-most : goal.returns-clause-most
returns-clause-most c = subst (λ n. n ≤ 149) (sym c.slot_at.ensures) (slots_are_words c.hash_of.result c.hash_of.ensures.within).1
