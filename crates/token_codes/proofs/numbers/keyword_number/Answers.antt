use Rattle.std.proofs.Common.{◌∙◌, ◌+◌, sym, ap, ◌≡◌}
use Rattle.std.specs.Prelude.{slice_index, bytes_eq}
use Rattle.std.proofs.lemmas.Slice.Eq.{bytes_eq-Decides}
use Rattle.token_codes.specs.Numbers.{word_at, hash}
use Rattle.token_codes.specs.declared.numbers.TheConstants.{SLOTS}
use Rattle.token_codes.proofs.Words.{keyword_is, keyword_is_next, keyword_missed}
use Rattle.token_codes.proofs.numbers.keyword_number.Goals as goal

pub returns-then-eq : goal.returns-then-eq
returns-then-eq c = record {
  number =
      keyword_is c.slot_of-slot.result c.args.spelled.now c.slot_of-slot.ensures.least c.slot_of-slot.ensures.most
      (sym c.word.ensures.spelled ∙ (bytes_eq-Decides c.word.result.now c.args.spelled.now).0 (sym c.eq.ensures ∙ c.if-eq.true));
}

pub returns-then-eq-2 : goal.returns-then-eq-2
returns-then-eq-2 c = record {
  number =
      keyword_is_next c.slot_of-slot.result c.args.spelled.now c.slot_of-slot.ensures.least c.slot_of-slot.ensures.most
      (ap (λ x. bytes_eq x c.args.spelled.now) (sym c.word.ensures.spelled) ∙ (sym c.eq.ensures ∙ c.if-eq.false))
      (sym c.word-else-eq.ensures.spelled ∙ (bytes_eq-Decides c.word-else-eq.result.now c.args.spelled.now).0 (sym c.eq-else-eq.ensures ∙ c.if-eq-2.true));
}

pub returns-else-eq-2 : goal.returns-else-eq-2
returns-else-eq-2 c = record {
  number =
      let e : c.slot_of-slot.result ≡ slice_index SLOTS (hash c.args.spelled.now) = c.slot_of-slot.ensures.slot ∙ ap (λ x. slice_index SLOTS (hash x)) c.as_bytes.ensures.value in
      keyword_missed c.args.spelled.now
      (ap (λ x. bytes_eq (word_at x) c.args.spelled.now) (sym e) ∙ (ap (λ x. bytes_eq x c.args.spelled.now) (sym c.word.ensures.spelled) ∙ (sym c.eq.ensures ∙ c.if-eq.false)))
      (ap (λ x. bytes_eq (word_at (x + 1)) c.args.spelled.now) (sym e) ∙ (ap (λ x. bytes_eq x c.args.spelled.now) (sym c.word-else-eq.ensures.spelled) ∙ (sym c.eq-else-eq.ensures ∙ c.if-eq-2.false)));
}
