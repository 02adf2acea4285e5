use Rattle.std.proofs.Common.{◌≡◌, List, ℕ, true, false, Result, Ok, Err, Bor, MatchOption, MatchResult, sym, subst, ⊎_elim}
use Rattle.std.proofs.lemmas.Bool.{cases_Bool}
use Rattle.std.proofs.lemmas.Str.{IsUtf8-from_is_utf8, is_utf8-from_IsUtf8}
use Rattle.std.specs.Result.{result_ok}
use Rattle.std.specs.Str.{IsUtf8, is_utf8}
use Rattle.core_parts.proofs.inline_read.as_text.Goals as goal

-- the answer of std is by the predicate, and the class of a string by the test
tested : {E : Type 0} (bytes : List ℕ) (P : E → Type 0) (r : Result (Bor (List ℕ)) E) → MatchResult r (λ s. (s.now ≡ bytes) × IsUtf8 bytes) (λ e. ¬ (IsUtf8 bytes) × P e)
    → MatchOption (result_ok r) (is_utf8 bytes ≡ false) (λ s. is_utf8 bytes ≡ true)
tested bytes P (Ok s) h = is_utf8-from_IsUtf8 bytes h.1
tested bytes P (Err e) h = ⊎_elim (λ is. absurd (h.0 (IsUtf8-from_is_utf8 bytes is))) (λ isnt. isnt) (cases_Bool (is_utf8 bytes))

pub returns : goal.returns
returns c =
    record { text = subst (λ o. MatchOption o (is_utf8 c.args.bytes.now ≡ false) (λ s. is_utf8 c.args.bytes.now ≡ true)) (sym c.ok.ensures.value) (tested c.args.bytes.now _ c.from_utf8.result c.from_utf8.ensures.cases) }
