-- The kinds of runs.
use Rattle.std.proofs.Common.{◌≡◌, ℕ, Bool, true, false, ◌==◌, cond, List, length, Ok, Err, sym, ap, ◌∙◌, ⊎_elim}
use Rattle.std.proofs.lemmas.Bool.{cases_Bool}
use Rattle.std.proofs.lemmas.Str.{IsUtf8-from_is_utf8, is_utf8-from_IsUtf8}
use Rattle.std.specs.Str.{IsUtf8, is_utf8}
use Rattle.wast_tokens.specs.declared.token.TokenKind.TheVariants.{Id}
use Rattle.wast_tokens.specs.declared.error.LexFault.TheVariants.{EmptyId, BadIdText}
use Rattle.wast_tokens.specs.Runs.{named_kind}

by_test : (name : List ℕ) (e u : Bool) → (length name == 0) ≡ e → is_utf8 name ≡ u → named_kind name ≡ cond e (Err EmptyId) (cond u (Ok Id) (Err BadIdText))
unfolding named_kind
by_test name e u h g = ap (λ x. cond x (Err EmptyId) (cond (is_utf8 name) (Ok Id) (Err BadIdText))) h ∙ ap (λ x. cond e (Err EmptyId) (cond x (Ok Id) (Err BadIdText))) g

pub named_id : (name : List ℕ) → (length name == 0) ≡ false → IsUtf8 name → Ok Id ≡ named_kind name
named_id name some utf8 = sym (by_test name false true some (is_utf8-from_IsUtf8 name utf8))

pub named_bad : (name : List ℕ) → (length name == 0) ≡ false → (IsUtf8 name → ⊥) → Err BadIdText ≡ named_kind name
named_bad name some bad =
    sym (by_test name false false some (⊎_elim (λ is. absurd (bad (IsUtf8-from_is_utf8 name is))) (λ isnt. isnt) (cases_Bool (is_utf8 name))))
