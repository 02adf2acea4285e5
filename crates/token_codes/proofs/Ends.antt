-- Behind the end of a text there is nothing.
use Rattle.std.proofs.Common.{◌≡◌, ℕ, zero, suc, ◌+◌, List, [], ◌∷◌, true, false, refl, ap, sym, ◌∙◌, Option, Some, None, slice_get, add-one, subst}
use Rattle.wast_tokens.specs.declared.token.TokenKind.{TokenKind}
use Rattle.wast_tokens.specs.declared.token.TokenKind.TheVariants as kinds
use Rattle.wast_grammar.specs.Tokens.{Tok}
use Rattle.wast_grammar.specs.Classes.{Class, same, finish, class_of, class_by}
use Rattle.wast_grammar.specs.Stand.{Stand, class_at, class_after}
use Rattle.token_codes.specs.Numbers.{number}

no_kind : {A : Type 0} (k : TokenKind) (b : List ℕ) → same (class_by k b) finish ≡ true → A
no_kind kinds.LParen b h = absurd (cc)
no_kind kinds.Annotation b h = absurd (cc)
no_kind kinds.RParen b h = absurd (cc)
no_kind kinds.Text b h = absurd (cc)
no_kind kinds.Id b h = absurd (cc)
no_kind kinds.Integer b h = absurd (cc)
no_kind kinds.Keyword b h = absurd (cc)
no_kind kinds.Reserved b h = absurd (cc)

no_token : (t : Option Tok) → same (class_of t) finish ≡ true → t ≡ None
no_token None h = refl
no_token (Some t) h = no_kind t.kind t.spelled h

past : (ts : List Tok) (n : ℕ) → slice_get ts n ≡ None → slice_get ts (suc n) ≡ None
past [] n h = refl
past (t ∷ ts) zero h = absurd (cc)
past (t ∷ ts) (suc n) h = past ts n h

behind : (ts : List Tok) (n : ℕ) → slice_get ts n ≡ None → slice_get ts (n + 1) ≡ None
behind ts n h = ap (slice_get ts) (add-one n) ∙ past ts n h

finish_number : 0 ≡ number finish
unfolding number
finish_number = refl

pub nothing_behind : (s : Stand) → same (class_at s) finish ≡ true → 0 ≡ number (class_after s)
nothing_behind s h = finish_number ∙ ap (λ t. number (class_of t)) (sym (behind s.text.tokens s.at (no_token (slice_get s.text.tokens s.at) h)))
