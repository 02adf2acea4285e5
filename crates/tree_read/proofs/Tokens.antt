-- Tokens, by their numbers.
use Rattle.std.proofs.Common.{◌≡◌, ℕ, zero, suc, ◌+◌, ◌-◌, ◌<◌, ◌≤◌, List, [], ◌∷◌, Bool, true, false, ◌&&◌, cond, refl, ap, sym, ◌∙◌, arith, nat_eq, nat_le, nat_lt, Result, Ok, Err}
use Rattle.std.proofs.lemmas.Bool.Decides.{nat_tests}
use Rattle.wast_tokens.specs.declared.error.ErrorKind.{ErrorKind}
use Rattle.wast_tokens.specs.declared.error.ErrorKind.TheVariants as kinds
use Rattle.wast_grammar.specs.Classes.{Class, same, among, finish, opening, closing, string, id, integer, keyword, annotation, reserved}
use Rattle.wast_grammar.specs.Stand.{Stand, class_at, moved}
use Rattle.wast_grammar.specs.Grammar.{checked, nothing}
use Rattle.wast_grammar.specs.Read.{FailsAs, read, open_at, Outcome, reads, fault, deep}
use Rattle.token_codes.specs.Numbers.{number, between}
use Rattle.token_codes.proofs.Tables.{among_range, told_by_number_too}
use Rattle.text_table.specs.Code.{one_class}

one_between : (n k : ℕ) → (nat_eq k n && nat_lt n 149) ≡ between n k n
one_between n k = grind (arith, nat_tests)

-- whether a class has this number
pub next_is : (code n : ℕ) (c : Class) → code ≡ number c → (nat_eq code n && nat_lt n 149) ≡ among (one_class n) c
next_is code n c e = ap (λ k. nat_eq k n && nat_lt n 149) e ∙ one_between n (number c) ∙ sym (among_range n n c)

pub next_then : (code n : ℕ) (c : Class) → code ≡ number c → code ≡ n → nat_lt n 149 ≡ among (one_class n) c
next_then code n c e h = ap (λ x. x && nat_lt n 149) (sym (itself code n h)) ∙ next_is code n c e
  where
    itself : (k m : ℕ) → k ≡ m → nat_eq k m ≡ true
    itself k m z = grind (arith, nat_tests)

pub next_else : (code n : ℕ) (c : Class) → code ≡ number c → (code ≡ n → ⊥) → nat_eq code n ≡ among (one_class n) c
next_else code n c e h = differs code n h ∙ (ap (λ x. x && nat_lt n 149) (sym (differs code n h)) ∙ next_is code n c e)
  where
    differs : (k m : ℕ) → (k ≡ m → ⊥) → nat_eq k m ≡ false
    differs k m z = grind (arith, nat_tests)

finish_is : (c : Class) → same c finish ≡ true → number c ≡ 0
unfolding number
finish_is finish h = refl
finish_is opening h = absurd (cc)
finish_is closing h = absurd (cc)
finish_is (string b) h = absurd (cc)
finish_is id h = absurd (cc)
finish_is (integer b) h = absurd (cc)
finish_is (keyword bytes) h = absurd (cc)
finish_is (annotation bytes) h = absurd (cc)
finish_is reserved h = absurd (cc)

not_between : (n : ℕ) → 0 < n → between n 0 n ≡ false
not_between n h = grind (arith, nat_tests)

decided : (b : Bool) → (b ≡ true → false ≡ true) → b ≡ false
decided true h = sym (h refl)
decided false h = refl

-- a token of a number other than that of the end isn't the end
pub is_token : (n : ℕ) (c : Class) → 0 < n → among (one_class n) c ≡ true → same c finish ≡ false
is_token n c h e = decided (same c finish) (λ z. sym (not_between n h) ∙ (ap (λ k. between n k n) (sym (finish_is c z)) ∙ (sym (among_range n n c) ∙ e)))

-- an id by its number
pub id_by_number : (code : ℕ) (c : Class) → code ≡ number c → code ≡ 5 → same c id ≡ true
id_by_number code c e h = told_by_number_too 5 c (omega arith) ∙ ap (λ k. nat_eq k 5) (sym e ∙ h)

pub no_id_by_number : (code : ℕ) (c : Class) → code ≡ number c → (code ≡ 5 → ⊥) → same c id ≡ false
no_id_by_number code c e h = told_by_number_too 5 c (omega arith) ∙ (ap (λ k. nat_eq k 5) (sym e) ∙ other code h)
  where
    other : (k : ℕ) → (k ≡ 5 → ⊥) → nat_eq k 5 ≡ false
    other k z = grind (arith, nat_tests)
