-- Choices among many words, of which one rule is taken at once.
use Rattle.std.specs.Prelude.{◌≡◌, ◌<◌, ◌+◌, ◌-◌, ℕ, List, [], ◌∷◌, Option, Some, None, cond, nat_lt, slice_get, slice_index}
use Rattle.std.specs.Option.{option_map}
use Rattle.std.proofs.Common.{Bor}
use Rattle.wast_grammar.specs.Classes.{Class}
use Rattle.wast_grammar.specs.Stand.{Stand, class_at, class_after}
use Rattle.wast_grammar.specs.Grammar.{next, number_in}
use Rattle.token_codes.specs.Numbers.{number, between}
use Rattle.text_rules.specs.Rule as r
use Rattle.text_rules.specs.Made.{Made}
use Rattle.text_rules.specs.Measure.{Fit, rank}
use Rattle.rule_runs.specs.Run.{run, fault}
use Rattle.text_table.specs.declared.rule.Told.{Told}
use Rattle.text_table.specs.declared.rule.Rule.{Rule}
use Rattle.text_table.specs.Code.{rule_of, one_class, words_told, numbers_told}

-- one of these, each behind the word whose number follows that of the one before
abbrev pub words_from : ℕ → ℕ → List r.Rule → r.Rule
words_from n k [] = r.no_case
words_from n k (x ∷ xs) = r.case n (next (one_class k)) x (words_from (n + 1) (k + 1) xs)

-- the rules of a choice, in order
abbrev pub rules_in : r.Rule → List r.Rule
rules_in (r.case n t x y) = x ∷ rules_in y
rules_in _ = []

-- what stands in a list for a number, if the first stands for k
abbrev pub at_number : {A : Type 0} → List A → ℕ → ℕ → Option A
at_number xs k code = cond (nat_lt code k) None (slice_get xs (code - k))

abbrev pub lent_rule : Bor Rule → r.Rule
lent_rule x = rule_of x.now

-- the place of the first word with a number
abbrev pub place_among : List ℕ → ℕ → ℕ
place_among [] code = 0
place_among (k ∷ ks) code = cond (between k code k) 0 (place_among ks code + 1)

-- A rule that a choice comes to where the next token has this number, and the one behind it that number.
pub record Takes (x : r.Rule) (code ahead : ℕ) (y : r.Rule) : Type 0 where
  pub runs : (s : Stand) (a : Made) → code ≡ number (class_at s) → ahead ≡ number (class_after s) → run x s a ≡ run y s a
  pub fit : Fit y
  pub below : (s : Stand) → rank y s < rank x s

-- such a rule, or none: then the next token is refused
abbrev pub ChosenAs : Option r.Rule → r.Rule → ℕ → ℕ → Type 0
ChosenAs None x code ahead = (s : Stand) (a : Made) → code ≡ number (class_at s) → ahead ≡ number (class_after s) → run x s a ≡ fault s
ChosenAs (Some y) x code ahead = Takes x code ahead y

-- the number that a table has for a class
abbrev pub told_in : Told → Class → Option ℕ
told_in t c = option_map (slice_index (numbers_told t)) (number_in (words_told t) c)
