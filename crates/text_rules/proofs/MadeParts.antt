-- What rules leave of a value, by what they leave of its parts.
use Rattle.std.proofs.Common.{◌≡◌, refl, sym, ◌∙◌}
use Rattle.wast_grammar.specs.Grammar.{Value, none, both, left, right, part_at, numbered}
use Rattle.text_rules.specs.Made.{Made}
use Rattle.text_rules.specs.Rule.{Rule}
use Rattle.text_rules.specs.Makes.{makes, made_at, leaves_nothing}

-- what rules leave of the first part of a value, and of the second
abbrev pub first : Value → Rule → Made
first (both u v) = makes u
first (left u) = makes u
first (right u) = makes u
first (part_at o u) = makes u
first (numbered n u) = makes u
first v = leaves_nothing

abbrev pub second : Value → Rule → Made
second (both u v) = makes v
second v = first v

pub makes_is : (v : Value) (r : Rule) → makes v r ≡ made_at (first v) (second v) v r
unfolding makes
makes_is none r = refl
makes_is _ r = refl

-- two rules that leave the same of a value, whatever its parts leave
pub same_made : (v : Value) (r q : Rule) → made_at (first v) (second v) v r ≡ made_at (first v) (second v) v q → makes v r ≡ makes v q
same_made v r q e = makes_is v r ∙ e ∙ sym (makes_is v q)
