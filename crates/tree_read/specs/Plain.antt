-- Definitions of types of one word without names.
use Rattle.std.specs.Prelude.{◌≡◌, ℕ, zero, suc, ◌-◌, List, [], ◌∷◌, codes, Some}
use Rattle.comp_model.specs.Model as m
use Rattle.comp_model.specs.Model.{◌▸◌, no_leaf}
use Rattle.comp_model.specs.declared.row.Row.TheVariants as rows
use Rattle.wast_grammar.specs.Classes.{opening, closing, keyword}
use Rattle.wast_grammar.specs.Stand.{IsInside, Stand, class_at, class_after, moved}
use Rattle.wast_parser.specs.View.{stand_of}
use Rattle.text_rules.specs.Made.{Made, empty}
use Rattle.text_table.specs.Choice.{told_in}
use Rattle.text_table.specs.declared.rule.Told.TheVariants as tables
use Rattle.tree_read.specs.declared.plain.Plain.{Plain}

-- so many numbers as leaves, from the first on, downward
abbrev pub numbers_down : ℕ → ℕ → List m.Leaf
numbers_down zero n = []
numbers_down (suc k) n = m.number n ∷ numbers_down k (n - 1)

-- the definition of a type of one word, by its offset and its number
abbrev pub plain_made : ℕ → ℕ → Made
plain_made offset n = record empty { defs = m.define (record { ids = []; labels = []; exports = []; offset = offset }) (m.row rows.Primitive (m.number n ▸ no_leaf)) ∷ [] }

-- a `)` is next, and this is the place behind it
pub record IsClosed (n : ℕ) (p : Plain) (s : Stand) : Type 0 where
  pub number : p.number ≡ n
  pub closes : class_at s ≡ closing
  pub behind : stand_of p.behind ≡ moved s 1
  pub inside : IsInside (stand_of p.behind)

-- the word of a type is next, with a `)` behind it
pub record IsWord (p : Plain) (s : Stand) : Type 0 where
  pub told : Some p.number ≡ told_in tables.Primitive (class_at s)
  pub closes : class_after s ≡ closing
  pub behind : stand_of p.behind ≡ moved (moved s 1) 1
  pub inside : IsInside (stand_of p.behind)

-- a definition of such a type is next
pub record IsPlain (p : Plain) (s : Stand) : Type 0 where
  pub opens : class_at s ≡ opening
  pub word : class_after s ≡ keyword (codes "type")
  pub rest : IsWord p (moved (moved s 1) 1)
