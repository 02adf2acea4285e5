-- The lines of what is left of a plan, by the first of them.
use Rattle.std.proofs.Common.{◌≡◌, ℕ, zero, suc, ◌+◌, ◌<◌, List, [], ◌∷◌, length, refl, ap, sym, subst, ◌∙◌, arith, Option, Some, None, IfNone}
use Rattle.plan_lines.specs.Words as w
use Rattle.plan_lines.specs.Words.{word, pieces, unless_empty, without_empty_end}
use Rattle.plan_lines.specs.Shown.{word_of, rest_of, lines_left}
use Rattle.plan_lines.specs.declared.words.Word.{Word}
use Rattle.plan_lines.proofs.Read.{First, first_piece}

kept : (at : ℕ) (bs : List ℕ) → 0 < length bs → unless_empty at bs ≡ word at bs ∷ []
kept at [] h = absurd (omega (arith, h))
kept at (b ∷ bs) h = refl

further : (v : w.Word) (ws : List w.Word) → First ws → without_empty_end (v ∷ ws) ≡ v ∷ without_empty_end ws
further v ws f = subst (λ xs. without_empty_end (v ∷ xs) ≡ v ∷ without_empty_end xs) (sym f.same) refl

pub next_left : (x first : Word) (rest : Option Word) → 0 < length x.bytes.now → pieces 10 (word_of x) ≡ word_of first ∷ rest_of 10 rest → IfNone rest (first ≡ x)
    → without_empty_end (pieces 10 (word_of x)) ≡ word_of first ∷ lines_left rest
next_left x first None h e whole =
    ap without_empty_end e ∙ ap (λ y. unless_empty y.at y.bytes.now) whole ∙ kept x.at x.bytes.now h ∙ ap (λ y. word_of y ∷ []) (sym whole)
next_left x first (Some r) h e whole = ap without_empty_end e ∙ further (word_of first) (pieces 10 (word_of r)) (first_piece 10 r.at r.bytes.now)
