-- Two spaces for each level, level by level.
use Rattle.std.proofs.Common.{◌≡◌, ℕ, suc, ◌+◌, ◌-◌, ◌<◌, List, ◌++◌, codes, ap, sym, ◌∙◌, arith}
use Rattle.std.proofs.lemmas.List.{append_assoc}
use Rattle.list_lines.specs.Lines.{indent}

pub indent_more : (n k : ℕ) → k < n → indent (n - k) ≡ codes "  " ++ indent (n - (k + 1))
indent_more n k h = let z : n - k ≡ suc (n - (k + 1)) = omega (arith, h) in ap indent z

-- a turn of the loop
pub one_level : (start old new : List ℕ) (n k : ℕ) → k < n → new ≡ old ++ codes "  " → old ++ indent (n - k) ≡ start ++ indent n → new ++ indent (n - (k + 1)) ≡ start ++ indent n
one_level start old new n k h e i =
    ap (λ q. q ++ indent (n - (k + 1))) e ∙ append_assoc old (codes "  ") (indent (n - (k + 1))) ∙ ap (λ q. old ++ q) (sym (indent_more n k h)) ∙ i
