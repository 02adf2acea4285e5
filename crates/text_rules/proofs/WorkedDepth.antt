-- Checked items at the greatest depth, and below it.
use Rattle.std.specs.Prelude.{◌≡◌, ℕ, zero, suc, List, [], ◌∷◌, ◌++◌, false, refl, codes}
use Rattle.comp_model.specs.declared.Space.TheVariants as space
use Rattle.comp_model.specs.Model as m
use Rattle.comp_model.specs.Makers as make
use Rattle.text_rules.specs.FieldRules.{wat_item}
use Rattle.text_rules.proofs.Texts.{answer, one, too_deep, at, component}

-- so many lists in each other, around a type
abbrev lists : ℕ → List ℕ
lists zero = codes "u8"
lists (suc n) = codes "(list " ++ (lists n ++ codes ")")

abbrev text : ℕ → List ℕ
text n = codes "(component (type " ++ (lists n ++ codes "))")

abbrev nested : ℕ → m.Leaf
nested zero = m.number 0x7d
nested (suc n) = m.ref space.Ty (m.inline (make.list_type (nested n)))

-- the parentheses of the component and of the definition are two of a hundred
deep_enough : answer wat_item false (text 98) ≡ one (at 1 (component (at 12 (make.list_type (nested 97)) ∷ [])))
unfolding answer
deep_enough = refl

-- the word behind the parenthesis that is one too many
below_the_greatest_depth : answer wat_item false (text 99) ≡ too_deep 606
unfolding answer
below_the_greatest_depth = refl
