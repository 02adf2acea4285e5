-- Worked plans: what their lines say, the bytes that they compose, and how they are refused.
use Rattle.std.proofs.Common.{◌≡◌, ℕ, List, [], ◌∷◌, ◌++◌, codes, refl, Some, None, inl, inr, lit≤}
use Rattle.comp_model.specs.declared.Space.TheVariants as space
use Rattle.comp_model.specs.Leb.{leb}
use Rattle.comp_model.specs.Makers as make
use Rattle.comp_model.specs.Model as m
use Rattle.comp_model.specs.Model.{Defs, no_def, one_def, no_node, one_node}
use Rattle.comp_wire.specs.Sections.{preamble}
use Rattle.comp_wire.specs.Spelled.{spell_component}
use Rattle.comp_wire.specs.Definitions.{plain_def, component_of_defs}
use Rattle.plan_lines.specs.Words.{word}
use Rattle.plan_lines.specs.Lines.{a_part, an_instance, an_export, lines, said, first_bad}
use Rattle.comp_compose.specs.Refused.{Refused, error, unmet, no_line}
use Rattle.comp_compose.specs.declared.error.PlanKind.TheVariants as kind
use Rattle.comp_compose.specs.declared.names.Item.{Item}

-- ---- lines

three_lines : said (lines (codes "part a 00\ninstance x a d=y\nexport run x\n")) ≡ a_part (word 5 (codes "a")) (word 7 (codes "00"))
    ∷ an_instance (word 19 (codes "x")) (word 21 (codes "a")) (record { text = word 23 (codes "d"); instance = word 25 (codes "y") } ∷ [])
    ∷ an_export (word 34 (codes "run")) (word 38 (codes "x")) ∷ []
three_lines = refl

no_lines : lines [] ≡ []
no_lines = refl

-- an empty line behind the last is one, and says nothing; so do words parted by two spaces
empty_line : first_bad (lines (codes "part a 00\n\n")) ≡ Some 10
empty_line = refl

two_spaces : first_bad (lines (codes "part  a 00")) ≡ Some 0
two_spaces = refl

-- ---- bytes

component : Defs → List ℕ
component ds = spell_component (component_of_defs ds)

-- part a 0061736d0d000100, instance x a, export run x
one_part : component (one_def (plain_def (make.component (component_of_defs no_def))) (one_def (plain_def (make.instantiate (m.index 0) no_node)) (one_def (plain_def (make.export_row (m.text (codes "run")) m.absent space.Instance (m.index 0))) no_def)))
    ≡ preamble ++ 0x04 ∷ 0x08 ∷ (preamble ++ 0x05 ∷ 0x04 ∷ 0x01 ∷ 0x00 ∷ 0x00 ∷ 0x00 ∷ 0x0b ∷ 0x09 ∷ 0x01 ∷ 0x00 ∷ 0x03 ∷ 0x72 ∷ 0x75 ∷ 0x6e ∷ 0x05 ∷ 0x00 ∷ 0x00 ∷ [])
unfolding leb component
one_part = refl

-- two parts, an instance of each, the first passed to the second as dep, which is exported
two_parts : component (one_def (plain_def (make.component (component_of_defs no_def))) (one_def (plain_def (make.component (component_of_defs no_def))) (one_def (plain_def (make.instantiate (m.index 0) no_node))
    (one_def (plain_def (make.instantiate (m.index 1) (one_node (make.argument (codes "dep") space.Instance (m.index 0)) no_node))) (one_def (plain_def (make.export_row (m.text (codes "run")) m.absent space.Instance (m.index 1))) no_def)))))
    ≡ preamble ++ 0x04 ∷ 0x08 ∷ (preamble ++ 0x04 ∷ 0x08 ∷ (preamble ++ 0x05 ∷ 0x0d ∷ 0x02 ∷ 0x00 ∷ 0x00 ∷ 0x00 ∷ 0x00 ∷ 0x01 ∷ 0x01 ∷ 0x03 ∷ 0x64 ∷ 0x65 ∷ 0x70 ∷ 0x05 ∷ 0x00
    ∷ 0x0b ∷ 0x09 ∷ 0x01 ∷ 0x00 ∷ 0x03 ∷ 0x72 ∷ 0x75 ∷ 0x6e ∷ 0x05 ∷ 0x01 ∷ 0x00 ∷ []))
unfolding leb component
two_parts = refl

-- ---- refusals

nothing : (x : Item) → None ≡ Some x → ⊥
nothing x e = cc

-- no earlier line declares a part a
unknown_part : Refused (codes "instance x a") (error kind.Unknown 11)
unknown_part = unmet (error kind.Unknown 11) (lit≤ tt) refl (inl (inr (refl, inl ((λ i. nothing _ i.1), refl))))
