-- Why a component isn't printed, and what it is printed as.
use Rattle.std.specs.Prelude.{◌≡◌, ◌⊎◌, ℕ, nat_lt, Bool, true, false, cond, length, Option, Some, None}
use Rattle.comp_model.specs.Model.{Scope}
use Rattle.comp_model.specs.Weight.{weight}
use Rattle.print_table.specs.HasText.{has_text, holds_module}
use Rattle.print_table.specs.TextOf.{unnamed, text_of}
use Rattle.print_table.specs.Depths.{is_deep}
use Rattle.tree_print.specs.Taken.{capped}
use Rattle.tree_print.specs.declared.print.PrintKind.{PrintKind}
use Rattle.tree_print.specs.declared.print.PrintKind.TheVariants as kinds

-- more than 67,108,864, or else another cause
abbrev pub too_big : ℕ → Option PrintKind → Option PrintKind
too_big n more = cond (nat_lt 67_108_864 n) (Some (kinds.TooBig (capped n) 67_108_864)) more

-- too deep a part, or none
abbrev pub too_deep : Bool → Option PrintKind
too_deep true = Some kinds.TooDeep
too_deep false = None

-- too great a weight of the component that the text spells, which holds no core module whatever these weigh; or else too deep a part
abbrev pub weight_cause : Scope → Option PrintKind
weight_cause b = too_big (weight (λ c. 0) (unnamed b)) (too_deep (is_deep b))

-- the first of the causes that lie in its size: too many bytes, its weight, its depth
abbrev pub size_cause : Scope → Option PrintKind
size_cause b = too_big (length (text_of b)) (weight_cause b)

-- the first of all causes: a core module, no text, its size
abbrev pub cause : Scope → Option PrintKind
cause b = cond (holds_module b) (Some kinds.CoreModule) (cond (has_text (unnamed b)) (size_cause b) (Some kinds.NoText))

-- want of memory, or the cause
abbrev pub Refuses : Scope → PrintKind → Type 0
Refuses b k = (k ≡ kinds.NoMemory) ⊎ (cause b ≡ Some k)
