-- What a text is, by the leaves of its definition.
use Rattle.std.proofs.Common.{◌≡◌, refl, ℕ, Bool, true, false, cond, List, [], ◌∷◌, length}
use Rattle.comp_model.specs.CoreModules.{CoreModule}
use Rattle.comp_model.specs.Model.{Names, define, row, Leaves}
use Rattle.comp_model.specs.declared.row.Row.TheVariants as rows
use Rattle.comp_model.specs.declared.row.Row.{Row}
use Rattle.comp_model.specs.RowNumbers.{same_row}
use Rattle.comp_tree.specs.Model.{core_at}
use Rattle.comp_tree.specs.Lists.{listed}
use Rattle.comp_tree.specs.declared.tree.Leaf.{Leaf}
use Rattle.wast_component.specs.Whole.{Whole, a_module, of_leaf, of_leaves, whole_of}

-- a core module in the place of a component
pub core_alone : (cores : List CoreModule) (n offset : ℕ) → a_module offset ≡ of_leaf offset (core_at cores n)
core_alone [] n offset = refl
core_alone (c ∷ cs) ℕ.zero offset = refl
core_alone (c ∷ cs) (ℕ.suc n) offset = core_alone cs n offset

-- another row, and leaves that aren't one alone
pub other_row : (names : Names) (t : Row) (ls : Leaves) → same_row t rows.Component ≡ false → a_module names.offset ≡ whole_of (define names (row t ls))
other_row names t ls h = rw h refl

several : (cores : List CoreModule) (offset : ℕ) (xs : List Leaf) → ((length xs ≡ 1) → ⊥) → a_module offset ≡ of_leaves offset (listed cores xs)
several cores offset [] h = refl
several cores offset (x ∷ []) h = absurd (h refl)
several cores offset (x ∷ y ∷ xs) h = refl

either : (b : Bool) (offset : ℕ) (w : Whole) → a_module offset ≡ w → a_module offset ≡ cond b w (a_module offset)
either true offset w h = h
either false offset w h = refl

pub other_leaves : (cores : List CoreModule) (names : Names) (t : Row) (xs : List Leaf) → ((length xs ≡ 1) → ⊥) → a_module names.offset ≡ whole_of (define names (row t (listed cores xs)))
other_leaves cores names t xs h = either (same_row t rows.Component) names.offset (of_leaves names.offset (listed cores xs)) (several cores names.offset xs h)
