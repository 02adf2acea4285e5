-- The last leaf of a canonical function with options is the list of them.
use Rattle.std.proofs.Common.{◌≡◌, ℕ, zero, suc, ◌<◌, refl, sym, ap, ◌∙◌, arith}
use Rattle.comp_model.specs.declared.row.Row.{Row}
use Rattle.comp_model.specs.declared.row.Row.TheVariants as rows
use Rattle.comp_model.specs.Model.{Leaf, Leaves, no_leaf, ◌▸◌, row}
use Rattle.item_read.specs.Leaves.{IsList}
use Rattle.item_read.specs.Parts.{count, at, last}
use Rattle.item_read.specs.Rows.{IsOption, IsWithOptions}

-- what is said of the last of so many leaves
last_at : (P : Leaf → Type 0) (ls : Leaves) (n : ℕ) → count ls ≡ suc n → P (at n ls) → (0 < count ls) × P (last ls)
last_at P no_leaf n e h = absurd (omega (arith, e))
last_at P (a ▸ no_leaf) zero e h = (omega arith, h)
last_at P (a ▸ no_leaf) (suc n) e h = absurd (omega (arith, e))
last_at P (a ▸ (b ▸ ls)) zero e h = absurd (omega (arith, e))
last_at P (a ▸ (b ▸ ls)) (suc n) e h = (omega arith, (last_at P (b ▸ ls) n (omega (arith, e)) h).1)

options_last : (u : Row) (ls : Leaves) → IsWithOptions (row u ls) → (0 < count ls) × IsList IsOption (last ls)
options_last rows.Lift ls h = last_at (IsList IsOption) ls 2 h.0 h.3
options_last rows.Lower ls h = last_at (IsList IsOption) ls 1 h.0 h.2
options_last rows.TaskReturn ls h = last_at (IsList IsOption) ls 1 h.0 h.2
options_last rows.StreamRead ls h = last_at (IsList IsOption) ls 1 h.0 h.2
options_last rows.StreamWrite ls h = last_at (IsList IsOption) ls 1 h.0 h.2
options_last rows.FutureRead ls h = last_at (IsList IsOption) ls 1 h.0 h.2
options_last rows.FutureWrite ls h = last_at (IsList IsOption) ls 1 h.0 h.2
options_last rows.ErrorContextNew ls h = last_at (IsList IsOption) ls 0 h.0 h.1
options_last rows.ErrorContextDebugMessage ls h = last_at (IsList IsOption) ls 0 h.0 h.1
options_last _ ls h = absurd h

pub some_leaf : (u : Row) (ls : Leaves) → IsWithOptions (row u ls) → 0 < count ls
some_leaf u ls h = (options_last u ls h).0

pub are_options : (u : Row) (ls : Leaves) → IsWithOptions (row u ls) → IsList IsOption (last ls)
are_options u ls h = (options_last u ls h).1

-- where nothing stands in front of them
alone : (ls : Leaves) → count ls ≡ 1 → last ls ▸ no_leaf ≡ ls
alone no_leaf e = absurd (omega (arith, e))
alone (a ▸ no_leaf) e = refl
alone (a ▸ (b ▸ ls)) e = absurd (omega (arith, e))

pub options_alone : (u v : Row) (ls : Leaves) (l : Leaf) → v ≡ u → count ls ≡ 1 → l ≡ last ls → row u (l ▸ no_leaf) ≡ row v ls
options_alone u v ls l e c h = ap (λ k. row u (k ▸ no_leaf)) h ∙ ap (row u) (alone ls c) ∙ ap (λ r. row r ls) (sym e)
