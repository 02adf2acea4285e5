-- A definition of a binary component declares fewer than 2^32 items: a list and the number of results stand in one row each, and of every other
-- row a leaf gives one at most.
use Rattle.std.proofs.Common.{◌≡◌, ℕ, zero, suc, ◌+◌, ◌≤◌, ◌<◌, ◌^◌, List, [], ◌∷◌, ◌++◌, length, length-append, refl, ap, arith, Bool, true, false, ◌&&◌, Option, Some, None, if◌then◌else◌}
use Rattle.std.proofs.lemmas.List.{length-replicate}
use Rattle.std.specs.Prelude.{nat_lt}
use Rattle.std.proofs.lemmas.Bool.Decides.{nat_tests}
use Rattle.std.specs.List.{list_all}
use Rattle.comp_model.specs.declared.Space.{Space}
use Rattle.comp_model.specs.declared.Space.TheVariants.{CoreType, Func, Value}
use Rattle.comp_model.specs.declared.declares.Declares.{Declares}
use Rattle.comp_model.specs.declared.declares.Declares.TheVariants.{Always, ByKind, ByDescription, ByReference, ByList, ByResults, Nothing}
use Rattle.comp_model.specs.declared.row.Row.TheVariants as rows
use Rattle.comp_model.specs.declared.row.Row.{Row}
use Rattle.comp_model.specs.RowNumbers.{same_row}
use Rattle.comp_model.specs.Model as m
use Rattle.comp_model.specs.Model.{Leaf, Leaves, no_leaf, ◌▸◌, row, count_nodes}
use Rattle.comp_model.specs.Spaces.{declares_by, described, leaf_spaces, leaves_spaces, spaces_by, declares_row}
use Rattle.comp_wire.specs.Table as t
use Rattle.comp_wire.specs.Table.{Family, Line, lines}
use Rattle.comp_wire.specs.Sections.{Word}
use Rattle.comp_wire.specs.Spelled.{find, FitsLine, FitsLeaf, fits_at, fits_leaves, FitsNode}
use Rattle.comp_wire.proofs.Groups.{and_both}
use Rattle.comp_list.proofs.SomeBytes.{not_true}

-- whether one leaf may give many items
abbrev gives_many : Declares → Bool
gives_many ByList = true
gives_many ByResults = true
gives_many _ = false

described_few : (u : Row) → length (described u) ≤ 1
described_few rows.ModuleDescription = omega arith
described_few _ = omega arith

leaf_few : (l : Leaf) (d : Declares) → gives_many d ≡ false → length (leaf_spaces l d) ≤ 1
leaf_few (m.node (row u ls)) ByDescription e = described_few u
leaf_few l ByList e = cc
leaf_few l ByResults e = cc
leaf_few (m.kind s) ByKind e = omega arith
leaf_few (m.ref s x) ByReference e = omega arith
leaf_few l d e = omega arith

leaves_few : (ls : Leaves) (d : Declares) → gives_many d ≡ false → length (leaves_spaces ls d) ≤ length (fits_leaves ls)
leaves_few no_leaf d e = omega arith
leaves_few (l ▸ ls) d e = omega (arith, length-append (leaf_spaces l d) (leaves_spaces ls d), leaf_few l d e, leaves_few ls d e)

spaces_few : (ls : Leaves) (d : Declares) → gives_many d ≡ false → length (spaces_by d ls) ≤ 1 + length (fits_leaves ls)
spaces_few ls (Always s) e = omega arith
spaces_few ls Nothing e = omega arith
spaces_few ls ByKind e = omega (arith, leaves_few ls ByKind e)
spaces_few ls ByDescription e = omega (arith, leaves_few ls ByDescription e)
spaces_few ls ByReference e = omega (arith, leaves_few ls ByReference e)
spaces_few ls ByList e = cc
spaces_few ls ByResults e = cc

-- no row has more than eight leaves
abbrev has_few : Line → Bool
has_few l = nat_lt l.leaves 9

lines_have_few : (f : Family) → list_all has_few (lines f) ≡ true
lines_have_few t.types = refl
lines_have_few _ = refl

few_in_line : (u : Row) (ls : Leaves) (ks : List Line) → list_all has_few ks ≡ true → FitsLine (find u ks) (fits_leaves ls) → length (fits_leaves ls) < 9
few_in_line u ls [] e h = absurd h
few_in_line u ls (k ∷ ks) e h = go (same_row u k.tag) (few_in_line u ls ks (and_both (has_few k) _ e).1) h
  where
    go : (b : Bool) → (FitsLine (find u ks) (fits_leaves ls) → length (fits_leaves ls) < 9) → FitsLine (if b then Some k else find u ks) (fits_leaves ls) → length (fits_leaves ls) < 9
    go true others h = let few = (and_both (has_few k) _ e).0 in grind (arith, nat_tests, few, h.0)
    go false others h = others h

-- ---- the two rows of which one leaf gives many

list_given : (ls : Leaves) (f : Family) → length (fits_leaves ls) ≡ 1 → fits_at 0 (t.each f) (fits_leaves ls) → Word (length (leaves_spaces ls ByList))
list_given no_leaf f e h = absurd h
list_given (m.nodes ns ▸ no_leaf) f e h = omega (arith, length-append (leaf_spaces (m.nodes ns) ByList) [], length-replicate (count_nodes ns) CoreType, h.0)
list_given (l ▸ no_leaf) f e h = absurd h
list_given (l ▸ k ▸ ls) f e h = absurd (omega (arith, e))

of_reference : (l : Leaf) (s : Space) → FitsLeaf l (t.index_in s) → length (leaf_spaces l ByResults) ≡ 0
of_reference (m.ref u x) s h = refl
of_reference l s h = absurd h

of_list : (l : Leaf) (f : Family) → FitsLeaf l (t.each f) → length (leaf_spaces l ByResults) ≡ 0
of_list (m.nodes ns) f h = refl
of_list l f h = absurd h

of_results : (l : Leaf) → FitsLeaf l t.results → Word (length (leaf_spaces l ByResults))
of_results (m.result_count n) h = omega (arith, length-replicate n Value, h)
of_results l h = absurd h

results_given : (ls : Leaves) (s : Space) (f : Family) → length (fits_leaves ls) ≡ 3 → fits_at 0 (t.index_in s) (fits_leaves ls) → fits_at 1 (t.each f) (fits_leaves ls) → fits_at 2 t.results (fits_leaves ls)
    → Word (length (leaves_spaces ls ByResults))
results_given no_leaf s f e a b h = absurd a
results_given (l ▸ no_leaf) s f e a b h = absurd b
results_given (l ▸ k ▸ no_leaf) s f e a b h = absurd h
results_given (l ▸ k ▸ j ▸ no_leaf) s f e a b h =
    omega (
      arith,
      length-append (leaf_spaces l ByResults) (leaf_spaces k ByResults ++ (leaf_spaces j ByResults ++ [])),
      length-append (leaf_spaces k ByResults) (leaf_spaces j ByResults ++ []),
      length-append (leaf_spaces j ByResults) [],
      of_reference l s a,
      of_list k f b,
      of_results j h,
    )
results_given (l ▸ k ▸ j ▸ i ▸ ls) s f e a b h = absurd (omega (arith, e))

group_few : (f : Family) (ls : Leaves) → FitsNode (row rows.CoreRec ls) f → Word (length (leaves_spaces ls ByList))
group_few t.core_types ls h = list_given ls t.core_functions h.0 h.1.0
group_few t.component_declarations ls h = list_given ls t.core_functions h.0 h.1.0
group_few t.instance_declarations ls h = list_given ls t.core_functions h.0 h.1.0
group_few t.module_declarations ls h = list_given ls t.core_functions h.0 h.1.0
group_few _ ls h = absurd h

start_few : (f : Family) (ls : Leaves) → FitsNode (row rows.Start ls) f → Word (length (leaves_spaces ls ByResults))
start_few t.starts ls h = results_given ls Func t.start_arguments h.0 h.1.0 h.1.1.0 h.1.1.1.0
start_few _ ls h = absurd h

many_few : (f : Family) (u : Row) (ls : Leaves) → FitsNode (row u ls) f → gives_many (declares_by u) ≡ true → Word (length (declares_row u ls))
many_few f rows.CoreRec ls h e = group_few f ls h
many_few f rows.Start ls h e = start_few f ls h
many_few f _ ls h e = absurd (not_true e)

pub few_declared : (f : Family) (u : Row) (ls : Leaves) → FitsNode (row u ls) f → Word (length (declares_row u ls))
few_declared f u ls h = go (gives_many (declares_by u)) refl
  where
    go : (b : Bool) → gives_many (declares_by u) ≡ b → Word (length (declares_row u ls))
    go true e = many_few f u ls h e
    go false e = omega (arith, spaces_few ls (declares_by u) e, few_in_line u ls (lines f) (lines_have_few f) h)
