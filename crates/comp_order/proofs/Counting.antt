-- Items counted along definitions and their leaves.
use Rattle.std.proofs.Common.{◌≡◌, ℕ, zero, suc, ◌+◌, ◌<◌, ◌≤◌, ◌^◌, refl, sym, ap, ◌∙◌, Bool, true, false, cond, List, ◌∷◌, ◌++◌, length, filter, replicate, arith}
use Rattle.std.proofs.lemmas.Bool.{cond_below, cond_above}
use Rattle.std.proofs.lemmas.List.{length-append}
use Rattle.std.proofs.lemmas.List.Elements.{filter-append}
use Rattle.comp_model.specs.declared.Space.{Space}
use Rattle.comp_model.specs.Model.{Node, row, Defs, no_def, one_def, Def, Leaves}
use Rattle.comp_model.specs.declared.row.Row.{Row}
use Rattle.wire_tree.specs.declared.tree.Leaf.{Leaf}
use Rattle.wire_tree.specs.Lists.{listed}
use Rattle.wire_tree.specs.Model.{leaf_of}
use Rattle.comp_list.specs.declared.runs.Run.{Run}
use Rattle.comp_list.specs.Places.{row_of, row_leaves, row_spaces}
use Rattle.comp_list.specs.Runs.{run_of}
use Rattle.comp_model.specs.declared.declares.Declares.{Declares}
use Rattle.comp_model.specs.Spaces.{same_space, count_in, count_items, declares, declares_row, append_defs, leaf_spaces, leaves_spaces}
use Rattle.comp_order.specs.Counts.{capped, counted, HasCounts}
use Rattle.comp_order.specs.declared.verdict.Verdict.TheVariants.{InOrder, Early}
use Rattle.comp_order.specs.Order.{may_name_itself, verdict_below}
use Rattle.comp_order.specs.Before.{HasOwn}

pub count_in_app : (s : Space) (xs ys : List Space) → count_in s (xs ++ ys) ≡ count_in s xs + count_in s ys
count_in_app s xs ys = ap length (filter-append (same_space s) xs ys) ∙ length-append (filter (same_space s) xs) (filter (same_space s) ys)

-- so many items of one space
pub count_run : (s t : Space) (n : ℕ) → count_in s (replicate n t) ≡ cond (same_space s t) n 0
count_run s t zero = go (same_space s t)
  where
    go : (b : Bool) → zero ≡ cond {A = ℕ} b zero zero
    go true = refl
    go false = refl
count_run s t (suc n) = go (same_space s t) (count_run s t n)
  where
    go : (b : Bool) → length (filter (same_space s) (replicate n t)) ≡ cond {A = ℕ} b n 0
        → length (cond {A = List Space} b (t ∷ filter (same_space s) (replicate n t)) (filter (same_space s) (replicate n t))) ≡ cond {A = ℕ} b (suc n) 0
    go true e = ap suc e
    go false e = e

pub count_items_app : (s : Space) (ds es : Defs) → count_items s (append_defs ds es) ≡ count_items s ds + count_items s es
count_items_app s no_def es = omega arith
count_items_app s (one_def d ds) es = let e : count_items s (append_defs ds es) ≡ count_items s ds + count_items s es = count_items_app s ds es in omega (arith, e)

pub capped_both : (a b c : ℕ) → capped a ≡ capped b → capped (a + c) ≡ capped (b + c)
capped_both a b c e = omega (arith, e)

pub capped_sum : (a b c d : ℕ) → capped a ≡ capped b → capped c ≡ capped d → capped (a + c) ≡ capped (b + d)
capped_sum a b c d e f = omega (arith, e, f)

-- what is said of a number of 32 bits, by what stands for the one that it is compared with
pub below_yes : (i count n : ℕ) → i < count → count < 2 ^ 64 → capped count ≡ capped n → InOrder ≡ verdict_below i n
below_yes i count n h f e = cond_below i n InOrder Early (omega (arith, h, f, e))

pub below_no : (i count n : ℕ) → count ≤ i → i < 2 ^ 32 → capped count ≡ capped n → Early ≡ verdict_below i n
below_no i count n h f e = cond_above i n InOrder Early Early (omega (arith, h, f, e)) refl

-- a definition more
pub counts_more : (old new : List ℕ) (ds : Defs) (d : Def) → HasCounts old ds → ((s : Space) → capped (counted new s) ≡ capped (counted old s + count_in s (declares d))) → HasCounts new (append_defs ds (one_def d no_def))
counts_more old new ds d h g s =
    let all : count_items s (append_defs ds (one_def d no_def)) ≡ count_items s ds + (count_in s (declares d) + 0) = count_items_app s ds (one_def d no_def) in
    omega (arith, all, g s, h s)

-- what counts of a definition's own
pub no_own : (cs : List ℕ) (t : Row) (ls : Leaves) → may_name_itself t ≡ false → ((s : Space) → counted cs s ≡ 0) → HasOwn cs t ls
no_own cs t ls e h s = ap capped (h s) ∙ ap (λ b. capped (cond b (count_in s (declares_row t ls)) 0)) (sym e)

pub some_own : (old new : List ℕ) (t : Row) (ls : Leaves) → may_name_itself t ≡ true → ((s : Space) → counted old s ≡ 0) → ((s : Space) → capped (counted new s) ≡ capped (counted old s + count_in s (declares_row t ls))) → HasOwn new t ls
some_own old new t ls e h g s =
    let z : counted old s + count_in s (declares_row t ls) ≡ count_in s (declares_row t ls) = omega (arith, h s) in
    g s ∙ ap capped z ∙ ap (λ b. capped (cond b (count_in s (declares_row t ls)) 0)) (sym e)

pub some_own_row : (old new : List ℕ) (n : Node) → may_name_itself (row_of n) ≡ true → ((s : Space) → counted old s ≡ 0) → ((s : Space) → capped (counted new s) ≡ capped (counted old s + count_in s (row_spaces n))) → HasOwn new (row_of n) (row_leaves n)
some_own_row old new (row t ls) e h g = some_own old new t ls e h g

capped_twice : (k : ℕ) → capped (capped k) ≡ capped k
capped_twice k = omega arith

-- a run of items more, whose space is one or another
pub run_counted : (old new : List ℕ) (s t : Space) (n : ℕ) → counted new s ≡ cond (same_space s t) (capped (counted old s + n)) (counted old s) → capped (counted new s) ≡ capped (counted old s + count_in s (replicate n t))
run_counted old new s t n e = ap capped e ∙ go (same_space s t) ∙ ap (λ k. capped (counted old s + k)) (sym (count_run s t n))
  where
    go : (b : Bool) → capped (cond {A = ℕ} b (capped (counted old s + n)) (counted old s)) ≡ capped (counted old s + cond {A = ℕ} b n 0)
    go true = capped_twice (counted old s + n)
    go false = let z : counted old s ≡ counted old s + 0 = omega arith in ap capped z

pub leaf_counted : (s : Space) (by : Declares) (x : Leaf) (xs : List Leaf) (run : Run) (old new : List ℕ)
    → run_of run ≡ leaf_spaces (leaf_of x) by → capped (counted new s) ≡ capped (counted old s + count_in s (run_of run))
    → capped (counted new s + count_in s (leaves_spaces (listed xs) by)) ≡ capped (counted old s + count_in s (leaves_spaces (listed (x ∷ xs)) by))
leaf_counted s by x xs run old new e m =
    let n = count_in s (leaves_spaces (listed xs) by) in
    let z : counted old s + count_in s (run_of run) + n ≡ counted old s + (count_in s (run_of run) + n) = omega arith in
    capped_both (counted new s) (counted old s + count_in s (run_of run)) n m
    ∙ ap capped z
    ∙ ap (λ q. capped (counted old s + (count_in s q + n))) e
    ∙ ap (λ k. capped (counted old s + k)) (sym (count_in_app s (leaf_spaces (leaf_of x) by) (leaves_spaces (listed xs) by)))
