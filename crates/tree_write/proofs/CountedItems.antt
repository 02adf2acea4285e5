-- How many items of each space definitions declare, run by run.
use Rattle.std.proofs.Common.{◌≡◌, ℕ, ◌+◌, ◌*◌, ◌-◌, ◌^◌, ◌<◌, ◌≤◌, List, length, drop, get_or, set, replicate, refl, sym, ◌∙◌, ap, arith, Bool, true, false}
use Rattle.std.proofs.lemmas.Bool.{eqb-true, eqb-false}
use Rattle.comp_model.specs.declared.Space.{Space}
use Rattle.comp_model.specs.declared.Space.TheVariants as space
use Rattle.comp_model.specs.CoreModules.{CoreModule}
use Rattle.comp_model.specs.declared.declares.Declares.{Declares}
use Rattle.comp_model.specs.Spaces.{same_space, code_of_space, count_in, leaf_spaces, leaves_spaces}
use Rattle.comp_tree.specs.Model.{leaf_of}
use Rattle.comp_tree.specs.Lists.{listed}
use Rattle.comp_tree.specs.Spaces.{run_of}
use Rattle.comp_tree.specs.declared.declares.Run.{Run}
use Rattle.comp_tree.specs.declared.tree.Leaf.{Leaf}
use Rattle.tree_write.specs.CountedItems.{count_of, items_in, most_of_def, most_items, no_items}
use Rattle.tree_write.specs.declared.space_counts.Items.{Items}
use Rattle.tree_write.proofs.ItemNames.{counted_same, counted_other, count_found, leaf_counted, all_counted, got_set, got_other}

-- before the first definition
pub none_counted : (s : Space) → count_of s (replicate 13 no_items) ≡ 0
none_counted space.CoreFunc = refl
none_counted _ = refl

-- one count is changed: that of a space
pub run_counted : (s u : Space) (counts new : List Items) (n : ℕ) (y : Items) (count : ℕ) → n ≡ code_of_space u → n < length counts → new ≡ set counts n y
    → (items_in (get_or counts n no_items) + count < 2 ^ 192 → items_in y ≡ items_in (get_or counts n no_items) + count) → count < 2 ^ 64 → count_of s counts ≤ most_items
    → count_of s new ≡ count_of s counts + count_in s (replicate count u)
run_counted s u counts new n y count code few is f b h = go (same_space s u) refl
  where
    go : (c : Bool) → same_space s u ≡ c → count_of s new ≡ count_of s counts + count_in s (replicate count u)
    go true q =
        let here = ap (count_of s) is ∙ ap (λ k. items_in (get_or (set counts n y) k no_items)) (eqb-true (code_of_space s) (code_of_space u) q ∙ sym code) ∙ ap items_in (got_set counts n y no_items few) in
        let there = count_found s u counts n (items_in (get_or counts n no_items)) code refl q in
        let added = f (omega (arith, there, h, b)) in
        omega (arith, here, there, added, counted_same s count u q)
    go false q =
        let kept = ap (count_of s) is ∙ ap items_in (got_other counts n (code_of_space s) y no_items (λ z. eqb-false (code_of_space s) (code_of_space u) q (sym z ∙ code))) in
        omega (arith, kept, counted_other s u count q)

pub run_few : (s u : Space) (n : ℕ) → n < 2 ^ 64 → count_in s (replicate n u) ≤ 2 ^ 64 - 1
run_few s u n h = go (same_space s u) refl
  where
    go : (c : Bool) → same_space s u ≡ c → count_in s (replicate n u) ≤ 2 ^ 64 - 1
    go true q = let e = counted_same s n u q in omega (arith, e, h)
    go false q = let e = counted_other s u n q in omega (arith, e)

-- ---- leaves

module _ (cores : List CoreModule) where
  abbrev items_left : Space → ℕ → List Leaf → Declares → ℕ
  items_left s i xs d = count_in s (leaves_spaces (listed cores (drop i xs)) d)

  pub counts_turn : (s : Space) (i : ℕ) (xs : List Leaf) (x : Leaf) (d : Declares) (r : Run) (init now new all : ℕ) → i < length xs → length xs < 2 ^ 64 → x ≡ get_or xs i x → run_of r ≡ leaf_spaces (leaf_of cores x) d
      → init + most_of_def ≤ most_items → (now ≤ most_items → new ≡ now + count_in s (run_of r)) → all ≤ i * (2 ^ 64 - 1) + items_left s i xs d → now + items_left s i xs d ≡ init + all → new + items_left s (i + 1) xs d ≡ init + all
  counts_turn s i xs x d r init now new all h w e g b f k l = leaf_counted cores s i xs x d r now new (init + all) h e g (f (omega (arith, h, w, b, k, l))) l

  pub few_turn : (s : Space) (i : ℕ) (xs : List Leaf) (x : Leaf) (d : Declares) (r : Run) (all : ℕ) → i < length xs → x ≡ get_or xs i x → run_of r ≡ leaf_spaces (leaf_of cores x) d
      → count_in s (run_of r) ≤ 2 ^ 64 - 1 → all ≤ i * (2 ^ 64 - 1) + items_left s i xs d → all ≤ (i + 1) * (2 ^ 64 - 1) + items_left s (i + 1) xs d
  few_turn s i xs x d r all h e g b k = let split = leaf_counted cores s i xs x d r 0 (count_in s (run_of r)) (items_left s i xs d) h e g (omega arith) (omega arith) in omega (arith, b, k, split)

  pub few_end : (s : Space) (i : ℕ) (xs : List Leaf) (d : Declares) (all : ℕ) → length xs ≤ i → i ≤ length xs → length xs < 2 ^ 64 → all ≤ i * (2 ^ 64 - 1) + items_left s i xs d → all ≤ most_of_def
  few_end s i xs d all h q w k = let none = all_counted cores s i xs d 0 (items_left s i xs d) h (omega arith) in omega (arith, h, q, w, k, none)
