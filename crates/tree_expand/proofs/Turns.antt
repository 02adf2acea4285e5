-- The turns and ends of the loops over leaves and over the entries of a list.
use Rattle.std.proofs.Common.{◌≡◌, ℕ, zero, suc, ◌+◌, ◌<◌, ◌≤◌, Bool, true, false, List, [], ◌∷◌, ◌++◌, length, drop, get_or, Option, refl, sym, ap, ◌∙◌, subst, arith}
use Rattle.std.proofs.lemmas.List.{take_all, drop_all}
use Rattle.comp_model.specs.declared.row.Row.TheVariants as rows
use Rattle.comp_model.specs.RowNumbers.{row_number}
use Rattle.comp_model.specs.Core.{Id}
use Rattle.comp_model.specs.CoreModules.{CoreModule}
use Rattle.comp_model.specs.Model.{Scope}
use Rattle.comp_tree.specs.declared.tree.Leaf as l
use Rattle.comp_tree.specs.declared.tree.Node.{Node, roll-Node}
use Rattle.comp_tree.specs.Model.{leaf_of}
use Rattle.comp_tree.specs.Marks.{inside_of, inside_listed, nodes_inside}
use Rattle.comp_tree.specs.Lists.{listed, nodes_listed}
use Rattle.type_keys.specs.Keys.{Part, part_end, part_row}
use Rattle.type_keys.specs.declared.key.TypeKey.{TypeKey}
use Rattle.tree_expand.specs.KeyParts.{KeyShows}
use Rattle.tree_expand.specs.Known.{Shows}
use Rattle.tree_expand.specs.Passed.{Noted}
use Rattle.tree_expand.specs.Walked.{State, so_far, chosen}
use Rattle.tree_expand.proofs.Walking.{with_key, LeafIs, LeavesAre, NodesAre, LeavesSoFar, leaves-next, leaves-ended, NodesSoFar, nodes-next, nodes-ended}

-- an item, whatever stands for one that is missing
pub got-any : {A : Type 0} (xs : List A) (i : ℕ) (d e : A) → i < length xs → get_or xs i d ≡ get_or xs i e
got-any [] i d e h = absurd (omega (arith, h))
got-any (x ∷ xs) zero d e h = refl
got-any (x ∷ xs) (suc i) d e h = got-any xs i d e (omega (arith, h))

-- where all are gone over
all-so-far : {A : Type 0} (b : Bool) (ws : List A) (i : ℕ) (all : List A) → length all ≤ i → so_far b ws i all ≡ so_far b ws (length all) all
all-so-far true ws i all h = refl
all-so-far false ws i all h = take_all i all h ∙ sym (take_all (length all) all (omega arith))

-- some node, for what is missing
abbrev pub no_node_there : Node
no_node_there = roll-Node (record { row = rows.CoreModule; span = record { offset = 0 }; leaves = record { ref_ptr = (0, 0); now = [] } })

module _ (ids : List (Option Id)) (c : Scope) (k : ℕ) (cores : List CoreModule) where
  -- behind the first i of these leaves, which have become `out`
  abbrev pub LeavesBehind : State → List l.Leaf → List l.Leaf → ℕ → State → Type 0
  LeavesBehind start all out i s = (E : List Noted) → Shows start.known E → LeavesSoFar ids c k E start (listed cores all) (listed cores out) (inside_listed cores out) (listed cores (drop i all)) s

  abbrev pub NodesBehind : State → List Node → List Node → ℕ → State → Type 0
  NodesBehind start all out i s = (E : List Noted) → Shows start.known E → NodesSoFar ids c k E start (nodes_listed cores all) (nodes_listed cores out) (nodes_inside cores out) (nodes_listed cores (drop i all)) s

  -- a turn: e is leaf i, new what it became
  pub leaves-turn : (start : State) (all ws vs : List l.Leaf) (i : ℕ) (b r now : Bool) (e new : l.Leaf) (s t : State) → drop i all ≡ e ∷ drop (i + 1) all
      → so_far r vs (i + 1) all ≡ so_far b ws i all ++ chosen now new (get_or all i new) ∷ []
      → get_or all i new ≡ e
      → (now ≡ false → new ≡ e)
      → LeavesBehind start all (so_far b ws i all) i s
      → LeafIs ids c k (leaf_of cores e) (leaf_of cores new) (inside_of cores new) s t
      → LeavesBehind start all (so_far r vs (i + 1) all) (i + 1) t
  leaves-turn start all ws vs i b r now e new s t d p g f inv w = λ E h.
      subst (λ q. LeavesSoFar ids c k E start (listed cores all) (listed cores q) (inside_listed cores q) (listed cores (drop (i + 1) all)) t) (sym (p ∙ ap (λ y. so_far b ws i all ++ y ∷ []) (same now g f)))
      (leaves-next ids c k cores E start (listed cores all) (so_far b ws i all) new (leaf_of cores e) (listed cores (drop (i + 1) all)) s t (subst (λ q. LeavesSoFar ids c k E start (listed cores all) (listed cores (so_far b ws i all)) (inside_listed cores (so_far b ws i all)) (listed cores q) s) d (inv E h)) w)
    where
      same : (n : Bool) → get_or all i new ≡ e → (n ≡ false → new ≡ e) → chosen n new (get_or all i new) ≡ new
      same true g f = refl
      same false g f = g ∙ sym (f refl)

  pub nodes-turn : (start : State) (all ws vs : List Node) (i : ℕ) (b r now : Bool) (e new : Node) (s t : State) (k1 k2 : Option TypeKey) → drop i all ≡ e ∷ drop (i + 1) all
      → so_far r vs (i + 1) all ≡ so_far b ws i all ++ chosen now new (get_or all i new) ∷ []
      → get_or all i new ≡ e
      → new.row ≡ e.row
      → (now ≡ false → new.leaves.now ≡ e.leaves.now)
      → NodesBehind start all (so_far b ws i all) i s
      → ((ps : List Part) → KeyShows s.key ps → KeyShows k1 (ps ++ part_row (row_number e.row) ∷ [])) → ((ps : List Part) → KeyShows t.key ps → KeyShows k2 (ps ++ part_end ∷ []))
      → LeavesAre ids c k (listed cores e.leaves.now) (listed cores new.leaves.now) (inside_listed cores new.leaves.now) (with_key s k1) t
      → NodesBehind start all (so_far r vs (i + 1) all) (i + 1) (with_key t k2)
  nodes-turn start all ws vs i b r now e new s t k1 k2 d p g rows f inv a z w = λ E h.
      subst (λ q. NodesSoFar ids c k E start (nodes_listed cores all) (nodes_listed cores q) (nodes_inside cores q) (nodes_listed cores (drop (i + 1) all)) (with_key t k2)) (sym p)
      (nodes-next ids c k cores E start (nodes_listed cores all) (so_far b ws i all) e (chosen now new (get_or all i new)) (nodes_listed cores (drop (i + 1) all)) s t k1 k2 (row-of now)
      (subst (λ q. NodesSoFar ids c k E start (nodes_listed cores all) (nodes_listed cores (so_far b ws i all)) (nodes_inside cores (so_far b ws i all)) (nodes_listed cores q) s) d (inv E h)) a z (leaves-of now f))
    where
      row-of : (n : Bool) → (chosen n new (get_or all i new)).row ≡ e.row
      row-of true = rows
      row-of false = ap (λ q. q.row) g

      Is : List l.Leaf → Type 0
      Is q = LeavesAre ids c k (listed cores e.leaves.now) (listed cores q) (inside_listed cores q) (with_key s k1) t

      leaves-of : (n : Bool) → (n ≡ false → new.leaves.now ≡ e.leaves.now) → Is (chosen n new (get_or all i new)).leaves.now
      leaves-of true f = w
      leaves-of false f = subst Is (f refl ∙ ap (λ q. q.leaves.now) (sym g)) w

  pub leaves-done : (start : State) (all ws out : List l.Leaf) (i : ℕ) (b : Bool) (s : State) → length all ≤ i → out ≡ so_far b ws (length all) all → LeavesBehind start all (so_far b ws i all) i s
      → LeavesAre ids c k (listed cores all) (listed cores out) (inside_listed cores out) start s
  leaves-done start all ws out i b s h o inv =
      subst (λ q. LeavesAre ids c k (listed cores all) (listed cores q) (inside_listed cores q) start s) (all-so-far b ws i all h ∙ sym o)
      (λ E g. leaves-ended ids c k cores E start (listed cores all) (so_far b ws i all) s (subst (λ q. LeavesSoFar ids c k E start (listed cores all) (listed cores (so_far b ws i all)) (inside_listed cores (so_far b ws i all)) (listed cores q) s) (drop_all i all h) (inv E g)))

  pub nodes-done : (start : State) (all ws out : List Node) (i : ℕ) (b : Bool) (s : State) → length all ≤ i → out ≡ so_far b ws (length all) all → NodesBehind start all (so_far b ws i all) i s
      → NodesAre ids c k (nodes_listed cores all) (nodes_listed cores out) (nodes_inside cores out) start s
  nodes-done start all ws out i b s h o inv =
      subst (λ q. NodesAre ids c k (nodes_listed cores all) (nodes_listed cores q) (nodes_inside cores q) start s) (all-so-far b ws i all h ∙ sym o)
      (λ E g. nodes-ended ids c k cores E start (nodes_listed cores all) (so_far b ws i all) s (subst (λ q. NodesSoFar ids c k E start (nodes_listed cores all) (nodes_listed cores (so_far b ws i all)) (nodes_inside cores (so_far b ws i all)) (nodes_listed cores q) s) (drop_all i all h) (inv E g)))
