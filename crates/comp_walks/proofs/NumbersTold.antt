-- The numbers that are gathered part by part.
use Rattle.std.proofs.Common.{◌≡◌, ℕ, ◌+◌, ◌≤◌, true, false, cond, nat_lt, List, [], ◌∷◌, ◌++◌, length, refl, sym, ap, ◌∙◌, arith, append_assoc, append-nil, length-append}
use Rattle.std.proofs.lemmas.Bool.Decides.{nat_tests}
use Rattle.comp_model.specs.Core.{CoreValue, ref_numeral, ref_name}
use Rattle.comp_model.specs.Model as m
use Rattle.comp_model.specs.Model.{Leaf, Leaves, no_leaf, ◌▸◌, row, Nodes, no_node, one_node, scope_of}
use Rattle.comp_scopes.specs.References.{references, references_leaf, references_nodes}
use Rattle.comp_model.specs.Events.{told_leaf, told_leaves, told_nodes, enters_none}
use Rattle.comp_model.proofs.Told.{none-told}
use Rattle.comp_walks.specs.Gathered.{Gathered, numbers, numbers_of, numbers_of_nodes, own_numbers, pushed, pushes, gather_step}

pushes-both : (a b : List ℕ) (g : Gathered) → pushes b (pushes a g) ≡ pushes (a ++ b) g
pushes-both [] b g = refl
pushes-both (n ∷ a) b g = pushes-both a b (pushed n g)

mutual
  pub leaves_gathered : (ls : Leaves) (g : Gathered) → told_leaves gather_step enters_none ls g ≡ pushes (numbers ls) g
  leaves_gathered no_leaf g = refl
  leaves_gathered (l ▸ ls) g = ap (told_leaves gather_step enters_none ls) (leaf_gathered l g) ∙ leaves_gathered ls (pushes (numbers_of l) g) ∙ pushes-both (numbers_of l) (numbers ls) g

  leaf_gathered : (l : Leaf) (g : Gathered) → told_leaf gather_step enters_none l g ≡ pushes (numbers_of l) g
  leaf_gathered (m.ref s (m.inline (row t ls))) g = leaves_gathered ls (pushed 0 g)
  leaf_gathered (m.ref s (m.bundle (row t ls))) g = leaves_gathered ls (pushed 0 g)
  leaf_gathered (m.present (m.node (row t ls))) g = leaves_gathered ls g
  leaf_gathered (m.present l) g = leaf_gathered l g
  leaf_gathered (m.node (row t ls)) g = leaves_gathered ls g
  leaf_gathered (m.nodes ns) g = nodes_gathered ns g
  leaf_gathered (m.scope (scope_of k id label ds)) g = none-told gather_step ds g
  leaf_gathered l g = refl

  nodes_gathered : (ns : Nodes) (g : Gathered) → told_nodes gather_step enters_none ns g ≡ pushes (numbers_of_nodes ns) g
  nodes_gathered no_node g = refl
  nodes_gathered (one_node (row t ls) ns) g = ap (told_nodes gather_step enters_none ns) (leaves_gathered ls g) ∙ nodes_gathered ns (pushes (numbers ls) g) ∙ pushes-both (numbers ls) (numbers_of_nodes ns) g

-- there are as many numbers as references
value_count : (v : CoreValue) → length (own_numbers (m.core_value v)) ≡ references_leaf (m.core_value v)
value_count (ref_numeral b o n) = refl
value_count (ref_name b r x) = refl
value_count v = refl

mutual
  leaves_count : (ls : Leaves) → length (numbers ls) ≡ references ls
  leaves_count no_leaf = refl
  leaves_count (l ▸ ls) = let a = leaf_count l in let b = leaves_count ls in length-append (numbers_of l) (numbers ls) ∙ omega (arith, a, b)

  leaf_count : (l : Leaf) → length (numbers_of l) ≡ references_leaf l
  leaf_count (m.core_value v) = value_count v
  leaf_count (m.ref s (m.inline (row t ls))) = let a = leaves_count ls in omega (arith, a)
  leaf_count (m.ref s (m.bundle (row t ls))) = let a = leaves_count ls in omega (arith, a)
  leaf_count (m.present l) = leaf_count l
  leaf_count (m.node (row t ls)) = leaves_count ls
  leaf_count (m.nodes ns) = nodes_count ns
  leaf_count (m.scope s) = refl
  leaf_count l = refl

  nodes_count : (ns : Nodes) → length (numbers_of_nodes ns) ≡ references_nodes ns
  nodes_count no_node = refl
  nodes_count (one_node (row t ls) ns) = let a = leaves_count ls in let b = nodes_count ns in length-append (numbers ls) (numbers_of_nodes ns) ∙ omega (arith, a, b)

-- where there is room, all are kept
kept : (ns xs : List ℕ) (room : ℕ) → length xs + length ns ≤ room → (pushes ns (record { numbers = xs; room = room; full = false })).numbers ≡ xs ++ ns
kept [] xs room h = sym (append-nil xs)
kept (n ∷ ns) xs room h =
    let fits : nat_lt (length xs) room ≡ true = grind (arith, nat_tests) in
    let l : length (xs ++ n ∷ []) ≡ length xs + 1 = length-append xs (n ∷ []) in
    ap (λ b. (pushes ns (cond b (record { numbers = xs ++ n ∷ []; room = room; full = false }) (record { numbers = xs; room = room; full = true }))).numbers) fits
    ∙ kept ns (xs ++ n ∷ []) room (omega (arith, l, h)) ∙ append_assoc xs (n ∷ []) ns

pub gathered : (ls : Leaves) (g h : Gathered) → g.numbers ≡ [] → g.full ≡ false → references ls ≤ g.room → h ≡ told_leaves gather_step enters_none ls g → h.numbers ≡ numbers ls
gathered ls g h e f room d =
    let c = leaves_count ls in
    ap (λ q. q.numbers) (d ∙ leaves_gathered ls g)
    ∙ ap (λ xs. (pushes (numbers ls) (record { numbers = xs; room = g.room; full = g.full })).numbers) e
    ∙ ap (λ b. (pushes (numbers ls) (record { numbers = []; room = g.room; full = b })).numbers) f
    ∙ kept (numbers ls) [] g.room (omega (arith, c))
