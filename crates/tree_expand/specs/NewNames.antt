-- How often a number stands in the ids of a scope, those of the scopes in it too, and that those which a counter made stand there once.
use Rattle.std.specs.Prelude.{◌≡◌, ℕ, ◌+◌, ◌<◌, ◌≤◌, Bool, true, false, nat_eq, List, [], ◌∷◌, Option, Some, None}
use Rattle.comp_model.specs.Core.{Id}
use Rattle.comp_model.specs.Model.{Leaf, ref, present, node, nodes, scope, inline, bundle, Leaves, no_leaf, ◌▸◌, row, Nodes, no_node, one_node, define, Defs, no_def, one_def, Scope, scope_of}

abbrev pub hit : Bool → ℕ
hit true = 1
hit false = 0

-- how many of these ids have the number n
abbrev pub occurs : ℕ → List (Option Id) → ℕ
occurs n [] = 0
occurs n (None ∷ ids) = occurs n ids
occurs n (Some x ∷ ids) = hit (nat_eq x.number n) + occurs n ids

module _ (n : ℕ) where
  -- how many ids of definitions and scopes have it, in the leaves of a definition
  abbrev mutual
    pub times_in_leaves : Leaves → ℕ
    times_in_leaves no_leaf = 0
    times_in_leaves (l ▸ ls) = times_in_leaf l + times_in_leaves ls

    pub times_in_leaf : Leaf → ℕ
    times_in_leaf (ref s (inline (row t ls))) = times_in_leaves ls
    times_in_leaf (ref s (bundle (row t ls))) = times_in_leaves ls
    times_in_leaf (present l) = times_in_leaf l
    times_in_leaf (node (row t ls)) = times_in_leaves ls
    times_in_leaf (nodes ns) = times_in_nodes ns
    times_in_leaf (scope (scope_of k id label ds)) = occurs n (id ∷ []) + times_in_defs ds
    times_in_leaf _ = 0

    pub times_in_nodes : Nodes → ℕ
    times_in_nodes no_node = 0
    times_in_nodes (one_node (row t ls) ns) = times_in_leaves ls + times_in_nodes ns

    pub times_in_defs : Defs → ℕ
    times_in_defs no_def = 0
    times_in_defs (one_def (define ns (row t ls)) ds) = occurs n ns.ids + times_in_leaves ls + times_in_defs ds

  abbrev pub times : Scope → ℕ
  times (scope_of k id label ds) = occurs n (id ∷ []) + times_in_defs ds

-- Each number above m and up to w is that of one id at most, and no other number but 0, which ids of the text have, is that of any.
pub record Between (m w : ℕ) (f : ℕ → ℕ) : Type 0 where
  pub grows : m ≤ w
  pub once : (n : ℕ) → 0 < n → f n ≤ 1
  pub low : (n : ℕ) → 0 < n → n ≤ m → f n ≡ 0
  pub high : (n : ℕ) → 0 < n → w < n → f n ≡ 0

abbrev pub NamedBetween : ℕ → ℕ → Scope → Type 0
NamedBetween m w s = Between m w (λ n. times n s)
