-- Room for what is left of a list, behind its definitions, and for the scopes in it.
use Rattle.std.proofs.Common.{◌≡◌, ℕ, zero, suc, ◌+◌, ◌-◌, ◌*◌, ◌<◌, ◌≤◌, ◌^◌, refl, sym, ap, ◌∙◌, subst, List, [], ◌∷◌, length, set, replicate, Option, arith, Bor}
use Rattle.std.specs.Prelude.{get_or, slice_index}
use Rattle.comp_model.specs.CoreModules.{CoreModule}
use Rattle.comp_model.specs.declared.Space.{Space}
use Rattle.comp_model.specs.Model as m
use Rattle.comp_model.specs.Model.{Leaves, no_leaf, ◌▸◌, count_defs}
use Rattle.comp_model.specs.Spaces.{code_of_space, declares_row}
use Rattle.comp_scopes.specs.Encoding.{Encoding}
use Rattle.comp_scopes.specs.References.{references}
use Rattle.comp_tables.specs.Bounds.{most_needs, most_declared}
use Rattle.comp_tables.specs.Tables.{Counters, Opened, no_counts, advanced, first_index, past}
use Rattle.comp_tables.specs.Walks.{counters_in, one_more}
use Rattle.comp_tables.proofs.Bounds.{past-within, def-within}
use Rattle.comp_tables.proofs.Counters.{list-none}
use Rattle.comp_tree.specs.declared.tree.Def.{Def}
use Rattle.comp_tree.specs.declared.tree.Leaf as l
use Rattle.comp_tree.specs.declared.tree.Scope.{Scope}
use Rattle.comp_tree.specs.declared.tree.Scope as s
use Rattle.comp_tree.specs.Lists.{listed, defs_listed, def_of}
use Rattle.comp_tree.specs.Model.{scope_of}
use Rattle.comp_tree.proofs.Leaves.{scope_fields, leaf_scope}
use Rattle.open_scopes.specs.declared.scopes.Open.{Open}
use Rattle.open_scopes.proofs.Stacks.{some-shown}
use Rattle.tree_names.specs.declared.reading.Reading.{Reading}
use Rattle.tree_names.specs.declared.sums.Sums.{Sums}
use Rattle.tree_names.specs.Counted.{SumsShow, Summed, LeavesCounted}
use Rattle.tree_names.specs.Resolved.{NodeResolved}
use Rattle.tree_names.specs.Room.{CountersHaveRoom, SumsHaveRoom}
use Rattle.tree_names.specs.Served.{all_served, ServedFirst}
use Rattle.tree_names.specs.Size.{size_of_leaves, size_of_defs, size_of_scope}
use Rattle.tree_names.proofs.Room.{sums_behind, sums_less}
use Rattle.tree_names.proofs.Small.{references_small, declared_small, few_defs}
use Rattle.tree_resolve.specs.Made.{DefBuilt}
use Rattle.tree_resolve.specs.Tabled.{bare, DefCounted}

-- ---- counters

-- one more of a space is at most one more of any
more_at : (xs : List ℕ) (i j : ℕ) → slice_index (set xs i (slice_index xs i + 1)) j ≤ slice_index xs j + 1
more_at [] i j = omega arith
more_at (x ∷ xs) zero zero = omega arith
more_at (x ∷ xs) zero (suc j) = omega arith
more_at (x ∷ xs) (suc i) zero = omega arith
more_at (x ∷ xs) (suc i) (suc j) = more_at xs i j

pub room_behind : (counts : List ℕ) (s : Space) (ss rest : List Space) → rest ≡ s ∷ ss → CountersHaveRoom counts (length rest) → CountersHaveRoom (one_more counts s) (length ss)
room_behind counts s ss rest e h t =
    let a : counters_in (one_more counts s) t ≤ counters_in counts t + 1 = more_at counts (code_of_space s) (code_of_space t) in
    let b : length rest ≡ suc (length ss) = ap length e in
    let c = h t in
    omega (arith, a, b, c)

pub room_next : (counts : List ℕ) (s : Space) (ss rest : List Space) → rest ≡ s ∷ ss → CountersHaveRoom counts (length rest) → counters_in counts s < 2 ^ 32 - 1
room_next counts s ss rest e h = let b : length rest ≡ suc (length ss) = ap length e in let c = h s in omega (arith, b, c)

pub room_less : (counts : List ℕ) (n k : ℕ) → k ≤ n → CountersHaveRoom counts n → CountersHaveRoom counts k
room_less counts n k p h t = let r = h t in omega (arith, p, r)

-- for those of a definition, which are these
pub room_for : (counts : List ℕ) (xs ys : List Space) → xs ≡ ys → CountersHaveRoom counts (length ys) → CountersHaveRoom counts (length xs)
room_for counts xs ys e h = subst (λ zs. CountersHaveRoom counts (length zs)) (sym e) h

pub first_fits : (counts : List ℕ) (ss : List Space) → CountersHaveRoom counts (length ss) → first_index ss (bare counts) + length ss < 2 ^ 32
first_fits counts [] h = omega arith
first_fits counts (s ∷ ss) h = h s

-- ---- definitions

module _ (C : List CoreModule) where
  pub declares_few : (ds : List Def) (n : ℕ) (d : Def) → n < length ds → d ≡ get_or ds n d → length (declares_row d.node.row (listed C d.node.leaves.now)) ≤ most_declared (defs_listed C ds)
  declares_few [] n d h e = absurd (omega (arith, h))
  declares_few (x ∷ ds) zero d h e =
      let a : length (declares_row d.node.row (listed C d.node.leaves.now)) ≡ length (declares_row x.node.row (listed C x.node.leaves.now)) = ap (λ (y : Def). length (declares_row y.node.row (listed C y.node.leaves.now))) e in
      omega (arith, a)
  declares_few (x ∷ ds) (suc n) d h e = let a = declares_few ds n d (omega (arith, h)) e in omega (arith, a)

  pub leaves_few : (ds : List Def) (n : ℕ) (d : Def) → n < length ds → d ≡ get_or ds n d → size_of_leaves (listed C d.node.leaves.now) ≤ size_of_defs (defs_listed C ds)
  leaves_few [] n d h e = absurd (omega (arith, h))
  leaves_few (x ∷ ds) zero d h e =
      let a : size_of_leaves (listed C d.node.leaves.now) ≡ size_of_leaves (listed C x.node.leaves.now) = ap (λ (y : Def). size_of_leaves (listed C y.node.leaves.now)) e in
      omega (arith, a)
  leaves_few (x ∷ ds) (suc n) d h e = let a = leaves_few ds n d (omega (arith, h)) e in omega (arith, a)

  defs_counted : (ds : List Def) → count_defs (defs_listed C ds) ≡ length ds
  defs_counted [] = refl
  defs_counted (d ∷ ds) = let a = defs_counted ds in omega (arith, a)

  -- a scope that is small has few definitions, which declare few items
  module _ (x : Scope) (h : 2 * size_of_scope (scope_of C x) < 2 ^ 32) where
    abbrev ds : List Def
    ds = (s.out-Scope x).defs.now

    by_defs : size_of_scope (scope_of C x) ≡ 1 + size_of_defs (defs_listed C ds)
    by_defs = ap size_of_scope (scope_fields C x)

    pub scope_has_few : length ds < 2 ^ 32 - 1
    scope_has_few = let a = by_defs in let b = few_defs (defs_listed C ds) in let c = defs_counted ds in omega (arith, a, b, c, h)

    pub scope_declares_few : most_declared (defs_listed C ds) < 2 ^ 32
    scope_declares_few = let a = by_defs in let b = declared_small (defs_listed C ds) in omega (arith, a, b, h)

  -- and is larger than its list
  pub scope_larger : (x : Scope) (n k : ℕ) → n + 2 * size_of_scope (scope_of C x) < 2 ^ 32 - 2 → k ≡ n + 1 → k + 2 * size_of_defs (defs_listed C (s.out-Scope x).defs.now) < 2 ^ 32 - 2
  scope_larger x n k h e = let a : size_of_scope (scope_of C x) ≡ 1 + size_of_defs (defs_listed C (s.out-Scope x).defs.now) = ap size_of_scope (scope_fields C x) in omega (arith, a, h, e)

  -- a definition is larger than the scope in it
  pub scope_in : (xs : List l.Leaf) (inner : Bor Scope) (n : ℕ) → xs ≡ l.Scope inner ∷ [] → n + 2 * size_of_leaves (listed C xs) < 2 ^ 32 - 2 → n + 2 * size_of_scope (scope_of C inner.now) < 2 ^ 32 - 2
  scope_in xs inner n e h =
      let a : size_of_leaves (listed C xs) ≡ (1 + size_of_scope (scope_of C inner.now)) + 0 = ap (λ ys. size_of_leaves (listed C ys)) e ∙ ap (λ y. size_of_leaves (y ▸ no_leaf)) (leaf_scope C inner) in
      omega (arith, a, h)

-- ---- the second pass

pub no_sums : (a : Sums) (n : ℕ) → SumsShow a no_counts → n < 2 ^ 32 → SumsHaveRoom a n
no_sums a n h k = record { counters = no_counts; shown = h; room = λ t. let e : counters_in a.counters t ≡ 0 = ap (λ (f : Space → ℕ). f t) h.counts in omega (arith, e, k) }

module _ (C : List CoreModule) (rest more : List Def) (d : Def) (e : rest ≡ d ∷ more) where
  pub sums_def : (a : Sums) → SumsHaveRoom a (most_declared (defs_listed C rest)) → SumsHaveRoom a (most_needs (listed C d.node.leaves.now) + length (declares_row d.node.row (listed C d.node.leaves.now)))
  sums_def a h =
      sums_less (most_needs (listed C d.node.leaves.now) + length (declares_row d.node.row (listed C d.node.leaves.now)) + most_declared (defs_listed C more)) (most_needs (listed C d.node.leaves.now) + length (declares_row d.node.row (listed C d.node.leaves.now))) (omega arith)
      (subst (λ z. SumsHaveRoom a (most_declared (defs_listed C z))) e h)

  pub sums_past : (os : List Open) (a b : Sums) (old new : List ℕ) → DefCounted C os a b old new d → SumsHaveRoom a (most_declared (defs_listed C rest)) → SumsHaveRoom b (most_declared (defs_listed C more))
  sums_past os a b old new g k =
      let ls = listed C d.node.leaves.now in
      let ss = declares_row d.node.row ls in
      let h : SumsHaveRoom a (most_needs ls + length ss + most_declared (defs_listed C more)) = subst (λ z. SumsHaveRoom a (most_declared (defs_listed C z))) e k in
      let w = some-shown os in
      let x : Summed a b (advanced ss (past w.0 ls h.counters)) (all_served w.0 ls h.counters) = g.summed w.0 h.counters w.1 h.shown in
      record {
        counters = advanced ss (past w.0 ls h.counters);
        shown = x.shown;
        room = λ t.
            let p : counters_in b.counters t ≡ (advanced ss (past w.0 ls h.counters)).counts t = ap (λ (f : Space → ℕ). f t) x.shown.counts in
            let q : counters_in a.counters t ≡ h.counters.counts t = ap (λ (f : Space → ℕ). f t) h.shown.counts in
            let i : (advanced ss (past w.0 ls h.counters)).counts t + most_declared (defs_listed C more) ≤ h.counters.counts t + (most_needs ls + length ss + most_declared (defs_listed C more)) = def-within w.0 (defs_listed C more) ls ss h.counters t in
            let r = h.room t in
            omega (arith, p, q, i, r);
      }

-- behind the references of a definition, for its items
pub sums_items : (os : List Open) (a b : Sums) (ls : Leaves) (n : ℕ) → LeavesCounted os a b ls → SumsHaveRoom a (most_needs ls + n) → CountersHaveRoom b.counters n
sums_items os a b ls n g h = let r : SumsHaveRoom b n = sums_behind ls n g h in r.room

-- ---- the third pass

pub no_counters : (counts : List ℕ) (n : ℕ) → counts ≡ replicate 13 0 → n < 2 ^ 32 → CountersHaveRoom counts n
no_counters counts n e h t = let a : counters_in counts t ≡ 0 = ap (λ (f : Space → ℕ). f t) (ap counters_in e ∙ list-none) in omega (arith, a, h)

pub resolved_room : (e : Encoding) (os : List Open) (counts : List ℕ) (served : List (Option ℕ)) (old new : Leaves) (end : Reading) (n : ℕ) → NodeResolved e os counts served old new end → ServedFirst os counts (λ ms. all_served ms old) served
    → CountersHaveRoom counts (most_needs old + n) → CountersHaveRoom end.counters n
resolved_room e os counts served old new end n r first h t =
    let w = some-shown os in
    let g = first w.0 w.1 in
    let p : counters_in end.counters t ≡ (past w.0 old g.0).counts t = ap (λ (f : Space → ℕ). f t) (r.by w.0 g.0 g.1 w.1 g.2 g.3).counts in
    let q : counters_in counts t ≡ g.0.counts t = ap (λ (f : Space → ℕ). f t) g.2 in
    let i : (past w.0 old g.0).counts t ≤ g.0.counts t + most_needs old = past-within w.0 old g.0 t in
    let k = h t in
    omega (arith, p, q, i, k)

module _ (C : List CoreModule) (rest more : List Def) (d : Def) (at : rest ≡ d ∷ more) (counts : List ℕ) (h : CountersHaveRoom counts (most_declared (defs_listed C rest))) where
  abbrev ls : Leaves
  ls = listed C d.node.leaves.now

  abbrev ss : List Space
  ss = declares_row d.node.row ls

  here : CountersHaveRoom counts (most_needs ls + length ss + most_declared (defs_listed C more))
  here = subst (λ z. CountersHaveRoom counts (most_declared (defs_listed C z))) at h

  pub def_room : CountersHaveRoom counts (most_needs ls + length ss)
  def_room = room_less counts (most_needs ls + length ss + most_declared (defs_listed C more)) (most_needs ls + length ss) (omega arith) here

  pub built_room : (e : Encoding) (os : List Open) (served left : List (Option ℕ)) (old new : List Def) (behind : List ℕ) → DefBuilt e C os counts served d old new behind left → ServedFirst os counts (λ ms. all_served ms ls) served
      → CountersHaveRoom behind (most_declared (defs_listed C more))
  built_room e os served left old new behind b first t =
      let w = some-shown os in
      let g = first w.0 w.1 in
      let p : counters_in behind t ≡ (advanced ss (past w.0 ls g.0)).counts t = ap (λ (f : Space → ℕ). f t) (b.by w.0 g.0 g.1 w.1 g.2 g.3).counts in
      let q : counters_in counts t ≡ g.0.counts t = ap (λ (f : Space → ℕ). f t) g.2 in
      let i : (advanced ss (past w.0 ls g.0)).counts t + most_declared (defs_listed C more) ≤ g.0.counts t + (most_needs ls + length ss + most_declared (defs_listed C more)) = def-within w.0 (defs_listed C more) ls ss g.0 t in
      let r = here t in
      omega (arith, p, q, i, r)

-- few references, where there are few parts
pub few_references : (ls : Leaves) (n : ℕ) → n + 2 * size_of_leaves ls < 2 ^ 32 - 2 → references ls < 2 ^ 32
few_references ls n h = let a = references_small ls in omega (arith, a, h)

-- a list that is small declares few items
pub declared_few : (C : List CoreModule) (ds : List Def) (n : ℕ) → n + 2 * size_of_defs (defs_listed C ds) < 2 ^ 32 - 2 → most_declared (defs_listed C ds) < 2 ^ 32
declared_few C ds n h = let a = declared_small (defs_listed C ds) in omega (arith, a, h)

-- and so is each of its definitions
pub def_small : (C : List CoreModule) (ds : List Def) (n i : ℕ) (d : Def) → i < length ds → d ≡ get_or ds i d → n + 2 * size_of_defs (defs_listed C ds) < 2 ^ 32 - 2 → n + 2 * size_of_leaves (listed C d.node.leaves.now) < 2 ^ 32 - 2
def_small C ds n i d h a k = let b = leaves_few C ds i d h a in omega (arith, b, k)
