-- Room for what is left, behind what was counted and read.
use Rattle.std.proofs.Common.{◌≡◌, ℕ, zero, suc, ◌+◌, ◌-◌, ◌<◌, ◌≤◌, ◌^◌, refl, sym, ap, ◌∙◌, subst, true, List, [], ◌∷◌, ◌++◌, length, take, Option, Some, None, Bor, arith}
use Rattle.std.specs.Prelude.{get_or}
use Rattle.comp_model.specs.Core.{Text, Reach}
use Rattle.comp_model.specs.CoreModules.{CoreModule}
use Rattle.comp_model.specs.declared.Space.{Space}
use Rattle.comp_model.specs.declared.Space.TheVariants.{CoreFunc, CoreType}
use Rattle.comp_model.specs.Model as m
use Rattle.comp_model.specs.Model.{no_leaf, ◌▸◌, Path}
use Rattle.comp_scopes.specs.Encoding.{Encoding}
use Rattle.comp_scopes.specs.References.{references, references_leaf, references_nodes, steps, instance_space}
use Rattle.comp_tables.specs.Bounds.{most_needs, most_needs_leaf, most_needs_nodes}
use Rattle.comp_tables.specs.Tables.{Counters, Opened, past, past_leaf, past_path}
use Rattle.comp_tables.specs.Walks.{counters_in}
use Rattle.comp_tables.proofs.Bounds.{past-within}
use Rattle.wast_parser.specs.declared.index.Id as lent
use Rattle.wast_parser.specs.declared.index.Index.{Index}
use Rattle.wast_parser.specs.declared.index.Index.TheVariants as index
use Rattle.comp_tree.specs.declared.tree.Leaf.{Leaf}
use Rattle.comp_tree.specs.declared.tree.Leaf as l
use Rattle.comp_tree.specs.declared.tree.Node.{Node}
use Rattle.comp_tree.specs.Lists.{listed, nodes_listed}
use Rattle.comp_tree.specs.Model.{leaf_of, root_of, path_from, path_of, index_of, id_of, reach_of, core_reference}
use Rattle.comp_tree.proofs.Leaves.{leaf_present, leaf_node, leaf_nodes}
use Rattle.open_scopes.specs.declared.scopes.Open.{Open}
use Rattle.open_scopes.specs.Shown.{OpenScopesShow}
use Rattle.open_scopes.proofs.Stacks.{some-shown}
use Rattle.tree_names.specs.declared.reading.Reading.{Reading}
use Rattle.tree_names.specs.declared.sums.Sums.{Sums}
use Rattle.tree_names.specs.Counted.{Summed, LeafCounted, LeavesCounted}
use Rattle.tree_names.specs.Read.{ReadsFrom, ReadsTo, LeafRead, LeavesRead, PathRead}
use Rattle.tree_names.specs.Room.{CountersHaveRoom, SumsHaveRoom, HasRoom, RoomForLeaf, ReadsInRoom, LeafInRoom, LeavesInRoom, NodesInRoom}
use Rattle.tree_names.specs.Served.{ServedBy, all_served, leaf_served, nodes_served}
use Rattle.tree_names.proofs.Names.{steps_behind, steps_so_far, root_steps}
use Rattle.tree_names.proofs.ReadParts.{first_from, next_from}

-- ---- counters

pub one_more : (counts : List ℕ) (s : Space) → CountersHaveRoom counts 1 → counters_in counts s < 2 ^ 32 - 1
one_more counts s h = let r = h s in omega (arith, r)

-- so many items behind a path, and what is left is one less
steps_left : (a b n k : ℕ) → b ≤ a + k → k + 1 ≤ n → a + n < 2 ^ 32 → b < 2 ^ 32 - 1
steps_left a b n k p q r = omega (arith, p, q, r)

past-path : (s : Space) (p : Path) (c : Counters) (t : Space) → (past_path s p c).counts t ≤ c.counts t + steps p
past-path s p c t = let k : (past_path s p c).counts t ≤ c.counts t + (steps p + 0) = past-within [] (m.ref s (m.path p) ▸ no_leaf) c t in omega (arith, k)

-- behind k of the export names of a path
pub step_fits : (s u : Space) (i : Index) (ts : List (Bor Text)) (k : ℕ) (old new : List ℕ) → CountersHaveRoom old (length ts) → k < length ts
    → ((c : Counters) → counters_in old ≡ c.counts → counters_in new ≡ (past_path u (path_from (root_of i) (take k ts)) c).counts) → counters_in new s < 2 ^ 32 - 1
step_fits s u i ts k old new h n e =
    let c : Counters = record { counts = counters_in old; aliases = [] } in
    let a : counters_in new s ≡ (past_path u (path_from (root_of i) (take k ts)) c).counts s = ap (λ (f : Space → ℕ). f s) (e c refl) in
    let b : (past_path u (path_from (root_of i) (take k ts)) c).counts s ≤ counters_in old s + steps (path_from (root_of i) (take k ts)) = past-path u (path_from (root_of i) (take k ts)) c s in
    let d : k ≡ steps (path_from (root_of i) (take k ts)) = steps_so_far i ts k (omega (arith, n)) in
    steps_left (counters_in old s) (counters_in new s) (length ts) k (omega (arith, a, b, d)) (omega (arith, n)) (h s)

-- there are fewer than 2 ^ 32 export names
pub few_steps : (n : ℕ) (counts : List ℕ) → CountersHaveRoom counts n → n < 2 ^ 32
few_steps n counts h = let r = h CoreFunc in omega (arith, r)

-- behind the path of the first k export names, for one more
pub step_room : (os : List Open) (s : Space) (q : Index) (ts : List (Bor Text)) (k : ℕ) (old new : Reading) (i : ℕ) → CountersHaveRoom old.counters (length ts) → k < length ts → PathRead os s (path_from (root_of q) (take k ts)) old new i → CountersHaveRoom new.counters 1
step_room os s q ts k old new i h n p t = let r : counters_in new.counters t < 2 ^ 32 - 1 = step_fits t s q ts k old.counters new.counters h n p.counts in omega (arith, r)

-- a path with an export name has as many steps as names
path_needs : (s : Space) (i : Index) (ts : List (Bor Text)) → 0 < length ts → most_needs_leaf (m.ref s (path_of i ts)) ≡ length ts
path_needs s i [] h = absurd (omega (arith, h))
path_needs s i (t ∷ ts) h =
    let a : steps (path_from (root_of i) (t ∷ ts)) ≡ steps (root_of i) + length (t ∷ ts) = steps_behind (root_of i) (t ∷ ts) in
    let b : steps (root_of i) ≡ 0 = root_steps i in
    omega (arith, a, b)

pub path_fits : (counts : List ℕ) (s : Space) (i : Index) (ts : List (Bor Text)) → 0 < length ts → CountersHaveRoom counts (most_needs_leaf (m.ref s (path_of i ts))) → CountersHaveRoom counts (length ts)
path_fits counts s i ts h r = subst (CountersHaveRoom counts) (path_needs s i ts h) r

-- and is one reference
path_refers : (s : Space) (i : Index) (ts : List (Bor Text)) → 0 < length ts → references_leaf (m.ref s (path_of i ts)) ≡ 1
path_refers s i [] h = absurd (omega (arith, h))
path_refers s i (t ∷ ts) h = refl

pub path_room : (a b : Reading) (s : Space) (i : Index) (ts : List (Bor Text)) → 0 < length ts → RoomForLeaf a (m.ref s (path_of i ts)) → b.place ≡ a.place → b.place < 2 ^ 32 - 1
path_room a b s i ts h r e =
    let n : references_leaf (m.ref s (path_of i ts)) ≡ 1 = path_refers s i ts h in
    let p = r.place in
    omega (arith, n, p, e)

pub core_room : (a : Reading) (r : Reach) (i : Index) → RoomForLeaf a (m.core_value (core_reference true r i)) → a.place < 2 ^ 32 - 1
core_room a r (index.Num n s) h = let p = h.place in omega (arith, p)
core_room a r (index.Id x) h = let p = h.place in omega (arith, p)

-- ---- what was counted

module _ {os : List Open} {a b : Sums} where
  pub sums_behind : (ls : m.Leaves) (n : ℕ) → LeavesCounted os a b ls → SumsHaveRoom a (most_needs ls + n) → SumsHaveRoom b n
  sums_behind ls n g h =
      let w = some-shown os in
      let s : Summed a b (past w.0 ls h.counters) (all_served w.0 ls h.counters) = g.summed w.0 h.counters w.1 h.shown in
      record {
        counters = past w.0 ls h.counters;
        shown = s.shown;
        room = λ t.
            let e : counters_in b.counters t ≡ (past w.0 ls h.counters).counts t = ap (λ (f : Space → ℕ). f t) s.shown.counts in
            let q : counters_in a.counters t ≡ h.counters.counts t = ap (λ (f : Space → ℕ). f t) h.shown.counts in
            let k : (past w.0 ls h.counters).counts t ≤ h.counters.counts t + most_needs ls = past-within w.0 ls h.counters t in
            let r = h.room t in
            omega (arith, e, q, k, r);
      }

  behind_leaf : (x : m.Leaf) (n : ℕ) → LeafCounted os a b x → SumsHaveRoom a (most_needs_leaf x + n) → SumsHaveRoom b n
  behind_leaf x n g h =
      let w = some-shown os in
      let s : Summed a b (past_leaf w.0 x h.counters) (leaf_served w.0 x h.counters) = g.summed w.0 h.counters w.1 h.shown in
      record {
        counters = past_leaf w.0 x h.counters;
        shown = s.shown;
        room = λ t.
            let e : counters_in b.counters t ≡ (past_leaf w.0 x h.counters).counts t = ap (λ (f : Space → ℕ). f t) s.shown.counts in
            let q : counters_in a.counters t ≡ h.counters.counts t = ap (λ (f : Space → ℕ). f t) h.shown.counts in
            let k : (past_leaf w.0 x h.counters).counts t ≤ h.counters.counts t + (most_needs_leaf x + 0) = past-within w.0 (x ▸ no_leaf) h.counters t in
            let r = h.room t in
            omega (arith, e, q, k, r);
      }

pub sums_less : {a : Sums} (n k : ℕ) → k ≤ n → SumsHaveRoom a n → SumsHaveRoom a k
sums_less n k p h = record { counters = h.counters; shown = h.shown; room = λ t. let r = h.room t in omega (arith, p, r) }

-- for the first of those that are left, and behind it for the others
pub sums_first : {a : Sums} (C : List CoreModule) (rest more : List Leaf) (y : Leaf) → rest ≡ y ∷ more → SumsHaveRoom a (most_needs (listed C rest)) → SumsHaveRoom a (most_needs_leaf (leaf_of C y))
sums_first {a} C rest more y e h =
    sums_less (most_needs_leaf (leaf_of C y) + most_needs (listed C more)) (most_needs_leaf (leaf_of C y)) (omega arith) (subst (λ z. SumsHaveRoom a (most_needs (listed C z))) e h)

pub sums_then : {os : List Open} {a b : Sums} (C : List CoreModule) (rest more : List Leaf) (y : Leaf) → rest ≡ y ∷ more → LeafCounted os a b (leaf_of C y) → SumsHaveRoom a (most_needs (listed C rest)) → SumsHaveRoom b (most_needs (listed C more))
sums_then {os} {a} {b} C rest more y e g h = behind_leaf (leaf_of C y) (most_needs (listed C more)) g (subst (λ z. SumsHaveRoom a (most_needs (listed C z))) e h)

pub sums_first_node : {a : Sums} (C : List CoreModule) (rest more : List Node) (y : Node) → rest ≡ y ∷ more → SumsHaveRoom a (most_needs_nodes (nodes_listed C rest)) → SumsHaveRoom a (most_needs (listed C y.leaves.now))
sums_first_node {a} C rest more y e h =
    sums_less (most_needs (listed C y.leaves.now) + most_needs_nodes (nodes_listed C more)) (most_needs (listed C y.leaves.now)) (omega arith) (subst (λ z. SumsHaveRoom a (most_needs_nodes (nodes_listed C z))) e h)

pub sums_then_node : {os : List Open} {a b : Sums} (C : List CoreModule) (rest more : List Node) (y : Node) → rest ≡ y ∷ more → LeavesCounted os a b (listed C y.leaves.now) → SumsHaveRoom a (most_needs_nodes (nodes_listed C rest)) → SumsHaveRoom b (most_needs_nodes (nodes_listed C more))
sums_then_node {os} {a} {b} C rest more y e g h = sums_behind (listed C y.leaves.now) (most_needs_nodes (nodes_listed C more)) g (subst (λ z. SumsHaveRoom a (most_needs_nodes (nodes_listed C z))) e h)

-- for what stands in a leaf
pub sums_present : {a : Sums} (C : List CoreModule) (x : Leaf) (y : Bor Leaf) → x ≡ l.Present y → SumsHaveRoom a (most_needs_leaf (leaf_of C x)) → SumsHaveRoom a (most_needs_leaf (leaf_of C y.now))
sums_present {a} C x y e h = subst (λ z. SumsHaveRoom a (most_needs_leaf z)) (ap (leaf_of C) e ∙ leaf_present C y) h

pub sums_node : {a : Sums} (C : List CoreModule) (x : Leaf) (n : Bor Node) → x ≡ l.Node n → SumsHaveRoom a (most_needs_leaf (leaf_of C x)) → SumsHaveRoom a (most_needs (listed C n.now.leaves.now))
sums_node {a} C x n e h = subst (λ z. SumsHaveRoom a (most_needs_leaf z)) (ap (leaf_of C) e ∙ leaf_node C n) h

pub sums_nodes : {a : Sums} (C : List CoreModule) (x : Leaf) (ns : Bor (List Node)) → x ≡ l.Nodes ns → SumsHaveRoom a (most_needs_leaf (leaf_of C x)) → SumsHaveRoom a (most_needs_nodes (nodes_listed C ns.now))
sums_nodes {a} C x ns e h = subst (λ z. SumsHaveRoom a (most_needs_leaf z)) (ap (leaf_of C) e ∙ leaf_nodes C ns) h

-- a leaf that is this one
pub sums_leaf : {a : Sums} (C : List CoreModule) (x : Leaf) (k : m.Leaf) → leaf_of C x ≡ k → SumsHaveRoom a (most_needs_leaf (leaf_of C x)) → CountersHaveRoom a.counters (most_needs_leaf k)
sums_leaf {a} C x k e h = subst (λ z. CountersHaveRoom a.counters (most_needs_leaf z)) e h.room

-- ---- what was read

first_room : (a : Reading) (n k i j : ℕ) → HasRoom a (n + k) (i + j) → HasRoom a n i
first_room a n k i j h = record { counters = λ t. let r = h.counters t in omega (arith, r); place = let r = h.place in omega (arith, r) }

in_first : (os : List Open) (a : Reading) (s t : ServedBy) (n k i j : ℕ) → ReadsInRoom os a (λ ms c. s ms c ++ t ms c) (n + k) (i + j) → ReadsInRoom os a s n i
in_first os a s t n k i j h = record {
  scopes = h.scopes;
  shown = h.shown;
  counters = h.counters;
  more = t h.scopes h.counters ++ h.more;
  from = first_from (s h.scopes h.counters) (t h.scopes h.counters) h.more h.from;
  room = first_room a n k i j h.room;
}

module _ (C : List CoreModule) (os : List Open) where
  pub leaf_in_room : (a : Reading) (rest more : List Leaf) (y : Leaf) → rest ≡ y ∷ more → LeavesInRoom os a (listed C rest) → LeafInRoom os a (leaf_of C y)
  leaf_in_room a rest more y e h =
      in_first os a (λ ms c. leaf_served ms (leaf_of C y) c) (λ ms c. all_served ms (listed C more) (past_leaf ms (leaf_of C y) c)) (most_needs_leaf (leaf_of C y)) (most_needs (listed C more)) (references_leaf (leaf_of C y)) (references (listed C more))
      (subst (λ z. LeavesInRoom os a (listed C z)) e h)

  pub leaves_in_room : (e : Encoding) (a b : Reading) (rest more : List Leaf) (y : Leaf) (r : m.Leaf) → rest ≡ y ∷ more → LeafRead e os a b (leaf_of C y) r → LeavesInRoom os a (listed C rest) → LeavesInRoom os b (listed C more)
  leaves_in_room e a b rest more y r q g k =
      let x = leaf_of C y in
      let ls = listed C more in
      let h : LeavesInRoom os a (x ▸ ls) = subst (λ z. LeavesInRoom os a (listed C z)) q k in
      let ms = h.scopes in
      let c = h.counters in
      let to : ReadsTo a b (past_leaf ms x c) (all_served ms ls (past_leaf ms x c) ++ h.more) _ = g.past.reads ms c (all_served ms ls (past_leaf ms x c) ++ h.more) h.shown (first_from (leaf_served ms x c) (all_served ms ls (past_leaf ms x c)) h.more h.from) in
      record {
        scopes = ms;
        shown = h.shown;
        counters = past_leaf ms x c;
        more = h.more;
        from = record { counts = to.counts; served = to.served };
        room = record {
          counters = λ t.
              let d : counters_in b.counters t ≡ (past_leaf ms x c).counts t = ap (λ (f : Space → ℕ). f t) to.counts in
              let f : counters_in a.counters t ≡ c.counts t = ap (λ (f : Space → ℕ). f t) h.from.counts in
              let w : (past_leaf ms x c).counts t ≤ c.counts t + (most_needs_leaf x + 0) = past-within ms (x ▸ no_leaf) c t in
              let r = h.room.counters t in
              omega (arith, d, f, w, r);
          place = let d : b.place ≡ a.place + references_leaf x = g.past.place in let r = h.room.place in omega (arith, d, r);
        };
      }

  pub node_in_room : (a : Reading) (rest more : List Node) (y : Node) → rest ≡ y ∷ more → NodesInRoom os a (nodes_listed C rest) → LeavesInRoom os a (listed C y.leaves.now)
  node_in_room a rest more y e h =
      in_first os a (λ ms c. all_served ms (listed C y.leaves.now) c) (λ ms c. nodes_served ms (nodes_listed C more) (past ms (listed C y.leaves.now) c)) (most_needs (listed C y.leaves.now)) (most_needs_nodes (nodes_listed C more)) (references (listed C y.leaves.now))
      (references_nodes (nodes_listed C more)) (subst (λ z. NodesInRoom os a (nodes_listed C z)) e h)

  pub nodes_in_room : (e : Encoding) (a b : Reading) (rest more : List Node) (y : Node) (rs : m.Leaves) → rest ≡ y ∷ more → LeavesRead e os a b (listed C y.leaves.now) rs → NodesInRoom os a (nodes_listed C rest) → NodesInRoom os b (nodes_listed C more)
  nodes_in_room e a b rest more y rs q g k =
      let ls = listed C y.leaves.now in
      let ns = nodes_listed C more in
      let h : NodesInRoom os a (nodes_listed C (y ∷ more)) = subst (λ z. NodesInRoom os a (nodes_listed C z)) q k in
      let ms = h.scopes in
      let c = h.counters in
      let to : ReadsTo a b (past ms ls c) (nodes_served ms ns (past ms ls c) ++ h.more) _ = g.past.reads ms c (nodes_served ms ns (past ms ls c) ++ h.more) h.shown (first_from (all_served ms ls c) (nodes_served ms ns (past ms ls c)) h.more h.from) in
      record {
        scopes = ms;
        shown = h.shown;
        counters = past ms ls c;
        more = h.more;
        from = record { counts = to.counts; served = to.served };
        room = record {
          counters = λ t.
              let d : counters_in b.counters t ≡ (past ms ls c).counts t = ap (λ (f : Space → ℕ). f t) to.counts in
              let f : counters_in a.counters t ≡ c.counts t = ap (λ (f : Space → ℕ). f t) h.from.counts in
              let w : (past ms ls c).counts t ≤ c.counts t + most_needs ls = past-within ms ls c t in
              let r = h.room.counters t in
              omega (arith, d, f, w, r);
          place = let d : b.place ≡ a.place + references ls = g.past.place in let r = h.room.place in omega (arith, d, r);
        };
      }

  -- for what stands in a leaf
  pub present_in_room : (a : Reading) (x : Leaf) (y : Bor Leaf) → x ≡ l.Present y → LeafInRoom os a (leaf_of C x) → LeafInRoom os a (leaf_of C y.now)
  present_in_room a x y e h =
      let r : LeafInRoom os a (m.present (leaf_of C y.now)) = subst (LeafInRoom os a) (ap (leaf_of C) e ∙ leaf_present C y) h in
      record { scopes = r.scopes; shown = r.shown; counters = r.counters; more = r.more; from = r.from; room = r.room }

  pub in_node_room : (a : Reading) (x : Leaf) (n : Bor Node) → x ≡ l.Node n → LeafInRoom os a (leaf_of C x) → LeavesInRoom os a (listed C n.now.leaves.now)
  in_node_room a x n e h =
      let r = subst (LeafInRoom os a) (ap (leaf_of C) e ∙ leaf_node C n) h in
      record { scopes = r.scopes; shown = r.shown; counters = r.counters; more = r.more; from = r.from; room = r.room }

  pub in_nodes_room : (a : Reading) (x : Leaf) (ns : Bor (List Node)) → x ≡ l.Nodes ns → LeafInRoom os a (leaf_of C x) → NodesInRoom os a (nodes_listed C ns.now)
  in_nodes_room a x ns e h =
      let r = subst (LeafInRoom os a) (ap (leaf_of C) e ∙ leaf_nodes C ns) h in
      record { scopes = r.scopes; shown = r.shown; counters = r.counters; more = r.more; from = r.from; room = r.room }

  -- a leaf that is this one
  pub room_for : (a : Reading) (x : Leaf) (k : m.Leaf) → leaf_of C x ≡ k → LeafInRoom os a (leaf_of C x) → RoomForLeaf a k
  room_for a x k e h = subst (RoomForLeaf a) e h.room
