-- Counters behind leaves are those in front and what the leaves need.
use Rattle.std.proofs.Common.{◌≡◌, ℕ, ◌+◌, Bool, true, false, List, [], ◌∷◌, ◌++◌, drop, Option, Some, None, refl, ap, arith}
use Rattle.comp_model.specs.declared.Space.{Space}
use Rattle.comp_model.specs.declared.Space.TheVariants.{CoreFunc, CoreType}
use Rattle.comp_model.specs.Core.{Text, ref_name}
use Rattle.comp_model.specs.Model.{Leaf, core_value, ref, present, node, nodes, name, Path, root_number, root_name, export_of, path, Leaves, no_leaf, ◌▸◌, row, Nodes, no_node, one_node}
use Rattle.comp_model.specs.Origins.{export_step}
use Rattle.comp_model.specs.Spaces.{count_in}
use Rattle.comp_scopes.specs.Form.{Made, make, step_node, spaces_of}
use Rattle.comp_scopes.specs.Names.{Denoted}
use Rattle.comp_scopes.specs.Outward.{leads_out}
use Rattle.comp_scopes.specs.References.{references, references_leaf, steps, instance_space}
use Rattle.comp_tables.specs.Tables.{Counters, Opened, found, alias_of, past_alias, past_name, past_path, past, past_leaf, past_nodes, found_path_index, next_place, alias_needs, name_needs, path_needs, needs, needs_leaf, needs_nodes}

-- how many items of the space these definitions declare
abbrev pub declared_in : Space → List Made → ℕ
declared_in s [] = 0
declared_in s (m ∷ ms) = count_in s (spaces_of m.made) + declared_in s ms

pub declared-append : (s : Space) (xs ys : List Made) → declared_in s (xs ++ ys) ≡ declared_in s xs + declared_in s ys
declared-append s [] ys = omega arith
declared-append s (x ∷ xs) ys = let h : declared_in s (xs ++ ys) ≡ declared_in s xs + declared_in s ys = declared-append s xs ys in omega (arith, h)

none-more : (a : ℕ) → a ≡ a + 0
none-more a = omega arith

one-more : (a n : ℕ) → a + n ≡ a + (n + 0)
one-more a n = omega arith

past-aliased : (ms : List Opened) (j v : ℕ) (s : Space) (d : Denoted) (a : Option ℕ) (c : Counters) (t : Space) → (past_alias s d a c).counts t ≡ c.counts t + declared_in t (alias_needs ms j v s d a)
past-aliased ms j v s d (Some i) c t = none-more (c.counts t)
past-aliased ms j v s d None c t = one-more (c.counts t) (count_in t (s ∷ []))

past-named : (ms : List Opened) (j v : ℕ) (s : Space) (b : Bool) (d : Option Denoted) (c : Counters) (t : Space) → (past_name s b d c).counts t ≡ c.counts t + declared_in t (name_needs ms j v s b d c)
past-named ms j v s true None c t = none-more (c.counts t)
past-named ms j v s false None c t = none-more (c.counts t)
past-named ms j v s false (Some d) c t = none-more (c.counts t)
past-named ms j v s true (Some d) c t = past-aliased ms j v s d (alias_of s d c.aliases) c t

-- the alias of an export declares one item of its space
step-declares : (i : ℕ) (x : Text) (s : Space) → spaces_of (step_node i x s) ≡ s ∷ []
step-declares i x CoreFunc = refl
step-declares i x _ = refl

step-more : (x y z n m w : ℕ) → x ≡ y + z → w ≡ z + (m + 0) → m ≡ n → x + n ≡ y + w
step-more x y z n m w a b e = omega (arith, a, b, e)

past-stepped : (ms : List Opened) (j v : ℕ) (s : Space) (p : Path) (c : Counters) (t : Space) → (past_path s p c).counts t ≡ c.counts t + declared_in t (path_needs ms j v s p c)
past-stepped ms j v s (root_number o n) c t = none-more (c.counts t)
past-stepped ms j v s (root_name x) c t = none-more (c.counts t)
past-stepped ms j v s (export_of p x) c t =
    let i : ℕ = found_path_index ms (instance_space s) p c in
    let before : List Made = path_needs ms j v (instance_space s) p c in
    let last : Made = make (export_step j v (steps p)) (step_node i x s) in
    step-more ((past_path (instance_space s) p c).counts t) (c.counts t) (declared_in t before) (count_in t (s ∷ [])) (count_in t (spaces_of (step_node i x s))) (declared_in t (before ++ last ∷ []))
    (past-stepped ms j v (instance_space s) p c t)
    (declared-append t before (last ∷ []))
    (ap (count_in t) (step-declares i x s))

two-more : (x y z p q w : ℕ) → x ≡ y + q → y ≡ z + p → w ≡ p + q → x ≡ z + w
two-more x y z p q w a b d = omega (arith, a, b, d)

mutual
  pub past-needs : (ms : List Opened) (j : ℕ) (vs : List ℕ) (ls : Leaves) (c : Counters) (t : Space) → (past ms ls c).counts t ≡ c.counts t + declared_in t (needs ms j vs ls c)
  past-needs ms j vs no_leaf c t = none-more (c.counts t)
  past-needs ms j vs (l ▸ ls) c t =
      two-more ((past ms ls (past_leaf ms l c)).counts t) ((past_leaf ms l c).counts t) (c.counts t) (declared_in t (needs_leaf ms j vs l c)) (declared_in t (needs ms j (drop (references_leaf l) vs) ls (past_leaf ms l c))) _
      (past-needs ms j (drop (references_leaf l) vs) ls (past_leaf ms l c) t) (past-needs_leaf ms j vs l c t) (declared-append t (needs_leaf ms j vs l c) (needs ms j (drop (references_leaf l) vs) ls (past_leaf ms l c)))

  past-needs_leaf : (ms : List Opened) (j : ℕ) (vs : List ℕ) (l : Leaf) (c : Counters) (t : Space) → (past_leaf ms l c).counts t ≡ c.counts t + declared_in t (needs_leaf ms j vs l c)
  past-needs_leaf ms j vs (core_value (ref_name b r x)) c t = past-named ms j (next_place vs) CoreType (leads_out r (found ms CoreType r x)) (found ms CoreType r x) c t
  past-needs_leaf ms j vs (ref s (name r x)) c t = past-named ms j (next_place vs) s (leads_out r (found ms s r x)) (found ms s r x) c t
  past-needs_leaf ms j vs (ref s (path p)) c t = past-stepped ms j (next_place vs) s p c t
  past-needs_leaf ms j vs (present l) c t = past-needs_leaf ms j vs l c t
  past-needs_leaf ms j vs (node (row w ls)) c t = past-needs ms j vs ls c t
  past-needs_leaf ms j vs (nodes ns) c t = past-needs_nodes ms j vs ns c t
  past-needs_leaf ms j vs l c t = none-more (c.counts t)

  past-needs_nodes : (ms : List Opened) (j : ℕ) (vs : List ℕ) (ns : Nodes) (c : Counters) (t : Space) → (past_nodes ms ns c).counts t ≡ c.counts t + declared_in t (needs_nodes ms j vs ns c)
  past-needs_nodes ms j vs no_node c t = none-more (c.counts t)
  past-needs_nodes ms j vs (one_node (row w ls) ns) c t =
      two-more ((past_nodes ms ns (past ms ls c)).counts t) ((past ms ls c).counts t) (c.counts t) (declared_in t (needs ms j vs ls c)) (declared_in t (needs_nodes ms j (drop (references ls) vs) ns (past ms ls c))) _
      (past-needs_nodes ms j (drop (references ls) vs) ns (past ms ls c) t) (past-needs ms j vs ls c t) (declared-append t (needs ms j vs ls c) (needs_nodes ms j (drop (references ls) vs) ns (past ms ls c)))
