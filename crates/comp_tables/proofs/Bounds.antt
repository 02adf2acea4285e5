-- Counters stay within what stands in the leaves, and so does what is read.
use Rattle.std.proofs.Common.{◌≡◌, ℕ, ◌+◌, ◌≤◌, Bool, true, false, List, [], ◌∷◌, ◌++◌, length, drop, Option, Some, None, refl, ◌∙◌, arith}
use Rattle.std.proofs.lemmas.List.{length-append}
use Rattle.comp_model.specs.declared.Space.{Space}
use Rattle.comp_model.specs.declared.Space.TheVariants.{CoreType}
use Rattle.comp_model.specs.Core.{ref_numeral, ref_name}
use Rattle.comp_model.specs.Model.{Leaf, core_value, ref, present, node, nodes, numeral, name, Path, root_number, root_name, export_of, path, inline, bundle, Leaves, no_leaf, ◌▸◌, row, Nodes, no_node, one_node, Defs}
use Rattle.comp_model.specs.Spaces.{same_space, count_in}
use Rattle.comp_model.specs.Origins.{export_step}
use Rattle.comp_scopes.specs.Names.{Denoted}
use Rattle.comp_scopes.specs.References.{references, references_leaf, references_nodes, steps, instance_space}
use Rattle.comp_scopes.specs.Outward.{leads_out}
use Rattle.comp_scopes.specs.Form.{Made, make, step_node}
use Rattle.comp_expanded.specs.IsExpanded.{LeavesExpanded, LeafExpanded, NodesExpanded}
use Rattle.comp_tables.specs.Tables.{Counters, advanced, Opened, found, past_name, past_path, past, past_leaf, past_nodes, alias_of, past_alias, alias_needs, next_place, name_needs, found_path_index, path_needs, found_indices, found_indices_leaf, found_indices_nodes, needs, needs_leaf, needs_nodes}
use Rattle.comp_tables.specs.Bounds.{most_needs, most_needs_leaf, most_needs_nodes, most_declared}

-- ---- one number for each reference

both-length : (xs ys : List ℕ) (n m : ℕ) → length xs ≡ n → length ys ≡ m → length (xs ++ ys) ≡ n + m
both-length xs ys n m p q = length-append xs ys ∙ rw (p, q) refl

mutual
  pub found_indices-length : (os : List Opened) (ls : Leaves) (c : Counters) → LeavesExpanded ls → length (found_indices os ls c) ≡ references ls
  found_indices-length os no_leaf c x = refl
  found_indices-length os (l ▸ ls) c x = both-length (found_indices_leaf os l c) (found_indices os ls (past_leaf os l c)) (references_leaf l) (references ls) (found_indices_leaf-length os l c x.0) (found_indices-length os ls (past_leaf os l c) x.1)

  found_indices_leaf-length : (os : List Opened) (l : Leaf) (c : Counters) → LeafExpanded l → length (found_indices_leaf os l c) ≡ references_leaf l
  found_indices_leaf-length os (core_value (ref_numeral b o n)) c x = refl
  found_indices_leaf-length os (core_value (ref_name b r y)) c x = refl
  found_indices_leaf-length os (ref s (numeral o n)) c x = refl
  found_indices_leaf-length os (ref s (name r y)) c x = refl
  found_indices_leaf-length os (ref s (path p)) c x = refl
  found_indices_leaf-length os (ref s (inline n)) c x = absurd x
  found_indices_leaf-length os (ref s (bundle n)) c x = absurd x
  found_indices_leaf-length os (present l) c x = found_indices_leaf-length os l c x
  found_indices_leaf-length os (node (row t ls)) c x = found_indices-length os ls c x
  found_indices_leaf-length os (nodes ns) c x = found_indices_nodes-length os ns c x
  found_indices_leaf-length os l c x = refl

  found_indices_nodes-length : (os : List Opened) (ns : Nodes) (c : Counters) → NodesExpanded ns → length (found_indices_nodes os ns c) ≡ references_nodes ns
  found_indices_nodes-length os no_node c x = refl
  found_indices_nodes-length os (one_node (row t ls) ns) c x = both-length (found_indices os ls c) (found_indices_nodes os ns (past os ls c)) (references ls) (references_nodes ns) (found_indices-length os ls c x.0) (found_indices_nodes-length os ns (past os ls c) x.1)

-- ---- what is needed

both-within : (xs ys : List Made) (n m : ℕ) → length xs ≤ n → length ys ≤ m → length (xs ++ ys) ≤ n + m
both-within xs ys n m p q = let e : length (xs ++ ys) ≡ length xs + length ys = length-append xs ys in omega (arith, e, p, q)

alias-within : (os : List Opened) (j v : ℕ) (s : Space) (d : Denoted) (a : Option ℕ) → length (alias_needs os j v s d a) ≤ 1
alias-within os j v s d (Some i) = omega arith
alias-within os j v s d None = omega arith

name-within : (os : List Opened) (j v : ℕ) (s : Space) (out : Bool) (o : Option Denoted) (c : Counters) → length (name_needs os j v s out o c) ≤ 1
name-within os j v s true None c = omega arith
name-within os j v s false None c = omega arith
name-within os j v s false (Some d) c = omega arith
name-within os j v s true (Some d) c = alias-within os j v s d (alias_of s d c.aliases)

path-within : (os : List Opened) (j v : ℕ) (s : Space) (p : Path) (c : Counters) → length (path_needs os j v s p c) ≤ steps p
path-within os j v s (root_number o n) c = omega arith
path-within os j v s (root_name x) c = omega arith
path-within os j v s (export_of p x) c =
    both-within (path_needs os j v (instance_space s) p c) (make (export_step j v (steps p)) (step_node (found_path_index os (instance_space s) p c) x s) ∷ []) (steps p) 1 (path-within os j v (instance_space s) p c) (omega arith)

mutual
  pub needs-within : (os : List Opened) (j : ℕ) (vs : List ℕ) (ls : Leaves) (c : Counters) → length (needs os j vs ls c) ≤ most_needs ls
  needs-within os j vs no_leaf c = omega arith
  needs-within os j vs (l ▸ ls) c =
      both-within (needs_leaf os j vs l c) (needs os j (drop (references_leaf l) vs) ls (past_leaf os l c)) (most_needs_leaf l) (most_needs ls) (needs_leaf-within os j vs l c) (needs-within os j (drop (references_leaf l) vs) ls (past_leaf os l c))

  needs_leaf-within : (os : List Opened) (j : ℕ) (vs : List ℕ) (l : Leaf) (c : Counters) → length (needs_leaf os j vs l c) ≤ most_needs_leaf l
  needs_leaf-within os j vs (core_value (ref_name b r x)) c = name-within os j (next_place vs) CoreType (leads_out r (found os CoreType r x)) (found os CoreType r x) c
  needs_leaf-within os j vs (ref s (name r x)) c = name-within os j (next_place vs) s (leads_out r (found os s r x)) (found os s r x) c
  needs_leaf-within os j vs (ref s (path p)) c = path-within os j (next_place vs) s p c
  needs_leaf-within os j vs (present l) c = needs_leaf-within os j vs l c
  needs_leaf-within os j vs (node (row t ls)) c = needs-within os j vs ls c
  needs_leaf-within os j vs (nodes ns) c = needs_nodes-within os j vs ns c
  needs_leaf-within os j vs l c = omega arith

  needs_nodes-within : (os : List Opened) (j : ℕ) (vs : List ℕ) (ns : Nodes) (c : Counters) → length (needs_nodes os j vs ns c) ≤ most_needs_nodes ns
  needs_nodes-within os j vs no_node c = omega arith
  needs_nodes-within os j vs (one_node (row t ls) ns) c =
      both-within (needs os j vs ls c) (needs_nodes os j (drop (references ls) vs) ns (past os ls c)) (most_needs ls) (most_needs_nodes ns) (needs-within os j vs ls c) (needs_nodes-within os j (drop (references ls) vs) ns (past os ls c))

-- ---- counters

count-within : (t : Space) (ss : List Space) → count_in t ss ≤ length ss
count-within t [] = omega arith
count-within t (s ∷ ss) = go (same_space t s) refl (count-within t ss)
  where
    go : (b : Bool) → same_space t s ≡ b → count_in t ss ≤ length ss → count_in t (s ∷ ss) ≤ length (s ∷ ss)
    go true e h = rw e (omega (arith, h))
    go false e h = rw e (omega (arith, h))

two-within : (x y z n m : ℕ) → x ≤ y + m → y ≤ z + n → x ≤ z + (n + m)
two-within x y z n m p q = omega (arith, p, q)

more-within : (x n m : ℕ) → n ≤ m → x + n ≤ x + m
more-within x n m h = omega (arith, h)

past_alias-within : (s : Space) (d : Denoted) (a : Option ℕ) (c : Counters) (t : Space) → (past_alias s d a c).counts t ≤ c.counts t + 1
past_alias-within s d (Some i) c t = omega arith
past_alias-within s d None c t = more-within (c.counts t) (count_in t (s ∷ [])) 1 (count-within t (s ∷ []))

past_name-within : (s : Space) (b : Bool) (o : Option Denoted) (c : Counters) (t : Space) → (past_name s b o c).counts t ≤ c.counts t + 1
past_name-within s true (Some d) c t = past_alias-within s d (alias_of s d c.aliases) c t
past_name-within s true None c t = omega arith
past_name-within s false None c t = omega arith
past_name-within s false (Some d) c t = omega arith

past_path-within : (s : Space) (p : Path) (c : Counters) (t : Space) → (past_path s p c).counts t ≤ c.counts t + steps p
past_path-within s (root_number o n) c t = omega arith
past_path-within s (root_name x) c t = omega arith
past_path-within s (export_of p x) c t =
    two-within ((past_path s (export_of p x) c).counts t) ((past_path (instance_space s) p c).counts t) (c.counts t) (steps p) 1
    (more-within ((past_path (instance_space s) p c).counts t) (count_in t (s ∷ [])) 1 (count-within t (s ∷ []))) (past_path-within (instance_space s) p c t)

mutual
  pub past-within : (os : List Opened) (ls : Leaves) (c : Counters) (t : Space) → (past os ls c).counts t ≤ c.counts t + most_needs ls
  past-within os no_leaf c t = omega arith
  past-within os (l ▸ ls) c t = two-within ((past os ls (past_leaf os l c)).counts t) ((past_leaf os l c).counts t) (c.counts t) (most_needs_leaf l) (most_needs ls) (past-within os ls (past_leaf os l c) t) (past_leaf-within os l c t)

  past_leaf-within : (os : List Opened) (l : Leaf) (c : Counters) (t : Space) → (past_leaf os l c).counts t ≤ c.counts t + most_needs_leaf l
  past_leaf-within os (core_value (ref_name b r x)) c t = past_name-within CoreType (leads_out r (found os CoreType r x)) (found os CoreType r x) c t
  past_leaf-within os (ref s (name r x)) c t = past_name-within s (leads_out r (found os s r x)) (found os s r x) c t
  past_leaf-within os (ref s (path p)) c t = past_path-within s p c t
  past_leaf-within os (present l) c t = past_leaf-within os l c t
  past_leaf-within os (node (row w ls)) c t = past-within os ls c t
  past_leaf-within os (nodes ns) c t = past_nodes-within os ns c t
  past_leaf-within os l c t = omega arith

  past_nodes-within : (os : List Opened) (ns : Nodes) (c : Counters) (t : Space) → (past_nodes os ns c).counts t ≤ c.counts t + most_needs_nodes ns
  past_nodes-within os no_node c t = omega arith
  past_nodes-within os (one_node (row w ls) ns) c t = two-within ((past_nodes os ns (past os ls c)).counts t) ((past os ls c).counts t) (c.counts t) (most_needs ls) (most_needs_nodes ns) (past_nodes-within os ns (past os ls c) t) (past-within os ls c t)

-- what is left never grows
sum-within : (p c l k n r : ℕ) → p ≤ c + l → k ≤ n → p + k + r ≤ c + (l + n + r)
sum-within p c l k n r h i = omega (arith, h, i)

pub def-within : (os : List Opened) (d : Defs) (ls : Leaves) (ss : List Space) (c : Counters) (t : Space) → (advanced ss (past os ls c)).counts t + most_declared d ≤ c.counts t + (most_needs ls + length ss + most_declared d)
def-within os d ls ss c t = sum-within ((past os ls c).counts t) (c.counts t) (most_needs ls) (count_in t ss) (length ss) (most_declared d) (past-within os ls c t) (count-within t ss)
