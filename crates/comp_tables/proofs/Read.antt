-- The index of each reference is read from the tables and counters, and so is what stands before a definition.
use Rattle.std.specs.List.{range_with_len}
use Rattle.std.proofs.Common.{◌≡◌, ℕ, zero, suc, ◌+◌, Bool, true, false, List, [], ◌∷◌, ◌++◌, Option, Some, None, drop, option_map, refl, sym, ◌∙◌, ap, arith}
use Rattle.std.proofs.lemmas.List.{append_assoc}
use Rattle.comp_model.specs.declared.Space.{Space}
use Rattle.comp_model.specs.declared.Space.TheVariants.{CoreType}
use Rattle.comp_model.specs.Core.{Id, Reach, own, CoreValue, ref_numeral, ref_name}
use Rattle.comp_model.specs.Model.{Leaf, core_value, ref, present, node, nodes, numeral, name, Path, root_number, root_name, export_of, path, inline, bundle, Leaves, no_leaf, ◌▸◌, row, Nodes, no_node, one_node, scope, scope_of, Scope}
use Rattle.comp_model.specs.Origins.{Origin, export_step, outer_alias_of}
use Rattle.comp_scopes.specs.Encoding.{Encoding}
use Rattle.comp_scopes.specs.Names.{Denoted, denotes}
use Rattle.comp_scopes.specs.References.{references, references_leaf, references_nodes, steps, instance_space}
use Rattle.comp_scopes.specs.Outward.{Outward, leads_out, outward_name, outward_leaves, outward_leaf, outward_nodes, outward_names, served}
use Rattle.comp_scopes.specs.Plan.{Mark, mark, plan_alias, plan_name, plan_path, plan_leaves, plan_leaf, plan_nodes, marks, before, item_index}
use Rattle.comp_scopes.specs.Form.{make, alias_node, form_alias, form_name, root_index, path_index, step_node, form_path, form_value, form_leaves, form_leaf, form_nodes}
use Rattle.comp_scopes.specs.Filled.{indices, indices_of, indices_of_nodes}
use Rattle.comp_expanded.specs.IsExpanded.{LeavesExpanded, LeafExpanded, NodesExpanded}
use Rattle.comp_tables.specs.Tables.{Counters, alias_of, Opened, found, index_at, past_path, past, past_leaf, or_next, found_name_index, alias_needs, name_needs, found_root_index, found_path_index, path_needs, next_place, found_indices, found_indices_leaf, found_indices_nodes, needs, needs_leaf, needs_nodes}
use Rattle.comp_tables.specs.Stand.{RegistriesHold, TablesHold, outward_at, ComesNext}
use Rattle.comp_scopes.proofs.Table.{marks-seam}
use Rattle.comp_tables.proofs.Names.{found-denotes}
use Rattle.comp_tables.proofs.Counts.{Moved, past-moved, leaf-moved, path-moved, index-item}
use Rattle.comp_tables.proofs.Aliased.{alias-served}

-- ---- a place along marks and names: these come next, and the counters hold those in front

pub placed-left : (st : List Scope) (c : Counters) (xs ys : List Mark) (vs ws : List Outward) → ComesNext st c (xs ++ ys) (vs ++ ws) → ComesNext st c xs vs
placed-left st c xs ys vs ws p = record {
  front = p.front;
  rest = ys ++ p.rest;
  named = p.named;
  later = ws ++ p.later;
  held = p.held;
  marked = p.marked ∙ ap (λ r. p.front ++ r) (append_assoc xs ys p.rest);
  led = p.led ∙ ap (λ r. p.named ++ r) (append_assoc vs ws p.later);
}

pub placed-right : (st : List Scope) (c d : Counters) (xs ys : List Mark) (vs ws : List Outward) → Moved st c d xs vs → ComesNext st c (xs ++ ys) (vs ++ ws) → ComesNext st d ys ws
placed-right st c d xs ys vs ws f p =
    let e : marks st ≡ p.front ++ (xs ++ (ys ++ p.rest)) = p.marked ∙ ap (λ r. p.front ++ r) (append_assoc xs ys p.rest) in
    let g : outward_names st ≡ p.named ++ (vs ++ (ws ++ p.later)) = p.led ∙ ap (λ r. p.named ++ r) (append_assoc vs ws p.later) in
    record {
      front = p.front ++ xs;
      rest = p.rest;
      named = p.named ++ vs;
      later = p.later;
      held = f p.front (ys ++ p.rest) p.named (ws ++ p.later) e g p.held;
      marked = e ∙ sym (append_assoc p.front xs (ys ++ p.rest));
      led = g ∙ sym (append_assoc p.named vs (ws ++ p.later));
    }

-- the index of a mark that comes next
next-index : (st : List Scope) (c : Counters) (s : Space) (m : Mark) (ws : List Outward) → ComesNext st c (m ∷ []) ws → before s m.origin (marks st) ≡ c.counts s
next-index st c s m ws p = marks-seam s st p.front m p.rest p.marked ∙ sym (p.held.counted s)

-- ---- a name

-- the alias that stands for it, or its own
number-alias : (st : List Scope) (k u : ℕ) (s : Space) (d : Denoted) (c : Counters) (o : Option Origin) (a : Option ℕ) → a ≡ option_map (λ q. before s q (marks st)) o → ComesNext st c (plan_alias k u s o).needed (outward_at k u s d ∷ [])
    → or_next a (c.counts s) ≡ (form_alias st k u s d o).here
number-alias st k u s d c (Some q) a e p = rw e refl
number-alias st k u s d c None a e p = rw e (sym (next-index st c s (mark (outer_alias_of k u) (s ∷ [])) (outward_at k u s d ∷ []) p))

number-name : (os : List Opened) (st : List Scope) (k u : ℕ) (s : Space) (out : Bool) (o : Option Denoted) (c : Counters) → ((a : Denoted) → o ≡ Some a → index_at os a ≡ item_index st s a)
    → ComesNext st c (plan_name st k u s out o).needed (outward_name k u s out o).needed → found_name_index os s out o c ≡ (form_name st k u s out o).here
number-name os st k u s true None c i p = refl
number-name os st k u s false None c i p = refl
number-name os st k u s false (Some d) c i p = i d refl
number-name os st k u s true (Some d) c i p = number-alias st k u s d c (served st k u s d) (alias_of s d c.aliases) (alias-served st k u s d c p.front p.named p.later p.led p.held) p

needs-alias : (os : List Opened) (st : List Scope) (k u : ℕ) (s : Space) (d : Denoted) (o : Option Origin) (a : Option ℕ) → a ≡ option_map (λ q. before s q (marks st)) o → index_at os d ≡ item_index st s d → alias_needs os k u s d a ≡ (form_alias st k u s d o).needed
needs-alias os st k u s d (Some q) a e i = rw e refl
needs-alias os st k u s d None a e i = rw e (ap (λ n. make (outer_alias_of k u) (alias_node d.depth s n) ∷ []) i)

needs-name : (os : List Opened) (st : List Scope) (k u : ℕ) (s : Space) (out : Bool) (o : Option Denoted) (c : Counters) → ((a : Denoted) → o ≡ Some a → index_at os a ≡ item_index st s a)
    → ComesNext st c (plan_name st k u s out o).needed (outward_name k u s out o).needed → name_needs os k u s out o c ≡ (form_name st k u s out o).needed
needs-name os st k u s true None c i p = refl
needs-name os st k u s false None c i p = refl
needs-name os st k u s false (Some d) c i p = refl
needs-name os st k u s true (Some d) c i p = needs-alias os st k u s d (served st k u s d) (alias_of s d c.aliases) (alias-served st k u s d c p.front p.named p.later p.led p.held) (i d refl)

-- ---- a path

root-read : (os : List Opened) (st : List Scope) (s : Space) (o : Option Denoted) → ((a : Denoted) → o ≡ Some a → index_at os a ≡ item_index st s a) → found_root_index os o ≡ root_index st s o
root-read os st s None i = refl
root-read os st s (Some d) i = i d refl

pub number-path : (os : List Opened) (st : List Scope) (k u : ℕ) (s : Space) (p : Path) (c : Counters) → RegistriesHold os st → TablesHold os st → ComesNext st c (plan_path k u s p) [] → found_path_index os s p c ≡ path_index st k u s p
number-path os st k u s (root_number o n) c h t q = refl
number-path os st k u s (root_name x) c h t q = ap (found_root_index os) (found-denotes os st s own x h) ∙ root-read os st s (denotes st s own x) (λ a. index-item os st s own x a t)
number-path os st k u s (export_of p x) c h t q =
    sym (next-index st (past_path (instance_space s) p c) s (mark (export_step k u (steps p)) (s ∷ [])) []
    (placed-right st c (past_path (instance_space s) p c) (plan_path k u (instance_space s) p) (mark (export_step k u (steps p)) (s ∷ []) ∷ []) [] [] (path-moved st k u (instance_space s) p c) q))

pub needs-path : (os : List Opened) (st : List Scope) (k u : ℕ) (s : Space) (p : Path) (c : Counters) → RegistriesHold os st → TablesHold os st → ComesNext st c (plan_path k u s p) [] → path_needs os k u s p c ≡ form_path st k u s p
needs-path os st k u s (root_number o n) c h t q = refl
needs-path os st k u s (root_name x) c h t q = refl
needs-path os st k u s (export_of p x) c h t q =
    let l : ComesNext st c (plan_path k u (instance_space s) p) [] = placed-left st c (plan_path k u (instance_space s) p) (mark (export_step k u (steps p)) (s ∷ []) ∷ []) [] [] q in
    ap (λ ms. ms ++ make (export_step k u (steps p)) (step_node (found_path_index os (instance_space s) p c) x s) ∷ []) (needs-path os st k u (instance_space s) p c h t l)
    ∙ ap (λ n. form_path st k u (instance_space s) p ++ make (export_step k u (steps p)) (step_node n x s) ∷ []) (number-path os st k u (instance_space s) p c h t l)

-- ---- leaves

name-found_indices : (os : List Opened) (st : List Scope) (k u : ℕ) (s : Space) (r : Reach) (x : Id) (c : Counters) → RegistriesHold os st → TablesHold os st → ComesNext st c (plan_name st k u s (leads_out r (denotes st s r x)) (denotes st s r x)).needed (outward_name k u s (leads_out r (denotes st s r x)) (denotes st s r x)).needed
    → found_name_index os s (leads_out r (found os s r x)) (found os s r x) c ∷ [] ≡ (form_name st k u s (leads_out r (denotes st s r x)) (denotes st s r x)).here ∷ []
name-found_indices os st k u s r x c h t p =
    ap (λ d. found_name_index os s (leads_out r d) d c ∷ []) (found-denotes os st s r x h)
    ∙ ap (λ n. n ∷ []) (number-name os st k u s (leads_out r (denotes st s r x)) (denotes st s r x) c (λ a. index-item os st s r x a t) p)

name-needed : (os : List Opened) (st : List Scope) (k u : ℕ) (s : Space) (r : Reach) (x : Id) (c : Counters) → RegistriesHold os st → TablesHold os st → ComesNext st c (plan_name st k u s (leads_out r (denotes st s r x)) (denotes st s r x)).needed (outward_name k u s (leads_out r (denotes st s r x)) (denotes st s r x)).needed
    → name_needs os k u s (leads_out r (found os s r x)) (found os s r x) c ≡ (form_name st k u s (leads_out r (denotes st s r x)) (denotes st s r x)).needed
name-needed os st k u s r x c h t p =
    ap (λ d. name_needs os k u s (leads_out r d) d c) (found-denotes os st s r x h)
    ∙ needs-name os st k u s (leads_out r (denotes st s r x)) (denotes st s r x) c (λ a. index-item os st s r x a t) p

mutual
  pub found_indices-read : (os : List Opened) (st : List Scope) (k u : ℕ) (ls : Leaves) (c : Counters) → RegistriesHold os st → TablesHold os st → LeavesExpanded ls → ComesNext st c (plan_leaves st k u ls).needed (outward_leaves st k u ls).needed → found_indices os ls c ≡ indices st k u ls
  found_indices-read os st k u no_leaf c h t x p = refl
  found_indices-read os st k u (l ▸ ls) c h t x p =
      let a : found_indices_leaf os l c ≡ indices_of st k u l = found_indices_leaf-read os st k u l c h t x.0 (placed-left st c (plan_leaf st k u l).needed (plan_leaves st k (u + references_leaf l) ls).needed (outward_leaf st k u l).needed (outward_leaves st k (u + references_leaf l) ls).needed p) in
      let b : found_indices os ls (past_leaf os l c) ≡ indices st k (u + references_leaf l) ls = found_indices-read os st k (u + references_leaf l) ls (past_leaf os l c) h t x.1
      (placed-right st c (past_leaf os l c) (plan_leaf st k u l).needed (plan_leaves st k (u + references_leaf l) ls).needed (outward_leaf st k u l).needed (outward_leaves st k (u + references_leaf l) ls).needed (leaf-moved os st k u l c h x.0) p) in
      ap (λ q. q ++ found_indices os ls (past_leaf os l c)) a ∙ ap (λ q. indices_of st k u l ++ q) b

  found_indices_leaf-read : (os : List Opened) (st : List Scope) (k u : ℕ) (l : Leaf) (c : Counters) → RegistriesHold os st → TablesHold os st → LeafExpanded l → ComesNext st c (plan_leaf st k u l).needed (outward_leaf st k u l).needed → found_indices_leaf os l c ≡ indices_of st k u l
  found_indices_leaf-read os st k u (core_value (ref_numeral b o n)) c h t x p = refl
  found_indices_leaf-read os st k u (core_value (ref_name b r y)) c h t x p = name-found_indices os st k u CoreType r y c h t p
  found_indices_leaf-read os st k u (ref s (numeral o n)) c h t x p = refl
  found_indices_leaf-read os st k u (ref s (name r y)) c h t x p = name-found_indices os st k u s r y c h t p
  found_indices_leaf-read os st k u (ref s (path q)) c h t x p = ap (λ n. n ∷ []) (number-path os st k u s q c h t p)
  found_indices_leaf-read os st k u (ref s (inline n)) c h t x p = absurd x
  found_indices_leaf-read os st k u (ref s (bundle n)) c h t x p = absurd x
  found_indices_leaf-read os st k u (present l) c h t x p = found_indices_leaf-read os st k u l c h t x p
  found_indices_leaf-read os st k u (node (row w ls)) c h t x p = found_indices-read os st k u ls c h t x p
  found_indices_leaf-read os st k u (nodes ns) c h t x p = found_indices_nodes-read os st k u ns c h t x p
  found_indices_leaf-read os st k u l c h t x p = refl

  found_indices_nodes-read : (os : List Opened) (st : List Scope) (k u : ℕ) (ns : Nodes) (c : Counters) → RegistriesHold os st → TablesHold os st → NodesExpanded ns → ComesNext st c (plan_nodes st k u ns).needed (outward_nodes st k u ns).needed → found_indices_nodes os ns c ≡ indices_of_nodes st k u ns
  found_indices_nodes-read os st k u no_node c h t x p = refl
  found_indices_nodes-read os st k u (one_node (row w ls) ns) c h t x p =
      let a : found_indices os ls c ≡ indices st k u ls = found_indices-read os st k u ls c h t x.0 (placed-left st c (plan_leaves st k u ls).needed (plan_nodes st k (u + references ls) ns).needed (outward_leaves st k u ls).needed (outward_nodes st k (u + references ls) ns).needed p) in
      let b : found_indices_nodes os ns (past os ls c) ≡ indices_of_nodes st k (u + references ls) ns = found_indices_nodes-read os st k (u + references ls) ns (past os ls c) h t x.1
      (placed-right st c (past os ls c) (plan_leaves st k u ls).needed (plan_nodes st k (u + references ls) ns).needed (outward_leaves st k u ls).needed (outward_nodes st k (u + references ls) ns).needed (past-moved os st k u ls c h x.0) p) in
      ap (λ q. q ++ found_indices_nodes os ns (past os ls c)) a ∙ ap (λ q. indices st k u ls ++ q) b

-- ---- the numbers of references, one behind the other

pub drop-range : (u n m : ℕ) → drop n (range_with_len u (n + m)) ≡ range_with_len (u + n) m
drop-range u zero m =
    let y : 0 + m ≡ m = omega arith in
    let z : u ≡ u + 0 = omega arith in
    ap (range_with_len u) y ∙ ap (λ v. range_with_len v m) z
drop-range u (suc n) m =
    let y : suc n + m ≡ suc (n + m) = omega arith in
    let z : u + 1 + n ≡ u + suc n = omega arith in
    ap (λ i. drop (suc n) (range_with_len u i)) y ∙ drop-range (u + 1) n m ∙ ap (λ v. range_with_len v m) z

pub next-range : (u m : ℕ) → next_place (range_with_len u (1 + m)) ≡ u
next-range u m = let y : 1 + m ≡ suc m = omega arith in ap (λ i. next_place (range_with_len u i)) y

pub sum-range : (u a b m : ℕ) → range_with_len u (a + b + m) ≡ range_with_len u (a + (b + m))
sum-range u a b m = let y : a + b + m ≡ a + (b + m) = omega arith in ap (range_with_len u) y

module _ (e : Encoding) where
  name-read : (os : List Opened) (st : List Scope) (k u m : ℕ) (s : Space) (r : Reach) (x : Id) (c : Counters) → RegistriesHold os st → TablesHold os st → ComesNext st c (plan_name st k u s (leads_out r (denotes st s r x)) (denotes st s r x)).needed (outward_name k u s (leads_out r (denotes st s r x)) (denotes st s r x)).needed
      → name_needs os k (next_place (range_with_len u (1 + m))) s (leads_out r (found os s r x)) (found os s r x) c ≡ (form_name st k u s (leads_out r (denotes st s r x)) (denotes st s r x)).needed
  name-read os st k u m s r x c h t p = ap (λ v. name_needs os k v s (leads_out r (found os s r x)) (found os s r x) c) (next-range u m) ∙ name-needed os st k u s r x c h t p

  value-needs : (os : List Opened) (st : List Scope) (k u m : ℕ) (v : CoreValue) (c : Counters) → RegistriesHold os st → TablesHold os st → ComesNext st c (plan_leaf st k u (core_value v)).needed (outward_leaf st k u (core_value v)).needed
      → needs_leaf os k (range_with_len u (references_leaf (core_value v) + m)) (core_value v) c ≡ (form_value st k u v).needed
  value-needs os st k u m (ref_name b r y) c h t p = name-read os st k u m CoreType r y c h t p
  value-needs os st k u m (ref_numeral b o n) c h t p = refl
  value-needs os st k u m v c h t p = refl

  mutual
    pub needs-read : (os : List Opened) (st : List Scope) (k u m : ℕ) (ls : Leaves) (c : Counters) → RegistriesHold os st → TablesHold os st → LeavesExpanded ls → ComesNext st c (plan_leaves st k u ls).needed (outward_leaves st k u ls).needed → needs os k (range_with_len u (references ls + m)) ls c ≡ (form_leaves e st k u ls).needed
    needs-read os st k u m no_leaf c h t x p = refl
    needs-read os st k u m (l ▸ ls) c h t x p =
        let vs : List ℕ = range_with_len u (references_leaf l + (references ls + m)) in
        let a : needs_leaf os k vs l c ≡ (form_leaf e st k u l).needed = needs_leaf-read os st k u (references ls + m) l c h t x.0 (placed-left st c (plan_leaf st k u l).needed (plan_leaves st k (u + references_leaf l) ls).needed (outward_leaf st k u l).needed (outward_leaves st k (u + references_leaf l) ls).needed p) in
        let b : needs os k (range_with_len (u + references_leaf l) (references ls + m)) ls (past_leaf os l c) ≡ (form_leaves e st k (u + references_leaf l) ls).needed = needs-read os st k (u + references_leaf l) m ls (past_leaf os l c) h t x.1
        (placed-right st c (past_leaf os l c) (plan_leaf st k u l).needed (plan_leaves st k (u + references_leaf l) ls).needed (outward_leaf st k u l).needed (outward_leaves st k (u + references_leaf l) ls).needed (leaf-moved os st k u l c h x.0) p) in
        ap (λ i. needs os k i (l ▸ ls) c) (sum-range u (references_leaf l) (references ls) m) ∙ ap (λ i. needs_leaf os k vs l c ++ needs os k i ls (past_leaf os l c)) (drop-range u (references_leaf l) (references ls + m))
        ∙ ap (λ q. q ++ needs os k (range_with_len (u + references_leaf l) (references ls + m)) ls (past_leaf os l c)) a ∙ ap (λ q. (form_leaf e st k u l).needed ++ q) b

    needs_leaf-read : (os : List Opened) (st : List Scope) (k u m : ℕ) (l : Leaf) (c : Counters) → RegistriesHold os st → TablesHold os st → LeafExpanded l → ComesNext st c (plan_leaf st k u l).needed (outward_leaf st k u l).needed → needs_leaf os k (range_with_len u (references_leaf l + m)) l c ≡ (form_leaf e st k u l).needed
    needs_leaf-read os st k u m (core_value v) c h t x p = value-needs os st k u m v c h t p
    needs_leaf-read os st k u m (ref s (name r y)) c h t x p = name-read os st k u m s r y c h t p
    needs_leaf-read os st k u m (ref s (path q)) c h t x p = ap (λ v. path_needs os k v s q c) (next-range u m) ∙ needs-path os st k u s q c h t p
    needs_leaf-read os st k u m (ref s (inline n)) c h t x p = absurd x
    needs_leaf-read os st k u m (ref s (bundle n)) c h t x p = absurd x
    needs_leaf-read os st k u m (present l) c h t x p = needs_leaf-read os st k u m l c h t x p
    needs_leaf-read os st k u m (node (row w ls)) c h t x p = needs-read os st k u m ls c h t x p
    needs_leaf-read os st k u m (nodes ns) c h t x p = needs_nodes-read os st k u m ns c h t x p
    needs_leaf-read os st k u m (scope (scope_of kd id label ds)) c h t x p = refl
    needs_leaf-read os st k u m l c h t x p = refl

    needs_nodes-read : (os : List Opened) (st : List Scope) (k u m : ℕ) (ns : Nodes) (c : Counters) → RegistriesHold os st → TablesHold os st → NodesExpanded ns → ComesNext st c (plan_nodes st k u ns).needed (outward_nodes st k u ns).needed → needs_nodes os k (range_with_len u (references_nodes ns + m)) ns c ≡ (form_nodes e st k u ns).needed
    needs_nodes-read os st k u m no_node c h t x p = refl
    needs_nodes-read os st k u m (one_node (row w ls) ns) c h t x p =
        let vs : List ℕ = range_with_len u (references ls + (references_nodes ns + m)) in
        let a : needs os k vs ls c ≡ (form_leaves e st k u ls).needed = needs-read os st k u (references_nodes ns + m) ls c h t x.0 (placed-left st c (plan_leaves st k u ls).needed (plan_nodes st k (u + references ls) ns).needed (outward_leaves st k u ls).needed (outward_nodes st k (u + references ls) ns).needed p) in
        let b : needs_nodes os k (range_with_len (u + references ls) (references_nodes ns + m)) ns (past os ls c) ≡ (form_nodes e st k (u + references ls) ns).needed = needs_nodes-read os st k (u + references ls) m ns (past os ls c) h t x.1
        (placed-right st c (past os ls c) (plan_leaves st k u ls).needed (plan_nodes st k (u + references ls) ns).needed (outward_leaves st k u ls).needed (outward_nodes st k (u + references ls) ns).needed (past-moved os st k u ls c h x.0) p) in
        ap (λ i. needs_nodes os k i (one_node (row w ls) ns) c) (sum-range u (references ls) (references_nodes ns) m) ∙ ap (λ i. needs os k vs ls c ++ needs_nodes os k i ns (past os ls c)) (drop-range u (references ls) (references_nodes ns + m))
        ∙ ap (λ q. q ++ needs_nodes os k (range_with_len (u + references ls) (references_nodes ns + m)) ns (past os ls c)) a ∙ ap (λ q. (form_leaves e st k u ls).needed ++ q) b

  -- of a definition
  pub needs-of : (os : List Opened) (st : List Scope) (k : ℕ) (ls : Leaves) (c : Counters) → RegistriesHold os st → TablesHold os st → LeavesExpanded ls → ComesNext st c (plan_leaves st k 0 ls).needed (outward_leaves st k 0 ls).needed
      → needs os k (range_with_len 0 (references ls)) ls c ≡ (form_leaves e st k 0 ls).needed
  needs-of os st k ls c h t x p = let z : references ls ≡ references ls + 0 = omega arith in ap (λ n. needs os k (range_with_len 0 n) ls c) z ∙ needs-read os st k 0 0 ls c h t x p
