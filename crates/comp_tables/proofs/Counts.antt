-- The counters of a walk along definitions are the declarations in front of its place, and the table of first indices holds them.
use Rattle.std.proofs.Common.{◌≡◌, ℕ, zero, suc, ◌+◌, Bool, true, false, ◌&&◌, cond, List, [], ◌∷◌, ◌++◌, length, drop, find, Option, Some, None, option_map, refl, sym, ◌∙◌, ap, subst, arith}
use Rattle.std.specs.Prelude.{slice_index}
use Rattle.std.proofs.lemmas.List.{append_assoc, append-nil, length_push}
use Rattle.comp_model.specs.declared.Space.{Space}
use Rattle.comp_model.specs.declared.Space.TheVariants.{CoreType}
use Rattle.comp_model.specs.Core.{Id, Reach, ref_name}
use Rattle.comp_model.specs.Model.{Leaf, core_value, ref, present, node, nodes, name, Path, root_number, root_name, export_of, path, inline, bundle, Leaves, no_leaf, ◌▸◌, row, Nodes, no_node, one_node, define, Defs, no_def, one_def, Scope, scope_of, defs_of}
use Rattle.comp_model.specs.declared.row.Row.{Row}
use Rattle.comp_model.specs.Spaces.{declares_row, count_in, same_space, Declaration, parts, declarations_from, declarations, bears}
use Rattle.comp_model.specs.Origins.{Origin, written, export_step, outer_alias_of}
use Rattle.comp_model.proofs.Tests.{same_space-true}
use Rattle.comp_scopes.specs.Names.{Denoted, denotes, first_of_two}
use Rattle.comp_scopes.specs.References.{references, references_leaf, steps, instance_space}
use Rattle.comp_scopes.specs.Outward.{Outward, plan_own, leads_out, outward_name, outward_leaves, outward_leaf, outward_nodes, outward_defs, outward_names, same_item, served}
use Rattle.comp_scopes.specs.Plan.{Mark, mark, plan_alias, plan_name, plan_path, plan_one, plan_leaves, plan_leaf, plan_nodes, plan_defs, export_marks, name_marks, marks, before, counts, item_index}
use Rattle.comp_model.specs.ItemNames.{has_names}
use Rattle.comp_scopes.specs.Rowed.{EachIs, AllSame, DefsRowed, Rowed}
use Rattle.comp_expanded.specs.IsExpanded.{LeavesExpanded, LeafExpanded, NodesExpanded, DefsExpanded, IsExpanded}
use Rattle.comp_tables.specs.Tables.{Counters, no_counts, advanced, alias_of, Opened, table_at, index_at, found, past_alias, past_name, past_path, past, past_leaf, past_nodes, first_index, counted_table}
use Rattle.comp_tables.specs.Stand.{RegistriesHold, EachItem, HoldsFirst, TablesHold, first_alias, outward_at, CountersHold}
use Rattle.comp_scopes.proofs.Table.{marks-seam}
use Rattle.comp_scopes.proofs.Filled.{at-seam}
use Rattle.comp_scopes.proofs.Lookup.{StandsAt, denotes-stands}
use Rattle.comp_expanded.proofs.Alone.{plan-alone, outward-alone}
use Rattle.comp_expanded.proofs.Firsts.{first-none}
use Rattle.comp_tables.proofs.Names.{found-denotes}
use Rattle.comp_tables.proofs.Aliased.{first-app, alias-app, map-first, first-alike, served-here, alias-served}
use Rattle.comp_scopes.proofs.Among.{and-both}

pub counts-app : (t : Space) (xs ys : List Mark) → counts t (xs ++ ys) ≡ counts t xs + counts t ys
counts-app t [] ys = omega arith
counts-app t (x ∷ xs) ys = let h : counts t (xs ++ ys) ≡ counts t xs + counts t ys = counts-app t xs ys in omega (arith, h)

-- ---- what a part adds to the counters

one-more : (a n : ℕ) → a + n ≡ a + (n + 0)
one-more a n = omega arith

-- from `c` to `d` come these marks, and these names that lead out
abbrev pub Moved : List Scope → Counters → Counters → List Mark → List Outward → Type 0
Moved st c d ms ws = (front rest : List Mark) (named later : List Outward) → marks st ≡ front ++ (ms ++ rest) → outward_names st ≡ named ++ (ws ++ later) → CountersHold st c front named → CountersHold st d (front ++ ms) (named ++ ws)

nothing-moved : (st : List Scope) (c : Counters) → Moved st c c [] []
nothing-moved st c front rest named later e i h = subst (λ ws. CountersHold st c (front ++ []) ws) (sym (append-nil named)) (subst (λ ms. CountersHold st c ms named) (sym (append-nil front)) h)

pub both-moved : (st : List Scope) (c d e : Counters) (xs ys : List Mark) (vs ws : List Outward) → Moved st c d xs vs → Moved st d e ys ws → Moved st c e (xs ++ ys) (vs ++ ws)
both-moved st c d e xs ys vs ws f g front rest named later p q h =
    let p1 : marks st ≡ front ++ (xs ++ (ys ++ rest)) = p ∙ ap (λ r. front ++ r) (append_assoc xs ys rest) in
    let q1 : outward_names st ≡ named ++ (vs ++ (ws ++ later)) = q ∙ ap (λ r. named ++ r) (append_assoc vs ws later) in
    let last : CountersHold st e ((front ++ xs) ++ ys) ((named ++ vs) ++ ws) =
    g (front ++ xs) rest (named ++ vs) later (p1 ∙ sym (append_assoc front xs (ys ++ rest))) (q1 ∙ sym (append_assoc named vs (ws ++ later))) (f front (ys ++ rest) named (ws ++ later) p1 q1 h) in
    subst (λ r. CountersHold st e r (named ++ (vs ++ ws))) (append_assoc front xs ys) (subst (λ r. CountersHold st e ((front ++ xs) ++ ys) r) (append_assoc named vs ws) last)

count-own : (c : Counters) (front : List Mark) (m : Mark) (t : Space) → c.counts t ≡ counts t front → (advanced m.spaces c).counts t ≡ counts t (front ++ m ∷ [])
count-own c front m t w = ap (λ n. n + count_in t m.spaces) w ∙ one-more (counts t front) (count_in t m.spaces) ∙ sym (counts-app t front (m ∷ []))

-- a mark that is no outer alias
pub own-moved : (st : List Scope) (c : Counters) (m : Mark) → Moved st c (advanced m.spaces c) (m ∷ []) []
own-moved st c m front rest named later e i h =
    subst (λ ws. CountersHold st (advanced m.spaces c) (front ++ m ∷ []) ws) (sym (append-nil named)) (record { counted = λ t. count-own c front m t (h.counted t); aliased = h.aliased })

-- ---- the needs of leaves

pub path-moved : (st : List Scope) (k u : ℕ) (s : Space) (p : Path) (c : Counters) → Moved st c (past_path s p c) (plan_path k u s p) []
path-moved st k u s (root_number o n) c = nothing-moved st c
path-moved st k u s (root_name x) c = nothing-moved st c
path-moved st k u s (export_of p x) c =
    both-moved st c (past_path (instance_space s) p c) (past_path s (export_of p x) c) (plan_path k u (instance_space s) p) (mark (export_step k u (steps p)) (s ∷ []) ∷ []) [] []
    (path-moved st k u (instance_space s) p c) (own-moved st (past_path (instance_space s) p c) (mark (export_step k u (steps p)) (s ∷ [])))

-- one name more, where an earlier one denotes the same item, is never the first
shared-first : (s r : Space) (d e : Denoted) (o q : Origin) (named : List Outward) → first_alias s d named ≡ Some q → first_alias r e named ≡ first_alias r e (named ++ record { origin = o; space = s; denoted = d } ∷ [])
shared-first s r d e o q named f = go (same_space r s && same_item e d) refl ∙ sym (first-app r e named (record { origin = o; space = s; denoted = d } ∷ []))
  where
    go : (b : Bool) → (same_space r s && same_item e d) ≡ b → first_alias r e named ≡ first_of_two (first_alias r e named) (cond b (Some o) None)
    go false h = sym (first-none (first_alias r e named))
    go true h =
        let a : (same_space r s ≡ true) × (same_item e d ≡ true) = and-both (same_space r s) (same_item e d) h in
        let i : first_alias r e named ≡ Some q = first-alike r s e d named (same_space-true r s a.0) a.1 ∙ f in rw i refl

module _ (st : List Scope) (k u : ℕ) (s : Space) (d : Denoted) (c : Counters) where
  abbrev own-alias : Outward
  own-alias = outward_at k u s d

  abbrev index-of : Space → Origin → ℕ
  index-of t o = before t o (marks st)

  -- a name that shares an alias
  shared-moved : (q : Origin) → served st k u s d ≡ Some q → Moved st c (past_alias s d (alias_of s d c.aliases) c) [] (own-alias ∷ [])
  shared-moved q g front rest named later e i h =
      let f : first_alias s d named ≡ Some q = sym (served-here st k u s d named later i) ∙ g in
      let a : alias_of s d c.aliases ≡ Some (index-of s q) = alias-served st k u s d c front named later i h ∙ ap (option_map (index-of s)) g in
      subst (λ x. CountersHold st (past_alias s d x c) (front ++ []) (named ++ own-alias ∷ [])) (sym a) (record {
        counted = λ t. h.counted t ∙ ap (counts t) (sym (append-nil front));
        aliased = λ t v. h.aliased t v ∙ ap (option_map (index-of t)) (shared-first s t d v (outer_alias_of k u) q named f);
      })

  -- one that has its own
  alone-moved : served st k u s d ≡ None → Moved st c (past_alias s d (alias_of s d c.aliases) c) (mark (outer_alias_of k u) (s ∷ []) ∷ []) (own-alias ∷ [])
  alone-moved g front rest named later e i h =
      let m : Mark = mark (outer_alias_of k u) (s ∷ []) in
      let a : alias_of s d c.aliases ≡ None = alias-served st k u s d c front named later i h ∙ ap (option_map (index-of s)) g in
      let n : index-of s (outer_alias_of k u) ≡ c.counts s = marks-seam s st front m rest e ∙ sym (h.counted s) in
      subst (λ x. CountersHold st (past_alias s d x c) (front ++ m ∷ []) (named ++ own-alias ∷ [])) (sym a) (record {
        counted = λ t. count-own c front m t (h.counted t);
        aliased = λ t v. alias-app t v c.aliases (record { space = s; denoted = d; index = c.counts s } ∷ []) ∙ ap (λ x. first_of_two x (cond (same_space t s && same_item v d) (Some (c.counts s)) None)) (h.aliased t v)
            ∙ ap (first_of_two (option_map (index-of t) (first_alias t v named))) (last t (same_space t s && same_item v d) (λ b. same_space-true t s (and-both (same_space t s) (same_item v d) b).0) n)
            ∙ sym (ap (option_map (index-of t)) (first-app t v named (own-alias ∷ [])) ∙ map-first (index-of t) (first_alias t v named) (first_alias t v (own-alias ∷ [])));
      })
    where
      last : (t : Space) (b : Bool) → (b ≡ true → t ≡ s) → index-of s (outer_alias_of k u) ≡ c.counts s → cond b (Some (c.counts s)) None ≡ option_map (index-of t) (cond b (Some (outer_alias_of k u)) None)
      last t true f n = ap Some (sym n ∙ ap (λ w. index-of w (outer_alias_of k u)) (sym (f refl)))
      last t false f n = refl

  alias-moved : (o : Option Origin) → served st k u s d ≡ o → Moved st c (past_alias s d (alias_of s d c.aliases) c) (plan_alias k u s o).needed (own-alias ∷ [])
  alias-moved (Some q) g = shared-moved q g
  alias-moved None g = alone-moved g

name-moved : (st : List Scope) (k u : ℕ) (s : Space) (b : Bool) (o : Option Denoted) (c : Counters) → Moved st c (past_name s b o c) (plan_name st k u s b o).needed (outward_name k u s b o).needed
name-moved st k u s true None c = nothing-moved st c
name-moved st k u s false None c = nothing-moved st c
name-moved st k u s false (Some d) c = nothing-moved st c
name-moved st k u s true (Some d) c = alias-moved st k u s d c (served st k u s d) refl

-- a name that was looked up in the registries
found-moved : (os : List Opened) (st : List Scope) (k u : ℕ) (s : Space) (r : Reach) (x : Id) (c : Counters) → RegistriesHold os st
    → Moved st c (past_name s (leads_out r (found os s r x)) (found os s r x) c) (plan_name st k u s (leads_out r (denotes st s r x)) (denotes st s r x)).needed (outward_name k u s (leads_out r (denotes st s r x)) (denotes st s r x)).needed
found-moved os st k u s r x c h =
    subst (λ o. Moved st c (past_name s (leads_out r o) o c) (plan_name st k u s (leads_out r (denotes st s r x)) (denotes st s r x)).needed (outward_name k u s (leads_out r (denotes st s r x)) (denotes st s r x)).needed)
    (sym (found-denotes os st s r x h)) (name-moved st k u s (leads_out r (denotes st s r x)) (denotes st s r x) c)

mutual
  pub past-moved : (os : List Opened) (st : List Scope) (k u : ℕ) (ls : Leaves) (c : Counters) → RegistriesHold os st → LeavesExpanded ls → Moved st c (past os ls c) (plan_leaves st k u ls).needed (outward_leaves st k u ls).needed
  past-moved os st k u no_leaf c h x = nothing-moved st c
  past-moved os st k u (l ▸ ls) c h x =
      both-moved st c (past_leaf os l c) (past os ls (past_leaf os l c)) (plan_leaf st k u l).needed (plan_leaves st k (u + references_leaf l) ls).needed (outward_leaf st k u l).needed (outward_leaves st k (u + references_leaf l) ls).needed
      (leaf-moved os st k u l c h x.0) (past-moved os st k (u + references_leaf l) ls (past_leaf os l c) h x.1)

  pub leaf-moved : (os : List Opened) (st : List Scope) (k u : ℕ) (l : Leaf) (c : Counters) → RegistriesHold os st → LeafExpanded l → Moved st c (past_leaf os l c) (plan_leaf st k u l).needed (outward_leaf st k u l).needed
  leaf-moved os st k u (core_value (ref_name b r x)) c h e = found-moved os st k u CoreType r x c h
  leaf-moved os st k u (ref s (name r x)) c h e = found-moved os st k u s r x c h
  leaf-moved os st k u (ref s (path p)) c h e = path-moved st k u s p c
  leaf-moved os st k u (ref s (inline n)) c h e = absurd e
  leaf-moved os st k u (ref s (bundle n)) c h e = absurd e
  leaf-moved os st k u (present l) c h e = leaf-moved os st k u l c h e
  leaf-moved os st k u (node (row w ls)) c h e = past-moved os st k u ls c h e
  leaf-moved os st k u (nodes ns) c h e = nodes-moved os st k u ns c h e
  leaf-moved os st k u l c h e = nothing-moved st c

  pub nodes-moved : (os : List Opened) (st : List Scope) (k u : ℕ) (ns : Nodes) (c : Counters) → RegistriesHold os st → NodesExpanded ns → Moved st c (past_nodes os ns c) (plan_nodes st k u ns).needed (outward_nodes st k u ns).needed
  nodes-moved os st k u no_node c h x = nothing-moved st c
  nodes-moved os st k u (one_node (row w ls) ns) c h x =
      both-moved st c (past os ls c) (past_nodes os ns (past os ls c)) (plan_leaves st k u ls).needed (plan_nodes st k (u + references ls) ns).needed (outward_leaves st k u ls).needed (outward_nodes st k (u + references ls) ns).needed
      (past-moved os st k u ls c h x.0) (nodes-moved os st k (u + references ls) ns (past os ls c) h x.1)

pub moved-past : (os : List Opened) (st : List Scope) (k u : ℕ) (ls : Leaves) (c : Counters) (front rest : List Mark) (named later : List Outward) → RegistriesHold os st → LeavesExpanded ls → marks st ≡ front ++ ((plan_leaves st k u ls).needed ++ rest)
    → outward_names st ≡ named ++ ((outward_leaves st k u ls).needed ++ later) → CountersHold st c front named → CountersHold st (past os ls c) (front ++ (plan_leaves st k u ls).needed) (named ++ (outward_leaves st k u ls).needed)
moved-past os st k u ls c front rest named later h x e f w = past-moved os st k u ls c h x front rest named later e f w

-- ---- a definition that stands alone

-- the marks of a definition that stands alone
pub one-alone : (st : List Scope) (k : ℕ) (ls : Leaves) (m : Mark) → LeavesExpanded ls → plan_one (plan_leaves st k 0 ls) m ≡ (plan_leaves st k 0 ls).needed ++ m ∷ []
one-alone st k ls m x = let a : ((plan_leaves st k 0 ls).inlined ≡ []) × ((plan_leaves st k 0 ls).bundles ≡ []) = plan-alone st k 0 ls x in rw (a.0, a.1) refl

-- and its names that lead out
pub names-alone : (st : List Scope) (k : ℕ) (ls : Leaves) → LeavesExpanded ls → plan_own (outward_leaves st k 0 ls) [] ≡ (outward_leaves st k 0 ls).needed
names-alone st k ls x =
    let a : ((outward_leaves st k 0 ls).inlined ≡ []) × ((outward_leaves st k 0 ls).bundles ≡ []) = outward-alone st k 0 ls x in rw (a.0, a.1) (append-nil (outward_leaves st k 0 ls).needed)

-- past a definition
pub definition-moved : (os : List Opened) (st : List Scope) (k : ℕ) (t : Row) (ls : Leaves) (c : Counters) → RegistriesHold os st → LeavesExpanded ls
    → Moved st c (advanced (declares_row t ls) (past os ls c)) (plan_one (plan_leaves st k 0 ls) (mark (written k) (declares_row t ls))) (plan_own (outward_leaves st k 0 ls) [])
definition-moved os st k t ls c h x =
    let m : Mark = mark (written k) (declares_row t ls) in
    let ns : List Mark = (plan_leaves st k 0 ls).needed in
    let ws : List Outward = (outward_leaves st k 0 ls).needed in
    let d : Counters = advanced (declares_row t ls) (past os ls c) in
    subst (λ ms. Moved st c d ms (plan_own (outward_leaves st k 0 ls) [])) (sym (one-alone st k ls m x)) (subst (λ vs. Moved st c d (ns ++ m ∷ []) vs) (sym (names-alone st k ls x))
    (subst (λ vs. Moved st c d (ns ++ m ∷ []) vs) (append-nil ws) (both-moved st c (past os ls c) d ns (m ∷ []) ws [] (past-moved os st k 0 ls c h x) (own-moved st (past os ls c) m))))

-- its own mark stands behind its needs
pub own-split : (front ns : List Mark) (m : Mark) (later rest : List Mark) → front ++ (((ns ++ m ∷ []) ++ later) ++ rest) ≡ (front ++ ns) ++ m ∷ (later ++ rest)
own-split front ns m later rest =
    ap (λ r. front ++ r) (append_assoc (ns ++ m ∷ []) later rest ∙ append_assoc ns (m ∷ []) (later ++ rest)) ∙ sym (append_assoc front ns (m ∷ (later ++ rest)))

-- ---- the table of first indices

pub each_item-app : (P : Declaration → Type 0) (xs ys : List Declaration) → EachItem P xs → EachItem P ys → EachItem P (xs ++ ys)
each_item-app P [] ys h i = i
each_item-app P (x ∷ xs) ys h i = (h.0, each_item-app P xs ys h.1 i)

parts-first : (T : List ℕ) (ms : List Mark) (k p : ℕ) (ids : List (Option Id)) (s : Space) (ss : List Space) → slice_index T k ≡ before s (written k) ms → EachIs s ss → EachItem (HoldsFirst T ms) (parts k p ids ss)
parts-first T ms k p ids s [] e h = tt
parts-first T ms k p [] s (t ∷ ts) e h = (subst (λ w. slice_index T k ≡ before w (written k) ms) (sym h.0) e, parts-first T ms k (p + 1) [] s ts e h.1)
parts-first T ms k p (x ∷ xs) s (t ∷ ts) e h = (subst (λ w. slice_index T k ≡ before w (written k) ms) (sym h.0) e, parts-first T ms k (p + 1) xs s ts e h.1)

own-first : (T : List ℕ) (ms : List Mark) (k : ℕ) (ids : List (Option Id)) (ss : List Space) (c : Counters) → AllSame ss → slice_index T k ≡ first_index ss c → ((s : Space) → before s (written k) ms ≡ c.counts s) → EachItem (HoldsFirst T ms) (parts k 0 ids ss)
own-first T ms k ids [] c a e f = tt
own-first T ms k ids (s ∷ ss) c a e f = parts-first T ms k 0 ids s (s ∷ ss) (e ∙ sym (f s)) (refl, a)

pub table-first : (os : List Opened) (st : List Scope) (pre : List ℕ) (front rest : List Mark) (named later : List Outward) (k : ℕ) (ds : Defs) (c : Counters) → RegistriesHold os st → DefsRowed ds → DefsExpanded ds → length pre ≡ k → CountersHold st c front named
    → marks st ≡ front ++ (plan_defs st k ds ++ rest) → outward_names st ≡ named ++ (outward_defs st k ds ++ later) → EachItem (HoldsFirst (pre ++ counted_table os c ds) (marks st)) (declarations_from k ds)
table-first os st pre front rest named later k no_def c h r x n w e f = tt
table-first os st pre front rest named later k (one_def (define names (row t ls)) ds) c h r x n w e f =
    let ss : List Space = declares_row t ls in
    let m : Mark = mark (written k) (declares_row t ls) in
    let ns : List Mark = (plan_leaves st k 0 ls).needed in
    let ws : List Outward = (outward_leaves st k 0 ls).needed in
    let c1 : Counters = past os ls c in
    let i : ℕ = first_index (declares_row t ls) (past os ls c) in
    let one : List Mark = plan_one (plan_leaves st k 0 ls) m in
    let own : List Outward = plan_own (outward_leaves st k 0 ls) [] in
    let more : List ℕ = counted_table os (advanced (declares_row t ls) (past os ls c)) ds in
    let e1 : marks st ≡ front ++ (one ++ (plan_defs st (k + 1) ds ++ rest)) = e ∙ ap (λ q. front ++ q) (append_assoc one (plan_defs st (k + 1) ds) rest) in
    let f1 : outward_names st ≡ named ++ (own ++ (outward_defs st (k + 1) ds ++ later)) = f ∙ ap (λ q. named ++ q) (append_assoc own (outward_defs st (k + 1) ds) later) in
    let split : marks st ≡ (front ++ ns) ++ m ∷ (plan_defs st (k + 1) ds ++ rest) = e ∙ ap (λ q. front ++ ((q ++ plan_defs st (k + 1) ds) ++ rest)) (one-alone st k ls m x.1) ∙ own-split front ns m (plan_defs st (k + 1) ds) rest in
    let e2 : marks st ≡ front ++ (ns ++ m ∷ (plan_defs st (k + 1) ds ++ rest)) = split ∙ append_assoc front ns (m ∷ (plan_defs st (k + 1) ds ++ rest)) in
    let f2 : outward_names st ≡ named ++ (ws ++ (outward_defs st (k + 1) ds ++ later)) = f1 ∙ ap (λ q. named ++ (q ++ (outward_defs st (k + 1) ds ++ later))) (names-alone st k ls x.1) in
    let w1 : CountersHold st c1 (front ++ ns) (named ++ ws) = past-moved os st k 0 ls c h x.1 front (m ∷ (plan_defs st (k + 1) ds ++ rest)) named (outward_defs st (k + 1) ds ++ later) e2 f2 w in
    let w2 : CountersHold st (advanced ss c1) (front ++ one) (named ++ own) = definition-moved os st k t ls c h x.1 front (plan_defs st (k + 1) ds ++ rest) named (outward_defs st (k + 1) ds ++ later) e1 f1 w in
    each_item-app (HoldsFirst (pre ++ i ∷ more) (marks st)) (parts k 0 names.ids ss) (declarations_from (k + 1) ds)
    (own-first (pre ++ i ∷ more) (marks st) k names.ids ss c1 r.1 (at-seam pre i more k n) (λ s. marks-seam s st (front ++ ns) m (plan_defs st (k + 1) ds ++ rest) split ∙ sym (w1.counted s)))
    (subst (λ T. EachItem (HoldsFirst T (marks st)) (declarations_from (k + 1) ds)) (append_assoc pre (i ∷ []) more)
    (table-first os st (pre ++ i ∷ []) (front ++ one) rest (named ++ own) later (k + 1) ds (advanced ss c1) h r.4 x.2 (length_push pre i ∙ ap (λ q. q + 1) n) w2
    (e1 ∙ sym (append_assoc front one (plan_defs st (k + 1) ds ++ rest))) (f1 ∙ sym (append_assoc named own (outward_defs st (k + 1) ds ++ later)))))

-- at the head of a scope
pub head-held : (st : List Scope) → CountersHold st no_counts [] []
head-held st = record { counted = λ t. refl; aliased = λ s d. refl }

-- of a whole scope
pub scope-first : (os : List Opened) (o : Opened) (st : List Scope) (s : Scope) → RegistriesHold (o ∷ os) (s ∷ st) → Rowed s → IsExpanded s → EachItem (HoldsFirst (counted_table (o ∷ os) no_counts (defs_of s)) (marks (s ∷ st))) (declarations s)
scope-first os o st (scope_of kd id label ds) h r x =
    let c : Scope = scope_of kd id label ds in
    table-first (o ∷ os) (c ∷ st) [] [] (export_marks 0 ds ++ name_marks (has_names c)) [] [] 0 ds no_counts h r x refl (head-held (c ∷ st)) refl (sym (append-nil (outward_defs (c ∷ st) 0 ds)))

-- ---- the index of what is denoted

find-each : (P : Declaration → Type 0) (q : Declaration → Bool) (ds : List Declaration) (d : Declaration) → find q ds ≡ Some d → EachItem P ds → P d × (q d ≡ true)
find-each P q [] d e h = absurd (cc)
find-each P q (x ∷ xs) d e h = go (find-each P q xs d) (q x) refl e
  where
    go : (find q xs ≡ Some d → EachItem P xs → P d × (q d ≡ true)) → (b : Bool) → q x ≡ b → cond b (Some x) (find q xs) ≡ Some d → P d × (q d ≡ true)
    go rest true f g = let i : x ≡ d = cc in (subst P i h.0, subst (λ y. q y ≡ true) i f)
    go rest false f g = rest g h.1

tabled-at : (os : List Opened) (st : List Scope) (d : ℕ) (c : Scope) (rest : List Scope) → TablesHold os st → drop d st ≡ c ∷ rest → EachItem (HoldsFirst (table_at os d) (marks (c ∷ rest))) (declarations c)
tabled-at [] [] zero c rest h e = absurd (cc)
tabled-at [] [] (suc d) c rest h e = absurd (cc)
tabled-at [] (x ∷ st) d c rest h e = absurd h
tabled-at (o ∷ os) [] d c rest h e = absurd h
tabled-at (o ∷ os) (x ∷ st) zero c rest h e =
    let a : x ≡ c = cc in let b : st ≡ rest = cc in
    subst (λ y. EachItem (HoldsFirst o.table (marks (y ∷ rest))) (declarations y)) a (subst (λ r. EachItem (HoldsFirst o.table (marks (x ∷ r))) (declarations x)) b h.0)
tabled-at (o ∷ os) (x ∷ st) (suc d) c rest h e = tabled-at os st d c rest h.1 e

pub index-item : (os : List Opened) (st : List Scope) (s : Space) (r : Reach) (x : Id) (a : Denoted) → TablesHold os st → denotes st s r x ≡ Some a → index_at os a ≡ item_index st s a
index-item os st s r x a h e =
    let f : StandsAt st s x a = denotes-stands st s r x a e in
    let all : EachItem (HoldsFirst (table_at os a.depth) (marks (f.0 ∷ f.1))) (declarations f.0) = tabled-at os st a.depth f.0 f.1 h f.2 in
    let g : HoldsFirst (table_at os a.depth) (marks (f.0 ∷ f.1)) a.item × ((same_space s a.item.space && bears x a.item.id) ≡ true) = find-each (HoldsFirst (table_at os a.depth) (marks (f.0 ∷ f.1))) (λ d. same_space s d.space && bears x d.id) (declarations f.0) a.item f.3 all in
    let i : s ≡ a.item.space = same_space-true s a.item.space (and-both (same_space s a.item.space) (bears x a.item.id) g.1).0 in
    ap (λ n. n + a.item.part) (g.0 ∙ ap (λ w. before w (written a.item.definition) (marks (f.0 ∷ f.1))) (sym i) ∙ ap (λ q. before s (written a.item.definition) (marks q)) (sym f.2))
