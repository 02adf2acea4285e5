-- An expansion has no inline nodes, bundles and inline exports, and what has none plans only what stands just before its definitions.
use Rattle.std.proofs.Common.{◌≡◌, ℕ, ◌+◌, Bool, true, false, List, [], ◌∷◌, ◌++◌, map, Option, Some, None, refl, sym, ◌∙◌, subst}
use Rattle.comp_model.specs.declared.Space.{Space}
use Rattle.comp_model.specs.declared.Space.TheVariants.{CoreType}
use Rattle.comp_model.specs.declared.row.Row.{Row}
use Rattle.comp_model.specs.Core.{ref_name}
use Rattle.comp_model.specs.Model.{Leaf, core_value, ref, present, node, nodes, scope, name, path, inline, bundle, Leaves, no_leaf, ◌▸◌, row, Nodes, no_node, one_node, Names, define, Defs, no_def, one_def, Scope, scope_of}
use Rattle.comp_model.specs.Origins.{Origin, written, inline_type, bundle_of}
use Rattle.comp_expanded.specs.ListMarks.{ListMarks}
use Rattle.comp_scopes.specs.Encoding.{Encoding}
use Rattle.comp_scopes.specs.Names.{Denoted, denotes}
use Rattle.comp_scopes.specs.References.{references, references_leaf}
use Rattle.comp_scopes.specs.Reused.{reused}
use Rattle.comp_scopes.specs.Plan.{Mark, plan_alias, plan_name, plan_leaves, plan_leaf, plan_nodes}
use Rattle.comp_scopes.specs.Outward.{Planned, leads_out, served, Outward, outward_name, outward_leaves, outward_leaf, outward_nodes}
use Rattle.comp_scopes.specs.Form.{Made, mark_of, form_leaves}
use Rattle.comp_expanded.specs.Expansion.{Naming, inside, given, given_names, generated_names, Entry, entry_defs, Expanded, entry, expand_one, expand_inline, expand_exports, expand_leaves, expand_leaf, expand_nodes, expand_defs, expand, expand_marks}
use Rattle.comp_expanded.specs.IsExpanded.{LeavesExpanded, LeafExpanded, NodesExpanded, DefsExpanded, IsExpanded}
use Rattle.comp_scopes.specs.Rowed.{Rowed}
use Rattle.comp_expanded.specs.OfText.{OfText}
use Rattle.comp_expanded.specs.Named.{Named}
use Rattle.comp_expanded.specs.Expands.{Expands}
use Rattle.comp_scopes.proofs.Formed.{leaves-marks}
use Rattle.comp_expanded.proofs.Ids.{EachListed, each-app, exports-each}
use Rattle.comp_expanded.proofs.HasNaming.{expands-expand}

-- ---- what it plans and becomes

abbrev Alone : Planned Mark → Type 0
Alone p = (p.inlined ≡ []) × (p.bundles ≡ [])

alias-alone : (k u : ℕ) (s : Space) (o : Option Origin) → Alone (plan_alias k u s o)
alias-alone k u s (Some o) = (refl, refl)
alias-alone k u s None = (refl, refl)

name-alone : (st : List Scope) (k u : ℕ) (s : Space) (b : Bool) (d : Option Denoted) → Alone (plan_name st k u s b d)
name-alone st k u s true (Some d) = alias-alone k u s (served st k u s d)
name-alone st k u s true None = (refl, refl)
name-alone st k u s false (Some d) = (refl, refl)
name-alone st k u s false None = (refl, refl)

mutual
  pub plan-alone : (st : List Scope) (k u : ℕ) (ls : Leaves) → LeavesExpanded ls → Alone (plan_leaves st k u ls)
  plan-alone st k u no_leaf h = (refl, refl)
  plan-alone st k u (l ▸ ls) h =
      let a : Alone (plan_leaf st k u l) = plan_leaf-alone st k u l h.0 in
      let b : Alone (plan_leaves st k (u + references_leaf l) ls) = plan-alone st k (u + references_leaf l) ls h.1 in
      (rw (a.0, b.0) refl, rw (a.1, b.1) refl)

  plan_leaf-alone : (st : List Scope) (k u : ℕ) (l : Leaf) → LeafExpanded l → Alone (plan_leaf st k u l)
  plan_leaf-alone st k u (core_value (ref_name b r x)) h = name-alone st k u CoreType (leads_out r (denotes st CoreType r x)) (denotes st CoreType r x)
  plan_leaf-alone st k u (ref s (name r x)) h = name-alone st k u s (leads_out r (denotes st s r x)) (denotes st s r x)
  plan_leaf-alone st k u (ref s (path p)) h = (refl, refl)
  plan_leaf-alone st k u (ref s (inline n)) h = absurd h
  plan_leaf-alone st k u (ref s (bundle n)) h = absurd h
  plan_leaf-alone st k u (present l) h = plan_leaf-alone st k u l h
  plan_leaf-alone st k u (node (row t ls)) h = plan-alone st k u ls h
  plan_leaf-alone st k u (nodes ns) h = plan_nodes-alone st k u ns h
  plan_leaf-alone st k u (scope (scope_of kd id label ds)) h = (refl, refl)
  plan_leaf-alone st k u l h = (refl, refl)

  plan_nodes-alone : (st : List Scope) (k u : ℕ) (ns : Nodes) → NodesExpanded ns → Alone (plan_nodes st k u ns)
  plan_nodes-alone st k u no_node h = (refl, refl)
  plan_nodes-alone st k u (one_node (row t ls) ns) h =
      let a : Alone (plan_leaves st k u ls) = plan-alone st k u ls h.0 in
      let b : Alone (plan_nodes st k (u + references ls) ns) = plan_nodes-alone st k (u + references ls) ns h.1 in
      (rw (a.0, b.0) refl, rw (a.1, b.1) refl)

-- no name that leads out stands elsewhere either
abbrev NamesAlone : Planned Outward → Type 0
NamesAlone p = (p.inlined ≡ []) × (p.bundles ≡ [])

outward_name-alone : (k u : ℕ) (s : Space) (b : Bool) (d : Option Denoted) → NamesAlone (outward_name k u s b d)
outward_name-alone k u s true (Some d) = (refl, refl)
outward_name-alone k u s true None = (refl, refl)
outward_name-alone k u s false (Some d) = (refl, refl)
outward_name-alone k u s false None = (refl, refl)

mutual
  pub outward-alone : (st : List Scope) (k u : ℕ) (ls : Leaves) → LeavesExpanded ls → NamesAlone (outward_leaves st k u ls)
  outward-alone st k u no_leaf h = (refl, refl)
  outward-alone st k u (l ▸ ls) h =
      let a : NamesAlone (outward_leaf st k u l) = outward_leaf-alone st k u l h.0 in
      let b : NamesAlone (outward_leaves st k (u + references_leaf l) ls) = outward-alone st k (u + references_leaf l) ls h.1 in
      (rw (a.0, b.0) refl, rw (a.1, b.1) refl)

  outward_leaf-alone : (st : List Scope) (k u : ℕ) (l : Leaf) → LeafExpanded l → NamesAlone (outward_leaf st k u l)
  outward_leaf-alone st k u (core_value (ref_name b r x)) h = outward_name-alone k u CoreType (leads_out r (denotes st CoreType r x)) (denotes st CoreType r x)
  outward_leaf-alone st k u (ref s (name r x)) h = outward_name-alone k u s (leads_out r (denotes st s r x)) (denotes st s r x)
  outward_leaf-alone st k u (ref s (inline n)) h = absurd h
  outward_leaf-alone st k u (ref s (bundle n)) h = absurd h
  outward_leaf-alone st k u (present l) h = outward_leaf-alone st k u l h
  outward_leaf-alone st k u (node (row t ls)) h = outward-alone st k u ls h
  outward_leaf-alone st k u (nodes ns) h = outward_nodes-alone st k u ns h
  outward_leaf-alone st k u l h = (refl, refl)

  outward_nodes-alone : (st : List Scope) (k u : ℕ) (ns : Nodes) → NodesExpanded ns → NamesAlone (outward_nodes st k u ns)
  outward_nodes-alone st k u no_node h = (refl, refl)
  outward_nodes-alone st k u (one_node (row t ls) ns) h =
      let a : NamesAlone (outward_leaves st k u ls) = outward-alone st k u ls h.0 in
      let b : NamesAlone (outward_nodes st k (u + references ls) ns) = outward_nodes-alone st k (u + references ls) ns h.1 in
      (rw (a.0, b.0) refl, rw (a.1, b.1) refl)

-- the definitions of a form have the planned marks, so where none are planned there are none
unmade : (ms : List Made) (xs : List Mark) → map mark_of ms ≡ xs → xs ≡ [] → ms ≡ []
unmade [] xs h e = refl
unmade (m ∷ ms) xs h e = let n : mark_of m ∷ map mark_of ms ≡ [] = h ∙ e in absurd (cc)

pub form-alone : (e : Encoding) (st : List Scope) (k u : ℕ) (ls : Leaves) → LeavesExpanded ls → ((form_leaves e st k u ls).inlined ≡ []) × ((form_leaves e st k u ls).bundles ≡ [])
form-alone e st k u ls h =
    let a : Alone (plan_leaves st k u ls) = plan-alone st k u ls h in
    let m : (map mark_of (form_leaves e st k u ls).inlined ≡ (plan_leaves st k u ls).inlined) × (map mark_of (form_leaves e st k u ls).bundles ≡ (plan_leaves st k u ls).bundles) × (map mark_of (form_leaves e st k u ls).needed ≡ (plan_leaves st k u ls).needed) = leaves-marks e st k u ls in
    (unmade (form_leaves e st k u ls).inlined (plan_leaves st k u ls).inlined m.0 a.0, unmade (form_leaves e st k u ls).bundles (plan_leaves st k u ls).bundles m.1 a.1)

-- ---- an expansion

abbrev pub Bare : Entry → Type 0
Bare x = (x.names.exports ≡ []) × LeavesExpanded x.leaves

bare-defs : (xs : List Entry) → EachListed Bare xs → DefsExpanded (entry_defs xs)
bare-defs [] h = tt
bare-defs (x ∷ xs) h = (h.0.0, h.0.1, bare-defs xs h.1)

exports-bare : (g : Naming) (k : ℕ) (ds : Defs) → EachListed Bare (expand_exports g k ds)
exports-bare = exports-each Bare (λ x k j n s. (refl, (tt, (tt, (tt, tt)))))

one-bare : (o : Origin) (ns : Names) (t : Row) (a : Expanded Leaves) → ns.exports ≡ [] → EachListed Bare a.inlined → EachListed Bare a.bundles → LeavesExpanded a.here → EachListed Bare (expand_one o ns t a)
one-bare o ns t a e i b h = each-app Bare a.inlined (a.bundles ++ entry o ns t a ∷ []) i (each-app Bare a.bundles (entry o ns t a ∷ []) b ((e, h), tt))

inline-bare : (g : Naming) (c : Scope) (k u : ℕ) (s : Space) (t : Row) (r : Option Origin) (a : Expanded Leaves) → EachListed Bare a.inlined × EachListed Bare a.bundles × LeavesExpanded a.here
    → EachListed Bare (expand_inline g c k u s t r a).inlined × EachListed Bare (expand_inline g c k u s t r a).bundles × LeafExpanded (expand_inline g c k u s t r a).here
inline-bare g c k u s t (Some j) a h = (tt, tt, tt)
inline-bare g c k u s t None a h = (one-bare (inline_type k u) (generated_names (given g (inline_type k u))) t a refl h.0 h.1 h.2, tt, tt)

mutual
  pub leaves-bare : (g : Naming) (c : Scope) (o : Origin) (k u : ℕ) (ls : Leaves) → EachListed Bare (expand_leaves g c o k u ls).inlined × EachListed Bare (expand_leaves g c o k u ls).bundles × LeavesExpanded (expand_leaves g c o k u ls).here
  leaves-bare g c o k u no_leaf = (tt, tt, tt)
  leaves-bare g c o k u (l ▸ ls) =
      let a : EachListed Bare (expand_leaf g c o k u l).inlined × EachListed Bare (expand_leaf g c o k u l).bundles × LeafExpanded (expand_leaf g c o k u l).here = leaf-bare g c o k u l in
      let b : EachListed Bare (expand_leaves g c o k (u + references_leaf l) ls).inlined × EachListed Bare (expand_leaves g c o k (u + references_leaf l) ls).bundles × LeavesExpanded (expand_leaves g c o k (u + references_leaf l) ls).here = leaves-bare g c o k (u + references_leaf l) ls in
      (each-app Bare _ _ a.0 b.0, each-app Bare _ _ a.1 b.1, (a.2, b.2))

  pub leaf-bare : (g : Naming) (c : Scope) (o : Origin) (k u : ℕ) (l : Leaf) → EachListed Bare (expand_leaf g c o k u l).inlined × EachListed Bare (expand_leaf g c o k u l).bundles × LeafExpanded (expand_leaf g c o k u l).here
  leaf-bare g c o k u (ref s (inline (row t ls))) = inline-bare g c k u s t (reused (c ∷ []) k u t ls) (expand_leaves g c (inline_type k u) k (u + 1) ls) (leaves-bare g c (inline_type k u) k (u + 1) ls)
  leaf-bare g c o k u (ref s (bundle (row t ls))) =
      let a : EachListed Bare (expand_leaves g c (bundle_of k u) k (u + 1) ls).inlined × EachListed Bare (expand_leaves g c (bundle_of k u) k (u + 1) ls).bundles × LeavesExpanded (expand_leaves g c (bundle_of k u) k (u + 1) ls).here = leaves-bare g c (bundle_of k u) k (u + 1) ls in
      (a.0, each-app Bare _ _ a.1 ((refl, a.2), tt), tt)
  leaf-bare g c o k u (present l) = leaf-bare g c o k u l
  leaf-bare g c o k u (node (row t ls)) = leaves-bare g c o k u ls
  leaf-bare g c o k u (nodes ns) = nodes-bare g c o k u ns
  leaf-bare g c o k u (scope (scope_of kd id label ds)) =
      (tt, tt, bare-defs (expand_defs (inside g o) (scope_of kd id label ds) 0 ds ++ expand_exports (inside g o) 0 ds) (each-app Bare _ _ (defs-bare (inside g o) (scope_of kd id label ds) 0 ds) (exports-bare (inside g o) 0 ds)))
  leaf-bare g c o k u l = (tt, tt, tt)

  pub nodes-bare : (g : Naming) (c : Scope) (o : Origin) (k u : ℕ) (ns : Nodes) → EachListed Bare (expand_nodes g c o k u ns).inlined × EachListed Bare (expand_nodes g c o k u ns).bundles × NodesExpanded (expand_nodes g c o k u ns).here
  nodes-bare g c o k u no_node = (tt, tt, tt)
  nodes-bare g c o k u (one_node (row t ls) ns) =
      let a : EachListed Bare (expand_leaves g c o k u ls).inlined × EachListed Bare (expand_leaves g c o k u ls).bundles × LeavesExpanded (expand_leaves g c o k u ls).here = leaves-bare g c o k u ls in
      let b : EachListed Bare (expand_nodes g c o k (u + references ls) ns).inlined × EachListed Bare (expand_nodes g c o k (u + references ls) ns).bundles × NodesExpanded (expand_nodes g c o k (u + references ls) ns).here = nodes-bare g c o k (u + references ls) ns in
      (each-app Bare _ _ a.0 b.0, each-app Bare _ _ a.1 b.1, (a.2, b.2))

  defs-bare : (g : Naming) (c : Scope) (k : ℕ) (ds : Defs) → EachListed Bare (expand_defs g c k ds)
  defs-bare g c k no_def = tt
  defs-bare g c k (one_def (define ns (row t ls)) ds) =
      let a : EachListed Bare (expand_leaves g c (written k) k 0 ls).inlined × EachListed Bare (expand_leaves g c (written k) k 0 ls).bundles × LeavesExpanded (expand_leaves g c (written k) k 0 ls).here = leaves-bare g c (written k) k 0 ls in
      each-app Bare _ _ (one-bare (written k) (given_names ns (given g (written k))) t (expand_leaves g c (written k) k 0 ls) refl a.0 a.1 a.2) (defs-bare g c (k + 1) ds)

pub expand-expanded : (g : Naming) (s : Scope) → IsExpanded (expand g s)
expand-expanded g (scope_of kd id label ds) = bare-defs (expand_defs g (scope_of kd id label ds) 0 ds ++ expand_exports g 0 ds) (each-app Bare _ _ (defs-bare g (scope_of kd id label ds) 0 ds) (exports-bare g 0 ds))

pub expands-expanded : (s x : Scope) (os : ListMarks) → Rowed s → OfText s → Expands s x os → IsExpanded x
expands-expanded s x os w t h = let k : (g : Naming) × Named g s × (x ≡ expand g s) × (os ≡ expand_marks g s) = expands-expand s x os w t h in subst IsExpanded (sym k.2) (expand-expanded k.0 s)
