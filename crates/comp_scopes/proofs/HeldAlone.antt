-- Of what is formed a definition has the marks of a scope only where its node holds one.
use Rattle.std.proofs.Common.{◌≡◌, ℕ, ◌+◌, Bool, true, false, List, [], ◌∷◌, ◌++◌, Option, Some, None, refl}
use Rattle.comp_model.specs.declared.Space.{Space}
use Rattle.comp_model.specs.declared.Space.TheVariants.{CoreType}
use Rattle.comp_model.specs.declared.row.Row.TheVariants as rows
use Rattle.comp_model.specs.declared.row.Row.{Row}
use Rattle.comp_model.specs.RowNumbers.{same_row}
use Rattle.comp_model.specs.Core.{Text, CoreValue, ref_name}
use Rattle.comp_model.specs.Model.{Leaf, text, core_value, ref, present, node, nodes, scope, name, Path, root_number, root_name, export_of, path, inline, bundle, Leaves, no_leaf, ◌▸◌, row, Nodes, no_node, one_node, define, Defs, no_def, one_def, Scope, scope_of, defs_of}
use Rattle.comp_model.specs.Spaces.{declares_row}
use Rattle.comp_model.specs.Origins.{Origin, written, inline_type, holds_none}
use Rattle.comp_model.specs.ItemNames.{has_names}
use Rattle.comp_scopes.specs.Encoding.{Encoding}
use Rattle.comp_scopes.specs.Names.{Denoted, denotes}
use Rattle.comp_scopes.specs.References.{references, references_leaf, instance_space}
use Rattle.comp_scopes.specs.Reused.{reused}
use Rattle.comp_scopes.specs.Outward.{served, leads_out}
use Rattle.comp_scopes.specs.Form.{Formed, own_made, form_one, form_inline, form_alias, form_name, form_path, form_value, form_exports_of, form_exports, form_names, coded_node, form_defs, form_leaves, form_leaf, form_nodes, built}
use Rattle.comp_scopes.specs.Rowed.{holds_scope, leaf_holds_scope, nodes_hold_scope, Textual, TextualLeaf, TextualNodes, ProducersRowed, DefsRowed}
use Rattle.comp_scopes.specs.Renders.{AllMade, HeldByScope}
use Rattle.comp_scopes.proofs.Held.{or-false, none-first, name-none, value-none, inline-none, leaves-none}
use Rattle.comp_scopes.proofs.Lookup.{made-app}
use Rattle.comp_scopes.proofs.Each.{Each, each-both, each-one, each-bundle}

alias-alone : (st : List Scope) (k u : ℕ) (s : Space) (d : Denoted) (o : Option Origin) → Each HeldByScope (form_alias st k u s d o)
alias-alone st k u s d (Some o) = (tt, tt, tt)
alias-alone st k u s d None = (tt, tt, (λ h. refl, tt))

name-alone : (st : List Scope) (k u : ℕ) (s : Space) (b : Bool) (o : Option Denoted) → Each HeldByScope (form_name st k u s b o)
name-alone st k u s true None = (tt, tt, tt)
name-alone st k u s false None = (tt, tt, tt)
name-alone st k u s false (Some d) = (tt, tt, tt)
name-alone st k u s true (Some d) = alias-alone st k u s d (served st k u s d)

path-alone : (st : List Scope) (k u : ℕ) (s : Space) (p : Path) → AllMade HeldByScope (form_path st k u s p)
path-alone st k u s (root_number o n) = tt
path-alone st k u s (root_name x) = tt
path-alone st k u s (export_of p t) = made-app HeldByScope (form_path st k u (instance_space s) p) _ (path-alone st k u (instance_space s) p) (λ h. refl, tt)

value-alone : (st : List Scope) (k u : ℕ) (v : CoreValue) → Each HeldByScope (form_value st k u v)
value-alone st k u (ref_name b r x) = name-alone st k u CoreType (leads_out r (denotes st CoreType r x)) (denotes st CoreType r x)
value-alone st k u v = (tt, tt, tt)

-- a part whose own leaves hold no scope has no marks of one
abbrev Alone : Formed Leaves → Type 0
Alone a = holds_scope a.here ≡ false → a.held ≡ holds_none

inline-alone : (st : List Scope) (k u : ℕ) (s : Space) (t : Row) (j : Option Origin) (a : Formed Leaves) → Each HeldByScope a → Alone a → Each HeldByScope (form_inline st k u s t j a)
inline-alone st k u s t (Some j) a h g = (tt, tt, tt)
inline-alone st k u s t None a h g = (each-one HeldByScope (inline_type k u) (row t) a h g, tt, tt)

-- texts and lists of texts hold none
mutual
  textual-none : (ls : Leaves) → Textual ls → holds_scope ls ≡ false
  textual-none no_leaf h = refl
  textual-none (l ▸ ls) h = rw (textual_leaf-none l h.0, textual-none ls h.1) refl

  textual_leaf-none : (l : Leaf) → TextualLeaf l → leaf_holds_scope l ≡ false
  textual_leaf-none (text t) h = refl
  textual_leaf-none (nodes ns) h = textual_nodes-none ns h
  textual_leaf-none l h = absurd h

  textual_nodes-none : (ns : Nodes) → TextualNodes ns → nodes_hold_scope ns ≡ false
  textual_nodes-none no_node h = refl
  textual_nodes-none (one_node (row t ls) ns) h = rw (textual-none ls h.0, textual_nodes-none ns h.1) refl

module _ (e : Encoding) where
  coded-alone : (st : List Scope) (k : ℕ) (t : Row) (ls : Leaves) → ProducersRowed t ls → Alone (form_leaves e st k 0 ls) → HeldByScope (own_made (written k) (coded_node e t ls) (form_leaves e st k 0 ls))
  coded-alone st k t ls p a = go (same_row t rows.Producers) refl
    where
      go : (b : Bool) → same_row t rows.Producers ≡ b → HeldByScope (own_made (written k) (coded_node e t ls) (form_leaves e st k 0 ls))
      go true q = λ h. leaves-none e st k 0 ls (textual-none ls (p q))
      go false q = rw q a

  exports_of-alone : (st : List Scope) (k j : ℕ) (xs : List Text) (ss : List Space) → AllMade HeldByScope (form_exports_of st k j xs ss)
  exports_of-alone st k j [] ss = tt
  exports_of-alone st k j (x ∷ xs) [] = tt
  exports_of-alone st k j (x ∷ xs) (s ∷ ss) = (λ h. refl, exports_of-alone st k (j + 1) xs (s ∷ ss))

  exports-alone : (st : List Scope) (k : ℕ) (ds : Defs) → AllMade HeldByScope (form_exports st k ds)
  exports-alone st k no_def = tt
  exports-alone st k (one_def (define names (row t ls)) ds) = made-app HeldByScope (form_exports_of st k 0 names.exports (declares_row t ls)) (form_exports st (k + 1) ds) (exports_of-alone st k 0 names.exports (declares_row t ls)) (exports-alone st (k + 1) ds)

  names-alone : (st : List Scope) (c : Scope) (b : Bool) → AllMade HeldByScope (form_names st c b)
  names-alone st c true = (λ h. refl, tt)
  names-alone st c false = tt

  mutual
    leaves-alone : (st : List Scope) (k u : ℕ) (ls : Leaves) → Each HeldByScope (form_leaves e st k u ls) × Alone (form_leaves e st k u ls)
    leaves-alone st k u no_leaf = ((tt, tt, tt), λ h. refl)
    leaves-alone st k u (l ▸ ls) =
        let x : Each HeldByScope (form_leaf e st k u l) × (leaf_holds_scope (form_leaf e st k u l).here ≡ false → (form_leaf e st k u l).held ≡ holds_none) = leaf-alone st k u l in
        let y : Each HeldByScope (form_leaves e st k (u + references_leaf l) ls) × Alone (form_leaves e st k (u + references_leaf l) ls) = leaves-alone st k (u + references_leaf l) ls in (
          each-both HeldByScope (λ b bs. b ▸ bs) (form_leaf e st k u l) (form_leaves e st k (u + references_leaf l) ls) x.0 y.0,
          λ h. (
              let q : (leaf_holds_scope (form_leaf e st k u l).here ≡ false) × (holds_scope (form_leaves e st k (u + references_leaf l) ls).here ≡ false) = or-false _ _ h in
              none-first _ _ (x.1 q.0) (y.1 q.1)
              ),
        )

    leaf-alone : (st : List Scope) (k u : ℕ) (l : Leaf) → Each HeldByScope (form_leaf e st k u l) × (leaf_holds_scope (form_leaf e st k u l).here ≡ false → (form_leaf e st k u l).held ≡ holds_none)
    leaf-alone st k u (core_value v) = (value-alone st k u v, λ h. value-none st k u v)
    leaf-alone st k u (ref s (name r x)) = (name-alone st k u s (leads_out r (denotes st s r x)) (denotes st s r x), λ h. name-none st k u s (leads_out r (denotes st s r x)) (denotes st s r x))
    leaf-alone st k u (ref s (path p)) = ((tt, tt, path-alone st k u s p), λ h. refl)
    leaf-alone st k u (ref s (inline (row t ls))) =
        let x : Each HeldByScope (form_leaves e st k (u + 1) ls) × Alone (form_leaves e st k (u + 1) ls) = leaves-alone st k (u + 1) ls in
        (inline-alone st k u s t (reused st k u t ls) (form_leaves e st k (u + 1) ls) x.0 x.1, λ h. inline-none st k u s t (reused st k u t ls) (form_leaves e st k (u + 1) ls))
    leaf-alone st k u (ref s (bundle (row t ls))) =
        let x : Each HeldByScope (form_leaves e st k (u + 1) ls) × Alone (form_leaves e st k (u + 1) ls) = leaves-alone st k (u + 1) ls in
        (each-bundle HeldByScope st k u s t (form_leaves e st k (u + 1) ls) x.0 x.1, λ h. refl)
    leaf-alone st k u (present l) = leaf-alone st k u l
    leaf-alone st k u (node (row t ls)) = leaves-alone st k u ls
    leaf-alone st k u (nodes ns) = nodes-alone st k u ns
    leaf-alone st k u (scope (scope_of c id label ds)) = ((tt, tt, tt), λ h. absurd (cc))
    leaf-alone st k u _ = ((tt, tt, tt), λ h. refl)

    nodes-alone : (st : List Scope) (k u : ℕ) (ns : Nodes) → Each HeldByScope (form_nodes e st k u ns) × (nodes_hold_scope (form_nodes e st k u ns).here ≡ false → (form_nodes e st k u ns).held ≡ holds_none)
    nodes-alone st k u no_node = ((tt, tt, tt), λ h. refl)
    nodes-alone st k u (one_node (row t ls) ns) =
        let x : Each HeldByScope (form_leaves e st k u ls) × Alone (form_leaves e st k u ls) = leaves-alone st k u ls in
        let y : Each HeldByScope (form_nodes e st k (u + references ls) ns) × (nodes_hold_scope (form_nodes e st k (u + references ls) ns).here ≡ false → (form_nodes e st k (u + references ls) ns).held ≡ holds_none) = nodes-alone st k (u + references ls) ns in (
          each-both HeldByScope (λ bs cs. one_node (row t bs) cs) (form_leaves e st k u ls) (form_nodes e st k (u + references ls) ns) x.0 y.0,
          λ h. (
              let q : (holds_scope (form_leaves e st k u ls).here ≡ false) × (nodes_hold_scope (form_nodes e st k (u + references ls) ns).here ≡ false) = or-false _ _ h in
              none-first _ _ (x.1 q.0) (y.1 q.1)
              ),
        )

  defs-alone : (st : List Scope) (k : ℕ) (ds : Defs) → DefsRowed ds → AllMade HeldByScope (form_defs e st k ds)
  defs-alone st k no_def w = tt
  defs-alone st k (one_def (define names (row t ls)) ds) w =
      let x : Each HeldByScope (form_leaves e st k 0 ls) × Alone (form_leaves e st k 0 ls) = leaves-alone st k 0 ls in
      made-app HeldByScope (form_one (written k) (coded_node e t ls) (form_leaves e st k 0 ls)) (form_defs e st (k + 1) ds)
      (each-one HeldByScope (written k) (coded_node e t ls) (form_leaves e st k 0 ls) x.0 (coded-alone st k t ls w.2 x.1)) (defs-alone st (k + 1) ds w.4)

  pub built-alone : (st : List Scope) (c : Scope) → DefsRowed (defs_of c) → AllMade HeldByScope (built e st c)
  built-alone st (scope_of k id label ds) w =
      let s : Scope = scope_of k id label ds in
      made-app HeldByScope (form_defs e (s ∷ st) 0 ds) (form_exports (s ∷ st) 0 ds ++ form_names st s (has_names s)) (defs-alone (s ∷ st) 0 ds w)
      (made-app HeldByScope (form_exports (s ∷ st) 0 ds) (form_names st s (has_names s)) (exports-alone (s ∷ st) 0 ds) (names-alone st s (has_names s)))
