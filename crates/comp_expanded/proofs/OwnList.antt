-- A scope without inline parts is its own expanded list.
use Rattle.std.specs.List.{range_with_len}
use Rattle.std.proofs.Common.{◌≡◌, ℕ, zero, suc, ◌+◌, List, [], ◌∷◌, ◌++◌, Option, Some, None, refl, sym, ◌∙◌, ap, subst, arith}
use Rattle.comp_model.specs.Core.{Text, Id}
use Rattle.comp_model.specs.Model.{Leaf, ref, present, node, nodes, scope, inline, bundle, Leaves, no_leaf, ◌▸◌, row, Nodes, no_node, one_node, Names, define, Defs, no_def, one_def, Scope, scope_of}
use Rattle.comp_model.specs.declared.row.ScopeKind.{ScopeKind}
use Rattle.comp_model.specs.Origins.{Origin, written}
use Rattle.comp_expanded.specs.ListMarks.{ListMarks, mark_then, Inside, inside_are}
use Rattle.comp_scopes.specs.Names.{first_of_two}
use Rattle.comp_scopes.specs.References.{references, references_leaf, references_nodes}
use Rattle.comp_expanded.specs.Expansion.{Naming, given_names, entry_defs, entry_marks, Expanded, expanded_as, expand_both, expand_exports, expand_leaves, expand_leaf, expand_nodes, expand_defs, expand, expand_marks}
use Rattle.comp_expanded.specs.OwnMarks.{own_from, own_in, own_in_leaf, own_in_nodes, own_marks}
use Rattle.comp_expanded.specs.IsExpanded.{LeavesExpanded, LeafExpanded, NodesExpanded, DefsExpanded, IsExpanded}
use Rattle.comp_expanded.specs.OfText.{TextIds, LeavesOfText, LeafOfText, NodesOfText, DefsOfText, OfText}
use Rattle.comp_expanded.specs.Named.{GeneratedOnce, entry_ids, LeavesNamed, LeafNamed, NodesNamed, DefsNamed, Named}
use Rattle.comp_expanded.specs.Expands.{Expands}
use Rattle.comp_expanded.proofs.Firsts.{first-none}
use Rattle.comp_expanded.proofs.SomeNaming.{text-once}
use Rattle.comp_expanded.proofs.NamingExpands.{expand-expands}

-- no id is given
abbrev none : Naming
none p = None

abbrev only : {H : Type 0} → List ℕ → Inside → H → Expanded H
only ps h x = record { inlined = []; bundles = []; held = h; places = ps; here = x }

-- the numbers of two parts, one behind the other
range-both : (u n m : ℕ) → range_with_len u n ++ range_with_len (u + n) m ≡ range_with_len u (n + m)
range-both u zero m =
    let z : u + 0 ≡ u = omega arith in
    let y : m ≡ 0 + m = omega arith in
    ap (λ v. range_with_len v m) z ∙ ap (range_with_len u) y
range-both u (suc n) m =
    let z : u + suc n ≡ u + 1 + n = omega arith in
    let y : suc (n + m) ≡ suc n + m = omega arith in
    ap (λ v. u ∷ (range_with_len (u + 1) n ++ range_with_len v m)) z ∙ ap (λ r. u ∷ r) (range-both (u + 1) n m) ∙ ap (range_with_len u) y

names-own : (ns : Names) → ns.exports ≡ [] → given_names ns None ≡ ns
names-own ns h = ap (λ (x : List Text). record { ids = ns.ids; labels = ns.labels; exports = x; offset = ns.offset }) (sym h)

exports-own : (k : ℕ) (ds : Defs) → DefsExpanded ds → expand_exports none k ds ≡ []
exports-own k no_def h = refl
exports-own k (one_def (define ns (row t ls)) ds) h = rw (h.0, exports-own (k + 1) ds h.2) refl

inner-own : (kd : ScopeKind) (id : Option Id) (label : Option Text) (ds bs : Defs) (os ps : ListMarks) → ds ≡ bs → os ≡ ps → only [] (inside_are os) (scope (scope_of kd (first_of_two id None) label ds)) ≡ only [] (inside_are ps) (scope (scope_of kd id label bs))
inner-own kd id label ds bs os ps p q = rw (p, q, first-none id) refl

mutual
  leaves-own : (c : Scope) (o : Origin) (k u : ℕ) (ls : Leaves) → LeavesExpanded ls → expand_leaves none c o k u ls ≡ only (range_with_len u (references ls)) (own_in ls) ls
  leaves-own c o k u no_leaf h = refl
  leaves-own c o k u (l ▸ ls) h =
      ap (λ a. expand_both (λ b bs. b ▸ bs) a (expand_leaves none c o k (u + references_leaf l) ls)) (leaf-own c o k u l h.0)
      ∙ ap (expand_both (λ b bs. b ▸ bs) (only (range_with_len u (references_leaf l)) (own_in_leaf l) l)) (leaves-own c o k (u + references_leaf l) ls h.1)
      ∙ ap (λ ps. only ps (own_in (l ▸ ls)) (l ▸ ls)) (range-both u (references_leaf l) (references ls))

  leaf-own : (c : Scope) (o : Origin) (k u : ℕ) (l : Leaf) → LeafExpanded l → expand_leaf none c o k u l ≡ only (range_with_len u (references_leaf l)) (own_in_leaf l) l
  leaf-own c o k u (ref s (inline n)) h = absurd h
  leaf-own c o k u (ref s (bundle n)) h = absurd h
  leaf-own c o k u (present l) h = ap (expanded_as present) (leaf-own c o k u l h)
  leaf-own c o k u (node (row t ls)) h = ap (expanded_as (λ bs. node (row t bs))) (leaves-own c o k u ls h)
  leaf-own c o k u (nodes ns) h = ap (expanded_as nodes) (nodes-own c o k u ns h)
  leaf-own c o k u (scope (scope_of kd id label ds)) h =
      let d : Scope = scope_of kd id label ds in
      let e : expand_exports none 0 ds ≡ [] = exports-own 0 ds h in
      inner-own kd id label (entry_defs (expand_defs none d 0 ds ++ expand_exports none 0 ds)) ds (entry_marks (expand_defs none d 0 ds ++ expand_exports none 0 ds)) (own_from 0 ds)
      (ap (λ xs. entry_defs (expand_defs none d 0 ds ++ xs)) e ∙ defs-own d 0 ds h)
      (ap (λ xs. entry_marks (expand_defs none d 0 ds ++ xs)) e ∙ marks-own d 0 ds h)
  leaf-own c o k u l h = refl

  nodes-own : (c : Scope) (o : Origin) (k u : ℕ) (ns : Nodes) → NodesExpanded ns → expand_nodes none c o k u ns ≡ only (range_with_len u (references_nodes ns)) (own_in_nodes ns) ns
  nodes-own c o k u no_node h = refl
  nodes-own c o k u (one_node (row t ls) ns) h =
      ap (λ a. expand_both (λ bs ks. one_node (row t bs) ks) a (expand_nodes none c o k (u + references ls) ns)) (leaves-own c o k u ls h.0)
      ∙ ap (expand_both (λ bs ks. one_node (row t bs) ks) (only (range_with_len u (references ls)) (own_in ls) ls)) (nodes-own c o k (u + references ls) ns h.1)
      ∙ ap (λ ps. only ps (own_in_nodes (one_node (row t ls) ns)) (one_node (row t ls) ns)) (range-both u (references ls) (references_nodes ns))

  defs-own : (c : Scope) (k : ℕ) (ds : Defs) → DefsExpanded ds → entry_defs (expand_defs none c k ds ++ []) ≡ ds
  defs-own c k no_def h = refl
  defs-own c k (one_def (define ns (row t ls)) ds) h =
      rw (leaves-own c (written k) k 0 ls h.1) (ap (λ n. one_def (define n (row t ls)) (entry_defs (expand_defs none c (k + 1) ds ++ []))) (names-own ns h.0) ∙ ap (one_def (define ns (row t ls))) (defs-own c (k + 1) ds h.2))

  marks-own : (c : Scope) (k : ℕ) (ds : Defs) → DefsExpanded ds → entry_marks (expand_defs none c k ds ++ []) ≡ own_from k ds
  marks-own c k no_def h = refl
  marks-own c k (one_def (define ns (row t ls)) ds) h = rw (leaves-own c (written k) k 0 ls h.1) (ap (mark_then (written k) (range_with_len 0 (references ls)) (own_in ls)) (marks-own c (k + 1) ds h.2))

-- ---- the naming that gives no id serves it

text-app : (xs ys : List (Option Id)) → TextIds xs → TextIds ys → TextIds (xs ++ ys)
text-app [] ys a b = b
text-app (None ∷ xs) ys a b = text-app xs ys a b
text-app (Some x ∷ xs) ys a b = (a.0, text-app xs ys a.1 b)

ids-of_text : (c : Scope) (k : ℕ) (ds : Defs) → DefsExpanded ds → DefsOfText ds → TextIds (entry_ids (expand_defs none c k ds ++ []))
ids-of_text c k no_def h t = tt
ids-of_text c k (one_def (define ns (row y ls)) ds) h t = rw (leaves-own c (written k) k 0 ls h.1) (text-app ns.ids (entry_ids (expand_defs none c (k + 1) ds ++ [])) t.0 (ids-of_text c (k + 1) ds h.2 t.2))

once-own : (c : Scope) (ds : Defs) → DefsExpanded ds → DefsOfText ds → GeneratedOnce (entry_ids (expand_defs none c 0 ds ++ expand_exports none 0 ds))
once-own c ds h t = rw (exports-own 0 ds h) (text-once (entry_ids (expand_defs none c 0 ds ++ [])) (ids-of_text c 0 ds h t))

mutual
  leaves-named : (c : Scope) (o : Origin) (k u : ℕ) (ls : Leaves) → LeavesExpanded ls → LeavesOfText ls → LeavesNamed none c o k u ls
  leaves-named c o k u no_leaf h t = tt
  leaves-named c o k u (l ▸ ls) h t = (leaf-named c o k u l h.0 t.0, leaves-named c o k (u + references_leaf l) ls h.1 t.1)

  leaf-named : (c : Scope) (o : Origin) (k u : ℕ) (l : Leaf) → LeafExpanded l → LeafOfText l → LeafNamed none c o k u l
  leaf-named c o k u (ref s (inline n)) h t = absurd h
  leaf-named c o k u (ref s (bundle n)) h t = absurd h
  leaf-named c o k u (present l) h t = leaf-named c o k u l h t
  leaf-named c o k u (node (row y ls)) h t = leaves-named c o k u ls h t
  leaf-named c o k u (nodes ns) h t = nodes-named c o k u ns h t
  leaf-named c o k u (scope (scope_of kd id label ds)) h t = (defs-named (scope_of kd id label ds) 0 ds h t.1, once-own (scope_of kd id label ds) ds h t.1, tt)
  leaf-named c o k u l h t = tt

  nodes-named : (c : Scope) (o : Origin) (k u : ℕ) (ns : Nodes) → NodesExpanded ns → NodesOfText ns → NodesNamed none c o k u ns
  nodes-named c o k u no_node h t = tt
  nodes-named c o k u (one_node (row y ls) ns) h t = (leaves-named c o k u ls h.0 t.0, nodes-named c o k (u + references ls) ns h.1 t.1)

  defs-named : (c : Scope) (k : ℕ) (ds : Defs) → DefsExpanded ds → DefsOfText ds → DefsNamed none c k ds
  defs-named c k no_def h t = tt
  defs-named c k (one_def (define ns (row y ls)) ds) h t = (tt, rw h.0 tt, leaves-named c (written k) k 0 ls h.1 t.1, defs-named c (k + 1) ds h.2 t.2)

none-serves : (s : Scope) → OfText s → IsExpanded s → Named none s
none-serves (scope_of kd id label ds) t h = (defs-named (scope_of kd id label ds) 0 ds h t.1, once-own (scope_of kd id label ds) ds h t.1, tt)

scope-own : (s : Scope) → IsExpanded s → expand none s ≡ s
scope-own (scope_of kd id label ds) h =
    ap (λ i. scope_of kd i label (entry_defs (expand_defs none (scope_of kd id label ds) 0 ds ++ expand_exports none 0 ds))) (first-none id)
    ∙ ap (λ xs. scope_of kd id label (entry_defs (expand_defs none (scope_of kd id label ds) 0 ds ++ xs))) (exports-own 0 ds h) ∙ ap (scope_of kd id label) (defs-own (scope_of kd id label ds) 0 ds h)

list-own : (s : Scope) → IsExpanded s → expand_marks none s ≡ own_marks s
list-own (scope_of kd id label ds) h = ap (λ xs. entry_marks (expand_defs none (scope_of kd id label ds) 0 ds ++ xs)) (exports-own 0 ds h) ∙ marks-own (scope_of kd id label ds) 0 ds h

pub expanded-own : (s : Scope) → OfText s → IsExpanded s → Expands s s (own_marks s)
expanded-own s t h = subst (λ x. Expands s x (own_marks s)) (scope-own s h) (subst (λ os. Expands s (expand none s) os) (list-own s h) (expand-expands none s (none-serves s t h)))
