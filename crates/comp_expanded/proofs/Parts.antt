-- What definitions declare stays where a scope is expanded; and what one written definition becomes.
use Rattle.std.proofs.Common.{◌≡◌, ℕ, ◌+◌, replicate, List, [], ◌∷◌, ◌++◌, Option, Some, None, refl, ◌∙◌, ap}
use Rattle.std.proofs.lemmas.List.{append_assoc}
use Rattle.comp_model.specs.declared.Space.{Space}
use Rattle.comp_model.specs.declared.Space.TheVariants.{CoreType}
use Rattle.comp_model.specs.declared.row.Row.{Row}
use Rattle.comp_model.specs.Model.{Leaf, ref, node, nodes, scope, inline, bundle, Leaves, no_leaf, ◌▸◌, row, Nodes, no_node, one_node, count_nodes, Names, define, Defs, one_def, Scope, scope_of}
use Rattle.comp_model.specs.declared.declares.Declares.{Declares}
use Rattle.comp_model.specs.declared.declares.Declares.TheVariants.{Always, ByKind, ByDescription, ByReference, ByList, ByResults, Nothing}
use Rattle.comp_model.specs.Spaces.{declares_by, leaf_spaces, leaves_spaces, spaces_by, declares_row}
use Rattle.comp_model.specs.Origins.{Origin, written, inline_type}
use Rattle.comp_scopes.specs.References.{references, references_leaf}
use Rattle.comp_scopes.specs.Reused.{reused}
use Rattle.comp_expanded.specs.Expansion.{Naming, given, given_names, Entry, entry, Expanded, expand_inline, expand_leaves, expand_leaf, expand_nodes, expand_defs}

module _ (g : Naming) (c : Scope) where
  count-expand : (o : Origin) (k u : ℕ) (ns : Nodes) → count_nodes (expand_nodes g c o k u ns).here ≡ count_nodes ns
  count-expand o k u no_node = refl
  count-expand o k u (one_node (row t ls) ns) = ap (λ n. n + 1) (count-expand o k (u + references ls) ns)

  spaces-inline : (k u : ℕ) (s : Space) (t : Row) (ls : Leaves) (j : Option Origin) (a : Expanded Leaves) (d : Declares) → leaf_spaces (expand_inline g c k u s t j a).here d ≡ leaf_spaces (ref s (inline (row t ls))) d
  spaces-inline k u s t ls (Some j) a d = refl
  spaces-inline k u s t ls None a d = refl

  spaces-list : (d : Declares) (a b : Nodes) → count_nodes a ≡ count_nodes b → leaf_spaces (nodes a) d ≡ leaf_spaces (nodes b) d
  spaces-list ByList a b h = ap (λ i. replicate i CoreType) h
  spaces-list _ a b h = refl

  spaces-leaf : (o : Origin) (k u : ℕ) (l : Leaf) (d : Declares) → leaf_spaces (expand_leaf g c o k u l).here d ≡ leaf_spaces l d
  spaces-leaf o k u (ref s (inline (row t ls))) d = spaces-inline k u s t ls (reused (c ∷ []) k u t ls) (expand_leaves g c (inline_type k u) k (u + 1) ls) d
  spaces-leaf o k u (ref s (bundle (row t ls))) d = refl
  spaces-leaf o k u (node (row t ls)) d = refl
  spaces-leaf o k u (nodes ns) d = spaces-list d (expand_nodes g c o k u ns).here ns (count-expand o k u ns)
  spaces-leaf o k u (scope (scope_of kd id label ds)) d = refl
  spaces-leaf o k u l d = refl

  spaces-leaves : (o : Origin) (k u : ℕ) (ls : Leaves) (d : Declares) → leaves_spaces (expand_leaves g c o k u ls).here d ≡ leaves_spaces ls d
  spaces-leaves o k u no_leaf d = refl
  spaces-leaves o k u (l ▸ ls) d = rw (spaces-leaf o k u l d, spaces-leaves o k (u + references_leaf l) ls d) refl

  spaces_by-expand : (o : Origin) (k u : ℕ) (ls : Leaves) (d : Declares) → spaces_by d (expand_leaves g c o k u ls).here ≡ spaces_by d ls
  spaces_by-expand o k u ls (Always s) = refl
  spaces_by-expand o k u ls Nothing = refl
  spaces_by-expand o k u ls ByKind = spaces-leaves o k u ls ByKind
  spaces_by-expand o k u ls ByDescription = spaces-leaves o k u ls ByDescription
  spaces_by-expand o k u ls ByReference = spaces-leaves o k u ls ByReference
  spaces_by-expand o k u ls ByList = spaces-leaves o k u ls ByList
  spaces_by-expand o k u ls ByResults = spaces-leaves o k u ls ByResults

  pub declares-expand : (o : Origin) (k u : ℕ) (t : Row) (ls : Leaves) → declares_row t (expand_leaves g c o k u ls).here ≡ declares_row t ls
  declares-expand o k u t ls = spaces_by-expand o k u ls (declares_by t)

-- what a written definition becomes, in front of a list
pub defs-split : (g : Naming) (c : Scope) (k : ℕ) (ns : Names) (t : Row) (ls : Leaves) (ds : Defs) (ys : List Entry)
    → expand_defs g c k (one_def (define ns (row t ls)) ds) ++ ys
    ≡ (expand_leaves g c (written k) k 0 ls).inlined ++ ((expand_leaves g c (written k) k 0 ls).bundles ++ entry (written k) (given_names ns (given g (written k))) t (expand_leaves g c (written k) k 0 ls) ∷ (expand_defs g c (k + 1) ds ++ ys))
defs-split g c k ns t ls ds ys =
    let a : Expanded Leaves = expand_leaves g c (written k) k 0 ls in
    let own : Entry = entry (written k) (given_names ns (given g (written k))) t a in
    let more : List Entry = expand_defs g c (k + 1) ds in
    append_assoc (a.inlined ++ (a.bundles ++ own ∷ [])) more ys ∙ append_assoc a.inlined (a.bundles ++ own ∷ []) (more ++ ys) ∙ ap (λ v. a.inlined ++ v) (append_assoc a.bundles (own ∷ []) (more ++ ys))
