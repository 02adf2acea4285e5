-- An expansion that is built with a table of the ids of written definitions.
use Rattle.std.proofs.Common.{◌≡◌, ℕ, ◌+◌, List, [], ◌∷◌, ◌++◌, slice_get, Option, Some, None, refl, ◌∙◌, ap, subst}
use Rattle.comp_model.specs.declared.Space.{Space}
use Rattle.comp_model.specs.declared.row.Row.{Row}
use Rattle.comp_model.specs.Core.{Text, Id}
use Rattle.comp_model.specs.Model.{Leaf, ref, present, node, nodes, scope, inline, bundle, Leaves, no_leaf, ◌▸◌, row, Nodes, no_node, one_node, define, Defs, no_def, one_def, Scope, scope_of, defs_of}
use Rattle.comp_model.specs.Origins.{Origin, written}
use Rattle.comp_scopes.specs.References.{references, references_leaf}
use Rattle.comp_scopes.specs.Reused.{reused}
use Rattle.comp_model.specs.ItemNames.{first_or_none}
use Rattle.comp_expanded.specs.Expansion.{Entry, Expanded}
use Rattle.comp_expanded.specs.Named.{GeneratedOnce, entry_ids}
use Rattle.comp_expanded.specs.Expands.{find_mark, id_in, marked_id, IdsStand, ExportId, ExpandsInline, ExpandsLeaves, ExpandsLeaf, ExpandsNodes, ExpandsDefs, ExpandsExports, ExpandsList}
use Rattle.comp_expanded.proofs.Once.{list-once, once-found}

module _ (ids later : Origin → Option Id) (more : (o : Origin) (x : Id) → ids o ≡ Some x → later o ≡ Some x) where
  inline-later : (c : Scope) (k u : ℕ) (s : Space) (t : Row) (r : Option Origin) (E F : Expanded Leaves → Type 0) (a : Expanded Leaf) → ((d : Expanded Leaves) → E d → F d) → ExpandsInline ids c k u s t r E a → ExpandsInline later c k u s t r F a
  inline-later c k u s t (Some j) E F a f h = (h.0, more j h.0 h.1, h.2)
  inline-later c k u s t None E F a f h = (h.0, h.1, h.2, h.3, f h.1 h.4)

  mutual
    leaves-later : (c : Scope) (k u : ℕ) (ls : Leaves) (a : Expanded Leaves) → ExpandsLeaves ids c k u ls a → ExpandsLeaves later c k u ls a
    leaves-later c k u no_leaf a h = h
    leaves-later c k u (l ▸ ls) a h = (h.0, h.1, h.2, leaf-later c k u l h.0 h.3, leaves-later c k (u + references_leaf l) ls h.1 h.4)

    leaf-later : (c : Scope) (k u : ℕ) (l : Leaf) (a : Expanded Leaf) → ExpandsLeaf ids c k u l a → ExpandsLeaf later c k u l a
    leaf-later c k u (ref s (inline (row t ls))) a h = inline-later c k u s t (reused (c ∷ []) k u t ls) (ExpandsLeaves ids c k (u + 1) ls) (ExpandsLeaves later c k (u + 1) ls) a (λ d q. leaves-later c k (u + 1) ls d q) h
    leaf-later c k u (ref s (bundle (row t ls))) a h = (h.0, h.1, h.2, h.3, leaves-later c k (u + 1) ls h.1 h.4)
    leaf-later c k u (present l) a h = (h.0, h.1, leaf-later c k u l h.0 h.2)
    leaf-later c k u (node (row t ls)) a h = (h.0, h.1, leaves-later c k u ls h.0 h.2)
    leaf-later c k u (nodes ns) a h = (h.0, h.1, nodes-later c k u ns h.0 h.2)
    leaf-later c k u (scope (scope_of kd id label ds)) a h = h
    leaf-later c k u l a h = h

    nodes-later : (c : Scope) (k u : ℕ) (ns : Nodes) (a : Expanded Nodes) → ExpandsNodes ids c k u ns a → ExpandsNodes later c k u ns a
    nodes-later c k u no_node a h = h
    nodes-later c k u (one_node (row t ls) ns) a h = (h.0, h.1, h.2, leaves-later c k u ls h.0 h.3, nodes-later c k (u + references ls) ns h.1 h.4)

  defs-later : (c : Scope) (k : ℕ) (ds : Defs) (xs : List Entry) → ExpandsDefs ids c k ds xs → ExpandsDefs later c k ds xs
  defs-later c k no_def xs h = h
  defs-later c k (one_def (define ns (row t ls)) ds) xs h = (h.0, h.1, h.2, h.3, h.4, h.5, leaves-later c k 0 ls h.1 h.6, defs-later c (k + 1) ds h.2 h.7)

  export-later : (ns : List Text) (k : ℕ) (x : Id) → ExportId ns (ids (written k)) x → ExportId ns (later (written k)) x
  export-later [] k x h = tt
  export-later (n ∷ ns) k x h = more (written k) x h

  exports-later : (k : ℕ) (ds : Defs) (xs : List Entry) → ExpandsExports ids k ds xs → ExpandsExports later k ds xs
  exports-later k no_def xs h = h
  exports-later k (one_def (define ns (row t ls)) ds) xs h = (h.0, h.1, export-later ns.exports k h.0 h.2, h.3, exports-later (k + 1) ds h.1 h.4)

pub expands-by-table : (s : Scope) (ids : Origin → Option Id) (ys zs : List Entry) → ExpandsDefs ids s 0 (defs_of s) ys → ExpandsExports ids 0 (defs_of s) zs
    → IdsStand ids (ys ++ zs) → GeneratedOnce (entry_ids (ys ++ zs)) → ExpandsList s (ys ++ zs)
expands-by-table (scope_of kd id label ds) ids ys zs d e t g = (ys, zs, refl, defs-later ids (marked_id (ys ++ zs)) more (scope_of kd id label ds) 0 ds ys d, exports-later ids (marked_id (ys ++ zs)) more 0 ds zs e, g)
  where
    more : (o : Origin) (x : Id) → ids o ≡ Some x → marked_id (ys ++ zs) o ≡ Some x
    more o x h =
        let w : (p : ℕ) × (v : Entry) × (slice_get (ys ++ zs) p ≡ Some v) × (v.origin ≡ o) × (first_or_none v.names.ids ≡ Some x) = t o x h in
        let f : find_mark (ys ++ zs) w.1.origin ≡ Some w.1 = once-found (ys ++ zs) (list-once (scope_of kd id label ds) ids ys zs d e) w.0 w.1 w.2 in
        subst (λ p. id_in (find_mark (ys ++ zs) p) ≡ Some x) w.3 (ap id_in f ∙ w.4)
