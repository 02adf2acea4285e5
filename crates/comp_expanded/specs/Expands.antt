-- When a scope with marks is the expansion of a scope of the text, part by part. It is `expand` under the ids that stand in it, and says
-- of each part what it becomes without asking for ids beforehand.
use Rattle.std.specs.List.{range_with_len}
use Rattle.std.specs.Prelude.{◌≡◌, ℕ, ◌+◌, false, cond, List, [], ◌∷◌, ◌++◌, slice_get, Option, Some, None, ⊤}
use Rattle.comp_model.specs.declared.Space.{Space}
use Rattle.comp_model.specs.declared.row.Row.{Row}
use Rattle.comp_model.specs.Core.{Text, Id, is_of_text}
use Rattle.comp_model.specs.Model.{Leaf, ref, present, node, nodes, scope, name, inline, bundle, Leaves, no_leaf, ◌▸◌, row, Nodes, no_node, one_node, define, Defs, no_def, one_def, Scope, scope_of}
use Rattle.comp_model.specs.Spaces.{declares_row}
use Rattle.comp_model.specs.Origins.{Origin, written, inline_type, bundle_of, same_origin}
use Rattle.comp_expanded.specs.ListMarks.{ListMarks, nothing_inside}
use Rattle.comp_scopes.specs.Names.{first_of_two}
use Rattle.comp_scopes.specs.References.{references, references_leaf}
use Rattle.comp_scopes.specs.Reused.{reused}
use Rattle.comp_model.specs.ItemNames.{first_or_none}
use Rattle.comp_scopes.specs.Rowed.{Rowed}
use Rattle.comp_expanded.specs.OfText.{OfText}
use Rattle.comp_expanded.specs.Expansion.{Entry, entry_defs, entry_marks, generated_reach, first_id, given_names, generated_names, Expanded, unchanged, expanded_as, expand_both, expand_inner, entry, expand_one, expand_exports_of}
use Rattle.comp_expanded.specs.Named.{MayBeGiven, ExportsNamed, GeneratedOnce, entry_ids}

-- the entry of that mark
abbrev pub find_mark : List Entry → Origin → Option Entry
find_mark [] o = None
find_mark (x ∷ xs) o = cond (same_origin o x.origin) (Some x) (find_mark xs o)

-- the id of its first part
abbrev pub id_in : Option Entry → Option Id
id_in None = None
id_in (Some x) = first_or_none x.names.ids

-- the id of the definition of a mark in a list
abbrev pub marked_id : List Entry → Origin → Option Id
marked_id xs o = id_in (find_mark xs o)

-- the ids are those of the definitions of their marks in the list
abbrev pub IdsStand : (Origin → Option Id) → List Entry → Type 0
IdsStand ids xs = (o : Origin) (x : Id) → ids o ≡ Some x → (p : ℕ) × (d : Entry) × (slice_get xs p ≡ Some d) × (d.origin ≡ o) × (first_or_none d.names.ids ≡ Some x)

-- a definition with inline exports has this id
abbrev pub ExportId : List Text → Option Id → Id → Type 0
ExportId [] y x = ⊤
ExportId (n ∷ ns) y x = y ≡ Some x

-- an inline node, whose leaves became some `d` of which E holds: the name of the definition that it reuses, or a generated name with the
-- definition that bears it
abbrev pub ExpandsInline : (Origin → Option Id) → Scope → ℕ → ℕ → Space → Row → Option Origin → (Expanded Leaves → Type 0) → Expanded Leaf → Type 0
ExpandsInline ids c k u s t (Some o) E a = (x : Id) × (ids o ≡ Some x) × (a ≡ unchanged (u ∷ []) (ref s (name (generated_reach c) x)))
ExpandsInline ids c k u s t None E a = (x : Id) × (d : Expanded Leaves) × (is_of_text x ≡ false)
    × (a ≡ record { inlined = expand_one (inline_type k u) (generated_names (Some x)) t d; bundles = []; held = nothing_inside; places = u ∷ []; here = ref s (name (generated_reach c) x) }) × E d

-- `ids` are those of the marks in the expanded scope, `c` is the scope of the text, `k` the definition, `u` the number of
-- the first reference in the leaves
abbrev mutual
  pub ExpandsLeaves : (Origin → Option Id) → Scope → ℕ → ℕ → Leaves → Expanded Leaves → Type 0
  ExpandsLeaves ids c k u no_leaf a = a ≡ unchanged [] no_leaf
  ExpandsLeaves ids c k u (l ▸ ls) a = (b : Expanded Leaf) × (d : Expanded Leaves) × (a ≡ expand_both (λ m ms. m ▸ ms) b d) × ExpandsLeaf ids c k u l b × ExpandsLeaves ids c k (u + references_leaf l) ls d

  pub ExpandsLeaf : (Origin → Option Id) → Scope → ℕ → ℕ → Leaf → Expanded Leaf → Type 0
  ExpandsLeaf ids c k u (ref s (inline (row t ls))) a = ExpandsInline ids c k u s t (reused (c ∷ []) k u t ls) (ExpandsLeaves ids c k (u + 1) ls) a
  ExpandsLeaf ids c k u (ref s (bundle (row t ls))) a = (x : Id) × (d : Expanded Leaves) × (is_of_text x ≡ false)
      × (a ≡ record { inlined = d.inlined; bundles = d.bundles ++ entry (bundle_of k u) (generated_names (Some x)) t d ∷ []; held = nothing_inside; places = u ∷ []; here = ref s (name (generated_reach c) x) }) × ExpandsLeaves ids c k (u + 1) ls d
  ExpandsLeaf ids c k u (present l) a = (b : Expanded Leaf) × (a ≡ expanded_as present b) × ExpandsLeaf ids c k u l b
  ExpandsLeaf ids c k u (node (row t ls)) a = (d : Expanded Leaves) × (a ≡ expanded_as (λ bs. node (row t bs)) d) × ExpandsLeaves ids c k u ls d
  ExpandsLeaf ids c k u (nodes ns) a = (d : Expanded Nodes) × (a ≡ expanded_as nodes d) × ExpandsNodes ids c k u ns d
  ExpandsLeaf ids c k u (scope (scope_of kd id label ds)) a = (ys : List Entry) × (zs : List Entry) × (y : Option Id) × MayBeGiven y × (a ≡ expand_inner kd (first_of_two id y) label (ys ++ zs))
      × ExpandsDefs (marked_id (ys ++ zs)) (scope_of kd id label ds) 0 ds ys × ExpandsExports (marked_id (ys ++ zs)) 0 ds zs × GeneratedOnce (entry_ids (ys ++ zs))
  ExpandsLeaf ids c k u l a = a ≡ unchanged (range_with_len u (references_leaf l)) l

  pub ExpandsNodes : (Origin → Option Id) → Scope → ℕ → ℕ → Nodes → Expanded Nodes → Type 0
  ExpandsNodes ids c k u no_node a = a ≡ unchanged [] no_node
  ExpandsNodes ids c k u (one_node (row t ls) ns) a = (b : Expanded Leaves) × (d : Expanded Nodes) × (a ≡ expand_both (λ bs ks. one_node (row t bs) ks) b d) × ExpandsLeaves ids c k u ls b × ExpandsNodes ids c k (u + references ls) ns d

  -- each definition behind those that stand for its parts; its ids stay, and its first part may be given one
  pub ExpandsDefs : (Origin → Option Id) → Scope → ℕ → Defs → List Entry → Type 0
  ExpandsDefs ids c k no_def xs = xs ≡ []
  ExpandsDefs ids c k (one_def (define ns (row t ls)) ds) xs = (y : Option Id) × (d : Expanded Leaves) × (more : List Entry) × MayBeGiven y × ExportsNamed ns.exports (first_id ns.ids y)
      × (xs ≡ expand_one (written k) (given_names ns y) t d ++ more) × ExpandsLeaves ids c k 0 ls d × ExpandsDefs ids c (k + 1) ds more

  -- then the exports, each by the id of its definition
  pub ExpandsExports : (Origin → Option Id) → ℕ → Defs → List Entry → Type 0
  ExpandsExports ids k no_def xs = xs ≡ []
  ExpandsExports ids k (one_def (define ns (row t ls)) ds) xs = (x : Id) × (more : List Entry) × ExportId ns.exports (ids (written k)) x
      × (xs ≡ expand_exports_of x k 0 ns.exports (declares_row t ls) ++ more) × ExpandsExports ids (k + 1) ds more

-- a list is the expansion of a scope: its definitions, then its exports, with generated ids that are pairwise different
abbrev pub ExpandsList : Scope → List Entry → Type 0
ExpandsList (scope_of kd id label ds) xs = (ys : List Entry) × (zs : List Entry) × (xs ≡ ys ++ zs)
    × ExpandsDefs (marked_id (ys ++ zs)) (scope_of kd id label ds) 0 ds ys × ExpandsExports (marked_id (ys ++ zs)) 0 ds zs × GeneratedOnce (entry_ids (ys ++ zs))

-- a scope with marks is the expansion of a scope of the text; its own id is kept, or may be a generated one where it has none
abbrev pub Expands : Scope → Scope → ListMarks → Type 0
Expands (scope_of kd id label ds) x os = (xs : List Entry) × (y : Option Id) × MayBeGiven y × (x ≡ scope_of kd (first_of_two id y) label (entry_defs xs)) × (os ≡ entry_marks xs) × ExpandsList (scope_of kd id label ds) xs

-- each scope of a stack of the text has the one beside it for its expansion
abbrev pub AllExpand : List Scope → List Scope → Type 0
AllExpand [] [] = ⊤
AllExpand [] (x ∷ xs) = ⊥
AllExpand (s ∷ st) [] = ⊥
AllExpand (s ∷ st) (x ∷ xs) = ((os : ListMarks) × Rowed s × OfText s × Expands s x os) × AllExpand st xs
