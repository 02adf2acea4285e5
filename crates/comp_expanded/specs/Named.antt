-- When the ids that are given serve an expansion: they are there where they are needed, generated, and pairwise different.
use Rattle.std.specs.Prelude.{◌≡◌, ℕ, ◌+◌, false, IsSome, List, [], ◌∷◌, ◌++◌, Option, Some, None, ⊤, true}
use Rattle.comp_model.specs.Core.{Text, Id, is_of_text, same_id}
use Rattle.comp_model.specs.Model.{Leaf, ref, present, node, nodes, scope, inline, bundle, Leaves, no_leaf, ◌▸◌, row, Nodes, no_node, one_node, define, Defs, no_def, one_def, Scope, scope_of, defs_of}
use Rattle.comp_model.specs.Spaces.{bears}
use Rattle.comp_model.specs.Origins.{Origin, written, inline_type, bundle_of}
use Rattle.comp_scopes.specs.References.{references, references_leaf}
use Rattle.comp_scopes.specs.Reused.{reused}
use Rattle.comp_expanded.specs.Expansion.{Naming, inside, given, given_to_scope, first_id, ids_at, Entry, expand_defs, expand_exports}

-- a generated id
abbrev pub IsGenerated : Option Id → Type 0
IsGenerated None = ⊥
IsGenerated (Some x) = is_of_text x ≡ false

-- none, or a generated one
abbrev pub MayBeGiven : Option Id → Type 0
MayBeGiven None = ⊤
MayBeGiven (Some x) = is_of_text x ≡ false

-- a definition whose inline exports become definitions has an id
abbrev pub ExportsNamed : List Text → Option Id → Type 0
ExportsNamed [] y = ⊤
ExportsNamed (n ∷ ns) y = IsSome y

-- what an inline node reuses has an id; any other inline node is given one
abbrev pub InlineNamed : Naming → Scope → ℕ → ℕ → Option Origin → Type 0 → Type 0
InlineNamed g c k u (Some (written j)) P = IsSome (first_id (ids_at (defs_of c) j) (given g (written j)))
InlineNamed g c k u (Some o) P = ⊤
InlineNamed g c k u None P = IsGenerated (given g (inline_type k u)) × P

-- none of these is the id
abbrev pub NoneBears : Id → List (Option Id) → Type 0
NoneBears x [] = ⊤
NoneBears x (y ∷ ys) = (bears x y ≡ false) × NoneBears x ys

-- no later one is the same, where it is a generated id
abbrev pub OnceBeside : Option Id → List (Option Id) → Type 0
OnceBeside None ys = ⊤
OnceBeside (Some x) ys = is_of_text x ≡ false → NoneBears x ys

-- generated ids are pairwise different
abbrev pub GeneratedOnce : List (Option Id) → Type 0
GeneratedOnce [] = ⊤
GeneratedOnce (x ∷ xs) = OnceBeside x xs × GeneratedOnce xs

-- the ids of the definitions of a list
abbrev pub entry_ids : List Entry → List (Option Id)
entry_ids [] = []
entry_ids (d ∷ ds) = d.names.ids ++ entry_ids ds

-- the ids that a part is given serve: `c` is the scope, `o` the mark of the definition, `k` and `u` count as in `expand`
abbrev mutual
  pub LeavesNamed : Naming → Scope → Origin → ℕ → ℕ → Leaves → Type 0
  LeavesNamed g c o k u no_leaf = ⊤
  LeavesNamed g c o k u (l ▸ ls) = LeafNamed g c o k u l × LeavesNamed g c o k (u + references_leaf l) ls

  pub LeafNamed : Naming → Scope → Origin → ℕ → ℕ → Leaf → Type 0
  LeafNamed g c o k u (ref s (inline (row t ls))) = InlineNamed g c k u (reused (c ∷ []) k u t ls) (LeavesNamed g c (inline_type k u) k (u + 1) ls)
  LeafNamed g c o k u (ref s (bundle (row t ls))) = IsGenerated (given g (bundle_of k u)) × LeavesNamed g c (bundle_of k u) k (u + 1) ls
  LeafNamed g c o k u (present l) = LeafNamed g c o k u l
  LeafNamed g c o k u (node (row t ls)) = LeavesNamed g c o k u ls
  LeafNamed g c o k u (nodes ns) = NodesNamed g c o k u ns
  LeafNamed g c o k u (scope (scope_of kd id label ds)) = DefsNamed (inside g o) (scope_of kd id label ds) 0 ds
      × GeneratedOnce (entry_ids (expand_defs (inside g o) (scope_of kd id label ds) 0 ds ++ expand_exports (inside g o) 0 ds)) × MayBeGiven (given_to_scope (inside g o))
  LeafNamed g c o k u _ = ⊤

  pub NodesNamed : Naming → Scope → Origin → ℕ → ℕ → Nodes → Type 0
  NodesNamed g c o k u no_node = ⊤
  NodesNamed g c o k u (one_node (row t ls) ns) = LeavesNamed g c o k u ls × NodesNamed g c o k (u + references ls) ns

  pub DefsNamed : Naming → Scope → ℕ → Defs → Type 0
  DefsNamed g c k no_def = ⊤
  DefsNamed g c k (one_def (define ns (row t ls)) ds) = MayBeGiven (given g (written k)) × ExportsNamed ns.exports (first_id ns.ids (given g (written k)))
      × LeavesNamed g c (written k) k 0 ls × DefsNamed g c (k + 1) ds

-- a naming that serves a scope
abbrev pub Named : Naming → Scope → Type 0
Named g (scope_of kd id label ds) = DefsNamed g (scope_of kd id label ds) 0 ds × GeneratedOnce (entry_ids (expand_defs g (scope_of kd id label ds) 0 ds ++ expand_exports g 0 ds)) × MayBeGiven (given_to_scope g)

-- ids that are new: each is generated, and those of one scope, whose marks have the way q to them, are pairwise different
abbrev pub NewIds : Naming → Type 0
NewIds g = ((p : List Origin) → IsGenerated (g p)) × ((q : List Origin) (o p : Origin) (x y : Id) → g (q ++ o ∷ []) ≡ Some x → g (q ++ p ∷ []) ≡ Some y → same_id x y ≡ true → o ≡ p)
