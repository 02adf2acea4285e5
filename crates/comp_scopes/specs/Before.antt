-- What is generated stands before the definition that uses it.
use Rattle.std.specs.Prelude.{◌≡◌, ℕ, ◌+◌, ◌<◌, true, Option, Some, None, ⊤, List, slice_get}
use Rattle.comp_model.specs.declared.Space.{Space}
use Rattle.comp_model.specs.declared.Space.TheVariants.{CoreType}
use Rattle.comp_model.specs.declared.row.Row.{Row}
use Rattle.comp_model.specs.Core.{Text, ref_name}
use Rattle.comp_model.specs.Model.{Leaf, core_value, ref, present, node, nodes, name, Path, root_number, root_name, export_of, path, inline, bundle, Leaves, no_leaf, ◌▸◌, row, Nodes, no_node, one_node, define, Defs, no_def, one_def, Scope}
use Rattle.comp_model.specs.Origins.{Origin, inline_type, bundle_of, export_step, outer_alias_of, Held}
use Rattle.comp_scopes.specs.Encoding.{Encoding}
use Rattle.comp_scopes.specs.Names.{denotes}
use Rattle.comp_scopes.specs.References.{references, references_leaf, steps, instance_space}
use Rattle.comp_scopes.specs.Reused.{reused}
use Rattle.comp_scopes.specs.Outward.{leads_out}
use Rattle.comp_scopes.specs.Form.{Made, make, step_node, coded_node}
use Rattle.comp_scopes.specs.Renders.{WrittenThere, Gives, index_in, present_in, leaves_in, nodes_in, first_leaf, later_leaves, first_leaves, later_nodes}

-- before p stands the definition with that mark, and index i of the space is it
pub record MarkBefore (ms : List Made) (p : ℕ) (o : Origin) (s : Space) (i : ℕ) : Type 0 where
  pub position : ℕ
  pub found : Made
  pub in_front : position < p
  pub stands : slice_get ms position ≡ Some found
  pub is_marked : found.origin ≡ o
  pub gives : Gives ms position s i

-- the same of the outer alias of a name of the scope
pub record AliasBefore (ms : List Made) (p : ℕ) (s : Space) (i : ℕ) : Type 0 where
  pub definition : ℕ
  pub reference : ℕ
  pub alias_there : MarkBefore ms p (outer_alias_of definition reference) s i

-- the same of a row, of whose leaves, at its own position, the fact holds
pub record RowBefore (ms : List Made) (p : ℕ) (o : Origin) (t : Row) (s : Space) (i : ℕ) (Fact : ℕ → Leaves → Type 0) : Type 0 where
  pub position : ℕ
  pub held : Held
  pub leaves : Leaves
  pub in_front : position < p
  pub stands : slice_get ms position ≡ Some (record { origin = o; held = held; made = row t leaves })
  pub gives : Gives ms position s i
  pub fact : Fact position leaves

-- the same of the alias of an export name, of whose instance the fact holds
pub record StepBefore (ms : List Made) (p : ℕ) (o : Origin) (t : Text) (s : Space) (i : ℕ) (Fact : ℕ → ℕ → Type 0) : Type 0 where
  pub position : ℕ
  pub index : ℕ
  pub in_front : position < p
  pub stands : slice_get ms position ≡ Some (make o (step_node index t s))
  pub gives : Gives ms position s i
  pub fact : Fact position index

-- where an inline node reuses a definition, that one stands before; else its own
pub record ReusedOrOwn (reuses : Option Origin) (Earlier : Origin → Type 0) (Own : Type 0) : Type 0 where
  pub where_reused : (o : Origin) → reuses ≡ Some o → Earlier o
  pub where_own : reuses ≡ None → Own

-- index i is the alias of the last export name, before p, and so on down to the root
abbrev pub PathBefore : List Made → ℕ → ℕ → ℕ → Space → Path → ℕ → Type 0
PathBefore ms p k u s (root_number o n) i = ⊤
PathBefore ms p k u s (root_name x) i = ⊤
PathBefore ms p k u s (export_of a t) i = StepBefore ms p (export_step k u (steps a)) t s i (λ q j. PathBefore ms q k u (instance_space s) a j)

abbrev mutual
  -- in the definition at p, whose binary leaves are bs
  pub LeavesBefore : List Scope → List Made → ℕ → ℕ → ℕ → Leaves → Leaves → Type 0
  LeavesBefore st ms p k u no_leaf bs = ⊤
  LeavesBefore st ms p k u (l ▸ ls) bs = LeafBefore st ms p k u l (first_leaf bs) × LeavesBefore st ms p k (u + references_leaf l) ls (later_leaves bs)

  pub LeafBefore : List Scope → List Made → ℕ → ℕ → ℕ → Leaf → Leaf → Type 0
  LeafBefore st ms p k u (core_value (ref_name n r x)) b = leads_out r (denotes st CoreType r x) ≡ true → AliasBefore ms p CoreType (index_in b)
  LeafBefore st ms p k u (ref s (name r x)) b = leads_out r (denotes st s r x) ≡ true → AliasBefore ms p s (index_in b)
  LeafBefore st ms p k u (ref s (path a)) b = PathBefore ms p k u s a (index_in b)
  LeafBefore st ms p k u (ref s (inline (row t ls))) b =
      ReusedOrOwn (reused st k u t ls) (λ o. MarkBefore ms p o s (index_in b)) (RowBefore ms p (inline_type k u) t s (index_in b) (λ q bs. LeavesBefore st ms q k (u + 1) ls bs))
  LeafBefore st ms p k u (ref s (bundle (row t ls))) b = RowBefore ms p (bundle_of k u) t s (index_in b) (λ q bs. LeavesBefore st ms q k (u + 1) ls bs)
  LeafBefore st ms p k u (present l) b = LeafBefore st ms p k u l (present_in b)
  LeafBefore st ms p k u (node (row t ls)) b = LeavesBefore st ms p k u ls (leaves_in b)
  LeafBefore st ms p k u (nodes ns) b = NodesBefore st ms p k u ns (nodes_in b)
  LeafBefore st ms p k u _ b = ⊤

  pub NodesBefore : List Scope → List Made → ℕ → ℕ → ℕ → Nodes → Nodes → Type 0
  NodesBefore st ms p k u no_node bs = ⊤
  NodesBefore st ms p k u (one_node (row t ls) ns) bs = LeavesBefore st ms p k u ls (first_leaves bs) × NodesBefore st ms p k (u + references ls) ns (later_nodes bs)

-- in each definition from number k on
abbrev pub DefsBefore : Encoding → List Scope → List Made → ℕ → Defs → Type 0
DefsBefore e st ms k no_def = ⊤
DefsBefore e st ms k (one_def (define names (row t ls)) ds) = WrittenThere ms k (coded_node e t ls) (λ p h bs. LeavesBefore st ms p k 0 ls bs) × DefsBefore e st ms (k + 1) ds
