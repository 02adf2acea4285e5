-- What is read of parts of a definition among open scopes.
use Rattle.std.specs.Prelude.{◌≡◌, ℕ, ◌+◌, List, [], ◌∷◌, ◌++◌, length, map, drop, Option, Some, None}
use Rattle.comp_model.specs.declared.Space.{Space}
use Rattle.comp_model.specs.Core.{Text, Id, Reach, Place, counted}
use Rattle.comp_model.specs.Model.{Leaf, Leaves, Nodes, Path}
use Rattle.comp_model.specs.Origins.{outer_alias_of, export_step}
use Rattle.comp_scopes.specs.Encoding.{Encoding}
use Rattle.comp_scopes.specs.Form.{Made, make, alias_node, step_node}
use Rattle.comp_scopes.specs.Names.{Denoted}
use Rattle.comp_scopes.specs.Outward.{leads_out}
use Rattle.comp_scopes.specs.References.{references, references_leaf, references_nodes}
use Rattle.comp_scopes.specs.Resolved.{binary_of_leaf, binary_of_leaves, binary_of_nodes}
use Rattle.comp_scopes.specs.Unmet.{Unmet}
use Rattle.comp_expanded.specs.IsResolved.{LeafResolved, LeavesResolved, NodesResolved}
use Rattle.comp_tables.specs.Tables.{Counters, Opened, advanced, found, past_alias, past_name, past_path, past, past_leaf, past_nodes, or_next, found_name_index, found_path_index, next_place, name_needs, path_needs, place_depth, needs, needs_leaf, needs_nodes}
use Rattle.comp_tables.specs.Built.{missing_name, missing_place, missing, missing_leaf, missing_nodes}
use Rattle.comp_tables.specs.Walks.{counters_in}
use Rattle.open_scopes.specs.declared.lookup.Found.{Found}
use Rattle.open_scopes.specs.declared.scopes.Open.{Open}
use Rattle.open_scopes.specs.Shown.{OpenScopesShow}
use Rattle.tree_names.specs.declared.reading.Reading.{Reading}
use Rattle.tree_names.specs.declared.generated.Generated.TheVariants.{Outer}
use Rattle.tree_names.specs.AllFound.{name_found, all_found, leaf_found, nodes_found, FoundTaken}
use Rattle.tree_names.specs.Generated.{number_at, generated_made}
use Rattle.tree_names.specs.Served.{ServedBy, name_served, all_served, leaf_served, nodes_served}
use Rattle.tree_names.specs.Settled.{settled, settled_leaf, settled_nodes}

-- what was generated, before a definition that is part of definition j of the text, with these numbers there
abbrev pub generated_in : ℕ → List ℕ → Reading → List Made
generated_in j vs a = map (generated_made (number_at vs) j) a.generated.items

-- ---- names that lead out, and steps of paths: one alias more, whose index is that of its space

-- an outer alias, and its reference
pub record OuterMade (s : Space) (d k : ℕ) (old new : Reading) (i : ℕ) : Type 0 where
  pub sized : length new.counters ≡ 13
  pub counts : (c : Counters) → counters_in old.counters ≡ c.counts → counters_in new.counters ≡ (advanced (s ∷ []) c).counts
  pub place : new.place ≡ old.place + 1
  pub needed : new.generated.items ≡ old.generated.items ++ Outer d s k old.place ∷ []
  pub index : i ≡ counters_in old.counters s
  pub denotations : new.denotations ≡ old.denotations

-- the alias of an export
pub record StepMade (s : Space) (k : ℕ) (t : Text) (n : ℕ) (old new : Reading) (i : ℕ) : Type 0 where
  pub sized : length new.counters ≡ 13
  pub counts : (c : Counters) → counters_in old.counters ≡ c.counts → counters_in new.counters ≡ (advanced (s ∷ []) c).counts
  pub place : new.place ≡ old.place
  pub needed : (j : ℕ) (vs : List ℕ) → generated_in j vs new ≡ generated_in j vs old ++ make (export_step j (number_at vs old.place) n) (step_node k t s) ∷ []
  pub index : i ≡ counters_in old.counters s
  pub denotations : new.denotations ≡ old.denotations

-- the outer alias of a name, unless one serves it
abbrev pub outer_needs : Option ℕ → ℕ → ℕ → ℕ → Space → ℕ → List Made
outer_needs (Some i) j u d s k = []
outer_needs None j u d s k = make (outer_alias_of j u) (alias_node d s k) ∷ []

-- a name that leads out to the item of index k in the scope d outward, which this serves, if anything does
pub record OuterBy (a : Option ℕ) (more : List (Option ℕ)) (s : Space) (d k : ℕ) (old new : Reading) (i : ℕ) : Type 0 where
  pub counts : (x : Denoted) (c : Counters) → counters_in old.counters ≡ c.counts → counters_in new.counters ≡ (past_alias s x a c).counts
  pub served : new.denotations.served.now ≡ more
  pub needed : (j : ℕ) (vs : List ℕ) → generated_in j vs new ≡ generated_in j vs old ++ outer_needs a j (number_at vs old.place) d s k
  pub index : (c : Counters) → counters_in old.counters ≡ c.counts → i ≡ or_next a (c.counts s)

pub record OuterRead (s : Space) (d k : ℕ) (old new : Reading) (i : ℕ) : Type 0 where
  pub sized : length new.counters ≡ 13
  pub place : new.place ≡ old.place + 1
  pub left : new.denotations.left ≡ old.denotations.left
  pub by : (a : Option ℕ) (more : List (Option ℕ)) → old.denotations.served.now ≡ a ∷ more → OuterBy a more s d k old new i

-- a path to an item of a space, before its reference is numbered
pub record PathRead (os : List Open) (s : Space) (p : Path) (old new : Reading) (i : ℕ) : Type 0 where
  pub sized : length new.counters ≡ 13
  pub counts : (c : Counters) → counters_in old.counters ≡ c.counts → counters_in new.counters ≡ (past_path s p c).counts
  pub place : new.place ≡ old.place
  pub needed : (ms : List Opened) (c : Counters) (j : ℕ) (vs : List ℕ) → OpenScopesShow os ms → counters_in old.counters ≡ c.counts → generated_in j vs new ≡ generated_in j vs old ++ path_needs ms j (number_at vs old.place) s p c
  pub index : (ms : List Opened) (c : Counters) → OpenScopesShow os ms → counters_in old.counters ≡ c.counts → i ≡ found_path_index ms s p c

-- the first part of an outer alias: a depth
pub record PlaceRead (os : List Open) (p : Place) (d : ℕ) : Type 0 where
  pub known : (ms : List Opened) → OpenScopesShow os ms → missing_place ms p ≡ None
  pub depth : (ms : List Opened) → OpenScopesShow os ms → counted 0 d ≡ place_depth ms p

-- ---- parts, by the counters and the aliases in front of them

-- these are in front of a part, and what serves it comes next
pub record ReadsFrom (a : Reading) (c : Counters) (serving more : List (Option ℕ)) : Type 0 where
  pub counts : counters_in a.counters ≡ c.counts
  pub served : a.denotations.served.now ≡ serving ++ more

-- these are behind it, and what serves the parts after it is left; it needs this
pub record ReadsTo (a b : Reading) (c : Counters) (more : List (Option ℕ)) (needs : ℕ → List ℕ → List Made) : Type 0 where
  pub counts : counters_in b.counters ≡ c.counts
  pub served : b.denotations.served.now ≡ more
  pub needed : (j : ℕ) (vs : List ℕ) → generated_in j vs b ≡ generated_in j vs a ++ needs j (drop a.place vs)

abbrev pub Needs : Type 0
Needs = List Opened → ℕ → List ℕ → Counters → List Made

-- past a part: how many references it has, what was taken of what was found, that nothing of it is unmet
pub record ReadPast (os : List Open) (old new : Reading) (past : List Opened → Counters → Counters) (n : ℕ) (needs : Needs) (found : List Opened → List (Option Found)) (served : ServedBy) (unmet : List Opened → Option Unmet) : Type 0 where
  pub sized : length new.counters ≡ 13
  pub place : new.place ≡ old.place + n
  pub known : (ms : List Opened) → OpenScopesShow os ms → unmet ms ≡ None
  pub taken : FoundTaken os found old.denotations.left.now new.denotations.left.now
  pub reads : (ms : List Opened) (c : Counters) (more : List (Option ℕ)) → OpenScopesShow os ms → ReadsFrom old c (served ms c) more → ReadsTo old new (past ms c) more (λ j vs. needs ms j vs c)

-- and what has come of it, by what serves it
abbrev pub ReadAs : List Open → Reading → ServedBy → (List Opened → Counters → Type 0) → Type 0
ReadAs os old served P = (ms : List Opened) (c : Counters) (more : List (Option ℕ)) → OpenScopesShow os ms → ReadsFrom old c (served ms c) more → P ms c

-- a name: its index
pub record NameRead (os : List Open) (s : Space) (r : Reach) (x : Id) (old new : Reading) (i : ℕ) : Type 0 where
  pub past : ReadPast os old new (λ ms c. past_name s (leads_out r (found ms s r x)) (found ms s r x) c) 1 (λ ms j vs c. name_needs ms j (next_place vs) s (leads_out r (found ms s r x)) (found ms s r x) c) (λ ms. name_found ms s r x ∷ [])
      (λ ms c. name_served s (leads_out r (found ms s r x)) (found ms s r x) c) (λ ms. missing_name ms r x (found ms s r x))
  pub index : ReadAs os old (λ ms c. name_served s (leads_out r (found ms s r x)) (found ms s r x) c) (λ ms c. i ≡ found_name_index ms s (leads_out r (found ms s r x)) (found ms s r x) c)

pub record LeafRead (e : Encoding) (os : List Open) (old new : Reading) (l r : Leaf) : Type 0 where
  pub past : ReadPast os old new (λ ms. past_leaf ms l) (references_leaf l) (λ ms j vs c. needs_leaf ms j vs l c) (λ ms. leaf_found ms l) (λ ms. leaf_served ms l) (λ ms. missing_leaf e ms l)
  pub resolved : LeafResolved r
  pub here : ReadAs os old (λ ms. leaf_served ms l) (λ ms c. binary_of_leaf e r ≡ settled_leaf e ms l c)

pub record LeavesRead (e : Encoding) (os : List Open) (old new : Reading) (ls rs : Leaves) : Type 0 where
  pub past : ReadPast os old new (λ ms. past ms ls) (references ls) (λ ms j vs c. needs ms j vs ls c) (λ ms. all_found ms ls) (λ ms. all_served ms ls) (λ ms. missing e ms ls)
  pub resolved : LeavesResolved rs
  pub here : ReadAs os old (λ ms. all_served ms ls) (λ ms c. binary_of_leaves e rs ≡ settled e ms ls c)

-- `earlier` are the ids of the cases in front
pub record NodesRead (e : Encoding) (os : List Open) (earlier : List Id) (old new : Reading) (ns rs : Nodes) : Type 0 where
  pub past : ReadPast os old new (λ ms. past_nodes ms ns) (references_nodes ns) (λ ms j vs c. needs_nodes ms j vs ns c) (λ ms. nodes_found ms ns) (λ ms. nodes_served ms ns) (λ ms. missing_nodes e ms earlier ns)
  pub resolved : NodesResolved rs
  pub here : ReadAs os old (λ ms. nodes_served ms ns) (λ ms c. binary_of_nodes e rs ≡ settled_nodes e ms ns c)
