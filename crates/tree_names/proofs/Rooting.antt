-- The roots of the paths of parts, one behind the other.
use Rattle.std.proofs.Common.{◌≡◌, Bool, ℕ, ◌+◌, ◌≤◌, ◌<◌, refl, sym, ap, ◌∙◌, subst, List, [], ◌∷◌, ◌++◌, length, Option, Some, None, Bor, Result, MatchResult, arith, option_map}
use Rattle.std.specs.Bool.{⊤}
use Rattle.comp_model.specs.declared.Space.{Space}
use Rattle.comp_model.specs.declared.Space.TheVariants.{CoreType}
use Rattle.comp_model.specs.Core.{Text, Id, Reach, outward, own}
use Rattle.comp_model.specs.CoreModules.{CoreModule}
use Rattle.comp_model.specs.Model as m
use Rattle.comp_model.specs.Model.{Path, export_of}
use Rattle.comp_scopes.specs.Encoding.{Encoding}
use Rattle.comp_scopes.specs.Names.{Denoted, first_of_two}
use Rattle.comp_scopes.specs.References.{instance_space}
use Rattle.comp_scopes.specs.Unmet.{Unmet}
use Rattle.comp_tables.specs.Tables.{Opened, found}
use Rattle.comp_tables.specs.Built.{missing_name, missing_root, missing_roots, missing_roots_leaf, missing_roots_nodes}
use Rattle.wast_parser.specs.declared.index.Id as lent
use Rattle.wast_parser.specs.declared.index.Index.{Index}
use Rattle.wast_parser.specs.declared.index.Index.TheVariants as index
use Rattle.wast_tokens.specs.declared.error.Error.{Error}
use Rattle.comp_tree.specs.declared.tree.CoreValue.{CoreValue}
use Rattle.comp_tree.specs.declared.tree.CoreValue.TheVariants as values
use Rattle.comp_tree.specs.declared.tree.Concrete.{Concrete}
use Rattle.comp_tree.specs.declared.tree.Leaf.{Leaf}
use Rattle.comp_tree.specs.declared.tree.Node.{Node}
use Rattle.comp_tree.specs.Lists.{listed, nodes_listed}
use Rattle.comp_tree.specs.Model.{leaf_of, core_at, root_of, path_from, path_of, index_of, id_of, reach_of, core_value_of, core_reference}
use Rattle.open_scopes.specs.declared.lookup.Found.{Found}
use Rattle.open_scopes.specs.declared.scopes.Open.{Open}
use Rattle.open_scopes.specs.Shown.{OpenScopesShow, found_of}
use Rattle.tree_names.specs.declared.reading.Reading.{Reading}
use Rattle.tree_names.specs.AllFound.{name_found, root_found, all_found, leaf_found, nodes_found, FoundBehind, FoundFirst, FoundTaken}
use Rattle.tree_names.specs.Counted.{RefusedBy}
use Rattle.tree_names.specs.Read.{PathRead, LeafRead}
use Rattle.tree_names.specs.Rooted.{Rooted, RootsPassed, RootsLeft}
use Rattle.tree_names.proofs.CoreLeaves.{by_core}
use Rattle.tree_names.proofs.Counting.{first_refused_by, then_refused_by}
use Rattle.tree_names.proofs.Names.{nothing}
use Rattle.tree_names.proofs.Paths.{inner_twice}
use Rattle.tree_names.proofs.ReadParts.{empty_path}
use Rattle.tree_names.proofs.Taking.{next_is, next_taken, first_front, rest_front, both_taken}
use Rattle.open_scopes.specs.Refusals.{refusal_of}

module _ (os : List Open) (r : Result ⊤ Error) (old new : List (Option Found)) where
  abbrev Answer : m.Leaf → Type 0
  Answer l = FoundFirst os (λ ms. leaf_found ms l) old → MatchResult r (λ done. RootsPassed os (λ ms. missing_roots_leaf ms l) (λ ms. leaf_found ms l) old new) (RefusedBy os (λ ms. missing_roots_leaf ms l))

  pub same_roots : (l k : m.Leaf) → l ≡ k → Answer k → Answer l
  same_roots l k e h = subst Answer (sym e) h

pub core_rooted : (os : List Open) (C : List CoreModule) (n : ℕ) (l : m.Leaf) (old : List (Option Found)) → l ≡ core_at C n → RootsPassed os (λ ms. missing_roots_leaf ms l) (λ ms. leaf_found ms l) old old
core_rooted os C n l old h = subst (λ k. RootsPassed os (λ ms. missing_roots_leaf ms k) (λ ms. leaf_found ms k) old old) (sym h)
    (by_core (λ k. RootsPassed os (λ ms. missing_roots_leaf ms k) (λ ms. leaf_found ms k) old old) (record { rooted = λ ms w. refl; taken = λ ms w. refl }) (λ c. record { rooted = λ ms w. refl; taken = λ ms w. refl }) C n)

-- ---- names that are no roots

module _ (old new : List (Option Found)) (y : Option Found) (next : (first : Option Found) (more : List (Option Found)) → old ≡ first ∷ more → (y ≡ first) × (new ≡ more)) (os : List Open) where
  pub name_passed : (s : Space) (r : Reach) (x : Id) → FoundFirst os (λ ms. leaf_found ms (m.ref s (m.name r x))) old → FoundTaken os (λ ms. leaf_found ms (m.ref s (m.name r x))) old new
  name_passed s r x = next_taken os (λ ms. name_found ms s r x) y old new next

  pub index_passed : (s : Space) (r : Reach) (i : Index) (x : lent.Id) → i ≡ index.Id x → FoundFirst os (λ ms. leaf_found ms (m.ref s (index_of r i))) old → FoundTaken os (λ ms. leaf_found ms (m.ref s (index_of r i))) old new
  index_passed s r i x e =
      subst (λ j. FoundFirst os (λ ms. leaf_found ms (m.ref s (index_of r j))) old → FoundTaken os (λ ms. leaf_found ms (m.ref s (index_of r j))) old new) (sym e)
      (next_taken os (λ ms. name_found ms s r (id_of x)) y old new next)

  pub core_passed : (v : CoreValue) (b : Bool) (t : Bor Concrete) (x : lent.Id) → v ≡ values.RefConcrete b t → t.now.index ≡ index.Id x → FoundFirst os (λ ms. leaf_found ms (m.core_value (core_value_of v))) old
      → FoundTaken os (λ ms. leaf_found ms (m.core_value (core_value_of v))) old new
  core_passed v b t x e h =
      subst (λ u. FoundFirst os (λ ms. leaf_found ms (m.core_value (core_value_of u))) old → FoundTaken os (λ ms. leaf_found ms (m.core_value (core_value_of u))) old new) (sym e)
      (subst (λ j. FoundFirst os (λ ms. leaf_found ms (m.core_value (core_reference b (reach_of t.now.reach) j))) old → FoundTaken os (λ ms. leaf_found ms (m.core_value (core_reference b (reach_of t.now.reach) j))) old new) (sym h)
      (next_taken os (λ ms. name_found ms CoreType (reach_of t.now.reach) (id_of x)) y old new next))

no_root : (s : Space) (r : Reach) (i : Index) (ms : List Opened) → missing_roots_leaf ms (m.ref s (index_of r i)) ≡ None
no_root s r (index.Num n p) ms = refl
no_root s r (index.Id x) ms = refl

pub named_rooted : (os : List Open) (s : Space) (r : Reach) (x : Id) (l : m.Leaf) (old new : List (Option Found)) → l ≡ m.ref s (m.name r x)
    → (FoundFirst os (λ ms. leaf_found ms (m.ref s (m.name r x))) old → FoundTaken os (λ ms. leaf_found ms (m.ref s (m.name r x))) old new)
    → FoundFirst os (λ ms. leaf_found ms l) old → RootsPassed os (λ ms. missing_roots_leaf ms l) (λ ms. leaf_found ms l) old new
named_rooted os s r x l old new e h =
    subst (λ k. FoundFirst os (λ ms. leaf_found ms k) old → RootsPassed os (λ ms. missing_roots_leaf ms k) (λ ms. leaf_found ms k) old new) (sym e) (λ front. record { rooted = λ ms w. refl; taken = h front })

pub index_rooted : (os : List Open) (s : Space) (r : Reach) (i : Index) (l : m.Leaf) (old new : List (Option Found)) → l ≡ m.ref s (index_of r i)
    → (FoundFirst os (λ ms. leaf_found ms (m.ref s (index_of r i))) old → FoundTaken os (λ ms. leaf_found ms (m.ref s (index_of r i))) old new)
    → FoundFirst os (λ ms. leaf_found ms l) old → RootsPassed os (λ ms. missing_roots_leaf ms l) (λ ms. leaf_found ms l) old new
index_rooted os s r i l old new e h =
    subst (λ k. FoundFirst os (λ ms. leaf_found ms k) old → RootsPassed os (λ ms. missing_roots_leaf ms k) (λ ms. leaf_found ms k) old new) (sym e) (λ front. record { rooted = λ ms w. no_root s r i ms; taken = h front })

pub value_rooted : (os : List Open) (v : CoreValue) (l : m.Leaf) (old new : List (Option Found)) → l ≡ m.core_value (core_value_of v)
    → (FoundFirst os (λ ms. leaf_found ms (m.core_value (core_value_of v))) old → FoundTaken os (λ ms. leaf_found ms (m.core_value (core_value_of v))) old new)
    → FoundFirst os (λ ms. leaf_found ms l) old → RootsPassed os (λ ms. missing_roots_leaf ms l) (λ ms. leaf_found ms l) old new
value_rooted os v l old new e h =
    subst (λ k. FoundFirst os (λ ms. leaf_found ms k) old → RootsPassed os (λ ms. missing_roots_leaf ms k) (λ ms. leaf_found ms k) old new) (sym e) (λ front. record { rooted = λ ms w. refl; taken = h front })

-- ---- roots

module _ (os : List Open) (s : Space) (i : Index) (x : lent.Id) (h : i ≡ index.Id x) (old new : List (Option Found)) (y : Option Found) (next : (first : Option Found) (more : List (Option Found)) → old ≡ first ∷ more → (y ≡ first) × (new ≡ more)) (front : FoundFirst os (λ ms. root_found ms s (root_of i)) old) where
  id_front : FoundFirst os (λ ms. name_found ms s own (id_of x) ∷ []) old
  id_front = subst (λ j. FoundFirst os (λ ms. root_found ms s (root_of j)) old) h front

  root_is : (ms : List Opened) → OpenScopesShow os ms → y ≡ name_found ms s own (id_of x)
  root_is = next_is os (λ ms. name_found ms s own (id_of x)) y old new next id_front

  pub root_rooted : (f : Found) → y ≡ Some f → RootsPassed os (λ ms. missing_root ms s (root_of i)) (λ ms. root_found ms s (root_of i)) old new
  root_rooted f e = subst (λ j. RootsPassed os (λ ms. missing_root ms s (root_of j)) (λ ms. root_found ms s (root_of j)) old new) (sym h) (record {
    rooted = λ ms w. there ms (found ms s own (id_of x)) (sym e ∙ root_is ms w);
    taken = next_taken os (λ ms. name_found ms s own (id_of x)) y old new next id_front;
  })
    where
      there : (ms : List Opened) (d : Option Denoted) → Some f ≡ option_map found_of d → missing_name ms own (id_of x) d ≡ None
      there ms None k = absurd (cc)
      there ms (Some d) k = refl

  pub root_unrooted : (e : Error) → y ≡ None → RefusedBy os (λ ms. missing_name ms own (id_of x) None) e → RefusedBy os (λ ms. missing_root ms s (root_of i)) e
  root_unrooted e k r ms w =
      ap (λ j. option_map refusal_of (missing_root ms s (root_of j))) h
      ∙ ap (λ d. option_map refusal_of (missing_name ms own (id_of x) d)) (nothing (found ms s own (id_of x)) (sym k ∙ root_is ms w)) ∙ r ms w

-- ---- paths

-- the root of a path with a step behind it
step_root : (ms : List Opened) (s : Space) (p : Path) (t : Text) (ts : List (Bor Text)) → missing_root ms s (path_from (export_of p t) ts) ≡ missing_root ms (instance_space s) p
step_root ms s p t [] = refl
step_root ms s p t (u ∷ ts) = step_root ms s (export_of p t) u.now ts ∙ ap (λ z. missing_root ms z p) (inner_twice s)

first_root : (ms : List Opened) (s : Space) (i : Index) (ts : List (Bor Text)) → 0 < length ts → missing_roots_leaf ms (m.ref s (path_of i ts)) ≡ missing_root ms (instance_space s) (root_of i)
first_root ms s i [] h = absurd (omega (arith, h))
first_root ms s i (t ∷ ts) h = step_root ms s (root_of i) t.now ts

step_found : (ms : List Opened) (s : Space) (p : Path) (t : Text) (ts : List (Bor Text)) → root_found ms s (path_from (export_of p t) ts) ≡ root_found ms (instance_space s) p
step_found ms s p t [] = refl
step_found ms s p t (u ∷ ts) = step_found ms s (export_of p t) u.now ts ∙ ap (λ z. root_found ms z p) (inner_twice s)

first_found : (ms : List Opened) (s : Space) (i : Index) (ts : List (Bor Text)) → 0 < length ts → leaf_found ms (m.ref s (path_of i ts)) ≡ root_found ms (instance_space s) (root_of i)
first_found ms s i [] h = absurd (omega (arith, h))
first_found ms s i (t ∷ ts) h = step_found ms s (root_of i) t.now ts

module _ (os : List Open) (s : Space) (i : Index) (ts : List (Bor Text)) (h : 0 < length ts) where
  pub path_front : (old : List (Option Found)) → FoundFirst os (λ ms. leaf_found ms (m.ref s (path_of i ts))) old → FoundFirst os (λ ms. root_found ms (instance_space s) (root_of i)) old
  path_front old k ms w = let q = k ms w in (q.0, q.1 ∙ ap (λ z. z ++ q.0) (first_found ms s i ts h))

  pub path_taken : (old new : List (Option Found)) → FoundTaken os (λ ms. root_found ms (instance_space s) (root_of i)) old new → FoundTaken os (λ ms. leaf_found ms (m.ref s (path_of i ts))) old new
  path_taken old new k ms w = k ms w ∙ ap (λ z. z ++ new) (sym (first_found ms s i ts h))

  pub path_behind : (old new : List (Option Found)) → FoundBehind os (λ ms. root_found ms (instance_space s) (root_of i)) old new → FoundBehind os (λ ms. leaf_found ms (m.ref s (path_of i ts))) old new
  path_behind old new k ms w behind = k ms w behind ∙ ap (λ z. old ++ (z ++ behind)) (sym (first_found ms s i ts h))

  pub path_rooted : (old new : List (Option Found)) → RootsPassed os (λ ms. missing_root ms (instance_space s) (root_of i)) (λ ms. root_found ms (instance_space s) (root_of i)) old new
      → RootsPassed os (λ ms. missing_roots_leaf ms (m.ref s (path_of i ts))) (λ ms. leaf_found ms (m.ref s (path_of i ts))) old new
  path_rooted old new k = record { rooted = λ ms w. first_root ms s i ts h ∙ k.rooted ms w; taken = path_taken old new k.taken }

  pub path_unrooted : (x : Error) → RefusedBy os (λ ms. missing_root ms (instance_space s) (root_of i)) x → RefusedBy os (λ ms. missing_roots_leaf ms (m.ref s (path_of i ts))) x
  path_unrooted x k ms w = ap (option_map refusal_of) (first_root ms s i ts h) ∙ k ms w

  -- a path whose root is there
  pub root_there : Rooted os (λ ms. missing_roots_leaf ms (m.ref s (path_of i ts))) → Rooted os (λ ms. missing_root ms (instance_space s) (root_of i))
  root_there k ms w = sym (first_root ms s i ts h) ∙ k ms w

pub empty_rooted : (os : List Open) (s : Space) (i : Index) (ts : List (Bor Text)) (old new : List (Option Found)) → length ts ≤ 0
    → (FoundFirst os (λ ms. leaf_found ms (m.ref s (index_of outward i))) old → FoundTaken os (λ ms. leaf_found ms (m.ref s (index_of outward i))) old new)
    → FoundFirst os (λ ms. leaf_found ms (m.ref s (path_of i ts))) old → RootsPassed os (λ ms. missing_roots_leaf ms (m.ref s (path_of i ts))) (λ ms. leaf_found ms (m.ref s (path_of i ts))) old new
empty_rooted os s i ts old new h k = index_rooted os s outward i (m.ref s (path_of i ts)) old new (ap (m.ref s) (empty_path i ts h)) k

-- one that is read, and then numbered
pub path_is_read : (e : Encoding) (os : List Open) (s : Space) (i : Index) (ts : List (Bor Text)) (old mid : Reading) (place : ℕ) (k o : ℕ) → 0 < length ts → PathRead os s (path_from (root_of i) ts) old mid k
    → FoundTaken os (λ ms. root_found ms (instance_space s) (root_of i)) old.denotations.left.now mid.denotations.left.now → mid.denotations.served ≡ old.denotations.served → place ≡ mid.place + 1
    → LeafRead e os old (record { counters = mid.counters; place = place; generated = mid.generated; denotations = mid.denotations }) (m.ref s (path_of i ts)) (m.ref s (m.numeral o k))
path_is_read e os s i [] old mid place k o h p t v q = absurd (omega (arith, h))
path_is_read e os s i (x ∷ ts) old mid place k o h p t v q = record {
  past = record {
    sized = p.sized;
    place = let a : mid.place ≡ old.place = p.place in omega (arith, a, q);
    known = λ ms w. refl;
    taken = path_taken os s i (x ∷ ts) h old.denotations.left.now mid.denotations.left.now t;
    reads = λ ms c more w f. record { counts = p.counts c f.counts; served = ap (λ (z : Bor (List (Option ℕ))). z.now) v ∙ f.served; needed = λ j vs. p.needed ms c j vs w f.counts };
  };
  resolved = tt;
  here = λ ms c more w f. ap (λ (n : ℕ). m.ref s (m.index n)) (p.index ms c w f.counts);
}

-- ---- loops

module _ (os : List Open) (C : List CoreModule) (first : List (Option Found)) where
  abbrev pub LeavesLeft : List (Option Found) → List Leaf → List Leaf → Type 0
  LeavesLeft now xs rest = RootsLeft os (λ ms. missing_roots ms (listed C xs)) (λ ms. missing_roots ms (listed C rest)) (λ ms. all_found ms (listed C xs)) (λ ms. all_found ms (listed C rest)) first now

  abbrev pub NodesLeft : List (Option Found) → List Node → List Node → Type 0
  NodesLeft now xs rest = RootsLeft os (λ ms. missing_roots_nodes ms (nodes_listed C xs)) (λ ms. missing_roots_nodes ms (nodes_listed C rest)) (λ ms. nodes_found ms (nodes_listed C xs)) (λ ms. nodes_found ms (nodes_listed C rest)) first now

pub roots_start : (os : List Open) (u : List Opened → Option Unmet) (f : List Opened → List (Option Found)) (old : List (Option Found)) → FoundFirst os f old → RootsLeft os u u f f old old
roots_start os u f old front = record { front = front; done = λ end h. h; refused = λ x h. h }

module _ (os : List Open) (all u v : List Opened → Option Unmet) (found f g : List Opened → List (Option Found)) (first now : List (Option Found)) (l : RootsLeft os all (λ ms. first_of_two (u ms) (v ms)) found (λ ms. f ms ++ g ms) first now) where
  next_front : FoundFirst os f now
  next_front = first_front os f g now l.front

  next_rooted : (mid : List (Option Found)) → RootsPassed os u f now mid → RootsLeft os all v found g first mid
  next_rooted mid k = record {
    front = rest_front os f g now mid l.front k.taken;
    done = λ end h. l.done end (record { rooted = λ ms w. ap (λ z. first_of_two z (v ms)) (k.rooted ms w) ∙ h.rooted ms w; taken = both_taken os f g now mid end k.taken h.taken });
    refused = λ x h. l.refused x (then_refused_by os u v x k.rooted h);
  }

  next_unrooted : (x : Error) → RefusedBy os u x → RefusedBy os all x
  next_unrooted x h = l.refused x (first_refused_by os u v x h)

module _ (os : List Open) (C : List CoreModule) (first now : List (Option Found)) where
  leaves_at : (xs rest more : List Leaf) (y : Leaf) → LeavesLeft os C first now xs rest → rest ≡ y ∷ more → LeavesLeft os C first now xs (y ∷ more)
  leaves_at xs rest more y k q = subst (LeavesLeft os C first now xs) q k

  pub leaf_front : (xs rest more : List Leaf) (y : Leaf) → LeavesLeft os C first now xs rest → rest ≡ y ∷ more → FoundFirst os (λ ms. leaf_found ms (leaf_of C y)) now
  leaf_front xs rest more y k q = next_front os (λ ms. missing_roots ms (listed C xs)) (λ ms. missing_roots_leaf ms (leaf_of C y)) (λ ms. missing_roots ms (listed C more)) (λ ms. all_found ms (listed C xs)) (λ ms. leaf_found ms (leaf_of C y)) (λ ms. all_found ms (listed C more)) first now (leaves_at xs rest more y k q)

  pub leaf_rooted : (mid : List (Option Found)) (xs rest more : List Leaf) (y : Leaf) → LeavesLeft os C first now xs rest → rest ≡ y ∷ more → RootsPassed os (λ ms. missing_roots_leaf ms (leaf_of C y)) (λ ms. leaf_found ms (leaf_of C y)) now mid
      → LeavesLeft os C first mid xs more
  leaf_rooted mid xs rest more y k q g = next_rooted os (λ ms. missing_roots ms (listed C xs)) (λ ms. missing_roots_leaf ms (leaf_of C y)) (λ ms. missing_roots ms (listed C more)) (λ ms. all_found ms (listed C xs)) (λ ms. leaf_found ms (leaf_of C y)) (λ ms. all_found ms (listed C more)) first now (leaves_at xs rest more y k q) mid g

  pub leaf_unrooted : (xs rest more : List Leaf) (y : Leaf) (x : Error) → LeavesLeft os C first now xs rest → rest ≡ y ∷ more → RefusedBy os (λ ms. missing_roots_leaf ms (leaf_of C y)) x → RefusedBy os (λ ms. missing_roots ms (listed C xs)) x
  leaf_unrooted xs rest more y x k q g = next_unrooted os (λ ms. missing_roots ms (listed C xs)) (λ ms. missing_roots_leaf ms (leaf_of C y)) (λ ms. missing_roots ms (listed C more)) (λ ms. all_found ms (listed C xs)) (λ ms. leaf_found ms (leaf_of C y)) (λ ms. all_found ms (listed C more)) first now (leaves_at xs rest more y k q) x g

  pub leaves_rooted : (xs rest : List Leaf) → LeavesLeft os C first now xs rest → rest ≡ [] → RootsPassed os (λ ms. missing_roots ms (listed C xs)) (λ ms. all_found ms (listed C xs)) first now
  leaves_rooted xs rest k q = let l : LeavesLeft os C first now xs [] = subst (LeavesLeft os C first now xs) q k in l.done now (record { rooted = λ ms w. refl; taken = λ ms w. refl })

  nodes_at : (xs rest more : List Node) (y : Node) → NodesLeft os C first now xs rest → rest ≡ y ∷ more → NodesLeft os C first now xs (y ∷ more)
  nodes_at xs rest more y k q = subst (NodesLeft os C first now xs) q k

  pub node_front : (xs rest more : List Node) (y : Node) → NodesLeft os C first now xs rest → rest ≡ y ∷ more → FoundFirst os (λ ms. all_found ms (listed C y.leaves.now)) now
  node_front xs rest more y k q = next_front os (λ ms. missing_roots_nodes ms (nodes_listed C xs)) (λ ms. missing_roots ms (listed C y.leaves.now)) (λ ms. missing_roots_nodes ms (nodes_listed C more)) (λ ms. nodes_found ms (nodes_listed C xs)) (λ ms. all_found ms (listed C y.leaves.now)) (λ ms. nodes_found ms (nodes_listed C more)) first now (nodes_at xs rest more y k q)

  pub node_rooted : (mid : List (Option Found)) (xs rest more : List Node) (y : Node) → NodesLeft os C first now xs rest → rest ≡ y ∷ more → RootsPassed os (λ ms. missing_roots ms (listed C y.leaves.now)) (λ ms. all_found ms (listed C y.leaves.now)) now mid
      → NodesLeft os C first mid xs more
  node_rooted mid xs rest more y k q g = next_rooted os (λ ms. missing_roots_nodes ms (nodes_listed C xs)) (λ ms. missing_roots ms (listed C y.leaves.now)) (λ ms. missing_roots_nodes ms (nodes_listed C more)) (λ ms. nodes_found ms (nodes_listed C xs)) (λ ms. all_found ms (listed C y.leaves.now)) (λ ms. nodes_found ms (nodes_listed C more)) first now (nodes_at xs rest more y k q) mid g

  pub node_unrooted : (xs rest more : List Node) (y : Node) (x : Error) → NodesLeft os C first now xs rest → rest ≡ y ∷ more → RefusedBy os (λ ms. missing_roots ms (listed C y.leaves.now)) x → RefusedBy os (λ ms. missing_roots_nodes ms (nodes_listed C xs)) x
  node_unrooted xs rest more y x k q g = next_unrooted os (λ ms. missing_roots_nodes ms (nodes_listed C xs)) (λ ms. missing_roots ms (listed C y.leaves.now)) (λ ms. missing_roots_nodes ms (nodes_listed C more)) (λ ms. nodes_found ms (nodes_listed C xs)) (λ ms. all_found ms (listed C y.leaves.now)) (λ ms. nodes_found ms (nodes_listed C more)) first now (nodes_at xs rest more y k q) x g

  pub nodes_rooted : (xs rest : List Node) → NodesLeft os C first now xs rest → rest ≡ [] → RootsPassed os (λ ms. missing_roots_nodes ms (nodes_listed C xs)) (λ ms. nodes_found ms (nodes_listed C xs)) first now
  nodes_rooted xs rest k q = let l : NodesLeft os C first now xs [] = subst (NodesLeft os C first now xs) q k in l.done now (record { rooted = λ ms w. refl; taken = λ ms w. refl })
