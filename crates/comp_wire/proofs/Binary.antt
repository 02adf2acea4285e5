-- What is read is binary, by induction on the model: a leaf that a field spells has no name of the text.
use Rattle.std.proofs.Common.{◌≡◌, ◌≢◌, ℕ, zero, suc, ◌<◌, List, [], ◌∷◌, length, refl, sym, subst, arith, Bool, true, false, ◌&&◌, ◌||◌, inl, inr, Option, Some, if◌then◌else◌}
use Rattle.std.specs.Prelude.{◌==◌}
use Rattle.std.specs.List.{list_all}
use Rattle.std.proofs.lemmas.Bool.{eqb-true, cases_lt}
use Rattle.comp_model.specs.declared.Space.{Space}
use Rattle.comp_model.specs.declared.Space.TheVariants.{CoreFunc}
use Rattle.comp_model.specs.Core as c
use Rattle.comp_model.specs.Core.{Id, CoreValue, Place}
use Rattle.comp_model.specs.declared.row.Row.TheVariants as rows
use Rattle.comp_model.specs.declared.row.Row.{Row}
use Rattle.comp_model.specs.RowNumbers.{same_row}
use Rattle.comp_model.specs.Model as m
use Rattle.comp_model.specs.declared.row.ScopeKind.TheVariants as kinds
use Rattle.comp_model.specs.Model.{Leaf, Leaves, no_leaf, ◌▸◌, Node, row, Nodes, no_node, one_node, define, Defs, no_def, one_def, Scope, scope_of, Target}
use Rattle.comp_model.specs.declared.row.ScopeKind.{ScopeKind}
use Rattle.comp_model.specs.Spaces.{all_spaces}
use Rattle.comp_model.specs.Rows.{is_space}
use Rattle.comp_model.specs.Binary.{IsBinaryPlace, IsBinaryValue, IsBinaryLeaf, AreBinaryLeaves, IsBinaryNode, AreBinaryNodes, AreBinaryDefs, IsBinary}
use Rattle.comp_model.proofs.Tests.{same_row-true, same_space-true}
use Rattle.comp_wire.specs.Table as t
use Rattle.comp_wire.specs.Table.{Family, Field, Piece, byte, leaf, limits, outer, Line, lines}
use Rattle.comp_wire.specs.Sections.{section_of, rows_of}
use Rattle.comp_wire.specs.Spelled.{find, declarations_of, FitsCore, FitsPlace, fits_at, FitsPieces, FitsLine, FitsLeaf, fits_leaves, FitsNode, FitsNodes, FitsItem, FitsDeclarations, FitsDefinitions, FitsTypeScope, FitsSections}
use Rattle.comp_wire.proofs.Groups.{and_both}
use Rattle.comp_wire.proofs.FitsTest.{either}

-- Whether the pieces of a line spell a place by a field that passes a test; so too of each place below a number.
abbrev pub spelled_as : (ℕ → Field → Bool) → ℕ → List Piece → Bool
spelled_as p i [] = false
spelled_as p i (byte b ∷ ps) = spelled_as p i ps
spelled_as p i (leaf j f ∷ ps) = ((i == j) && p i f) || spelled_as p i ps
spelled_as p i (limits j ∷ ps) = ((i == j) && p i t.unsigned) || (((i == suc j) && p i t.maximum) || spelled_as p i ps)
spelled_as p i (outer j ∷ ps) =
    ((i == j) && p i t.outward)
    || (((i == suc j) && list_all (λ s. p i (t.index_in s)) all_spaces)
    || (((i == suc (suc j)) && list_all (λ s. p i (t.kind_is s)) all_spaces) || spelled_as p i ps))

abbrev pub each_spelled : (ℕ → Field → Bool) → ℕ → List Piece → Bool
each_spelled p zero ps = true
each_spelled p (suc n) ps = spelled_as p n ps && each_spelled p n ps

pub space_passes : (p : Space → Bool) (ss : List Space) → list_all p ss ≡ true → (s : Space) → is_space s ss ≡ true → p s ≡ true
space_passes p [] e s h = cc
space_passes p (u ∷ us) e s h =
    let tests = and_both (p u) _ e in
    elim (either _ _ h) [ inl g ↦ subst (λ x. p x ≡ true) (sym (same_space-true s u g)) tests.0 | inr g ↦ space_passes p us tests.1 s g ]

pub is_any_space : (s : Space) → is_space s all_spaces ≡ true
is_any_space CoreFunc = refl
is_any_space _ = refl

-- the field of a place, which the leaf there fits
pub record Found (p : ℕ → Field → Bool) (i : ℕ) (gs : List (Field → Type 0)) : Type 0 where
  pub field : Field
  pub passes : p i field ≡ true
  pub fits : fits_at i field gs

module _ (p : ℕ → Field → Bool) (i : ℕ) (gs : List (Field → Type 0)) where
  found_at : (j : ℕ) (f : Field) → ((i == j) && p i f) ≡ true → fits_at j f gs → Found p i gs
  found_at j f e h = let tests = and_both (i == j) _ e in record { field = f; passes = tests.1; fits = subst (λ n. fits_at n f gs) (sym (eqb-true i j tests.0)) h }

  found_of : (j : ℕ) (f : Space → Field) (s : Space) → ((i == j) && list_all (λ u. p i (f u)) all_spaces) ≡ true → fits_at j (f s) gs → Found p i gs
  found_of j f s e h =
      let tests = and_both (i == j) _ e in
      record {
        field = f s;
        passes = space_passes (λ u. p i (f u)) all_spaces tests.1 s (is_any_space s);
        fits = subst (λ n. fits_at n (f s) gs) (sym (eqb-true i j tests.0)) h;
      }

  found : (ps : List Piece) → spelled_as p i ps ≡ true → FitsPieces ps gs → Found p i gs
  found [] e h = cc
  found (byte b ∷ ps) e h = found ps e h
  found (leaf j f ∷ ps) e h = elim (either _ _ e) [ inl a ↦ found_at j f a h.0 | inr a ↦ found ps a h.1 ]
  found (limits j ∷ ps) e h =
      elim (either _ _ e) [
        | inl a ↦ found_at j t.unsigned a h.0
        | inr a ↦ elim (either _ _ a) [ inl b ↦ found_at (suc j) t.maximum b h.1 | inr b ↦ found ps b h.2 ]
      ]
  found (outer j ∷ ps) e ((s, x, y, z), h) =
      elim (either _ _ e) [
        | inl a ↦ found_at j t.outward a x
        | inr a ↦ elim (either _ _ a) [
          | inl b ↦ found_of (suc j) t.index_in s b y
          | inr b ↦ elim (either _ _ b) [ inl d ↦ found_of (suc (suc j)) t.kind_is s d z | inr d ↦ found ps d h ]
        ]
      ]

pub each_found : (p : ℕ → Field → Bool) (n : ℕ) (ps : List Piece) (gs : List (Field → Type 0))
    → each_spelled p n ps ≡ true → FitsPieces ps gs → (i : ℕ) → i < n → Found p i gs
each_found p zero ps gs e h i k = absurd (omega arith)
each_found p (suc n) ps gs e h i k =
    let tests = and_both (spelled_as p n ps) _ e in
    elim (cases_lt i n) [
      | inl l ↦ each_found p n ps gs tests.1 h i l
      | inr l ↦ let same : i ≡ n = omega arith in subst (λ j. Found p j gs) (sym same) (found p n gs ps tests.0 h)
    ]

-- What passes a test of all lines holds of the line of a row.
pub record LineOf (p : Line → Bool) (u : Row) (gs : List (Field → Type 0)) : Type 0 where
  pub line : Line
  pub of_row : line.tag ≡ u
  pub passes : p line ≡ true
  pub leaves : length gs ≡ line.leaves
  pub pieces : FitsPieces line.pieces gs

pub line_of : (p : Line → Bool) (ls : List Line) (u : Row) (gs : List (Field → Type 0)) → list_all p ls ≡ true → FitsLine (find u ls) gs → LineOf p u gs
line_of p [] u gs e h = absurd h
line_of p (l ∷ ls) u gs e h = let tests = and_both (p l) _ e in go (same_row u l.tag) refl (λ k. line_of p ls u gs tests.1 k) h
  where
    go : (b : Bool) → same_row u l.tag ≡ b → (FitsLine (find u ls) gs → LineOf p u gs) → FitsLine (if b then Some l else find u ls) gs → LineOf p u gs
    go true k later h = record { line = l; of_row = sym (same_row-true u l.tag k); passes = (and_both (p l) _ e).0; leaves = h.0; pieces = h.1 }
    go false k later h = later h

-- each leaf of a row is spelled: by computation
abbrev some_field : ℕ → Field → Bool
some_field i f = true

abbrev all_leaves_spelled : Line → Bool
all_leaves_spelled l = each_spelled some_field l.leaves l.pieces

leaves_are_spelled : (f : Family) → list_all all_leaves_spelled (lines f) ≡ true
leaves_are_spelled t.types = refl
leaves_are_spelled _ = refl

-- Each kind of leaf.
abbrev LeafBinary : Leaf → Type 0
LeafBinary x = (f : Field) → FitsLeaf x f → IsBinaryLeaf x

core_binary : (v : CoreValue) → FitsCore v → IsBinaryValue v
core_binary (c.ref_numeral b o n) h = h
core_binary (c.ref_name b r x) h = h
core_binary v h = tt

core_leaf : (v : CoreValue) → LeafBinary (m.core_value v)
core_leaf v t.core_type h = core_binary v h
core_leaf v f h = absurd h

place_binary : (p : Place) → FitsPlace p → IsBinaryPlace p
place_binary (c.counted o n) h = h.0
place_binary (c.named o x) h = h

place_leaf : (p : Place) → LeafBinary (m.place p)
place_leaf p t.outward h = place_binary p h
place_leaf p f h = absurd h

reference_leaf : (s : Space) (x : Target) → LeafBinary (m.ref s x)
reference_leaf s (m.index i) f h = tt
reference_leaf s x (t.index_in u) h = absurd h
reference_leaf s x t.sorted_index h = absurd h
reference_leaf s x t.core_sorted_index h = absurd h
reference_leaf s x t.value h = absurd h
reference_leaf s x f h = absurd h

present_leaf : (x : Leaf) → LeafBinary x → LeafBinary (m.present x)
present_leaf x d (t.optional f) h = d f h
present_leaf x d (t.result f) h = d f h
present_leaf x d t.maximum h = d t.unsigned h
present_leaf x d f h = absurd h

case_leaf : (i : Option Id) → LeafBinary (m.case_id i)
case_leaf i t.unspelled h = h
case_leaf i f h = absurd h

abbrev NodeBinary : Node → Type 0
NodeBinary n = (f : Family) → FitsNode n f → IsBinaryNode n

abbrev NodesBinary : Nodes → Type 0
NodesBinary ns = (f : Family) → FitsNodes ns f → AreBinaryNodes ns

node_leaf : (n : Node) → NodeBinary n → LeafBinary (m.node n)
node_leaf n d (t.one f) h = d f h
node_leaf n d f h = absurd h

nodes_leaf : (ns : Nodes) → NodesBinary ns → LeafBinary (m.nodes ns)
nodes_leaf ns d (t.each f) h = d f h.1
nodes_leaf ns d f h = absurd h

-- The leaves of a row.
abbrev LeavesBinary : Leaves → Type 0
LeavesBinary no_leaf = Unit {0}
LeavesBinary (x ▸ xs) = LeafBinary x × LeavesBinary xs

leaves_binary : (xs : Leaves) → LeavesBinary xs → ((i : ℕ) → i < length (fits_leaves xs) → Found some_field i (fits_leaves xs)) → AreBinaryLeaves xs
leaves_binary no_leaf d h = tt
leaves_binary (x ▸ xs) d h = (let here = h 0 (omega arith) in d.0 here.field here.fits, leaves_binary xs d.1 (λ i k. behind i (h (suc i) (omega arith))))
  where
    behind : (i : ℕ) → Found some_field (suc i) (FitsLeaf x ∷ fits_leaves xs) → Found some_field i (fits_leaves xs)
    behind i r = record { field = r.field; passes = refl; fits = r.fits }

row_binary : (u : Row) (xs : Leaves) → LeavesBinary xs → NodeBinary (row u xs)
row_binary u xs d f h =
    let l = line_of all_leaves_spelled (lines f) u (fits_leaves xs) (leaves_are_spelled f) h in
    leaves_binary xs d (λ i k. each_found some_field l.line.leaves l.line.pieces (fits_leaves xs) l.passes l.pieces i (omega (arith, l.leaves)))

-- No line has the row `producers`.
no_producers : (k : ScopeKind) (u : Row) (xs : Leaves) → FitsNode (row u xs) (declarations_of k) → u ≢ rows.Producers
no_producers k u xs h e = go k (subst (λ x. FitsNode (row x xs) (declarations_of k)) e h)
  where
    go : (k : ScopeKind) → FitsNode (row rows.Producers xs) (declarations_of k) → ⊥
    go kinds.Component h = h
    go kinds.ComponentType h = h
    go kinds.InstanceType h = h
    go kinds.ModuleType h = h

no_producers_section : (u : Row) (xs : Leaves) → FitsItem (row u xs) → u ≢ rows.Producers
no_producers_section u xs h e = subst (λ x. FitsItem (row x xs)) e h

-- The definitions of a scope, in a type and in a component.
abbrev DefsBinary : Defs → Type 0
DefsBinary no_def = Unit {0}
DefsBinary (one_def (define names (row u xs)) ds) = LeavesBinary xs × DefsBinary ds

declarations_binary : (k : ScopeKind) (ds : Defs) → DefsBinary ds → FitsDeclarations ds (declarations_of k) → AreBinaryDefs ds
declarations_binary k no_def d h = tt
declarations_binary k (one_def (define names (row u xs)) ds) d h =
    (h.0.0, no_producers k u xs h.0.1, row_binary u xs d.0 (declarations_of k) h.0.1, declarations_binary k ds d.1 h.1)

definitions_binary : (ds : Defs) → DefsBinary ds → FitsDefinitions ds → AreBinaryDefs ds
definitions_binary no_def d h = tt
definitions_binary (one_def (define names (row u xs)) ds) d h =
    (h.0.0, no_producers_section u xs h.0.1, row_binary u xs d.0 (rows_of (section_of u)) h.0.1, definitions_binary ds d.1 h.1)

abbrev ScopeBinary : Scope → Type 0
ScopeBinary (scope_of k id label ds) = DefsBinary ds

component_binary : (s : Scope) → ScopeBinary s → FitsSections s → IsBinary s
component_binary (scope_of k id label ds) d h = (h.1, h.2, definitions_binary ds d h.3)

type_scope_binary : (s : Scope) → ScopeBinary s → (k : ScopeKind) → FitsTypeScope s k → IsBinary s
type_scope_binary (scope_of l id label ds) d k h = (h.1, h.2, declarations_binary k ds d h.4)

scope_leaf : (s : Scope) → ScopeBinary s → LeafBinary (m.scope s)
scope_leaf s d (t.type_scope k) h = type_scope_binary s d k h
scope_leaf s d t.whole_component h = component_binary s d h
scope_leaf s d f h = absurd h

-- the induction: one line for each kind of leaf
mutual
  leaf_all : (x : Leaf) → LeafBinary x
  leaf_all (m.text x) = λ f h. tt
  leaf_all (m.number n) = λ f h. tt
  leaf_all (m.kind s) = λ f h. tt
  leaf_all (m.core_value v) = core_leaf v
  leaf_all (m.ref s x) = reference_leaf s x
  leaf_all (m.place p) = place_leaf p
  leaf_all m.absent = λ f h. tt
  leaf_all (m.present x) = present_leaf x (leaf_all x)
  leaf_all (m.node n) = node_leaf n (node_all n)
  leaf_all (m.nodes ns) = nodes_leaf ns (nodes_all ns)
  leaf_all (m.case_id i) = case_leaf i
  leaf_all (m.result_ids is) = λ f h. h
  leaf_all (m.result_count n) = λ f h. tt
  leaf_all (m.core_source x) = λ f h. h
  leaf_all (m.module_bytes bs) = λ f h. tt
  leaf_all (m.scope s) = scope_leaf s (scope_all s)

  leaves_all : (xs : Leaves) → LeavesBinary xs
  leaves_all no_leaf = tt
  leaves_all (x ▸ xs) = (leaf_all x, leaves_all xs)

  node_all : (n : Node) → NodeBinary n
  node_all (row u xs) = row_binary u xs (leaves_all xs)

  nodes_all : (ns : Nodes) → NodesBinary ns
  nodes_all no_node = λ f h. tt
  nodes_all (one_node n ns) = λ f h. (node_all n f h.0, nodes_all ns f h.1)

  defs_all : (ds : Defs) → DefsBinary ds
  defs_all no_def = tt
  defs_all (one_def (define names (row u xs)) ds) = (leaves_all xs, defs_all ds)

  scope_all : (s : Scope) → ScopeBinary s
  scope_all (scope_of k id label ds) = defs_all ds

pub sections_binary : (s : Scope) → FitsSections s → IsBinary s
sections_binary s h = component_binary s (scope_all s) h
