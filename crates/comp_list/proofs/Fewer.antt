-- A listing has fewer lines than its binary has bytes, since each reference takes a byte at least: by induction on the model, with a test of the
-- table that each leaf of a row is spelled, by computation.
use Rattle.std.proofs.Common.{◌≡◌, ℕ, zero, suc, ◌+◌, ◌/◌, ◌%◌, ◌≤◌, ◌<◌, List, [], ◌∷◌, ◌++◌, length, length-append, refl, sym, ap, subst, arith, Bool, true, false, ◌&&◌, Option, Some, None, if◌then◌else◌}
use Rattle.std.specs.Prelude.{nat_lt}
use Rattle.std.specs.List.{list_all}
use Rattle.comp_model.specs.declared.Space.{Space}
use Rattle.comp_model.specs.Core as c
use Rattle.comp_model.specs.Core.{CoreValue}
use Rattle.comp_model.specs.Leb.{leb_within, leb, plain, uleb, sleb}
use Rattle.comp_model.specs.Payloads.{joined, framed, sort_bytes}
use Rattle.comp_model.specs.declared.row.Row.{Row}
use Rattle.comp_model.specs.RowNumbers.{same_row}
use Rattle.comp_model.specs.Model as m
use Rattle.comp_model.specs.Model.{Leaf, Leaves, no_leaf, ◌▸◌, Node, row, Nodes, no_node, one_node, define, Defs, no_def, one_def, Scope, scope_of, Target, count_nodes, count_defs}
use Rattle.comp_wire.specs.Table as t
use Rattle.comp_wire.specs.Table.{Family, Field, Piece, byte, leaf, limits, outer, Line, lines}
use Rattle.comp_wire.specs.Sections.{Item, Group, group, body, section_of, rows_of, is_counted, shares, in_front, groups, sections, preamble}
use Rattle.comp_wire.specs.Spelled.{find, core_bytes, spelled_at, limits_bytes, outer_bytes, assemble, spell_line, spell_leaf, spell_leaves, spell_node, spell_nodes, spell_declarations, items_of, spell_component, declarations_of, fits_at, FitsOuter, FitsPieces, FitsLine, FitsLeaf, fits_leaves, FitsNode, FitsNodes, FitsDeclarations, FitsDefinitions, FitsSections}
use Rattle.comp_wire.specs.Read.{Reads}
use Rattle.comp_wire.proofs.Fit.{fits_sections}
use Rattle.comp_wire.proofs.Groups.{and_both}
use Rattle.comp_wire.proofs.Numbers.{some_bytes}
use Rattle.comp_wire.proofs.Rows.{leaf_at, place_at, index_at, kind_at}
use Rattle.comp_list.specs.declared.reference.Reference.{Reference}
use Rattle.comp_list.specs.References.{value_references, leaf_references, references, node_references, outer_count}
use Rattle.comp_list.specs.Listing.{lines_of, defs_lines, leaf_lines, leaves_lines, nodes_lines, listing}

-- ---- how many lines there are

abbrev mutual
  pub count_leaf : Leaf → ℕ
  count_leaf (m.ref s x) = length (leaf_references (m.ref s x))
  count_leaf (m.core_value v) = length (value_references v)
  count_leaf (m.present l) = count_leaf l
  count_leaf (m.node (row u ls)) = count_leaves ls
  count_leaf (m.nodes ns) = count_in_nodes ns
  count_leaf (m.scope s) = count_scope s
  count_leaf _ = 0

  pub count_leaves : Leaves → ℕ
  count_leaves no_leaf = 0
  count_leaves (l ▸ ls) = count_leaf l + count_leaves ls

  pub count_in_nodes : Nodes → ℕ
  count_in_nodes no_node = 0
  count_in_nodes (one_node (row u ls) ns) = count_leaves ls + count_in_nodes ns

  pub count_in_defs : Defs → ℕ
  count_in_defs no_def = 0
  count_in_defs (one_def (define names (row u ls)) ds) = count_leaves ls + count_in_defs ds

  pub count_scope : Scope → ℕ
  count_scope (scope_of k id label ds) = count_in_defs ds

pub lines_counted : (level : ℕ) (scopes : List Defs) (k : ℕ) (up : Option ℕ) (p : ℕ) (rs : List Reference) → length (lines_of level scopes k up p rs) ≡ length rs
lines_counted level scopes k up p [] = refl
lines_counted level scopes k up p (r ∷ rs) = ap suc (lines_counted level scopes k up (p + 1) rs)

mutual
  leaf_counted : (l : Leaf) (level : ℕ) (out : List Defs) → length (leaf_references l) + length (leaf_lines l level out) ≡ count_leaf l
  leaf_counted (m.ref s x) level out = omega arith
  leaf_counted (m.core_value v) level out = omega arith
  leaf_counted (m.present l) level out = leaf_counted l level out
  leaf_counted (m.node (row u ls)) level out = leaves_counted ls level out
  leaf_counted (m.nodes ns) level out = nodes_counted ns level out
  leaf_counted (m.scope (scope_of k id label ds)) level out = omega (arith, defs_counted ds level (ds ∷ out) 0)
  leaf_counted _ level out = omega arith

  pub leaves_counted : (ls : Leaves) (level : ℕ) (out : List Defs) → length (references ls) + length (leaves_lines ls level out) ≡ count_leaves ls
  leaves_counted no_leaf level out = refl
  leaves_counted (l ▸ ls) level out =
      omega (arith, length-append (leaf_references l) (references ls), length-append (leaf_lines l level out) (leaves_lines ls level out), leaf_counted l level out, leaves_counted ls level out)

  nodes_counted : (ns : Nodes) (level : ℕ) (out : List Defs) → length (node_references ns) + length (nodes_lines ns level out) ≡ count_in_nodes ns
  nodes_counted no_node level out = refl
  nodes_counted (one_node (row u ls) ns) level out =
      omega (arith, length-append (references ls) (node_references ns), length-append (leaves_lines ls level out) (nodes_lines ns level out), leaves_counted ls level out, nodes_counted ns level out)

  defs_counted : (ds : Defs) (level : ℕ) (scopes : List Defs) (n : ℕ) → length (defs_lines ds level scopes n) ≡ count_in_defs ds
  defs_counted no_def level scopes n = refl
  defs_counted (one_def (define names (row u ls)) ds) level scopes n =
      omega (
        arith,
        length-append (lines_of level scopes n (outer_count u ls) 0 (references ls)) (leaves_lines ls (level + 1) scopes ++ defs_lines ds level scopes (n + 1)),
        length-append (leaves_lines ls (level + 1) scopes) (defs_lines ds level scopes (n + 1)),
        lines_counted level scopes n (outer_count u ls) 0 (references ls),
        leaves_counted ls (level + 1) scopes,
        defs_counted ds level scopes (n + 1),
      )

scope_counted : (b : Scope) → length (listing b) ≡ count_scope b
scope_counted (scope_of k id label ds) = defs_counted ds 0 (ds ∷ []) 0

-- ---- each leaf of a row is spelled

abbrev pub places : List Piece → List ℕ
places [] = []
places (byte b ∷ ps) = places ps
places (leaf i f ∷ ps) = i ∷ places ps
places (limits i ∷ ps) = i ∷ suc i ∷ places ps
places (outer i ∷ ps) = i ∷ suc i ∷ suc (suc i) ∷ places ps

abbrev pub has_first : List ℕ → Bool
has_first [] = false
has_first (zero ∷ is) = true
has_first (suc i ∷ is) = has_first is

-- the places of the leaves behind the first
abbrev pub later : List ℕ → List ℕ
later [] = []
later (zero ∷ is) = later is
later (suc i ∷ is) = i ∷ later is

abbrev pub has_all : ℕ → List ℕ → Bool
has_all zero is = true
has_all (suc n) is = has_first is && has_all n (later is)

abbrev pub spells_all : Line → Bool
spells_all l = has_all l.leaves (places l.pieces)

pub lines_spell_all : (f : Family) → list_all spells_all (lines f) ≡ true
lines_spell_all t.types = refl
lines_spell_all _ = refl

abbrev count_some : Option Leaf → ℕ
count_some None = 0
count_some (Some l) = count_leaf l

-- the lines of the leaves at these places
abbrev count_at : List ℕ → Leaves → ℕ
count_at [] ls = 0
count_at (i ∷ is) ls = count_some (leaf_at i ls) + count_at is ls

without_first : (l : Leaf) (ls : Leaves) (is : List ℕ) → count_at (later is) ls ≤ count_at is (l ▸ ls)
without_first l ls [] = omega arith
without_first l ls (zero ∷ is) = omega (arith, without_first l ls is)
without_first l ls (suc i ∷ is) = omega (arith, without_first l ls is)

with_first : (l : Leaf) (ls : Leaves) (is : List ℕ) → has_first is ≡ true → count_leaf l + count_at (later is) ls ≤ count_at is (l ▸ ls)
with_first l ls [] e = cc
with_first l ls (zero ∷ is) e = omega (arith, without_first l ls is)
with_first l ls (suc i ∷ is) e = omega (arith, with_first l ls is e)

all_counted : (ls : Leaves) (is : List ℕ) → has_all (length (fits_leaves ls)) is ≡ true → count_leaves ls ≤ count_at is ls
all_counted no_leaf is e = omega arith
all_counted (l ▸ ls) is e = let tests = and_both (has_first is) _ e in omega (arith, with_first l ls is tests.0, all_counted ls (later is) tests.1)

-- ---- each kind of leaf

abbrev LeafBound : Leaf → Type 0
LeafBound l = (f : Field) → FitsLeaf l f → count_leaf l ≤ length (spell_leaf l f)

abbrev LeavesBound : Leaves → Type 0
LeavesBound no_leaf = Unit {0}
LeavesBound (l ▸ ls) = LeafBound l × LeavesBound ls

abbrev NodeBound : Node → Type 0
NodeBound (row u ls) = (f : Family) → FitsNode (row u ls) f → count_leaves ls ≤ length (spell_node (row u ls) f)

abbrev NodesBound : Nodes → Type 0
NodesBound ns = (f : Family) → FitsNodes ns f → count_in_nodes ns ≤ length (spell_nodes ns f)

abbrev DefsBound : Defs → Type 0
DefsBound no_def = Unit {0}
DefsBound (one_def (define names n) ds) = NodeBound n × DefsBound ds

abbrev ScopeBound : Scope → Type 0
ScopeBound (scope_of k id label ds) = DefsBound ds

some_within : (digit : ℕ → ℕ) (limit turns n : ℕ) → 1 ≤ length (leb_within digit limit turns n)
some_within digit limit zero n = omega arith
some_within digit limit (suc turns) n = go (nat_lt n limit)
  where
    go : (b : Bool) → 1 ≤ length (if b then digit n ∷ [] else (128 + digit (n % 128)) ∷ leb_within digit limit turns (n / 128))
    go true = omega arith
    go false = omega arith

some_signed : (n : ℕ) → 1 ≤ length (sleb n)
unfolding leb
some_signed n = some_within plain 64 n n

reference_bound : (s : Space) (x : Target) → LeafBound (m.ref s x)
reference_bound s (m.index i) (t.index_in u) h = some_bytes i
reference_bound s (m.index i) t.sorted_index h = omega (arith, length-append (sort_bytes s) (uleb i), some_bytes i)
reference_bound s (m.index i) t.core_sorted_index h = omega arith
reference_bound s (m.index i) t.value h = some_signed i
reference_bound s (m.index i) f h = absurd h
reference_bound s x (t.index_in u) h = absurd h
reference_bound s x t.sorted_index h = absurd h
reference_bound s x t.core_sorted_index h = absurd h
reference_bound s x t.value h = absurd h
reference_bound s x f h = absurd h

core_bound : (v : CoreValue) → length (value_references v) ≤ length (core_bytes v)
core_bound (c.ref_index true i) = omega arith
core_bound (c.ref_index false i) = omega arith
core_bound v = omega arith

value_bound : (v : CoreValue) → LeafBound (m.core_value v)
value_bound v t.core_type h = core_bound v
value_bound v f h = absurd h

present_bound : (l : Leaf) → LeafBound l → LeafBound (m.present l)
present_bound l law (t.optional f) h = omega (arith, law f h)
present_bound l law (t.result f) h = omega (arith, law f h)
present_bound l law t.maximum h = law t.unsigned h
present_bound l law f h = absurd h

node_bound : (n : Node) → NodeBound n → LeafBound (m.node n)
node_bound (row u ls) law (t.one f) h = law f h
node_bound (row u ls) law f h = absurd h

nodes_bound : (ns : Nodes) → NodesBound ns → LeafBound (m.nodes ns)
nodes_bound ns law (t.each f) h = omega (arith, length-append (uleb (count_nodes ns)) (spell_nodes ns f), law f h.1)
nodes_bound ns law f h = absurd h

no_bound : (l : Leaf) → count_leaf l ≡ 0 → LeafBound l
no_bound l e f h = omega (arith, e)

-- ---- a row

at_bound : (ls : Leaves) → LeavesBound ls → (i : ℕ) (f : Field) → fits_at i f (fits_leaves ls) → count_some (leaf_at i ls) ≤ length (spelled_at i f (spell_leaves ls))
at_bound no_leaf laws i f h = absurd h
at_bound (l ▸ ls) laws zero f h = laws.0 f h
at_bound (l ▸ ls) laws (suc i) f h = at_bound ls laws.1 i f h

module _ (ls : Leaves) (laws : LeavesBound ls) where
  limits_bound : (i : ℕ) → fits_at i t.unsigned (fits_leaves ls) → fits_at (suc i) t.maximum (fits_leaves ls) → count_some (leaf_at i ls) + count_some (leaf_at (suc i) ls) ≤ length (limits_bytes i (spell_leaves ls))
  limits_bound i least most =
      let number = spelled_at i t.unsigned (spell_leaves ls) in
      let maximum = spelled_at (suc i) t.maximum (spell_leaves ls) in
      omega (
        arith,
        length-append (spelled_at (suc i) t.presence (spell_leaves ls)) (number ++ maximum),
        length-append number maximum,
        at_bound ls laws i t.unsigned least,
        at_bound ls laws (suc i) t.maximum most,
      )

  outer_bound : (i : ℕ) → FitsOuter i (fits_leaves ls) → count_some (leaf_at i ls) + (count_some (leaf_at (suc i) ls) + count_some (leaf_at (suc (suc i)) ls)) ≤ length (outer_bytes i (spell_leaves ls))
  outer_bound i (s, outward, index, kind) =
      let up = place_at ls i outward in
      let item = index_at ls (suc i) s index in
      let space = kind_at ls (suc (suc i)) s kind in
      let sort = spelled_at (suc (suc i)) t.sort (spell_leaves ls) in
      let count = spelled_at i t.outward (spell_leaves ls) in
      let number = spelled_at (suc i) t.any_index (spell_leaves ls) in
      omega (
        arith,
        length-append sort (0x02 ∷ (count ++ number)),
        length-append count number,
        ap count_some up.1,
        ap count_some item.1,
        ap count_some space.0,
        ap length item.2,
        some_bytes item.0,
      )

  pieces_bound : (ps : List Piece) → FitsPieces ps (fits_leaves ls) → count_at (places ps) ls ≤ length (assemble ps (spell_leaves ls))
  pieces_bound [] h = omega arith
  pieces_bound (byte b ∷ ps) h = omega (arith, pieces_bound ps h)
  pieces_bound (leaf i f ∷ ps) h =
      omega (arith, length-append (spelled_at i f (spell_leaves ls)) (assemble ps (spell_leaves ls)), at_bound ls laws i f h.0, pieces_bound ps h.1)
  pieces_bound (limits i ∷ ps) h =
      omega (arith, length-append (limits_bytes i (spell_leaves ls)) (assemble ps (spell_leaves ls)), limits_bound i h.0 h.1, pieces_bound ps h.2)
  pieces_bound (outer i ∷ ps) h =
      omega (arith, length-append (outer_bytes i (spell_leaves ls)) (assemble ps (spell_leaves ls)), outer_bound i h.0, pieces_bound ps h.1)

  line_bound : (u : Row) (ks : List Line) → list_all spells_all ks ≡ true → FitsLine (find u ks) (fits_leaves ls) → count_leaves ls ≤ length (spell_line (find u ks) (spell_leaves ls))
  line_bound u [] e h = absurd h
  line_bound u (k ∷ ks) e h = let tests = and_both (spells_all k) _ e in go (same_row u k.tag) (line_bound u ks tests.1) h
    where
      go : (b : Bool) → (FitsLine (find u ks) (fits_leaves ls) → count_leaves ls ≤ length (spell_line (find u ks) (spell_leaves ls)))
          → FitsLine (if b then Some k else find u ks) (fits_leaves ls) → count_leaves ls ≤ length (spell_line (if b then Some k else find u ks) (spell_leaves ls))
      go true others h =
          let tests = and_both (spells_all k) _ e in
          let spelled = subst (λ n. has_all n (places k.pieces) ≡ true) (sym h.0) tests.0 in
          omega (arith, all_counted ls (places k.pieces) spelled, pieces_bound k.pieces h.1)
      go false others h = others h

row_bound : (u : Row) (ls : Leaves) → LeavesBound ls → NodeBound (row u ls)
row_bound u ls laws f h = line_bound ls laws u (lines f) (lines_spell_all f) h

no_nodes_bound : NodesBound no_node
no_nodes_bound f h = omega arith

more_nodes_bound : (n : Node) (ns : Nodes) → NodeBound n → NodesBound ns → NodesBound (one_node n ns)
more_nodes_bound (row u ls) ns first others f h = omega (arith, length-append (spell_node (row u ls) f) (spell_nodes ns f), first f h.0, others f h.1)

-- ---- a scope

declarations_bound : (f : Family) (ds : Defs) → DefsBound ds → FitsDeclarations ds f → count_in_defs ds ≤ length (spell_declarations ds f)
declarations_bound f no_def laws h = omega arith
declarations_bound f (one_def (define names (row u ls)) ds) laws h =
    omega (arith, length-append (spell_node (row u ls) f) (spell_declarations ds f), laws.0 f h.0.1, declarations_bound f ds laws.1 h.1)

-- the bytes of items, and of those in groups
abbrev pub items_length : List Item → ℕ
items_length [] = 0
items_length (i ∷ is) = length i.content + items_length is

abbrev pub groups_length : List Group → ℕ
groups_length [] = 0
groups_length (g ∷ gs) = length (joined g.items) + groups_length gs

front_length : (i : Item) (gs : List Group) → length i.content + groups_length gs ≤ groups_length (in_front i gs)
front_length i [] = omega (arith, length-append i.content [])
front_length i (g ∷ gs) = go (shares i.section g.section)
  where
    go : (b : Bool) → length i.content + groups_length (g ∷ gs) ≤ groups_length (if b then group g.section (i.content ∷ g.items) ∷ gs else group i.section (i.content ∷ []) ∷ g ∷ gs)
    go true = omega (arith, length-append i.content (joined g.items))
    go false = omega (arith, length-append i.content [])

pub grouped_length : (is : List Item) → items_length is ≤ groups_length (groups is)
grouped_length [] = omega arith
grouped_length (i ∷ is) = omega (arith, front_length i (groups is), grouped_length is)

pub body_length : (b : Bool) (xs : List (List ℕ)) → length (joined xs) ≤ length (if b then uleb (length xs) ++ joined xs else joined xs)
body_length true xs = omega (arith, length-append (uleb (length xs)) (joined xs))
body_length false xs = omega arith

pub sections_length : (gs : List Group) → groups_length gs ≤ length (sections gs)
sections_length [] = omega arith
sections_length (g ∷ gs) =
    omega (
      arith,
      body_length (is_counted g.section) g.items,
      length-append (uleb (length (body g))) (body g),
      length-append (framed (body g)) (sections gs),
      sections_length gs,
    )

definitions_bound : (ds : Defs) → DefsBound ds → FitsDefinitions ds → count_in_defs ds ≤ items_length (items_of ds)
definitions_bound no_def laws h = omega arith
definitions_bound (one_def (define names (row u ls)) ds) laws h = omega (arith, laws.0 (rows_of (section_of u)) h.0.1, definitions_bound ds laws.1 h.1)

-- the preamble holds no reference
component_bound : (ds : Defs) → DefsBound ds → FitsDefinitions ds → count_in_defs ds + 8 ≤ length (preamble ++ sections (groups (items_of ds)))
component_bound ds laws h = omega (arith, definitions_bound ds laws h, grouped_length (items_of ds), sections_length (groups (items_of ds)))

scope_bound : (s : Scope) → ScopeBound s → LeafBound (m.scope s)
scope_bound (scope_of k id label ds) laws (t.type_scope kind) h =
    omega (arith, length-append (uleb (count_defs ds)) (spell_declarations ds (declarations_of kind)), declarations_bound (declarations_of kind) ds laws h.4)
scope_bound (scope_of k id label ds) laws t.whole_component h = omega (arith, component_bound ds laws h.3)
scope_bound (scope_of k id label ds) laws f h = absurd h

-- ---- the induction

mutual
  leaf_bounded : (l : Leaf) → LeafBound l
  leaf_bounded (m.ref s x) = reference_bound s x
  leaf_bounded (m.core_value v) = value_bound v
  leaf_bounded (m.present l) = present_bound l (leaf_bounded l)
  leaf_bounded (m.node n) = node_bound n (node_bounded n)
  leaf_bounded (m.nodes ns) = nodes_bound ns (nodes_bounded ns)
  leaf_bounded (m.scope s) = scope_bound s (scope_bounded s)
  leaf_bounded l = no_bound l refl

  leaves_bounded : (ls : Leaves) → LeavesBound ls
  leaves_bounded no_leaf = tt
  leaves_bounded (l ▸ ls) = (leaf_bounded l, leaves_bounded ls)

  pub node_bounded : (n : Node) → NodeBound n
  node_bounded (row u ls) = row_bound u ls (leaves_bounded ls)

  nodes_bounded : (ns : Nodes) → NodesBound ns
  nodes_bounded no_node = no_nodes_bound
  nodes_bounded (one_node n ns) = more_nodes_bound n ns (node_bounded n) (nodes_bounded ns)

  defs_bounded : (ds : Defs) → DefsBound ds
  defs_bounded no_def = tt
  defs_bounded (one_def (define names n) ds) = (node_bounded n, defs_bounded ds)

  scope_bounded : (s : Scope) → ScopeBound s
  scope_bounded (scope_of k id label ds) = defs_bounded ds

component_counted : (b : Scope) → FitsSections b → count_scope b + 8 ≤ length (spell_component b)
component_counted (scope_of k id label ds) h = component_bound ds (defs_bounded ds) h.3

pub fewer_lines : (bytes : List ℕ) (b : Scope) → Reads bytes b → length (listing b) < length bytes
fewer_lines bytes b h = omega (arith, scope_counted b, component_counted b (fits_sections b h.fits), ap length h.spelled)
