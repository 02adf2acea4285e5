-- The numbers of the lines of a component have room in 32 bits where fewer than 2^32 bytes are read as it: each definition, each reference and each
-- scope around takes a byte at least. By induction on the model, along the pieces of each row's line.
use Rattle.std.proofs.Common.{◌≡◌, ℕ, zero, suc, ◌+◌, ◌≤◌, ◌<◌, ◌^◌, List, [], ◌∷◌, ◌++◌, length, length-append, refl, sym, ap, subst, arith, Bool, true, false, ◌&&◌, Option, Some, None, if◌then◌else◌}
use Rattle.std.specs.List.{list_all}
use Rattle.comp_model.specs.Leb.{uleb}
use Rattle.comp_model.specs.declared.row.Row.{Row}
use Rattle.comp_model.specs.RowNumbers.{same_row}
use Rattle.comp_model.specs.Model as m
use Rattle.comp_model.specs.Model.{Leaf, Leaves, no_leaf, ◌▸◌, Node, row, Nodes, no_node, one_node, define, Defs, no_def, one_def, Scope, scope_of, count_nodes, count_defs}
use Rattle.comp_wire.specs.Table as t
use Rattle.comp_wire.specs.Table.{Family, Field, Piece, byte, leaf, limits, outer, Line, lines}
use Rattle.comp_wire.specs.Sections.{Word, section_of, rows_of, groups, sections, preamble}
use Rattle.comp_wire.specs.Spelled.{find, spelled_at, limits_bytes, outer_bytes, assemble, spell_line, spell_leaf, spell_leaves, spell_node, spell_nodes, spell_declarations, items_of, spell_component, declarations_of, fits_at, FitsPieces, FitsLine, FitsLeaf, fits_leaves, FitsNode, FitsNodes, FitsDeclarations, FitsDefinitions}
use Rattle.comp_wire.specs.Read.{Reads}
use Rattle.comp_wire.proofs.Fit.{fits_sections}
use Rattle.comp_wire.proofs.Groups.{and_both}
use Rattle.comp_wire.proofs.Numbers.{some_bytes}
use Rattle.comp_wire.proofs.Rows.{leaf_at, place_at, index_at, kind_at}
use Rattle.comp_list.specs.References.{references}
use Rattle.comp_list.specs.Listing.{leaves_lines}
use Rattle.comp_list.specs.Room.{NumbersFit, ScopeFits, DefsFit, RowFits, LeafFits, LeavesFit, NodesFit, NumbersHaveRoom}
use Rattle.comp_list.proofs.Fewer.{count_leaves, leaves_counted, node_bounded, places, has_first, later, has_all, spells_all, lines_spell_all, items_length, grouped_length, sections_length}
use Rattle.comp_list.proofs.FewDeclared.{few_declared}
use Rattle.comp_list.proofs.SomeBytes.{not_true, definitions_few}

-- ---- what is to be shown of each part

abbrev LeafLaw : Leaf → Type 0
LeafLaw l = (f : Field) → FitsLeaf l f → (level : ℕ) → level + length (spell_leaf l f) < 2 ^ 32 → LeafFits l level

abbrev LeavesLaw : Leaves → Type 0
LeavesLaw no_leaf = Unit {0}
LeavesLaw (l ▸ ls) = LeafLaw l × LeavesLaw ls

abbrev NodeLaw : Node → Type 0
NodeLaw (row u ls) = (f : Family) → FitsNode (row u ls) f → (level : ℕ) → level + length (spell_node (row u ls) f) < 2 ^ 32 → LeavesFit ls level

abbrev NodesLaw : Nodes → Type 0
NodesLaw ns = (f : Family) → FitsNodes ns f → (level : ℕ) → level + length (spell_nodes ns f) < 2 ^ 32 → NodesFit ns level

abbrev DefsLaw : Defs → Type 0
DefsLaw no_def = Unit {0}
DefsLaw (one_def (define names n) ds) = NodeLaw n × DefsLaw ds

abbrev ScopeLaw : Scope → Type 0
ScopeLaw (scope_of k id label ds) = DefsLaw ds

-- ---- a row, by the places of its leaves

module _ (level : ℕ) where
  abbrev SomeFits : Option Leaf → Type 0
  SomeFits None = Unit {0}
  SomeFits (Some l) = LeafFits l level

  abbrev AllFit : List ℕ → Leaves → Type 0
  AllFit [] ls = Unit {0}
  AllFit (i ∷ is) ls = SomeFits (leaf_at i ls) × AllFit is ls

  without_first : (l : Leaf) (ls : Leaves) (is : List ℕ) → AllFit is (l ▸ ls) → AllFit (later is) ls
  without_first l ls [] h = tt
  without_first l ls (zero ∷ is) h = without_first l ls is h.1
  without_first l ls (suc i ∷ is) h = (h.0, without_first l ls is h.1)

  with_first : (l : Leaf) (ls : Leaves) (is : List ℕ) → has_first is ≡ true → AllFit is (l ▸ ls) → LeafFits l level
  with_first l ls [] e h = absurd (not_true e)
  with_first l ls (zero ∷ is) e h = h.0
  with_first l ls (suc i ∷ is) e h = with_first l ls is e h.1

  all_fit : (ls : Leaves) (is : List ℕ) → has_all (length (fits_leaves ls)) is ≡ true → AllFit is ls → LeavesFit ls level
  all_fit no_leaf is e h = tt
  all_fit (l ▸ ls) is e h = let tests = and_both (has_first is) _ e in (with_first l ls is tests.0 h, all_fit ls (later is) tests.1 (without_first l ls is h))

  at_fits : (ls : Leaves) → LeavesLaw ls → (i : ℕ) (f : Field) → fits_at i f (fits_leaves ls) → level + length (spelled_at i f (spell_leaves ls)) < 2 ^ 32 → SomeFits (leaf_at i ls)
  at_fits no_leaf laws i f h few = absurd h
  at_fits (l ▸ ls) laws zero f h few = laws.0 f h level few
  at_fits (l ▸ ls) laws (suc i) f h few = at_fits ls laws.1 i f h few

  module _ (ls : Leaves) (laws : LeavesLaw ls) where
    pieces_fit : (ps : List Piece) → FitsPieces ps (fits_leaves ls) → level + length (assemble ps (spell_leaves ls)) < 2 ^ 32 → AllFit (places ps) ls
    pieces_fit [] h few = tt
    pieces_fit (byte b ∷ ps) h few = pieces_fit ps h (omega (arith, few))
    pieces_fit (leaf i f ∷ ps) h few =
        let both = length-append (spelled_at i f (spell_leaves ls)) (assemble ps (spell_leaves ls)) in
        (at_fits ls laws i f h.0 (omega (arith, both, few)), pieces_fit ps h.1 (omega (arith, both, few)))
    pieces_fit (limits i ∷ ps) h few =
        let number = spelled_at i t.unsigned (spell_leaves ls) in
        let maximum = spelled_at (suc i) t.maximum (spell_leaves ls) in
        let both = length-append (limits_bytes i (spell_leaves ls)) (assemble ps (spell_leaves ls)) in
        let parts = length-append (spelled_at (suc i) t.presence (spell_leaves ls)) (number ++ maximum) in
        let halves = length-append number maximum in (
          at_fits ls laws i t.unsigned h.0 (omega (arith, both, parts, halves, few)),
          (at_fits ls laws (suc i) t.maximum h.1 (omega (arith, both, parts, halves, few)), pieces_fit ps h.2 (omega (arith, both, few))),
        )
    pieces_fit (outer i ∷ ps) ((s, outward, index, kind), rest) few =
        let both = length-append (outer_bytes i (spell_leaves ls)) (assemble ps (spell_leaves ls)) in (
          subst SomeFits (sym (place_at ls i outward).1) tt,
          (subst SomeFits (sym (index_at ls (suc i) s index).1) tt, (subst SomeFits (sym (kind_at ls (suc (suc i)) s kind).0) tt, pieces_fit ps rest (omega (arith, both, few)))),
        )

    line_fits : (u : Row) (ks : List Line) → list_all spells_all ks ≡ true → FitsLine (find u ks) (fits_leaves ls) → level + length (spell_line (find u ks) (spell_leaves ls)) < 2 ^ 32 → LeavesFit ls level
    line_fits u [] e h few = absurd h
    line_fits u (k ∷ ks) e h few = let tests = and_both (spells_all k) _ e in go (same_row u k.tag) (line_fits u ks tests.1) h few
      where
        go : (b : Bool) → (FitsLine (find u ks) (fits_leaves ls) → level + length (spell_line (find u ks) (spell_leaves ls)) < 2 ^ 32 → LeavesFit ls level)
            → FitsLine (if b then Some k else find u ks) (fits_leaves ls) → level + length (spell_line (if b then Some k else find u ks) (spell_leaves ls)) < 2 ^ 32 → LeavesFit ls level
        go true others h few =
            let tests = and_both (spells_all k) _ e in
            let spelled = subst (λ n. has_all n (places k.pieces) ≡ true) (sym h.0) tests.0 in
            all_fit ls (places k.pieces) spelled (pieces_fit k.pieces h.1 few)
        go false others h few = others h few

row_law : (u : Row) (ls : Leaves) → LeavesLaw ls → NodeLaw (row u ls)
row_law u ls laws f h level few = line_fits level ls laws u (lines f) (lines_spell_all f) h few

more_nodes_law : (n : Node) (ns : Nodes) → NodeLaw n → NodesLaw ns → NodesLaw (one_node n ns)
more_nodes_law (row u ls) ns first others f h level few =
    let both = length-append (spell_node (row u ls) f) (spell_nodes ns f) in
    (first f h.0 level (omega (arith, both, few)), others f h.1 level (omega (arith, both, few)))

-- ---- a scope

-- the numbers of a definition of so many bytes, with so many more behind it
numbers_fit : (u : Row) (ls : Leaves) (f : Family) (level n more : ℕ) → FitsNode (row u ls) f → n + suc more < 2 ^ 32 → level + 1 + length (spell_node (row u ls) f) < 2 ^ 32 → NumbersFit (row u ls) level n
numbers_fit u ls f level n more h c few = (
  omega (arith, c),
  omega (arith, few),
  omega (arith, leaves_counted ls 0 [], node_bounded (row u ls) f h, few),
  few_declared f u ls h,
)

declarations_law : (f : Family) (ds : Defs) → DefsLaw ds → FitsDeclarations ds f → (level n : ℕ) → n + count_defs ds < 2 ^ 32 → level + 1 + length (spell_declarations ds f) < 2 ^ 32 → DefsFit ds level n
declarations_law f no_def laws h level n c few = tt
declarations_law f (one_def (define names (row u ls)) ds) laws h level n c few =
    let both = length-append (spell_node (row u ls) f) (spell_declarations ds f) in (
      numbers_fit u ls f level n (count_defs ds) h.0.1 (omega (arith, c)) (omega (arith, both, few)),
      laws.0 f h.0.1 (level + 1) (omega (arith, both, few)),
      declarations_law f ds laws.1 h.1 level (n + 1) (omega (arith, c)) (omega (arith, both, few)),
    )

definitions_law : (ds : Defs) → DefsLaw ds → FitsDefinitions ds → (level n : ℕ) → n + count_defs ds < 2 ^ 32 → level + 1 + items_length (items_of ds) < 2 ^ 32 → DefsFit ds level n
definitions_law no_def laws h level n c few = tt
definitions_law (one_def (define names (row u ls)) ds) laws h level n c few = (
  numbers_fit u ls (rows_of (section_of u)) level n (count_defs ds) h.0.1 (omega (arith, c)) (omega (arith, few)),
  laws.0 (rows_of (section_of u)) h.0.1 (level + 1) (omega (arith, few)),
  definitions_law ds laws.1 h.1 level (n + 1) (omega (arith, c)) (omega (arith, few)),
)

scope_law : (s : Scope) → ScopeLaw s → LeafLaw (m.scope s)
scope_law (scope_of k id label ds) laws (t.type_scope kind) h level few =
    let both = length-append (uleb (count_defs ds)) (spell_declarations ds (declarations_of kind)) in
    declarations_law (declarations_of kind) ds laws h.4 level 0 (omega (arith, h.3)) (omega (arith, both, some_bytes (count_defs ds), few))
scope_law (scope_of k id label ds) laws t.whole_component h level few =
    let both = length-append preamble (sections (groups (items_of ds))) in
    definitions_law ds laws h.3 level 0 (omega (arith, both, definitions_few ds h.3, few)) (omega (arith, both, grouped_length (items_of ds), sections_length (groups (items_of ds)), few))
scope_law (scope_of k id label ds) laws f h level few = absurd h

-- ---- the induction

present_law : (l : Leaf) → LeafLaw l → LeafLaw (m.present l)
present_law l law (t.optional f) h level few = law f h level (omega (arith, few))
present_law l law (t.result f) h level few = law f h level (omega (arith, few))
present_law l law t.maximum h level few = law t.unsigned h level few
present_law l law f h level few = absurd h

node_law : (n : Node) → NodeLaw n → LeafLaw (m.node n)
node_law (row u ls) law (t.one f) h level few = law f h level few
node_law (row u ls) law f h level few = absurd h

nodes_law : (ns : Nodes) → NodesLaw ns → LeafLaw (m.nodes ns)
nodes_law ns law (t.each f) h level few = law f h.1 level (omega (arith, length-append (uleb (count_nodes ns)) (spell_nodes ns f), few))
nodes_law ns law f h level few = absurd h

mutual
  leaf_law : (l : Leaf) → LeafLaw l
  leaf_law (m.present l) = present_law l (leaf_law l)
  leaf_law (m.node n) = node_law n (node_has_law n)
  leaf_law (m.nodes ns) = nodes_law ns (nodes_have_law ns)
  leaf_law (m.scope s) = scope_law s (scope_has_law s)
  leaf_law _ = λ f h level few. tt

  leaves_have_law : (ls : Leaves) → LeavesLaw ls
  leaves_have_law no_leaf = tt
  leaves_have_law (l ▸ ls) = (leaf_law l, leaves_have_law ls)

  node_has_law : (n : Node) → NodeLaw n
  node_has_law (row u ls) = row_law u ls (leaves_have_law ls)

  nodes_have_law : (ns : Nodes) → NodesLaw ns
  nodes_have_law no_node = λ f h level few. tt
  nodes_have_law (one_node n ns) = more_nodes_law n ns (node_has_law n) (nodes_have_law ns)

  defs_have_law : (ds : Defs) → DefsLaw ds
  defs_have_law no_def = tt
  defs_have_law (one_def (define names n) ds) = (node_has_law n, defs_have_law ds)

  scope_has_law : (s : Scope) → ScopeLaw s
  scope_has_law (scope_of k id label ds) = defs_have_law ds

pub have_room : (bytes : List ℕ) (b : Scope) → Reads bytes b → length bytes < 2 ^ 32 → NumbersHaveRoom b
have_room bytes b h few = leaf_law (m.scope b) t.whole_component (fits_sections b h.fits) 0 (omega (arith, ap length h.spelled, few))
