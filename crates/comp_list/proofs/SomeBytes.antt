-- The definitions of a component are no more than its bytes: each takes one at least, those that stand in a section of their own with the number of
-- that section. By a test of the table, by computation.
use Rattle.std.proofs.Common.{◌≡◌, ℕ, zero, suc, ◌+◌, ◌≤◌, List, [], ◌∷◌, ◌++◌, length, length-append, refl, ap, sym, subst, arith, Bool, true, false, ◌&&◌, ◌||◌, Option, Some, None, if◌then◌else◌}
use Rattle.std.specs.List.{list_all}
use Rattle.comp_model.specs.Leb.{uleb}
use Rattle.comp_model.specs.Payloads.{joined, framed, sort_bytes}
use Rattle.comp_model.specs.declared.row.Row.{Row}
use Rattle.comp_model.specs.RowNumbers.{same_row}
use Rattle.comp_model.specs.Model as m
use Rattle.comp_model.specs.Model.{Leaf, Leaves, no_leaf, ◌▸◌, row, define, Defs, no_def, one_def, count_defs}
use Rattle.comp_wire.specs.declared.sections.SectionKind.{SectionKind}
use Rattle.comp_wire.specs.declared.sections.SectionKind.TheVariants as section_kinds
use Rattle.comp_wire.specs.Table as t
use Rattle.comp_wire.specs.Table.{Field, Piece, byte, leaf, limits, outer, Line, lines}
use Rattle.comp_wire.specs.Sections.{Item, Group, group, body, section_of, rows_of, is_counted, same_section, shares, in_front, groups, sections}
use Rattle.comp_wire.specs.Spelled.{find, spelled_at, limits_bytes, outer_bytes, assemble, spell_line, spell_leaf, spell_leaves, items_of, item_of_node, fits_at, FitsPieces, FitsLine, FitsLeaf, fits_leaves, FitsItem, FitsDefinitions}
use Rattle.comp_wire.proofs.Groups.{and_both}
use Rattle.comp_list.proofs.Fewer.{body_length}

pub not_true : false ≡ true → ⊥
not_true e = cc

-- ---- an item of a section of several has a byte

abbrev takes_some : Field → Bool
takes_some t.extern_name = true
takes_some t.primitive_byte = true
takes_some t.async_byte = true
takes_some _ = false

abbrev some_in : List Piece → Bool
some_in [] = false
some_in (byte b ∷ ps) = true
some_in (leaf i f ∷ ps) = takes_some f || some_in ps
some_in (limits i ∷ ps) = some_in ps
some_in (outer i ∷ ps) = true

abbrev has_some : Line → Bool
has_some l = some_in l.pieces

lines_have_some : (s : SectionKind) → is_counted s ≡ true → list_all has_some (lines (rows_of s)) ≡ true
lines_have_some section_kinds.Custom e = absurd (not_true e)
lines_have_some section_kinds.CoreModule e = absurd (not_true e)
lines_have_some section_kinds.Component e = absurd (not_true e)
lines_have_some section_kinds.Start e = absurd (not_true e)
lines_have_some _ e = refl

some_bytes_of : (l : Leaf) (f : Field) → takes_some f ≡ true → FitsLeaf l f → 1 ≤ length (spell_leaf l f)
some_bytes_of (m.text x) t.extern_name e h = omega arith
some_bytes_of l t.extern_name e h = absurd h
some_bytes_of (m.number n) t.primitive_byte e h = omega arith
some_bytes_of l t.primitive_byte e h = absurd h
some_bytes_of (m.number n) t.async_byte e h = omega arith
some_bytes_of l t.async_byte e h = absurd h
some_bytes_of l f e h = absurd (not_true e)

some_bytes_at : (ls : Leaves) (i : ℕ) (f : Field) → takes_some f ≡ true → fits_at i f (fits_leaves ls) → 1 ≤ length (spelled_at i f (spell_leaves ls))
some_bytes_at no_leaf i f e h = absurd h
some_bytes_at (l ▸ ls) zero f e h = some_bytes_of l f e h
some_bytes_at (l ▸ ls) (suc i) f e h = some_bytes_at ls i f e h

pieces_have_some : (ls : Leaves) (ps : List Piece) → some_in ps ≡ true → FitsPieces ps (fits_leaves ls) → 1 ≤ length (assemble ps (spell_leaves ls))
pieces_have_some ls [] e h = absurd (not_true e)
pieces_have_some ls (byte b ∷ ps) e h = omega arith
pieces_have_some ls (leaf i f ∷ ps) e h = go (takes_some f) refl e (λ d. pieces_have_some ls ps d h.1)
  where
    go : (b : Bool) → takes_some f ≡ b → (b || some_in ps) ≡ true → (some_in ps ≡ true → 1 ≤ length (assemble ps (spell_leaves ls))) → 1 ≤ length (spelled_at i f (spell_leaves ls) ++ assemble ps (spell_leaves ls))
    go true d e behind = omega (arith, length-append (spelled_at i f (spell_leaves ls)) (assemble ps (spell_leaves ls)), some_bytes_at ls i f d h.0)
    go false d e behind = omega (arith, length-append (spelled_at i f (spell_leaves ls)) (assemble ps (spell_leaves ls)), behind e)
pieces_have_some ls (limits i ∷ ps) e h = omega (arith, length-append (limits_bytes i (spell_leaves ls)) (assemble ps (spell_leaves ls)), pieces_have_some ls ps e h.2)
pieces_have_some ls (outer i ∷ ps) e h =
    let sort = spelled_at (suc (suc i)) t.sort (spell_leaves ls) in
    let numbers = spelled_at i t.outward (spell_leaves ls) ++ spelled_at (suc i) t.any_index (spell_leaves ls) in
    omega (arith, length-append (outer_bytes i (spell_leaves ls)) (assemble ps (spell_leaves ls)), length-append sort (0x02 ∷ numbers))

line_has_some : (u : Row) (ls : Leaves) (ks : List Line) → list_all has_some ks ≡ true → FitsLine (find u ks) (fits_leaves ls) → 1 ≤ length (spell_line (find u ks) (spell_leaves ls))
line_has_some u ls [] e h = absurd h
line_has_some u ls (k ∷ ks) e h = let tests = and_both (has_some k) _ e in go (same_row u k.tag) (line_has_some u ls ks tests.1) h
  where
    go : (b : Bool) → (FitsLine (find u ks) (fits_leaves ls) → 1 ≤ length (spell_line (find u ks) (spell_leaves ls)))
        → FitsLine (if b then Some k else find u ks) (fits_leaves ls) → 1 ≤ length (spell_line (if b then Some k else find u ks) (spell_leaves ls))
    go true others h = let tests = and_both (has_some k) _ e in pieces_have_some ls k.pieces tests.0 h.1
    go false others h = others h

-- ---- the bytes of items, with one more for each that stands in a section of its own

abbrev cost : Bool → List ℕ → ℕ
cost true c = length c
cost false c = suc (length c)

abbrev items_cost : List Item → ℕ
items_cost [] = 0
items_cost (i ∷ is) = cost (is_counted i.section) i.content + items_cost is

-- those of groups, each with its number
abbrev groups_cost : List Group → ℕ
groups_cost [] = 0
groups_cost (g ∷ gs) = suc (length (joined g.items)) + groups_cost gs

cost_within : (b : Bool) (c : List ℕ) → cost b c ≤ suc (length c)
cost_within true c = omega arith
cost_within false c = omega arith

front_cost : (i : Item) (gs : List Group) → cost (is_counted i.section) i.content + groups_cost gs ≤ groups_cost (in_front i gs)
front_cost i [] = omega (arith, cost_within (is_counted i.section) i.content, length-append i.content [])
front_cost i (g ∷ gs) = go (shares i.section g.section) refl
  where
    go : (b : Bool) → shares i.section g.section ≡ b
        → cost (is_counted i.section) i.content + groups_cost (g ∷ gs) ≤ groups_cost (if b then group g.section (i.content ∷ g.items) ∷ gs else group i.section (i.content ∷ []) ∷ g ∷ gs)
    go true e =
        let counted = (and_both (is_counted i.section) (same_section i.section g.section) e).0 in
        let is : cost (is_counted i.section) i.content ≡ length i.content = ap (λ b. cost b i.content) counted in
        omega (arith, is, length-append i.content (joined g.items))
    go false e = omega (arith, cost_within (is_counted i.section) i.content, length-append i.content [])

groups_within : (is : List Item) → items_cost is ≤ groups_cost (groups is)
groups_within [] = omega arith
groups_within (i ∷ is) = omega (arith, front_cost i (groups is), groups_within is)

sections_within : (gs : List Group) → groups_cost gs ≤ length (sections gs)
sections_within [] = omega arith
sections_within (g ∷ gs) =
    omega (
      arith,
      body_length (is_counted g.section) g.items,
      length-append (uleb (length (body g))) (body g),
      length-append (framed (body g)) (sections gs),
      sections_within gs,
    )

item_costs : (u : Row) (ls : Leaves) → FitsItem (row u ls) → 1 ≤ cost (is_counted (section_of u)) (spell_line (find u (lines (rows_of (section_of u)))) (spell_leaves ls))
item_costs u ls h = go (is_counted (section_of u)) refl
  where
    go : (b : Bool) → is_counted (section_of u) ≡ b → 1 ≤ cost b (spell_line (find u (lines (rows_of (section_of u)))) (spell_leaves ls))
    go true e = line_has_some u ls (lines (rows_of (section_of u))) (lines_have_some (section_of u) e) h
    go false e = omega arith

definitions_cost : (ds : Defs) → FitsDefinitions ds → count_defs ds ≤ items_cost (items_of ds)
definitions_cost no_def h = omega arith
definitions_cost (one_def (define names (row u ls)) ds) h = omega (arith, item_costs u ls h.0.1, definitions_cost ds h.1)

pub definitions_few : (ds : Defs) → FitsDefinitions ds → count_defs ds ≤ length (sections (groups (items_of ds)))
definitions_few ds h = omega (arith, definitions_cost ds h, groups_within (items_of ds), sections_within (groups (items_of ds)))
