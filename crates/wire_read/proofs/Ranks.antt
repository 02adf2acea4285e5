-- The parts of a row are below it, and its pieces can be read: tests of every line.
use Rattle.std.proofs.Common.{◌≡◌, ℕ, suc, ◌+◌, ◌≤◌, List, [], ◌∷◌, ◌++◌, length, map, refl, ap, subst, arith, Bool, true, false, ◌&&◌, Option, Some, None, if◌then◌else◌}
use Rattle.std.specs.Prelude.{nat_le, ◌==◌}
use Rattle.std.proofs.lemmas.Bool.{leb-true, eqb-true}
use Rattle.comp_model.specs.declared.row.Row.{Row}
use Rattle.comp_model.specs.RowNumbers.{same_row}
use Rattle.comp_wire.specs.Table as t
use Rattle.comp_wire.specs.Table.{Family, Field, Piece, byte, leaf, limits, outer, Line, lines}
use Rattle.comp_wire.specs.Spelled.{find}
use Rattle.comp_wire.proofs.Groups.{and_both}
use Rattle.byte_table.specs.Lines.{line_pieces, piece_of}
use Rattle.byte_table.specs.declared.line.Piece as code
use Rattle.byte_table.specs.Stands.{lead_of}
use Rattle.wire_read.specs.Nodes.{is_closed}
use Rattle.wire_read.specs.Pieces.{are_readable, counted_by}

abbrev pub family_rank : Family → ℕ
family_rank t.core_instances = 1
family_rank t.core_types = 3
family_rank t.core_functions = 2
family_rank t.instances = 1
family_rank t.types = 3
family_rank t.cases = 1
family_rank t.canons = 2
family_rank t.starts = 1
family_rank t.imports = 1
family_rank t.exports = 2
family_rank t.component_declarations = 3
family_rank t.instance_declarations = 3
family_rank t.module_declarations = 3
family_rank _ = 0

abbrev pub rank : Field → ℕ
rank (t.optional f) = suc (rank f)
rank (t.result f) = suc (rank f)
rank (t.one g) = suc (family_rank g)
rank (t.each g) = suc (family_rank g)
rank (t.type_scope k) = 3
rank _ = 0

abbrev pub piece_rank : Piece → ℕ
piece_rank (leaf i f) = rank f
piece_rank _ = 0

abbrev pub pieces_rank : List Piece → ℕ
pieces_rank [] = 0
pieces_rank (p ∷ ps) = piece_rank p + pieces_rank ps

-- what is tested of each line
abbrev Ranked : Family → Line → Bool
Ranked f l = nat_le (pieces_rank l.pieces) (family_rank f) && nat_le (length l.pieces) 9

abbrev LinePasses : Line → Bool
LinePasses l = are_readable l.pieces && (counted_by l.pieces 0 == l.leaves)

abbrev pub all_lines : (Line → Bool) → List Line → Bool
all_lines P [] = true
all_lines P (l ∷ ls) = P l && all_lines P ls

lines_ranked : (f : Family) → all_lines (Ranked f) (lines f) ≡ true
lines_ranked t.types = refl
lines_ranked _ = refl

abbrev passes_if : Bool → Family → Bool
passes_if true f = all_lines LinePasses (lines f)
passes_if false f = true

lines_pass : (f : Family) → passes_if (is_closed f) f ≡ true
lines_pass t.types = refl
lines_pass _ = refl

in_here : (P : Line → Bool) (k l : Line) (o : Option Line) → P k ≡ true → (o ≡ Some l → P l ≡ true) → (b : Bool) → (if b then Some k else o) ≡ Some l → P l ≡ true
in_here P k l o h later true e = let same : k ≡ l = cc in subst (λ x. P x ≡ true) same h
in_here P k l o h later false e = later e

pub in_lines : (P : Line → Bool) (u : Row) (ls : List Line) (l : Line) → all_lines P ls ≡ true → find u ls ≡ Some l → P l ≡ true
in_lines P u [] l h e = cc
in_lines P u (k ∷ ks) l h e = let both = and_both (P k) (all_lines P ks) h in in_here P k l (find u ks) both.0 (λ e. in_lines P u ks l both.1 e) (same_row u k.tag) e

pub record LineFacts (l : Line) : Type 0 where
  pub readable : are_readable l.pieces ≡ true
  pub count : counted_by l.pieces 0 ≡ l.leaves

pub line_facts : (f : Family) (u : Row) (l : Line) → is_closed f ≡ true → find u (lines f) ≡ Some l → LineFacts l
line_facts f u l c e =
    let all = subst (λ b. passes_if b f ≡ true) c (lines_pass f) in
    let r = and_both _ _ (in_lines LinePasses u (lines f) l all e) in
    record { readable = r.0; count = eqb-true _ _ r.1 }

pub line_ranked : (f : Family) (u : Row) (l : Line) → find u (lines f) ≡ Some l → (pieces_rank l.pieces ≤ family_rank f) × (length l.pieces ≤ 9)
line_ranked f u l e =
    let r = and_both _ _ (in_lines (Ranked f) u (lines f) l (lines_ranked f) e) in
    (leb-true _ _ r.0, leb-true _ _ r.1)

pub mapped : (ps : List code.Piece) → length (map piece_of ps) ≡ length ps
mapped [] = refl
mapped (p ∷ ps) = ap suc (mapped ps)

-- the pieces of a line behind its first byte, where it has one; none where there is no line
pub placed_ranked : (f : Family) (u : Row) (b : Option ℕ) (ps : List Piece) → line_pieces (find u (lines f)) ≡ lead_of b ++ ps → (pieces_rank ps ≤ family_rank f) × (length ps ≤ 9)
placed_ranked f u b ps e = go (find u (lines f)) refl b e
  where
    behind : (b : Option ℕ) (qs : List Piece) → qs ≡ lead_of b ++ ps → pieces_rank qs ≤ family_rank f → length qs ≤ 9 → (pieces_rank ps ≤ family_rank f) × (length ps ≤ 9)
    behind None qs e h k = (subst (λ x. pieces_rank x ≤ family_rank f) e h, subst (λ x. length x ≤ 9) e k)
    behind (Some c) qs e h k =
        let r = subst (λ x. pieces_rank x ≤ family_rank f) e h in
        let l = subst (λ x. length x ≤ 9) e k in
        (omega (arith, r), omega (arith, l))

    go : (o : Option Line) → find u (lines f) ≡ o → (b : Option ℕ) → line_pieces o ≡ lead_of b ++ ps → (pieces_rank ps ≤ family_rank f) × (length ps ≤ 9)
    go None e b g = behind b [] g (omega arith) (omega arith)
    go (Some l) e b g = let r = line_ranked f u l e in behind b l.pieces g r.0 r.1
