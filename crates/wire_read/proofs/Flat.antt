-- Rows in which no scope stands: tests of every line.
use Rattle.std.proofs.Common.{◌≡◌, ℕ, List, [], ◌∷◌, ◌++◌, refl, sym, ◌∙◌, ap, subst, Bool, true, false, not, ◌&&◌, ◌||◌, Option, Some, None}
use Rattle.comp_model.specs.declared.row.Row.{Row}
use Rattle.comp_model.specs.declared.row.Row.TheVariants as rows
use Rattle.comp_wire.specs.Table as t
use Rattle.comp_wire.specs.Table.{Family, Field, Piece, byte, leaf, limits, outer, Line, lines}
use Rattle.comp_wire.specs.Spelled.{find}
use Rattle.comp_wire.proofs.Groups.{and_both}
use Rattle.byte_table.specs.Lines.{line_pieces}
use Rattle.byte_table.specs.Stands.{lead_of}
use Rattle.wire_read.specs.RowAt.{row_at}
use Rattle.wire_read.specs.Nodes.{is_closed}
use Rattle.wire_read.specs.Flat.{is_flat, is_flat_field, is_flat_piece, are_flat, FlatPieces, holds_scope, FlatRow}
use Rattle.wire_read.proofs.Ranks.{all_lines, in_lines}
use Rattle.wire_read.proofs.Decided.{tag_found}
use Rattle.wire_read.proofs.NodeReads.{line_there, line_readable}
use Rattle.wire_read.proofs.PieceReads.{readable_first, readable_later}

pub flat_closed : (g : Family) → is_flat g ≡ true → is_closed g ≡ true
flat_closed t.core_types e = refl
flat_closed t.types e = refl
flat_closed t.component_declarations e = refl
flat_closed t.instance_declarations e = refl
flat_closed t.module_declarations e = refl
flat_closed g e = e

-- what is tested of each line: of closed families, and of those whose rows hold no scope
abbrev LineFlat : Line → Bool
LineFlat l = holds_scope l.tag || are_flat l.pieces

abbrev NoScope : Line → Bool
NoScope l = not (holds_scope l.tag)

abbrev passes_if : Bool → (Line → Bool) → Family → Bool
passes_if true P f = all_lines P (lines f)
passes_if false P f = true

lines_flat : (f : Family) → passes_if (is_closed f) LineFlat f ≡ true
lines_flat t.types = refl
lines_flat _ = refl

lines_bare : (f : Family) → passes_if (is_flat f) NoScope f ≡ true
lines_bare t.types = refl
lines_bare _ = refl

or_second : (a b : Bool) → a ≡ false → (a || b) ≡ true → b ≡ true
or_second true b e h = cc
or_second false b e h = h

not_false : (b : Bool) → not b ≡ true → b ≡ false
not_false true e = cc
not_false false e = refl

line_flat : (f : Family) (u : Row) (l : Line) → is_closed f ≡ true → holds_scope u ≡ false → find u (lines f) ≡ Some l → are_flat l.pieces ≡ true
line_flat f u l c n e =
    let all = subst (λ b. passes_if b LineFlat f ≡ true) c (lines_flat f) in
    or_second (holds_scope l.tag) _ (ap holds_scope (sym (tag_found u (lines f) l e)) ∙ n) (in_lines LineFlat u (lines f) l all e)

line_bare : (g : Family) (u : Row) (l : Line) → is_flat g ≡ true → find u (lines g) ≡ Some l → holds_scope u ≡ false
line_bare g u l c e =
    let all = subst (λ b. passes_if b NoScope g ≡ true) c (lines_bare g) in
    ap holds_scope (tag_found u (lines g) l e) ∙ not_false (holds_scope l.tag) (in_lines NoScope u (lines g) l all e)

-- a row that stands in a family whose rows hold no scope
pub flat_there : (g : Family) (u : Row) (bytes : List ℕ) → is_flat g ≡ true → Some u ≡ row_at g bytes → FlatRow g u bytes
flat_there g u bytes c k = let l = line_there g u bytes k in (flat_closed g c, line_bare g u l.0 c l.1, k)

-- a row that is none of the types that hold a scope
pub no_type : (r : Row) → (r ≡ rows.ComponentType → ⊥) → (r ≡ rows.InstanceType → ⊥) → (r ≡ rows.ModuleType → ⊥) → holds_scope r ≡ false
no_type rows.ComponentType a b c = absurd (a refl)
no_type rows.InstanceType a b c = absurd (b refl)
no_type rows.ModuleType a b c = absurd (c refl)
no_type _ a b c = refl

flat_behind : (b : Option ℕ) (ps : List Piece) → are_flat (lead_of b ++ ps) ≡ true → are_flat ps ≡ true
flat_behind None ps e = e
flat_behind (Some b) ps e = e

-- the pieces of a row's line behind its first byte
pub line_pieces_flat : (f : Family) (v : Row) (b : Option ℕ) (ps : List Piece) (bytes : List ℕ) → FlatRow f v bytes → line_pieces (find v (lines f)) ≡ lead_of b ++ ps → FlatPieces ps
line_pieces_flat f v b ps bytes k e =
    let l = line_there f v bytes k.2 in
    let same : l.0.pieces ≡ lead_of b ++ ps = ap line_pieces (sym l.1) ∙ e in
    (line_readable f v b ps bytes k.0 k.2 e, flat_behind b ps (subst (λ qs. are_flat qs ≡ true) same (line_flat f v l.0 k.0 k.1 l.1)))

pub flat_first : (p : Piece) (ps : List Piece) → FlatPieces (p ∷ ps) → FlatPieces (p ∷ [])
flat_first p ps h = (readable_first p ps h.0, ap (λ b. b && true) (and_both (is_flat_piece p) (are_flat ps) h.1).0)

pub flat_later : (p : Piece) (ps : List Piece) → FlatPieces (p ∷ ps) → FlatPieces ps
flat_later p ps h = (readable_later p ps h.0, (and_both (is_flat_piece p) (are_flat ps) h.1).1)

pub flat_leaf : (i : ℕ) (f : Field) → FlatPieces (leaf i f ∷ []) → is_flat_field f ≡ true
flat_leaf i f h = (and_both (is_flat_field f) true h.1).0
