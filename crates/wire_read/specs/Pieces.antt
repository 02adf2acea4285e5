-- What reading the pieces of a line answers.
use Rattle.std.specs.Prelude.{◌≡◌, ℕ, suc, nat_lt, Bool, true, false, not, ◌&&◌, List, [], ◌∷◌, ◌++◌, Result, MatchResult, ⊤}
use Rattle.comp_model.specs.Model as m
use Rattle.comp_wire.specs.Table.{Piece, byte, leaf, limits, outer}
use Rattle.comp_wire.specs.Spelled.{assemble, spell_leaves, FitsPieces, fits_leaves}
use Rattle.comp_wire.proofs.Rows.{has, leaf_at}
use Rattle.wire_read.specs.Place.{Place, rest, Takes}
use Rattle.wire_read.specs.Within.{WithinLeaves}
use Rattle.wire_read.specs.Stops.{stop_of, Allows}
use Rattle.wire_read.specs.Nodes.{is_readable}
use Rattle.wire_read.specs.Slots.{slot_leaves, counted}
use Rattle.wire_read.specs.declared.stop.Fault.{Fault}
use Rattle.wire_read.specs.declared.stop.Stop.{Stop}
use Rattle.wire_read.specs.declared.slots.Slots.{Slots}

-- a byte, or none
abbrev pub OutcomeLead : List ℕ → Place → Place → Bool → Type 0
OutcomeLead xs old new r = (r ≡ true → Takes old new xs) × (r ≡ false → (ys : List ℕ) → xs ++ ys ≡ rest old → ⊥)

-- the field of a piece can be read, and its places are among three
abbrev pub is_readable_piece : Piece → Bool
is_readable_piece (byte b) = true
is_readable_piece (leaf i f) = is_readable f && nat_lt i 3
is_readable_piece (limits i) = nat_lt i 2
is_readable_piece (outer i) = nat_lt i 1

-- no place of the piece stands in the others
abbrev pub is_apart : Piece → List Piece → Bool
is_apart (byte b) ps = true
is_apart (leaf i f) ps = not (has i ps)
is_apart (limits i) ps = not (has i ps) && not (has (suc i) ps)
is_apart (outer i) ps = not (has i ps) && (not (has (suc i) ps) && not (has (suc (suc i)) ps))

abbrev pub are_readable : List Piece → Bool
are_readable [] = true
are_readable (p ∷ ps) = is_readable_piece p && (is_apart p ps && are_readable ps)

-- how many leaves there are once those of the pieces are put
abbrev pub counted_by : List Piece → ℕ → ℕ
counted_by [] n = n
counted_by (byte b ∷ ps) n = counted_by ps n
counted_by (leaf i f ∷ ps) n = counted_by ps (counted n i)
counted_by (limits i ∷ ps) n = counted_by ps (counted (counted n i) (suc i))
counted_by (outer i ∷ ps) n = counted_by ps (counted (counted (counted n i) (suc i)) (suc (suc i)))

-- the leaves of the pieces are put at their places, and their bytes are taken
pub record PiecesRead (ps : List Piece) (left : ℕ) (old_slots : Slots) (old new : Place) (slots : Slots) : Type 0 where
  pub fits : FitsPieces ps (fits_leaves (slot_leaves slots))
  pub near : WithinLeaves (slot_leaves old_slots) left → WithinLeaves (slot_leaves slots) left
  pub taken : Takes old new (assemble ps (spell_leaves (slot_leaves slots)))
  pub stays : (j : ℕ) → has j ps ≡ false → leaf_at j (slot_leaves slots) ≡ leaf_at j (slot_leaves old_slots)
  pub count : slots.count ≡ counted_by ps old_slots.count

-- no leaves of which the refusal speaks are spelled by the pieces
abbrev pub PiecesRefused : List Piece → ℕ → List ℕ → Stop → Type 0
PiecesRefused ps left bytes e =
    (xs : m.Leaves) (r : List ℕ) → FitsPieces ps (fits_leaves xs) → Allows e (WithinLeaves xs left) → assemble ps (spell_leaves xs) ++ r ≡ bytes → ⊥

abbrev pub OutcomePieces : List Piece → ℕ → Slots → Slots → Place → Place → Result ⊤ Fault → Type 0
OutcomePieces ps left old_slots slots old new r = MatchResult r (λ u. PiecesRead ps left old_slots old new slots) (λ e. PiecesRefused ps left (rest old) (stop_of e))
