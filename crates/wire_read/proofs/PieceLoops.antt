-- Pieces one behind the other, as far as a loop has come: what is left of them decides.
use Rattle.std.proofs.Common.{◌≡◌, ℕ, ◌+◌, ◌*◌, ◌<◌, ◌≤◌, List, [], ◌∷◌, length, drop, get_or, map, refl, subst, arith, true}
use Rattle.std.specs.Prelude.{nat_lt}
use Rattle.std.proofs.lemmas.List.{drop_more}
use Rattle.comp_model.specs.Model as m
use Rattle.comp_wire.specs.Table.{Field, Piece, byte, leaf}
use Rattle.comp_wire.specs.Spelled.{spell_leaf, FitsLeaf}
use Rattle.wire_tree.specs.Model.{leaf_of}
use Rattle.wire_tree.specs.declared.tree.Leaf as l
use Rattle.byte_table.specs.Lines.{piece_of}
use Rattle.byte_table.specs.declared.line.Piece as code
use Rattle.wire_read.specs.Place.{Place, rest, Takes}
use Rattle.wire_read.specs.Reading.{Unread, Read}
use Rattle.wire_read.specs.Plain.{is_plain}
use Rattle.wire_read.specs.Slots.{put}
use Rattle.wire_read.specs.Flat.{FlatPieces}
use Rattle.wire_read.specs.Pieces.{PiecesRead, PiecesRefused}
use Rattle.wire_read.specs.declared.stop.Stop.{Stop}
use Rattle.wire_read.specs.declared.slots.Slots.{Slots}
use Rattle.wire_read.proofs.Flat.{flat_first, flat_later}
use Rattle.wire_read.specs.declared.stop.Stop.TheVariants as stop
use Rattle.wire_read.proofs.NodeParts.{LeafRefused, plain_within}
use Rattle.wire_read.proofs.NodeReads.{LeafRead}
use Rattle.wire_read.proofs.PieceReads.{no_pieces, pieces_read, first_refused, later_refused, byte_read, byte_refused, leaf_read, leaf_refused}
use Rattle.wire_read.proofs.Ranks.{piece_rank, pieces_rank}

pub record PiecesLeft (ps qs : List Piece) (left : ℕ) (start : Slots) (old cur : Place) (slots : Slots) : Type 0 where
  pub flat : FlatPieces qs
  pub read : (v : Slots) (new : Place) → PiecesRead qs left slots cur new v → PiecesRead ps left start old new v
  pub refused : (e : Stop) → PiecesRefused qs left (rest cur) e → PiecesRefused ps left (rest old) e

pub all_left : (ps : List Piece) (left : ℕ) (s : Slots) (p : Place) → FlatPieces ps → PiecesLeft ps ps left s p p s
all_left ps left s p h = record { flat = h; read = λ v new r. r; refused = λ e u. u }

one_less : (ps : List Piece) (q : Piece) (qs : List Piece) (left : ℕ) (s v w : Slots) (old cur new : Place) → PiecesLeft ps (q ∷ qs) left s old cur v → PiecesRead (q ∷ []) left v cur new w → PiecesLeft ps qs left s old new w
one_less ps q qs left s v w old cur new l r =
    record {
      flat = flat_later q qs l.flat;
      read = λ x end k. l.read x end (pieces_read q qs left v w x cur new end l.flat.0 r k);
      refused = λ e u. l.refused e (later_refused q qs left v w cur new e l.flat.0 r u);
    }

-- what the next piece does: a byte, a leaf, a leaf that holds no part
abbrev pub PlainRead : Field → Place → Place → l.Leaf → Type 0
PlainRead f old new x = Read (λ (y : m.Leaf). FitsLeaf y f) (λ y. spell_leaf y f) old new (leaf_of x)

abbrev pub PlainUnread : Field → List ℕ → Type 0
PlainUnread f bytes = Unread (λ (y : m.Leaf). FitsLeaf y f) (λ y. spell_leaf y f) bytes

module _ (ps qs : List Piece) (left : ℕ) (s v : Slots) (old cur : Place) where
  pub then_byte : (b : ℕ) (new : Place) → PiecesLeft ps (byte b ∷ qs) left s old cur v → Takes cur new (b ∷ []) → PiecesLeft ps qs left s old new v
  then_byte b new l r = one_less ps (byte b) qs left s v v old cur new l (byte_read b left v cur new r)

  pub other_byte : (b : ℕ) (e : Stop) → PiecesLeft ps (byte b ∷ qs) left s old cur v → ((ys : List ℕ) → b ∷ ys ≡ rest cur → ⊥) → PiecesRefused ps left (rest old) e
  other_byte b e l u = l.refused e (first_refused (byte b) qs left (rest cur) e (byte_refused b left (rest cur) e u))

  pub then_leaf : (i : ℕ) (f : Field) (x : l.Leaf) (new : Place) → nat_lt i 3 ≡ true → PiecesLeft ps (leaf i f ∷ qs) left s old cur v → LeafRead f left cur new (leaf_of x) → PiecesLeft ps qs left s old new (put v i x)
  then_leaf i f x new k l r = one_less ps (leaf i f) qs left s v (put v i x) old cur new l (leaf_read i f left v x cur new k r.0 r.1 r.2)

  pub no_leaf : (i : ℕ) (f : Field) (e : Stop) → PiecesLeft ps (leaf i f ∷ qs) left s old cur v → LeafRefused f left (rest cur) e → PiecesRefused ps left (rest old) e
  no_leaf i f e l u = l.refused e (first_refused (leaf i f) qs left (rest cur) e (leaf_refused i f left (rest cur) e u))

  pub then_plain : (i : ℕ) (f : Field) (x : l.Leaf) (new : Place) → nat_lt i 3 ≡ true → is_plain f ≡ true → PiecesLeft ps (leaf i f ∷ qs) left s old cur v → PlainRead f cur new x → PiecesLeft ps qs left s old new (put v i x)
  then_plain i f x new k h l r = then_leaf i f x new k l (r.0, plain_within (leaf_of x) f left h r.0, r.1)

  pub no_plain : (i : ℕ) (f : Field) → PiecesLeft ps (leaf i f ∷ qs) left s old cur v → PlainUnread f (rest cur) → PiecesRefused ps left (rest old) stop.Misread
  no_plain i f l u = no_leaf i f stop.Misread l (λ x r h a q. u x r h q)

module _ (ps : List Piece) (all : List code.Piece) (i left : ℕ) (d : code.Piece) (s v : Slots) (old cur : Place) where
  abbrev Here : Piece
  Here = piece_of (get_or all i d)

  pub piece_read : (w : Slots) (new : Place) → i < length all → PiecesLeft ps (map piece_of (drop i all)) left s old cur v → (FlatPieces (piece_of (get_or all i d) ∷ []) → PiecesRead (piece_of (get_or all i d) ∷ []) left v cur new w) → PiecesLeft ps (map piece_of (drop (i + 1) all)) left s old new w
  piece_read w new h l r =
      let more = subst (λ qs. PiecesLeft ps (map piece_of qs) left s old cur v) (drop_more all i d h) l in
      let first = flat_first Here (map piece_of (drop (i + 1) all)) more.flat in
      one_less ps Here (map piece_of (drop (i + 1) all)) left s v w old cur new more (r first)

  pub piece_refused : (e : Stop) → i < length all → PiecesLeft ps (map piece_of (drop i all)) left s old cur v → (FlatPieces (piece_of (get_or all i d) ∷ []) → PiecesRefused (piece_of (get_or all i d) ∷ []) left (rest cur) e) → PiecesRefused ps left (rest old) e
  piece_refused e h l u =
      let more = subst (λ qs. PiecesLeft ps (map piece_of qs) left s old cur v) (drop_more all i d h) l in
      let behind = map piece_of (drop (i + 1) all) in
      more.refused e (first_refused Here behind left (rest cur) e (u (flat_first Here behind more.flat)))

none_behind : {A : Type 0} (xs : List A) (i : ℕ) → length xs ≤ i → drop i xs ≡ []
none_behind [] i h = go i
  where
    go : {A : Type 0} (i : ℕ) → drop {A = A} i [] ≡ []
    go ℕ.zero = refl
    go (ℕ.suc i) = refl
none_behind (x ∷ xs) ℕ.zero h = absurd (omega (arith, h))
none_behind (x ∷ xs) (ℕ.suc i) h = none_behind xs i (omega (arith, h))

pub none_left : (ps : List Piece) (all : List code.Piece) (i left : ℕ) (s v : Slots) (old cur : Place) → length all ≤ i → PiecesLeft ps (map piece_of (drop i all)) left s old cur v → PiecesRead ps left s old cur v
none_left ps all i left s v old cur h l =
    let end = subst (λ qs. PiecesLeft ps (map piece_of qs) left s old cur v) (none_behind all i h) l in
    end.read v cur (no_pieces left v cur)

-- a piece ranks no higher than all
pub rank_there : (ps : List code.Piece) (i : ℕ) (d : code.Piece) → i < length ps → piece_rank (piece_of (get_or ps i d)) ≤ pieces_rank (map piece_of ps)
rank_there [] i d h = absurd (omega (arith, h))
rank_there (p ∷ ps) ℕ.zero d h = omega arith
rank_there (p ∷ ps) (ℕ.suc i) d h = let r = rank_there ps i d (omega (arith, h)) in omega (arith, r)

pub piece_falls : (t i : ℕ) (ps : List code.Piece) (d : code.Piece) → i < length ps → pieces_rank (map piece_of ps) * 32 + 10 ≡ t → piece_rank (piece_of (get_or ps i d)) * 32 + 6 < t
piece_falls t i ps d h e = let r = rank_there ps i d h in omega (arith, r, e)
