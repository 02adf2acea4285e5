-- Pieces one behind the other, and the leaves at their places.
use Rattle.std.proofs.Common.{◌≡◌, ℕ, zero, suc, ◌+◌, ◌<◌, ◌≤◌, List, [], ◌∷◌, ◌++◌, length, map, get_or, drop, refl, sym, ◌∙◌, ap, subst, arith, append_assoc, Option, Some, None}
use Rattle.comp_model.specs.CoreModules.{CoreModule}
use Rattle.comp_model.specs.Model.{count_nodes}
use Rattle.comp_model.specs.declared.row.Row.TheVariants as rows
use Rattle.comp_model.specs.declared.row.Row.{Row}
use Rattle.comp_model.specs.declared.row.Row.TheVariants.{FunctionType}
use Rattle.comp_wire.specs.Table as t
use Rattle.comp_wire.specs.Table.{Line, lines}
use Rattle.comp_wire.specs.Spelled.{spelled_at, spell_leaf, spell_leaves, assemble, spell_line, limits_bytes, outer_bytes, find, FitsPieces, FitsLine}
use Rattle.comp_wire.proofs.Lists.{dropped}
use Rattle.comp_tree.specs.Lists.{nodes_listed}
use Rattle.comp_tree.specs.declared.tree.Leaf.{Leaf}
use Rattle.comp_tree.specs.declared.tree.Node.{Node}
use Rattle.byte_table.specs.Lines.{line_pieces, piece_of, family_of, home_pieces}
use Rattle.byte_table.specs.Stands.{lead_of, piece_bytes}
use Rattle.byte_table.specs.declared.line.Family.{Family}
use Rattle.byte_table.specs.declared.line.Piece.{Piece}
use Rattle.tree_write.specs.Kept.{Kept, put}
use Rattle.tree_write.proofs.Fitted.{line_fits, function_line}
use Rattle.tree_write.proofs.Puts.{put_put}
use Rattle.tree_write.specs.Fitted.{type_lead}
use Rattle.tree_write.specs.Wire.{wire_leaf, wire_leaves, wire_nodes}

abbrev Spelled : Type 0
Spelled = List (t.Field → List ℕ)

pub assemble-cons : (p : t.Piece) (ps : List t.Piece) (gs : Spelled) → assemble (p ∷ ps) gs ≡ piece_bytes p gs ++ assemble ps gs
assemble-cons (t.byte b) ps gs = refl
assemble-cons _ ps gs = refl

pub assemble-append : (ps qs : List t.Piece) (gs : Spelled) → assemble (ps ++ qs) gs ≡ assemble ps gs ++ assemble qs gs
assemble-append [] qs gs = refl
assemble-append (p ∷ ps) qs gs = assemble-cons p (ps ++ qs) gs ∙ ap (λ x. piece_bytes p gs ++ x) (assemble-append ps qs gs) ∙ sym (append_assoc (piece_bytes p gs) (assemble ps gs) (assemble qs gs)) ∙ ap (λ x. x ++ assemble qs gs) (sym (assemble-cons p ps gs))

pub line_spelled : (o : Option Line) (gs : Spelled) → spell_line o gs ≡ assemble (line_pieces o) gs
line_spelled None gs = refl
line_spelled (Some l) gs = refl

-- one piece put in front of those behind it
pub piece_put : (p : t.Piece) (ps : List t.Piece) (gs : Spelled) (k mid new : Kept) → mid ≡ put (assemble ps gs) k → new ≡ put (piece_bytes p gs) mid → new ≡ put (assemble (p ∷ ps) gs) k
piece_put p ps gs k mid new e f = f ∙ ap (put (piece_bytes p gs)) e ∙ put_put (piece_bytes p gs) (assemble ps gs) k ∙ ap (λ xs. put xs k) (sym (assemble-cons p ps gs))

-- a line: its pieces, and the byte in front
pub line_put : (o : Option Line) (lead : Option ℕ) (ps : List t.Piece) (gs : Spelled) (hs : List (t.Field → Type 0)) (k mid new : Kept) → (FitsLine o hs → line_pieces o ≡ lead_of lead ++ ps) → (FitsPieces ps hs → mid ≡ put (assemble ps gs) k) → new ≡ put (assemble (lead_of lead) gs) mid → FitsLine o hs → new ≡ put (spell_line o gs) k
line_put o lead ps gs hs k mid new is behind front h =
    let line = line_spelled o gs ∙ ap (λ qs. assemble qs gs) (is h) ∙ assemble-append (lead_of lead) ps gs in
    front ∙ ap (put (assemble (lead_of lead) gs)) (behind (line_fits o lead ps hs (is h) h)) ∙ put_put (assemble (lead_of lead) gs) (assemble ps gs) k ∙ ap (λ xs. put xs k) (sym line)

pub function_put : (r : Row) (f : Family) (lead : Option ℕ) (gs : Spelled) (hs : List (t.Field → Type 0)) (k mid new : Kept) → r ≡ FunctionType → lead ≡ type_lead (family_of f) → (FitsPieces (home_pieces rows.FunctionType) hs → mid ≡ put (assemble (home_pieces rows.FunctionType) gs) k) → new ≡ put (assemble (lead_of lead) gs) mid → FitsLine (find r (lines (family_of f))) hs → new ≡ put (spell_line (find r (lines (family_of f))) gs) k
function_put r f lead gs hs k mid new is e behind front =
    subst (λ q. FitsLine (find q (lines (family_of f))) hs → new ≡ put (spell_line (find q (lines (family_of f))) gs) k) (sym is)
    (line_put (find rows.FunctionType (lines (family_of f))) (type_lead (family_of f)) (home_pieces rows.FunctionType) gs hs k mid new (function_line f hs) behind (subst (λ b. new ≡ put (assemble (lead_of b) gs) mid) e front))

-- one piece in front of those behind it
pub piece_turn : (ps : List Piece) (i : ℕ) (p : Piece) (gs : Spelled) → i < length ps → p ≡ get_or ps i p → piece_bytes (piece_of p) gs ++ assemble (map piece_of (drop (i + 1) ps)) gs ≡ assemble (map piece_of (drop i ps)) gs
piece_turn ps i p gs h e = sym (ap (λ qs. assemble (map piece_of qs) gs) (dropped ps i p h e) ∙ assemble-cons (piece_of p) (map piece_of (drop (i + 1) ps)) gs)

module _ (cores : List CoreModule) where
  -- the leaf at a place, and none behind the last
  pub spelled_in : (xs : List Leaf) (i : ℕ) (f : t.Field) (x : Leaf) → i < length xs → x ≡ get_or xs i x → spelled_at i f (spell_leaves (wire_leaves cores xs)) ≡ spell_leaf (wire_leaf cores x) f
  spelled_in [] i f x h e = absurd (omega arith)
  spelled_in (y ∷ xs) zero f x h e = ap (λ z. spell_leaf (wire_leaf cores z) f) (sym e)
  spelled_in (y ∷ xs) (suc i) f x h e = spelled_in xs i f x (omega arith) e

  pub spelled_behind : (xs : List Leaf) (i : ℕ) (f : t.Field) → length xs ≤ i → spelled_at i f (spell_leaves (wire_leaves cores xs)) ≡ []
  spelled_behind [] i f h = refl
  spelled_behind (y ∷ xs) zero f h = absurd (omega arith)
  spelled_behind (y ∷ xs) (suc i) f h = spelled_behind xs i f (omega arith)

  pub counted_nodes : (ns : List Node) → count_nodes (wire_nodes cores ns) ≡ length ns
  counted_nodes [] = refl
  counted_nodes (n ∷ ns) = let e = counted_nodes ns in omega arith

  pub listed_nodes : (ns : List Node) → count_nodes (nodes_listed cores ns) ≡ length ns
  listed_nodes [] = refl
  listed_nodes (n ∷ ns) = let e = listed_nodes ns in omega arith

-- limits, and a reference outward, part by part from the last
pub limits_put : (gs : Spelled) (i : ℕ) (k a b c : Kept) → a ≡ put (spelled_at (i + 1) t.maximum gs) k → b ≡ put (spelled_at i t.unsigned gs) a → c ≡ put (spelled_at (i + 1) t.presence gs) b → c ≡ put (limits_bytes i gs) k
limits_put gs i k a b c e f g =
    let next : i + 1 ≡ suc i = omega arith in
    let x = spelled_at (suc i) t.maximum gs in
    let y = spelled_at i t.unsigned gs in
    let z = spelled_at (suc i) t.presence gs in
    g ∙ ap (λ j. put (spelled_at j t.presence gs) b) next ∙ ap (put z) (f ∙ ap (put y) (e ∙ ap (λ j. put (spelled_at j t.maximum gs) k) next) ∙ put_put y x k) ∙ put_put z (y ++ x) k

pub outer_put : (gs : Spelled) (i : ℕ) (k a b c d : Kept) → a ≡ put (spelled_at (i + 1) t.any_index gs) k → b ≡ put (spelled_at i t.outward gs) a → c ≡ put (0x02 ∷ []) b → d ≡ put (spelled_at (i + 2) t.sort gs) c → d ≡ put (outer_bytes i gs) k
outer_put gs i k a b c d e f g h =
    let next : i + 1 ≡ suc i = omega arith in
    let two : i + 2 ≡ suc (suc i) = omega arith in
    let x = spelled_at (suc i) t.any_index gs in
    let y = spelled_at i t.outward gs in
    let z = spelled_at (suc (suc i)) t.sort gs in
    h ∙ ap (λ j. put (spelled_at j t.sort gs) c) two
    ∙ ap (put z) (g ∙ ap (put (0x02 ∷ [])) (f ∙ ap (put y) (e ∙ ap (λ j. put (spelled_at j t.any_index gs) k) next) ∙ put_put y x k) ∙ put_put (0x02 ∷ []) (y ++ x) k)
    ∙ put_put z (0x02 ∷ (y ++ x)) k
