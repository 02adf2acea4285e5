-- How many items there are of each space, by the definitions that declare them.
use Rattle.std.proofs.Common.{◌≡◌, ℕ, suc, ◌+◌, ◌*◌, ◌<◌, ◌≤◌, ◌^◌, refl, sym, ap, ◌∙◌, subst, Bool, true, false, cond, List, [], ◌∷◌, ◌++◌, length, length-append, drop, get_or, arith}
use Rattle.std.proofs.lemmas.List.{length-replicate, drop_more}
use Rattle.comp_model.specs.declared.Space.{Space}
use Rattle.comp_model.specs.declared.declares.Declares.{Declares}
use Rattle.comp_model.specs.Model.{Leaves, Node as Row}
use Rattle.comp_model.specs.Spaces.{same_space, spaces_by, leaves_spaces, leaf_spaces, declares_row}
use Rattle.comp_wire.specs.Sections.{Word}
use Rattle.wire_tree.specs.Lists.{listed, node_of, defs_listed}
use Rattle.wire_tree.specs.Model.{leaf_of}
use Rattle.wire_tree.specs.declared.tree.Leaf.{Leaf}
use Rattle.wire_tree.specs.declared.tree.Node.{Node}
use Rattle.item_tree.specs.declared.tree.Item.{Item}
use Rattle.item_tree.specs.Model as items
use Rattle.item_tree.specs.Model.{item_row}
use Rattle.comp_list.specs.declared.line.Spot.{Spot}
use Rattle.comp_list.specs.declared.runs.Run.{Run}
use Rattle.comp_list.specs.Runs.{run_of}
use Rattle.comp_list.specs.Spots.{spots_of, def_spots, AreWithin}
use Rattle.comp_list.specs.Room.{NumbersFit, RowFits, DefsFit}
use Rattle.comp_list.proofs.DefSpots.{one_more, drop_item}

def_spots_short : (s : Space) (k p : ℕ) (ss : List Space) → length (def_spots s k p ss) ≤ length ss
def_spots_short s k p [] = omega arith
def_spots_short s k p (t ∷ ss) = omega (arith, ap length (one_more s t k p ss), go (same_space s t), def_spots_short s k (p + 1) ss)
  where
    go : (b : Bool) → length (cond {A = List Spot} b (record { def = k; part = p } ∷ def_spots s k (p + 1) ss) (def_spots s k (p + 1) ss)) ≤ suc (length (def_spots s k (p + 1) ss))
    go true = omega arith
    go false = omega arith

pub spots_within : (old new : List (List Spot)) (n k p : ℕ) (ss : List Space) → ((s : Space) → spots_of new s ≡ spots_of old s ++ def_spots s k p ss) → AreWithin old n → AreWithin new (n + length ss)
spots_within old new n k p ss e room s = omega (arith, ap length (e s), length-append (spots_of old s) (def_spots s k p ss), def_spots_short s k p ss, room s)

pub run_counted : (r : Run) (ss : List Space) → run_of r ≡ ss → r.count ≡ length ss
run_counted r ss e = sym (length-replicate r.count r.space) ∙ ap length e

-- ---- turns of the loops

-- the leaves from the i-th on
pub leaves_turn : (xs : List Leaf) (i : ℕ) (x : Leaf) (by : Declares) → i < length xs → x ≡ get_or xs i x
    → length (leaves_spaces (listed (drop i xs)) by) ≡ length (leaf_spaces (leaf_of x) by) + length (leaves_spaces (listed (drop (i + 1) xs)) by)
leaves_turn xs i x by h is =
    ap (λ q. length (leaves_spaces (listed q) by)) (drop_item xs i x h is)
    ∙ length-append (leaf_spaces (leaf_of x) by) (leaves_spaces (listed (drop (i + 1) xs)) by)

-- the definitions from the i-th on
pub rows_turn : (xs : List Node) (i : ℕ) (d : Node) (level n : ℕ) → i < length xs → DefsFit (defs_listed (drop i xs)) level n
    → NumbersFit (node_of (get_or xs i d)) level n × RowFits (node_of (get_or xs i d)) (level + 1) × DefsFit (defs_listed (drop (i + 1) xs)) level (n + 1)
rows_turn xs i d level n h f = subst (λ q. DefsFit (defs_listed q) level n) (drop_more xs i d h) f

pub rows_rest : (xs : List Node) (i level n : ℕ) → i < length xs → DefsFit (defs_listed (drop i xs)) level n → DefsFit (defs_listed (drop (i + 1) xs)) level (n + 1)
rows_rest [] i level n h f = absurd (omega (arith, h))
rows_rest (x ∷ xs) i level n h f = (rows_turn (x ∷ xs) i x level n h f).2

pub row_within : (xs : List Node) (i : ℕ) (d : Node) (level n : ℕ) (old new : List (List Spot)) → i < length xs → DefsFit (defs_listed (drop i xs)) level n
    → ((s : Space) → spots_of new s ≡ spots_of old s ++ def_spots s n 0 (declares_row (get_or xs i d).row (listed (get_or xs i d).leaves.now)))
    → AreWithin old (n * 2 ^ 32) → AreWithin new ((n + 1) * 2 ^ 32)
row_within xs i d level n old new h f e room s =
    let ss = declares_row (get_or xs i d).row (listed (get_or xs i d).leaves.now) in
    omega (arith, spots_within old new (n * 2 ^ 32) n 0 ss e room s, (rows_turn xs i d level n h f).0.3)

pub items_turn : (xs : List Item) (i : ℕ) (x : Item) (level n : ℕ) → i < length xs → x ≡ get_or xs i x → DefsFit (items.defs_listed (drop i xs)) level n
    → NumbersFit (item_row x) level n × RowFits (item_row x) (level + 1) × DefsFit (items.defs_listed (drop (i + 1) xs)) level (n + 1)
items_turn xs i x level n h is f = subst (λ q. DefsFit (items.defs_listed q) level n) (drop_item xs i x h is) f

pub spaces_known : (d e : Declares) (ls : Leaves) → d ≡ e → length (spaces_by d ls) < 2 ^ 32 → length (spaces_by e ls) < 2 ^ 32
spaces_known d e ls h = subst (λ q. length (spaces_by q ls) < 2 ^ 32) h
