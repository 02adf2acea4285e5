-- What a definition, and more of them, add to the items of a space.
use Rattle.std.proofs.Common.{◌≡◌, ℕ, zero, suc, ◌+◌, refl, sym, ap, ◌∙◌, Bool, true, false, cond, List, [], ◌∷◌, ◌++◌, length, map, filter, drop, ◌<◌, replicate, get_or, arith, Bor, None}
use Rattle.std.proofs.lemmas.List.{map-append, drop_more}
use Rattle.std.proofs.lemmas.List.Elements.{filter-append}
use Rattle.comp_model.specs.declared.Space.{Space}
use Rattle.comp_model.specs.declared.Space.TheVariants.{CoreType}
use Rattle.comp_model.specs.Model.{Node as Row, row, define, no_names, one_def, Defs, count_nodes}
use Rattle.comp_model.specs.declared.declares.Declares.{Declares}
use Rattle.comp_model.specs.declared.declares.Declares.TheVariants.{ByList}
use Rattle.comp_model.specs.Spaces.{same_space, parts, declarations_from, items_from, declares_row, leaf_spaces, leaves_spaces}
use Rattle.item_tree.specs.Model.{item_row, defs_listed as items_listed}
use Rattle.item_tree.specs.declared.tree.Item.{Item}
use Rattle.wire_tree.specs.Lists.{listed, node_of, defs_listed, nodes_listed}
use Rattle.wire_tree.specs.Model.{leaf_of}
use Rattle.wire_tree.specs.declared.tree.Node.{Node}
use Rattle.wire_tree.specs.declared.tree.Leaf as l
use Rattle.wire_tree.proofs.Leaves.{leaf_nodes}
use Rattle.comp_list.specs.declared.line.Spot.{Spot}
use Rattle.comp_list.specs.declared.runs.Run.{Run}
use Rattle.comp_list.specs.Places.{row_spaces}
use Rattle.comp_list.specs.Runs.{run_of}
use Rattle.comp_list.specs.Listing.{spot_of}
use Rattle.comp_list.specs.Spots.{part_spots, add_spots, def_spots}

-- parts of two lists of spaces, one behind the other
parts_app : (k p : ℕ) (xs ys : List Space) → parts k p [] (xs ++ ys) ≡ parts k p [] xs ++ parts k (p + length xs) [] ys
parts_app k p [] ys = let z : p ≡ p + 0 = omega arith in ap (λ q. parts k q [] ys) z
parts_app k p (x ∷ xs) ys =
    let z : p + 1 + length xs ≡ p + suc (length xs) = omega arith in
    ap (λ r. record { space = x; id = None; definition = k; part = p } ∷ r) (parts_app k (p + 1) xs ys ∙ ap (λ q. parts k (p + 1) [] xs ++ parts k q [] ys) z)

pub def_spots_app : (s : Space) (k p : ℕ) (xs ys : List Space) → def_spots s k p (xs ++ ys) ≡ def_spots s k p xs ++ def_spots s k (p + length xs) ys
def_spots_app s k p xs ys =
    ap (λ q. map spot_of (filter (λ d. same_space s d.space) q)) (parts_app k p xs ys)
    ∙ ap (map spot_of) (filter-append (λ d. same_space s d.space) (parts k p [] xs) (parts k (p + length xs) [] ys))
    ∙ map-append spot_of (filter (λ d. same_space s d.space) (parts k p [] xs)) (filter (λ d. same_space s d.space) (parts k (p + length xs) [] ys))

-- a part that declares in one space
pub one_more : (s t : Space) (k p : ℕ) (ss : List Space) → def_spots s k p (t ∷ ss) ≡ cond (same_space s t) (record { def = k; part = p } ∷ def_spots s k (p + 1) ss) (def_spots s k (p + 1) ss)
one_more s t k p ss = go (same_space s t)
  where
    go : (b : Bool) → map spot_of (cond b (record { space = t; id = None; definition = k; part = p } ∷ filter (λ d. same_space s d.space) (parts k (p + 1) [] ss)) (filter (λ d. same_space s d.space) (parts k (p + 1) [] ss)))
        ≡ cond {A = List Spot} b (record { def = k; part = p } ∷ def_spots s k (p + 1) ss) (def_spots s k (p + 1) ss)
    go true = refl
    go false = refl

-- a run of parts of one space
pub run_added : (s t : Space) (k p n : ℕ) → add_spots s t k p n ≡ def_spots s k p (replicate n t)
run_added s t k p zero = go (same_space s t)
  where
    go : (b : Bool) → cond {A = List Spot} b [] [] ≡ []
    go true = refl
    go false = refl
run_added s t k p (suc n) = go (same_space s t) (run_added s t k (p + 1) n) ∙ sym (one_more s t k p (replicate n t))
  where
    go : (b : Bool) → cond {A = List Spot} b (part_spots k (p + 1) n) [] ≡ def_spots s k (p + 1) (replicate n t)
        → cond {A = List Spot} b (record { def = k; part = p } ∷ part_spots k (p + 1) n) [] ≡ cond {A = List Spot} b (record { def = k; part = p } ∷ def_spots s k (p + 1) (replicate n t)) (def_spots s k (p + 1) (replicate n t))
    go true e = ap (λ r. record { def = k; part = p } ∷ r) e
    go false e = e

-- a definition and those behind it
pub items_added : (s : Space) (k : ℕ) (n : Row) (ds : Defs) → map spot_of (items_from s k (one_def (define no_names n) ds)) ≡ def_spots s k 0 (row_spaces n) ++ map spot_of (items_from s (k + 1) ds)
items_added s k (row t ls) ds =
    ap (map spot_of) (filter-append (λ d. same_space s d.space) (parts k 0 [] (declares_row t ls)) (declarations_from (k + 1) ds))
    ∙ map-append spot_of (filter (λ d. same_space s d.space) (parts k 0 [] (declares_row t ls))) (items_from s (k + 1) ds)

-- ---- turns of the loops

spots_app : (xs ys zs : List Spot) → (xs ++ ys) ++ zs ≡ xs ++ (ys ++ zs)
spots_app [] ys zs = refl
spots_app (x ∷ xs) ys zs = ap (λ q. x ∷ q) (spots_app xs ys zs)

pub drop_item : {A : Type 0} (xs : List A) (i : ℕ) (x : A) → i < length xs → x ≡ get_or xs i x → drop i xs ≡ x ∷ drop (i + 1) xs
drop_item xs i x h e = drop_more xs i x h ∙ ap (λ z. z ∷ drop (i + 1) xs) (sym e)

pub leaf_step : (s : Space) (k p next : ℕ) (by : Declares) (x : l.Leaf) (xs : List l.Leaf) (run : Run) (old new : List Spot)
    → run_of run ≡ leaf_spaces (leaf_of x) by → next ≡ p + length (run_of run) → new ≡ old ++ def_spots s k p (run_of run)
    → new ++ def_spots s k next (leaves_spaces (listed xs) by) ≡ old ++ def_spots s k p (leaves_spaces (listed (x ∷ xs)) by)
leaf_step s k p next by x xs run old new e n m =
    ap (λ q. q ++ def_spots s k next (leaves_spaces (listed xs) by)) m
    ∙ spots_app old (def_spots s k p (run_of run)) (def_spots s k next (leaves_spaces (listed xs) by))
    ∙ ap (λ q. old ++ (def_spots s k p (run_of run) ++ def_spots s k q (leaves_spaces (listed xs) by))) n
    ∙ ap (λ q. old ++ q) (sym (def_spots_app s k p (run_of run) (leaves_spaces (listed xs) by)))
    ∙ ap (λ q. old ++ def_spots s k p (q ++ leaves_spaces (listed xs) by)) e

pub def_step : (s : Space) (k next : ℕ) (n : Row) (ds : Defs) (old new : List Spot) → next ≡ k + 1 → new ≡ old ++ def_spots s k 0 (row_spaces n)
    → new ++ map spot_of (items_from s next ds) ≡ old ++ map spot_of (items_from s k (one_def (define no_names n) ds))
def_step s k next n ds old new e m =
    ap (λ q. q ++ map spot_of (items_from s next ds)) m
    ∙ spots_app old (def_spots s k 0 (row_spaces n)) (map spot_of (items_from s next ds))
    ∙ ap (λ q. old ++ (def_spots s k 0 (row_spaces n) ++ map spot_of (items_from s q ds))) e
    ∙ ap (λ q. old ++ q) (sym (items_added s k n ds))

pub def_turn : (s : Space) (k next : ℕ) (defs : List Node) (i : ℕ) (d : Node) (old new : List Spot) → i < length defs
    → next ≡ k + 1 → new ≡ old ++ def_spots s k 0 (declares_row (get_or defs i d).row (listed (get_or defs i d).leaves.now))
    → new ++ map spot_of (items_from s next (defs_listed (drop (i + 1) defs))) ≡ old ++ map spot_of (items_from s k (defs_listed (drop i defs)))
def_turn s k next defs i d old new h n m =
    def_step s k next (node_of (get_or defs i d)) (defs_listed (drop (i + 1) defs)) old new n m
    ∙ ap (λ q. old ++ map spot_of (items_from s k (defs_listed q))) (sym (drop_more defs i d h))

pub item_turn : (s : Space) (k next : ℕ) (xs : List Item) (i : ℕ) (x : Item) (run : Run) (old new : List Spot) → i < length xs → x ≡ get_or xs i x
    → run_of run ≡ row_spaces (item_row x) → next ≡ k + 1 → new ≡ old ++ def_spots s k 0 (run_of run)
    → new ++ map spot_of (items_from s next (items_listed (drop (i + 1) xs))) ≡ old ++ map spot_of (items_from s k (items_listed (drop i xs)))
item_turn s k next xs i x run old new h is e n m =
    def_step s k next (item_row x) (items_listed (drop (i + 1) xs)) old new n (m ∙ ap (λ q. old ++ def_spots s k 0 q) e)
    ∙ ap (λ q. old ++ map spot_of (items_from s k (items_listed q))) (sym (drop_item xs i x h is))

nodes_counted : (ns : List Node) → count_nodes (nodes_listed ns) ≡ length ns
nodes_counted [] = refl
nodes_counted (n ∷ ns) = let e : count_nodes (nodes_listed ns) ≡ length ns = nodes_counted ns in omega (arith, e)

-- a list of core types gives as many items as it has entries
pub nodes_spaces : (x : l.Leaf) (ns : Bor (List Node)) → x ≡ l.Nodes ns → leaf_spaces (leaf_of x) ByList ≡ replicate (length ns.now) CoreType
nodes_spaces x ns e = ap (λ y. leaf_spaces (leaf_of y) ByList) e ∙ ap (λ y. leaf_spaces y ByList) (leaf_nodes ns) ∙ ap (λ n. replicate n CoreType) (nodes_counted ns.now)
