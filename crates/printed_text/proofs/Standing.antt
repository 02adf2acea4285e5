-- Loose parts of a text with numerals alone, beside those of the binary that they stand for.
use Rattle.std.proofs.Common.{◌≡◌, ℕ, ◌+◌, Bool, true, false, cond, ◌&&◌, ◌||◌, List, [], ◌∷◌, ◌++◌, map, length, Option, None, refl, sym, ◌∙◌, ap, subst, is_some}
use Rattle.std.specs.Prelude.{⊤}
use Rattle.std.proofs.Common.{length-append, append-nil, arith}
use Rattle.comp_model.specs.declared.Space.{Space}
use Rattle.comp_model.specs.Core as core
use Rattle.comp_model.specs.Core.{Id, Text, label_or_id}
use Rattle.comp_model.specs.Model as m
use Rattle.comp_model.specs.declared.row.ScopeKind.TheVariants as kinds
use Rattle.comp_model.specs.Model.{Leaf, Leaves, no_leaf, ◌▸◌, Node, row, Nodes, no_node, one_node, Names, no_names, Def, define, Defs, no_def, one_def, Scope, scope_of}
use Rattle.comp_model.specs.declared.row.ScopeKind.{ScopeKind}
use Rattle.comp_model.specs.declared.row.Row.TheVariants as rows
use Rattle.comp_model.specs.declared.row.Row.{Row}
use Rattle.comp_model.specs.RowNumbers.{same_row}
use Rattle.comp_model.specs.ItemNames.{first_or_none, rest_of, PartName, part_names, names_from, any_named, is_component, has_names}
use Rattle.comp_model.specs.Spaces.{declares_row}
use Rattle.comp_scopes.specs.Encoding.{Encoding}
use Rattle.comp_scopes.specs.Form.{coded_node}
use Rattle.comp_scopes.specs.Resolved.{binary_of_leaf, binary_of_leaves, binary_of_nodes, binary_of_defs, section_of}
use Rattle.comp_expanded.specs.IsResolved.{LeavesResolved, LeafResolved, NodesResolved, DefsResolved}
use Rattle.text_rules.specs.Made.{Made, empty, join, leaves_from, nodes_from, defs_from, node_made, def_made, owned, first_row, first_place, turned, in_front, heap_of, path_of, joined_text}
use Rattle.text_rules.specs.Rule as r
use Rattle.text_rules.specs.Makes.{wrapped, swap, alias_leaves}
use Rattle.printed_text.proofs.Opened.{Walk, still, both_walks}
use Rattle.printed_text.specs.Source.{EachNone, Unnamed, LeafUnnamed, LeavesUnnamed, NodesUnnamed, DefsUnnamed}

-- each of one list beside that of the other
pub data Beside {A B : Type 0} (R : A → B → Type 0) : List A → List B → Type 0 where
  none : Beside R [] []
  one : {x : A} {y : B} {xs : List A} {ys : List B} → R x y → Beside R xs ys → Beside R (x ∷ xs) (y ∷ ys)

pub beside_behind : {A B : Type 0} (R : A → B → Type 0) (xs us : List A) (ys vs : List B) → Beside R xs ys → Beside R us vs → Beside R (xs ++ us) (ys ++ vs)
beside_behind R xs us ys vs none k = k
beside_behind R (x ∷ xs) us (y ∷ ys) vs (one h hs) k = one h (beside_behind R xs us ys vs hs k)

-- no index of the binary
abbrev pub LeafWritten : Leaf → Type 0
LeafWritten (m.ref s (m.index i)) = ⊥
LeafWritten (m.core_value (core.ref_index b i)) = ⊥
LeafWritten l = ⊤

-- a part of the text stands for one of the binary
pub record LeafStands (x y : Leaf) : Type 0 where
  pub written : LeafWritten x
  pub numerals : LeafResolved x
  pub nameless : LeafUnnamed x
  pub same : (e : Encoding) → binary_of_leaf e x ≡ y

pub record LeavesStand (xs ys : Leaves) : Type 0 where
  pub numerals : LeavesResolved xs
  pub nameless : LeavesUnnamed xs
  pub same : (e : Encoding) → binary_of_leaves e xs ≡ ys

pub data NodeStands : Node → Node → Type 0 where
  stands : {t : Row} {xs ys : Leaves} → LeavesStand xs ys → NodeStands (row t xs) (row t ys)

pub data DefStands : Def → Def → Type 0 where
  defined : {ns : Names} {t : Row} {xs ys : Leaves} → Unnamed ns → same_row t rows.Producers ≡ false → LeavesStand xs ys → DefStands (define ns (row t xs)) (define no_names (row t ys))

-- loose parts of the binary
pub record Bin : Type 0 where
  pub rows : List Row
  pub leaves : List Leaf
  pub nodes : List Node
  pub defs : List Def
  -- how many ids there are, all of which are missing
  pub count : ℕ
  -- and of the tokens they are made of, the parentheses and the checked items
  pub walk : Walk

abbrev pub nil : Bin
nil = record { rows = []; leaves = []; nodes = []; defs = []; count = 0; walk = still }

abbrev pub bin_join : Bin → Bin → Bin
bin_join a b = record { rows = a.rows ++ b.rows; leaves = a.leaves ++ b.leaves; nodes = a.nodes ++ b.nodes; defs = a.defs ++ b.defs; count = a.count + b.count; walk = both_walks a.walk b.walk }

abbrev pub a_leaf : Leaf → Bin
a_leaf x = record { rows = []; leaves = x ∷ []; nodes = []; defs = []; count = 0; walk = still }

abbrev pub of_row : Row → Bin
of_row t = record { rows = t ∷ []; leaves = []; nodes = []; defs = []; count = 0; walk = still }

pub record MadeStands (a : Made) (b : Bin) : Type 0 where
  pub rows : a.rows ≡ b.rows
  pub leaves : Beside LeafStands a.leaves b.leaves
  pub nodes : Beside NodeStands a.nodes b.nodes
  pub defs : Beside DefStands a.defs b.defs
  pub ids : EachNone a.ids
  pub count : length a.ids ≡ b.count
  pub labels : EachNone a.labels
  pub exports : a.exports ≡ []

-- the same of other tokens
abbrev pub walked : Walk → Bin → Bin
walked w f = record { rows = f.rows; leaves = f.leaves; nodes = f.nodes; defs = f.defs; count = f.count; walk = w }

pub walked_stands : (w : Walk) (a : Made) (f : Bin) → MadeStands a f → MadeStands a (walked w f)
walked_stands w a f h = record { rows = h.rows; leaves = h.leaves; nodes = h.nodes; defs = h.defs; ids = h.ids; count = h.count; labels = h.labels; exports = h.exports }

pub each_none_behind : {A : Type 0} (xs ys : List (Option A)) → EachNone xs → EachNone ys → EachNone (xs ++ ys)
each_none_behind [] ys h k = k
each_none_behind (x ∷ xs) ys h k = (h.0, each_none_behind xs ys h.1 k)

pub empty_stands : MadeStands empty nil
empty_stands = record { rows = refl; leaves = none; nodes = none; defs = none; ids = tt; count = refl; labels = tt; exports = refl }

pub join_stands : (a b : Made) (f g : Bin) → MadeStands a f → MadeStands b g → MadeStands (join a b) (bin_join f g)
join_stands a b f g h k = record {
  rows = ap (λ x. x ++ b.rows) h.rows ∙ ap (λ x. f.rows ++ x) k.rows;
  leaves = beside_behind LeafStands a.leaves b.leaves f.leaves g.leaves h.leaves k.leaves;
  nodes = beside_behind NodeStands a.nodes b.nodes f.nodes g.nodes h.nodes k.nodes;
  defs = beside_behind DefStands a.defs b.defs f.defs g.defs h.defs k.defs;
  ids = each_none_behind a.ids b.ids h.ids k.ids;
  count = let l = length-append a.ids b.ids in omega (arith, l, h.count, k.count);
  labels = each_none_behind a.labels b.labels h.labels k.labels;
  exports = ap (λ x. x ++ b.exports) h.exports ∙ k.exports;
}

-- ---- lists as the model has them

pub leaves_stand : (xs ys : List Leaf) → Beside LeafStands xs ys → LeavesStand (leaves_from xs) (leaves_from ys)
leaves_stand xs ys none = record { numerals = tt; nameless = tt; same = λ e. refl }
leaves_stand (x ∷ xs) (y ∷ ys) (one h hs) =
    let k = leaves_stand xs ys hs in
    record { numerals = (h.numerals, k.numerals); nameless = (h.nameless, k.nameless); same = λ e. ap (λ l. l ▸ binary_of_leaves e (leaves_from xs)) (h.same e) ∙ ap (λ ls. y ▸ ls) (k.same e) }

pub record NodesStand (ns ks : Nodes) : Type 0 where
  pub numerals : NodesResolved ns
  pub nameless : NodesUnnamed ns
  pub same : (e : Encoding) → binary_of_nodes e ns ≡ ks

pub nodes_stand : (xs ys : List Node) → Beside NodeStands xs ys → NodesStand (nodes_from xs) (nodes_from ys)
nodes_stand xs ys none = record { numerals = tt; nameless = tt; same = λ e. refl }
nodes_stand (row t xs ∷ ns) (row u ys ∷ ks) (one (stands h) hs) =
    let k = nodes_stand ns ks hs in
    record { numerals = (h.numerals, k.numerals); nameless = (h.nameless, k.nameless); same = λ e. ap (λ ls. one_node (row t ls) (binary_of_nodes e (nodes_from ns))) (h.same e) ∙ ap (λ js. one_node (row t ys) js) (k.same e) }

pub record DefsStand (ds fs : Defs) : Type 0 where
  pub numerals : DefsResolved ds
  pub nameless : DefsUnnamed ds
  pub same : (e : Encoding) → binary_of_defs e ds no_def ≡ fs

coded_so : (e : Encoding) (t : Row) (ls bs : Leaves) (b : Bool) → same_row t rows.Producers ≡ b → b ≡ false → coded_node e t ls bs ≡ row t bs
coded_so e t ls bs true h k = absurd (cc)
coded_so e t ls bs false h k = ap (λ c. cond c (Rattle.comp_scopes.specs.Form.custom_node (Rattle.std.specs.Prelude.codes "producers") (Rattle.comp_model.specs.Payloads.producers_payload ls)) (row t bs)) h

pub defs_stand : (xs ys : List Def) → Beside DefStands xs ys → DefsStand (defs_from xs) (defs_from ys)
defs_stand xs ys none = record { numerals = tt; nameless = tt; same = λ e. refl }
defs_stand (define ns (row t xs) ∷ ds) (define no_names' (row u ys) ∷ fs) (one (defined h c l) hs) =
    let k = defs_stand ds fs hs in
    record {
      numerals = (h.exports, l.numerals, k.numerals);
      nameless = ((h, c), l.nameless, k.nameless);
      same = λ e. ap (λ n. one_def (define no_names n) (binary_of_defs e (defs_from ds) no_def)) (coded_so e t xs (binary_of_leaves e xs) (same_row t rows.Producers) refl c ∙ ap (row t) (l.same e)) ∙ ap (λ es. one_def (define no_names (row t ys)) es) (k.same e);
    }

-- ---- a scope without names has no name section

first_none : {A : Type 0} (xs : List (Option A)) → EachNone xs → first_or_none xs ≡ None
first_none [] h = refl
first_none (x ∷ xs) h = h.0

rest_none : {A : Type 0} (xs : List (Option A)) → EachNone xs → EachNone (rest_of xs)
rest_none [] h = tt
rest_none (x ∷ xs) h = h.1

no_part_names : (k p : ℕ) (ids : List (Option Id)) (labels : List (Option Text)) (ss : List Space) (ns : List PartName) → EachNone ids → EachNone labels → any_named ns ≡ false → any_named (part_names k p ids labels ss ++ ns) ≡ false
no_part_names k p ids labels [] ns h l n = n
no_part_names k p ids labels (s ∷ ss) ns h l n =
    let e : label_or_id (first_or_none labels) (first_or_none ids) ≡ None = ap (λ x. label_or_id x (first_or_none ids)) (first_none labels l) ∙ ap (label_or_id None) (first_none ids h) in
    ap (λ (o : Option Text). is_some o || any_named (part_names k (p + 1) (rest_of ids) (rest_of labels) ss ++ ns)) e ∙ no_part_names k (p + 1) (rest_of ids) (rest_of labels) ss ns (rest_none ids h) (rest_none labels l) n

no_names_from : (k : ℕ) (ds : Defs) → DefsUnnamed ds → any_named (names_from k ds) ≡ false
no_names_from k no_def h = refl
no_names_from k (one_def (define ns (row t ls)) ds) h = no_part_names k 0 ns.ids ns.labels (declares_row t ls) (names_from (k + 1) ds) (h.0.0).ids (h.0.0).labels (no_names_from (k + 1) ds h.2)

and_no : (a : Bool) → (a && false) ≡ false
and_no true = refl
and_no false = refl

pub unnamed_has_none : (k : ScopeKind) (ds : Defs) → DefsUnnamed ds → has_names (scope_of k None None ds) ≡ false
unnamed_has_none k ds h = ap (λ b. is_component k && b) (no_names_from 0 ds h) ∙ and_no (is_component k)

pub scope_stands : (k : ScopeKind) (xs ys : List Def) → Beside DefStands xs ys → LeafStands (m.scope (scope_of k None None (defs_from xs))) (m.scope (scope_of k None None (defs_from ys)))
scope_stands k xs ys h =
    let d = defs_stand xs ys h in
    record {
      written = tt;
      numerals = d.numerals;
      nameless = (refl, refl, d.nameless);
      same = λ e. ap (λ b. m.scope (scope_of k None None (binary_of_defs e (defs_from xs) (section_of e (scope_of k None None (defs_from xs)) b)))) (unnamed_has_none k (defs_from xs) d.nameless) ∙ ap (λ ds. m.scope (scope_of k None None ds)) (d.same e);
    }

-- ---- what is made of loose parts

first_row_is : (xs : List Row) (t : Row) → xs ≡ t ∷ [] → first_row xs ≡ t
first_row_is xs t e = ap first_row e

node_stands : (a : Made) (t : Row) (ls : List Leaf) → a.rows ≡ t ∷ [] → Beside LeafStands a.leaves ls → NodeStands (node_made a) (row t (leaves_from ls))
node_stands a t ls e h = subst (λ u. NodeStands (row u (leaves_from a.leaves)) (row t (leaves_from ls))) (sym (first_row_is a.rows t e)) (stands (leaves_stand a.leaves ls h))

pub entry_stands : (a : Made) (t : Row) (f : Bin) → MadeStands a f → f.rows ≡ t ∷ [] → MadeStands (wrapped r.an_entry a) (record { rows = []; leaves = []; nodes = f.nodes ++ row t (leaves_from f.leaves) ∷ []; defs = f.defs; count = f.count; walk = still })
entry_stands a t f h e = record {
  rows = refl;
  leaves = none;
  nodes = beside_behind NodeStands a.nodes (node_made a ∷ []) f.nodes (row t (leaves_from f.leaves) ∷ []) h.nodes (one (node_stands a t f.leaves (h.rows ∙ e) h.leaves) none);
  defs = h.defs;
  ids = h.ids;
  count = h.count;
  labels = h.labels;
  exports = h.exports;
}

node_leaf : (n k : Node) → NodeStands n k → LeafStands (m.node n) (m.node k)
node_leaf (row t xs) (row u ys) (stands h) = record { written = tt; numerals = h.numerals; nameless = h.nameless; same = λ e. ap (λ ls. m.node (row t ls)) (h.same e) }

pub node_wrapped : (a : Made) (t : Row) (f : Bin) → MadeStands a f → f.rows ≡ t ∷ [] → MadeStands (wrapped r.a_node a) (record { rows = []; leaves = m.node (row t (leaves_from f.leaves)) ∷ []; nodes = f.nodes; defs = f.defs; count = f.count; walk = still })
node_wrapped a t f h e = record { rows = refl; leaves = one (node_leaf _ _ (node_stands a t f.leaves (h.rows ∙ e) h.leaves)) none; nodes = h.nodes; defs = h.defs; ids = h.ids; count = h.count; labels = h.labels; exports = h.exports }

nodes_leaf : (xs ys : List Node) → Beside NodeStands xs ys → LeafStands (m.nodes (nodes_from xs)) (m.nodes (nodes_from ys))
nodes_leaf xs ys h = let k = nodes_stand xs ys h in record { written = tt; numerals = k.numerals; nameless = k.nameless; same = λ e. ap m.nodes (k.same e) }

pub list_wrapped : (a : Made) (f : Bin) → MadeStands a f → MadeStands (wrapped r.a_list a) (record { rows = f.rows; leaves = f.leaves ++ m.nodes (nodes_from f.nodes) ∷ []; nodes = []; defs = f.defs; count = f.count; walk = still })
list_wrapped a f h = record { rows = h.rows; leaves = beside_behind LeafStands a.leaves (m.nodes (nodes_from a.nodes) ∷ []) f.leaves (m.nodes (nodes_from f.nodes) ∷ []) h.leaves (one (nodes_leaf a.nodes f.nodes h.nodes) none); nodes = none; defs = h.defs; ids = h.ids; count = h.count; labels = h.labels; exports = h.exports }

part_leaf : (xs : List Leaf) (y : Leaf) → Beside LeafStands xs (y ∷ []) → LeafStands (m.present (Rattle.text_rules.specs.Made.first_leaf xs)) (m.present y)
part_leaf [] y h = elim h [ ]
part_leaf (x ∷ xs) y (one h hs) = record { written = tt; numerals = h.numerals; nameless = h.nameless; same = λ e. ap m.present (h.same e) }

pub part_wrapped : (a : Made) (f : Bin) (y : Leaf) → MadeStands a f → f.leaves ≡ y ∷ [] → MadeStands (wrapped r.a_part a) (record { rows = f.rows; leaves = m.present y ∷ []; nodes = f.nodes; defs = f.defs; count = f.count; walk = still })
part_wrapped a f y h e = record { rows = h.rows; leaves = one (part_leaf a.leaves y (subst (Beside LeafStands a.leaves) e h.leaves)) none; nodes = h.nodes; defs = h.defs; ids = h.ids; count = h.count; labels = h.labels; exports = h.exports }

pub dropped_wrapped : (a : Made) → MadeStands (wrapped r.dropped a) nil
dropped_wrapped a = empty_stands

pub scope_wrapped : (k : ScopeKind) (a : Made) (f : Bin) → MadeStands a f → MadeStands (wrapped (r.a_scope k) a) (record { rows = f.rows; leaves = f.leaves ++ m.scope (scope_of k None None (defs_from f.defs)) ∷ []; nodes = f.nodes; defs = []; count = f.count; walk = still })
scope_wrapped k a f h = record { rows = h.rows; leaves = beside_behind LeafStands a.leaves _ f.leaves _ h.leaves (one (scope_stands k a.defs f.defs h.defs) none); nodes = h.nodes; defs = none; ids = h.ids; count = h.count; labels = h.labels; exports = h.exports }

-- ---- definitions

owned_same : (x : Leaf) → LeafUnnamed x → owned None None x ≡ x
owned_same (m.scope (scope_of kinds.Component id label ds)) h = ap (λ i. m.scope (scope_of kinds.Component i None ds)) (sym h.0) ∙ ap (λ l. m.scope (scope_of kinds.Component id l ds)) (sym h.1)
owned_same (m.scope (scope_of kinds.ComponentType id label ds)) h = ap (λ i. m.scope (scope_of kinds.ComponentType i None ds)) (sym h.0) ∙ ap (λ l. m.scope (scope_of kinds.ComponentType id l ds)) (sym h.1)
owned_same (m.scope (scope_of kinds.InstanceType id label ds)) h = ap (λ i. m.scope (scope_of kinds.InstanceType i None ds)) (sym h.0) ∙ ap (λ l. m.scope (scope_of kinds.InstanceType id l ds)) (sym h.1)
owned_same (m.scope (scope_of kinds.ModuleType id label ds)) h = ap (λ i. m.scope (scope_of kinds.ModuleType i None ds)) (sym h.0) ∙ ap (λ l. m.scope (scope_of kinds.ModuleType id l ds)) (sym h.1)
owned_same (m.core_source c) h = absurd h
owned_same x h = refl

owned_all : (xs ys : List Leaf) → Beside LeafStands xs ys → map (owned None None) xs ≡ xs
owned_all xs ys none = refl
owned_all (x ∷ xs) (y ∷ ys) (one h hs) = ap (λ l. l ∷ map (owned None None) xs) (owned_same x h.nameless) ∙ ap (λ ls. x ∷ ls) (owned_all xs ys hs)

owned_list : (a : Made) (ls : List Leaf) → EachNone a.ids → EachNone a.labels → Beside LeafStands a.leaves ls → map (owned (first_or_none a.ids) (first_or_none a.labels)) a.leaves ≡ a.leaves
owned_list a ls h l b = ap (λ i. map (owned i (first_or_none a.labels)) a.leaves) (first_none a.ids h) ∙ ap (λ t. map (owned None t) a.leaves) (first_none a.labels l) ∙ owned_all a.leaves ls b

def_stands : (a : Made) (t : Row) (f : Bin) → MadeStands a f → f.rows ≡ t ∷ [] → same_row t rows.Producers ≡ false → DefStands (def_made a) (define no_names (row t (leaves_from f.leaves)))
def_stands a t f h e c =
    let ns : Names = record { ids = a.ids; labels = a.labels; exports = a.exports; offset = first_place a.places } in
    subst (λ ls. DefStands (define ns (row (first_row a.rows) (leaves_from ls))) (define no_names (row t (leaves_from f.leaves)))) (sym (owned_list a f.leaves h.ids h.labels h.leaves))
    (subst (λ u. DefStands (define ns (row u (leaves_from a.leaves))) (define no_names (row t (leaves_from f.leaves)))) (sym (first_row_is a.rows t (h.rows ∙ e)))
    (defined (record { ids = h.ids; labels = h.labels; exports = h.exports }) c (leaves_stand a.leaves f.leaves h.leaves)))

pub def_wrapped : (a : Made) (t : Row) (f : Bin) → MadeStands a f → f.rows ≡ t ∷ [] → same_row t rows.Producers ≡ false → MadeStands (wrapped r.a_def a) (record { rows = []; leaves = []; nodes = f.nodes; defs = f.defs ++ define no_names (row t (leaves_from f.leaves)) ∷ []; count = 0; walk = still })
def_wrapped a t f h e c = record { rows = refl; leaves = none; nodes = h.nodes; defs = beside_behind DefStands a.defs (def_made a ∷ []) f.defs _ h.defs (one (def_stands a t f h e c) none); ids = tt; count = refl; labels = tt; exports = refl }

-- ---- leaves in another order

swap_beside : (xs : List Leaf) (x y z : Leaf) → Beside LeafStands xs (x ∷ y ∷ z ∷ []) → Beside LeafStands (swap xs) (x ∷ z ∷ y ∷ [])
swap_beside [] x y z h = elim h [ ]
swap_beside (a ∷ []) x y z (one h t) = elim t [ ]
swap_beside (a ∷ b ∷ []) x y z (one h (one k t)) = elim t [ ]
swap_beside (a ∷ b ∷ c ∷ d ∷ es) x y z (one h (one k (one l t))) = elim t [ ]
swap_beside (a ∷ b ∷ c ∷ []) x y z (one h (one k (one l none))) = one h (one l (one k none))

pub swapped_wrapped : (a : Made) (f : Bin) (x y z : Leaf) → MadeStands a f → f.leaves ≡ x ∷ y ∷ z ∷ [] → MadeStands (wrapped r.swapped a) (record { rows = f.rows; leaves = x ∷ z ∷ y ∷ []; nodes = f.nodes; defs = f.defs; count = f.count; walk = still })
swapped_wrapped a f x y z h e = record { rows = h.rows; leaves = swap_beside a.leaves x y z (subst (Beside LeafStands a.leaves) e h.leaves); nodes = h.nodes; defs = h.defs; ids = h.ids; count = h.count; labels = h.labels; exports = h.exports }

turn_beside : (x : Leaf) (y : Leaf) (xs ys us vs : List Leaf) → LeafStands x y → Beside LeafStands xs ys → Beside LeafStands us vs → Beside LeafStands (in_front x xs us) (in_front y ys vs)
turn_beside x y xs ys us vs h none k = one h k
turn_beside x y (p ∷ xs) (q ∷ ys) us vs h (one g gs) k = turn_beside p q xs ys (us ++ x ∷ []) (vs ++ y ∷ []) g gs (beside_behind LeafStands us (x ∷ []) vs (y ∷ []) k (one h none))

turned_beside : (xs ys : List Leaf) → Beside LeafStands xs ys → Beside LeafStands (turned xs) (turned ys)
turned_beside xs ys none = none
turned_beside (x ∷ xs) (y ∷ ys) (one h hs) = turn_beside x y xs ys [] [] h hs none

pub last_first_wrapped : (a : Made) (f : Bin) → MadeStands a f → MadeStands (wrapped r.last_first a) (record { rows = f.rows; leaves = turned f.leaves; nodes = f.nodes; defs = f.defs; count = f.count; walk = still })
last_first_wrapped a f h = record { rows = h.rows; leaves = turned_beside a.leaves f.leaves h.leaves; nodes = h.nodes; defs = h.defs; ids = h.ids; count = h.count; labels = h.labels; exports = h.exports }

-- ---- what stands for a reference, a kind, a text

pub data IsReference (s : Space) (i : ℕ) : Leaf → Type 0 where
  a_numeral : {o : ℕ} → IsReference s i (m.ref s (m.numeral o i))

ref_parts : (s u : Space) (o n i : ℕ) → m.ref s (m.index n) ≡ m.ref u (m.index i) → IsReference u i (m.ref s (m.numeral o n))
ref_parts s u o n i e =
    let a : s ≡ u = ap space_of e in
    let b : n ≡ i = ap index_of e in
    subst (λ v. IsReference v i (m.ref s (m.numeral o n))) a (subst (λ j. IsReference s j (m.ref s (m.numeral o n))) b a_numeral)
  where
    space_of : Leaf → Space
    space_of (m.ref v t) = v
    space_of _ = s

    index_of : Leaf → ℕ
    index_of (m.ref v (m.index j)) = j
    index_of _ = 0

abbrev an_encoding : Encoding
an_encoding = record { core_bytes = λ c. []; core_refusal = λ c. None }

abbrev is_ref : Leaf → Bool
is_ref (m.ref s t) = true
is_ref _ = false

abbrev is_text : Leaf → Bool
is_text (m.text t) = true
is_text _ = false

abbrev is_kind : Leaf → Bool
is_kind (m.kind t) = true
is_kind _ = false

pub reference_of : (x : Leaf) (u : Space) (i : ℕ) → LeafStands x (m.ref u (m.index i)) → IsReference u i x
reference_of (m.ref s (m.index j)) u i h = absurd h.written
reference_of (m.ref s (m.numeral o n)) u i h = ref_parts s u o n i (h.same an_encoding)
reference_of (m.ref s (m.name y x)) u i h = absurd h.numerals
reference_of (m.ref s (m.path p)) u i h = absurd h.numerals
reference_of (m.ref s (m.inline n)) u i h = absurd h.numerals
reference_of (m.ref s (m.bundle n)) u i h = absurd h.numerals
reference_of (m.core_value (core.ref_numeral b o n)) u i h = absurd (let e : false ≡ true = ap is_ref (h.same an_encoding) in cc)
reference_of (m.core_value v) u i h = absurd (let e : false ≡ true = ap is_ref (h.same an_encoding) in cc)
reference_of (m.place (core.counted o d)) u i h = absurd (let e : false ≡ true = ap is_ref (h.same an_encoding) in cc)
reference_of (m.place (core.named o d)) u i h = absurd (let e : false ≡ true = ap is_ref (h.same an_encoding) in cc)
reference_of (m.node (row t ls)) u i h = absurd (let e : false ≡ true = ap is_ref (h.same an_encoding) in cc)
reference_of (m.scope (scope_of k id label ds)) u i h = absurd (let e : false ≡ true = ap is_ref (h.same an_encoding) in cc)
reference_of x u i h = absurd (let e : false ≡ true = ap is_ref (h.same an_encoding) in cc)

-- what a text stands for
pub data IsText (t : Text) : Leaf → Type 0 where
  the_text : IsText t (m.text t)

text_parts : (x t : Text) → m.text x ≡ m.text t → IsText t (m.text x)
text_parts x t e = subst (λ y. IsText y (m.text x)) (ap of_text e) the_text
  where
    of_text : Leaf → Text
    of_text (m.text y) = y
    of_text _ = x

pub text_of_leaf : (x : Leaf) (t : Text) → LeafStands x (m.text t) → IsText t x
text_of_leaf (m.text y) t h = text_parts y t (h.same an_encoding)
text_of_leaf (m.ref s (m.numeral o n)) t h = absurd (let e : false ≡ true = ap is_text (h.same an_encoding) in cc)
text_of_leaf (m.ref s (m.index n)) t h = absurd (let e : false ≡ true = ap is_text (h.same an_encoding) in cc)
text_of_leaf (m.ref s (m.name y x)) t h = absurd h.numerals
text_of_leaf (m.ref s (m.path p)) t h = absurd h.numerals
text_of_leaf (m.ref s (m.inline n)) t h = absurd h.numerals
text_of_leaf (m.ref s (m.bundle n)) t h = absurd h.numerals
text_of_leaf (m.core_value (core.ref_numeral b o n)) t h = absurd (let e : false ≡ true = ap is_text (h.same an_encoding) in cc)
text_of_leaf (m.core_value v) t h = absurd (let e : false ≡ true = ap is_text (h.same an_encoding) in cc)
text_of_leaf (m.place (core.counted o d)) t h = absurd (let e : false ≡ true = ap is_text (h.same an_encoding) in cc)
text_of_leaf (m.place (core.named o d)) t h = absurd h.numerals
text_of_leaf (m.node (row u ls)) t h = absurd (let e : false ≡ true = ap is_text (h.same an_encoding) in cc)
text_of_leaf (m.scope (scope_of k id label ds)) t h = absurd (let e : false ≡ true = ap is_text (h.same an_encoding) in cc)
text_of_leaf x t h = absurd (let e : false ≡ true = ap is_text (h.same an_encoding) in cc)

-- what a kind stands for
pub data IsKind (s : Space) : Leaf → Type 0 where
  the_kind : IsKind s (m.kind s)

kind_parts : (x t : Space) → m.kind x ≡ m.kind t → IsKind t (m.kind x)
kind_parts x t e = subst (λ y. IsKind y (m.kind x)) (ap of_kind e) the_kind
  where
    of_kind : Leaf → Space
    of_kind (m.kind y) = y
    of_kind _ = x

pub kind_of_leaf : (x : Leaf) (t : Space) → LeafStands x (m.kind t) → IsKind t x
kind_of_leaf (m.kind y) t h = kind_parts y t (h.same an_encoding)
kind_of_leaf (m.ref s (m.numeral o n)) t h = absurd (let e : false ≡ true = ap is_kind (h.same an_encoding) in cc)
kind_of_leaf (m.ref s (m.index n)) t h = absurd (let e : false ≡ true = ap is_kind (h.same an_encoding) in cc)
kind_of_leaf (m.ref s (m.name y x)) t h = absurd h.numerals
kind_of_leaf (m.ref s (m.path p)) t h = absurd h.numerals
kind_of_leaf (m.ref s (m.inline n)) t h = absurd h.numerals
kind_of_leaf (m.ref s (m.bundle n)) t h = absurd h.numerals
kind_of_leaf (m.core_value (core.ref_numeral b o n)) t h = absurd (let e : false ≡ true = ap is_kind (h.same an_encoding) in cc)
kind_of_leaf (m.core_value v) t h = absurd (let e : false ≡ true = ap is_kind (h.same an_encoding) in cc)
kind_of_leaf (m.place (core.counted o d)) t h = absurd (let e : false ≡ true = ap is_kind (h.same an_encoding) in cc)
kind_of_leaf (m.place (core.named o d)) t h = absurd h.numerals
kind_of_leaf (m.node (row u ls)) t h = absurd (let e : false ≡ true = ap is_kind (h.same an_encoding) in cc)
kind_of_leaf (m.scope (scope_of k id label ds)) t h = absurd (let e : false ≡ true = ap is_kind (h.same an_encoding) in cc)
kind_of_leaf x t h = absurd (let e : false ≡ true = ap is_kind (h.same an_encoding) in cc)

-- ---- references made into something else

heap_beside : (b : Bool) (xs : List Leaf) (u : Space) (i : ℕ) → Beside LeafStands xs (m.ref u (m.index i) ∷ []) → Beside LeafStands (heap_of b xs) (m.core_value (core.ref_index b i) ∷ [])
heap_beside b [] u i h = elim h [ ]
heap_beside b (x ∷ y ∷ xs) u i (one h t) = elim t [ ]
heap_beside b (x ∷ []) u i (one h none) = heap_one b x u i (reference_of x u i h)
  where
    heap_one : (b : Bool) (x : Leaf) (u : Space) (i : ℕ) → IsReference u i x → Beside LeafStands (heap_of b (x ∷ [])) (m.core_value (core.ref_index b i) ∷ [])
    heap_one b x u i a_numeral = one (record { written = tt; numerals = tt; nameless = tt; same = λ e. refl }) none

pub heap_wrapped : (b : Bool) (a : Made) (f : Bin) (u : Space) (i : ℕ) → MadeStands a f → f.leaves ≡ m.ref u (m.index i) ∷ [] → MadeStands (wrapped (r.heap b) a) (record { rows = f.rows; leaves = m.core_value (core.ref_index b i) ∷ []; nodes = f.nodes; defs = f.defs; count = f.count; walk = still })
heap_wrapped b a f u i h e = record { rows = h.rows; leaves = heap_beside b a.leaves u i (subst (Beside LeafStands a.leaves) e h.leaves); nodes = h.nodes; defs = h.defs; ids = h.ids; count = h.count; labels = h.labels; exports = h.exports }

path_one : (x : Leaf) → path_of (x ∷ []) ≡ x ∷ []
path_one (m.ref u t) = refl
path_one x = refl

path_beside : (xs : List Leaf) (y : Leaf) → Beside LeafStands xs (y ∷ []) → Beside LeafStands (path_of xs) (y ∷ [])
path_beside [] y h = elim h [ ]
path_beside (x ∷ z ∷ xs) y (one h t) = elim t [ ]
path_beside (x ∷ []) y (one h none) = subst (λ l. Beside LeafStands l (y ∷ [])) (sym (path_one x)) (one h none)

pub path_wrapped : (a : Made) (f : Bin) (y : Leaf) → MadeStands a f → f.leaves ≡ y ∷ [] → MadeStands (wrapped r.path a) (record { rows = f.rows; leaves = y ∷ []; nodes = f.nodes; defs = f.defs; count = f.count; walk = still })
path_wrapped a f y h e = record { rows = h.rows; leaves = path_beside a.leaves y (subst (Beside LeafStands a.leaves) e h.leaves); nodes = h.nodes; defs = h.defs; ids = h.ids; count = h.count; labels = h.labels; exports = h.exports }

joined_beside : (xs : List Leaf) (t : Text) → Beside LeafStands xs (m.text t ∷ []) → LeafStands (m.text (joined_text xs)) (m.text t)
joined_beside [] t h = elim h [ ]
joined_beside (x ∷ z ∷ xs) t (one h k) = elim k [ ]
joined_beside (x ∷ []) t (one h none) = joined_one x t (text_of_leaf x t h)
  where
    joined_one : (x : Leaf) (t : Text) → IsText t x → LeafStands (m.text (joined_text (x ∷ []))) (m.text t)
    joined_one x t the_text = record { written = tt; numerals = tt; nameless = tt; same = λ e. ap m.text (append-nil t) }

pub joined_wrapped : (a : Made) (f : Bin) (t : Text) → MadeStands a f → f.leaves ≡ m.text t ∷ [] → MadeStands (wrapped r.joined a) (record { rows = f.rows; leaves = m.text t ∷ []; nodes = f.nodes; defs = f.defs; count = f.count; walk = still })
joined_wrapped a f t h e = record { rows = h.rows; leaves = one (joined_beside a.leaves t (subst (Beside LeafStands a.leaves) e h.leaves)) none; nodes = h.nodes; defs = h.defs; ids = h.ids; count = h.count; labels = h.labels; exports = h.exports }

outer_beside : (o : ℕ) (xs : List Leaf) (u v k : Space) (d i : ℕ) → Beside LeafStands xs (m.ref u (m.index d) ∷ m.ref v (m.index i) ∷ m.kind k ∷ []) → Beside LeafStands (alias_leaves o xs) (m.place (core.counted 0 d) ∷ m.ref k (m.index i) ∷ m.kind k ∷ [])
outer_beside o [] u v k d i h = elim h [ ]
outer_beside o (a ∷ []) u v k d i (one h t) = elim t [ ]
outer_beside o (a ∷ b ∷ []) u v k d i (one h (one g t)) = elim t [ ]
outer_beside o (a ∷ b ∷ c ∷ e ∷ es) u v k d i (one h (one g (one l t))) = elim t [ ]
outer_beside o (a ∷ b ∷ c ∷ []) u v k d i (one h (one g (one l none))) = outer_one a b c (reference_of a u d h) (reference_of b v i g) (kind_of_leaf c k l)
  where
    outer_one : (a b c : Leaf) → IsReference u d a → IsReference v i b → IsKind k c → Beside LeafStands (alias_leaves o (a ∷ b ∷ c ∷ [])) (m.place (core.counted 0 d) ∷ m.ref k (m.index i) ∷ m.kind k ∷ [])
    outer_one a b c a_numeral a_numeral the_kind =
        one (record { written = tt; numerals = tt; nameless = tt; same = λ e. refl }) (one (record { written = tt; numerals = tt; nameless = tt; same = λ e. refl }) (one (record { written = tt; numerals = tt; nameless = tt; same = λ e. refl }) none))

pub outer_wrapped : (a : Made) (f : Bin) (u v k : Space) (d i : ℕ) → MadeStands a f → f.leaves ≡ m.ref u (m.index d) ∷ m.ref v (m.index i) ∷ m.kind k ∷ []
    → MadeStands (wrapped r.outer a) (record { rows = f.rows; leaves = m.place (core.counted 0 d) ∷ m.ref k (m.index i) ∷ m.kind k ∷ []; nodes = f.nodes; defs = f.defs; count = f.count; walk = still })
outer_wrapped a f u v k d i h e = record { rows = h.rows; leaves = outer_beside (first_place a.places) a.leaves u v k d i (subst (Beside LeafStands a.leaves) e h.leaves); nodes = h.nodes; defs = h.defs; ids = h.ids; count = h.count; labels = h.labels; exports = h.exports }

pub results_wrapped : (a : Made) (f : Bin) → MadeStands a f → MadeStands (wrapped r.results a) (record { rows = f.rows; leaves = f.leaves ++ m.result_count f.count ∷ []; nodes = f.nodes; defs = f.defs; count = f.count; walk = still })
results_wrapped a f h = record { rows = h.rows; leaves = beside_behind LeafStands a.leaves (m.result_ids a.ids ∷ []) f.leaves (m.result_count f.count ∷ []) h.leaves (one (record { written = tt; numerals = tt; nameless = h.ids; same = λ e. ap m.result_count h.count }) none); nodes = h.nodes; defs = h.defs; ids = h.ids; count = h.count; labels = h.labels; exports = h.exports }

cond_no : {A : Type 0} (b : Bool) (x y : A) → b ≡ false → cond b x y ≡ y
cond_no true x y e = absurd (cc)
cond_no false x y e = refl

pub alone_wrapped : (t u : Row) (a : Made) (f : Bin) → MadeStands a f → f.rows ≡ u ∷ [] → same_row u t ≡ false → MadeStands (wrapped (r.alone t) a) f
alone_wrapped t u a f h e c = subst (λ x. MadeStands x f) (sym (cond_no (same_row (first_row a.rows) t) (record empty { rows = a.rows }) a (ap (λ k. same_row (first_row k) t) (h.rows ∙ e) ∙ c))) h

kept_beside : (o : ℕ) (xs : List Leaf) (u : Space) (d : ℕ) (t : Text) (z : Leaf) → Beside LeafStands xs (m.ref u (m.index d) ∷ m.text t ∷ z ∷ []) → Beside LeafStands (alias_leaves o xs) (m.ref u (m.index d) ∷ m.text t ∷ z ∷ [])
kept_beside o [] u d t z h = elim h [ ]
kept_beside o (a ∷ []) u d t z (one h k) = elim k [ ]
kept_beside o (a ∷ b ∷ []) u d t z (one h (one g k)) = elim k [ ]
kept_beside o (a ∷ b ∷ c ∷ e ∷ es) u d t z (one h (one g (one l k))) = elim k [ ]
kept_beside o (a ∷ b ∷ c ∷ []) u d t z (one h (one g (one l none))) = kept_one a b c (reference_of a u d h) (text_of_leaf b t g) h g l
  where
    kept_one : (a b c : Leaf) → IsReference u d a → IsText t b → LeafStands a (m.ref u (m.index d)) → LeafStands b (m.text t) → LeafStands c z → Beside LeafStands (alias_leaves o (a ∷ b ∷ c ∷ [])) (m.ref u (m.index d) ∷ m.text t ∷ z ∷ [])
    kept_one a b c a_numeral the_text h g l = one h (one g (one l none))

pub outer_kept : (a : Made) (f : Bin) (u : Space) (d : ℕ) (t : Text) (z : Leaf) → MadeStands a f → f.leaves ≡ m.ref u (m.index d) ∷ m.text t ∷ z ∷ []
    → MadeStands (wrapped r.outer a) (record { rows = f.rows; leaves = m.ref u (m.index d) ∷ m.text t ∷ z ∷ []; nodes = f.nodes; defs = f.defs; count = f.count; walk = still })
outer_kept a f u d t z h e = record { rows = h.rows; leaves = kept_beside (first_place a.places) a.leaves u d t z (subst (Beside LeafStands a.leaves) e h.leaves); nodes = h.nodes; defs = h.defs; ids = h.ids; count = h.count; labels = h.labels; exports = h.exports }
