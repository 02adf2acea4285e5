-- A scope that is written by the table of rows meets what the laws ask of rows.
use Rattle.std.proofs.Common.{◌≡◌, ℕ, zero, suc, Bool, true, false, ◌&&◌, ◌||◌, cond, replicate, IsFalse, List, [], ◌∷◌, ◌++◌, length, refl, sym, ap, subst}
use Rattle.comp_model.specs.declared.Space.{Space}
use Rattle.comp_model.specs.declared.Space.TheVariants.{CoreType, CoreInstance, Ty, Instance, Value}
use Rattle.comp_model.specs.declared.row.Row.TheVariants as rows
use Rattle.comp_model.specs.declared.row.Row.{Row}
use Rattle.comp_model.specs.RowNumbers.{same_row, is_row}
use Rattle.comp_model.specs.Core.{Text, CoreValue, ref_index}
use Rattle.comp_model.specs.Model.{Leaf, text, core_value, ref, present, node, nodes, result_ids, result_count, module_bytes, scope, index, inline, bundle, Leaves, no_leaf, ◌▸◌, row, Nodes, no_node, one_node, count_nodes, define, Defs, no_def, one_def, Scope, scope_of}
use Rattle.comp_model.specs.declared.row.ScopeKind.{ScopeKind}
use Rattle.comp_model.specs.declared.declares.Declares.{Declares}
use Rattle.comp_model.specs.declared.declares.Declares.TheVariants.{Always, ByKind, ByDescription, ByReference, ByList, ByResults, Nothing}
use Rattle.comp_model.specs.Spaces.{declares_by, described, leaf_spaces, leaves_spaces, spaces_by, declares_row}
use Rattle.comp_model.specs.Rows.{Shape, a_text, a_kind, a_core_kind, a_placed_ref, an_index, a_ref, a_ref_of, any_ref, a_function_use, a_component_use, an_instance_use, a_module_use, a_signature_use, an_argument, a_core_argument, a_value_type, a_name, an_option, a_node, a_list, a_scope, value_rows, inline_rows, bundle_rows, leaves_of, fits_space, fits_kind, the_option, is_list, is_kind, is_results, rows_of_node, rows_of_list, has_scope, ShapedLeaf, ShapedLeaves, ShapedNodes, ShapedDefs, FitsRows}
use Rattle.comp_model.specs.Written.{ExportsWritten, IsWrittenLeaf, AreWrittenLeaves, AreWrittenNodes, AreWrittenDefs, IsWritten}
use Rattle.comp_model.proofs.Tests.{same_row-true, same_space-true}
use Rattle.comp_scopes.specs.Rowed.{holds_scope, leaf_holds_scope, nodes_hold_scope, EachIs, AllSame, ExportsRowed, Textual, TextualLeaf, TextualNodes, ProducersRowed, DefsRowed, LeavesRowed, LeafRowed, NodesRowed, Rowed}
use Rattle.comp_scopes.proofs.Among.{and-both, all, among}

-- ---- at most one scope in a node

-- a shape that may hold a scope
abbrev bears : Shape → Bool
bears (a_scope k) = true
bears (an_option s) = bears s
bears _ = false

abbrev none_bears : List Shape → Bool
none_bears [] = true
none_bears (s ∷ ss) = cond (bears s) false (none_bears ss)

abbrev one_bears : List Shape → Bool
one_bears [] = true
one_bears (s ∷ ss) = cond (bears s) (none_bears ss) (one_bears ss)

-- rows that hold no scope
abbrev none_hold : List Row → Bool
none_hold ts = all (λ t. none_bears (leaves_of t)) ts

-- the nodes of a shape hold no scope
abbrev tame : Shape → Bool
tame (an_option s) = tame s
tame (a_node ts) = none_hold ts
tame (a_list ts) = none_hold ts
tame _ = true

abbrev all_tame : List Shape → Bool
all_tame [] = true
all_tame (s ∷ ss) = tame s && all_tame ss

-- the whole table
leaves-tame : (t : Row) → all_tame (leaves_of t) ≡ true
leaves-tame rows.CoreModule = refl
leaves-tame _ = refl

leaves-one : (t : Row) → one_bears (leaves_of t) ≡ true
leaves-one rows.CoreModule = refl
leaves-one _ = refl

false-true : {A : Type 0} → false ≡ true → A
false-true h = absurd (cc)

row-none : (t : Row) (ts : List Row) → is_row t ts ≡ true → none_hold ts ≡ true → none_bears (leaves_of t) ≡ true
row-none t ts h g = among (λ u. none_bears (leaves_of u)) t ts h g

name-tame : (s : Shape) → tame s ≡ true → none_hold (rows_of_node s) ≡ true
name-tame (a_node ts) h = h
name-tame _ h = refl

list-tame : (s : Shape) → tame s ≡ true → none_hold (rows_of_list s) ≡ true
list-tame (a_list ts) h = h
list-tame _ h = refl

option-tame : (s : Shape) → tame s ≡ true → tame (the_option s) ≡ true
option-tame (an_option s) h = h
option-tame s h = h

option-bears : (s : Shape) → bears s ≡ false → bears (the_option s) ≡ false
option-bears (an_option s) h = h
option-bears s h = h

none-first : (s : Shape) (ss : List Shape) → none_bears (s ∷ ss) ≡ true → (bears s ≡ false) × (none_bears ss ≡ true)
none-first s ss h = go (bears s) refl h
  where
    go : (b : Bool) → bears s ≡ b → cond b false (none_bears ss) ≡ true → (bears s ≡ false) × (none_bears ss ≡ true)
    go true q r = false-true r
    go false q r = (q, r)

scope-bears : (s : Shape) (k : ScopeKind) → has_scope s k ≡ true → bears s ≡ false → ⊥
scope-bears (a_scope j) k h g = cc
scope-bears s k h g = false-true h

mutual
  -- leaves of shapes that bear no scope hold none
  leaves-none : (ls : Leaves) (ss : List Shape) → ShapedLeaves ls ss → all_tame ss ≡ true → none_bears ss ≡ true → holds_scope ls ≡ false
  leaves-none no_leaf ss f a n = refl
  leaves-none (l ▸ ls) [] f a n = absurd f
  leaves-none (l ▸ ls) (s ∷ ss) f a n =
      let x : (tame s ≡ true) × (all_tame ss ≡ true) = and-both (tame s) (all_tame ss) a in
      let y : (bears s ≡ false) × (none_bears ss ≡ true) = none-first s ss n in
      rw (leaf-none l s f.0 x.0 y.0) (leaves-none ls ss f.1 x.1 y.1)

  leaf-none : (l : Leaf) (s : Shape) → ShapedLeaf l s → tame s ≡ true → bears s ≡ false → leaf_holds_scope l ≡ false
  leaf-none (present l) s f a n = leaf-none l (the_option s) f.1 (option-tame s a) (option-bears s n)
  leaf-none (node (row t ls)) s f a n = leaves-none ls (leaves_of t) f.1 (leaves-tame t) (row-none t (rows_of_node s) f.0 (name-tame s a))
  leaf-none (nodes ns) s f a n = nodes-none ns (rows_of_list s) f.1 (list-tame s a)
  leaf-none (scope (scope_of k id label ds)) s f a n = absurd (scope-bears s k f.0 n)
  leaf-none l s f a n = refl

  nodes-none : (ns : Nodes) (ts : List Row) → ShapedNodes ns ts → none_hold ts ≡ true → nodes_hold_scope ns ≡ false
  nodes-none no_node ts f a = refl
  nodes-none (one_node (row t ls) ns) ts f a = rw (leaves-none ls (leaves_of t) f.1 (leaves-tame t) (row-none t ts f.0 a)) (nodes-none ns ts f.2 a)

-- ---- one space for all parts

-- whether a leaf of the shape may give spaces
abbrev gives : Declares → Shape → Bool
gives ByKind s = is_kind s
gives ByDescription (a_node ts) = true
gives ByReference (an_index s) = true
gives ByReference (a_ref s) = true
gives ByReference (a_ref_of ss) = true
gives ByReference any_ref = true
gives ByReference a_value_type = true
gives ByReference a_placed_ref = true
gives ByReference a_function_use = true
gives ByReference a_component_use = true
gives ByReference an_instance_use = true
gives ByReference a_module_use = true
gives ByReference a_signature_use = true
gives ByReference an_argument = true
gives ByReference a_core_argument = true
gives ByList s = is_list s
gives ByResults s = is_results s
gives _ _ = false

abbrev none_gives : Declares → List Shape → Bool
none_gives d [] = true
none_gives d (s ∷ ss) = cond (gives d s) false (none_gives d ss)

abbrev one_gives : Declares → List Shape → Bool
one_gives d [] = true
one_gives d (s ∷ ss) = cond (gives d s) (none_gives d ss) (one_gives d ss)

leaves-give : (t : Row) → one_gives (declares_by t) (leaves_of t) ≡ true
leaves-give rows.CoreModule = refl
leaves-give _ = refl

false-is : {A : Type 0} (b : Bool) → b ≡ true → b ≡ false → A
false-is true h g = absurd (cc)
false-is false h g = false-true h

node-gives : (t : Row) (s : Shape) → is_row t (rows_of_node s) ≡ true → gives ByDescription s ≡ false → described t ≡ []
node-gives t (a_node ts) h g = absurd (cc)
node-gives t a_name h g = go (same_row t rows.AttributedName) refl h
  where
    go : (b : Bool) → same_row t rows.AttributedName ≡ b → (b || false) ≡ true → described t ≡ []
    go true q r = ap described (same_row-true t rows.AttributedName q)
    go false q r = false-true r
node-gives t s h g = false-true h

ref-gives : (r : Space) (s : Shape) → fits_space s r ≡ true → gives ByReference s ≡ false → r ∷ [] ≡ []
ref-gives r (an_index v) h g = absurd (cc)
ref-gives r (a_ref v) h g = absurd (cc)
ref-gives r (a_ref_of v) h g = absurd (cc)
ref-gives r any_ref h g = absurd (cc)
ref-gives r a_value_type h g = absurd (cc)
ref-gives r a_placed_ref h g = absurd (cc)
ref-gives r a_function_use h g = absurd (cc)
ref-gives r a_component_use h g = absurd (cc)
ref-gives r an_instance_use h g = absurd (cc)
ref-gives r a_module_use h g = absurd (cc)
ref-gives r a_signature_use h g = absurd (cc)
ref-gives r an_argument h g = absurd (cc)
ref-gives r a_core_argument h g = absurd (cc)
ref-gives r s h g = false-true h

kind-shape : (s : Shape) (k : Space) → fits_kind s k ≡ true → is_kind s ≡ true
kind-shape a_kind k h = refl
kind-shape a_core_kind k h = refl
kind-shape s k h = false-true h

leaf-gives : (l : Leaf) (s : Shape) (d : Declares) → ShapedLeaf l s → gives d s ≡ false → leaf_spaces l d ≡ []
leaf-gives (Leaf.kind k) s ByKind f g = false-is (is_kind s) (kind-shape s k f) g
leaf-gives (node (row t ls)) s ByDescription f g = node-gives t s f.0 g
leaf-gives (ref r t) s ByReference f g = ref-gives r s f.0 g
leaf-gives (nodes ns) s ByList f g = false-is (is_list s) f.0 g
leaf-gives (result_ids ids) s ByResults f g = false-is (is_results s) f g
leaf-gives (result_count n) s ByResults f g = false-is (is_results s) f g
leaf-gives l s d f g = refl

none-leaves : (ls : Leaves) (ss : List Shape) (d : Declares) → ShapedLeaves ls ss → none_gives d ss ≡ true → leaves_spaces ls d ≡ []
none-leaves no_leaf ss d f g = refl
none-leaves (l ▸ ls) [] d f g = absurd f
none-leaves (l ▸ ls) (s ∷ ss) d f g = go (gives d s) refl g (none-leaves ls ss d f.1)
  where
    go : (b : Bool) → gives d s ≡ b → cond b false (none_gives d ss) ≡ true → (none_gives d ss ≡ true → leaves_spaces ls d ≡ []) → leaf_spaces l d ++ leaves_spaces ls d ≡ []
    go true q r rest = false-true r
    go false q r rest = rw (leaf-gives l s d f.0 q, rest r) refl

each-replicate : (n : ℕ) (s : Space) → EachIs s (replicate n s)
each-replicate zero s = tt
each-replicate (suc n) s = (refl, each-replicate n s)

same-replicate : (n : ℕ) (s : Space) → AllSame (replicate n s)
same-replicate zero s = tt
same-replicate (suc n) s = each-replicate n s

same-described : (t : Row) → AllSame (described t)
same-described rows.CoreModule = tt
same-described _ = tt

same-leaf : (l : Leaf) (d : Declares) → AllSame (leaf_spaces l d)
same-leaf (Leaf.kind k) ByKind = tt
same-leaf (node (row t ls)) ByDescription = same-described t
same-leaf (ref r t) ByReference = tt
same-leaf (nodes ns) ByList = same-replicate (count_nodes ns) CoreType
same-leaf (result_ids ids) ByResults = same-replicate (length ids) Value
same-leaf (result_count n) ByResults = same-replicate n Value
same-leaf l d = tt

app-nil : (xs : List Space) → xs ++ [] ≡ xs
app-nil [] = refl
app-nil (x ∷ xs) = ap (λ r. x ∷ r) (app-nil xs)

same-leaves : (ls : Leaves) (ss : List Shape) (d : Declares) → ShapedLeaves ls ss → one_gives d ss ≡ true → AllSame (leaves_spaces ls d)
same-leaves no_leaf ss d f g = tt
same-leaves (l ▸ ls) [] d f g = absurd f
same-leaves (l ▸ ls) (s ∷ ss) d f g = go (gives d s) refl g (none-leaves ls ss d f.1) (same-leaves ls ss d f.1)
  where
    go : (b : Bool) → gives d s ≡ b → cond b (none_gives d ss) (one_gives d ss) ≡ true → (none_gives d ss ≡ true → leaves_spaces ls d ≡ []) → (one_gives d ss ≡ true → AllSame (leaves_spaces ls d)) → AllSame (leaf_spaces l d ++ leaves_spaces ls d)
    go true q r none one = subst (λ v. AllSame (leaf_spaces l d ++ v)) (sym (none r)) (subst AllSame (sym (app-nil (leaf_spaces l d))) (same-leaf l d))
    go false q r none one = subst (λ v. AllSame (v ++ leaves_spaces ls d)) (sym (leaf-gives l s d f.0 q)) (one r)

same-spaces : (d : Declares) (ls : Leaves) → AllSame (leaves_spaces ls d) → AllSame (spaces_by d ls)
same-spaces (Always s) ls h = tt
same-spaces Nothing ls h = tt
same-spaces ByKind ls h = h
same-spaces ByDescription ls h = h
same-spaces ByReference ls h = h
same-spaces ByList ls h = h
same-spaces ByResults ls h = h

one-space : (t : Row) (ls : Leaves) → ShapedLeaves ls (leaves_of t) → AllSame (declares_row t ls)
one-space t ls f = same-spaces (declares_by t) ls (same-leaves ls (leaves_of t) (declares_by t) f (leaves-give t))

-- ---- inline nodes and bundles declare in their reference's space

abbrev AllAlways : Space → List Row → Type 0
AllAlways s [] = Unit {0}
AllAlways s (t ∷ ts) = (declares_by t ≡ Always s) × AllAlways s ts

always-row : (s : Space) (t : Row) (ts : List Row) → AllAlways s ts → is_row t ts ≡ true → declares_by t ≡ Always s
always-row s t [] a h = false-true h
always-row s t (u ∷ us) a h = go (same_row t u) refl h (always-row s t us a.1)
  where
    go : (b : Bool) → same_row t u ≡ b → (b || is_row t us) ≡ true → (is_row t us ≡ true → declares_by t ≡ Always s) → declares_by t ≡ Always s
    go true q r rest = subst (λ v. declares_by v ≡ Always s) (sym (same_row-true t u q)) a.0
    go false q r rest = rest r

inline-always : (s : Shape) (r : Space) → fits_space s r ≡ true → AllAlways r (inline_rows s)
inline-always a_value_type r h =
    subst (λ v. AllAlways v value_rows) (same_space-true Ty r h) (refl, (refl, (refl, (refl, (refl, (refl, (refl, (refl, (refl, (refl, (refl, (refl, (refl, (refl, tt))))))))))))))
inline-always a_function_use r h = subst (λ v. AllAlways v (inline_rows a_function_use)) (same_space-true Ty r h) (refl, tt)
inline-always a_component_use r h = subst (λ v. AllAlways v (inline_rows a_component_use)) (same_space-true Ty r h) (refl, tt)
inline-always an_instance_use r h = subst (λ v. AllAlways v (inline_rows an_instance_use)) (same_space-true Ty r h) (refl, tt)
inline-always a_module_use r h = subst (λ v. AllAlways v (inline_rows a_module_use)) (same_space-true CoreType r h) (refl, tt)
inline-always a_signature_use r h = subst (λ v. AllAlways v (inline_rows a_signature_use)) (same_space-true CoreType r h) (refl, tt)
inline-always _ r h = tt

bundle-always : (s : Shape) (r : Space) → AllAlways r (bundle_rows s r)
bundle-always an_argument Instance = (refl, tt)
bundle-always an_argument _ = tt
bundle-always a_core_argument CoreInstance = (refl, tt)
bundle-always a_core_argument _ = tt
bundle-always _ r = tt

always-declares : (t : Row) (ls : Leaves) (s : Space) → declares_by t ≡ Always s → declares_row t ls ≡ s ∷ []
always-declares t ls s h = ap (λ d. spaces_by d ls) h

-- ---- producers hold texts alone

text-leaf : (l : Leaf) → ShapedLeaf l a_text → TextualLeaf l
text-leaf (text x) f = tt
text-leaf (ref s t) f = absurd (false-true f.0)
text-leaf (present l) f = absurd (false-true f.0)
text-leaf (node (row t ls)) f = absurd (false-true f.0)
text-leaf (nodes ns) f = absurd (false-true f.0)
text-leaf (scope (scope_of k id label ds)) f = absurd (false-true f.0)
text-leaf l f = absurd (false-true f)

texts-leaves : (ls : Leaves) → ShapedLeaves ls (a_text ∷ a_text ∷ []) → Textual ls
texts-leaves no_leaf f = tt
texts-leaves (l ▸ no_leaf) f = (text-leaf l f.0, tt)
texts-leaves (l ▸ m ▸ no_leaf) f = (text-leaf l f.0, (text-leaf m f.1.0, tt))
texts-leaves (l ▸ m ▸ n ▸ ls) f = absurd f.1.1

texts-nodes : (ns : Nodes) → ShapedNodes ns (rows.Producer ∷ []) → TextualNodes ns
texts-nodes no_node f = tt
texts-nodes (one_node (row t ls) ns) f = (texts-leaves ls (subst (λ v. ShapedLeaves ls (leaves_of v)) (only t f.0) f.1), texts-nodes ns f.2)
  where
    only : (t : Row) → is_row t (rows.Producer ∷ []) ≡ true → t ≡ rows.Producer
    only t h = go (same_row t rows.Producer) refl h
      where
        go : (b : Bool) → same_row t rows.Producer ≡ b → (b || false) ≡ true → t ≡ rows.Producer
        go true q r = same_row-true t rows.Producer q
        go false q r = false-true r

list-leaf : (l : Leaf) → ShapedLeaf l (a_list (rows.Producer ∷ [])) → TextualLeaf l
list-leaf (nodes ns) f = texts-nodes ns f.1
list-leaf (ref s t) f = absurd (false-true f.0)
list-leaf (present l) f = absurd (false-true f.0)
list-leaf (node (row t ls)) f = absurd (false-true f.0)
list-leaf (scope (scope_of k id label ds)) f = absurd (false-true f.0)
list-leaf l f = absurd (false-true f)

lists-leaves : (ls : Leaves) → ShapedLeaves ls (leaves_of rows.Producers) → Textual ls
lists-leaves no_leaf f = tt
lists-leaves (l ▸ no_leaf) f = (list-leaf l f.0, tt)
lists-leaves (l ▸ m ▸ no_leaf) f = (list-leaf l f.0, (list-leaf m f.1.0, tt))
lists-leaves (l ▸ m ▸ n ▸ no_leaf) f = (list-leaf l f.0, (list-leaf m f.1.0, (list-leaf n f.1.1.0, tt)))
lists-leaves (l ▸ m ▸ n ▸ o ▸ ls) f = absurd f.1.1.1

producers-rowed : (t : Row) (ls : Leaves) → ShapedLeaves ls (leaves_of t) → ProducersRowed t ls
producers-rowed t ls f h = lists-leaves ls (subst (λ v. ShapedLeaves ls (leaves_of v)) (same_row-true t rows.Producers h) f)

-- ---- all of it

exports-rowed : (xs : List Text) (ss : List Space) → ExportsWritten xs ss → ExportsRowed xs ss
exports-rowed [] ss h = tt
exports-rowed (x ∷ xs) [] h = cc
exports-rowed (x ∷ xs) (s ∷ []) h = refl
exports-rowed (x ∷ xs) (s ∷ r ∷ ss) h = absurd (cc)

and-false : (a b : Bool) → (a ≡ true → b ≡ false) → IsFalse (a && b)
and-false true b h = h refl
and-false false b h = refl

value-rowed : (v : CoreValue) → IsWrittenLeaf (core_value v) → LeafRowed (core_value v)
value-rowed (ref_index b i) h = h
value-rowed v h = tt

mutual
  defs-rowed : (ds : Defs) (k : ScopeKind) → ShapedDefs ds k → AreWrittenDefs ds → DefsRowed ds
  defs-rowed no_def k f w = tt
  defs-rowed (one_def (define names (row t ls)) ds) k f w =
      (exports-rowed names.exports (declares_row t ls) w.0, one-space t ls f.1, producers-rowed t ls f.1, leaves-rowed ls (leaves_of t) f.1 (leaves-tame t) (leaves-one t) w.1, defs-rowed ds k f.2 w.2)

  leaves-rowed : (ls : Leaves) (ss : List Shape) → ShapedLeaves ls ss → all_tame ss ≡ true → one_bears ss ≡ true → AreWrittenLeaves ls → LeavesRowed ls
  leaves-rowed no_leaf ss f a o w = tt
  leaves-rowed (l ▸ ls) [] f a o w = absurd f
  leaves-rowed (l ▸ ls) (s ∷ ss) f a o w =
      let x : (tame s ≡ true) × (all_tame ss ≡ true) = and-both (tame s) (all_tame ss) a in
      (first (bears s) refl o x.0 x.1, leaf-rowed l s f.0 x.0 w.0, leaves-rowed ls ss f.1 x.1 (rest (bears s) o) w.1)
    where
      none-one : (ss : List Shape) → none_bears ss ≡ true → one_bears ss ≡ true
      none-one [] h = refl
      none-one (s ∷ ss) h = let y : (bears s ≡ false) × (none_bears ss ≡ true) = none-first s ss h in rw y.0 (none-one ss y.1)

      rest : (b : Bool) → cond b (none_bears ss) (one_bears ss) ≡ true → one_bears ss ≡ true
      rest true h = none-one ss h
      rest false h = h

      first : (b : Bool) → bears s ≡ b → cond b (none_bears ss) (one_bears ss) ≡ true → tame s ≡ true → all_tame ss ≡ true → IsFalse (leaf_holds_scope l && holds_scope ls)
      first true q h y z = and-false (leaf_holds_scope l) (holds_scope ls) (λ i. leaves-none ls ss f.1 z h)
      first false q h y z = rw (leaf-none l s f.0 y q) refl

  leaf-rowed : (l : Leaf) (s : Shape) → ShapedLeaf l s → tame s ≡ true → IsWrittenLeaf l → LeafRowed l
  leaf-rowed (core_value v) s f a w = value-rowed v w
  leaf-rowed (ref r (index i)) s f a w = absurd w
  leaf-rowed (ref r (inline (row t ls))) s f a w =
      (always-declares t ls r (always-row r t (inline_rows s) (inline-always s r f.0) f.1.0), leaves-rowed ls (leaves_of t) f.1.1 (leaves-tame t) (leaves-one t) w)
  leaf-rowed (ref r (bundle (row t ls))) s f a w =
      (always-declares t ls r (always-row r t (bundle_rows s r) (bundle-always s r) f.1.0), leaves-rowed ls (leaves_of t) f.1.1 (leaves-tame t) (leaves-one t) w)
  leaf-rowed (present l) s f a w = leaf-rowed l (the_option s) f.1 (option-tame s a) w
  leaf-rowed (node (row t ls)) s f a w = leaves-rowed ls (leaves_of t) f.1 (leaves-tame t) (leaves-one t) w
  leaf-rowed (nodes ns) s f a w = nodes-rowed ns (rows_of_list s) f.1 (list-tame s a) w
  leaf-rowed (result_count n) s f a w = absurd w
  leaf-rowed (module_bytes bs) s f a w = absurd w
  leaf-rowed (scope (scope_of k id label ds)) s f a w = defs-rowed ds k f.1 w
  leaf-rowed l s f a w = tt

  nodes-rowed : (ns : Nodes) (ts : List Row) → ShapedNodes ns ts → none_hold ts ≡ true → AreWrittenNodes ns → NodesRowed ns
  nodes-rowed no_node ts f a w = tt
  nodes-rowed (one_node (row t ls) ns) ts f a w =
      (rw (leaves-none ls (leaves_of t) f.1 (leaves-tame t) (row-none t ts f.0 a)) refl, leaves-rowed ls (leaves_of t) f.1 (leaves-tame t) (leaves-one t) w.0, nodes-rowed ns ts f.2 a w.1)

pub scope-rowed : (s : Scope) → FitsRows s → IsWritten s → Rowed s
scope-rowed (scope_of k id label ds) f w = defs-rowed ds k f w
