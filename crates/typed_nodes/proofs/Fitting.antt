-- Leaves and nodes that fit: what single leaves are, and which leaves a row has.
use Rattle.std.proofs.Common.{◌≡◌, ℕ, zero, suc, ◌<◌, Bool, true, false, ◌||◌, List, [], ◌∷◌, length, get_or, refl, sym, ap, ◌∙◌, subst, arith, Bor}
use Rattle.comp_model.specs.declared.Space.{Space}
use Rattle.comp_model.specs.declared.Space.TheVariants.{Ty}
use Rattle.comp_model.specs.declared.row.Row.{Row}
use Rattle.comp_model.specs.CoreModules.{CoreModule}
use Rattle.comp_model.specs.Core as core
use Rattle.comp_model.specs.Core.{outward}
use Rattle.comp_model.specs.Model as m
use Rattle.comp_model.specs.Model.{◌▸◌, no_leaf}
use Rattle.comp_model.specs.RowNumbers.{same_row, is_row}
use Rattle.comp_model.specs.Rows.{Shape, a_text, a_number, a_flag, a_primitive, a_case_id, an_index, a_value_type, an_option, a_list, leaves_of, ShapedLeaf, fits_number, fits_kind, fits_value, fits_space, fits_reach, is_text, is_place, is_optional, is_list, is_case_id, is_results, is_module, has_scope, rows_of_node}
use Rattle.comp_model.proofs.Tests.{same_space-true, same_row-true}
use Rattle.wast_parser.specs.declared.index.Index.{Index}
use Rattle.wast_parser.specs.declared.index.Index.TheVariants.{Num, Id}
use Rattle.comp_tree.specs.Model.{leaf_of, core_at, index_of, path_of}
use Rattle.comp_tree.specs.Lists.{listed, node_of, nodes_listed}
use Rattle.comp_tree.specs.declared.tree.Leaf as l
use Rattle.comp_tree.specs.declared.tree.Node.{Node}
use Rattle.comp_tree.proofs.Leaves.{leaf_nodes}
use Rattle.typed_nodes.specs.Fits.{FitLeaf, FitLeaves, FitNode, FitNodes}

not_true : false ≡ true → ⊥
not_true e = absurd (cc)

-- ---- a leaf of a shape is of one of few kinds

-- whether a leaf may be of a shape, by its kind
abbrev pub may_be : Shape → m.Leaf → Bool
may_be s (m.text t) = is_text s
may_be s (m.number n) = fits_number s n
may_be s (m.kind k) = fits_kind s k
may_be s (m.core_value v) = fits_value s v
may_be s (m.ref r t) = fits_space s r
may_be s (m.place p) = is_place s
may_be s m.absent = is_optional s
may_be s (m.present x) = is_optional s
may_be s (m.node (m.row t ls)) = is_row t (rows_of_node s)
may_be s (m.nodes ns) = is_list s
may_be s (m.case_id x) = is_case_id s
may_be s (m.result_ids xs) = is_results s
may_be s (m.result_count n) = is_results s
may_be s (m.core_source c) = is_module s
may_be s (m.module_bytes bs) = is_module s
may_be s (m.scope x) = has_scope s (m.kind_of x)

pub shaped_may : (x : m.Leaf) (s : Shape) → ShapedLeaf x s → may_be s x ≡ true
shaped_may (m.text t) s h = h
shaped_may (m.number n) s h = h
shaped_may (m.kind k) s h = h
shaped_may (m.core_value v) s h = h
shaped_may (m.ref r t) s h = h.0
shaped_may (m.place p) s h = h
shaped_may m.absent s h = h
shaped_may (m.present x) s h = h.0
shaped_may (m.node (m.row t ls)) s h = h.0
shaped_may (m.nodes ns) s h = h.0
shaped_may (m.case_id x) s h = h
shaped_may (m.result_ids xs) s h = h
shaped_may (m.result_count n) s h = h
shaped_may (m.core_source c) s h = h
shaped_may (m.module_bytes bs) s h = h
shaped_may (m.scope (m.scope_of k id label ds)) s h = h.0

-- a core module is no other leaf, nor is what stands for one past the end of their list
pub no_core : (C : List CoreModule) (n : ℕ) (s : Shape) → is_optional s ≡ false → is_module s ≡ false → may_be s (core_at C n) ≡ true → ⊥
no_core [] n s a b h = not_true (sym a ∙ h)
no_core (c ∷ cs) zero s a b h = not_true (sym b ∙ h)
no_core (c ∷ cs) (suc n) s a b h = no_core cs n s a b h

may_text : (C : List CoreModule) (x : l.Leaf) → may_be a_text (leaf_of C x) ≡ true → ((t : _) → x ≡ l.Text t → ⊥) → ((ts : _) → x ≡ l.Pieces ts → ⊥) → ⊥
may_text C (l.Text t) e g h = g t refl
may_text C (l.Pieces ts) e g h = h ts refl
may_text C (l.Core n) e g h = no_core C n a_text refl refl e
may_text C _ e g h = not_true e

pub only_text : (C : List CoreModule) (x : l.Leaf) → FitLeaf a_text (leaf_of C x) → ((t : _) → x ≡ l.Text t → ⊥) → ((ts : _) → x ≡ l.Pieces ts → ⊥) → ⊥
only_text C x f g h = may_text C x (shaped_may (leaf_of C x) a_text f.0) g h

may_number : (C : List CoreModule) (x : l.Leaf) → may_be a_number (leaf_of C x) ≡ true → ((n : _) → x ≡ l.Number n → ⊥) → ⊥
may_number C (l.Number n) e g = g n refl
may_number C (l.Core n) e g = no_core C n a_number refl refl e
may_number C _ e g = not_true e

pub only_number : (C : List CoreModule) (x : l.Leaf) → FitLeaf a_number (leaf_of C x) → ((n : _) → x ≡ l.Number n → ⊥) → ⊥
only_number C x f g = may_number C x (shaped_may (leaf_of C x) a_number f.0) g

may_flag : (C : List CoreModule) (x : l.Leaf) → may_be a_flag (leaf_of C x) ≡ true → ((n : _) → x ≡ l.Number n → ⊥) → ⊥
may_flag C (l.Number n) e g = g n refl
may_flag C (l.Core n) e g = no_core C n a_flag refl refl e
may_flag C _ e g = not_true e

pub only_flag : (C : List CoreModule) (x : l.Leaf) → FitLeaf a_flag (leaf_of C x) → ((n : _) → x ≡ l.Number n → ⊥) → ⊥
only_flag C x f g = may_flag C x (shaped_may (leaf_of C x) a_flag f.0) g

may_primitive : (C : List CoreModule) (x : l.Leaf) → may_be a_primitive (leaf_of C x) ≡ true → ((n : _) → x ≡ l.Number n → ⊥) → ⊥
may_primitive C (l.Number n) e g = g n refl
may_primitive C (l.Core n) e g = no_core C n a_primitive refl refl e
may_primitive C _ e g = not_true e

pub only_primitive : (C : List CoreModule) (x : l.Leaf) → FitLeaf a_primitive (leaf_of C x) → ((n : _) → x ≡ l.Number n → ⊥) → ⊥
only_primitive C x f g = may_primitive C x (shaped_may (leaf_of C x) a_primitive f.0) g

may_case_id : (C : List CoreModule) (x : l.Leaf) → may_be a_case_id (leaf_of C x) ≡ true → ((i : _) → x ≡ l.CaseId i → ⊥) → ⊥
may_case_id C (l.CaseId i) e g = g i refl
may_case_id C (l.Core n) e g = no_core C n a_case_id refl refl e
may_case_id C _ e g = not_true e

pub only_case_id : (C : List CoreModule) (x : l.Leaf) → FitLeaf a_case_id (leaf_of C x) → ((i : _) → x ≡ l.CaseId i → ⊥) → ⊥
only_case_id C x f g = may_case_id C x (shaped_may (leaf_of C x) a_case_id f.0) g

may_index : (C : List CoreModule) (x : l.Leaf) (u : Space) → FitLeaf (an_index u) (leaf_of C x) → may_be (an_index u) (leaf_of C x) ≡ true → ((w : _) (n : _) (o : _) → x ≡ l.Numeral w n o → ⊥) → ((w : _) (r : _) (i : _) → x ≡ l.Name w r i → ⊥) → ((w : _) (p : _) → x ≡ l.Path w p → ⊥) → ⊥
may_index C (l.Numeral w n o) u f e g h k = g w n o refl
may_index C (l.Name w r i) u f e g h k = h w r i refl
may_index C (l.Path w p) u f e g h k = k w p refl
may_index C (l.Inline' w p r v q s xs) u f e g h k = not_true f.0.1.0
may_index C (l.Bundle' w p r v q s xs) u f e g h k = not_true f.0.1.0
may_index C (l.Core n) u f e g h k = no_core C n (an_index u) refl refl e
may_index C _ u f e g h k = not_true e

pub only_index : (C : List CoreModule) (x : l.Leaf) (u : Space) → FitLeaf (an_index u) (leaf_of C x) → ((w : _) (n : _) (o : _) → x ≡ l.Numeral w n o → ⊥) → ((w : _) (r : _) (i : _) → x ≡ l.Name w r i → ⊥) → ((w : _) (p : _) → x ≡ l.Path w p → ⊥) → ⊥
only_index C x u f g h k = may_index C x u f (shaped_may (leaf_of C x) (an_index u) f.0) g h k

-- nor is it a list or a value type
pub core_no_list : (C : List CoreModule) (x : l.Leaf) (n : ℕ) (ts : List Row) → x ≡ l.Core n → FitLeaf (a_list ts) (leaf_of C x) → ⊥
core_no_list C x n ts e f = no_core C n (a_list ts) refl refl (shaped_may (core_at C n) (a_list ts) (subst (λ y. ShapedLeaf (leaf_of C y) (a_list ts)) e f.0))

pub core_no_value : (C : List CoreModule) (x : l.Leaf) (n : ℕ) → x ≡ l.Core n → FitLeaf a_value_type (leaf_of C x) → ⊥
core_no_value C x n e f = no_core C n a_value_type refl refl (shaped_may (core_at C n) a_value_type (subst (λ y. ShapedLeaf (leaf_of C y) a_value_type) e f.0))

core_option : (C : List CoreModule) (n : ℕ) (s : Shape) → may_be (an_option s) (core_at C n) ≡ true → core_at C n ≡ m.absent
core_option [] n s e = refl
core_option (c ∷ cs) zero s e = absurd (not_true e)
core_option (c ∷ cs) (suc n) s e = core_option cs n s e

may_option : (C : List CoreModule) (x : l.Leaf) (s : Shape) → may_be (an_option s) (leaf_of C x) ≡ true → ((p : _) (y : l.Leaf) → x ≡ l.Present' p y → ⊥) → m.absent ≡ leaf_of C x
may_option C (l.Present' p y) s e g = absurd (g p y refl)
may_option C l.Absent s e g = refl
may_option C (l.Core n) s e g = sym (core_option C n s e)
may_option C _ s e g = absurd (not_true e)

-- an optional part that isn't there
pub only_option : (C : List CoreModule) (x : l.Leaf) (s : Shape) → FitLeaf (an_option s) (leaf_of C x) → ((p : _) (y : l.Leaf) → x ≡ l.Present' p y → ⊥) → m.absent ≡ leaf_of C x
only_option C x s f g = may_option C x s (shaped_may (leaf_of C x) (an_option s) f.0) g

-- and one that is
pub part_fits : (C : List CoreModule) (x : l.Leaf) (y : Bor l.Leaf) (s : Shape) → x ≡ l.Present y → FitLeaf (an_option s) (leaf_of C x) → FitLeaf s (leaf_of C y.now)
part_fits C x y s e f = let g : FitLeaf (an_option s) (leaf_of C (l.Present y)) = subst (λ z. FitLeaf (an_option s) (leaf_of C z)) e f in (g.0.1, g.1)

-- ---- references

outward_reach : (u : Space) (r : core.Reach) → fits_reach (an_index u) r ≡ true → r ≡ outward
outward_reach u core.outward h = refl
outward_reach u core.own h = absurd (not_true h)
outward_reach u (core.at_place p) h = absurd (not_true h)

path_index : (u w : Space) (i : Index) (ts : _) → FitLeaf (an_index u) (m.ref w (path_of i ts)) → m.ref u (index_of outward i) ≡ m.ref w (path_of i ts)
path_index u w (Num n s) [] f = ap (λ q. m.ref q (m.numeral s.offset n)) (same_space-true u w f.0.0)
path_index u w (Id x) [] f = ap (λ q. m.ref q (index_of outward (Id x))) (same_space-true u w f.0.0)
path_index u w i (t ∷ ts) f = absurd (not_true f.0.1)

pub index_of_path : (C : List CoreModule) (x : l.Leaf) (u w : Space) (p : _) → x ≡ l.Path w p → FitLeaf (an_index u) (leaf_of C x) → m.ref u (index_of outward p.now.root) ≡ leaf_of C x
index_of_path C x u w p e f = path_index u w p.now.root p.now.exports.now (subst (λ y. FitLeaf (an_index u) (leaf_of C y)) e f) ∙ sym (ap (leaf_of C) e)

pub index_of_numeral : (C : List CoreModule) (x : l.Leaf) (u w : Space) (n o : _) → x ≡ l.Numeral w n o → FitLeaf (an_index u) (leaf_of C x) → m.ref u (index_of outward (Num n o)) ≡ leaf_of C x
index_of_numeral C x u w n o e f = ap (λ q. m.ref q (m.numeral o.offset n)) (same_space-true u w (subst (λ y. FitLeaf (an_index u) (leaf_of C y)) e f).0.0) ∙ sym (ap (leaf_of C) e)

name_index : (u w : Space) (r : core.Reach) (x : core.Id) → FitLeaf (an_index u) (m.ref w (m.name r x)) → m.ref u (m.name outward x) ≡ m.ref w (m.name r x)
name_index u w r x f = ap (λ q. m.ref q (m.name outward x)) (same_space-true u w f.0.0) ∙ ap (λ q. m.ref w (m.name q x)) (sym (outward_reach u r f.0.1))

pub index_of_name : (C : List CoreModule) (x : l.Leaf) (u w : Space) (r i : _) → x ≡ l.Name w r i → FitLeaf (an_index u) (leaf_of C x) → m.ref u (index_of outward (Id i.now)) ≡ leaf_of C x
index_of_name C x u w r i e f = name_index u w _ _ (subst (λ y. FitLeaf (an_index u) (leaf_of C y)) e f) ∙ sym (ap (leaf_of C) e)

value_reach : (r : core.Reach) → fits_reach a_value_type r ≡ true → fits_reach (an_index Ty) r ≡ true
value_reach core.outward h = h
value_reach core.own h = h
value_reach (core.at_place p) h = h

path_value : (w : Space) (i : Index) (ts : _) → FitLeaf a_value_type (m.ref w (path_of i ts)) → FitLeaf (an_index Ty) (m.ref w (path_of i ts))
path_value w (Num n s) [] f = f
path_value w (Id x) [] f = f
path_value w i (t ∷ ts) f = absurd (not_true f.0.1)

-- an index in the place of a value type; a path without a name is one
pub path_fits : (C : List CoreModule) (x : l.Leaf) (w : Space) (p : _) → x ≡ l.Path w p → FitLeaf a_value_type (leaf_of C x) → FitLeaf (an_index Ty) (leaf_of C x)
path_fits C x w p e f = subst (λ y. FitLeaf (an_index Ty) (leaf_of C y)) (sym e) (path_value w p.now.root p.now.exports.now (subst (λ y. FitLeaf a_value_type (leaf_of C y)) e f))

pub numeral_fits : (C : List CoreModule) (x : l.Leaf) (w : Space) (n o : _) → x ≡ l.Numeral w n o → FitLeaf a_value_type (leaf_of C x) → FitLeaf (an_index Ty) (leaf_of C x)
numeral_fits C x w n o e f = subst (λ y. FitLeaf (an_index Ty) (leaf_of C y)) (sym e) (subst (λ y. FitLeaf a_value_type (leaf_of C y)) e f)

pub name_fits : (C : List CoreModule) (x : l.Leaf) (w : Space) (r i : _) → x ≡ l.Name w r i → FitLeaf a_value_type (leaf_of C x) → FitLeaf (an_index Ty) (leaf_of C x)
name_fits C x w r i e f =
    let g : FitLeaf a_value_type (leaf_of C (l.Name w r i)) = subst (λ y. FitLeaf a_value_type (leaf_of C y)) e f in
    subst (λ y. FitLeaf (an_index Ty) (leaf_of C y)) (sym e) ((g.0.0, value_reach _ g.0.1), tt)

-- ---- the leaves of a row, and the nodes of a list

pub some_leaf : (C : List CoreModule) (xs : List l.Leaf) (s : Shape) (ss : List Shape) → FitLeaves (s ∷ ss) (listed C xs) → 0 < length xs
some_leaf C [] s ss f = absurd f.0
some_leaf C (x ∷ xs) s ss f = omega arith

-- without the first leaf
rest_fits : (C : List CoreModule) (x : l.Leaf) (xs : List l.Leaf) (s : Shape) (ss : List Shape) → FitLeaves (s ∷ ss) (listed C (x ∷ xs)) → FitLeaves ss (listed C xs)
rest_fits C x xs s ss f = (f.0.1, f.1.1)

pub more_leaves : (C : List CoreModule) (xs : List l.Leaf) (s t : Shape) (ss : List Shape) → FitLeaves (s ∷ t ∷ ss) (listed C xs) → 1 < length xs
more_leaves C [] s t ss f = absurd f.0
more_leaves C (x ∷ xs) s t ss f = let e : 0 < length xs = some_leaf C xs t ss (rest_fits C x xs s (t ∷ ss) f) in omega (arith, e)

pub most_leaves : (C : List CoreModule) (xs : List l.Leaf) (s t u : Shape) (ss : List Shape) → FitLeaves (s ∷ t ∷ u ∷ ss) (listed C xs) → 2 < length xs
most_leaves C [] s t u ss f = absurd f.0
most_leaves C (x ∷ xs) s t u ss f = let e : 1 < length xs = more_leaves C xs t u ss (rest_fits C x xs s (t ∷ u ∷ ss) f) in omega (arith, e)

pub first_fits : (C : List CoreModule) (xs : List l.Leaf) (s : Shape) (ss : List Shape) (d : l.Leaf) → FitLeaves (s ∷ ss) (listed C xs) → FitLeaf s (leaf_of C (get_or xs 0 d))
first_fits C [] s ss d f = absurd f.0
first_fits C (x ∷ xs) s ss d f = (f.0.0, f.1.0)

pub second_fits : (C : List CoreModule) (xs : List l.Leaf) (s t : Shape) (ss : List Shape) (d : l.Leaf) → FitLeaves (s ∷ t ∷ ss) (listed C xs) → FitLeaf t (leaf_of C (get_or xs 1 d))
second_fits C [] s t ss d f = absurd f.0
second_fits C (x ∷ xs) s t ss d f = first_fits C xs t ss d (rest_fits C x xs s (t ∷ ss) f)

pub third_fits : (C : List CoreModule) (xs : List l.Leaf) (s t u : Shape) (ss : List Shape) (d : l.Leaf) → FitLeaves (s ∷ t ∷ u ∷ ss) (listed C xs) → FitLeaf u (leaf_of C (get_or xs 2 d))
third_fits C [] s t u ss d f = absurd f.0
third_fits C (x ∷ xs) s t u ss d f = second_fits C xs t u ss d (rest_fits C x xs s (t ∷ u ∷ ss) f)

-- leaves that are those of typed parts
pub one_made : (C : List CoreModule) (xs : List l.Leaf) (s : Shape) (d : l.Leaf) (a : m.Leaf) → FitLeaves (s ∷ []) (listed C xs) → a ≡ leaf_of C (get_or xs 0 d) → a ▸ no_leaf ≡ listed C xs
one_made C [] s d a f e = absurd f.0
one_made C (x ∷ []) s d a f e = ap (λ q. q ▸ no_leaf) e
one_made C (x ∷ y ∷ xs) s d a f e = absurd f.0.1

pub two_made : (C : List CoreModule) (xs : List l.Leaf) (s t : Shape) (d e : l.Leaf) (a b : m.Leaf) → FitLeaves (s ∷ t ∷ []) (listed C xs) → a ≡ leaf_of C (get_or xs 0 d) → b ≡ leaf_of C (get_or xs 1 e) → a ▸ b ▸ no_leaf ≡ listed C xs
two_made C [] s t d e a b f h k = absurd f.0
two_made C (x ∷ xs) s t d e a b f h k = ap (λ q. q ▸ b ▸ no_leaf) h ∙ ap (◌▸◌ (leaf_of C x)) (one_made C xs t e b (rest_fits C x xs s (t ∷ []) f) k)

pub three_made : (C : List CoreModule) (xs : List l.Leaf) (s t u : Shape) (d e g : l.Leaf) (a b c : m.Leaf) → FitLeaves (s ∷ t ∷ u ∷ []) (listed C xs) → a ≡ leaf_of C (get_or xs 0 d) → b ≡ leaf_of C (get_or xs 1 e) → c ≡ leaf_of C (get_or xs 2 g) → a ▸ b ▸ c ▸ no_leaf ≡ listed C xs
three_made C [] s t u d e g a b c f h k i = absurd f.0
three_made C (x ∷ xs) s t u d e g a b c f h k i = ap (λ q. q ▸ b ▸ c ▸ no_leaf) h ∙ ap (◌▸◌ (leaf_of C x)) (two_made C xs t u e g b c (rest_fits C x xs s (t ∷ u ∷ []) f) k i)

-- the leaves of a node whose row is known
pub row_fits : (C : List CoreModule) (n : Node) (r : Row) (ts : List Row) → n.row ≡ r → FitNode ts (node_of C n) → FitLeaves (leaves_of r) (listed C n.leaves.now)
row_fits C n r ts e f = subst (λ q. FitLeaves (leaves_of q) (listed C n.leaves.now)) e f.1

or_false : (b : Bool) → (b || false) ≡ true → b ≡ true
or_false true e = refl
or_false false e = e

-- the node of a row that stands alone in a list
pub entry_row : (C : List CoreModule) (n : Node) (t : Row) → FitNode (t ∷ []) (node_of C n) → n.row ≡ t
entry_row C n t f = same_row-true n.row t (or_false (same_row n.row t) f.0)

pub entry_fits : (C : List CoreModule) (n : Node) (t : Row) → FitNode (t ∷ []) (node_of C n) → FitLeaves (leaves_of t) (listed C n.leaves.now)
entry_fits C n t f = subst (λ q. FitLeaves (leaves_of q) (listed C n.leaves.now)) (entry_row C n t f) f.1

pub node_fits : (C : List CoreModule) (ns : List Node) (ts : List Row) (i : ℕ) (d : Node) → i < length ns → FitNodes ts (nodes_listed C ns) → FitNode ts (node_of C (get_or ns i d))
node_fits C [] ts i d h f = absurd (omega (arith, h))
node_fits C (n ∷ ns) ts zero d h f = (f.0.0, (f.0.1, f.1.0))
node_fits C (n ∷ ns) ts (suc i) d h f = node_fits C ns ts i d (omega (arith, h)) (f.0.2, f.1.1)

-- a node of a row, by its leaves
pub entry_is : (C : List CoreModule) (n : Node) (t : Row) (ls : m.Leaves) → FitNode (t ∷ []) (node_of C n) → ls ≡ listed C n.leaves.now → m.row t ls ≡ node_of C n
entry_is C n t ls f e = ap (m.row t) e ∙ ap (λ q. m.row q (listed C n.leaves.now)) (sym (entry_row C n t f))

pub node_is : (C : List CoreModule) (n : Node) (r : Row) (ls : m.Leaves) → n.row ≡ r → ls ≡ listed C n.leaves.now → m.row r ls ≡ node_of C n
node_is C n r ls e k = ap (m.row r) k ∙ ap (λ q. m.row q (listed C n.leaves.now)) (sym e)

-- a leaf that is a list
pub list_nodes : (C : List CoreModule) (x : l.Leaf) (ns : Bor (List Node)) (ts : List Row) → x ≡ l.Nodes ns → FitLeaf (a_list ts) (leaf_of C x) → FitNodes ts (nodes_listed C ns.now)
list_nodes C x ns ts e f = let g : FitLeaf (a_list ts) (m.nodes (nodes_listed C ns.now)) = subst (λ y. FitLeaf (a_list ts) y) (ap (leaf_of C) e ∙ leaf_nodes C ns) f in (g.0.1, g.1)

pub list_is : (C : List CoreModule) (x : l.Leaf) (ns : Bor (List Node)) (ys : m.Nodes) → x ≡ l.Nodes ns → ys ≡ nodes_listed C ns.now → m.nodes ys ≡ leaf_of C x
list_is C x ns ys e k = ap m.nodes k ∙ sym (ap (leaf_of C) e ∙ leaf_nodes C ns)
