-- Entries in lists by their numbers, and texts as one.
use Rattle.std.proofs.Common.{◌≡◌, ℕ, zero, suc, ◌+◌, ◌-◌, ◌<◌, List, [], ◌∷◌, ◌++◌, length, map, take, drop, true, false, cond, refl, ap, sym, subst, ◌∙◌, arith, append_assoc, Bor, Result, Ok, Err}
use Rattle.std.specs.Prelude.{⊤, OnOk, is_ok}
use Rattle.std.specs.declared.alloc.AllocError.{AllocError}
use Rattle.comp_tree.specs.declared.tree.Leaf as l
use Rattle.comp_tree.proofs.Leaves.{leaf_nodes}
use Rattle.comp_model.specs.CoreModules.{CoreModule, Field}
use Rattle.comp_model.specs.Core.{Text}
use Rattle.comp_model.specs.Model as m
use Rattle.comp_model.specs.Model.{◌▸◌, Leaves}
use Rattle.comp_model.specs.declared.row.Row.{Row}
use Rattle.text_rules.specs.Made.{Made, join, front, behind, add_numbered, numbered_nodes, numbered_lists, nodes_from, joined_text}
use Rattle.text_rules.specs.Makes.{a_leaf, wrapped}
use Rattle.comp_tree.specs.Model.{leaf_of, core_at, joined}
use Rattle.comp_tree.specs.Lists.{node_of, nodes_listed}
use Rattle.comp_tree.specs.declared.tree.Node.{Node}
use Rattle.tree_build.specs.References.{is_number}
use Rattle.std.proofs.lemmas.List.{take-append-drop}
use Rattle.text_rules.specs.Rule.{Wraps}
use Rattle.tree_build.specs.Cores.{Grows}
use Rattle.tree_build.specs.Held.{held}
use Rattle.tree_build.specs.Adds.{Adds, MakesOf}
use Rattle.tree_build.specs.declared.scratch.Scratch.{Scratch}
use Rattle.tree_build.proofs.Prefixes.{append_nil, map_more}
use Rattle.tree_build.proofs.Slices.{take_map}
use Rattle.tree_build.proofs.Wrapping.{same_made, leaf_behind, leaves_made}

-- ---- entries with a number

-- a core module is no number
pub no_number : (k : ℕ) (cs : List CoreModule) (n : ℕ) → false ≡ is_number k (core_at cs n)
no_number k [] n = refl
no_number k (c ∷ cs) zero = refl
no_number k (c ∷ cs) (suc n) = no_number k cs n

pub number_goes : (k : ℕ) (t : Row) (x : m.Leaf) (ls : Leaves) (ns : List m.Node) → is_number k x ≡ true → m.row t ls ∷ ns ≡ add_numbered k (m.row t (x ▸ ls)) ns
number_goes k t (m.number n) ls ns h = sym (ap (λ b. cond b (m.row t ls ∷ ns) ns) h)
number_goes k t (m.text q) ls ns h = absurd (cc)
number_goes k t (m.ref u q) ls ns h = absurd (cc)
number_goes k t (m.kind q) ls ns h = absurd (cc)
number_goes k t (m.core_value q) ls ns h = absurd (cc)
number_goes k t (m.place q) ls ns h = absurd (cc)
number_goes k t m.absent ls ns h = absurd (cc)
number_goes k t (m.present q) ls ns h = absurd (cc)
number_goes k t (m.node q) ls ns h = absurd (cc)
number_goes k t (m.nodes q) ls ns h = absurd (cc)
number_goes k t (m.case_id q) ls ns h = absurd (cc)
number_goes k t (m.result_ids q) ls ns h = absurd (cc)
number_goes k t (m.result_count q) ls ns h = absurd (cc)
number_goes k t (m.core_source q) ls ns h = absurd (cc)
number_goes k t (m.module_bytes q) ls ns h = absurd (cc)
number_goes k t (m.scope q) ls ns h = absurd (cc)

pub entry_goes : (k : ℕ) (t : Row) (x : m.Leaf) (ls : Leaves) (ns : List m.Node) → is_number k x ≡ false → ns ≡ add_numbered k (m.row t (x ▸ ls)) ns
entry_goes k t (m.number n) ls ns h = sym (ap (λ b. cond b (m.row t ls ∷ ns) ns) h)
entry_goes k t (m.text q) ls ns h = refl
entry_goes k t (m.ref u q) ls ns h = refl
entry_goes k t (m.kind q) ls ns h = refl
entry_goes k t (m.core_value q) ls ns h = refl
entry_goes k t (m.place q) ls ns h = refl
entry_goes k t m.absent ls ns h = refl
entry_goes k t (m.present q) ls ns h = refl
entry_goes k t (m.node q) ls ns h = refl
entry_goes k t (m.nodes q) ls ns h = refl
entry_goes k t (m.case_id q) ls ns h = refl
entry_goes k t (m.result_ids q) ls ns h = refl
entry_goes k t (m.result_count q) ls ns h = refl
entry_goes k t (m.core_source q) ls ns h = refl
entry_goes k t (m.module_bytes q) ls ns h = refl
entry_goes k t (m.scope q) ls ns h = refl

-- ---- texts

texts_one : (x : m.Leaf) (ls : List m.Leaf) → joined_text (x ∷ ls) ≡ joined_text (x ∷ []) ++ joined_text ls
texts_one (m.text t) ls = ap (λ u. u ++ joined_text ls) (sym (append_nil t))
texts_one (m.ref u q) ls = refl
texts_one (m.number q) ls = refl
texts_one (m.kind q) ls = refl
texts_one (m.core_value q) ls = refl
texts_one (m.place q) ls = refl
texts_one m.absent ls = refl
texts_one (m.present q) ls = refl
texts_one (m.node q) ls = refl
texts_one (m.nodes q) ls = refl
texts_one (m.case_id q) ls = refl
texts_one (m.result_ids q) ls = refl
texts_one (m.result_count q) ls = refl
texts_one (m.core_source q) ls = refl
texts_one (m.module_bytes q) ls = refl
texts_one (m.scope q) ls = refl

pub joined_more : (xs ys : List (Bor Text)) → joined (xs ++ ys) ≡ joined xs ++ joined ys
joined_more [] ys = refl
joined_more (x ∷ xs) ys = ap (λ t. x.now ++ t) (joined_more xs ys) ∙ sym (append_assoc x.now (joined xs) (joined ys))

-- ---- what is made of them

pub lists_held : (a h : Made) (ns : List m.Node) (ls ms : List m.Leaf) → ns ≡ take (length a.nodes) h.nodes → ls ≡ h.leaves ++ ms
    → record h { nodes = ns; leaves = ls } ≡ join (front a h) (record (behind a h) { nodes = []; leaves = (behind a h).leaves ++ ms })
lists_held a h ns ls ms e l = same_made (record h { nodes = ns; leaves = ls }) (join (front a h) (record (behind a h) { nodes = []; leaves = (behind a h).leaves ++ ms }))
    (sym (take-append-drop (length a.rows) h.rows))
    (l ∙ (ap (λ us. us ++ ms) (sym (take-append-drop (length a.leaves) h.leaves)) ∙ append_assoc (take (length a.leaves) h.leaves) (drop (length a.leaves) h.leaves) ms))
    (e ∙ sym (append_nil (take (length a.nodes) h.nodes)))
    (sym (take-append-drop (length a.ids) h.ids))
    (sym (take-append-drop (length a.labels) h.labels))
    (sym (take-append-drop (length a.exports) h.exports))
    (sym (take-append-drop (length a.places) h.places))
    (sym (take-append-drop (length a.defs) h.defs))

-- the first of a list, up to the length of another
pub first_are : {A B C : Type 0} (f : A → B) (n : ℕ) (zs : List C) (xs ys : List A) → ys ≡ take n xs → length zs ≡ n → map f ys ≡ take (length zs) (map f xs)
first_are f n zs xs ys e l = ap (map f) e ∙ (take_map f n xs ∙ ap (λ k. take k (map f xs)) (sym l))

pub joined_held : (a h : Made) (ls : List m.Leaf) (t : Text) → ls ≡ take (length a.leaves) h.leaves → t ≡ joined_text (behind a h).leaves
    → join (record h { leaves = ls }) (a_leaf (m.text t)) ≡ join (front a h) (record (behind a h) { leaves = m.text (joined_text (behind a h).leaves) ∷ [] })
joined_held a h ls t e l =
    leaf_behind (record h { leaves = ls }) (m.text t)
    ∙ (ap (λ us. record h { leaves = us ++ (m.text t ∷ []) }) e
    ∙ (ap (λ w. record h { leaves = take (length a.leaves) h.leaves ++ (m.text w ∷ []) }) l ∙ sym (leaves_made a h (m.text (joined_text (behind a h).leaves) ∷ []))))

-- what was added to parts without others is what is made of these
pub adds_made_of : {X E : Type 0} (r : Result X E) (w : Wraps) (At : Made → Type 0) (p p' q : Scratch) (f : List (List Field) → List CoreModule → Made)
    → p'.cores ≡ p.cores → ((fs : List (List Field)) (cs : List CoreModule) (a : Made) → At a → join (held fs cs p') (f fs cs) ≡ join (front a (held fs cs p)) (wrapped w (behind a (held fs cs p)))) → Adds r p' q f → MakesOf w At r p q
adds_made_of (Ok x) w At p p' q f c e h = (subst (λ k. Grows k q.cores) c h.0, λ fs cs z a k. h.1 fs cs z ∙ e fs cs a k)
adds_made_of (Err x) w At p p' q f c e h = tt

-- ---- their turns

pub lists_next : (k n : ℕ) (ns : List m.Node) → k < n → numbered_lists k (n - k) ns ≡ m.nodes (nodes_from (numbered_nodes k ns)) ∷ numbered_lists (k + 1) (n - (k + 1)) ns
lists_next k n ns h = ap (λ j. numbered_lists k j ns) (less k n h)
  where
    less : (k n : ℕ) → k < n → n - k ≡ suc (n - (k + 1))
    less k n h = omega (arith, h)

pub one_more : {A B : Type 0} (f : A → B) (xs ys : List A) (x : A) (y : B) → ys ≡ xs ++ (x ∷ []) → f x ≡ y → map f ys ≡ map f xs ++ (y ∷ [])
one_more f xs ys x y e h = ap (map f) e ∙ (map_more f xs (x ∷ []) ∙ ap (λ w. map f xs ++ (w ∷ [])) h)

pub added_before : {A B : Type 0} (f : A → B) (xs ys : List A) (x : A) (ns ms : List B) → ys ≡ xs ++ (x ∷ []) → f x ∷ ns ≡ ms → map f ys ++ ns ≡ map f xs ++ ms
added_before f xs ys x ns ms e h = ap (λ us. us ++ ns) (one_more f xs ys x (f x) e refl) ∙ (append_assoc (map f xs) (f x ∷ []) ns ∙ ap (λ us. map f xs ++ us) h)

pub nodes_are : (cs : List CoreModule) (ns : List Node) → nodes_listed cs ns ≡ nodes_from (map (node_of cs) ns)
nodes_are cs [] = refl
nodes_are cs (n ∷ ns) = ap (m.one_node (node_of cs n)) (nodes_are cs ns)

pub nodes_leaf : (cs : List CoreModule) (x : Bor (List Node)) (xs : List Node) (ns : List m.Node) → x.now ≡ xs → map (node_of cs) xs ≡ ns → leaf_of cs (l.Nodes x) ≡ m.nodes (nodes_from ns)
nodes_leaf cs x xs ns e h = leaf_nodes cs x ∙ ap m.nodes (nodes_are cs x.now ∙ (ap (λ us. nodes_from (map (node_of cs) us)) e ∙ ap nodes_from h))

pub text_behind : (xs ys : List (Bor Text)) (t : Bor Text) → ys ≡ xs ++ (t ∷ []) → joined ys ≡ joined xs ++ t.now
text_behind xs ys t e = ap joined e ∙ (joined_more xs (t ∷ []) ∙ ap (λ u. joined xs ++ u) (append_nil t.now))

pub texts_behind : (r : Result ⊤ AllocError) (xs ys zs : List (Bor Text)) (x : m.Leaf) → ys ≡ cond (is_ok r) (xs ++ zs) xs → x ≡ m.text (joined zs) → OnOk r (joined ys ≡ joined xs ++ joined_text (x ∷ []))
texts_behind (Ok u) xs ys zs x e h = ap joined e ∙ (joined_more xs zs ∙ (ap (λ w. joined xs ++ w) (sym (append_nil (joined zs))) ∙ ap (λ w. joined xs ++ joined_text (w ∷ [])) (sym h)))
texts_behind (Err u) xs ys zs x e h = tt

pub from_nothing : (xs ys : List (Bor Text)) (t : Text) → xs ≡ [] → joined ys ≡ joined xs ++ t → joined ys ≡ t
from_nothing xs ys t e h = h ∙ ap (λ us. joined us ++ t) e
