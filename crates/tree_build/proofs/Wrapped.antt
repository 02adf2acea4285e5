-- What is held when something is made of what stands behind ends.
use Rattle.std.proofs.Common.{◌≡◌, ℕ, zero, suc, refl, ap, sym, ◌∙◌, None, Option, Result, Ok, Err, map, List, [], ◌∷◌, ◌++◌, take, drop, length, append_assoc}
use Rattle.std.specs.declared.alloc.AllocError.{AllocError}
use Rattle.comp_model.specs.CoreModules.{CoreModule, Field}
use Rattle.comp_model.specs.Model as m
use Rattle.text_rules.specs.Made.{Made, join, front, behind, node_made, def_made, leaves_from, nodes_from, defs_from, first_leaf, first_row}
use Rattle.text_rules.specs.Makes.{wrapped, a_leaf}
use Rattle.text_rules.specs.Rule.{Wraps}
use Rattle.tree_build.specs.Cores.{Final, Grows}
use Rattle.tree_build.specs.Held.{held}
use Rattle.tree_build.specs.Adds.{Adds, MakesOf}
use Rattle.tree_build.specs.Making.{wraps_of, leaf_made as leaf_of_node}
use Rattle.tree_build.specs.declared.wraps.Making.{Making}
use Rattle.tree_build.specs.declared.wraps.Making.TheVariants as making
use Rattle.tree_build.specs.declared.scratch.Scratch.{Scratch}
use Rattle.tree_build.proofs.Prefixes.{append_nil, grows_then, final_before}

pub made_eq : (a b : Made) → a.rows ≡ b.rows → a.leaves ≡ b.leaves → a.nodes ≡ b.nodes → a.ids ≡ b.ids → a.labels ≡ b.labels → a.exports ≡ b.exports → a.places ≡ b.places → a.defs ≡ b.defs → a ≡ b
made_eq a b p1 p2 p3 p4 p5 p6 p7 p8 =
    ap (λ x. record a { rows = x }) p1
    ∙ (ap (λ x. record a { rows = b.rows; leaves = x }) p2
    ∙ (ap (λ x. record a { rows = b.rows; leaves = b.leaves; nodes = x }) p3
    ∙ (ap (λ x. record b { ids = x; labels = a.labels; exports = a.exports; places = a.places; defs = a.defs }) p4
    ∙ (ap (λ x. record b { labels = x; exports = a.exports; places = a.places; defs = a.defs }) p5
    ∙ (ap (λ x. record b { exports = x; places = a.places; defs = a.defs }) p6
    ∙ (ap (λ x. record b { places = x; defs = a.defs }) p7
    ∙ ap (λ x. record b { defs = x }) p8))))))

pub take_and_drop : {A : Type 0} (n : ℕ) (xs : List A) → xs ≡ take n xs ++ drop n xs
take_and_drop zero xs = refl
take_and_drop (suc n) [] = refl
take_and_drop (suc n) (x ∷ xs) = ap (λ ys. x ∷ ys) (take_and_drop n xs)

pub take_and_more : {A : Type 0} (n : ℕ) (xs ys : List A) → xs ++ ys ≡ take n xs ++ (drop n xs ++ ys)
take_and_more n xs ys = ap (λ zs. zs ++ ys) (take_and_drop n xs) ∙ append_assoc (take n xs) (drop n xs) ys

-- nothing more, and all that stands before an end and behind it
pub same_parts : {A : Type 0} (n : ℕ) (xs : List A) → xs ++ [] ≡ take n xs ++ drop n xs
same_parts n xs = append_nil xs ∙ take_and_drop n xs

module _ (a h : Made) where
  -- a node in the place of its row and leaves
  node_wrapped : (g : m.Node → m.Leaf) (b : Made) (y : m.Leaf) → b ≡ record h { rows = take (length a.rows) h.rows; leaves = take (length a.leaves) h.leaves } → y ≡ g (node_made (behind a h))
      → join b (a_leaf y) ≡ join (front a h) (record (behind a h) { rows = []; leaves = g (node_made (behind a h)) ∷ [] })
  node_wrapped g b y e z = ap (λ k. join k (a_leaf y)) e ∙ made_eq _ _ refl (ap (λ x. take (length a.leaves) h.leaves ++ (x ∷ [])) z)
      (same_parts (length a.nodes) h.nodes) (same_parts (length a.ids) h.ids) (same_parts (length a.labels) h.labels) (same_parts (length a.exports) h.exports) (same_parts (length a.places) h.places) (same_parts (length a.defs) h.defs)

  -- a leaf made of entries
  pub list_wrapped : (g : List m.Node → m.Leaf) (b : Made) (y : m.Leaf) → b ≡ record h { nodes = take (length a.nodes) h.nodes } → y ≡ g (drop (length a.nodes) h.nodes)
      → join b (a_leaf y) ≡ join (front a h) (record (behind a h) { nodes = []; leaves = drop (length a.leaves) h.leaves ++ (g (drop (length a.nodes) h.nodes) ∷ []) })
  list_wrapped g b y e z = ap (λ k. join k (a_leaf y)) e ∙ made_eq _ _ (same_parts (length a.rows) h.rows) (ap (λ x. h.leaves ++ (x ∷ [])) z ∙ take_and_more (length a.leaves) h.leaves (g (drop (length a.nodes) h.nodes) ∷ []))
      refl (same_parts (length a.ids) h.ids) (same_parts (length a.labels) h.labels) (same_parts (length a.exports) h.exports) (same_parts (length a.places) h.places) (same_parts (length a.defs) h.defs)

  -- leaves in the place of others
  pub leaves_wrapped : (b : Made) (ls : List m.Leaf) → b ≡ record h { leaves = take (length a.leaves) h.leaves ++ ls } → b ≡ join (front a h) (record (behind a h) { leaves = ls })
  leaves_wrapped b ls e = e ∙ made_eq _ _ (take_and_drop (length a.rows) h.rows) refl (take_and_drop (length a.nodes) h.nodes) (take_and_drop (length a.ids) h.ids) (take_and_drop (length a.labels) h.labels) (take_and_drop (length a.exports) h.exports) (take_and_drop (length a.places) h.places) (take_and_drop (length a.defs) h.defs)

  -- one leaf in the place of others
  pub leaf_wrapped : (b : Made) (y z : m.Leaf) → b ≡ record h { leaves = take (length a.leaves) h.leaves } → y ≡ z → join b (a_leaf y) ≡ join (front a h) (record (behind a h) { leaves = z ∷ [] })
  leaf_wrapped b y z e k = leaves_wrapped (join b (a_leaf y)) (z ∷ []) (ap (λ x. join x (a_leaf y)) e ∙ made_eq _ _ (append_nil h.rows) (ap (λ x. take (length a.leaves) h.leaves ++ (x ∷ [])) k) (append_nil h.nodes) (append_nil h.ids) (append_nil h.labels) (append_nil h.exports) (append_nil h.places) (append_nil h.defs))

  -- a leaf made of definitions
  pub scope_wrapped : (g : List m.Def → m.Leaf) (b : Made) (y : m.Leaf) → b ≡ record h { defs = take (length a.defs) h.defs } → y ≡ g (drop (length a.defs) h.defs)
      → join b (a_leaf y) ≡ join (front a h) (record (behind a h) { defs = []; leaves = drop (length a.leaves) h.leaves ++ (g (drop (length a.defs) h.defs) ∷ []) })
  scope_wrapped g b y e z = ap (λ k. join k (a_leaf y)) e ∙ made_eq _ _ (same_parts (length a.rows) h.rows) (ap (λ x. h.leaves ++ (x ∷ [])) z ∙ take_and_more (length a.leaves) h.leaves (g (drop (length a.defs) h.defs) ∷ []))
      (same_parts (length a.nodes) h.nodes) (same_parts (length a.ids) h.ids) (same_parts (length a.labels) h.labels) (same_parts (length a.exports) h.exports) (same_parts (length a.places) h.places) refl

  -- an entry of its row and leaves
  pub entry_wrapped : (b : Made) → b ≡ record h { rows = take (length a.rows) h.rows; leaves = take (length a.leaves) h.leaves; nodes = h.nodes ++ (node_made (behind a h) ∷ []) }
      → b ≡ join (front a h) (record (behind a h) { rows = []; leaves = []; nodes = drop (length a.nodes) h.nodes ++ (node_made (behind a h) ∷ []) })
  entry_wrapped b e = e ∙ made_eq _ _ (sym (append_nil (take (length a.rows) h.rows))) (sym (append_nil (take (length a.leaves) h.leaves))) (take_and_more (length a.nodes) h.nodes (node_made (behind a h) ∷ []))
      (take_and_drop (length a.ids) h.ids) (take_and_drop (length a.labels) h.labels) (take_and_drop (length a.exports) h.exports) (take_and_drop (length a.places) h.places) (take_and_drop (length a.defs) h.defs)

  -- a definition of all but entries and definitions
  pub def_wrapped : (b : Made) → b ≡ record h { rows = take (length a.rows) h.rows; leaves = take (length a.leaves) h.leaves; ids = take (length a.ids) h.ids; labels = take (length a.labels) h.labels; exports = take (length a.exports) h.exports; places = take (length a.places) h.places; defs = h.defs ++ (def_made (behind a h) ∷ []) }
      → b ≡ join (front a h) (record { rows = []; leaves = []; nodes = drop (length a.nodes) h.nodes; ids = []; labels = []; exports = []; places = []; defs = drop (length a.defs) h.defs ++ (def_made (behind a h) ∷ []) })
  def_wrapped b e = e ∙ made_eq _ _ (sym (append_nil (take (length a.rows) h.rows))) (sym (append_nil (take (length a.leaves) h.leaves))) (take_and_drop (length a.nodes) h.nodes)
      (sym (append_nil (take (length a.ids) h.ids))) (sym (append_nil (take (length a.labels) h.labels))) (sym (append_nil (take (length a.exports) h.exports))) (sym (append_nil (take (length a.places) h.places))) (take_and_more (length a.defs) h.defs (def_made (behind a h) ∷ []))

-- a node as any of the leaves that it can be
pub made_wrapped : (k : Making) (a h b : Made) (y : m.Leaf) → b ≡ record h { rows = take (length a.rows) h.rows; leaves = take (length a.leaves) h.leaves } → y ≡ leaf_of_node k (node_made (behind a h))
    → join b (a_leaf y) ≡ join (front a h) (wrapped (wraps_of k) (behind a h))
made_wrapped making.Node a h b y e z = node_wrapped a h (λ n. m.node n) b y e z
made_wrapped (making.Inline u) a h b y e z = node_wrapped a h (λ n. m.ref u (m.inline n)) b y e z
made_wrapped (making.Bundle u) a h b y e z = node_wrapped a h (λ n. m.ref u (m.bundle n)) b y e z

-- what was taken, and one more leaf
pub leaf_made : {X : Type 0} (w : Wraps) (At : Made → Type 0) (r : Result X AllocError) (p n q : Scratch) (y : List (List Field) → List CoreModule → m.Leaf) → Grows p.cores n.cores → Adds r n q (λ fs cs. a_leaf (y fs cs))
    → ((fs : List (List Field)) (cs : List CoreModule) → Final fs cs n.cores → (a : Made) → At a → join (held fs cs n) (a_leaf (y fs cs)) ≡ join (front a (held fs cs p)) (wrapped w (behind a (held fs cs p))))
    → MakesOf w At r p q
leaf_made w At (Ok x) p n q y g k e = (grows_then p.cores n.cores q.cores g k.0, λ fs cs h a z. k.1 fs cs h ∙ e fs cs (final_before fs cs n.cores q.cores k.0 h) a z)
leaf_made w At (Err x) p n q y g k e = tt
