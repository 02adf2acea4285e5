-- Producers, field by field.
use Rattle.std.proofs.Common.{◌≡◌, ◌≢◌, ℕ, ◌+◌, ◌<◌, ◌≤◌, List, [], ◌∷◌, ◌++◌, length, drop, drop_of_length-le, get_or, map, MatchOption, refl, sym, ◌∙◌, ap, arith, append_assoc, append-nil, true, false, Option, Some, None, Bor, codes}
use Rattle.std.specs.Prelude.{option_map}
use Rattle.comp_model.specs.Core.{Text}
use Rattle.comp_model.specs.CoreModules.{CoreModule}
use Rattle.comp_model.specs.Leb.{uleb}
use Rattle.comp_model.specs.Model as m
use Rattle.comp_model.specs.Model.{Leaves, no_leaf, ◌▸◌}
use Rattle.comp_model.specs.Payloads.{framed, joined, producer_bytes, producers_bytes, producers_field, producers_fields, producers_payload}
use Rattle.comp_scopes.specs.Form.{custom_node}
use Rattle.comp_wire.proofs.Lists.{dropped}
use Rattle.comp_wire.specs.Spelled.{item_of_node}
use Rattle.comp_tree.specs.Model.{leaf_of, lent_text}
use Rattle.comp_tree.specs.Access.{nodes_in}
use Rattle.comp_tree.specs.Lists.{listed, nodes_listed}
use Rattle.comp_tree.specs.declared.tree.Node.{Node}
use Rattle.comp_tree.specs.declared.tree.Leaf.{Leaf}
use Rattle.tree_write.specs.Kept.{Kept, put}
use Rattle.tree_write.specs.Produced.{maybe_text, is_text, framed_text}
use Rattle.tree_write.proofs.Puts.{put_put}
use Rattle.tree_write.proofs.Assembled.{listed_nodes}

pub joined-both : (xs ys : List (List ℕ)) → joined (xs ++ ys) ≡ joined xs ++ joined ys
joined-both [] ys = refl
joined-both (x ∷ xs) ys = ap (λ b. x ++ b) (joined-both xs ys) ∙ sym (append_assoc x (joined xs) (joined ys))

pair_is : (l k : m.Leaf) → is_text l ≡ true → is_text k ≡ true → producer_bytes (l ▸ k ▸ no_leaf) ≡ framed_text (maybe_text l) ++ framed_text (maybe_text k)
pair_is (m.text x) (m.text y) e f = refl
pair_is (m.text x) _ e f = cc
pair_is _ k e f = cc

no_first : (l k : m.Leaf) → is_text l ≡ false → producer_bytes (l ▸ k ▸ no_leaf) ≡ []
no_first (m.text x) k e = cc
no_first _ k e = refl

no_second : (l k : m.Leaf) → is_text k ≡ false → producer_bytes (l ▸ k ▸ no_leaf) ≡ []
no_second (m.text x) (m.text y) e = cc
no_second (m.text x) _ e = refl
no_second _ k e = refl

no_pair : (l : m.Leaf) → producer_bytes (l ▸ no_leaf) ≡ []
no_pair (m.text x) = refl
no_pair _ = refl

too_many : (l k j : m.Leaf) (ls : Leaves) → producer_bytes (l ▸ k ▸ j ▸ ls) ≡ []
too_many (m.text x) (m.text y) j ls = refl
too_many (m.text x) _ j ls = refl
too_many _ k j ls = refl

module _ (cores : List CoreModule) where
  pub other_length : (xs : List Leaf) → length xs ≢ 2 → producer_bytes (listed cores xs) ≡ []
  other_length [] n = refl
  other_length (x ∷ []) n = no_pair (leaf_of cores x)
  other_length (x ∷ y ∷ []) n = absurd (n refl)
  other_length (x ∷ y ∷ z ∷ xs) n = too_many (leaf_of cores x) (leaf_of cores y) (leaf_of cores z) (listed cores xs)

  pub two_leaves : (xs : List Leaf) (x y : Leaf) → length xs ≡ 2 → x ≡ get_or xs 0 x → y ≡ get_or xs 1 y → is_text (leaf_of cores x) ≡ true → is_text (leaf_of cores y) ≡ true
      → producer_bytes (listed cores xs) ≡ framed_text (maybe_text (leaf_of cores x)) ++ framed_text (maybe_text (leaf_of cores y))
  two_leaves [] x y n e f a b = absurd (omega (arith, n))
  two_leaves (p ∷ []) x y n e f a b = absurd (omega (arith, n))
  two_leaves (p ∷ q ∷ []) x y n e f a b = sym (ap (λ u. producer_bytes (leaf_of cores u ▸ leaf_of cores q ▸ no_leaf)) e ∙ refl) ∙ sym (ap (λ u. producer_bytes (leaf_of cores x ▸ leaf_of cores u ▸ no_leaf)) f) ∙ pair_is (leaf_of cores x) (leaf_of cores y) a b
  two_leaves (p ∷ q ∷ r ∷ xs) x y n e f a b = absurd (omega (arith, n))

  pub no_texts : (xs : List Leaf) (x : Leaf) → length xs ≡ 2 → x ≡ get_or xs 0 x → is_text (leaf_of cores x) ≡ false → producer_bytes (listed cores xs) ≡ []
  no_texts [] x n e a = absurd (omega (arith, n))
  no_texts (p ∷ []) x n e a = absurd (omega (arith, n))
  no_texts (p ∷ q ∷ []) x n e a = sym (ap (λ u. producer_bytes (leaf_of cores u ▸ leaf_of cores q ▸ no_leaf)) e) ∙ no_first (leaf_of cores x) (leaf_of cores q) a
  no_texts (p ∷ q ∷ r ∷ xs) x n e a = absurd (omega (arith, n))

  pub no_version : (xs : List Leaf) (y : Leaf) → length xs ≡ 2 → y ≡ get_or xs 1 y → is_text (leaf_of cores y) ≡ false → producer_bytes (listed cores xs) ≡ []
  no_version [] y n e a = absurd (omega (arith, n))
  no_version (p ∷ []) y n e a = absurd (omega (arith, n))
  no_version (p ∷ q ∷ []) y n e a = sym (ap (λ u. producer_bytes (leaf_of cores p ▸ leaf_of cores u ▸ no_leaf)) e) ∙ no_second (leaf_of cores p) (leaf_of cores y) a
  no_version (p ∷ q ∷ r ∷ xs) y n e a = absurd (omega (arith, n))

  pub pair_put : (xs : List Leaf) (x y : Leaf) (k a b : Kept) → length xs ≡ 2 → x ≡ get_or xs 0 x → y ≡ get_or xs 1 y → is_text (leaf_of cores x) ≡ true → is_text (leaf_of cores y) ≡ true
      → a ≡ put (framed_text (maybe_text (leaf_of cores y))) k → b ≡ put (framed_text (maybe_text (leaf_of cores x))) a → b ≡ put (producer_bytes (listed cores xs)) k
  pair_put xs x y k a b n e f p q c d =
      let version = framed_text (maybe_text (leaf_of cores y)) in
      let name = framed_text (maybe_text (leaf_of cores x)) in
      d ∙ ap (put name) c ∙ put_put name version k ∙ ap (λ z. put z k) (sym (two_leaves xs x y n e f p q))

  -- ---- the nodes at a place

  not_given : (l : m.Leaf) (n : Text) (ns : List Text) (ls : Leaves) → nodes_in l ≡ None → producers_fields (n ∷ ns) (l ▸ ls) ≡ []
  not_given (m.nodes q) n ns ls e = cc
  not_given _ n ns ls e = refl

  given : (l : m.Leaf) (q : m.Nodes) (n : Text) (ns : List Text) (ls : Leaves) → nodes_in l ≡ Some q → producers_fields (n ∷ ns) (l ▸ ls) ≡ producers_field n q ++ producers_fields ns ls
  given (m.nodes r) q n ns ls e = let k : r ≡ q = cc in ap (λ y. producers_field n y ++ producers_fields ns ls) k
  given _ q n ns ls e = cc

  pub at_place : (xs : List Leaf) (i : ℕ) (x : Leaf) (o : Option (Bor (List Node))) → i < length xs → x ≡ get_or xs i x
      → option_map (λ ns. nodes_listed cores ns.now) o ≡ nodes_in (leaf_of cores x)
      → (n : Text) (ns : List Text) → MatchOption o (producers_fields (n ∷ ns) (listed cores (drop i xs)) ≡ []) (λ q. producers_fields (n ∷ ns) (listed cores (drop i xs)) ≡ producers_field n (nodes_listed cores q.now) ++ producers_fields ns (listed cores (drop (i + 1) xs)))
  at_place xs i x None h e g n ns = ap (λ ys. producers_fields (n ∷ ns) (listed cores ys)) (dropped xs i x h e) ∙ not_given (leaf_of cores x) n ns (listed cores (drop (i + 1) xs)) (sym g)
  at_place xs i x (Some q) h e g n ns = ap (λ ys. producers_fields (n ∷ ns) (listed cores ys)) (dropped xs i x h e) ∙ given (leaf_of cores x) (nodes_listed cores q.now) n ns (listed cores (drop (i + 1) xs)) (sym g)

  pub behind_leaves : (xs : List Leaf) (i : ℕ) (n : Text) (ns : List Text) → length xs ≤ i → producers_fields (n ∷ ns) (listed cores (drop i xs)) ≡ []
  behind_leaves xs i n ns h = ap (λ ys. producers_fields (n ∷ ns) (listed cores ys)) (drop_of_length-le xs h)

  -- ---- fields

  names_left : (names : List (Bor Text)) (i : ℕ) (x : Bor Text) → i < length names → x ≡ get_or names i x → map lent_text (drop i names) ≡ x.now ∷ map lent_text (drop (i + 1) names)
  names_left names i x h e = ap (map lent_text) (dropped names i x h e)

  pub fields_here : (names : List (Bor Text)) (leaves : List Leaf) (i : ℕ) (x : Bor Text) (q : m.Nodes) → i < length names → x ≡ get_or names i x
      → ((n : List ℕ) (ns : List (List ℕ)) → producers_fields (n ∷ ns) (listed cores (drop i leaves)) ≡ producers_field n q ++ producers_fields ns (listed cores (drop (i + 1) leaves)))
      → producers_fields (map lent_text (drop i names)) (listed cores (drop i leaves)) ≡ producers_field x.now q ++ producers_fields (map lent_text (drop (i + 1) names)) (listed cores (drop (i + 1) leaves))
  fields_here names leaves i x q h e f = ap (λ ns. producers_fields ns (listed cores (drop i leaves))) (names_left names i x h e) ∙ f x.now (map lent_text (drop (i + 1) names))

  pub no_fields : (names : List (Bor Text)) (leaves : List Leaf) (i : ℕ) → ((n : List ℕ) (ns : List (List ℕ)) → producers_fields (n ∷ ns) (listed cores (drop i leaves)) ≡ []) → producers_fields (map lent_text (drop i names)) (listed cores (drop i leaves)) ≡ []
  no_fields names leaves i f = go (map lent_text (drop i names))
    where
      go : (ns : List Text) → producers_fields ns (listed cores (drop i leaves)) ≡ []
      go [] = refl
      go (n ∷ ns) = f n ns

  pub names_done : (names : List (Bor Text)) (leaves : List Leaf) (i : ℕ) → length names ≤ i → producers_fields (map lent_text (drop i names)) (listed cores (drop i leaves)) ≡ []
  names_done names leaves i h = ap (λ ns. producers_fields (map lent_text ns) (listed cores (drop i leaves))) (drop_of_length-le names h)

  pub field_put : (x : Text) (ns : List Node) (k a b c : Kept) → length ns ≢ 0 → a ≡ put (producers_bytes (nodes_listed cores ns)) k → b ≡ put (uleb (length ns)) a → c ≡ put (framed x) b
      → c ≡ put (joined (producers_field x (nodes_listed cores ns))) k
  field_put x [] k a b c z e f g = absurd (z refl)
  field_put x (y ∷ ns) k a b c z e f g =
      let bytes = producers_bytes (nodes_listed cores (y ∷ ns)) in
      let count = uleb (length (y ∷ ns)) in
      g ∙ ap (put (framed x)) (f ∙ ap (put count) e ∙ put_put count bytes k) ∙ put_put (framed x) (count ++ bytes) k
      ∙ ap (λ q. put (framed x ++ (uleb q ++ bytes)) k) (sym (listed_nodes cores (y ∷ ns))) ∙ ap (λ q. put q k) (sym (append-nil _))

  pub no_field : (x : Text) (ns : List Node) → length ns ≡ 0 → producers_field x (nodes_listed cores ns) ≡ []
  no_field x [] z = refl
  no_field x (y ∷ ns) z = absurd (omega (arith, z))

  pub one_field : (x : Text) (ns : List Node) → length ns ≢ 0 → 1 ≡ length (producers_field x (nodes_listed cores ns))
  one_field x [] z = absurd (z refl)
  one_field x (y ∷ ns) z = refl

  pub fields_put : (names : List (Bor Text)) (leaves : List Leaf) (i : ℕ) (x : Bor Text) (q : m.Nodes) (k a b : Kept) → i < length names → x ≡ get_or names i x
      → ((n : List ℕ) (ns : List (List ℕ)) → producers_fields (n ∷ ns) (listed cores (drop i leaves)) ≡ producers_field n q ++ producers_fields ns (listed cores (drop (i + 1) leaves)))
      → a ≡ put (joined (producers_fields (map lent_text (drop (i + 1) names)) (listed cores (drop (i + 1) leaves)))) k → b ≡ put (joined (producers_field x.now q)) a
      → b ≡ put (joined (producers_fields (map lent_text (drop i names)) (listed cores (drop i leaves)))) k
  fields_put names leaves i x q k a b h e f m n =
      let own = producers_field x.now q in
      let rest = producers_fields (map lent_text (drop (i + 1) names)) (listed cores (drop (i + 1) leaves)) in
      n ∙ ap (put (joined own)) m ∙ put_put (joined own) (joined rest) k ∙ ap (λ xs. put xs k) (sym (ap joined (fields_here names leaves i x q h e f) ∙ joined-both own rest))

-- ---- the section

pub producers_put : (fields : List (List ℕ)) (ls : Leaves) (count : ℕ) (k a b c : Kept) → fields ≡ producers_fields (codes "language" ∷ codes "sdk" ∷ codes "processed-by" ∷ []) ls → count ≡ length fields → a ≡ put (joined fields) k → b ≡ put (uleb count) a
    → c ≡ put (framed (codes "producers")) b → c ≡ put (item_of_node (custom_node (codes "producers") (producers_payload ls))).content k
producers_put fields ls count k a b c s n e f g =
    let payload = uleb (length fields) ++ joined fields in
    g ∙ ap (put (framed (codes "producers"))) (f ∙ ap (λ q. put (uleb q) a) n ∙ ap (put (uleb (length fields))) e ∙ put_put (uleb (length fields)) (joined fields) k) ∙ put_put (framed (codes "producers")) payload k
    ∙ ap (λ q. put (framed (codes "producers") ++ (uleb (length q) ++ joined q)) k) s ∙ ap (λ q. put (framed (codes "producers") ++ q) k) (sym (append-nil (producers_payload ls)))
