-- One list of nodes becomes another, entry by entry.
use Rattle.std.proofs.Common.{◌≡◌, ℕ, ◌+◌, ◌<◌, ◌≤◌, List, [], ◌∷◌, ◌++◌, length, drop, get_or, refl, sym, ap, ◌∙◌}
use Rattle.std.proofs.lemmas.List.{drop_more, drop_all}
use Rattle.comp_model.specs.Model as m
use Rattle.comp_model.specs.Model.{Nodes, no_node, one_node}
use Rattle.typed_nodes.proofs.Lists.{nodes_behind}

pub none_behind : (ns : Nodes) → nodes_behind ns no_node ≡ ns
none_behind no_node = refl
none_behind (one_node n ns) = ap (one_node n) (none_behind ns)

module _ {A : Type 0} (f : A → m.Node) (F : List A → Nodes) (F0 : F [] ≡ no_node) (F1 : (x : A) (xs : List A) → F (x ∷ xs) ≡ one_node (f x) (F xs)) where
  pushed : (out : List A) (x : A) (rest : Nodes) → nodes_behind (F (out ++ x ∷ [])) rest ≡ nodes_behind (F out) (one_node (f x) rest)
  pushed [] x rest = ap (λ q. nodes_behind q rest) (F1 x [] ∙ ap (one_node (f x)) F0) ∙ sym (ap (λ q. nodes_behind q (one_node (f x) rest)) F0)
  pushed (y ∷ ys) x rest = ap (λ q. nodes_behind q rest) (F1 y (ys ++ x ∷ [])) ∙ ap (one_node (f y)) (pushed ys x rest) ∙ sym (ap (λ q. nodes_behind q (one_node (f x) rest)) (F1 y ys))

  -- one turn of a loop: the entry at i has become the last of those that were made
  pub turn : {B : Type 0} (g : B → m.Node) (G : List B → Nodes) (G1 : (x : B) (xs : List B) → G (x ∷ xs) ≡ one_node (g x) (G xs)) (out new : List A) (x : A) (all : List B) (i : ℕ) (d : B) → i < length all → new ≡ out ++ x ∷ [] → f x ≡ g (get_or all i d)
      → nodes_behind (F out) (G (drop i all)) ≡ G all → nodes_behind (F new) (G (drop (i + 1) all)) ≡ G all
  turn g G G1 out new x all i d h e k inv =
      ap (λ q. nodes_behind (F q) (G (drop (i + 1) all))) e
      ∙ pushed out x (G (drop (i + 1) all))
      ∙ ap (λ q. nodes_behind (F out) (one_node q (G (drop (i + 1) all)))) k
      ∙ ap (nodes_behind (F out)) (sym (G1 (get_or all i d) (drop (i + 1) all)))
      ∙ ap (λ q. nodes_behind (F out) (G q)) (sym (drop_more all i d h))
      ∙ inv

-- and its end
pub turned : {B : Type 0} (F : Nodes) (G : List B → Nodes) (G0 : G [] ≡ no_node) (all : List B) (i : ℕ) → length all ≤ i → nodes_behind F (G (drop i all)) ≡ G all → F ≡ G all
turned F G G0 all i h inv = sym (none_behind F) ∙ ap (nodes_behind F) (sym G0) ∙ ap (λ q. nodes_behind F (G q)) (sym (drop_all i all h)) ∙ inv

pub nothing_behind : {A : Type 0} (xs : List A) → xs ++ [] ≡ xs
nothing_behind [] = refl
nothing_behind (x ∷ xs) = ap (◌∷◌ x) (nothing_behind xs)
