-- What was found for the names of parts, by the parts in them and those that are left.
use Rattle.std.proofs.Common.{◌≡◌, ℕ, refl, sym, ap, ◌∙◌, subst, List, [], ◌∷◌, ◌++◌, Option, Bor, append_assoc, Result, Ok, Err, OnOk}
use Rattle.std.specs.Bool.{⊤}
use Rattle.comp_model.specs.CoreModules.{CoreModule}
use Rattle.comp_model.specs.Model as m
use Rattle.wast_tokens.specs.declared.error.Error.{Error}
use Rattle.comp_tree.specs.declared.tree.Leaf.{Leaf}
use Rattle.comp_tree.specs.declared.tree.Leaf as l
use Rattle.comp_tree.specs.declared.tree.Node.{Node}
use Rattle.comp_tree.specs.Lists.{listed, nodes_listed}
use Rattle.comp_tree.specs.Model.{leaf_of, core_at}
use Rattle.comp_tree.proofs.Leaves.{leaf_present, leaf_node, leaf_nodes}
use Rattle.open_scopes.specs.declared.lookup.Found.{Found}
use Rattle.open_scopes.specs.declared.scopes.Open.{Open}
use Rattle.tree_names.specs.AllFound.{all_found, leaf_found, nodes_found, FoundBehind, FoundSoFar, FoundFirst, FoundTaken}
use Rattle.tree_names.proofs.CoreLeaves.{by_core}
use Rattle.tree_names.proofs.Taking.{DenotationsIn, none_behind, first_front, rest_front}

-- ---- put behind, part by part

pub so_far_start : (os : List Open) (all : DenotationsIn) (first : List (Option Found)) → FoundSoFar os all all first first
so_far_start os all first ms w behind = refl

module _ (os : List Open) (all : DenotationsIn) (first now : List (Option Found)) where
  pub so_far_more : (f g : DenotationsIn) (new : List (Option Found)) → FoundSoFar os all (λ ms. f ms ++ g ms) first now → FoundBehind os f now new → FoundSoFar os all g first new
  so_far_more f g new h k ms w behind = k ms w (g ms ++ behind) ∙ ap (λ z. now ++ z) (sym (append_assoc (f ms) (g ms) behind)) ∙ h ms w behind

  module _ (C : List CoreModule) where
    pub leaf_kept : (rest more : List Leaf) (y : Leaf) (new : List (Option Found)) → FoundSoFar os all (λ ms. all_found ms (listed C rest)) first now → rest ≡ y ∷ more → FoundBehind os (λ ms. leaf_found ms (leaf_of C y)) now new
        → FoundSoFar os all (λ ms. all_found ms (listed C more)) first new
    leaf_kept rest more y new h e = so_far_more (λ ms. leaf_found ms (leaf_of C y)) (λ ms. all_found ms (listed C more)) new (subst (λ z. FoundSoFar os all (λ ms. all_found ms (listed C z)) first now) e h)

    pub leaves_kept : (rest : List Leaf) → FoundSoFar os all (λ ms. all_found ms (listed C rest)) first now → rest ≡ [] → FoundBehind os all first now
    leaves_kept rest h e = subst (λ z. FoundSoFar os all (λ ms. all_found ms (listed C z)) first now) e h

    pub node_kept : (rest more : List Node) (y : Node) (new : List (Option Found)) → FoundSoFar os all (λ ms. nodes_found ms (nodes_listed C rest)) first now → rest ≡ y ∷ more → FoundBehind os (λ ms. all_found ms (listed C y.leaves.now)) now new
        → FoundSoFar os all (λ ms. nodes_found ms (nodes_listed C more)) first new
    node_kept rest more y new h e = so_far_more (λ ms. all_found ms (listed C y.leaves.now)) (λ ms. nodes_found ms (nodes_listed C more)) new (subst (λ z. FoundSoFar os all (λ ms. nodes_found ms (nodes_listed C z)) first now) e h)

    pub nodes_kept : (rest : List Node) → FoundSoFar os all (λ ms. nodes_found ms (nodes_listed C rest)) first now → rest ≡ [] → FoundBehind os all first now
    nodes_kept rest h e = subst (λ z. FoundSoFar os all (λ ms. nodes_found ms (nodes_listed C z)) first now) e h

pub same_kept : (os : List Open) (first now : List (Option Found)) (r : Result ⊤ Error) (l k : m.Leaf) → l ≡ k → OnOk r (FoundBehind os (λ ms. leaf_found ms k) first now) → OnOk r (FoundBehind os (λ ms. leaf_found ms l) first now)
same_kept os first now r l k e h = subst (λ z. OnOk r (FoundBehind os (λ ms. leaf_found ms z) first now)) (sym e) h

pub core_kept : (os : List Open) (C : List CoreModule) (n : ℕ) (l : m.Leaf) (xs : List (Option Found)) → l ≡ core_at C n → FoundBehind os (λ ms. leaf_found ms l) xs xs
core_kept os C n l xs e = subst (λ k. FoundBehind os (λ ms. leaf_found ms k) xs xs) (sym e) (by_core (λ k. FoundBehind os (λ ms. leaf_found ms k) xs xs) (none_behind os xs) (λ c. none_behind os xs) C n)

pub on_any : {A E : Type 0} (r : Result A E) {X : Type 0} → X → OnOk r X
on_any (Ok a) x = x
on_any (Err e) x = tt

-- ---- taken from the front, part by part

module _ (C : List CoreModule) (os : List Open) (now : List (Option Found)) where
  leaves_front : (rest more : List Leaf) (y : Leaf) → FoundFirst os (λ ms. all_found ms (listed C rest)) now → rest ≡ y ∷ more → FoundFirst os (λ ms. leaf_found ms (leaf_of C y) ++ all_found ms (listed C more)) now
  leaves_front rest more y h e = subst (λ z. FoundFirst os (λ ms. all_found ms (listed C z)) now) e h

  pub leaf_front : (rest more : List Leaf) (y : Leaf) → FoundFirst os (λ ms. all_found ms (listed C rest)) now → rest ≡ y ∷ more → FoundFirst os (λ ms. leaf_found ms (leaf_of C y)) now
  leaf_front rest more y h e = first_front os (λ ms. leaf_found ms (leaf_of C y)) (λ ms. all_found ms (listed C more)) now (leaves_front rest more y h e)

  pub leaf_passed : (rest more : List Leaf) (y : Leaf) (new : List (Option Found)) → FoundFirst os (λ ms. all_found ms (listed C rest)) now → rest ≡ y ∷ more → FoundTaken os (λ ms. leaf_found ms (leaf_of C y)) now new
      → FoundFirst os (λ ms. all_found ms (listed C more)) new
  leaf_passed rest more y new h e = rest_front os (λ ms. leaf_found ms (leaf_of C y)) (λ ms. all_found ms (listed C more)) now new (leaves_front rest more y h e)

  nodes_front : (rest more : List Node) (y : Node) → FoundFirst os (λ ms. nodes_found ms (nodes_listed C rest)) now → rest ≡ y ∷ more → FoundFirst os (λ ms. all_found ms (listed C y.leaves.now) ++ nodes_found ms (nodes_listed C more)) now
  nodes_front rest more y h e = subst (λ z. FoundFirst os (λ ms. nodes_found ms (nodes_listed C z)) now) e h

  pub node_front : (rest more : List Node) (y : Node) → FoundFirst os (λ ms. nodes_found ms (nodes_listed C rest)) now → rest ≡ y ∷ more → FoundFirst os (λ ms. all_found ms (listed C y.leaves.now)) now
  node_front rest more y h e = first_front os (λ ms. all_found ms (listed C y.leaves.now)) (λ ms. nodes_found ms (nodes_listed C more)) now (nodes_front rest more y h e)

  pub node_passed : (rest more : List Node) (y : Node) (new : List (Option Found)) → FoundFirst os (λ ms. nodes_found ms (nodes_listed C rest)) now → rest ≡ y ∷ more → FoundTaken os (λ ms. all_found ms (listed C y.leaves.now)) now new
      → FoundFirst os (λ ms. nodes_found ms (nodes_listed C more)) new
  node_passed rest more y new h e = rest_front os (λ ms. all_found ms (listed C y.leaves.now)) (λ ms. nodes_found ms (nodes_listed C more)) now new (nodes_front rest more y h e)

  -- ---- of the parts in a leaf

  pub present_front : (x : Leaf) (y : Bor Leaf) → x ≡ l.Present y → FoundFirst os (λ ms. leaf_found ms (leaf_of C x)) now → FoundFirst os (λ ms. leaf_found ms (leaf_of C y.now)) now
  present_front x y e h = subst (λ z. FoundFirst os (λ ms. leaf_found ms z) now) (ap (leaf_of C) e ∙ leaf_present C y) h

  pub in_node_front : (x : Leaf) (n : Bor Node) → x ≡ l.Node n → FoundFirst os (λ ms. leaf_found ms (leaf_of C x)) now → FoundFirst os (λ ms. all_found ms (listed C n.now.leaves.now)) now
  in_node_front x n e h = subst (λ z. FoundFirst os (λ ms. leaf_found ms z) now) (ap (leaf_of C) e ∙ leaf_node C n) h

  pub in_nodes_front : (x : Leaf) (ns : Bor (List Node)) → x ≡ l.Nodes ns → FoundFirst os (λ ms. leaf_found ms (leaf_of C x)) now → FoundFirst os (λ ms. nodes_found ms (nodes_listed C ns.now)) now
  in_nodes_front x ns e h = subst (λ z. FoundFirst os (λ ms. leaf_found ms z) now) (ap (leaf_of C) e ∙ leaf_nodes C ns) h
