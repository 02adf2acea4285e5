-- The chains of all spaces, one of which gets more parts.
use Rattle.std.proofs.Common.{◌≡◌, ℕ, zero, suc, ◌<◌, refl, sym, ap, ◌∙◌, Bool, true, false, cond, List, [], ◌∷◌, ◌++◌, length, map, get_or, set, arith, subst}
use Rattle.std.proofs.lemmas.Bool.{eqb-true, eqb-false}
use Rattle.std.proofs.lemmas.List.{get_or-set_same, get_or-set_other, map-set, length-map, length-set}
use Rattle.comp_model.specs.declared.Space.{Space}
use Rattle.comp_model.specs.declared.Space.TheVariants.{CoreFunc}
use Rattle.comp_model.specs.Spaces.{same_space, code_of_space}
use Rattle.comp_list.specs.declared.line.Spot.{Spot}
use Rattle.comp_list.specs.declared.spots.Parts.{Parts}
use Rattle.comp_list.specs.Spots.{part_spots, spots_in, chain_spots, spots_of, add_spots, AreChains, IsChain}
use Rattle.comp_list.proofs.Chains.{each_at, each_set}

app_nil : (xs : List Spot) → xs ≡ xs ++ []
app_nil [] = refl
app_nil (x ∷ xs) = ap (λ q. x ∷ q) (app_nil xs)

get_spots : (cs : List (List Parts)) (k : ℕ) → get_or (chain_spots cs) k [] ≡ spots_in (get_or cs k [])
get_spots [] k = refl
get_spots (c ∷ cs) zero = refl
get_spots (c ∷ cs) (suc k) = get_spots cs k

length_spots : (cs : List (List Parts)) → length (chain_spots cs) ≡ length cs
length_spots [] = refl
length_spots (c ∷ cs) = ap suc (length_spots cs)

pub code_small : (s : Space) → code_of_space s < 13
code_small CoreFunc = omega arith
code_small _ = omega arith

module _ (cs : List (List Parts)) (k : ℕ) (new : List Parts) (s space : Space) (d p n : ℕ) (there : k < length cs) (is : k ≡ code_of_space space)
    (more : spots_in new ≡ spots_in (get_or cs k []) ++ part_spots d p n) where
  by_test : (b : Bool) → same_space s space ≡ b → spots_of (chain_spots (set cs k new)) s ≡ spots_of (chain_spots cs) s ++ cond b (part_spots d p n) []
  by_test true e =
      let c : code_of_space s ≡ k = eqb-true (code_of_space s) (code_of_space space) e ∙ sym is in
      let room : k < length (chain_spots cs) = omega (arith, there, length_spots cs) in
      ap (λ q. get_or q (code_of_space s) []) (map-set spots_in cs k new)
      ∙ ap (λ q. get_or (set (chain_spots cs) k (spots_in new)) q []) c
      ∙ get_or-set_same (chain_spots cs) k (spots_in new) [] room
      ∙ more
      ∙ ap (λ q. q ++ part_spots d p n) (sym (get_spots cs k) ∙ ap (λ q. get_or (chain_spots cs) q []) (sym c))
  by_test false e =
      ap (λ q. get_or q (code_of_space s) []) (map-set spots_in cs k new)
      ∙ get_or-set_other (chain_spots cs) k (code_of_space s) (spots_in new) [] (λ c. eqb-false (code_of_space s) (code_of_space space) e (c ∙ is))
      ∙ app_nil (get_or (chain_spots cs) (code_of_space s) [])

  pub chain_set : spots_of (chain_spots (set cs k new)) s ≡ spots_of (chain_spots cs) s ++ add_spots s space d p n
  chain_set = by_test (same_space s space) refl

module _ {V : Type 0} (f : V → List Parts) (items : List V) (k : ℕ) where
  -- the chain of an index
  chain_there : (x : V) → k < length items → x ≡ get_or items k x → f x ≡ get_or (map f items) k []
  chain_there x h e = go items k h e
    where
      go : (ys : List V) (n : ℕ) → n < length ys → x ≡ get_or ys n x → f x ≡ get_or (map f ys) n []
      go [] n h e = absurd (omega (arith, h))
      go (y ∷ ys) zero h e = ap f e
      go (y ∷ ys) (suc n) h e = go ys n (omega (arith, h)) e

  module _ (all : AreChains (map f items)) (few : k < 13) where
    room : k < length items
    room = let z : length (map f items) ≡ length items = length-map items f in omega (arith, few, all.0, z)

    pub chain_found : (x : V) (xs : List Parts) → x ≡ get_or items k x → xs ≡ f x → IsChain 0 xs
    chain_found x xs e g = subst (IsChain 0) (sym (g ∙ chain_there x room e)) (each_at (map f items) k all.1 (omega (arith, few, all.0)))

    pub spots_found : (x : V) (xs : List Parts) (view : List (List Spot)) (s : Space) → x ≡ get_or items k x → xs ≡ f x → k ≡ code_of_space s → chain_spots (map f items) ≡ view → spots_in xs ≡ spots_of view s
    spots_found x xs view s e g is v =
        ap spots_in (g ∙ chain_there x room e) ∙ sym (get_spots (map f items) k) ∙ ap (λ q. get_or (chain_spots (map f items)) q []) is ∙ ap (λ q. spots_of q s) v

    pub chains_stay : (v : V) → IsChain 0 (f v) → AreChains (map f (set items k v))
    chains_stay v h = subst AreChains (sym (map-set f items k v)) (length-set (map f items) k (f v) ∙ all.0, each_set (map f items) k (f v) all.1 h)

    pub spots_more : (old new : V) (view : List (List Spot)) (s space : Space) (d p n : ℕ) → old ≡ get_or items k old → k ≡ code_of_space space → chain_spots (map f items) ≡ view
        → spots_in (f new) ≡ spots_in (f old) ++ part_spots d p n → spots_of (chain_spots (map f (set items k new))) s ≡ spots_of view s ++ add_spots s space d p n
    spots_more old new view s space d p n e is v more =
        ap (λ q. spots_of (chain_spots q) s) (map-set f items k new)
        ∙ chain_set (map f items) k (f new) s space d p n (omega (arith, few, all.0)) is (more ∙ ap (λ q. spots_in q ++ part_spots d p n) (chain_there old room e))
        ∙ ap (λ q. spots_of q s ++ add_spots s space d p n) v
