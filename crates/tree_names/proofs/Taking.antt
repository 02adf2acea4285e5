-- What was found for names, part by part: put behind a list, and taken from the front of it.
use Rattle.std.proofs.Common.{◌≡◌, refl, sym, ap, ◌∙◌, List, [], ◌∷◌, ◌++◌, Option, Some, append_assoc}
use Rattle.comp_model.specs.Core.{Id, Reach}
use Rattle.comp_model.specs.declared.Space.{Space}
use Rattle.comp_tables.specs.Tables.{Opened}
use Rattle.open_scopes.specs.declared.lookup.Found.{Found}
use Rattle.open_scopes.specs.declared.scopes.Open.{Open}
use Rattle.open_scopes.specs.Indexed.{OpenIndexed, IsIndexed}
use Rattle.open_scopes.specs.Shown.{OpenScopesShow}
use Rattle.open_scopes.proofs.Denoting.{found-indexed}
use Rattle.open_scopes.proofs.Stacks.{some-shown}
use Rattle.tree_names.specs.AllFound.{name_found, FoundBehind, FoundFirst, FoundTaken}

pub same_rest : {A : Type 0} (xs ys zs : List A) → xs ++ ys ≡ xs ++ zs → ys ≡ zs
same_rest [] ys zs h = h
same_rest (x ∷ xs) ys zs h = let t : xs ++ ys ≡ xs ++ zs = cc in same_rest xs ys zs t

abbrev pub DenotationsIn : Type 0
DenotationsIn = List Opened → List (Option Found)

module _ (os : List Open) where
  -- ---- put behind

  pub none_behind : (xs : List (Option Found)) → FoundBehind os (λ ms. []) xs xs
  none_behind xs ms w behind = refl

  pub one_behind : (x : List Opened → Option Found) (y : Option Found) (old new : List (Option Found)) → new ≡ old ++ y ∷ [] → ((ms : List Opened) → OpenScopesShow os ms → y ≡ x ms) → FoundBehind os (λ ms. x ms ∷ []) old new
  one_behind x y old new h k ms w behind = ap (λ z. z ++ behind) h ∙ append_assoc old (y ∷ []) behind ∙ ap (λ z. old ++ z ∷ behind) (k ms w)

  pub both_behind : (f g : DenotationsIn) (a b c : List (Option Found)) → FoundBehind os f a b → FoundBehind os g b c → FoundBehind os (λ ms. f ms ++ g ms) a c
  both_behind f g a b c h k ms w behind = k ms w behind ∙ h ms w (g ms ++ behind) ∙ ap (λ z. a ++ z) (sym (append_assoc (f ms) (g ms) behind))

  -- ---- taken from the front

  pub first_front : (f g : DenotationsIn) (left : List (Option Found)) → FoundFirst os (λ ms. f ms ++ g ms) left → FoundFirst os f left
  first_front f g left h ms w = let k = h ms w in (g ms ++ k.0, k.1 ∙ append_assoc (f ms) (g ms) k.0)

  pub rest_front : (f g : DenotationsIn) (old new : List (Option Found)) → FoundFirst os (λ ms. f ms ++ g ms) old → FoundTaken os f old new → FoundFirst os g new
  rest_front f g old new h t ms w = let k = h ms w in (k.0, same_rest (f ms) new (g ms ++ k.0) (sym (t ms w) ∙ k.1 ∙ append_assoc (f ms) (g ms) k.0))

  pub both_taken : (f g : DenotationsIn) (a b c : List (Option Found)) → FoundTaken os f a b → FoundTaken os g b c → FoundTaken os (λ ms. f ms ++ g ms) a c
  both_taken f g a b c h k ms w = h ms w ∙ ap (λ z. f ms ++ z) (k ms w) ∙ sym (append_assoc (f ms) (g ms) c)

  -- ---- the next one

  module _ (x : List Opened → Option Found) (y : Option Found) (old new : List (Option Found)) (next : (first : Option Found) (more : List (Option Found)) → old ≡ first ∷ more → (y ≡ first) × (new ≡ more)) (front : FoundFirst os (λ ms. x ms ∷ []) old) where
    pub next_is : (ms : List Opened) → OpenScopesShow os ms → y ≡ x ms
    next_is ms w = let k = front ms w in (next (x ms) k.0 k.1).0

    pub next_taken : FoundTaken os (λ ms. x ms ∷ []) old new
    next_taken ms w = let k = front ms w in k.1 ∙ ap (λ z. x ms ∷ z) (sym (next (x ms) k.0 k.1).1)

  -- a name that denotes something denotes what is in a table
  pub name_indexed : (s : Space) (r : Reach) (x : Id) (f : Found) → OpenIndexed os → ((ms : List Opened) → OpenScopesShow os ms → Some f ≡ name_found ms s r x) → IsIndexed os f
  name_indexed s r x f i h = let shown = some-shown os in found-indexed os shown.0 s r x f shown.1 i (h shown.0 shown.1)
