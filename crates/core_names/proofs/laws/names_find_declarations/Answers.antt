use Rattle.std.proofs.Common.{◌≡◌, suc, Bool, true, false, cond, ◌&&◌, List, [], ◌∷◌, map, filter, find, slice_get, Option, Some, None, option_map, refl, ◌∙◌, ap}
use Rattle.std.specs.Option.{option_and_then}
use Rattle.comp_model.specs.declared.Space.{Space}
use Rattle.comp_model.specs.Core.{Id}
use Rattle.comp_model.specs.Spaces.{Declaration, same_space, bears, declarations}
use Rattle.core_model.specs.Items.{place_of}
use Rattle.core_names.proofs.laws.names_find_declarations.Goals as goal

-- the first that bears an id, among declarations of all spaces and by its place among those of one
found : (s : Space) (x : Id) (ds : List Declaration)
    → find (λ d. same_space s d.space && bears x d.id) ds
    ≡ option_and_then (slice_get (filter (λ d. same_space s d.space) ds)) (place_of x (map (λ d. d.id) (filter (λ d. same_space s d.space) ds)))
found s x [] = refl
found s x (d ∷ ds) = ap (λ r. cond (same_space s d.space && bears x d.id) (Some d) r) (found s x ds) ∙ go (same_space s d.space)
  where
    others : List Declaration
    others = filter (λ d. same_space s d.space) ds

    behind : (o : Option _) → option_and_then (slice_get others) o ≡ option_and_then (slice_get (d ∷ others)) (option_map suc o)
    behind None = refl
    behind (Some i) = refl

    here : (b : Bool) → cond b (Some d) (option_and_then (slice_get others) (place_of x (map (λ d. d.id) others)))
        ≡ option_and_then (slice_get (d ∷ others)) (cond b (Some 0) (option_map suc (place_of x (map (λ d. d.id) others))))
    here true = refl
    here false = behind (place_of x (map (λ d. d.id) others))

    go : (t : Bool) → cond (t && bears x d.id) (Some d) (option_and_then (slice_get others) (place_of x (map (λ d. d.id) others)))
        ≡ option_and_then (slice_get (cond t (d ∷ others) others)) (place_of x (map (λ d. d.id) (cond t (d ∷ others) others)))
    go true = here (bears x d.id)
    go false = refl

pub returns : goal.returns
returns c = λ k s x. found s x (declarations k)
