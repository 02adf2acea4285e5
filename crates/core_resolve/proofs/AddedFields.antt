-- The added types behind the written ones.
use Rattle.std.proofs.Common.{◌≡◌, ℕ, List, [], ◌∷◌, ◌++◌, length, map, drop, Option, Some, refl, ◌∙◌, ap}
use Rattle.comp_model.specs.CoreModules.{Field}
use Rattle.core_model.specs.Types.{Signature, written_types, added_types, all_types}
use Rattle.core_model.specs.Resolved.{type_added}
use Rattle.core_resolve.specs.AddedFields.{type_fields}

some-fields : (ss : List Signature) → type_fields (map Some ss) ≡ map type_added ss
some-fields [] = refl
some-fields (s ∷ ss) = ap (λ fs. type_added s ∷ fs) (some-fields ss)

added-fields : (ts : List (Option Signature)) (ss : List Signature) → type_fields (drop (length ts) (ts ++ map Some ss)) ≡ map type_added ss
added-fields [] ss = some-fields ss
added-fields (t ∷ ts) ss = added-fields ts ss

-- as fields, those behind the written ones
pub added-behind : (fs : List Field) (us : List (Option Signature)) (n : ℕ) → us ≡ all_types fs → n ≡ length (written_types fs) → type_fields (drop n us) ≡ map type_added (added_types fs)
added-behind fs us n whole front =
    ap (λ m. type_fields (drop m us)) front ∙ ap (λ ts. type_fields (drop (length (written_types fs)) ts)) whole ∙ added-fields (written_types fs) (added_types fs)
