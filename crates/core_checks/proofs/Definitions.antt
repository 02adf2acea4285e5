-- The types of the type definitions are the written types.
use Rattle.std.proofs.Common.{◌≡◌, ℕ, Option, Some, None, option_map, false, List, [], ◌∷◌, ◌++◌, map, slice_get, refl, sym, ◌∙◌, ap}
use Rattle.std.proofs.lemmas.Option.{slice_get-map}
use Rattle.comp_model.specs.declared.Space.TheVariants.{CoreType}
use Rattle.comp_model.specs.Core.{Id}
use Rattle.comp_model.specs.CoreModules as c
use Rattle.comp_model.specs.CoreModules.{TypeDef, Field}
use Rattle.core_model.specs.Items.{items_in, ids_in}
use Rattle.core_model.specs.Types.{Signature, defined, is_type, written_type, written_types}
use Rattle.core_model.specs.Rule.{is_found, is_written}
use Rattle.core_model.proofs.Lists.{map-append}
use Rattle.core_checks.specs.Parts.{def_in, type_defs}

module _ (ids : List (Option Id)) where
  one : (f : Field) (fs : List Field) → map (written_type ids) (items_in CoreType (f ∷ fs)) ≡ map (defined ids) (def_in f) ++ map (written_type ids) (items_in CoreType fs)
  one (c.type_field o n d) fs = refl
  one (c.import_field o m x n (c.func u)) fs = refl
  one (c.import_field o m x n (c.table l v)) fs = refl
  one (c.import_field o m x n (c.memory l)) fs = refl
  one (c.import_field o m x n (c.global v k)) fs = refl
  one (c.import_field o m x n (c.other_entity p)) fs = refl
  one (c.func_field o n i u ls is) fs = refl
  one (c.table_field o n i l v) fs = refl
  one (c.memory_field o n i l) fs = refl
  one (c.global_field o n i v m is) fs = refl
  one (c.export_field o x s i) fs = refl
  one (c.other_field o) fs = refl

  written : (fs : List Field) → map (defined ids) (type_defs fs) ≡ map (written_type ids) (items_in CoreType fs)
  written [] = refl
  written (f ∷ fs) = map-append (defined ids) (def_in f) (type_defs fs) ∙ ap (λ r. map (defined ids) (def_in f) ++ r) (written fs) ∙ sym (one f fs)

-- whether the definition at a place is a type
pub written-at : (fs : List Field) (i : ℕ) (s : Signature) → is_found (option_map (defined (ids_in CoreType fs)) (slice_get (type_defs fs) i)) s ≡ is_written (written_types fs) (Some i) s
written-at fs i s =
    ap (λ t. is_found t s) (sym (slice_get-map (defined (ids_in CoreType fs)) (type_defs fs) i))
    ∙ ap (λ ts. is_found (slice_get ts i) s) (written (ids_in CoreType fs) fs)

-- at a place without a definition, and at one with
module _ (fs : List Field) (m : Option ℕ) (i : ℕ) (s : Signature) (at : Some i ≡ m) where
  pub absent : None ≡ slice_get (type_defs fs) i → false ≡ is_written (written_types fs) m s
  absent h = ap (λ t. is_found (option_map (defined (ids_in CoreType fs)) t) s) h ∙ written-at fs i s ∙ ap (λ k. is_written (written_types fs) k s) at

  pub present : (d : TypeDef) → Some d ≡ slice_get (type_defs fs) i → is_type s (defined (ids_in CoreType fs) d) ≡ is_written (written_types fs) m s
  present d h = ap (λ t. is_found (option_map (defined (ids_in CoreType fs)) t) s) h ∙ written-at fs i s ∙ ap (λ k. is_written (written_types fs) k s) at
