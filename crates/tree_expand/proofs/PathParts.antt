-- The parts of a path's key, from its last export name to its root.
use Rattle.std.proofs.Common.{◌≡◌, ℕ, zero, suc, ◌+◌, ◌<◌, ◌≤◌, List, [], ◌∷◌, ◌++◌, Bor, length, take, get_or, refl, sym, ◌∙◌, ap, arith, append_assoc}
use Rattle.comp_model.specs.Core.{Text}
use Rattle.comp_model.specs.Model as m
use Rattle.comp_tree.specs.Model.{path_from, path_of, root_of}
use Rattle.wast_parser.specs.declared.index.Index.{Index}
use Rattle.type_keys.specs.Keys.{Part, part_export, path_key, target_key}

path-snoc : (p : m.Path) (ts : List (Bor Text)) (t : Bor Text) → path_from p (ts ++ t ∷ []) ≡ m.export_of (path_from p ts) t.now
path-snoc p [] t = refl
path-snoc p (x ∷ ts) t = path-snoc (m.export_of p x.now) ts t

take-more : (ts : List (Bor Text)) (i : ℕ) (d : Bor Text) → i < length ts → take (i + 1) ts ≡ take i ts ++ get_or ts i d ∷ []
take-more [] i d h = absurd (omega (arith, h))
take-more (t ∷ ts) zero d h = refl
take-more (t ∷ ts) (suc i) d h = let z : suc i + 1 ≡ suc (i + 1) = omega arith in ap (λ n. take n (t ∷ ts)) z ∙ ap (λ q. t ∷ q) (take-more ts i d (omega (arith, h)))

-- with the export name in front, the path is shorter by it
pub path_less : (p : m.Path) (ts : List (Bor Text)) (i : ℕ) (d : Bor Text) (ps qs : List Part) → i < length ts → qs ++ path_key (path_from p (take (i + 1) ts)) [] ≡ ps → (qs ++ part_export (get_or ts i d).now ∷ []) ++ path_key (path_from p (take i ts)) [] ≡ ps
path_less p ts i d ps qs h e =
    append_assoc qs (part_export (get_or ts i d).now ∷ []) (path_key (path_from p (take i ts)) [])
    ∙ ap (λ q. qs ++ path_key q []) (sym (path-snoc p (take i ts) (get_or ts i d)) ∙ ap (path_from p) (sym (take-more ts i d h)))
    ∙ e

pub path_whole : (p : m.Path) (ts : List (Bor Text)) → path_from p (take (length ts) ts) ≡ path_from p ts
path_whole p ts = ap (path_from p) (whole ts)
  where
    whole : (ts : List (Bor Text)) → take (length ts) ts ≡ ts
    whole [] = refl
    whole (t ∷ ts) = ap (λ q. t ∷ q) (whole ts)

pub path_target : (i : Index) (ts : List (Bor Text)) → (length ts ≡ 0 → ⊥) → target_key [] (path_of i ts) [] ≡ path_key (path_from (root_of i) ts) []
path_target i [] h = absurd (h refl)
path_target i (t ∷ ts) h = refl

pub take_none : (ts : List (Bor Text)) (i : ℕ) → i ≤ 0 → take i ts ≡ []
take_none [] zero h = refl
take_none [] (suc i) h = refl
take_none (t ∷ ts) zero h = refl
take_none (t ∷ ts) (suc i) h = absurd (omega (arith, h))
