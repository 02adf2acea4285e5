-- A reference that becomes a number.
use Rattle.std.proofs.Common.{◌≡◌, ℕ, List, [], ◌∷◌, refl, sym, ap, ◌∙◌}
use Rattle.std.specs.Prelude.{slice_index}
use Rattle.comp_model.specs.declared.Space.{Space}
use Rattle.comp_model.specs.Core.{Text, Reach, outward}
use Rattle.comp_model.specs.Model as m
use Rattle.comp_model.specs.Model.{Path}
use Rattle.comp_walks.specs.Lent.{path_from, root_of, index_of, index_offset, target_of}
use Rattle.comp_walks.specs.Numbered.{numbered_leaf, root_offset}
use Rattle.wast_parser.specs.declared.index.Index.{Index}
use Rattle.wast_parser.specs.declared.index.Index.TheVariants.{Num, Id}

begins : (p : Path) (ts : List Text) → root_offset (path_from p ts) ≡ root_offset p
begins p [] = refl
begins p (t ∷ ts) = begins (m.export_of p t) ts

root : (i : Index) → root_offset (root_of i) ≡ index_offset i
root (Num n span) = refl
root (Id x) = refl

numbered_target : (table : List ℕ) (u : ℕ) (s : Space) (i : Index) (ts : List Text) → m.ref s (m.numeral (index_offset i) (slice_index table u)) ≡ numbered_leaf table u (m.ref s (target_of i ts))
numbered_target table u s (Num n span) [] = refl
numbered_target table u s (Id x) [] = refl
numbered_target table u s i (t ∷ ts) = ap (λ o. m.ref s (m.numeral o (slice_index table u))) (sym (begins (root_of i) (t ∷ ts) ∙ root i))

pub target_numbered : (table : List ℕ) (u : ℕ) (s : Space) (i j : Index) (ts us : List Text) → us ≡ [] → ((r : Reach) → index_of r j ≡ m.numeral (index_offset i) (slice_index table u)) → m.ref s (target_of j us) ≡ numbered_leaf table u (m.ref s (target_of i ts))
target_numbered table u s i j ts us e h = ap (λ q. m.ref s (target_of j q)) e ∙ ap (λ q. m.ref s q) (h outward) ∙ numbered_target table u s i ts
