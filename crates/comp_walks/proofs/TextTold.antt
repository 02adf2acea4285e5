-- A reference whose root stands in the text.
use Rattle.std.proofs.Common.{◌≡◌, ℕ, Bool, true, List, [], ◌∷◌, refl, sym, ap, ◌∙◌}
use Rattle.comp_model.specs.declared.Space.{Space}
use Rattle.comp_model.specs.Core.{Text, is_of_text}
use Rattle.comp_model.specs.Model as m
use Rattle.comp_model.specs.Model.{Path}
use Rattle.wast_tokens.specs.declared.span.Span.{Span}
use Rattle.wast_parser.specs.declared.index.Id as spelled
use Rattle.wast_parser.specs.declared.index.Index.{Index}
use Rattle.wast_parser.specs.declared.index.Index.TheVariants.{Num, Id}
use Rattle.comp_walks.specs.Lent.{id_of, root_of, path_from, target_of}
use Rattle.comp_walks.specs.Shapes.{is_text_path, is_text_leaf}

path-text : (p : Path) (ts : List Text) → is_text_path (path_from p ts) ≡ is_text_path p
path-text p [] = refl
path-text p (t ∷ ts) = path-text (m.export_of p t) ts

number-text : (s : Space) (n : ℕ) (span : Span) (ts : List Text) → is_text_leaf (m.ref s (target_of (Num n span) ts)) ≡ true
number-text s n span [] = refl
number-text s n span (t ∷ ts) = path-text (root_of (Num n span)) (t ∷ ts)

name-text : (s : Space) (x : spelled.Id) (ts : List Text) → is_text_leaf (m.ref s (target_of (Id x) ts)) ≡ is_of_text (id_of x)
name-text s x [] = refl
name-text s x (t ∷ ts) = path-text (root_of (Id x)) (t ∷ ts)

pub number-passes : (s : Space) (i : Index) (n : ℕ) (span : Span) (ts : List Text) → i ≡ Num n span → true ≡ is_text_leaf (m.ref s (target_of i ts))
number-passes s i n span ts h = sym (ap (λ j. is_text_leaf (m.ref s (target_of j ts))) h ∙ number-text s n span ts)

pub name-passes : (b : Bool) (s : Space) (i : Index) (x : spelled.Id) (ts : List Text) → i ≡ Id x → b ≡ is_of_text (id_of x) → b ≡ is_text_leaf (m.ref s (target_of i ts))
name-passes b s i x ts h e = e ∙ sym (ap (λ j. is_text_leaf (m.ref s (target_of j ts))) h ∙ name-text s x ts)
