-- What loose leaves are that are not of some kinds.
use Rattle.std.proofs.Common.{◌≡◌, ℕ, refl, Bor, Bool, false, List, [], ◌∷◌, Option, None}
use Rattle.comp_model.specs.declared.Space.{Space}
use Rattle.comp_model.specs.CoreModules.{CoreModule, Field}
use Rattle.comp_model.specs.Core as core
use Rattle.comp_tree.specs.Model.{leaf_of}
use Rattle.comp_tree.specs.declared.tree.Leaf.{Leaf}
use Rattle.comp_tree.specs.declared.tree.Leaf as l
use Rattle.comp_tree.specs.declared.tree.PathUse.{PathUse}
use Rattle.comp_tree.specs.declared.tree.Reach.{Reach}
use Rattle.comp_tree.specs.declared.tree.Scope.{Scope}
use Rattle.wast_parser.specs.declared.index.Id.{Id}
use Rattle.wast_tokens.specs.declared.span.Span.{Span}
use Rattle.text_rules.specs.Made.{heap_of, joined_text, owned}
use Rattle.tree_build.specs.Held.{core_number, loose}
use Rattle.tree_build.specs.References.{is_number, kind_in}
use Rattle.tree_build.proofs.Numbering.{no_number}

pub no_core : (x : Leaf) → ((n : ℕ) → x ≡ l.Core n → ⊥) → None ≡ core_number x
no_core (l.Text t) e = refl
no_core (l.Pieces ts) e = refl
no_core (l.Number n) e = refl
no_core (l.Kind u) e = refl
no_core (l.CoreValue v) e = refl
no_core (l.Numeral u n s) e = refl
no_core (l.Name u r i) e = refl
no_core (l.Path u p) e = refl
no_core (l.Place p) e = refl
no_core l.Absent e = refl
no_core (l.Present' p x) e = refl
no_core (l.Node' p r v q h xs) e = refl
no_core (l.Nodes' p h xs) e = refl
no_core (l.Inline' u p r v q h xs) e = refl
no_core (l.Bundle' u p r v q h xs) e = refl
no_core (l.CaseId x) e = refl
no_core (l.Results xs) e = refl
no_core (l.Core n) e = absurd (e n refl)
no_core (l.Scope' p x) e = refl

pub not_number : (k : ℕ) (cs : List CoreModule) (x : Leaf) → ((n : ℕ) → x ≡ l.Number n → ⊥) → false ≡ is_number k (leaf_of cs x)
not_number k cs (l.Text t) e = refl
not_number k cs (l.Pieces ts) e = refl
not_number k cs (l.Number n) e = absurd (e n refl)
not_number k cs (l.Kind u) e = refl
not_number k cs (l.CoreValue v) e = refl
not_number k cs (l.Numeral u n s) e = refl
not_number k cs (l.Name u r i) e = refl
not_number k cs (l.Path u p) e = refl
not_number k cs (l.Place p) e = refl
not_number k cs l.Absent e = refl
not_number k cs (l.Present' p x) e = refl
not_number k cs (l.Node' p r v q h xs) e = refl
not_number k cs (l.Nodes' p h xs) e = refl
not_number k cs (l.Inline' u p r v q h xs) e = refl
not_number k cs (l.Bundle' u p r v q h xs) e = refl
not_number k cs (l.CaseId x) e = refl
not_number k cs (l.Results xs) e = refl
not_number k cs (l.Core n) e = no_number k cs n
not_number k cs (l.Scope' p x) e = refl

module _ (fs : List (List Field)) (cs : List CoreModule) where
  pub no_kind : (x : Leaf) → ((u : Space) → x ≡ l.Kind u → ⊥) → None ≡ kind_in (loose fs cs x)
  no_kind (l.Text t) e = refl
  no_kind (l.Pieces ts) e = refl
  no_kind (l.Number n) e = refl
  no_kind (l.Kind u) e = absurd (e u refl)
  no_kind (l.CoreValue v) e = refl
  no_kind (l.Numeral u n s) e = refl
  no_kind (l.Name u r i) e = refl
  no_kind (l.Path u p) e = refl
  no_kind (l.Place p) e = refl
  no_kind l.Absent e = refl
  no_kind (l.Present' p x) e = refl
  no_kind (l.Node' p r v q h xs) e = refl
  no_kind (l.Nodes' p h xs) e = refl
  no_kind (l.Inline' u p r v q h xs) e = refl
  no_kind (l.Bundle' u p r v q h xs) e = refl
  no_kind (l.CaseId x) e = refl
  no_kind (l.Results xs) e = refl
  no_kind (l.Core n) e = refl
  no_kind (l.Scope' p x) e = refl

  pub no_text : (x : Leaf) → ((t : Bor core.Text) → x ≡ l.Text t → ⊥) → ((ts : Bor (List (Bor core.Text))) → x ≡ l.Pieces ts → ⊥) → [] ≡ joined_text (loose fs cs x ∷ [])
  no_text (l.Text t) e f = absurd (e t refl)
  no_text (l.Pieces ts) e f = absurd (f ts refl)
  no_text (l.Number n) e f = refl
  no_text (l.Kind u) e f = refl
  no_text (l.CoreValue v) e f = refl
  no_text (l.Numeral u n s) e f = refl
  no_text (l.Name u r i) e f = refl
  no_text (l.Path u p) e f = refl
  no_text (l.Place p) e f = refl
  no_text l.Absent e f = refl
  no_text (l.Present' p x) e f = refl
  no_text (l.Node' p r v q h xs) e f = refl
  no_text (l.Nodes' p h xs) e f = refl
  no_text (l.Inline' u p r v q h xs) e f = refl
  no_text (l.Bundle' u p r v q h xs) e f = refl
  no_text (l.CaseId x) e f = refl
  no_text (l.Results xs) e f = refl
  no_text (l.Core n) e f = refl
  no_text (l.Scope' p x) e f = refl

  pub no_heap : (b : Bool) (x : Leaf) → ((u : Space) (n : ℕ) (s : Span) → x ≡ l.Numeral u n s → ⊥) → ((u : Space) (r : Bor Reach) (i : Bor Id) → x ≡ l.Name u r i → ⊥) → ((u : Space) (p : Bor PathUse) → x ≡ l.Path u p → ⊥) → loose fs cs x ∷ [] ≡ heap_of b (loose fs cs x ∷ [])
  no_heap b (l.Text t) d e f = refl
  no_heap b (l.Pieces ts) d e f = refl
  no_heap b (l.Number n) d e f = refl
  no_heap b (l.Kind u) d e f = refl
  no_heap b (l.CoreValue v) d e f = refl
  no_heap b (l.Numeral u n s) d e f = absurd (d u n s refl)
  no_heap b (l.Name u r i) d e f = absurd (e u r i refl)
  no_heap b (l.Path u p) d e f = absurd (f u p refl)
  no_heap b (l.Place p) d e f = refl
  no_heap b l.Absent d e f = refl
  no_heap b (l.Present' p x) d e f = refl
  no_heap b (l.Node' p r v q h xs) d e f = refl
  no_heap b (l.Nodes' p h xs) d e f = refl
  no_heap b (l.Inline' u p r v q h xs) d e f = refl
  no_heap b (l.Bundle' u p r v q h xs) d e f = refl
  no_heap b (l.CaseId x) d e f = refl
  no_heap b (l.Results xs) d e f = refl
  no_heap b (l.Core n) d e f = refl
  no_heap b (l.Scope' p x) d e f = refl

  pub not_owned : (id : Option core.Id) (label : Option core.Text) (x : Leaf) → ((n : ℕ) → x ≡ l.Core n → ⊥) → ((p : _) (y : Scope) → x ≡ l.Scope' p y → ⊥) → leaf_of cs x ≡ owned id label (loose fs cs x)
  not_owned id label (l.Text t) e f = refl
  not_owned id label (l.Pieces ts) e f = refl
  not_owned id label (l.Number n) e f = refl
  not_owned id label (l.Kind u) e f = refl
  not_owned id label (l.CoreValue v) e f = refl
  not_owned id label (l.Numeral u n s) e f = refl
  not_owned id label (l.Name u r i) e f = refl
  not_owned id label (l.Path u p) e f = refl
  not_owned id label (l.Place p) e f = refl
  not_owned id label l.Absent e f = refl
  not_owned id label (l.Present' p x) e f = refl
  not_owned id label (l.Node' p r v q h xs) e f = refl
  not_owned id label (l.Nodes' p h xs) e f = refl
  not_owned id label (l.Inline' u p r v q h xs) e f = refl
  not_owned id label (l.Bundle' u p r v q h xs) e f = refl
  not_owned id label (l.CaseId x) e f = refl
  not_owned id label (l.Results xs) e f = refl
  not_owned id label (l.Core n) e f = absurd (e n refl)
  not_owned id label (l.Scope' p x) e f = absurd (f p x refl)
