-- The first form of a core module, as a walk tells it.
use Rattle.std.proofs.Common.{◌≡◌, refl, sym, ap, ◌∙◌, ℕ, Bool, true, false, List, [], ◌∷◌, cond, Option, Some, None, option_map}
use Rattle.comp_model.specs.CoreModules.{Field}
use Rattle.comp_model.specs.Covered.{Uncovered, first_held}
use Rattle.comp_walks.specs.Sought.{form_number}
use Rattle.core_model.specs.Items.{offset_of}
use Rattle.core_model.specs.Uncovered.{holds_other_type, holds_other_field, uncovered_field, core_uncovered}
use Rattle.core_syntax.specs.Measures.{form_of, form_refusal}
use Rattle.wast_tokens.specs.declared.error.Error.{Error}
use Rattle.wast_tokens.specs.declared.error.ErrorKind.TheVariants.{Form}
use Rattle.wast_tokens.specs.declared.error.FormKind.{FormKind}

-- the form by its number and back
abbrev again : Option Uncovered → Option Uncovered
again o = option_map (λ (u : Uncovered). record { row = form_number (form_of u.row); offset = u.offset }) o

one : (b c : Bool) (n : ℕ) → again (cond b (Some (record { row = 6; offset = n })) (cond c (Some (record { row = 7; offset = n })) None)) ≡ cond b (Some (record { row = 6; offset = n })) (cond c (Some (record { row = 7; offset = n })) None)
one true c n = refl
one false true n = refl
one false false n = refl

first : (o p : Option Uncovered) → again o ≡ o → again p ≡ p → again (first_held o p) ≡ first_held o p
first None p a b = b
first (Some u) p a b = a

all : (fs : List Field) → again (core_uncovered fs) ≡ core_uncovered fs
all [] = refl
all (f ∷ fs) = first (uncovered_field f) (core_uncovered fs) (one (holds_other_type f) (holds_other_field f) (offset_of f)) (all fs)

by_refusal : (o : Option Uncovered) (e : Error) (f : FormKind) → again o ≡ o → Some e ≡ option_map form_refusal o → e.kind ≡ Form f → Some (record { row = form_number f; offset = e.offset }) ≡ o
by_refusal None e f a h k = absurd (cc)
by_refusal (Some u) e f a h k =
    let same : e ≡ form_refusal u = cc in
    let form : f ≡ form_of u.row = let kinds : Form f ≡ Form (form_of u.row) = sym k ∙ ap (λ (x : Error). x.kind) same in cc in
    ap (λ (x : FormKind). Some (record { row = form_number x; offset = e.offset })) form ∙ ap (λ (x : Error). Some (record { row = form_number (form_of u.row); offset = x.offset })) same ∙ a

-- the form in a refusal
pub form_seen : (fs : List Field) (e : Error) (f : FormKind) → Some e ≡ option_map form_refusal (core_uncovered fs) → e.kind ≡ Form f → Some (record { row = form_number f; offset = e.offset }) ≡ core_uncovered fs
form_seen fs e f h k = by_refusal (core_uncovered fs) e f (all fs) h k
