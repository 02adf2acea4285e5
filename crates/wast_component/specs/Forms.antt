-- The refusal of a form that is read and never written.
use Rattle.std.specs.Prelude.{ℕ, cond, nat_eq}
use Rattle.comp_model.specs.Covered.{Uncovered}
use Rattle.wast_tokens.specs.declared.error.Error.{Error}
use Rattle.wast_tokens.specs.declared.error.ErrorKind.TheVariants.{Form}
use Rattle.wast_tokens.specs.declared.error.FormKind.{FormKind}
use Rattle.wast_tokens.specs.declared.error.FormKind.TheVariants.{U1, U2, U3, U4, U5, U6, U7}

-- the forms by their numbers in the model, which are 1 to 7
abbrev pub form_kind : ℕ → FormKind
form_kind n =
    cond (nat_eq n 1) U1
    (cond (nat_eq n 2) U2
    (cond (nat_eq n 3) U3
    (cond (nat_eq n 4) U4
    (cond (nat_eq n 5) U5
    (cond (nat_eq n 6) U6 U7)))))

abbrev pub form_refusal : Uncovered → Error
form_refusal u = record { kind = Form (form_kind u.row); offset = u.offset }
