-- What the measures of a tree are as numbers and refusals of the program.
use Rattle.std.specs.Prelude.{ℕ, ◌-◌, ◌^◌, cond, nat_eq, min}
use Rattle.wast_tokens.specs.declared.error.Error.{Error}
use Rattle.wast_tokens.specs.declared.error.FormKind.{FormKind}
use Rattle.wast_tokens.specs.declared.error.FormKind.TheVariants.{U6, U7}
use Rattle.wast_tokens.specs.declared.error.ErrorKind.TheVariants.{Form}
use Rattle.comp_model.specs.Covered.{Uncovered}

-- a sum that stays at the largest number of 64 bits
abbrev pub capped : ℕ → ℕ
capped n = min n (2 ^ 64 - 1)

-- the rows of forms that core modules can hold
abbrev pub form_of : ℕ → FormKind
form_of row = cond (nat_eq row 6) U6 U7

-- the refusal of an uncovered form
abbrev pub form_refusal : Uncovered → Error
form_refusal u = record { kind = Form (form_of u.row); offset = u.offset }
