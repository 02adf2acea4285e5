-- One binary renders two texts that differ in how a reference is written.
use Rattle.std.proofs.Common.{◌≡◌, ◌≢◌, ℕ, [], rules, ap, arith}
use Rattle.comp_model.specs.declared.Space.TheVariants.{Ty}
use Rattle.comp_model.specs.Model.{ref, numeral, Leaves, ◌▸◌, row, Defs, no_def, one_def, define, Scope, defs_of}
use Rattle.comp_model.specs.Origins.{Origins}
use Rattle.comp_scopes.specs.Encoding.{Encoding}
use Rattle.comp_scopes.specs.Rule.{ScopeRule}
use Rattle.comp_scopes.specs.Form.{form, plan}
use Rattle.comp_scopes.specs.Rowed.{Rowed}
use Rattle.comp_scopes.specs.Renders.{Renders}
use Rattle.comp_scopes.proofs.Agree.{form-renders}
use Rattle.comp_scopes.proofs.Shorthands.{def, bare, component, u8, list_of, named}
use Rattle.comp_scopes.proofs.Letters.{t}

-- (component (type $t u8) (type (list $t))), and the same with (list 0)
abbrev by_name : Scope
by_name = component (def t u8 (bare (list_of (named 0 Ty t)) no_def))

abbrev by_numeral : Scope
by_numeral = component (def t u8 (bare (list_of (ref Ty (numeral 0 0))) no_def))

-- a number that tells a numeral from the others
abbrev target_number : Leaves → ℕ
target_number (ref s (numeral o n) ▸ ls) = 1
target_number _ = 0

abbrev last_number : Defs → ℕ
last_number (one_def d (one_def (define names (row r ls)) ds)) = target_number ls
last_number _ = 0

apart : by_name ≢ by_numeral
apart h = let e : ◌≡◌ {A = ℕ} 0 1 = ap (λ s. last_number (defs_of s)) h in omega arith

name_rowed : Rowed by_name
name_rowed = search rules

numeral_rowed : Rowed by_numeral
numeral_rowed = search rules

module _ (e : Encoding) where
  name_rule : ScopeRule e [] by_name
  name_rule = search rules

  numeral_rule : ScopeRule e [] by_numeral
  numeral_rule = search rules

  pub both-rendered : (s : Scope) × (r : Scope) × (b : Scope) × (o : Origins) × (s ≢ r) × Renders e [] [] s b o × Renders e [] [] r b o
  both-rendered = (by_name, by_numeral, form e [] by_name, plan e [] by_name, apart, form-renders e [] by_name (name_rowed, tt) name_rule, form-renders e [] by_numeral (numeral_rowed, tt) numeral_rule)
