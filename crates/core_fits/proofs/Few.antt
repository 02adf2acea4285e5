-- Fields of which few hold little: at most 2 ^ 30 fields, and as many parameters, results and locals in each.
use Rattle.std.proofs.Common.{ℕ, ◌≤◌, ◌^◌, List, [], ◌∷◌, length, Option, Some, None, arith}
use Rattle.std.specs.Prelude.{⊤}
use Rattle.comp_model.specs.CoreModules as c
use Rattle.comp_model.specs.CoreModules.{FunctionType, TypeDef, Field}
use Rattle.core_model.proofs.Lists.{Each, each-append}
use Rattle.core_write.specs.NamesWritten.{params_in, params_of_field, param_counts}

abbrev pub Small : ℕ → Type 0
Small n = n ≤ 2 ^ 30

abbrev pub SmallDef : TypeDef → Type 0
SmallDef (c.function t) = Small (length t.params) × Small (length t.results)
SmallDef (c.other_type o) = ⊤

abbrev pub SmallSignature : Option FunctionType → Type 0
SmallSignature None = ⊤
SmallSignature (Some t) = Small (length t.params)

abbrev pub Few : Field → Type 0
Few (c.type_field o n d) = SmallDef d
Few (c.func_field o n i u ls is) = SmallSignature u.signature × Small (length ls)
Few _ = ⊤

counts-of-def : (d : TypeDef) → SmallDef d → Each Small (params_in d ∷ [])
counts-of-def (c.function t) p = (p.0, tt)
counts-of-def (c.other_type o) p = (omega arith, tt)

counts-of-field : (f : Field) → Few f → Each Small (params_of_field f)
counts-of-field (c.type_field o n d) p = counts-of-def d p
counts-of-field _ p = tt

-- how many parameters the types have
pub counts-small : (fs : List Field) → Each Few fs → Each Small (param_counts fs)
counts-small [] p = tt
counts-small (f ∷ fs) p = each-append Small (params_of_field f) (param_counts fs) (counts-of-field f p.0) (counts-small fs p.1)
