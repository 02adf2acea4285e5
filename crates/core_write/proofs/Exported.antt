-- One turn of the loop over what fields export.
use Rattle.std.proofs.Common.{◌≡◌, ℕ, ◌+◌, ◌≤◌, List, ◌∷◌, ◌++◌, length, Option, Some, None, sym, ◌∙◌, ap, subst, arith}
use Rattle.comp_model.specs.declared.Space.{Space}
use Rattle.comp_model.specs.declared.Space.TheVariants.{CoreFunc, CoreTable, CoreMemory, CoreGlobal}
use Rattle.comp_model.specs.CoreModules.{Field}
use Rattle.comp_model.specs.Payloads.{joined}
use Rattle.core_model.specs.Items.{declares}
use Rattle.core_write.specs.declared.counts.Counts.{Counts}
use Rattle.core_write.specs.Exports.{counted_in, exports_at, exports_from, FitsExports}
use Rattle.core_write.proofs.Steps.{turn-appended, turn-counted}

-- no count passes a number
pub record Below (n : Counts) (k : ℕ) : Type 0 where
  pub funcs : n.funcs ≤ k
  pub tables : n.tables ≤ k
  pub memories : n.memories ≤ k
  pub globals : n.globals ≤ k

pub one-more : (s : Option Space) (n : Counts) (k : ℕ) → Below n k → Below (counted_in s n) (k + 1)
one-more None n k b = record { funcs = omega (arith, b.funcs); tables = omega (arith, b.tables); memories = omega (arith, b.memories); globals = omega (arith, b.globals) }
one-more (Some CoreFunc) n k b = record { funcs = omega (arith, b.funcs); tables = omega (arith, b.tables); memories = omega (arith, b.memories); globals = omega (arith, b.globals) }
one-more (Some CoreTable) n k b = record { funcs = omega (arith, b.funcs); tables = omega (arith, b.tables); memories = omega (arith, b.memories); globals = omega (arith, b.globals) }
one-more (Some CoreMemory) n k b = record { funcs = omega (arith, b.funcs); tables = omega (arith, b.tables); memories = omega (arith, b.memories); globals = omega (arith, b.globals) }
one-more (Some CoreGlobal) n k b = record { funcs = omega (arith, b.funcs); tables = omega (arith, b.tables); memories = omega (arith, b.memories); globals = omega (arith, b.globals) }
one-more (Some _) n k b = record { funcs = omega (arith, b.funcs); tables = omega (arith, b.tables); memories = omega (arith, b.memories); globals = omega (arith, b.globals) }

module _ (n m : Counts) (f : Field) (fs rest : List Field) (split : fs ≡ f ∷ rest) (counted : m ≡ counted_in (declares f) n) where
  step : exports_from n fs ≡ exports_at n f ++ exports_from m rest
  step = ap (exports_from n) split ∙ ap (λ k. exports_at n f ++ exports_from k rest) (sym counted)

  pub exports-appended : (out next whole : List ℕ) → next ≡ out ++ joined (exports_at n f) → out ++ joined (exports_from n fs) ≡ whole → next ++ joined (exports_from m rest) ≡ whole
  exports-appended out next whole = turn-appended (exports_at n f) (exports_from m rest) (exports_from n fs) out next whole step

  pub exports-counted : (count more whole : ℕ) → more ≡ length (exports_at n f) → count + length (exports_from n fs) ≡ whole → count + more + length (exports_from m rest) ≡ whole
  exports-counted count more whole = turn-counted (exports_at n f) (exports_from m rest) (exports_from n fs) count more whole step

  pub exports-fit : FitsExports n fs → FitsExports m rest
  exports-fit h = let g : FitsExports n (f ∷ rest) = subst (FitsExports n) split h in subst (λ k. FitsExports k rest) (sym counted) g.1
