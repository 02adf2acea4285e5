use Rattle.std.proofs.Common.{drop}
use Rattle.tree_resolve.specs.Plain.{DefsPlain}
use Rattle.tree_resolve.proofs.plain.all_plain.Given as goal

abbrev pub invariant-loop-def : goal.invariant-loop-def
invariant-loop-def l = DefsPlain (drop l.def-index l.defs) → DefsPlain l.defs
